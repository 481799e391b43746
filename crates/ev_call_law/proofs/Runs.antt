-- Runs keep the records of calls; what follows of traces and of contexts.
use Rattle.std.specs.Prelude.{◌≡◌, refl, ℕ, ◌≤◌, ◌<◌, ◌+◌, Bool, true, false, ◌&&◌, ◌||◌, ◌==◌, nat_le, nat_lt, List, [], ◌∷◌, ◌++◌, length, Some}
use Rattle.std.specs.List.{list_all}
use Rattle.std.proofs.Common.{arith, ap, sym, ◌∙◌, subst, append_assoc, append-nil, length-append}
use Rattle.std.proofs.lemmas.List.Sums.{count_by-le-length}
use Rattle.std.proofs.lemmas.Bool.{and_parts, eqb-true, false_from_ne_true, leb-true}
use Rattle.ev_body.specs.declared.image.Image.{Image}
use Rattle.ev_body.specs.WellFormed.{IsImage}
use Rattle.ev_abstract.specs.Context.{CallId, BodyContext}
use Rattle.ev_abstract.specs.Machine.{CallState, Free, Queued, Taken, Machine, processor, opening}
use Rattle.ev_abstract.specs.CrossCall.{record_of}
use Rattle.ev_abstract.specs.Accepted.{IsAccepted}
use Rattle.ev_abstract.specs.Claims.{CallsAreKept}
use Rattle.ev_abstract.specs.Rules.{in_function}
use Rattle.ev_abstract.specs.Script.{is_line, IsScript}
use Rattle.ev_abstract.specs.declared.entry.Entry.{Entry}
use Rattle.ev_abstract.specs.declared.entry.Entry.TheVariants.{Ran, Done}
use Rattle.ev_abstract.specs.declared.script_line.Line.{Line}
use Rattle.ev_abstract.specs.Run.{line_step, after, entries_from, run, trace}
use Rattle.ev_law.specs.Legal.{Legal, runs_calls}
use Rattle.ev_call_law.specs.Calls.{is_call_of, one_if, times, to_run, is_taken, has_run, RunsItsCall, RunTheirCalls, KeepsCallRecords}
use Rattle.ev_call_law.specs.Laws.{TracesAreShort, NumbersAreBounded, OpeningKeepsCalls, LinesKeepCalls, RunsKeepCalls, CallsRunOnTheirTargets, ContextsRunTheirCalls, HasACall, FinishesHaveCalls}
use Rattle.ev_law.proofs.Ruled.{body_ruled}
use Rattle.ev_call_law.proofs.Functions.{body_parted}
use Rattle.ev_law.proofs.Lines.{lines_keep_legal}
use Rattle.ev_law.proofs.Runs.{opening_is_legal}
use Rattle.ev_law.proofs.Follows.{contexts_follow}
use Rattle.ev_call_law.proofs.Counts.{is_one, times_append, times_same}
use Rattle.ev_call_law.proofs.Records.{Fits, AllFit, KeptStep}
use Rattle.ev_call_law.proofs.Lines.{line_kept}

-- ---- the invariant

none_queued : (n : ℕ) → (nat_le 1 n && nat_le n 0) ≡ false
none_queued n = false_from_ne_true _ (λ h. (let a = and_parts (nat_le 1 n) (nat_le n 0) h in
    let l : 1 ≤ n = leb-true 1 n a.0 in let u : n ≤ 0 = leb-true n 0 a.1 in omega (arith, l, u)))

pub opening_keeps_calls : OpeningKeepsCalls
unfolding opening
opening_keeps_calls image = record {
  placed = λ k. record { queue = λ q. refl; list = λ q. refl; fits = λ f. absurd (cc) };
  told = λ k. record {
    calls = λ n. sym (ap one_if (none_queued n));
    runs = λ n. sym (ap (λ t. one_if (t && (nat_lt n 0 || true))) (none_queued n));
    total = refl;
    last = λ l. absurd (omega (arith, l));
  };
  runs = λ q. tt;
}

step_kept : (image : Image) (m : Machine) (past : List Entry) (l : Line) → IsImage image → IsAccepted image → is_line image l ≡ true → Legal image m
    → KeepsCallRecords image m past → KeptStep image past (line_step image m l)
step_kept image m past l is accepted k legal keeps =
    let ruled = body_ruled image is accepted.1.kept in line_kept image ruled (body_parted image is ruled) m past keeps legal l k

pub lines_keep_calls : LinesKeepCalls
lines_keep_calls image m entries l is accepted k legal keeps = (step_kept image m entries l is accepted k legal keeps).kept

-- and adds one entry at most
pub lines_are_short : (image : Image) (m : Machine) (entries : List Entry) (l : Line) → IsImage image → IsAccepted image → is_line image l ≡ true
    → Legal image m → KeepsCallRecords image m entries → length (line_step image m l).1 ≤ 1
lines_are_short image m entries l is accepted k legal keeps = (step_kept image m entries l is accepted k legal keeps).short

record KeptRun (image : Image) (m : Machine) (past entries : List Entry) (lines : ℕ) : Type 0 where
  kept : KeepsCallRecords image m (past ++ entries)
  fit : AllFit past entries
  short : length entries ≤ lines

fit_then : (past xs ys : List Entry) → AllFit past xs → AllFit (past ++ xs) ys → AllFit past (xs ++ ys)
fit_then past [] ys h k = subst (λ p. AllFit p ys) (append-nil past) k
fit_then past (x ∷ xs) ys h k = (h.0, fit_then (past ++ x ∷ []) xs ys h.1 (subst (λ p. AllFit p ys) (sym (append_assoc past (x ∷ []) xs)) k))

after_kept : (image : Image) (ls : List Line) (m : Machine) (past : List Entry) → IsImage image → IsAccepted image → list_all (is_line image) ls ≡ true
    → Legal image m → KeepsCallRecords image m past → KeptRun image (after image m ls) past (entries_from image m ls) (length ls)
after_kept image [] m past is accepted s legal keeps =
    record { kept = subst (KeepsCallRecords image m) (sym (append-nil past)) keeps; fit = tt; short = omega arith }
after_kept image (l ∷ ls) m past is accepted s legal keeps =
    let k = and_parts (is_line image l) _ s in
    let next : Machine = (line_step image m l).0 in
    let es : List Entry = (line_step image m l).1 in
    let one = step_kept image m past l is accepted k.0 legal keeps in
    let rest = after_kept image ls next (past ++ es) is accepted k.1 (lines_keep_legal image m l is accepted k.0 legal) one.kept in
    record {
      kept = subst (KeepsCallRecords image (after image next ls)) (append_assoc past es (entries_from image next ls)) rest.kept;
      fit = fit_then past es (entries_from image next ls) one.fit rest.fit;
      short = (let t = length-append es (entries_from image next ls) in let a = one.short in let b = rest.short in omega (arith, t, a, b));
    }

run_kept : (image : Image) (script : List Line) → IsImage image → IsAccepted image → IsScript image script
    → KeptRun image (run image script) [] (trace image script) (length script)
run_kept image script is accepted s =
    after_kept image script (opening image) [] is accepted s (opening_is_legal image) (opening_keeps_calls image)

pub runs_keep_calls : RunsKeepCalls
runs_keep_calls image script is accepted s = (run_kept image script is accepted s).kept

-- ---- traces

at_most_one : (t : Bool) → one_if t ≤ 1
at_most_one true = omega arith
at_most_one false = omega arith

fit_at : (past before : List Entry) (e : Entry) (rest : List Entry) → AllFit past (before ++ e ∷ rest) → Fits (past ++ before) e
fit_at past [] e rest h = subst (λ p. Fits p e) (sym (append-nil past)) h.0
fit_at past (x ∷ before) e rest h = subst (λ p. Fits p e) (append_assoc past (x ∷ []) before) (fit_at (past ++ x ∷ []) before e rest h.1)

pub calls_are_kept : CallsAreKept
calls_are_kept image script is accepted s = let k = run_kept image script is accepted s in record {
  once = λ from site number. (let id : CallId = record { from = from; site = site } in
      let e = (k.kept.told id).runs number in
      let l = at_most_one (has_run (record_of (run image script) id) number) in omega (arith, e, l));
  queued = λ before rest p from site number q. (fit_at [] before (Ran p from site number) rest (subst (AllFit []) q k.fit)).0;
  reported = λ before rest p site number pos q. fit_at [] before (Done p site number) rest (subst (AllFit []) q k.fit) pos;
}

pub calls_run_on_their_targets : CallsRunOnTheirTargets
calls_run_on_their_targets image script is accepted s before rest p from site number q =
    (fit_at [] before (Ran p from site number) rest (subst (AllFit []) q (run_kept image script is accepted s).fit)).1

-- ---- numbers

pub traces_are_short : TracesAreShort
traces_are_short image script is accepted s = (run_kept image script is accepted s).short

pub numbers_are_bounded : NumbersAreBounded
numbers_are_bounded image script k is accepted s =
    let r = run_kept image script is accepted s in
    let total = (r.kept.told k).total in
    let some = count_by-le-length (is_call_of k) (trace image script) in
    let short = r.short in omega (arith, total, some, short)

-- ---- contexts

runs_at : (image : Image) (m : Machine) (c : BodyContext) (above below : List BodyContext) → RunTheirCalls image m (above ++ c ∷ below)
    → RunsItsCall image m c
runs_at image m c [] below h = h.0
runs_at image m c (x ∷ above) below h = runs_at image m c above below h.1

pub contexts_run_their_calls : ContextsRunTheirCalls
contexts_run_their_calls image script p c above below is accepted s e =
    runs_at image (run image script) c above below (subst (RunTheirCalls image (run image script)) e ((runs_keep_calls image script is accepted s).runs p))

listed_at : (c : BodyContext) (above below : List BodyContext) (k : CallId) (ks : List CallId) → c.calls ≡ k ∷ ks
    → 0 < times k (to_run (above ++ c ∷ below))
listed_at c [] below k ks e =
    let a : times k (to_run (c ∷ below)) ≡ times k (k ∷ ks) + times k (to_run below) = ap (λ ks. times k (ks ++ to_run below)) e
    ∙ times_append k (k ∷ ks) (to_run below) in let b = times_same k ks in omega (arith, a, b)
listed_at c (x ∷ above) below k ks e =
    let a = times_append k x.calls (to_run (above ++ c ∷ below)) in let l = listed_at c above below k ks e in omega (arith, a, l)

is_taken_state : (s : CallState) → is_taken s ≡ true → s ≡ Taken
is_taken_state Taken h = refl
is_taken_state Free h = absurd (cc)
is_taken_state Queued h = absurd (cc)

pub finishes_have_calls : FinishesHaveCalls
finishes_have_calls image script p c b above below is accepted s here body finish = found c.calls refl runs
  where
    m : Machine
    m = run image script

    runs : runs_calls c.calls ≡ true
    runs =
        let f = contexts_follow image script p c above below is accepted s here in
        let e : Some b ≡ Some f.body = sym body ∙ f.is_body in
        let same : f.body ≡ b = cc in
        f.runs ∙ ap (λ b. in_function b c.place) same ∙ (body_ruled image is accepted.1.kept c.body b body).finish c.place finish

    found : (ks : List CallId) → c.calls ≡ ks → runs_calls ks ≡ true → HasACall m p c
    found [] q h = absurd (cc)
    found (k ∷ ks) q h =
        let t : Bool = is_taken (record_of m k).state && ((record_of m k).to == p) in
        let l : times k (to_run (processor m p).bodies) ≡ one_if t = ((runs_keep_calls image script is accepted s).placed k).list p in
        let g = listed_at c above below k ks q in
        let e = ap (λ bs. times k (to_run bs)) here in
        let a = and_parts (is_taken (record_of m k).state) ((record_of m k).to == p) (is_one t (omega (arith, l, g, e))) in
        record { call = k; rest = ks; calls = q; taken = is_taken_state (record_of m k).state a.0; to = eqb-true (record_of m k).to p a.1 }
