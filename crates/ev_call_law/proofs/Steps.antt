-- The steps that move calls: a call is queued, the calls of a queue are taken, a call is finished.
use Rattle.std.specs.Prelude.{◌≡◌, refl, ℕ, suc, ◌+◌, ◌<◌, Bool, true, false, ◌&&◌, ◌||◌, nat_lt, nat_le, ◌==◌, if◌then◌else◌, List, [], ◌∷◌, ◌++◌, count_by}
use Rattle.std.specs.List.{list_any}
use Rattle.std.proofs.Common.{arith, ap, sym, ◌∙◌, subst}
use Rattle.std.proofs.lemmas.Bool.{and_parts, and_from, eqb-true, le-leb}
use Rattle.ev_isa.specs.Word.{NatMap, put_at}
use Rattle.ev_body.specs.declared.image.Image.{Image}
use Rattle.ev_abstract.specs.Context.{BodyContext, CallId}
use Rattle.ev_abstract.specs.Machine.{CallState, Free, Queued, Taken, Processor, Machine, CallRecord, processor}
use Rattle.ev_abstract.specs.CrossCall.{record_of, with_record, in_state, with_queue, queued, new_record, all_taken}
use Rattle.ev_abstract.specs.declared.entry.Entry.{Entry}
use Rattle.ev_abstract.specs.CallLaws.{is_call, is_ran}
use Rattle.ev_abstract.specs.ItemMeaning.{replace_last, with_context}
use Rattle.ev_call_law.specs.Calls.{HasEntry, is_call_of, is_id, one_if, times, to_run, is_queued, is_taken, is_free, was_queued, IsInRange, IsPlaced, IsTold, RunsItsCall, RunTheirCalls, KeepsCallRecords}
use Rattle.ev_call_law.proofs.Counts.{count_push, any_counted, counted_any, same_call, id_self, id_sym, times_same, times_other, times_append, equal_sym, is_one, queued_more, queued_runs, runs_more}
use Rattle.ev_call_law.proofs.Records.{AllFit, put_field, runs_under, placed_by, said_more, told_more, told_past, KeptStep}

-- ---- what the steps leave

with_record_at : (m : Machine) (k : CallId) (r : CallRecord) (j : CallId) → record_of (with_record m k r) j ≡ (if is_id j k then r else record_of m j)
with_record_at m k r j = pick (j.from == k.from) refl
  where
    site : (t : Bool) → j.from == k.from ≡ true
        → (elim t as (λ y. CallRecord) [ true ↦ r | false ↦ (processor m k.from).records j.site ]) ≡ (if t then r else record_of m j)
    site true q = refl
    site false q = ap (λ i. (processor m i).records j.site) (sym (eqb-true j.from k.from q))

    pick : (b : Bool) → j.from == k.from ≡ b
        → (elim b as (λ y. Processor) [
          | true ↦ record (processor m k.from) { records = put_at (processor m k.from).records k.site r }
          | false ↦ m.processors j.from
        ]).records j.site ≡ (if b && (j.site == k.site) then r else record_of m j)
    pick true q = site (j.site == k.site) q
    pick false q = refl

with_record_queue : (m : Machine) (k : CallId) (r : CallRecord) (q : ℕ) → (processor (with_record m k r) q).queue ≡ (processor m q).queue
with_record_queue m k r q =
    put_field (λ y. y.queue) m k.from (record (processor m k.from) { records = put_at (processor m k.from).records k.site r }) refl q

with_record_bodies : (m : Machine) (k : CallId) (r : CallRecord) (q : ℕ) → (processor (with_record m k r) q).bodies ≡ (processor m q).bodies
with_record_bodies m k r q =
    put_field (λ y. y.bodies) m k.from (record (processor m k.from) { records = put_at (processor m k.from).records k.site r }) refl q

with_queue_records : (m : Machine) (p : ℕ) (queue : List CallId) (k : CallId) → record_of (with_queue m p queue) k ≡ record_of m k
with_queue_records m p queue k =
    ap (λ (f : NatMap CallRecord). f k.site) (put_field (λ y. y.records) m p (record (processor m p) { queue = queue }) refl k.from)

with_queue_bodies : (m : Machine) (p : ℕ) (queue : List CallId) (q : ℕ) → (processor (with_queue m p queue) q).bodies ≡ (processor m q).bodies
with_queue_bodies m p queue q = put_field (λ y. y.bodies) m p (record (processor m p) { queue = queue }) refl q

with_queue_at : (m : Machine) (p : ℕ) (queue : List CallId) (q : ℕ)
    → (processor (with_queue m p queue) q).queue ≡ (if q == p then queue else (processor m q).queue)
with_queue_at m p queue q = pick (q == p)
  where
    pick : (b : Bool) → (elim b as (λ y. Processor) [ true ↦ record (processor m p) { queue = queue } | false ↦ m.processors q ]).queue
        ≡ (if b then queue else (processor m q).queue)
    pick true = refl
    pick false = refl

-- the record of each call of the list
taken_records : (ks : List CallId) (m : Machine) (j : CallId)
    → record_of (all_taken m ks) j ≡ (if list_any (is_id j) ks then in_state (record_of m j) Taken else record_of m j)
taken_records [] m j = refl
taken_records (k ∷ ks) m j = pick (is_id j k) refl (taken_records ks (with_record m k (in_state (record_of m k) Taken)) j)
  where
    next : Machine
    next = with_record m k (in_state (record_of m k) Taken)

    twice : (b : Bool) (r s : CallRecord) → r ≡ in_state s Taken → (if b then in_state r Taken else r) ≡ in_state s Taken
    twice true r s e = ap (λ r. in_state r Taken) e
    twice false r s e = e

    pick : (b : Bool) → is_id j k ≡ b
        → record_of (all_taken next ks) j ≡ (if list_any (is_id j) ks then in_state (record_of next j) Taken else record_of next j)
        → record_of (all_taken next ks) j ≡ (if b || list_any (is_id j) ks then in_state (record_of m j) Taken else record_of m j)
    pick true e h = h ∙ twice (list_any (is_id j) ks) (record_of next j) (record_of m j)
        (with_record_at m k (in_state (record_of m k) Taken) j ∙ ap (λ b. if b then in_state (record_of m k) Taken else record_of m j) e
        ∙ ap (λ i. in_state (record_of m i) Taken) (sym (same_call j k e)))
    pick false e h = h ∙ ap (λ r. if list_any (is_id j) ks then in_state r Taken else r)
        (with_record_at m k (in_state (record_of m k) Taken) j ∙ ap (λ b. if b then in_state (record_of m k) Taken else record_of m j) e)

-- they name the functions that they did
pub emptied_func : (m : Machine) (ks : List CallId) (p : ℕ) (j : CallId) → (record_of (with_queue (all_taken m ks) p []) j).func ≡ (record_of m j).func
emptied_func m ks p j =
    ap (λ (r : CallRecord). r.func) (with_queue_records (all_taken m ks) p [] j ∙ taken_records ks m j) ∙ func (list_any (is_id j) ks) (record_of m j)
  where
    func : (b : Bool) (r : CallRecord) → (if b then in_state r Taken else r).func ≡ r.func
    func true r = refl
    func false r = refl

pub freed_func : (m : Machine) (k j : CallId) → (record_of (with_record m k (in_state (record_of m k) Free)) j).func ≡ (record_of m j).func
freed_func m k j = ap (λ (r : CallRecord). r.func) (with_record_at m k (in_state (record_of m k) Free) j) ∙ pick (is_id j k) refl
  where
    pick : (b : Bool) → is_id j k ≡ b → (if b then in_state (record_of m k) Free else record_of m j).func ≡ (record_of m j).func
    pick true e = ap (λ i. (record_of m i).func) (sym (same_call j k e))
    pick false e = refl

taken_queue : (ks : List CallId) (m : Machine) (q : ℕ) → (processor (all_taken m ks) q).queue ≡ (processor m q).queue
taken_queue [] m q = refl
taken_queue (k ∷ ks) m q = let r : CallRecord = in_state (record_of m k) Taken in taken_queue ks (with_record m k r) q ∙ with_record_queue m k r q

taken_bodies : (ks : List CallId) (m : Machine) (q : ℕ) → (processor (all_taken m ks) q).bodies ≡ (processor m q).bodies
taken_bodies [] m q = refl
taken_bodies (k ∷ ks) m q = let r : CallRecord = in_state (record_of m k) Taken in taken_bodies ks (with_record m k r) q ∙ with_record_bodies m k r q

-- whether a call is in the list, by how often it is
in_list : (j : CallId) (ks : List CallId) (b : Bool) → times j ks ≡ one_if b → list_any (is_id j) ks ≡ b
in_list j ks true e = any_counted (is_id j) ks (omega (arith, e))
in_list j ks false e = pick (list_any (is_id j) ks) refl
  where
    pick : (t : Bool) → list_any (is_id j) ks ≡ t → t ≡ false
    pick true q = absurd (let l : 0 < times j ks = counted_any (is_id j) ks q in omega (arith, e, l))
    pick false q = refl

not_taken : (s : CallState) → is_queued s ≡ true → is_taken s ≡ false
not_taken Queued h = refl
not_taken Free h = absurd (cc)
not_taken Taken h = absurd (cc)

not_free : (s : CallState) → is_queued s ≡ true → is_free s ≡ false
not_free Queued h = refl
not_free Free h = absurd (cc)
not_free Taken h = absurd (cc)

-- ---- another last context

context_records : (n : Machine) (p : ℕ) (d : BodyContext) (k : CallId) → record_of (with_context n p d) k ≡ record_of n k
context_records n p d k = ap (λ (f : NatMap CallRecord). f k.site)
    (put_field (λ y. y.records) n p (record (processor n p) { bodies = replace_last d (processor n p).bodies }) refl k.from)

context_queue : (n : Machine) (p : ℕ) (d : BodyContext) (q : ℕ) → (processor (with_context n p d) q).queue ≡ (processor n q).queue
context_queue n p d q = put_field (λ y. y.queue) n p (record (processor n p) { bodies = replace_last d (processor n p).bodies }) refl q

module _ (m n : Machine) (p : ℕ) (c d : BodyContext) (below : List BodyContext) (same : (q : ℕ) → (processor n q).bodies ≡ (processor m q).bodies)
    (here : (processor m p).bodies ≡ c ∷ below) where
  context_lists : (q : ℕ) → to_run (processor (with_context n p d) q).bodies ≡ (if q == p then d.calls ++ to_run below else to_run (processor m q).bodies)
  context_lists q = pick (q == p)
    where
      pick : (b : Bool) → to_run (elim b as (λ y. Processor) [
        | true ↦ record (processor n p) { bodies = replace_last d (processor n p).bodies }
        | false ↦ n.processors q
      ]).bodies ≡ (if b then d.calls ++ to_run below else to_run (processor m q).bodies)
      pick true = ap (λ bs. to_run (replace_last d bs)) (same p ∙ here)
      pick false = ap to_run (same q)

  context_runs : (image : Image) → RunsItsCall image m d → ((q : ℕ) → RunTheirCalls image m (processor m q).bodies)
      → (q : ℕ) → RunTheirCalls image m (processor (with_context n p d) q).bodies
  context_runs image h k q = pick (q == p)
    where
      pick : (b : Bool) → RunTheirCalls image m (elim b as (λ y. Processor) [
        | true ↦ record (processor n p) { bodies = replace_last d (processor n p).bodies }
        | false ↦ n.processors q
      ]).bodies
      pick true =
          let l : RunTheirCalls image m (d ∷ below) = (h, (subst (RunTheirCalls image m) here (k p)).1) in
          subst (λ bs. RunTheirCalls image m (replace_last d bs)) (sym (same p ∙ here)) l
      pick false = subst (RunTheirCalls image m) (sym (same q)) (k q)

-- ---- tests of entries

call_test : (k j : CallId) (n x to func arg : ℕ) → is_call j.from j.site n (Entry.Call k.from k.site x to func arg) ≡ (is_id k j && (x == n))
unfolding is_call
call_test k j n x to func arg = refl

call_not_ran : (k j : CallId) (n x to func arg : ℕ) → is_ran j.from j.site n (Entry.Call k.from k.site x to func arg) ≡ false
unfolding is_ran
call_not_ran k j n x to func arg = refl

ran_test : (k j : CallId) (p n x : ℕ) → is_ran j.from j.site n (Entry.Ran p k.from k.site x) ≡ (is_id k j && (x == n))
unfolding is_ran
ran_test k j p n x = refl

ran_not_call : (k j : CallId) (p n x : ℕ) → is_call j.from j.site n (Entry.Ran p k.from k.site x) ≡ false
unfolding is_call
ran_not_call k j p n x = refl

-- one more entry, by what its test is
pushed : (test : Entry → Bool) (past : List Entry) (e : Entry) (t : Bool) → test e ≡ t → count_by test (past ++ e ∷ []) ≡ count_by test past + one_if t
pushed test past e t q = count_push test past e ∙ ap (λ t. count_by test past + one_if t) q

-- ---- `call`

module _ (image : Image) (m : Machine) (past : List Entry) (keeps : KeepsCallRecords image m past) (p : ℕ) (c d : BodyContext)
    (below : List BodyContext) (here : (processor m p).bodies ≡ c ∷ below) where
  module _ (k : CallId) (to func arg : ℕ) (free : (record_of m k).state ≡ Free) (calls : d.calls ≡ c.calls) (runs : RunsItsCall image m d)
      (range : IsInRange image k (new_record (record_of m k) to func arg)) where
    r : CallRecord
    r = new_record (record_of m k) to func arg

    made : Machine
    made = queued m k r

    call_after : Machine
    call_after = with_context made p d

    made_bodies : (q : ℕ) → (processor made q).bodies ≡ (processor m q).bodies
    unfolding made r
    made_bodies q = let n : Machine = with_record m k r in
        with_queue_bodies n r.to ((processor n r.to).queue ++ k ∷ []) q ∙ with_record_bodies m k r q

    call_record : (j : CallId) → record_of call_after j ≡ (if is_id j k then r else record_of m j)
    unfolding made r call_after
    call_record j = let n : Machine = with_record m k r in
        context_records made p d j ∙ with_queue_records n r.to ((processor n r.to).queue ++ k ∷ []) j ∙ with_record_at m k r j

    call_queue : (j : CallId) (q : ℕ) → times j (processor call_after q).queue ≡ times j (processor m q).queue + one_if (is_id j k && (q == to))
    unfolding made r call_after
    call_queue j q =
        let n : Machine = with_record m k r in
        ap (times j) (context_queue made p d q ∙ with_queue_at n r.to ((processor n r.to).queue ++ k ∷ []) q) ∙ pick (q == to) refl
      where
        pick : (b : Bool) → q == to ≡ b
            → times j (if b then (processor (with_record m k r) r.to).queue ++ k ∷ [] else (processor (with_record m k r) q).queue)
            ≡ times j (processor m q).queue + one_if (is_id j k && b)
        pick true e =
            let z : to ≡ q = sym (eqb-true q to e) in
            ap (λ ks. times j (ks ++ k ∷ [])) (with_record_queue m k r to ∙ ap (λ i. (processor m i).queue) z) ∙ count_push (is_id j) (processor m q).queue k
            ∙ ap (λ t. times j (processor m q).queue + one_if t) (with_true (is_id j k))
          where
            with_true : (t : Bool) → t ≡ (t && true)
            with_true true = refl
            with_true false = refl
        pick false e = ap (times j) (with_record_queue m k r q) ∙ (let z = without (is_id j k) in omega (arith, z))
          where
            without : (t : Bool) → one_if (t && false) ≡ 0
            without true = refl
            without false = refl

    call_list : (q : ℕ) → to_run (processor call_after q).bodies ≡ to_run (processor m q).bodies
    unfolding call_after
    call_list q = context_lists m made p c d below made_bodies here q ∙ pick (q == p) refl
      where
        pick : (b : Bool) → q == p ≡ b → (if b then d.calls ++ to_run below else to_run (processor m q).bodies) ≡ to_run (processor m q).bodies
        pick true e = ap (λ ks. ks ++ to_run below) calls ∙ sym (ap to_run here) ∙ ap (λ i. to_run (processor m i).bodies) (sym (eqb-true q p e))
        pick false e = refl

    not_queued : (q : ℕ) → times k (processor m q).queue ≡ 0
    not_queued q = (keeps.placed k).queue q ∙ ap (λ (s : CallState). one_if (is_queued s && ((record_of m k).to == q))) free

    not_listed : (q : ℕ) → times k (to_run (processor m q).bodies) ≡ 0
    not_listed q = (keeps.placed k).list q ∙ ap (λ (s : CallState). one_if (is_taken s && ((record_of m k).to == q))) free

    call_here : record_of call_after k ≡ r
    call_here = call_record k ∙ ap (λ t. if t then r else record_of m k) (id_self k)

    call_other : (j : CallId) → is_id j k ≡ false → record_of call_after j ≡ record_of m j
    call_other j e = call_record j ∙ ap (λ t. if t then r else record_of m j) e

    call_placed_here : IsPlaced image call_after k
    unfolding r
    call_placed_here = placed_by image call_after k r call_here
        (λ q. call_queue k q ∙ (let z = not_queued q in
        let i : one_if (is_id k k && (q == to)) ≡ one_if (to == q) = ap (λ t. one_if (t && (q == to))) (id_self k) ∙ ap one_if (equal_sym q to) in
        omega (arith, z, i)))
        (λ q. ap (times k) (call_list q) ∙ not_listed q) (λ f. range)

    call_placed_other : (j : CallId) → is_id j k ≡ false → IsPlaced image call_after j
    call_placed_other j e = placed_by image call_after j (record_of m j) (call_other j e)
        (λ q. call_queue j q ∙ ap (λ t. times j (processor m q).queue + one_if (t && (q == to))) e ∙ omega arith ∙ (keeps.placed j).queue q)
        (λ q. ap (times j) (call_list q) ∙ (keeps.placed j).list q) (keeps.placed j).fits

    entry : Entry
    entry = Entry.Call k.from k.site r.number to func r.arg

    call_told_here : IsTold k r (past ++ entry ∷ [])
    unfolding r entry
    call_told_here = let number : ℕ = (record_of m k).number in record {
      calls = λ n. pushed (is_call k.from k.site n) past (Entry.Call k.from k.site (suc number) to func arg) (is_id k k && (suc number == n))
          (call_test k k n (suc number) to func arg)
          ∙ ap (λ t. count_by (is_call k.from k.site n) past + one_if (t && (suc number == n))) (id_self k)
          ∙ ap (λ x. x + one_if (suc number == n)) ((keeps.told k).calls n) ∙ queued_more number n;
      runs = λ n. pushed (is_ran k.from k.site n) past (Entry.Call k.from k.site (suc number) to func arg) false (call_not_ran k k n (suc number) to func arg)
          ∙ omega arith ∙ (keeps.told k).runs n
          ∙ ap (λ (s : CallState). one_if ((nat_le 1 n && nat_le n number) && (nat_lt n number || is_free s))) free ∙ sym (queued_runs number n);
      total = pushed (is_call_of k) past (Entry.Call k.from k.site (suc number) to func arg) (is_id k k) refl
          ∙ ap (λ t. count_by (is_call_of k) past + one_if t) (id_self k) ∙ (let z = (keeps.told k).total in omega (arith, z));
      last = λ l. record { before = past; rest = []; stands = refl };
    }

    call_told_other : (j : CallId) → is_id j k ≡ false → IsTold j (record_of m j) (past ++ entry ∷ [])
    unfolding r entry
    call_told_other j e = let number : ℕ = suc (record_of m k).number in
        told_past j (record_of m j) past (Entry.Call k.from k.site number to func arg)
        (λ n. call_test k j n number to func arg ∙ ap (λ t. t && (number == n)) (id_sym k j ∙ e)) (λ n. call_not_ran k j n number to func arg)
        (id_sym k j ∙ e) (keeps.told j)

    pub call_kept : KeptStep image past (
      with_context (queued m k (new_record (record_of m k) to func arg)) p d,
      Entry.Call k.from k.site (suc (record_of m k).number) to func arg ∷ [],
    )
    unfolding r made call_after entry
    call_kept = record {
      kept = record { placed = λ j. placed j (is_id j k) refl; told = λ j. told j (is_id j k) refl; runs = runs_after };
      fit = (tt, tt);
      short = omega arith;
    }
      where
        placed : (j : CallId) (b : Bool) → is_id j k ≡ b → IsPlaced image call_after j
        placed j true e = subst (IsPlaced image call_after) (sym (same_call j k e)) call_placed_here
        placed j false e = call_placed_other j e

        told : (j : CallId) (b : Bool) → is_id j k ≡ b → IsTold j (record_of call_after j) (past ++ entry ∷ [])
        told j true e = subst (λ i. IsTold i (record_of call_after i) (past ++ entry ∷ [])) (sym (same_call j k e))
            (subst (λ r. IsTold k r (past ++ entry ∷ [])) (sym call_here) call_told_here)
        told j false e = subst (λ r. IsTold j r (past ++ entry ∷ [])) (sym (call_other j e)) (call_told_other j e)

        func_stays : (q : ℕ) (j : CallId) → 0 < times j (to_run (processor call_after q).bodies) → (b : Bool) → is_id j k ≡ b
            → (record_of call_after j).func ≡ (record_of m j).func
        func_stays q j l true e = absurd (let z = not_listed q in
            let g : times j (to_run (processor call_after q).bodies) ≡ times k (to_run (processor m q).bodies) =
            ap (λ i. times i (to_run (processor call_after q).bodies)) (same_call j k e) ∙ ap (times k) (call_list q) in omega (arith, z, g, l))
        func_stays q j l false e = ap (λ (r : CallRecord). r.func) (call_other j e)

        runs_after : (q : ℕ) → RunTheirCalls image call_after (processor call_after q).bodies
        runs_after q = runs_under image m call_after (processor call_after q).bodies (λ j l. func_stays q j l (is_id j k) refl)
            (context_runs m made p c d below made_bodies here image runs keeps.runs q)

  -- ---- `take`

  module _ (calls : d.calls ≡ (processor m p).queue) (nothing : c.calls ≡ []) (runs : RunsItsCall image m d) where
    took : Machine
    took = all_taken m (processor m p).queue

    emptied : Machine
    emptied = with_queue took p []

    take_after : Machine
    take_after = with_context emptied p d

    emptied_bodies : (q : ℕ) → (processor emptied q).bodies ≡ (processor m q).bodies
    unfolding took emptied
    emptied_bodies q = with_queue_bodies took p [] q ∙ taken_bodies (processor m p).queue m q

    waits : CallId → Bool
    waits j = is_queued (record_of m j).state && ((record_of m j).to == p)

    take_record : (j : CallId) → record_of take_after j ≡ (if waits j then in_state (record_of m j) Taken else record_of m j)
    unfolding took emptied take_after waits
    take_record j =
        context_records emptied p d j ∙ with_queue_records took p [] j ∙ taken_records (processor m p).queue m j
        ∙ ap (λ b. if b then in_state (record_of m j) Taken else record_of m j) (in_list j (processor m p).queue (waits j) ((keeps.placed j).queue p))

    take_queue : (j : CallId) (q : ℕ) → times j (processor take_after q).queue ≡ (if q == p then 0 else times j (processor m q).queue)
    unfolding took emptied take_after
    take_queue j q =
        ap (times j) (context_queue emptied p d q ∙ with_queue_at took p [] q) ∙ pick (q == p)
      where
        pick : (b : Bool) → times j (if b then [] else (processor took q).queue) ≡ (if b then 0 else times j (processor m q).queue)
        pick true = refl
        pick false = ap (times j) (taken_queue (processor m p).queue m q)

    take_list : (j : CallId) (q : ℕ) → times j (to_run (processor take_after q).bodies)
        ≡ (if q == p then times j (processor m p).queue + times j (to_run (processor m p).bodies) else times j (to_run (processor m q).bodies))
    unfolding take_after
    take_list j q = ap (times j) (context_lists m emptied p c d below emptied_bodies here q) ∙ pick (q == p)
      where
        pick : (b : Bool) → times j (if b then d.calls ++ to_run below else to_run (processor m q).bodies)
            ≡ (if b then times j (processor m p).queue + times j (to_run (processor m p).bodies) else times j (to_run (processor m q).bodies))
        pick true = times_append j d.calls (to_run below) ∙ ap (λ ks. times j ks + times j (to_run below)) calls
            ∙ ap (λ ks. times j (processor m p).queue + times j ks) (sym (ap to_run here ∙ ap (λ ks. ks ++ to_run below) nothing))
        pick false = refl

    take_placed : (j : CallId) → IsPlaced image take_after j
    unfolding waits
    take_placed j = pick (waits j) refl
      where
        r : CallRecord
        r = record_of m j

        moved : is_queued r.state ≡ true → r.to ≡ p → waits j ≡ true → IsPlaced image take_after j
        moved st to w = placed_by image take_after j (in_state r Taken) (take_record j ∙ ap (λ b. if b then in_state r Taken else r) w)
            (λ q. take_queue j q ∙ queue q (q == p) refl) (λ q. take_list j q ∙ list q (q == p) refl)
            (λ f. (let i = (keeps.placed j).fits (not_free r.state st) in
            record { from = i.from; site = i.site; to = i.to; func = i.func; number = i.number }))
          where
            elsewhere : (q : ℕ) → q == p ≡ false → (r.to == q) ≡ false
            elsewhere q e = ap (λ i. i == q) to ∙ equal_sym p q ∙ e

            queue : (q : ℕ) (b : Bool) → q == p ≡ b → (if b then 0 else times j (processor m q).queue) ≡ 0
            queue q true e = refl
            queue q false e = (keeps.placed j).queue q ∙ ap (λ t. one_if (t && (r.to == q))) st ∙ ap one_if (elsewhere q e)

            lists : (q : ℕ) → times j (to_run (processor m q).bodies) ≡ 0
            lists q = (keeps.placed j).list q ∙ ap (λ t. one_if (t && (r.to == q))) (not_taken r.state st)

            list : (q : ℕ) (b : Bool) → q == p ≡ b
                → (if b then times j (processor m p).queue + times j (to_run (processor m p).bodies) else times j (to_run (processor m q).bodies))
                ≡ one_if (r.to == q)
            list q true e =
                let one : times j (processor m p).queue ≡ 1 = (keeps.placed j).queue p ∙ ap one_if w in
                let none = lists p in
                let at : one_if (r.to == q) ≡ 1 = ap one_if (ap (λ i. i == q) to ∙ equal_sym p q ∙ e) in omega (arith, one, none, at)
            list q false e = lists q ∙ sym (ap one_if (elsewhere q e))

        stays : waits j ≡ false → IsPlaced image take_after j
        stays w = placed_by image take_after j r (take_record j ∙ ap (λ b. if b then in_state r Taken else r) w) (λ q. take_queue j q ∙ queue q (q == p) refl)
            (λ q. take_list j q ∙ list q (q == p) refl) (keeps.placed j).fits
          where
            queue : (q : ℕ) (b : Bool) → q == p ≡ b → (if b then 0 else times j (processor m q).queue) ≡ one_if (is_queued r.state && (r.to == q))
            queue q true e = sym (ap (λ i. one_if (is_queued r.state && (r.to == i))) (eqb-true q p e) ∙ ap one_if w)
            queue q false e = (keeps.placed j).queue q

            list : (q : ℕ) (b : Bool) → q == p ≡ b
                → (if b then times j (processor m p).queue + times j (to_run (processor m p).bodies) else times j (to_run (processor m q).bodies))
                ≡ one_if (is_taken r.state && (r.to == q))
            list q true e =
                let none : times j (processor m p).queue ≡ 0 = (keeps.placed j).queue p ∙ ap one_if w in
                let same = ap (λ i. times j (to_run (processor m i).bodies)) (eqb-true q p e) in
                let l = (keeps.placed j).list q in omega (arith, none, same, l)
            list q false e = (keeps.placed j).list q

        pick : (b : Bool) → waits j ≡ b → IsPlaced image take_after j
        pick true w = let a = and_parts (is_queued r.state) (r.to == p) w in moved a.0 (eqb-true r.to p a.1) w
        pick false w = stays w

    take_told : (j : CallId) → IsTold j (record_of take_after j) past
    unfolding waits
    take_told j = subst (λ r. IsTold j r past) (sym (take_record j)) (pick (waits j) refl)
      where
        r : CallRecord
        r = record_of m j

        pick : (b : Bool) → waits j ≡ b → IsTold j (if b then in_state r Taken else r) past
        pick true w = let a = and_parts (is_queued r.state) (r.to == p) w in record {
          calls = (keeps.told j).calls;
          runs = λ n. (keeps.told j).runs n ∙ ap (λ t. one_if (was_queued r n && (nat_lt n r.number || t))) (not_free r.state a.0);
          total = (keeps.told j).total;
          last = (keeps.told j).last;
        }
        pick false w = keeps.told j

    pub take_kept : KeptStep image past (with_context (with_queue (all_taken m (processor m p).queue) p []) p d, [])
    unfolding took emptied take_after
    take_kept = record {
      kept = record {
        placed = take_placed;
        told = λ j. told_more j (record_of take_after j) past [] (take_told j) tt;
        runs = λ q. runs_under image m take_after (processor take_after q).bodies (λ j l. ap (λ (r : CallRecord). r.func) (take_record j)
            ∙ func (waits j) (record_of m j)) (context_runs m emptied p c d below emptied_bodies here image runs keeps.runs q);
      };
      fit = tt;
      short = omega arith;
    }
      where
        func : (b : Bool) (r : CallRecord) → (if b then in_state r Taken else r).func ≡ r.func
        func true r = refl
        func false r = refl

  -- ---- `finish`

  module _ (k : CallId) (ks : List CallId) (first : c.calls ≡ k ∷ ks) (calls : d.calls ≡ ks) (runs : RunsItsCall image m d) where
    freed : Machine
    freed = with_record m k (in_state (record_of m k) Free)

    finish_after : Machine
    finish_after = with_context freed p d

    freed_bodies : (q : ℕ) → (processor freed q).bodies ≡ (processor m q).bodies
    unfolding freed
    freed_bodies q = with_record_bodies m k (in_state (record_of m k) Free) q

    finish_record : (j : CallId) → record_of finish_after j ≡ (if is_id j k then in_state (record_of m k) Free else record_of m j)
    unfolding freed finish_after
    finish_record j = context_records freed p d j ∙ with_record_at m k (in_state (record_of m k) Free) j

    finish_queue : (q : ℕ) → (processor finish_after q).queue ≡ (processor m q).queue
    unfolding freed finish_after
    finish_queue q = context_queue freed p d q ∙ with_record_queue m k (in_state (record_of m k) Free) q

    finish_list : (j : CallId) (q : ℕ) → times j (to_run (processor finish_after q).bodies)
        ≡ (if q == p then times j ks + times j (to_run below) else times j (to_run (processor m q).bodies))
    unfolding finish_after
    finish_list j q = ap (times j) (context_lists m freed p c d below freed_bodies here q) ∙ pick (q == p)
      where
        pick : (b : Bool) → times j (if b then d.calls ++ to_run below else to_run (processor m q).bodies)
            ≡ (if b then times j ks + times j (to_run below) else times j (to_run (processor m q).bodies))
        pick true = times_append j d.calls (to_run below) ∙ ap (λ ks. times j ks + times j (to_run below)) calls
        pick false = refl

    -- the calls on p before
    before : (j : CallId) → times j (to_run (processor m p).bodies) ≡ times j (k ∷ ks) + times j (to_run below)
    before j = ap (λ bs. times j (to_run bs)) here ∙ ap (λ ks. times j (ks ++ to_run below)) first ∙ times_append j (k ∷ ks) (to_run below)

    -- the call was taken by p, and stands once
    was_taken : (is_taken (record_of m k).state ≡ true) × ((record_of m k).to ≡ p) × (times k ks + times k (to_run below) ≡ 0)
    was_taken =
        let b : Bool = is_taken (record_of m k).state && ((record_of m k).to == p) in
        let l : times k (to_run (processor m p).bodies) ≡ one_if b = (keeps.placed k).list p in
        let e = before k in
        let s = times_same k ks in
        let t : b ≡ true = is_one b (omega (arith, l, e, s)) in
        let o : one_if b ≡ 1 = ap one_if t in
        let a = and_parts (is_taken (record_of m k).state) ((record_of m k).to == p) t in
        (a.0, eqb-true (record_of m k).to p a.1, omega (arith, l, e, s, o))

    taken_not_queued : (s : CallState) → is_taken s ≡ true → is_queued s ≡ false
    taken_not_queued Taken h = refl
    taken_not_queued Free h = absurd (cc)
    taken_not_queued Queued h = absurd (cc)

    taken_not_free : (s : CallState) → is_taken s ≡ true → is_free s ≡ false
    taken_not_free Taken h = refl
    taken_not_free Free h = absurd (cc)
    taken_not_free Queued h = absurd (cc)

    finish_here : record_of finish_after k ≡ in_state (record_of m k) Free
    finish_here = finish_record k ∙ ap (λ b. if b then in_state (record_of m k) Free else record_of m k) (id_self k)

    finish_other : (j : CallId) → is_id j k ≡ false → record_of finish_after j ≡ record_of m j
    finish_other j e = finish_record j ∙ ap (λ b. if b then in_state (record_of m k) Free else record_of m j) e

    finish_placed_here : IsPlaced image finish_after k
    finish_placed_here = placed_by image finish_after k (in_state (record_of m k) Free) finish_here
        (λ q. ap (times k) (finish_queue q) ∙ (keeps.placed k).queue q
        ∙ ap (λ t. one_if (t && ((record_of m k).to == q))) (taken_not_queued (record_of m k).state was_taken.0))
        (λ q. finish_list k q ∙ list q (q == p) refl) (λ f. absurd (cc))
      where
        list : (q : ℕ) (b : Bool) → q == p ≡ b → (if b then times k ks + times k (to_run below) else times k (to_run (processor m q).bodies)) ≡ 0
        list q true e = was_taken.2
        list q false e = (keeps.placed k).list q ∙ ap (λ t. one_if (t && ((record_of m k).to == q))) was_taken.0
            ∙ ap one_if (ap (λ i. i == q) was_taken.1 ∙ equal_sym p q ∙ e)

    finish_placed_other : (j : CallId) → is_id j k ≡ false → IsPlaced image finish_after j
    finish_placed_other j other = placed_by image finish_after j (record_of m j) (finish_other j other)
        (λ q. ap (times j) (finish_queue q) ∙ (keeps.placed j).queue q) (λ q. finish_list j q ∙ list q (q == p) refl) (keeps.placed j).fits
      where
        list : (q : ℕ) (b : Bool) → q == p ≡ b → (if b then times j ks + times j (to_run below) else times j (to_run (processor m q).bodies))
            ≡ one_if (is_taken (record_of m j).state && ((record_of m j).to == q))
        list q true e =
            let o = times_other j k ks other in
            let b = before j in
            let same = ap (λ i. times j (to_run (processor m i).bodies)) (eqb-true q p e) in
            let l = (keeps.placed j).list q in omega (arith, o, b, same, l)
        list q false e = (keeps.placed j).list q

    finish_told_here : IsTold k (in_state (record_of m k) Free) (past ++ Entry.Ran p k.from k.site (record_of m k).number ∷ [])
    finish_told_here = let number : ℕ = (record_of m k).number in let range = (keeps.placed k).fits (taken_not_free (record_of m k).state was_taken.0) in
        record {
          calls = λ n. pushed (is_call k.from k.site n) past (Entry.Ran p k.from k.site number) false (ran_not_call k k p n number) ∙ omega arith
              ∙ (keeps.told k).calls n;
          runs = λ n. pushed (is_ran k.from k.site n) past (Entry.Ran p k.from k.site number) (is_id k k && (number == n)) (ran_test k k p n number)
              ∙ ap (λ t. count_by (is_ran k.from k.site n) past + one_if (t && (number == n))) (id_self k)
              ∙ ap (λ x. x + one_if (number == n)) ((keeps.told k).runs n
              ∙ ap (λ t. one_if (was_queued (record_of m k) n && (nat_lt n number || t))) (taken_not_free (record_of m k).state was_taken.0))
              ∙ runs_more number n range.number;
          total = pushed (is_call_of k) past (Entry.Ran p k.from k.site number) false refl ∙ omega arith ∙ (keeps.told k).total;
          last = λ l. said_more k number (record_of m k).to (record_of m k).func (record_of m k).arg past (Entry.Ran p k.from k.site number ∷ [])
              ((keeps.told k).last l);
        }

    finish_told_other : (j : CallId) → is_id j k ≡ false → IsTold j (record_of m j) (past ++ Entry.Ran p k.from k.site (record_of m k).number ∷ [])
    finish_told_other j e = let number : ℕ = (record_of m k).number in
        told_past j (record_of m j) past (Entry.Ran p k.from k.site number)
        (λ n. ran_not_call k j p n number) (λ n. ran_test k j p n number ∙ ap (λ t. t && (number == n)) (id_sym k j ∙ e)) refl (keeps.told j)

    -- it was queued before
    finish_fits : AllFit past (Entry.Ran p k.from k.site (record_of m k).number ∷ [])
    finish_fits =
        let number : ℕ = (record_of m k).number in
        let range = (keeps.placed k).fits (taken_not_free (record_of m k).state was_taken.0) in
        let pos : 0 < number = range.number in
        let e : count_by (is_call k.from k.site number) past ≡ one_if (nat_le 1 number && nat_le number number) = (keeps.told k).calls number in
        let o : one_if (nat_le 1 number && nat_le number number) ≡ 1 =
        ap one_if (and_from (nat_le 1 number) (nat_le number number) (le-leb 1 number (omega (arith, pos))) (le-leb number number (omega arith))) in
        let l = subst (λ to. HasEntry k number to (record_of m k).func (record_of m k).arg past) was_taken.1 ((keeps.told k).last pos) in
        ((any_counted (is_call k.from k.site number) past (omega (arith, e, o)), ((record_of m k).func, (record_of m k).arg, l)), tt)

    pub finish_kept : KeptStep image past (
      with_context (with_record m k (in_state (record_of m k) Free)) p d,
      Entry.Ran p k.from k.site (record_of m k).number ∷ [],
    )
    unfolding freed finish_after
    finish_kept = record {
      kept = record {
        placed = λ j. placed j (is_id j k) refl;
        told = λ j. told j (is_id j k) refl;
        runs = λ q. runs_under image m finish_after (processor finish_after q).bodies (λ j l. func j (is_id j k) refl)
            (context_runs m freed p c d below freed_bodies here image runs keeps.runs q);
      };
      fit = finish_fits;
      short = omega arith;
    }
      where
        entries : List Entry
        entries = past ++ Entry.Ran p k.from k.site (record_of m k).number ∷ []

        placed : (j : CallId) (b : Bool) → is_id j k ≡ b → IsPlaced image finish_after j
        placed j true e = subst (IsPlaced image finish_after) (sym (same_call j k e)) finish_placed_here
        placed j false e = finish_placed_other j e

        told : (j : CallId) (b : Bool) → is_id j k ≡ b → IsTold j (record_of finish_after j) entries
        told j true e = subst (λ i. IsTold i (record_of finish_after i) entries) (sym (same_call j k e))
            (subst (λ r. IsTold k r entries) (sym finish_here) finish_told_here)
        told j false e = subst (λ r. IsTold j r entries) (sym (finish_other j e)) (finish_told_other j e)

        func : (j : CallId) (b : Bool) → is_id j k ≡ b → (record_of finish_after j).func ≡ (record_of m j).func
        func j true e = ap (λ i. (record_of finish_after i).func) (same_call j k e) ∙ ap (λ (r : CallRecord). r.func) finish_here
            ∙ ap (λ i. (record_of m i).func) (sym (same_call j k e))
        func j false e = ap (λ (r : CallRecord). r.func) (finish_other j e)
