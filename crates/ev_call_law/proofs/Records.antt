-- Steps that leave each call where it is and each context in its function: records, queues and lists stay.
use Rattle.std.specs.Prelude.{◌≡◌, refl, ℕ, ◌+◌, ◌<◌, ◌≤◌, length, Bool, true, false, ◌&&◌, ◌==◌, if◌then◌else◌, List, [], ◌∷◌, ◌++◌, Some, count_by}
use Rattle.std.specs.List.{list_any}
use Rattle.std.proofs.Common.{arith, ap, sym, ◌∙◌, subst, append_assoc}
use Rattle.std.proofs.lemmas.Bool.{eqb-true}
use Rattle.ev_isa.specs.Word.{NatMap}
use Rattle.ev_isa.specs.Pages.{Place, Page}
use Rattle.ev_body.specs.declared.key.Key.{Key}
use Rattle.ev_body.specs.declared.key.Key.TheVariants.{Irq}
use Rattle.ev_body.specs.declared.image.Image.{Image}
use Rattle.ev_abstract.specs.Context.{BodyContext, CallId}
use Rattle.ev_abstract.specs.Machine.{Processor, Machine, CallRecord, processor, with_processor}
use Rattle.ev_abstract.specs.CrossCall.{record_of}
use Rattle.ev_abstract.specs.declared.entry.Entry.{Entry}
use Rattle.ev_abstract.specs.declared.entry.Entry.TheVariants.{Ran, Done}
use Rattle.ev_abstract.specs.CallLaws.{is_call, is_ran}
use Rattle.ev_abstract.specs.ItemMeaning.{Step, replace_last, with_context, with_cell, with_page, mailed, with_mail}
use Rattle.ev_call_law.specs.Calls.{HasEntry, is_call_of, one_if, times, to_run, is_queued, is_taken, is_free, IsInRange, IsPlaced, IsTold, first_function, RunsItsCall, RunTheirCalls, KeepsCallRecords}
use Rattle.ev_call_law.proofs.Counts.{count_append, count_cons, count_push, times_append, times_same}
use Rattle.ev_law.proofs.Machines.{mailed_same}

-- ---- entries

-- what an entry says of calls happened before
abbrev pub Fits : List Entry → Entry → Type 0
Fits past (Ran p from site number) =
    (list_any (is_call from site number) past ≡ true) × ((func arg : ℕ) × HasEntry (record { from = from; site = site }) number p func arg past)
Fits past (Done p site number) = 0 < number → list_any (is_ran p site number) past ≡ true
Fits past _ = Unit {0}

abbrev pub AllFit : List Entry → List Entry → Type 0
AllFit past [] = Unit {0}
AllFit past (e ∷ es) = Fits past e × AllFit (past ++ e ∷ []) es

-- an entry of no call that was queued or that ran
pub record IsPlain (e : Entry) : Type 0 where
  pub call : (from site number : ℕ) → is_call from site number e ≡ false
  pub ran : (from site number : ℕ) → is_ran from site number e ≡ false
  pub made : (k : CallId) → is_call_of k e ≡ false

abbrev pub ArePlain : List Entry → Type 0
ArePlain [] = Unit {0}
ArePlain (e ∷ es) = IsPlain e × ArePlain es

none_counted : (test : Entry → Bool) (es : List Entry) → ((e : Entry) → IsPlain e → test e ≡ false) → ArePlain es → count_by test es ≡ 0
none_counted test [] f h = refl
none_counted test (e ∷ es) f h =
    let k = none_counted test es f h.1 in
    count_cons test e es ∙ ap (λ t. one_if t + count_by test es) (f e h.0) ∙ omega (arith, k)

plain_more : (test : Entry → Bool) (past es : List Entry) → ((e : Entry) → IsPlain e → test e ≡ false) → ArePlain es
    → count_by test (past ++ es) ≡ count_by test past
plain_more test past es f h = let k = none_counted test es f h in count_append test past es ∙ omega (arith, k)

pub said_more : (k : CallId) (number to func arg : ℕ) (past es : List Entry) → HasEntry k number to func arg past
    → HasEntry k number to func arg (past ++ es)
said_more k number to func arg past es h = record {
  before = h.before;
  rest = h.rest ++ es;
  stands = ap (λ p. p ++ es) h.stands ∙ append_assoc h.before (Entry.Call k.from k.site number to func arg ∷ h.rest) es;
}

pub told_more : (k : CallId) (r : CallRecord) (past es : List Entry) → IsTold k r past → ArePlain es → IsTold k r (past ++ es)
told_more k r past es t h = record {
  calls = λ n. plain_more (is_call k.from k.site n) past es (λ e p. p.call k.from k.site n) h ∙ t.calls n;
  runs = λ n. plain_more (is_ran k.from k.site n) past es (λ e p. p.ran k.from k.site n) h ∙ t.runs n;
  total = plain_more (is_call_of k) past es (λ e p. p.made k) h ∙ t.total;
  last = λ l. said_more k r.number r.to r.func r.arg past es (t.last l);
}

-- the same of one entry, for one call
pub told_past : (k : CallId) (r : CallRecord) (past : List Entry) (e : Entry) → ((n : ℕ) → is_call k.from k.site n e ≡ false)
    → ((n : ℕ) → is_ran k.from k.site n e ≡ false) → is_call_of k e ≡ false → IsTold k r past
    → IsTold k r (past ++ e ∷ [])
told_past k r past e f g h t = record {
  calls = λ n. count_push (is_call k.from k.site n) past e ∙ ap (λ t. count_by (is_call k.from k.site n) past + one_if t) (f n) ∙ omega arith ∙ t.calls n;
  runs = λ n. count_push (is_ran k.from k.site n) past e ∙ ap (λ t. count_by (is_ran k.from k.site n) past + one_if t) (g n) ∙ omega arith ∙ t.runs n;
  total = count_push (is_call_of k) past e ∙ ap (λ t. count_by (is_call_of k) past + one_if t) h ∙ omega arith ∙ t.total;
  last = λ l. said_more k r.number r.to r.func r.arg past (e ∷ []) (t.last l);
}

-- a call's place, by its record
pub placed_by : (image : Image) (n : Machine) (k : CallId) (r : CallRecord) → record_of n k ≡ r
    → ((q : ℕ) → times k (processor n q).queue ≡ one_if (is_queued r.state && (r.to == q)))
    → ((q : ℕ) → times k (to_run (processor n q).bodies) ≡ one_if (is_taken r.state && (r.to == q)))
    → (is_free r.state ≡ false → IsInRange image k r) → IsPlaced image n k
placed_by image n k r e queue list fits = record {
  queue = λ q. queue q ∙ ap (λ (r : CallRecord). one_if (is_queued r.state && (r.to == q))) (sym e);
  list = λ q. list q ∙ ap (λ (r : CallRecord). one_if (is_taken r.state && (r.to == q))) (sym e);
  fits = subst (λ (r : CallRecord). is_free r.state ≡ false → IsInRange image k r) (sym e) fits;
}

-- ---- machines with the same contexts, queues and records

pub record Same (m n : Machine) : Type 0 where
  pub records : (q : ℕ) → (processor n q).records ≡ (processor m q).records
  pub queues : (q : ℕ) → (processor n q).queue ≡ (processor m q).queue
  pub bodies : (q : ℕ) → (processor n q).bodies ≡ (processor m q).bodies

-- what another processor p has in common with the old one
pub put_field : {A : Type 0} (f : Processor → A) (m : Machine) (p : ℕ) (x : Processor) → f x ≡ f (processor m p) → (q : ℕ)
    → f (processor (with_processor m p x) q) ≡ f (processor m q)
put_field f m p x e q = pick (q == p) refl
  where
    pick : (b : Bool) → q == p ≡ b → f (elim b as (λ y. Processor) [ true ↦ x | false ↦ m.processors q ]) ≡ f (m.processors q)
    pick true h = e ∙ ap (λ n. f (m.processors n)) (sym (eqb-true q p h))
    pick false h = refl

pub same_self : (m : Machine) → Same m m
same_self m = record { records = λ q. refl; queues = λ q. refl; bodies = λ q. refl }

pub put_same : (m : Machine) (p : ℕ) (x : Processor) → x.records ≡ (processor m p).records → x.queue ≡ (processor m p).queue
    → x.bodies ≡ (processor m p).bodies → Same m (with_processor m p x)
put_same m p x r u b = record {
  records = put_field (λ y. y.records) m p x r;
  queues = put_field (λ y. y.queue) m p x u;
  bodies = put_field (λ y. y.bodies) m p x b;
}

pub same_cell : (m : Machine) (k v : ℕ) → Same m (with_cell m k v)
same_cell m k v = record { records = λ q. refl; queues = λ q. refl; bodies = λ q. refl }

pub same_words : (m : Machine) (words : NatMap ℕ) → Same m (record m { words = words })
same_words m words = record { records = λ q. refl; queues = λ q. refl; bodies = λ q. refl }

pub same_page : (m : Machine) (place : Place) (b : Bool) → Same m (with_page m place b)
same_page m (Page i) b = record { records = λ q. refl; queues = λ q. refl; bodies = λ q. refl }
same_page m _ b = same_self m

pub same_mail : (image : Image) (m : Machine) (to : ℕ) (key : Key) → Same m (with_mail m to key)
same_mail image m to key = let s = mailed_same image (processor m to) key in put_same m to (mailed (processor m to) key) s.2 s.3 s.0

pub same_kick : (image : Image) (m : Machine) (to : ℕ) (b : Bool) → Same m (if b then with_mail m to (Irq 0xfb) else m)
same_kick image m to true = same_mail image m to (Irq 0xfb)
same_kick image m to false = same_self m

-- ---- functions under other records

module _ (image : Image) where
  pub first_same : (m n : Machine) (ks : List CallId) → ((j : CallId) → 0 < times j ks → (record_of n j).func ≡ (record_of m j).func)
      → first_function m ks ≡ first_function n ks
  first_same m n [] f = refl
  first_same m n (k ∷ ks) f = let e = times_same k ks in ap Some (sym (f k (omega (arith, e))))

  -- the records of calls that are listed name the same functions
  pub runs_under : (m n : Machine) (bodies : List BodyContext) → ((j : CallId) → 0 < times j (to_run bodies) → (record_of n j).func ≡ (record_of m j).func)
      → RunTheirCalls image m bodies → RunTheirCalls image n bodies
  runs_under m n [] f h = tt
  runs_under m n (c ∷ below) f h = (
    record {
      body = h.0.body;
      is_body = h.0.is_body;
      function = h.0.function ∙ first_same m n c.calls (λ j l. f j (let e = times_append j c.calls (to_run below) in omega (arith, e, l)));
    },
    runs_under m n below (λ j l. f j (let e = times_append j c.calls (to_run below) in omega (arith, e, l))) h.1,
  )

  -- ---- steps that move no call

  pub record SameCalls (m n : Machine) : Type 0 where
    pub records : (q : ℕ) → (processor n q).records ≡ (processor m q).records
    pub queues : (q : ℕ) → (processor n q).queue ≡ (processor m q).queue
    pub lists : (q : ℕ) → to_run (processor n q).bodies ≡ to_run (processor m q).bodies
    pub runs : (q : ℕ) → RunTheirCalls image m (processor m q).bodies → RunTheirCalls image m (processor n q).bodies

  pub same_calls : (m n : Machine) → Same m n → SameCalls m n
  same_calls m n s = record {
    records = s.records;
    queues = s.queues;
    lists = λ q. ap to_run (s.bodies q);
    runs = λ q h. subst (RunTheirCalls image m) (sym (s.bodies q)) h;
  }

  -- another processor p on a machine with the same contexts
  pub put_calls : (m n : Machine) (p : ℕ) (x : Processor) → Same m n → x.records ≡ (processor n p).records → x.queue ≡ (processor n p).queue
      → to_run x.bodies ≡ to_run (processor m p).bodies → (RunTheirCalls image m (processor m p).bodies → RunTheirCalls image m x.bodies)
      → SameCalls m (with_processor n p x)
  put_calls m n p x s r u l f = record {
    records = λ q. put_field (λ y. y.records) n p x r q ∙ s.records q;
    queues = λ q. put_field (λ y. y.queue) n p x u q ∙ s.queues q;
    lists = λ q. list q (q == p) refl;
    runs = λ q. run q (q == p) refl;
  }
    where
      list : (q : ℕ) (b : Bool) → q == p ≡ b → to_run (elim b as (λ y. Processor) [ true ↦ x | false ↦ n.processors q ]).bodies ≡ to_run
          (processor m q).bodies
      list q true h = l ∙ ap (λ i. to_run (processor m i).bodies) (sym (eqb-true q p h))
      list q false h = ap to_run (s.bodies q)

      run : (q : ℕ) (b : Bool) → q == p ≡ b → RunTheirCalls image m (processor m q).bodies
          → RunTheirCalls image m (elim b as (λ y. Processor) [ true ↦ x | false ↦ n.processors q ]).bodies
      run q true h k = f (subst (λ i. RunTheirCalls image m (processor m i).bodies) (eqb-true q p h) k)
      run q false h k = subst (RunTheirCalls image m) (sym (s.bodies q)) k

  -- the last context goes on in its function, with the calls that it had
  pub goes_on : (m n : Machine) (p : ℕ) (c d : BodyContext) (below : List BodyContext) → Same m n → (processor m p).bodies ≡ c ∷ below
      → d.calls ≡ c.calls → (RunsItsCall image m c → RunsItsCall image m d) → SameCalls m (with_context n p d)
  goes_on m n p c d below s e calls f =
      let q : (processor n p).bodies ≡ c ∷ below = s.bodies p ∙ e in
      put_calls m n p (record (processor n p) { bodies = replace_last d (processor n p).bodies }) s refl refl
      (ap (λ bs. to_run (replace_last d bs)) q ∙ ap (λ ks. ks ++ to_run below) calls ∙ sym (ap to_run e))
      (λ h. (let k : RunTheirCalls image m (c ∷ below) = subst (RunTheirCalls image m) e h in
      let l : RunTheirCalls image m (d ∷ below) = (f k.0, k.1) in subst (λ bs. RunTheirCalls image m (replace_last d bs)) (sym q) l))

  -- ---- what they keep

  same_record : (m n : Machine) → SameCalls m n → (k : CallId) → record_of n k ≡ record_of m k
  same_record m n s k = ap (λ (f : NatMap CallRecord). f k.site) (s.records k.from)

  pub record KeptStep (past : List Entry) (s : Step) : Type 0 where
    pub kept : KeepsCallRecords image s.0 (past ++ s.1)
    pub fit : AllFit past s.1
    pub short : length s.1 ≤ 1

  pub same_kept : (m n : Machine) (past es : List Entry) → KeepsCallRecords image m past → SameCalls m n → ArePlain es → AllFit past es → length es ≤ 1
      → KeptStep past (n, es)
  same_kept m n past es k s plain fit short = record {
    kept = record {
      placed = λ j. placed_by image n j (record_of m j) (same_record m n s j) (λ q. ap (times j) (s.queues q) ∙ (k.placed j).queue q)
          (λ q. ap (times j) (s.lists q) ∙ (k.placed j).list q) (k.placed j).fits;
      told = λ j. subst (λ r. IsTold j r (past ++ es)) (sym (same_record m n s j)) (told_more j (record_of m j) past es (k.told j) plain);
      runs = λ q. runs_under m n (processor n q).bodies (λ j l. ap (λ (r : CallRecord). r.func) (same_record m n s j)) (s.runs q (k.runs q));
    };
    fit = fit;
    short = short;
  }
