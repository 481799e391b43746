-- A queue has at most 64 calls: no call stands in it twice, and each is one of eight sites of at most eight processors.
use Rattle.std.proofs.Common.{◌≡◌, ℕ, zero, suc, ◌+◌, ◌*◌, ◌<◌, ◌≤◌, Bool, true, false, ◌&&◌, List, [], ◌∷◌, length, refl, subst, arith, eqb-true}
use Rattle.std.specs.Prelude.{◌==◌}
use Rattle.std.proofs.lemmas.Bool.{eqb-false}
use Rattle.ev_body.specs.declared.image.Image.{Image}
use Rattle.ev_body.specs.WellFormed.{IsImage}
use Rattle.ev_abstract.specs.Context.{CallId}
use Rattle.ev_abstract.specs.CrossCall.{record_of}
use Rattle.ev_abstract.specs.Machine.{CallState, Free, Queued, Taken, Machine, processor}
use Rattle.ev_abstract.specs.declared.entry.Entry.{Entry}
use Rattle.ev_call_law.specs.Calls.{is_id, is_free, is_queued, one_if, times, IsInRange, KeepsCallRecords}
use Rattle.ev_call_law.proofs.Counts.{count_cons, times_same, is_one}
use Rattle.ev_symbolic.proofs.Values.{and_left}

abbrev call_of : ℕ → ℕ → CallId
call_of from site = record { from = from; site = site }

-- how many calls of a list are of the first sites of a processor, and of those of the first processors
of_sites : (from n : ℕ) → List CallId → ℕ
of_sites from zero ks = 0
of_sites from (suc n) ks = times (call_of from n) ks + of_sites from n ks

of_processors : (n : ℕ) → List CallId → ℕ
of_processors zero ks = 0
of_processors (suc n) ks = of_sites n 8 ks + of_processors n ks

-- ---- where none stands twice they are few

sites_few : (from n : ℕ) (ks : List CallId) → ((k : CallId) → times k ks ≤ 1) → of_sites from n ks ≤ n
unfolding of_sites
sites_few from zero ks once = omega arith
sites_few from (suc n) ks once = let one = once (call_of from n) in let rest = sites_few from n ks once in omega (arith, one, rest)

few : (n : ℕ) (ks : List CallId) → ((k : CallId) → times k ks ≤ 1) → of_processors n ks ≤ 8 * n
unfolding of_processors
few zero ks once = omega arith
few (suc n) ks once = let first = sites_few n 8 ks once in let rest = few n ks once in omega (arith, first, rest)

-- ---- one more call

more : (j k : CallId) (ks : List CallId) → times j ks ≤ times j (k ∷ ks)
more j k ks = let e = count_cons (is_id j) k ks in omega (arith, e)

sites_more : (from n : ℕ) (k : CallId) (ks : List CallId) → of_sites from n ks ≤ of_sites from n (k ∷ ks)
unfolding of_sites
sites_more from zero k ks = omega arith
sites_more from (suc n) k ks = let one = more (call_of from n) k ks in let rest = sites_more from n k ks in omega (arith, one, rest)

processors_more : (n : ℕ) (k : CallId) (ks : List CallId) → of_processors n ks ≤ of_processors n (k ∷ ks)
unfolding of_processors
processors_more zero k ks = omega arith
processors_more (suc n) k ks = let first = sites_more n 8 k ks in let rest = processors_more n k ks in omega (arith, first, rest)

-- which is counted
sites_count : (n : ℕ) (k : CallId) (ks : List CallId) → k.site < n → suc (of_sites k.from n ks) ≤ of_sites k.from n (k ∷ ks)
unfolding of_sites
sites_count zero k ks l = absurd (omega (arith, l))
sites_count (suc n) k ks l = pick (k.site == n) refl (sites_count n k ks)
  where
    pick : (t : Bool) → (k.site == n) ≡ t → (k.site < n → suc (of_sites k.from n ks) ≤ of_sites k.from n (k ∷ ks))
        → suc (times (call_of k.from n) ks + of_sites k.from n ks) ≤ times (call_of k.from n) (k ∷ ks) + of_sites k.from n (k ∷ ks)
    pick true e next =
        let one : times (call_of k.from n) (k ∷ ks) ≡ suc (times (call_of k.from n) ks)
        = subst (λ i. times (call_of k.from i) (k ∷ ks) ≡ suc (times (call_of k.from i) ks)) (eqb-true k.site n e) (times_same k ks) in
        let rest = sites_more k.from n k ks in omega (arith, one, rest)
    pick false e next =
        let other = eqb-false k.site n e in
        let rest = next (omega (arith, other, l)) in let one = more (call_of k.from n) k ks in omega (arith, one, rest)

processors_count : (n : ℕ) (k : CallId) (ks : List CallId) → k.from < n → k.site < 8 → suc (of_processors n ks) ≤ of_processors n (k ∷ ks)
unfolding of_processors
processors_count zero k ks l site = absurd (omega (arith, l))
processors_count (suc n) k ks l site = pick (k.from == n) refl (λ lower. processors_count n k ks lower site)
  where
    pick : (t : Bool) → (k.from == n) ≡ t → (k.from < n → suc (of_processors n ks) ≤ of_processors n (k ∷ ks))
        → suc (of_sites n 8 ks + of_processors n ks) ≤ of_sites n 8 (k ∷ ks) + of_processors n (k ∷ ks)
    pick true e next =
        let one : suc (of_sites n 8 ks) ≤ of_sites n 8 (k ∷ ks)
        = subst (λ i. suc (of_sites i 8 ks) ≤ of_sites i 8 (k ∷ ks)) (eqb-true k.from n e) (sites_count 8 k ks site) in
        let rest = processors_more n k ks in omega (arith, one, rest)
    pick false e next =
        let other = eqb-false k.from n e in
        let rest = next (omega (arith, other, l)) in let one = sites_more n 8 k ks in omega (arith, one, rest)

-- ---- a list of calls in range

counted : (n : ℕ) (ks : List CallId) → ((k : CallId) → 0 < times k ks → (k.from < n) × (k.site < 8)) → length ks ≤ of_processors n ks
counted n [] within = omega arith
counted n (k ∷ ks) within =
    let first = within k (let e = times_same k ks in omega (arith, e)) in
    let here = processors_count n k ks first.0 first.1 in
    let rest = counted n ks (λ j some. within j (let l = more j k ks in omega (arith, l, some))) in omega (arith, here, rest)

one_at_most : (t : Bool) → one_if t ≤ 1
one_at_most true = omega arith
one_at_most false = omega arith

-- a call that is queued isn't free
pub not_free : (st : CallState) → is_queued st ≡ true → is_free st ≡ false
not_free Free e = let clash : false ≡ true = e in absurd (cc)
not_free Queued e = refl
not_free Taken e = refl

module _ (image : Image) (m : Machine) (told : List Entry) (calls : KeepsCallRecords image m told) (p : ℕ) where
  abbrev is_here : CallId → Bool
  is_here k = is_queued (record_of m k).state && ((record_of m k).to == p)

  -- a call of the queue is queued
  pub queued_here : (k : CallId) → 0 < times k (processor m p).queue → is_queued (record_of m k).state ≡ true
  queued_here k some =
      let there : times k (processor m p).queue ≡ one_if (is_here k) = (calls.placed k).queue p in
      and_left (is_queued (record_of m k).state) _ (is_one (is_here k) (omega (arith, there, some)))

  -- and one of a processor of the image and a site
  pub queue_within : (k : CallId) → 0 < times k (processor m p).queue → (k.from < image.processors) × (k.site < 8)
  queue_within k some =
      let fits : IsInRange image k (record_of m k) = (calls.placed k).fits (not_free (record_of m k).state (queued_here k some)) in (fits.from, fits.site)

  -- it stands there once
  once : (k : CallId) → times k (processor m p).queue ≤ 1
  once k = let there : times k (processor m p).queue ≡ one_if (is_here k) = (calls.placed k).queue p in
      let one = one_at_most (is_here k) in omega (arith, there, one)

  -- so they are few
  pub queue_short : IsImage image → length (processor m p).queue ≤ 64
  queue_short good =
      let small = good.count.1 in
      let all = counted image.processors (processor m p).queue queue_within in
      let bound = few image.processors (processor m p).queue once in omega (arith, all, bound, small)
