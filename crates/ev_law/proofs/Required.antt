-- Sides of keys that must have a body have one.
use Rattle.std.specs.Prelude.{◌≡◌, refl, ℕ, zero, suc, ◌+◌, ◌<◌, ◌≤◌, Bool, true, false, if◌then◌else◌, List, [], ◌∷◌, ◌++◌, Option, Some, None, find, map, flat_map, filter, is_none, is_some, ◌==◌, ◌&&◌, ◌||◌, nat_lt}
use Rattle.std.specs.Option.{option_or}
use Rattle.std.proofs.Common.{arith, ap, sym, ◌∙◌, subst, ◌⊎◌, inl, inr}
use Rattle.std.specs.List.{list_any}
use Rattle.std.proofs.lemmas.Bool.{or_cases, and_parts, eqb-true}
use Rattle.std.proofs.lemmas.List.Folds.{find-append}
use Rattle.ev_event.specs.declared.event.Event.{Event}
use Rattle.ev_body.specs.declared.key.Key.{Key}
use Rattle.ev_body.specs.declared.key.Key.TheVariants.{Nmi, Bp, Pf, Irq}
use Rattle.ev_body.specs.declared.key.Side.{Side}
use Rattle.ev_body.specs.declared.key.Side.TheVariants.{User, Kernel}
use Rattle.ev_body.specs.declared.image.Image.{Image}
use Rattle.ev_body.specs.Bodies.{key_number, first_body, filled_keys}
use Rattle.ev_abstract.specs.Machine.{processor}
use Rattle.ev_abstract.specs.Run.{run}
use Rattle.ev_abstract.specs.Chain.{has_item, is_breakpoint, is_user_access}
use Rattle.ev_abstract.specs.Delivery.{event_key, service_of}
use Rattle.ev_abstract.specs.declared.refusal.Refusal.{Refusal}
use Rattle.ev_abstract.specs.Rules.{both_sides, first_some, irq_keys, is_used, missing, missing_body, missing_refusal, required, rules, some_body_has}
use Rattle.ev_law.specs.Legal.{IsInterrupt}
use Rattle.ev_law.specs.Laws.{BodyFaultsHaveBodies, NmisHaveBodies, UserEventsHaveBodies, VectorsHaveBodies, has_body_for}
use Rattle.ev_law.proofs.Delivery.{is_fault, user_numbers}
use Rattle.ev_law.proofs.Lists.{any_at}
use Rattle.ev_law.proofs.UserFaults.{RaisesFaults, user_step_faults}
use Rattle.ev_law.proofs.Runs.{runs_are_legal}

-- ---- a search that finds nothing

module _ (test : Key × Side → Bool) where
  nothing_behind : (xs ys : List (Key × Side)) → find test (xs ++ ys) ≡ None → find test ys ≡ None
  nothing_behind xs ys h = by (find test xs) (sym (find-append test xs ys) ∙ h)
    where
      by : (o : Option (Key × Side)) → option_or o (find test ys) ≡ None → find test ys ≡ None
      by None h = h
      by (Some r) h = absurd (cc)

  nothing_in_front : (xs ys : List (Key × Side)) → find test (xs ++ ys) ≡ None → find test xs ≡ None
  nothing_in_front xs ys h = by (find test xs) (sym (find-append test xs ys) ∙ h)
    where
      by : (o : Option (Key × Side)) → option_or o (find test ys) ≡ None → o ≡ None
      by None h = refl
      by (Some r) h = absurd (cc)

  nothing_first : (r : Key × Side) (rs : List (Key × Side)) → find test (r ∷ rs) ≡ None → (test r ≡ false) × (find test rs ≡ None)
  nothing_first r rs h = by (test r) refl h
    where
      by : (t : Bool) → test r ≡ t → (if t then Some r else find test rs) ≡ None → (test r ≡ false) × (find test rs ≡ None)
      by true e h = absurd (cc)
      by false e h = (e, h)

  -- both sides of a used key, among those of so many vectors from one on
  both_there : (used : Key → Bool) (v n w : ℕ) → find test (flat_map both_sides (filter used (irq_keys v n))) ≡ None → v ≤ w → w < v + n
      → used (Irq w) ≡ true → (test (Irq w, User) ≡ false) × (test (Irq w, Kernel) ≡ false)
  both_there used v zero w h from to u = absurd (omega arith)
  both_there used v (suc n) w h from to u = by (used (Irq v)) refl h (λ k l. both_there used (suc v) n w k l (omega arith) u)
    where
      Later : Type 0
      Later = find test (flat_map both_sides (filter used (irq_keys (suc v) n))) ≡ None → suc v ≤ w
          → (test (Irq w, User) ≡ false) × (test (Irq w, Kernel) ≡ false)

      split : (v ≡ w) ⊎ (suc v ≤ w)
      split = grind arith

      here : (rest : List (Key × Side)) → find test ((Irq v, User) ∷ (Irq v, Kernel) ∷ rest) ≡ None → v ≡ w
          → (test (Irq w, User) ≡ false) × (test (Irq w, Kernel) ≡ false)
      here rest h same =
          let a = nothing_first (Irq v, User) ((Irq v, Kernel) ∷ rest) h in
          let b = nothing_first (Irq v, Kernel) rest a.1 in
          subst (λ k. (test (Irq k, User) ≡ false) × (test (Irq k, Kernel) ≡ false)) same (a.0, b.0)

      past : (rest : List (Key × Side)) → find test ((Irq v, User) ∷ (Irq v, Kernel) ∷ rest) ≡ None → find test rest ≡ None
      past rest h = (nothing_first (Irq v, Kernel) rest (nothing_first (Irq v, User) ((Irq v, Kernel) ∷ rest) h).1).1

      by : (t : Bool) → used (Irq v) ≡ t
          → find test (flat_map both_sides (if t then Irq v ∷ filter used (irq_keys (suc v) n) else filter used (irq_keys (suc v) n))) ≡ None
          → Later → (test (Irq w, User) ≡ false) × (test (Irq w, Kernel) ≡ false)
      by true e h later = elim (split) [
        | inl same ↦ here (flat_map both_sides (filter used (irq_keys (suc v) n))) h same
        | inr l ↦ later (past (flat_map both_sides (filter used (irq_keys (suc v) n))) h) l
      ]
      by false e h later = elim (split) [
        | inl same ↦ absurd (let c : used (Irq v) ≡ true = subst (λ k. used (Irq k) ≡ true) (sym same) u in cc)
        | inr l ↦ later h l
      ]

-- ---- a vector

none_refused : (o : Option (Key × Side)) → missing_refusal o ≡ None → o ≡ None
none_refused None h = refl
none_refused (Some r) h = absurd (cc)

first_kept : (o : Option Refusal) (os : List (Option Refusal)) → first_some (o ∷ os) ≡ None → o ≡ None
first_kept None os h = refl
first_kept (Some r) os h = absurd (cc)

is_there : (o : Option ℕ) → is_none o ≡ false → is_some o ≡ true
is_there None h = absurd (cc)
is_there (Some n) h = refl

found : (image : Image) → rules image ≡ None → find (missing image) (required image) ≡ None
unfolding rules missing_body
found image h = none_refused (find (missing image) (required image)) (first_kept _ _ h)

-- the sides that come before those of interrupts
abbrev before_interrupts : Image → List (Key × Side)
before_interrupts image =
    map (λ key. (key, User)) filled_keys
    ++ (if some_body_has image is_breakpoint then (Bp, Kernel) ∷ [] else [])
    ++ (if some_body_has image is_user_access then (Pf, Kernel) ∷ [] else [])
    ++ (if is_used image Nmi then both_sides Nmi else [])

pub interrupt_has_bodies : (image : Image) (v : ℕ) → rules image ≡ None → IsInterrupt image v
    → (is_some (first_body 0 image.bodies v User) ≡ true) × (is_some (first_body 0 image.bodies v Kernel) ≡ true)
unfolding key_number
interrupt_has_bodies image v kept i =
    let rest : find (missing image) (flat_map both_sides (filter (is_used image) (irq_keys 0x20 0xe0))) ≡ None =
    nothing_behind (missing image) (before_interrupts image) (flat_map both_sides (filter (is_used image) (irq_keys 0x20 0xe0))) (found image kept) in
    let to : v < 0x20 + 0xe0 = omega (arith, i.to) in
    let b = both_there (missing image) (is_used image) 0x20 0xe0 v rest i.from to i.used in
    (is_there (first_body 0 image.bodies v User) b.0, is_there (first_body 0 image.bodies v Kernel) b.1)

pub vectors_have_bodies : VectorsHaveBodies
vectors_have_bodies image script p v is accepted s h =
    let x = processor (run image script) p in
    let l = (runs_are_legal image script is accepted s).each p in
    interrupt_has_bodies image v accepted.1.kept (elim (or_cases (x.pending v) (x.mail v) h) [ inl a ↦ l.pending.each v a | inr a ↦ l.mail.each v a ])

-- ---- an NMI

-- the sides that come before those of NMIs
abbrev before_nmi : Image → List (Key × Side)
before_nmi image =
    map (λ key. (key, User)) filled_keys
    ++ (if some_body_has image is_breakpoint then (Bp, Kernel) ∷ [] else [])
    ++ (if some_body_has image is_user_access then (Pf, Kernel) ∷ [] else [])

nmi_has_bodies : (image : Image) → rules image ≡ None → is_used image Nmi ≡ true
    → (is_some (first_body 0 image.bodies (key_number Nmi) User) ≡ true) × (is_some (first_body 0 image.bodies (key_number Nmi) Kernel) ≡ true)
nmi_has_bodies image kept u =
    let front : find (missing image) (before_interrupts image) ≡ None =
    nothing_in_front (missing image) (before_interrupts image) (flat_map both_sides (filter (is_used image) (irq_keys 0x20 0xe0))) (found image kept) in
    let nmi : find (missing image) (if is_used image Nmi then both_sides Nmi else []) ≡ None =
    nothing_behind (missing image) (before_nmi image) (if is_used image Nmi then both_sides Nmi else []) front in
    let both : find (missing image) (both_sides Nmi) ≡ None = sym (ap (λ t. find (missing image) (if t then both_sides Nmi else [])) u) ∙ nmi in
    let a = nothing_first (missing image) (Nmi, User) ((Nmi, Kernel) ∷ []) both in
    let b = nothing_first (missing image) (Nmi, Kernel) [] a.1 in
    (is_there (first_body 0 image.bodies (key_number Nmi) User) a.0, is_there (first_body 0 image.bodies (key_number Nmi) Kernel) b.0)

pub nmis_have_bodies : NmisHaveBodies
nmis_have_bodies image script p is accepted s h = nmi_has_bodies image accepted.1.kept (((runs_are_legal image script is accepted s).each p).nmi h)

-- ---- faults

-- the sides that come before that of page faults in bodies
abbrev before_access : Image → List (Key × Side)
before_access image =
    map (λ key. (key, User)) filled_keys
    ++ (if some_body_has image is_breakpoint then (Bp, Kernel) ∷ [] else [])

no_nmi_missing : (image : Image) → rules image ≡ None → find (missing image) (before_nmi image) ≡ None
no_nmi_missing image kept =
    nothing_in_front (missing image) (before_nmi image) (if is_used image Nmi then both_sides Nmi else [])
    (nothing_in_front (missing image) (before_interrupts image) (flat_map both_sides (filter (is_used image) (irq_keys 0x20 0xe0))) (found image kept))

-- a side that is wanted where a test holds
wanted_side : (image : Image) (t : Bool) (key : Key) → t ≡ true → find (missing image) (if t then (key, Kernel) ∷ [] else []) ≡ None
    → is_some (first_body 0 image.bodies (key_number key) Kernel) ≡ true
wanted_side image true key h e = is_there (first_body 0 image.bodies (key_number key) Kernel) (nothing_first (missing image) (key, Kernel) [] e).0
wanted_side image false key h e = absurd (cc)

pub body_faults_have_bodies : BodyFaultsHaveBodies
body_faults_have_bodies image n b is accepted f = (
  λ h. wanted_side image (some_body_has image is_breakpoint) Bp (any_at (has_item is_breakpoint) image.bodies n b f h)
      (nothing_behind (missing image) (map (λ key. (key, User)) filled_keys) (if some_body_has image is_breakpoint then (Bp, Kernel) ∷ [] else [])
      (nothing_in_front (missing image) (before_access image) (if some_body_has image is_user_access then (Pf, Kernel) ∷ [] else [])
      (no_nmi_missing image accepted.1.kept))),
  λ h. wanted_side image (some_body_has image is_user_access) Pf (any_at (has_item is_user_access) image.bodies n b f h)
      (nothing_behind (missing image) (before_access image) (if some_body_has image is_user_access then (Pf, Kernel) ∷ [] else [])
      (no_nmi_missing image accepted.1.kept)),
)

-- the user side of a key by its number
user_there : (image : Image) (keys : List Key) (n : ℕ) → find (missing image) (map (λ key. (key, User)) keys) ≡ None
    → list_any (λ k. k == n) (map key_number keys) ≡ true → is_some (first_body 0 image.bodies n User) ≡ true
user_there image [] n e h = absurd (cc)
user_there image (key ∷ keys) n e h =
    let p = nothing_first (missing image) (key, User) (map (λ k. (k, User)) keys) e in
    elim (or_cases (key_number key == n) (list_any (λ k. k == n) (map key_number keys)) h) [
      | inl a ↦ subst (λ k. is_some (first_body 0 image.bodies k User) ≡ true) (eqb-true (key_number key) n a)
          (is_there (first_body 0 image.bodies (key_number key) User) p.0)
      | inr later ↦ user_there image keys n p.1 later
    ]

numbers_are : map key_number filled_keys ≡ user_numbers
unfolding key_number
numbers_are = refl

fault_has_body : (image : Image) (e : Event) → rules image ≡ None → is_fault e ≡ true → has_body_for image User e ≡ true
unfolding is_fault
fault_has_body image e kept h =
    let front = and_parts (is_none (service_of e.kind e.vector) && (nat_lt (event_key e.kind e.vector) 32 || (event_key e.kind e.vector == 0x100)))
    (list_any (λ n. n == event_key e.kind e.vector) user_numbers) h in
    user_there image filled_keys (event_key e.kind e.vector)
    (nothing_in_front (missing image) (map (λ key. (key, User)) filled_keys) (if some_body_has image is_breakpoint then (Bp, Kernel) ∷ [] else [])
    (nothing_in_front (missing image) (before_access image) (if some_body_has image is_user_access then (Pf, Kernel) ∷ [] else [])
    (no_nmi_missing image kept)))
    (ap (list_any (λ n. n == event_key e.kind e.vector)) numbers_are ∙ front.1)

pub user_events_have_bodies : UserEventsHaveBodies
user_events_have_bodies image memory t saved e is accepted h =
    fault_has_body image e accepted.1.kept (subst RaisesFaults h (user_step_faults memory t))
