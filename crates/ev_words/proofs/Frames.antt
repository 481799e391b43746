-- The words of a frame: their addresses, and that each can be written.
use Rattle.std.proofs.Common.{◌≡◌, ◌<◌, ◌≤◌, ℕ, zero, suc, ◌+◌, ◌-◌, ◌*◌, ◌^◌, Bool, true, false, not, if◌then◌else◌, List, [], ◌∷◌, ◌++◌, Option, Some, None, length, reverse, get_or, drop, is_some, arith, refl, ap, ◌∙◌, add-one, drop-cons}
use Rattle.std.proofs.lemmas.List.{reverse-append}
use Rattle.std.proofs.lemmas.Grind.{common_steps}
use Rattle.ev_isa.specs.Word.{NatMap, wrap, is_aligned, is_canonical}
use Rattle.ev_isa.specs.Pages.{View}
use Rattle.ev_event.specs.declared.event.Event.{Event}
use Rattle.ev_event.specs.Event.{ss, ac}
use Rattle.ev_effect.specs.Effect.{access_event, page_event}
use Rattle.ev_effect.specs.Frame.{addresses, first_event, or_else, placed}
use Rattle.ev_mem.specs.declared.region.Region.{Region}
use Rattle.ev_mem.specs.Memory.{Memory, data_access}
use Rattle.ev_mem.specs.Access.{with_word}
use Rattle.ev_mem.specs.Mapped.{MappedWords, memory, slot_in}
use Rattle.ev_mem.proofs.Slots.{mapped_in}
use Rattle.ev_words.specs.Answer.{kernel_view}

next : (a k : ℕ) → wrap (wrap (a + 8) + 8 * k) ≡ wrap (a + 8 * suc k)
next a k = omega arith

-- the addresses of one word more
last : (k a : ℕ) → a < 2 ^ 64 → addresses a (suc k) ≡ addresses a k ++ wrap (a + 8 * k) ∷ []
last zero a h = let e : a ≡ wrap (a + 0) = omega arith in ap (λ (b : ℕ). b ∷ []) e
last (suc k) a h = let below : wrap (a + 8) < 2 ^ 64 = omega arith in
    ap (λ (as' : List ℕ). a ∷ as') (last k (wrap (a + 8)) below ∙ ap (λ (b : ℕ). addresses (wrap (a + 8)) k ++ b ∷ []) (next a k))

-- the last word comes first from the highest down
pub first_event_last : (v : View) (a k : ℕ) → a < 2 ^ 64
    → first_event v true (reverse (addresses a (k + 1))) ≡ or_else (access_event v true (ss 0) (wrap (a + 8 * k)))
    (first_event v true (reverse (addresses a k)))
first_event_last v a k h =
    rw add-one (ap (λ (as' : List ℕ). first_event v true (reverse as')) (last k a h)
    ∙ ap (first_event v true) (reverse-append (addresses a k) (wrap (a + 8 * k) ∷ [])))

first_of : (v : View) (a k j : ℕ) → a < 2 ^ 64 → j < k → j ≡ k - 1
    → first_event v true (reverse (addresses a k)) ≡ or_else (access_event v true (ss 0) (wrap (a + 8 * j))) (first_event v true (reverse (addresses a j)))
first_of v a k j h l e = let k_is : k ≡ j + 1 = omega arith in rw k_is (first_event_last v a j h)

pub found : (v : View) (a k j : ℕ) (e : Event) → a < 2 ^ 64 → j < k → j ≡ k - 1 → Some e ≡ access_event v true (ss 0) (wrap (a + 8 * j))
    → Some e ≡ first_event v true (reverse (addresses a k))
found v a k j e h l q w = rw (first_of v a k j h l q) (ap (λ (o : Option Event). or_else o (first_event v true (reverse (addresses a j)))) w)

pub passed : (v : View) (a k j : ℕ) → a < 2 ^ 64 → j < k → j ≡ k - 1 → None ≡ access_event v true (ss 0) (wrap (a + 8 * j))
    → first_event v true (reverse (addresses a j)) ≡ first_event v true (reverse (addresses a k))
passed v a k j h l q w = rw (first_of v a k j h l q) (ap (λ (o : Option Event). or_else o (first_event v true (reverse (addresses a j)))) w)

-- a word of memory stands at the address
abbrev pub IsWord : List Region → ℕ → Type 0
IsWord rs a = (is_aligned a ≡ true) × (is_some (slot_in rs a) ≡ true)

abbrev pub AreWords : List Region → List ℕ → Type 0
AreWords rs [] = Unit {0}
AreWords rs (a ∷ as') = IsWord rs a × AreWords rs as'

AreWords-append : (rs : List Region) (xs ys : List ℕ) → AreWords rs xs → AreWords rs ys → AreWords rs (xs ++ ys)
AreWords-append rs [] ys h k = k
AreWords-append rs (x ∷ xs) ys h k = (h.0, AreWords-append rs xs ys h.1 k)

AreWords-reverse : (rs : List Region) (xs : List ℕ) → AreWords rs xs → AreWords rs (reverse xs)
AreWords-reverse rs [] h = tt
AreWords-reverse rs (x ∷ xs) h = rw (reverse-append (x ∷ []) xs) (AreWords-append rs (reverse xs) (x ∷ []) (AreWords-reverse rs xs h.1) (h.0, tt))

-- an access with no event is to a word of memory
tested : (x y : Bool) (bad e : Event) (o : Option Event) → (if not x then Some bad else (if not y then Some e else o)) ≡ None → (y ≡ true) × (o ≡ None)
tested true true bad e o h = (refl, h)
tested true false bad e o h = cc
tested false y bad e o h = cc

no_fault : (o : Option ℕ) (a : ℕ) → page_event o a ≡ None → o ≡ None
no_fault None a h = refl
no_fault (Some code) a h = cc

pub is_word : (m : MappedWords) (write : Bool) (bad : Event) (a : ℕ) → access_event (kernel_view (memory m)) write bad a ≡ None → IsWord m.regions a
unfolding access_event
is_word m write bad a h =
    let v : View = kernel_view (memory m) in
    let t : (is_aligned a ≡ true) × (page_event (v.fault write a) a ≡ None) =
    tested (is_canonical a) (is_aligned a) bad ac (page_event (v.fault write a) a) h in
    (t.0, mapped_in m (data_access false write) a (no_fault (v.fault write a) a t.1))

neither : (o q : Option Event) → or_else o q ≡ None → (o ≡ None) × (q ≡ None)
neither None q h = (refl, h)
neither (Some e) q h = cc

are_words : (m : MappedWords) (write : Bool) (as' : List ℕ) → first_event (kernel_view (memory m)) write as' ≡ None → AreWords m.regions as'
are_words m write [] h = tt
are_words m write (a ∷ as') h =
    let v : View = kernel_view (memory m) in
    let t : (access_event v write (ss 0) a ≡ None) × (first_event v write as' ≡ None) = neither (access_event v write (ss 0) a) (first_event v write as') h in
    (is_word m write (ss 0) a t.0, are_words m write as' t.1)

reverse-reverse : (xs : List ℕ) → reverse (reverse xs) ≡ xs
reverse-reverse [] = refl
reverse-reverse (x ∷ xs) = ap reverse (reverse-append (x ∷ []) xs) ∙ reverse-append (reverse xs) (x ∷ []) ∙ ap (λ (ys : List ℕ). x ∷ ys) (reverse-reverse xs)

pub writable : (m : MappedWords) (as' : List ℕ) → first_event (kernel_view (memory m)) true (reverse as') ≡ None → AreWords m.regions as'
writable m as' h = rw (← reverse-reverse as') (AreWords-reverse m.regions (reverse as') (are_words m true (reverse as') h))

pub regions_of : (m n : MappedWords) (a v : ℕ) → memory n ≡ with_word (memory m) a v → n.regions ≡ m.regions
unfolding memory
regions_of m n a v h = ap (λ (x : Memory). x.regions) h

-- so many words are placed: what the others come to is what all come to
pub record IsPlacedSoFar (old new : MappedWords) (address : ℕ) (words : List ℕ) (at index : ℕ) : Type 0 where
  pub rest : placed (memory new).words at (drop index words) ≡ placed (memory old).words address words
  pub regions : new.regions ≡ old.regions
  pub are_words : AreWords old.regions (addresses at (length (drop index words)))

pub at_start : (m : MappedWords) (address : ℕ) (words : List ℕ) → first_event (kernel_view (memory m)) true (reverse (addresses address (length words)))
    ≡ None → IsPlacedSoFar m m address words address 0
at_start m address words h = record { rest = refl; regions = refl; are_words = writable m (addresses address (length words)) h }

pub here : (old new : MappedWords) (address : ℕ) (words : List ℕ) (at i : ℕ) → IsPlacedSoFar old new address words at i → i < length words
    → IsWord new.regions at
here old new address words at i p h = rw p.regions ((rw (drop-cons words i 0 h) at p.are_words).0)

pub one_more : (old new after : MappedWords) (address : ℕ) (words : List ℕ) (at i v : ℕ) → IsPlacedSoFar old new address words at i → i < length words
    → v ≡ get_or words i 0 → memory after ≡ with_word (memory new) at v → IsPlacedSoFar old after address words (wrap (at + 8)) (i + 1)
one_more old new after address words at i v p h e w = rw add-one (record {
  rest = ap (λ (m : Memory). placed m.words (wrap (at + 8)) (drop (suc i) words)) w
      ∙ ap (λ (x : ℕ). placed (with_word (memory new) at x).words (wrap (at + 8)) (drop (suc i) words)) e
      ∙ rw (drop-cons words i 0 h) at p.rest;
  regions = regions_of new after at v w ∙ p.regions;
  are_words = (rw (drop-cons words i 0 h) at p.are_words).1;
})

pub at_end : (old new : MappedWords) (address : ℕ) (words : List ℕ) (at i : ℕ) → IsPlacedSoFar old new address words at i → length words ≤ i
    → memory new ≡ record (memory old) { words = placed (memory old).words address words }
unfolding memory
at_end old new address words at i p h =
    let none : drop i words ≡ [] = grind (arith, common_steps) in
    joined new.regions old.regions (memory new).words (placed (memory old).words address words) p.regions (rw none at p.rest)
  where
    joined : (r s : List Region) (v w : NatMap ℕ) → r ≡ s → v ≡ w
        → (let x : Memory = record { regions = r; words = v } in x) ≡ (let y : Memory = record { regions = s; words = w } in y)
    joined r s v w h k = cc
