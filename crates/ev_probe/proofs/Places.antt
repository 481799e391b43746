-- Words among the stacks: that the kernel accesses them, what they hold, and what is placed there.
use Rattle.std.proofs.Common.{◌≡◌, ℕ, zero, suc, ◌+◌, ◌-◌, ◌*◌, ◌^◌, ◌<◌, ◌≤◌, Bool, true, false, not, ◌==◌, List, [], ◌∷◌, length, reverse, map, Option, Some, refl, ap, ◌∙◌, arith}
use Rattle.std.specs.Prelude.{if◌then◌else◌}
use mathlib.Core.List.{reverse_aux}
use Rattle.std.proofs.lemmas.Bool.Decides.{nat_tests}
use Rattle.ev_isa.specs.Word.{NatMap, is_aligned, is_canonical, put_at, wrap}
use Rattle.ev_event.specs.declared.event.Event.{Event}
use Rattle.ev_event.specs.Event.{ac, ss}
use Rattle.ev_effect.specs.Effect.{access_event, page_event}
use Rattle.ev_effect.specs.Frame.{addresses, first_event, or_else, placed}
use Rattle.ev_mem.specs.Memory.{Memory, data_access, page_fault, view}
use Rattle.ev_listing.specs.AddressMap.{stack_top}
use Rattle.ev_probe.specs.BareMemory.{IsInStacks}

-- all addresses of a list lie among the stacks
abbrev pub AllIn : List ℕ → Type 0
AllIn [] = Unit {0}
AllIn (a ∷ as') = IsInStacks a × AllIn as'

in_turned : (xs ys : List ℕ) → AllIn xs → AllIn ys → AllIn (reverse_aux xs ys)
in_turned [] ys p q = q
in_turned (x ∷ xs) ys p q = in_turned xs (x ∷ ys) p.1 (p.0, q)

pub in_reverse : (xs : List ℕ) → AllIn xs → AllIn (reverse xs)
in_reverse xs p = in_turned xs [] p tt

-- words of a frame that lies among the stacks
pub in_addresses : (n a : ℕ) → stack_top 0 0 - 0x4000 ≤ a → a + 8 * n ≤ stack_top 0 6 → AllIn (addresses a n)
in_addresses zero a l h = tt
in_addresses (suc zero) a l h = ((l, omega arith), tt)
in_addresses (suc (suc n)) a l h =
    let next : wrap (a + 8) ≡ a + 8 = omega arith in
    ((l, omega arith), in_addresses (suc n) (wrap (a + 8)) (omega arith) (omega arith))

-- ---- memories with the same faults

-- the kernel's accesses among the stacks have the same page faults
abbrev pub HaveSameFaults : Memory → Memory → Type 0
HaveSameFaults m n = (a : ℕ) → IsInStacks a → (write : Bool) → page_fault m (data_access false write) a ≡ page_fault n (data_access false write) a

access_same : (m n : Memory) (write : Bool) (bad : Event) (a : ℕ) → HaveSameFaults m n → IsInStacks a
    → access_event (view m false) write bad a ≡ access_event (view n false) write bad a
unfolding access_event
access_same m n write bad a h p =
    ap (λ (o : Option ℕ). if not (is_canonical a) then Some bad else (if not (is_aligned a) then Some ac else page_event o a)) (h a p write)

pub first_same : (m n : Memory) (write : Bool) (as' : List ℕ) → HaveSameFaults m n → AllIn as'
    → first_event (view m false) write as' ≡ first_event (view n false) write as'
first_same m n write [] h p = refl
first_same m n write (a ∷ as') h p =
    ap (λ (o : Option Event). or_else o (first_event (view m false) write as')) (access_same m n write (ss 0) a h p.0)
    ∙ ap (or_else (access_event (view n false) write (ss 0) a)) (first_same m n write as' h p.1)

-- ---- memories with the same words

-- among the stacks
abbrev pub HaveSameWords : NatMap ℕ → NatMap ℕ → Type 0
HaveSameWords v w = (a : ℕ) → IsInStacks a → v a ≡ w a

pub map_same : (v w : NatMap ℕ) (as' : List ℕ) → HaveSameWords v w → AllIn as' → map v as' ≡ map w as'
map_same v w [] h p = refl
map_same v w (a ∷ as') h p = ap (λ (x : ℕ). x ∷ map v as') (h a p.0) ∙ ap (λ (xs : List ℕ). w a ∷ xs) (map_same v w as' h p.1)

put_same : (v w : NatMap ℕ) (k x a : ℕ) (t : Bool) → v a ≡ w a → (let l : ℕ = elim t [ true ↦ x | false ↦ v a ] in l) ≡
    (let r : ℕ = elim t [ true ↦ x | false ↦ w a ] in r)
put_same v w k x a true h = refl
put_same v w k x a false h = h

pub placed_same : (v w : NatMap ℕ) (k : ℕ) (ws : List ℕ) → HaveSameWords v w → HaveSameWords (placed v k ws) (placed w k ws)
placed_same v w k [] h = h
placed_same v w k (x ∷ xs) h = placed_same (put_at v k x) (put_at w k x) (wrap (k + 8)) xs (λ a p. put_same v w k x a (a == k) (h a p))

-- what is placed elsewhere changes no word
other_put : (w : NatMap ℕ) (x a : ℕ) (t : Bool) → t ≡ false → (let l : ℕ = elim t [ true ↦ x | false ↦ w a ] in l) ≡ w a
other_put w x a true h = absurd cc
other_put w x a false h = refl

pub placed_other : (w : NatMap ℕ) (k : ℕ) (ws : List ℕ) (a : ℕ) → a < k → k + 8 * length ws < 2 ^ 64 → placed w k ws a ≡ w a
placed_other w k [] a l h = refl
placed_other w k (x ∷ xs) a l h =
    let next : wrap (k + 8) ≡ k + 8 = omega arith in
    let ne : (a == k) ≡ false = grind (arith, nat_tests) in
    placed_other (put_at w k x) (wrap (k + 8)) xs a (omega arith) (omega arith) ∙ other_put w x a (a == k) ne
