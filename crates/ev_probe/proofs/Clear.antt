-- The words of a return can be written at its stack pointer.
use Rattle.std.proofs.Common.{◌≡◌, ℕ, zero, suc, ◌+◌, ◌-◌, ◌*◌, ◌%◌, ◌<◌, ◌≤◌, true, false, List, [], ◌∷◌, reverse, Option, Some, None, refl, sym, ◌∙◌, arith, eqb-true}
use mathlib.Core.List.{reverse_aux}
use Rattle.std.proofs.lemmas.Bool.{eq-eqb}
use Rattle.ev_isa.specs.Word.{bit, is_aligned, is_canonical, wrap}
use Rattle.ev_event.specs.declared.event.Event.{Event}
use Rattle.ev_event.specs.Event.{ss}
use Rattle.ev_effect.specs.Effect.{access_event}
use Rattle.ev_effect.specs.Frame.{addresses, first_event}
use Rattle.ev_mem.specs.Memory.{Memory, data_access, page_fault, view}
use Rattle.ev_listing.specs.AddressMap.{stack_top}
use Rattle.ev_tables.proofs.Gates.{upper_canonical}
use Rattle.ev_probe.specs.declared.line.Values.{Values}
use Rattle.ev_probe.specs.BareMemory.{few_regions}
use Rattle.ev_probe.proofs.Lines.{IsReturnStack}
use Rattle.ev_probe.proofs.Regions.{in_stack, kernel_accesses}

-- the kernel writes a word
pub record IsClear (m : Memory) (a : ℕ) : Type 0 where
  pub canonical : is_canonical a ≡ true
  pub aligned : is_aligned a ≡ true
  pub mapped : page_fault m (data_access false true) a ≡ None

abbrev AllClear : Memory → List ℕ → Type 0
AllClear m [] = Unit {0}
AllClear m (a ∷ as') = IsClear m a × AllClear m as'

clear_turned : (m : Memory) (xs ys : List ℕ) → AllClear m xs → AllClear m ys → AllClear m (reverse_aux xs ys)
clear_turned m [] ys p q = q
clear_turned m (x ∷ xs) ys p q = clear_turned m xs (x ∷ ys) p.1 (p.0, q)

no_event : (m : Memory) (a : ℕ) → IsClear m a → access_event (view m false) true (ss 0) a ≡ None
unfolding access_event
no_event m a c = let p = c.canonical in let q = c.aligned in let r = c.mapped in rw (p, q, r) refl

none_first : (m : Memory) (as' : List ℕ) → AllClear m as' → first_event (view m false) true as' ≡ None
none_first m [] p = refl
none_first m (a ∷ as') p = let e = no_event m a p.0 in let k = none_first m as' p.1 in rw (e, k) refl

all_clear : (m : Memory) (bad s k a : ℕ) → m.regions ≡ few_regions bad → s < 7 → bit s bad ≡ false → a % 8 ≡ 0 → stack_top 0 s - 0x2000 ≤ a
    → a + 8 * k ≤ stack_top 0 s → AllClear m (addresses a k)
all_clear m bad s zero a e l b al lo hi = tt
all_clear m bad s (suc k) a e l b al lo hi =
    let next : wrap (a + 8) ≡ a + 8 = omega arith in (
      record {
        canonical = upper_canonical a (omega arith) (omega arith);
        aligned = eq-eqb (a % 8) 0 al;
        mapped = kernel_accesses m bad true a e (in_stack bad s a l b lo (omega arith));
      },
      all_clear m bad s k (wrap (a + 8)) e l b (omega arith) (omega arith) (omega arith),
    )

pub return_clear : (m : Memory) (v : Values) (k : ℕ) → m.regions ≡ few_regions v.bad → IsReturnStack v → k ≤ 8
    → first_event (view m false) true (reverse (addresses v.rsp k)) ≡ None
return_clear m v k e s l =
    let o = s.on in
    let lo = o.low in let hi = o.high in
    none_first m (reverse (addresses v.rsp k)) (clear_turned m (addresses v.rsp k) []
    (all_clear m v.bad s.number k v.rsp e o.number o.mapped (eqb-true (v.rsp % 8) 0 s.aligned) lo (omega arith)) tt)

pub no_some : (o : Option Event) (e : Event) → o ≡ None → o ≡ Some e → ⊥
no_some o e h k = absurd (let c : None ≡ Some e = sym h ∙ k in cc)
