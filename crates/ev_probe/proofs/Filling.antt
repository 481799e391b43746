-- Words that are filled one after another.
use Rattle.std.proofs.Common.{◌≡◌, ℕ, ◌+◌, ◌*◌, ◌<◌, ◌≤◌, ◌⊎◌, ⊎_elim, inl, inr, Bool, true, false, ◌==◌, refl, ap, sym, ◌∙◌, arith, eqb-true}
use Rattle.std.proofs.lemmas.Bool.{eq-eqb, ne_eqb}
use Rattle.std.proofs.lemmas.Bool.Decides.{nat_tests}
use Rattle.ev_isa.specs.Word.{NatMap, put_at}
use Rattle.ev_mem.specs.Access.{with_word}
use Rattle.ev_mem.specs.Mapped.{MappedWords, memory}
use Rattle.ev_listing.specs.AddressMap.{idt_base, pcpu, stack_top}
use Rattle.ev_concrete.specs.Opening.{idt_word}
use Rattle.ev_probe.specs.BareMemory.{HoldsGates, HoldsStacks}

pub regions_kept : (m n : MappedWords) (a v : ℕ) → memory m ≡ with_word (memory n) a v → m.regions ≡ n.regions
unfolding memory
regions_kept m n a v h = ap (λ x. x.regions) h

pub words_put : (m n : MappedWords) (a v : ℕ) → memory m ≡ with_word (memory n) a v → (b : ℕ) → (memory m).words b ≡ put_at (memory n).words a v b
words_put m n a v h b = ap (λ x. x.words b) h

-- the word that was put, and another
pub put_here : (w : NatMap ℕ) (a x b : ℕ) → b ≡ a → put_at w a x b ≡ x
put_here w a x b h = by (b == a) (eq-eqb b a h)
  where
    by : (t : Bool) → t ≡ true → (let l : ℕ = elim t [ true ↦ x | false ↦ w b ] in l) ≡ x
    by true e = refl
    by false e = absurd cc

pub put_other : (w : NatMap ℕ) (a x b : ℕ) → (b < a) ⊎ (a < b) → put_at w a x b ≡ w b
put_other w a x b h = by (b == a) (ne_eqb b a (λ e. ⊎_elim (λ k. absurd (omega arith)) (λ k. absurd (omega arith)) h))
  where
    by : (t : Bool) → t ≡ false → (let l : ℕ = elim t [ true ↦ x | false ↦ w b ] in l) ≡ w b
    by true e = absurd cc
    by false e = refl

-- one word of the IDT more
pub gates_more : (n : ℕ) (w w' : NatMap ℕ) (a x : ℕ) → HoldsGates n w → a ≡ idt_base + 8 * n → ((b : ℕ) → w' b ≡ put_at w a x b) → x ≡ idt_word n
    → HoldsGates (n + 1) w'
gates_more n w w' a x h ha hw hx k l = hw (idt_base + 8 * k) ∙ by (k == n) refl
  where
    by : (t : Bool) → (k == n) ≡ t → put_at w a x (idt_base + 8 * k) ≡ idt_word k
    by true e =
        let same : k ≡ n = eqb-true k n e in
        put_here w a x (idt_base + 8 * k) (omega arith) ∙ hx ∙ ap idt_word (sym same)
    by false e =
        let less : k < n = grind (arith, nat_tests) in
        put_other w a x (idt_base + 8 * k) (inl (omega arith)) ∙ h k less

-- no other word
pub other_words : (w : NatMap ℕ) (n a x b : ℕ) → a ≡ idt_base + 8 * n → n < 512 → (b < idt_base) ⊎ (idt_base + 0x1000 ≤ b) → put_at w a x b ≡ w b
other_words w n a x b ha l h = put_other w a x b (⊎_elim (λ k. inl (omega arith)) (λ k. inr (omega arith)) h)

-- the three words of the TSS, one after another
pub stacks_put : (w w1 w2 w3 : NatMap ℕ) (x y z : ℕ) → ((a : ℕ) → w1 a ≡ put_at w (pcpu 0 + 0x408) x a)
    → ((a : ℕ) → w2 a ≡ put_at w1 (pcpu 0 + 0x428) y a) → ((a : ℕ) → w3 a ≡ put_at w2 (pcpu 0 + 0x430) z a)
    → x ≡ stack_top 0 0 → y ≡ stack_top 0 4 → z ≡ stack_top 0 5 → HoldsStacks w3
stacks_put w w1 w2 w3 x y z h1 h2 h3 ex ey ez = record {
  rsp0 = h3 (pcpu 0 + 0x408) ∙ put_other w2 (pcpu 0 + 0x430) z (pcpu 0 + 0x408) (inl (omega arith)) ∙ h2 (pcpu 0 + 0x408)
      ∙ put_other w1 (pcpu 0 + 0x428) y (pcpu 0 + 0x408) (inl (omega arith)) ∙ h1 (pcpu 0 + 0x408)
      ∙ put_here w (pcpu 0 + 0x408) x (pcpu 0 + 0x408) refl ∙ ex;
  ist1 = h3 (pcpu 0 + 0x428) ∙ put_other w2 (pcpu 0 + 0x430) z (pcpu 0 + 0x428) (inl (omega arith)) ∙ h2 (pcpu 0 + 0x428)
      ∙ put_here w1 (pcpu 0 + 0x428) y (pcpu 0 + 0x428) refl ∙ ey;
  ist2 = h3 (pcpu 0 + 0x430) ∙ put_here w2 (pcpu 0 + 0x430) z (pcpu 0 + 0x430) refl ∙ ez;
}

pub other_stacks : (w w1 w2 w3 : NatMap ℕ) (x y z : ℕ) → ((a : ℕ) → w1 a ≡ put_at w (pcpu 0 + 0x408) x a)
    → ((a : ℕ) → w2 a ≡ put_at w1 (pcpu 0 + 0x428) y a) → ((a : ℕ) → w3 a ≡ put_at w2 (pcpu 0 + 0x430) z a)
    → (a : ℕ) → (a < pcpu 0) ⊎ (pcpu 0 + 0x10000 ≤ a) → w3 a ≡ w a
other_stacks w w1 w2 w3 x y z h1 h2 h3 a h =
    h3 a ∙ put_other w2 (pcpu 0 + 0x430) z a (apart 0x430 (omega arith)) ∙ h2 a ∙ put_other w1 (pcpu 0 + 0x428) y a (apart 0x428 (omega arith))
    ∙ h1 a ∙ put_other w (pcpu 0 + 0x408) x a (apart 0x408 (omega arith))
  where
    apart : (o : ℕ) → o < 0x10000 → (a < pcpu 0 + o) ⊎ (pcpu 0 + o < a)
    apart o l = ⊎_elim (λ k. inl (omega arith)) (λ k. inr (omega arith)) h
