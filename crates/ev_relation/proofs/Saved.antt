-- What the saved area of a task that waits says, word by word.
use Rattle.std.proofs.Common.{◌≡◌, ℕ, zero, suc, ◌+◌, ◌-◌, ◌*◌, ◌^◌, ◌<◌, List, [], ◌∷◌, length, map, get_or, ap, sym, ◌∙◌, arith}
use Rattle.ev_isa.specs.Word.{NatMap, wrap}
use Rattle.ev_isa.specs.declared.mode.Mode.{Mode}
use Rattle.ev_isa.specs.declared.mode.Mode.TheVariants.{Idt, Fred}
use Rattle.ev_effect.specs.Task.{Task}
use Rattle.ev_effect.specs.Frame.{addresses}
use Rattle.ev_listing.specs.AddressMap.{stack_top}
use Rattle.ev_concrete.specs.LiveWords.{area_bytes}
use Rattle.ev_deliver.proofs.FredDelivers.{listed_is}
use Rattle.ev_relation.specs.Tasks.{order, IsSaved}

-- word k of those from an address up
word_at : (words : NatMap ℕ) (a n k : ℕ) → k < n → a + 8 * n < 2 ^ 64 → words (a + 8 * k) ≡ get_or (map words (addresses a n)) k 0
word_at words a zero k l h = absurd (omega arith)
word_at words a (suc n) zero l h = ap words (let e : a + 8 * 0 ≡ a = omega arith in e)
word_at words a (suc n) (suc k) l h =
    let next : wrap (a + 8) ≡ a + 8 = omega arith in
    ap words (let e : a + 8 * suc k ≡ a + 8 + 8 * k = omega arith in e)
    ∙ word_at words (a + 8) n k (omega arith) (omega arith)
    ∙ ap (λ b. get_or (map words (addresses b n)) k 0) (sym next)

-- the registers of a task in a saved area that begins at an address
abbrev pub saved_registers : NatMap ℕ → ℕ → List ℕ
saved_registers words a =
    words (a + 0x70) ∷ words (a + 0x68) ∷ words (a + 0x60) ∷ words (a + 0x58) ∷ words (a + 0xa0) ∷ words (a + 0x50) ∷ words (a + 0x48) ∷ words (a + 0x40)
    ∷ words (a + 0x38) ∷ words (a + 0x30) ∷ words (a + 0x28) ∷ words (a + 0x20) ∷ words (a + 0x18) ∷ words (a + 0x10) ∷ words (a + 8) ∷ words a ∷ []

pub registers_saved : (mode : Mode) (p n : ℕ) (t : Task) (words : NatMap ℕ) → p < 32 → n < 7 → length t.regs ≡ 16 → IsSaved mode p n t words
    → saved_registers words (stack_top p n - area_bytes mode) ≡ t.regs
registers_saved mode p n t words hp hn long saved = (λ i. one 14 (omega arith) i ∷ one 13 (omega arith) i ∷ one 12 (omega arith) i ∷ one 11 (omega arith) i
    ∷ saved.rsp i ∷ one 10 (omega arith) i ∷ one 9 (omega arith) i ∷ one 8 (omega arith) i
    ∷ one 7 (omega arith) i ∷ one 6 (omega arith) i ∷ one 5 (omega arith) i ∷ one 4 (omega arith) i
    ∷ one 3 (omega arith) i ∷ one 2 (omega arith) i ∷ one 1 (omega arith) i ∷ lowest i ∷ [])
    ∙ sym (listed_is t.regs long)
  where
    small : (mode : Mode) → stack_top p n - area_bytes mode + 8 * 15 < 2 ^ 64
    small Idt = omega arith
    small Fred = omega arith

    one : (k : ℕ) → k < 15 → words (stack_top p n - area_bytes mode + 8 * k) ≡ get_or (map (λ r. get_or t.regs r 0) order) k 0
    one k l = word_at words (stack_top p n - area_bytes mode) 15 k l (small mode) ∙ ap (λ xs. get_or xs k 0) saved.regs

    lowest : words (stack_top p n - area_bytes mode) ≡ get_or t.regs 15 0
    lowest =
        ap words (let e : stack_top p n - area_bytes mode ≡ stack_top p n - area_bytes mode + 8 * 0 = omega arith in e) ∙ one 0 (omega arith)
