-- The words of a processor's area at the opening, by their offsets; and words one behind the other.
use Rattle.std.proofs.Common.{◌≡◌, ℕ, suc, ◌+◌, ◌-◌, ◌*◌, ◌/◌, ◌%◌, ◌^◌, ◌<◌, ◌≤◌, true, false, List, [], ◌∷◌, get_or, length, map, refl, ap, ◌∙◌, arith}
use Rattle.std.specs.Prelude.{nat_lt, nat_le}
use Rattle.std.proofs.lemmas.Bool.{eq-eqb, le-leb, lt-ltb, lt-leb, le-ltb}
use Rattle.ev_isa.specs.Word.{NatMap, wrap, is_aligned}
use Rattle.ev_isa.specs.declared.mode.Mode.{Mode}
use Rattle.ev_body.specs.declared.image.Image.{Image}
use Rattle.ev_effect.specs.Frame.{addresses}
use Rattle.ev_listing.specs.AddressMap.{pcpu, stack_top, fred_page}
use Rattle.ev_concrete.specs.Opening.{Placed, opening_word, word_there, pcpu_word}

pub opening_area : (es : Placed) (mode : Mode) (image : Image) (p o : ℕ) → p < image.processors → image.processors ≤ 8 → o < 0x10000 → o % 8 ≡ 0
    → opening_word es mode image (pcpu p + o) ≡ pcpu_word p o
unfolding opening_word word_there
opening_area es mode image p o hp few lt al =
    let a : ℕ = pcpu p + o in
    let aligned : is_aligned a ≡ true = eq-eqb (a % 8) 0 (omega arith) in
    let upper : nat_lt a (2 ^ 63) ≡ false = le-ltb a (2 ^ 63) (omega arith) in
    let code : nat_le fred_page a ≡ false = lt-leb fred_page a (omega arith) in
    let stacks : nat_le (stack_top 0 0 - 0x4000) a ≡ false = lt-leb (stack_top 0 0 - 0x4000) a (omega arith) in
    let from : nat_le (pcpu 0) a ≡ true = le-leb (pcpu 0) a (omega arith) in
    let to : nat_lt a (pcpu 0 + 0x10000 * image.processors) ≡ true = lt-ltb a (pcpu 0 + 0x10000 * image.processors) (omega arith) in
    let number : (a - pcpu 0) / 0x10000 ≡ p = omega arith in
    let offset : a % 0x10000 ≡ o = omega arith in
    rw (aligned, upper, code, stacks, from, to) (λ i. pcpu_word (number i) (offset i))

-- the words from an address up
pub words_map : (m : NatMap ℕ) (ws : List ℕ) (a : ℕ) → a + 8 * length ws < 2 ^ 64 → ((k : ℕ) → k < length ws → m (a + 8 * k) ≡ get_or ws k 0)
    → map m (addresses a (length ws)) ≡ ws
words_map m [] a h f = refl
words_map m (w ∷ ws) a h f =
    let next : wrap (a + 8) ≡ a + 8 = omega arith in
    (λ i. (ap m (let e : a ≡ a + 8 * 0 = omega arith in e) ∙ f 0 (omega arith)) i ∷ map m (addresses (next i) (length ws)))
    ∙ ap (λ xs. w ∷ xs) (words_map m ws (a + 8) (omega arith)
    (λ k l. ap m (let e : a + 8 + 8 * k ≡ a + 8 * suc k = omega arith in e) ∙ f (suc k) (omega arith)))
