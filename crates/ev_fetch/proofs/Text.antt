-- User code fetches the bytes of the text.
use Rattle.std.proofs.Common.{◌≡◌, ℕ, zero, suc, ◌+◌, ◌-◌, ◌%◌, ◌<◌, ◌≤◌, true, false, List, [], ◌∷◌, ◌++◌, length, drop, replicate, get_or, refl, sym, ap, ◌∙◌, arith, length-append}
use Rattle.std.specs.Int.{w64, from_le_bytes}
use Rattle.std.proofs.lemmas.Bool.{eqb-true}
use Rattle.std.proofs.lemmas.List.{get_or-drop, get_or-take, length-take-le}
use Rattle.ev_isa.specs.Word.{NatMap}
use Rattle.ev_isa.specs.Pages.{text_base, text_word, fault_at}
use Rattle.ev_isa.specs.Reading.{reading}
use Rattle.ev_mem.specs.Memory.{place_in, present_in, code_bytes}
use Rattle.ev_abstract.specs.UserCode.{text_bytes}
use Rattle.ev_concrete.specs.Opening.{regions}
use Rattle.ev_fetch.specs.Claims.{HoldsText, TextFetches}
use Rattle.ev_fetch.proofs.Bytes.{bytes_from, at_place, same_bytes, same_word, code_back}
use Rattle.ev_fetch.proofs.Regions.{text_place, all_small}

-- the byte of the text at an address
abbrev byte_at : List ℕ → ℕ → ℕ
byte_at text a = get_or text (a - text_base) 0

zeros : (n i : ℕ) → get_or (replicate n zero) i 0 ≡ zero
zeros zero i = refl
zeros (suc n) zero = refl
zeros (suc n) (suc i) = zeros n i

padded : (xs : List ℕ) (n i : ℕ) → get_or (xs ++ replicate n zero) i 0 ≡ get_or xs i 0
padded [] n i = zeros n i
padded (x ∷ xs) n zero = refl
padded (x ∷ xs) n (suc i) = padded xs n i

text_length : (text : List ℕ) (a : ℕ) → length (text_bytes text a) ≡ 15
text_length text a = length-take-le 15 (drop (a - text_base) text ++ replicate 15 0) (omega (arith, length-append (drop (a - text_base) text) (replicate 15 0)))

text_at : (text : List ℕ) (a i : ℕ) → text_base ≤ a → i < 15 → byte_at text (a + i) ≡ get_or (text_bytes text a) i 0
text_at text a i l h =
    let e : a + i - text_base ≡ a - text_base + i = omega arith in
    ap (λ n. get_or text n 0) e
    ∙ sym (get_or-take 15 (drop (a - text_base) text ++ replicate 15 0) i 0 h ∙ padded (drop (a - text_base) text) 15 i ∙ get_or-drop (a - text_base) text i 0)

word_of_bytes : (text : List ℕ) (b : ℕ) → text_base ≤ b → text_word text b ≡ from_le_bytes w64 (bytes_from (byte_at text) b 8)
unfolding text_word
word_of_bytes text b l = same_word (drop (b - text_base) text) (bytes_from (byte_at text) b 8)
    (λ i h. get_or-drop (b - text_base) text i 0 ∙ ap (λ n. get_or text n 0) (omega arith) ∙ sym (at_place (byte_at text) 8 b i h))

-- what memory has at an address of the text
text_there : (text : List ℕ) (words : NatMap ℕ) (a : ℕ) → ((i : ℕ) → get_or text i 0 < 256) → length text ≤ 65520 → HoldsText text words → text_base ≤ a
    → a < text_base + length text
    → code_bytes words a ≡ text_bytes text a
text_there text words a small short holds l h =
    code_back (byte_at text) (λ x. small (x - text_base)) words a
    (λ b al lo hi. let even : b % 8 ≡ 0 = eqb-true (b % 8) 0 al in let from : text_base ≤ b = omega arith in
    holds b al from (omega arith) ∙ word_of_bytes text b from)
    ∙ ap (bytes_from (byte_at text) a) (sym (text_length text a))
    ∙ same_bytes (byte_at text) (text_bytes text a) a (λ j k. text_at text a j l (let n = text_length text a in omega arith))

pub text_fetches : TextFetches
unfolding fault_at
text_fetches image m is e holds a l h =
    let short = is.text_fits in
    let place : place_in m.regions a ≡ place_in (regions image) a = ap (λ rs. place_in rs a) e in (
      ap (fault_at (present_in m) (record { user = true; write = false; fetch = true })) (place ∙ text_place image a is l (omega arith)),
      ap reading (text_there image.text m.words a (all_small image.text is.text_bytes) is.text_fits holds l h),
    )
