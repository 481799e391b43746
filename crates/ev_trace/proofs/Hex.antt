-- Hexadecimal digits, the last one apart.
use Rattle.std.proofs.Common.{◌≡◌, ℕ, ◌+◌, ◌/◌, ◌%◌, ◌^◌, ◌<◌, ◌≤◌, zero, suc, false, cond, List, [], ◌∷◌, ◌++◌, length, refl, sym, ap, ◌∙◌, arith, append_assoc, length-append}
use Rattle.std.proofs.Math.Logic.{⊎_elim}
use Rattle.std.proofs.lemmas.Bool.{cases_lt, eq-eqb, ne_eqb}
use Rattle.std.specs.Fmt.{digits, digit_glyph, digits_onto}
use Rattle.ev_abstract.specs.EntryText.{hex}

abbrev spell : ℕ → ℕ → List ℕ → List ℕ
spell k n acc = digits_onto k 16 false n acc

abbrev last_glyph : ℕ → ℕ
last_glyph n = digit_glyph false (n % 16)

spell_last : (k n : ℕ) (acc : List ℕ) → n < 16 → spell (suc k) n acc ≡ last_glyph n ∷ acc
spell_last k n acc h = ap (λ t. cond t (last_glyph n ∷ acc) (spell k (n / 16) (last_glyph n ∷ acc))) (eq-eqb (n / 16) 0 (omega arith))

spell_next : (k n : ℕ) (acc : List ℕ) → 16 ≤ n → spell (suc k) n acc ≡ spell k (n / 16) (last_glyph n ∷ acc)
spell_next k n acc h = ap (λ t. cond t (last_glyph n ∷ acc) (spell k (n / 16) (last_glyph n ∷ acc))) (ne_eqb (n / 16) 0 (λ e. omega arith))

spell-append : (k n : ℕ) (acc : List ℕ) → spell k n acc ≡ spell k n [] ++ acc
spell-append zero n acc = refl
spell-append (suc k) n acc = ⊎_elim
    (λ l. spell_last k n acc l ∙ ap (λ x. x ++ acc) (sym (spell_last k n [] l)))
    (λ l. spell_next k n acc l ∙ spell-append k (n / 16) (last_glyph n ∷ acc) ∙ sym (append_assoc (spell k (n / 16) []) (last_glyph n ∷ []) acc)
    ∙ ap (λ x. x ++ acc) (sym (spell_next k n [] l ∙ spell-append k (n / 16) (last_glyph n ∷ []))))
    (cases_lt n 16)

-- one more place changes nothing where the digits fit
spell_enough : (j n : ℕ) (acc : List ℕ) → n < 16 ^ suc j → spell (suc j) n acc ≡ spell (suc (suc j)) n acc
spell_enough zero n acc p = spell_last zero n acc (omega arith) ∙ sym (spell_last 1 n acc (omega arith))
spell_enough (suc j) n acc p = ⊎_elim
    (λ l. spell_last (suc j) n acc l ∙ sym (spell_last (suc (suc j)) n acc l))
    (λ l. spell_next (suc j) n acc l ∙ spell_enough j (n / 16) (last_glyph n ∷ acc) (omega arith) ∙ sym (spell_next (suc (suc j)) n acc l))
    (cases_lt n 16)

pub hex_small : (n : ℕ) → n < 16 → hex n ≡ digit_glyph false n ∷ []
unfolding digits
hex_small n h = let same : n % 16 ≡ n = omega arith in spell_last 63 n [] h ∙ ap (λ d. digit_glyph false d ∷ []) same

pub hex_step : (n : ℕ) → 16 ≤ n → n < 2 ^ 64 → hex n ≡ hex (n / 16) ++ (digit_glyph false (n % 16) ∷ [])
unfolding digits
hex_step n h small = spell_next 63 n [] h ∙ spell_enough 62 (n / 16) (last_glyph n ∷ []) (omega arith) ∙ spell-append 64 (n / 16) (last_glyph n ∷ [])

pub length-hex-step : (n : ℕ) → 16 ≤ n → n < 2 ^ 64 → length (hex n) ≡ length (hex (n / 16)) + 1
length-hex-step n h small = ap length (hex_step n h small) ∙ length-append (hex (n / 16)) (digit_glyph false (n % 16) ∷ [])

length-hex-le : (k n : ℕ) → n < 16 ^ suc k → n < 2 ^ 64 → length (hex n) ≤ suc k
length-hex-le zero n h small = omega (arith, ap length (hex_small n (omega arith)))
length-hex-le (suc k) n h small = ⊎_elim
    (λ l. omega (arith, ap length (hex_small n l)))
    (λ l. omega (arith, length-hex-step n l small, length-hex-le k (n / 16) (omega arith) (omega arith)))
    (cases_lt n 16)

pub length_hex_word : (n : ℕ) → n < 2 ^ 64 → length (hex n) ≤ 16
length_hex_word n h = length-hex-le 15 n (omega arith) h
