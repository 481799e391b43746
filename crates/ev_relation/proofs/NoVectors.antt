-- Words of no vector.
use Rattle.std.proofs.Common.{◌≡◌, ℕ, suc, ◌/◌, ◌%◌, ◌^◌, ◌<◌, zero, false, ◌&&◌, ◌||◌, List, [], ◌∷◌, get_or, refl, ap, ◌∙◌, arith}
use Rattle.std.specs.Prelude.{◌==◌}
use Rattle.std.specs.List.{list_any}
use Rattle.std.proofs.Math.Nat.{zero-div}
use Rattle.ev_isa.specs.Word.{bit}
use Rattle.ev_apic.specs.Vectors.{vectors_of}

abbrev pub no_words : List ℕ
no_words = 0 ∷ 0 ∷ 0 ∷ 0 ∷ []

zeros : (n : ℕ) → get_or no_words n 0 ≡ 0
zeros zero = refl
zeros (suc zero) = refl
zeros (suc (suc zero)) = refl
zeros (suc (suc (suc zero))) = refl
zeros (suc (suc (suc (suc n)))) = refl

pub zero_words : (i : ℕ) → get_or no_words i 0 < 2 ^ 64
zero_words i = let z = zeros i in omega arith

pub no_vector : (v : ℕ) → vectors_of no_words v ≡ false
no_vector v = ap (bit (v % 64)) (zeros (v / 64)) ∙ ap (λ q. q % 2 == 1) (zero-div (2 ^ (v % 64)))

pub none_served : (class : ℕ) (vs : List ℕ) → list_any (λ v. vectors_of no_words v && (v / 16 == class)) vs ≡ false
none_served class [] = refl
none_served class (v ∷ vs) = ap (λ b. (b && (v / 16 == class)) || list_any (λ v. vectors_of no_words v && (v / 16 == class)) vs) (no_vector v)
    ∙ none_served class vs
