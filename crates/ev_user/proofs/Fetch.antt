-- What user code reads at RIP, in the text and in the zeros behind it.
use Rattle.std.proofs.Common.{◌≡◌, ℕ, zero, suc, ◌+◌, ◌-◌, ◌*◌, ◌/◌, ◌%◌, ◌^◌, ◌<◌, ◌≤◌, Bool, true, false, ◌&&◌, List, [], ◌∷◌, ◌++◌, length, take, drop, replicate, get_or, Option, Some, None, refl, sym, ap, ◌∙◌, arith}
use Rattle.std.specs.Prelude.{nat_lt, nat_le, if◌then◌else◌}
use Rattle.std.specs.Int.{w64, to_le_bytes}
use Rattle.std.proofs.lemmas.Bool.{leb-true, ltb-true, ltb-false, eq-eqb}
use Rattle.std.proofs.lemmas.List.{get_or-drop, get_or-take}
use Rattle.std.proofs.lemmas.Nat.{le_bytes_8}
use Rattle.std.proofs.Math.ListN.{drop_of_length-le}
use Rattle.ev_isa.specs.Word.{NatMap, NatSet, is_aligned}
use Rattle.ev_isa.specs.Pages.{Place, Text, Page, Lower, Upper, fault_at, text_base, page_base, place_of, text_word}
use Rattle.ev_isa.specs.Reading.{reading}
use Rattle.ev_mem.specs.Memory.{bytes_on, code_bytes}
use Rattle.ev_proc.specs.ProcessorStep.{instruction_at}
use Rattle.ev_abstract.specs.UserCode.{text_bytes}
use Rattle.ev_symbolic.proofs.Values.{and_left, and_right}
use Rattle.ev_fetch.specs.Claims.{HoldsText}
use Rattle.ev_fetch.proofs.Bytes.{bytes_from, at_place, same_word, small_at}
use Rattle.ev_fetch.proofs.Regions.{all_small}
use Rattle.ev_fetch.proofs.Text.{text_fetches}
use Rattle.ev_user.specs.Claims.{ReadsAlike}
use Rattle.ev_user.proofs.Zero.{unread_zero}

-- user code fetches in the text alone
pub record InText (a : ℕ) : Type 0 where
  pub from : text_base ≤ a
  pub to : a < text_base + 0x10000

pub fetched_in_text : (present : NatSet) (a : ℕ) → fault_at present (record { user = true; write = false; fetch = true }) (place_of a) ≡ None → InText a
unfolding fault_at place_of
fetched_in_text present a h =
    pick (nat_le text_base a && nat_lt a (text_base + 0x10000)) (nat_le page_base a && nat_lt a (page_base + 0x1000 * 256)) (nat_lt a (2 ^ 63))
    (present ((a - page_base) / 0x1000)) refl refl h
  where
    rule : Place → Option ℕ
    rule z = fault_at present (record { user = true; write = false; fetch = true }) z

    pick : (x y z b : Bool) → (nat_le text_base a && nat_lt a (text_base + 0x10000)) ≡ x → present ((a - page_base) / 0x1000) ≡ b
        → rule (if x then Text else (if y then Page ((a - page_base) / 0x1000) else (if z then Lower else Upper))) ≡ None → InText a
    pick true y z b q e k = record { from = leb-true text_base a (and_left _ _ q); to = ltb-true a (text_base + 0x10000) (and_right (nat_le text_base a) _ q) }
    pick false true z true q e k = absurd (let f : rule (Page ((a - page_base) / 0x1000)) ≡ Some 21
        = ap (λ b. if b then Some 21 else Some 20) e in cc)
    pick false true z false q e k = absurd (let f : rule (Page ((a - page_base) / 0x1000)) ≡ Some 20
        = ap (λ b. if b then Some 21 else Some 20) e in cc)
    pick false false true b q e k = absurd (cc)
    pick false false false b q e k = absurd (cc)

-- ---- behind the text

beyond : (xs : List ℕ) (i : ℕ) → length xs ≤ i → get_or xs i 0 ≡ 0
beyond [] i h = refl
beyond (x ∷ xs) zero h = absurd (omega arith)
beyond (x ∷ xs) (suc i) h = beyond xs i (omega arith)

at_front : (xs ys : List ℕ) (i : ℕ) → i < length xs → get_or (xs ++ ys) i 0 ≡ get_or xs i 0
at_front [] ys i h = absurd (omega arith)
at_front (x ∷ xs) ys zero h = refl
at_front (x ∷ xs) ys (suc i) h = at_front xs ys i (omega arith)

abbrev byte_at : List ℕ → ℕ → ℕ
byte_at text x = get_or text (x - text_base) 0

-- the bytes of a word of the text
word_bytes : (text : List ℕ) (words : NatMap ℕ) (b : ℕ) → ((i : ℕ) → get_or text i 0 < 256) → HoldsText text words → is_aligned b ≡ true → text_base ≤ b
    → b < text_base + 0x10000 → to_le_bytes w64 (words b) ≡ bytes_from (byte_at text) b 8
unfolding text_word
word_bytes text words b small holds al lo hi =
    le_bytes_8 (bytes_from (byte_at text) b 8) (words b) refl (small_at (byte_at text) (λ x. small (x - text_base)) b 8)
    (holds b al lo hi
    ∙ same_word (drop (b - text_base) text) (bytes_from (byte_at text) b 8)
    (λ i h. get_or-drop (b - text_base) text i 0 ∙ ap (λ n. get_or text n 0) (let e : b - text_base + i ≡ b + i - text_base = omega arith in e)
    ∙ sym (at_place (byte_at text) 8 b i h)))

-- the first byte that is fetched
first_byte : (words : NatMap ℕ) (a : ℕ) (f : ℕ → ℕ) → to_le_bytes w64 (words (a - a % 8)) ≡ bytes_from f (a - a % 8) 8
    → get_or (code_bytes words a) 0 0 ≡ f a
unfolding code_bytes
first_byte words a f h =
    let b : ℕ = a - a % 8 in
    let rest : List ℕ = bytes_on words (b + 8) 2 in
    get_or-take 15 (drop (a % 8) (to_le_bytes w64 (words b) ++ rest)) 0 0 (omega arith)
    ∙ get_or-drop (a % 8) (to_le_bytes w64 (words b) ++ rest) 0 0
    ∙ ap (λ n. get_or (to_le_bytes w64 (words b) ++ rest) n 0) (let e : a % 8 + 0 ≡ a % 8 = omega arith in e)
    ∙ ap (λ x. get_or (x ++ rest) (a % 8) 0) h
    ∙ at_front (bytes_from f b 8) rest (a % 8) (omega arith)
    ∙ at_place f 8 b (a % 8) (omega arith)
    ∙ ap f (let e : b + a % 8 ≡ a = omega arith in e)

-- is 0, and so it is of the text's bytes
zero_there : (text : List ℕ) (words : NatMap ℕ) (a : ℕ) → ((i : ℕ) → get_or text i 0 < 256) → HoldsText text words → InText a
    → text_base + length text ≤ a → get_or (code_bytes words a) 0 0 ≡ 0
zero_there text words a small holds t h =
    let lo : text_base ≤ a = t.from in
    let hi : a < text_base + 0x10000 = t.to in
    let b : ℕ = a - a % 8 in
    first_byte words a (byte_at text)
    (word_bytes text words b small holds (eq-eqb (b % 8) 0 (let e : b % 8 ≡ 0 = omega arith in e)) (omega arith) (omega arith))
    ∙ beyond text (a - text_base) (omega arith)

zero_text : (text : List ℕ) (a : ℕ) → text_base + length text ≤ a → get_or (text_bytes text a) 0 0 ≡ 0
zero_text text a h = ap (λ x. get_or (take 15 (x ++ replicate 15 0)) 0 0) (drop_of_length-le text (let e : length text ≤ a - text_base = omega arith in e))

pub reads_alike : ReadsAlike
reads_alike image u m is s a h =
    pick (nat_lt a (text_base + length image.text)) refl ∙ ap (λ text. reading (text_bytes text a)) (sym s.text_is)
  where
    t : InText a
    t = fetched_in_text u.present a h

    pick : (b : Bool) → nat_lt a (text_base + length image.text) ≡ b → instruction_at m.words a ≡ reading (text_bytes image.text a)
    pick true q = (text_fetches image m is s.regions_are s.holds a t.from (ltb-true _ _ q)).1
    pick false q =
        let l : text_base + length image.text ≤ a = ltb-false _ _ q in
        unread_zero (code_bytes m.words a) (zero_there image.text m.words a (all_small image.text is.text_bytes) s.holds t l)
        ∙ sym (unread_zero (text_bytes image.text a) (zero_text image.text a l))

-- ---- bytes of the text

small_append : (xs ys : List ℕ) → ((i : ℕ) → get_or xs i 0 < 256) → ((i : ℕ) → get_or ys i 0 < 256) → (i : ℕ) → get_or (xs ++ ys) i 0 < 256
small_append [] ys h k i = k i
small_append (x ∷ xs) ys h k zero = h 0
small_append (x ∷ xs) ys h k (suc i) = small_append xs ys (λ j. h (suc j)) k i

zeros_small : (n i : ℕ) → get_or (replicate n zero) i 0 < 256
zeros_small zero i = omega arith
zeros_small (suc n) zero = omega arith
zeros_small (suc n) (suc i) = zeros_small n i

small_take : (n : ℕ) (xs : List ℕ) → ((i : ℕ) → get_or xs i 0 < 256) → (i : ℕ) → get_or (take n xs) i 0 < 256
small_take zero xs h i = omega arith
small_take (suc n) [] h i = omega arith
small_take (suc n) (x ∷ xs) h zero = h 0
small_take (suc n) (x ∷ xs) h (suc i) = small_take n xs (λ j. h (suc j)) i

pub byte_small : (text : List ℕ) (a i : ℕ) → ((j : ℕ) → get_or text j 0 < 256) → get_or (text_bytes text a) i 0 < 256
byte_small text a i h =
    small_take 15 (drop (a - text_base) text ++ replicate 15 0)
    (small_append (drop (a - text_base) text) (replicate 15 0)
    (λ j. let f = get_or-drop (a - text_base) text j 0 in let g = h (a - text_base + j) in omega arith) (zeros_small 15)) i
