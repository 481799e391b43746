-- No instruction begins with a byte 0, and what is read has its spelling at the front.
use Rattle.std.proofs.Common.{◌≡◌, ℕ, ◌+◌, ◌%◌, ◌<◌, Bool, true, false, ◌&&◌, List, [], ◌∷◌, ◌++◌, get_or, Some, None, refl, sym, ap, ◌∙◌, arith}
use Rattle.std.specs.Prelude.{◌==◌, nat_lt, if◌then◌else◌, find}
use Rattle.std.proofs.lemmas.Bool.{eqb-true, ne_eqb}
use Rattle.ev_isa.specs.declared.instruction.Ins.{Ins}
use Rattle.ev_isa.specs.declared.instruction.Ins.TheVariants.{JmpReg, Push, Pop, IntN, MovGs, ReadCr2, WriteCr2}
use Rattle.ev_isa.specs.Instruction.{is_instruction}
use Rattle.ev_isa.specs.Spelling.{spelling, short_rex, registers}
use Rattle.ev_isa.specs.Reading.{is_prefix, forms, reading}
use Rattle.ev_symbolic.proofs.Values.{and_left, and_right}

find_none : {X : Type 0} (p : X → Bool) (xs : List X) → ((x : X) → p x ≡ false) → find p xs ≡ None
find_none p [] h = refl
find_none p (x ∷ xs) h = ap (λ b. if b then Some x else find p xs) (h x) ∙ find_none p xs h

find_some : {X : Type 0} (p : X → Bool) (xs : List X) (y : X) → find p xs ≡ Some y → p y ≡ true
find_some p [] y h = absurd (cc)
find_some p (x ∷ xs) y h = pick (p x) refl h (find_some p xs y)
  where
    pick : (b : Bool) → p x ≡ b → (if b then Some x else find p xs) ≡ Some y → (find p xs ≡ Some y → p y ≡ true) → p y ≡ true
    pick true q k f = let e : x ≡ y = cc in ap p (sym e) ∙ q
    pick false q k f = f k

-- a list that begins with another number
front : (xs bytes : List ℕ) → 0 < get_or xs 0 0 → get_or bytes 0 0 ≡ 0 → is_prefix xs bytes ≡ false
front [] bytes l h = absurd (omega arith)
front (x ∷ xs) [] l h = refl
front (x ∷ xs) (y ∷ ys) l h = ap (λ b. b && is_prefix xs ys) (ne_eqb x y (λ e. let z : ⊥ = omega arith in z))

short : (r x : ℕ) (xs : List ℕ) → 0 < x → 0 < get_or (short_rex r ++ x ∷ xs) 0 0
short r x xs l = pick (nat_lt r 8)
  where
    pick : (b : Bool) → 0 < get_or ((if b then [] else 0x41 ∷ []) ++ x ∷ xs) 0 0
    pick true = l
    pick false = omega arith

-- the first byte of each spelling
first_byte : (i : Ins) → 0 < get_or (spelling i) 0 0
unfolding spelling
first_byte (JmpReg s) = short s 0xff (registers 4 s) (omega arith)
first_byte (Push s) = short s (0x50 + s % 8) [] (omega arith)
first_byte (Pop d) = short d (0x58 + d % 8) [] (omega arith)
first_byte (MovGs s) = short s 0x8e (registers 5 s) (omega arith)
first_byte (ReadCr2 r) = short r 0x0f (0x20 ∷ registers 2 r) (omega arith)
first_byte (WriteCr2 r) = short r 0x0f (0x22 ∷ registers 2 r) (omega arith)
first_byte i = omega arith

-- bytes that begin with 0 are no instruction
pub unread_zero : (bytes : List ℕ) → get_or bytes 0 0 ≡ 0 → reading bytes ≡ None
unfolding reading
unread_zero bytes h =
    find_none (λ i. is_instruction i && is_prefix (spelling i) bytes) (forms bytes)
    (λ i. ap (λ b. is_instruction i && b) (front (spelling i) bytes (first_byte i) h) ∙ pick (is_instruction i))
  where
    pick : (b : Bool) → (b && false) ≡ false
    pick true = refl
    pick false = refl

-- what is read stands there
pub read_prefix : (bytes : List ℕ) (i : Ins) → reading bytes ≡ Some i → is_prefix (spelling i) bytes ≡ true
unfolding reading
read_prefix bytes i h = and_right (is_instruction i) _ (find_some (λ i. is_instruction i && is_prefix (spelling i) bytes) (forms bytes) i h)

-- the vector of an INT n is the byte behind its opcode
pub vector_byte : (bytes : List ℕ) (n : ℕ) → reading bytes ≡ Some (IntN n) → n ≡ get_or bytes 1 0
unfolding spelling
vector_byte bytes n h = pick bytes (read_prefix bytes (IntN n) h)
  where
    pick : (bs : List ℕ) → is_prefix (0xcd ∷ n ∷ []) bs ≡ true → n ≡ get_or bs 1 0
    pick [] k = absurd (cc)
    pick (x ∷ []) k = absurd (let z : false ≡ true = and_right (0xcd == x) false k in cc)
    pick (x ∷ y ∷ ys) k = eqb-true n y (and_left (n == y) true (and_right (0xcd == x) _ k))
