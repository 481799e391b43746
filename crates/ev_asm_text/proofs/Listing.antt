-- The lines of a text, one line further.
use Rattle.std.proofs.Common.{◌≡◌, ℕ, zero, suc, ◌+◌, ◌%◌, ◌<◌, ◌≤◌, List, [], ◌∷◌, ◌++◌, length, take, drop, get_or, Option, Some, None, refl, sym, ap, ◌∙◌, arith, append_assoc, length-append}
use Rattle.std.specs.Prelude.{flat_map, All}
use Rattle.std.proofs.lemmas.List.{length-drop, append-nil}
use Rattle.std.proofs.lemmas.List.Concat.{flat_map-append}
use Rattle.std.proofs.Math.Seq.{drop-append_seam, take-append_seam, take-suc}
use Rattle.ev_isa.specs.declared.instruction.Ins.{Ins}
use Rattle.ev_isa.specs.declared.instruction.Ins.TheVariants.{JmpReg, Push, Pop, Lkgs, MovGs, ReadCr2, WriteCr2}
use Rattle.ev_isa.specs.Spelling.{spelling, short_rex, registers}
use Rattle.ev_isa.specs.Reading.{reading, BeginsWith}
use Rattle.ev_code.specs.Coding.{IsEncodable}
use Rattle.ev_code.proofs.ReadingForms.{reading_again, reading_begins}
use Rattle.ev_isa.specs.Pages.{text_base}
use Rattle.ev_abstract.specs.EntryText.{Text, hex}
use Rattle.ev_asm_text.specs.AsmText.{two_digits, instruction_line, instruction_lines}
use Rattle.ev_asm_text.specs.Listed.{listed, InstructionsAreLines}

-- no instruction is spelled by nothing
pub spelling_some : (i : Ins) → 0 < length (spelling i)
unfolding spelling
spelling_some (JmpReg s) = omega (arith, length-append (short_rex s) (0xff ∷ registers 4 s))
spelling_some (Push s) = omega (arith, length-append (short_rex s) ((0x50 + s % 8) ∷ []))
spelling_some (Pop s) = omega (arith, length-append (short_rex s) ((0x58 + s % 8) ∷ []))
spelling_some (Lkgs s) = omega (arith, length-append (short_rex s) (0x0f ∷ 0x00 ∷ registers 6 s))
spelling_some (MovGs s) = omega (arith, length-append (short_rex s) (0x8e ∷ registers 5 s))
spelling_some (ReadCr2 s) = omega (arith, length-append (short_rex s) (0x0f ∷ 0x20 ∷ registers 2 s))
spelling_some (WriteCr2 s) = omega (arith, length-append (short_rex s) (0x0f ∷ 0x22 ∷ registers 2 s))
spelling_some i = omega arith

nothing_begins : (o : Option Ins) → reading [] ≡ o → o ≡ None
nothing_begins None e = refl
nothing_begins (Some i) e =
    let b = (reading_begins [] i e).1 in
    absurd (let l = ap length b.1 in omega (arith, l, length-append (spelling i) b.0, spelling_some i))

pub at_none : (n a : ℕ) (bytes : List ℕ) → reading bytes ≡ None → instruction_lines n a bytes ≡ []
unfolding instruction_lines
at_none zero a bytes e = refl
at_none (suc n) a bytes e = rw (instruction_lines, e) refl

at_some : (n a : ℕ) (bytes : List ℕ) (i : Ins) → reading bytes ≡ Some i
    → instruction_lines (suc n) a bytes ≡ instruction_line a (spelling i) ++ instruction_lines n (a + length (spelling i)) (drop (length (spelling i)) bytes)
unfolding instruction_lines
at_some n a bytes i e = rw (instruction_lines, e) refl

-- so many lines as there are bytes are enough
enough : (n m a : ℕ) (bytes : List ℕ) → length bytes ≤ n → length bytes ≤ m → instruction_lines n a bytes ≡ instruction_lines m a bytes
enough zero m a [] l k = at_none zero a [] (nothing_begins _ refl) ∙ sym (at_none m a [] (nothing_begins _ refl))
enough zero m a (b ∷ bs) l k = absurd (omega arith)
enough (suc n) zero a [] l k = at_none (suc n) a [] (nothing_begins _ refl) ∙ sym (at_none zero a [] (nothing_begins _ refl))
enough (suc n) zero a (b ∷ bs) l k = absurd (omega arith)
enough (suc n) (suc m) a bytes l k = by (reading bytes) refl (λ c bs d e. enough n m c bs d e)
  where
    by : (o : Option Ins) → reading bytes ≡ o
        → ((c : ℕ) (bs : List ℕ) → length bs ≤ n → length bs ≤ m → instruction_lines n c bs ≡ instruction_lines m c bs)
        → instruction_lines (suc n) a bytes ≡ instruction_lines (suc m) a bytes
    by None e go = at_none (suc n) a bytes e ∙ sym (at_none (suc m) a bytes e)
    by (Some i) e go =
        let size = length-drop (length (spelling i)) bytes in
        let some = spelling_some i in
        at_some n a bytes i e
        ∙ ap (λ (t : Text). instruction_line a (spelling i) ++ t)
        (go (a + length (spelling i)) (drop (length (spelling i)) bytes) (omega (arith, size, some)) (omega (arith, size, some)))
        ∙ sym (at_some m a bytes i e)

pub line_by : (k a : ℕ) (bytes : List ℕ) (i : Ins) → k ≡ length bytes → reading bytes ≡ Some i
    → instruction_lines k a bytes ≡ instruction_line a (spelling i)
    ++ instruction_lines (length (drop (length (spelling i)) bytes)) (a + length (spelling i)) (drop (length (spelling i)) bytes)
line_by zero a [] i l e = absurd (let h : None ≡ Some i = sym (nothing_begins _ refl) ∙ e in cc)
line_by zero a (b ∷ bs) i l e = absurd (omega (arith, l))
line_by (suc k) a bytes i l e =
    let size = length-drop (length (spelling i)) bytes in
    at_some k a bytes i e
    ∙ ap (λ (t : Text). instruction_line a (spelling i) ++ t)
    (enough k (length (drop (length (spelling i)) bytes)) (a + length (spelling i)) (drop (length (spelling i)) bytes)
    (omega (arith, size, l, spelling_some i)) (omega arith))

-- the first line, and the others
pub one_line : (a n : ℕ) (bytes front back : List ℕ) (i : Ins) → reading bytes ≡ Some i → BeginsWith bytes i → n ≡ length (spelling i)
    → front ≡ take n bytes → back ≡ drop n bytes
    → instruction_lines (length bytes) a bytes ≡ instruction_line a front ++ instruction_lines (length back) (a + n) back
one_line a n bytes front back i e b l f g =
    let spelled : take n bytes ≡ spelling i = ap (λ k. take k bytes) l ∙ ap (λ (t : List ℕ). take (length (spelling i)) t) b.1
    ∙ take-append_seam (spelling i) b.0 in
    rw (f, g, spelled, l) (line_by (length bytes) a bytes i refl e)

-- the digits of one byte more
pub digits_step : (a : ℕ) (bytes : List ℕ) (i j b d : ℕ) (out more : List ℕ) → i < length bytes → j ≡ suc i → b ≡ get_or bytes i d
    → out ≡ hex a ++ 32 ∷ flat_map two_digits (take i bytes) → more ≡ out ++ two_digits b → more ≡ hex a ++ 32 ∷ flat_map two_digits (take j bytes)
digits_step a bytes i j b d out more lt e is h g =
    let front : take j bytes ≡ take i bytes ++ b ∷ [] = ap (λ k. take k bytes) e ∙ take-suc bytes i d lt
    ∙ ap (λ (x : ℕ). take i bytes ++ x ∷ []) (sym is) in
    let digits : flat_map two_digits (take j bytes) ≡ flat_map two_digits (take i bytes) ++ two_digits b = ap (flat_map two_digits) front
    ∙ flat_map-append two_digits (take i bytes) (b ∷ [])
    ∙ ap (λ (t : Text). flat_map two_digits (take i bytes) ++ t) (append-nil (two_digits b)) in
    g ∙ ap (λ (t : Text). t ++ two_digits b) h ∙ append_assoc (hex a) (32 ∷ flat_map two_digits (take i bytes)) (two_digits b)
    ∙ ap (λ (t : Text). hex a ++ 32 ∷ t) (sym digits)

-- ---- instructions that are known

text_by : (is : List Ins) (n a : ℕ) (rest : List ℕ) → All IsEncodable is → reading rest ≡ None → length (flat_map spelling is ++ rest) ≤ n
    → instruction_lines n a (flat_map spelling is ++ rest) ≡ listed a is
unfolding listed
text_by [] n a rest h e l = at_none n a rest e
text_by (i ∷ is) zero a rest h e l =
    absurd (omega (arith, l, spelling_some i, length-append (spelling i ++ flat_map spelling is) rest, length-append (spelling i) (flat_map spelling is)))
text_by (i ∷ is) (suc n) a rest h e l =
    let joined = append_assoc (spelling i) (flat_map spelling is) rest in
    let first : IsEncodable i = h 0 i (omega arith) in
    let others : All IsEncodable is = λ k d lt. h (suc k) d (omega (arith, lt)) in
    let reads : reading ((spelling i ++ flat_map spelling is) ++ rest) ≡ Some i = ap reading joined ∙ reading_again i (flat_map spelling is ++ rest) first in
    let behind : drop (length (spelling i)) ((spelling i ++ flat_map spelling is) ++ rest) ≡ flat_map spelling is ++ rest =
    ap (drop (length (spelling i))) joined ∙ drop-append_seam (spelling i) (flat_map spelling is ++ rest) in
    let size = length-drop (length (spelling i)) ((spelling i ++ flat_map spelling is) ++ rest) in
    let less : length (flat_map spelling is ++ rest) ≤ n = omega (arith, l, size, spelling_some i, ap length behind) in
    at_some n a ((spelling i ++ flat_map spelling is) ++ rest) i reads
    ∙ ap (λ (t : Text). instruction_line a (spelling i) ++ t)
    (ap (instruction_lines n (a + length (spelling i))) behind ∙ text_by is n (a + length (spelling i)) rest others e less)

pub are_lines : InstructionsAreLines
are_lines image is rest h e t =
    ap (λ (bytes : List ℕ). instruction_lines (length bytes) text_base bytes) t
    ∙ text_by is (length (flat_map spelling is ++ rest)) text_base rest h e (omega arith)
