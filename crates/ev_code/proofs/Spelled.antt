-- What the reader of all instructions answers, in terms of spellings.
use Rattle.std.proofs.Common.{◌≡◌, ℕ, ◌+◌, ◌≤◌, List, [], ◌∷◌, ◌++◌, length, Result, Ok, Err, refl, sym, ap, ◌∙◌, arith, Bool, true, false, ℤ, ◌%◌, ltb, ◌==◌, if◌then◌else◌, ◌-◌, ◌↔◌}
use Rattle.std.proofs.lemmas.List.{append-nil, length-append}
use Rattle.ev_isa.specs.declared.instruction.Ins.{Ins}
use Rattle.ev_isa.specs.declared.instruction.Ins.TheVariants.{Load, Store, StoreImm, Shl, Shr, Xchg, CmpXchg, Xadd, JmpReg, Push, Pop, IntN, Lkgs, MovGs, ReadCr2, WriteCr2}
use Rattle.ev_isa.specs.Spelling.{spelling, four_bytes, memory, short_rex, registers}
use Rattle.ev_isa.specs.Reading.{BeginsWith}
use Rattle.ev_code.specs.declared.fault.DecodeFault.{DecodeFault}
use Rattle.ev_code.specs.declared.fault.DecodeFault.TheVariants.{Unknown, Short}
use Rattle.ev_code.specs.Coding.{FieldsFit, IsEncodable, IsCutShort}
use Rattle.ev_code.specs.Reader.{Read, instruction_at}
use Rattle.ev_code.proofs.Parts.{IsBytes, Extends, IsLive, bytes_append}
use Rattle.ev_code.proofs.FieldReads.{sib_if}
use Rattle.ev_code.proofs.RegisterReads.{instruction_reads}
use Rattle.ev_code.proofs.Again.{FieldsRead, again}

fields_read : (i : Ins) → FieldsFit i → FieldsRead i
fields_read (IntN n) f = tt
fields_read (Shl d n) f = f.0
fields_read (Shr d n) f = f.0
fields_read i f = f

-- what is spelled is read
pub read_again : (i : Ins) (rest : List ℕ) → IsEncodable i → instruction_at (spelling i ++ rest) ≡ Ok (i, rest)
read_again i rest e = again i rest (fields_read i e.fields) e.counts

-- what is read is spelled so
pub read_takes : (bytes : List ℕ) (i : Ins) (rest : List ℕ) → IsBytes bytes → instruction_at bytes ≡ Ok (i, rest) → IsEncodable i × (bytes ≡ spelling i ++ rest)
read_takes bytes i rest are t = let k = instruction_reads.takes tt bytes (i, rest) are t in (k.0, k.1)

abbrev pub read_of : Ins → List ℕ → Read Ins
read_of i rest = Ok (i, rest)

pub ok_parts : (i j : Ins) (xs ys : List ℕ) → read_of i xs ≡ read_of j ys → (i ≡ j) × (xs ≡ ys)
ok_parts i j xs ys h = let p : (i, xs) ≡ (let u : Ins × List ℕ = (j, ys) in u) = cc in (ap (λ (d : Ins × List ℕ). d.0) p, ap (λ (d : Ins × List ℕ). d.1) p)

-- no spelling begins another
pub one_spelling : (i j : Ins) (xs ys : List ℕ) → IsEncodable i → IsEncodable j → spelling i ++ xs ≡ spelling j ++ ys → (i ≡ j) × (xs ≡ ys)
one_spelling i j xs ys e f h = ok_parts i j xs ys (sym (read_again i xs e) ∙ ap instruction_at h ∙ read_again j ys f)

-- ---- what is cut short

cut_by : (bytes more : List ℕ) (i : Ins) → instruction_at bytes ≡ Err Short → instruction_at (bytes ++ more) ≡ Ok (i, []) → IsEncodable i
    → bytes ++ more ≡ spelling i ++ [] → IsCutShort bytes
cut_by bytes [] i short t e h = absurd (let back = ap instruction_at (append-nil bytes) in cc)
cut_by bytes (x ∷ more) i short t e h = (i, x, more, e, sym (h ∙ append-nil (spelling i)))

pub short_is_cut : (bytes : List ℕ) → IsBytes bytes → instruction_at bytes ≡ Err Short → IsCutShort bytes
short_is_cut bytes are short =
    let l : IsLive {X = Ins} (λ more. instruction_at (bytes ++ more)) = instruction_reads.trim bytes short in
    let k = read_takes (bytes ++ l.bytes) l.value [] (bytes_append bytes l.bytes are l.are_bytes) l.taken in
    cut_by bytes l.bytes l.value short l.taken k.0 k.1

no_more : (xs ys : List ℕ) (x : ℕ) → xs ++ x ∷ ys ≡ [] → ⊥
no_more [] ys x h = cc
no_more (y ∷ xs) ys x h = cc

cut_is_short_by : (i : Ins) (x : ℕ) (more : List ℕ) (u v : Read Ins) → Extends (x ∷ more) u v → v ≡ read_of i [] → u ≡ Err Short
cut_is_short_by i x more (Ok e) v h t = absurd (no_more e.1 more x ((ok_parts e.0 i (e.1 ++ x ∷ more) [] (sym h ∙ t)).1))
cut_is_short_by i x more (Err Unknown) v h t = absurd cc
cut_is_short_by i x more (Err Short) v h t = refl

pub cut_is_short : (bytes : List ℕ) → IsCutShort bytes → instruction_at bytes ≡ Err Short
cut_is_short bytes (i, x, more, e, h) =
    cut_is_short_by i x more (instruction_at bytes) (instruction_at (bytes ++ x ∷ more)) (instruction_reads.stable bytes (x ∷ more))
    (ap instruction_at (sym h ∙ sym (append-nil (spelling i))) ∙ read_again i [] e)

-- ---- what is unknown

pub unknown_is : (bytes : List ℕ) → instruction_at bytes ≡ Err Unknown → (¬ IsCutShort bytes) × ((i : Ins) → IsEncodable i → ¬ BeginsWith bytes i)
unknown_is bytes u = (λ c. let s = cut_is_short bytes c in cc, λ i e b. let r = ap instruction_at b.1 ∙ read_again i b.0 e in cc)

pub is_unknown_by : (bytes : List ℕ) (r : Read Ins) → IsBytes bytes → instruction_at bytes ≡ r → ¬ IsCutShort bytes
    → ((i : Ins) → IsEncodable i → ¬ BeginsWith bytes i) → r ≡ Err Unknown
is_unknown_by bytes (Ok e) are t cut begins = absurd (let k = read_takes bytes e.0 e.1 are t in begins e.0 k.0 (e.1, k.1))
is_unknown_by bytes (Err Unknown) are t cut begins = refl
is_unknown_by bytes (Err Short) are t cut begins = absurd (cut (short_is_cut bytes are t))

-- ---- lengths

if_length : (t : Bool) → length (sib_if t) ≤ 1
if_length true = omega arith
if_length false = omega arith

memory_length : (s b : ℕ) (n : ℤ) → length (memory s b n) ≤ 6
unfolding four_bytes
memory_length s b n = omega (arith, length-append (sib_if (b % 8 == 4)) (four_bytes n), if_length (b % 8 == 4))

short_length_by : (t : Bool) → length (let u : List ℕ = if t then [] else 0x41 ∷ [] in u) ≤ 1
short_length_by true = omega arith
short_length_by false = omega arith

short_length : (r : ℕ) → length (short_rex r) ≤ 1
short_length r = short_length_by (ltb r 8)

pub spelling_length : (i : Ins) → length (spelling i) ≤ 15
unfolding spelling four_bytes
spelling_length (Load d b n) = omega (arith, memory_length d b n)
spelling_length (Store b n s) = omega (arith, memory_length s b n)
spelling_length (StoreImm b n i) = omega (arith, memory_length 0 b n, length-append (memory 0 b n) (four_bytes i))
spelling_length (Xchg b n s) = omega (arith, memory_length s b n)
spelling_length (CmpXchg b n s) = omega (arith, memory_length s b n)
spelling_length (Xadd b n s) = omega (arith, memory_length s b n)
spelling_length (JmpReg s) = omega (arith, short_length s, length-append (short_rex s) (0xff ∷ registers 4 s))
spelling_length (Push s) = omega (arith, short_length s, length-append (short_rex s) ((0x50 + s % 8) ∷ []))
spelling_length (Pop s) = omega (arith, short_length s, length-append (short_rex s) ((0x58 + s % 8) ∷ []))
spelling_length (Lkgs s) = omega (arith, short_length s, length-append (short_rex s) (0x0f ∷ 0x00 ∷ registers 6 s))
spelling_length (MovGs s) = omega (arith, short_length s, length-append (short_rex s) (0x8e ∷ registers 5 s))
spelling_length (ReadCr2 s) = omega (arith, short_length s, length-append (short_rex s) (0x0f ∷ 0x20 ∷ registers 2 s))
spelling_length (WriteCr2 s) = omega (arith, short_length s, length-append (short_rex s) (0x0f ∷ 0x22 ∷ registers 2 s))
spelling_length i = omega arith

pub read_size : (bytes : List ℕ) (i : Ins) (rest : List ℕ) → IsBytes bytes → instruction_at bytes ≡ Ok (i, rest)
    → length bytes ≡ length (spelling i) + length rest
read_size bytes i rest are t = let k = read_takes bytes i rest are t in ap length k.1 ∙ length-append (spelling i) rest

-- ---- what `decode` answers

abbrev pub Answer : Type 0
Answer = Result (Ins × ℕ) DecodeFault

abbrev pub answer : Ins → ℕ → Answer
answer i n = Ok (i, n)

abbrev pub refusal : DecodeFault → Answer
refusal f = Err f

pub ok_spelled : (bytes : List ℕ) (i : Ins) (rest : List ℕ) (n : ℕ) → IsBytes bytes → instruction_at bytes ≡ Ok (i, rest) → n ≡ length bytes - length rest
    → IsEncodable i × BeginsWith bytes i × (n ≡ length (spelling i))
ok_spelled bytes i rest n are t e =
    let k = read_takes bytes i rest are t in
    let size = read_size bytes i rest are t in
    (k.0, (rest, k.1), omega arith)

pub ok_decoded : (bytes : List ℕ) (i : Ins) (rest : List ℕ) (n : ℕ) → IsBytes bytes → instruction_at bytes ≡ Ok (i, rest) → n ≡ length bytes - length rest
    → (j : Ins) (more : List ℕ) → IsEncodable j → bytes ≡ spelling j ++ more → answer i n ≡ answer j (length (spelling j))
ok_decoded bytes i rest n are t e j more f h =
    let same_one : i ≡ j = (ok_parts i j rest more (sym t ∙ ap instruction_at h ∙ read_again j more f)).0 in
    let size : n ≡ length (spelling i) = (ok_spelled bytes i rest n are t e).2 in
    ap (λ (d : Ins × ℕ). answer d.0 d.1) (λ k. (same_one k, (size ∙ ap (λ (x : Ins). length (spelling x)) same_one) k))

pub ok_not_short : (bytes : List ℕ) (i : Ins) (rest : List ℕ) (n : ℕ) → instruction_at bytes ≡ Ok (i, rest) → (answer i n ≡ refusal Short) ↔ IsCutShort bytes
ok_not_short bytes i rest n t = (λ h. absurd cc, λ h. absurd (let s = cut_is_short bytes h in cc))

pub ok_not_unknown : (bytes : List ℕ) (i : Ins) (rest : List ℕ) (n : ℕ) → IsBytes bytes → instruction_at bytes ≡ Ok (i, rest)
    → (answer i n ≡ refusal Unknown) ↔ (¬ IsCutShort bytes × ((j : Ins) → IsEncodable j → ¬ BeginsWith bytes j))
ok_not_unknown bytes i rest n are t = (λ h. absurd cc, λ h. absurd (let k = read_takes bytes i rest are t in h.1 i k.0 (rest, k.1)))

pub err_decoded : (bytes : List ℕ) (f : DecodeFault) → instruction_at bytes ≡ Err f → (j : Ins) (more : List ℕ) → IsEncodable j → bytes ≡ spelling j ++ more
    → refusal f ≡ answer j (length (spelling j))
err_decoded bytes f t j more e h = absurd (let r = ap instruction_at h ∙ read_again j more e in cc)

pub err_short : (bytes : List ℕ) (f : DecodeFault) → IsBytes bytes → instruction_at bytes ≡ Err f → (refusal f ≡ refusal Short) ↔ IsCutShort bytes
err_short bytes f are t = (λ h. let e : f ≡ Short = cc in short_is_cut bytes are (rw (← e) t), λ h. let s = cut_is_short bytes h in cc)

pub err_unknown : (bytes : List ℕ) (f : DecodeFault) → IsBytes bytes → instruction_at bytes ≡ Err f
    → (refusal f ≡ refusal Unknown) ↔ (¬ IsCutShort bytes × ((j : Ins) → IsEncodable j → ¬ BeginsWith bytes j))
err_unknown bytes f are t = (
  λ h. let e : f ≡ Unknown = cc in unknown_is bytes (rw (← e) t),
  λ h. let s = is_unknown_by bytes (instruction_at bytes) are refl h.0 h.1 in cc,
)
