-- The reading of bytes by forms finds what they begin with.
use Rattle.std.proofs.Common.{◌≡◌, ℕ, ℤ, pos, negsuc, zero, suc, ◌+◌, ◌-◌, ◌*◌, ◌/◌, ◌%◌, ◌^◌, ◌<◌, ◌≤◌, Bool, true, false, ◌&&◌, cond, ltb, List, [], ◌∷◌, ◌++◌, length, drop, get_or, Option, Some, None, find, Ok, Err, refl, sym, ap, subst, ◌∙◌, append_assoc, arith, if◌then◌else◌, ◌==◌, inl, inr, ◌⊎◌}
use Rattle.std.specs.Int.{w32, w64, from_le_bytes, to_le_bytes, cast_signed}
use Rattle.std.specs.Int.RustNames.{FitsSigned}
use Rattle.std.proofs.lemmas.Bool.{eqb-true, eq-eqb, ltb-true, ltb-false}
use Rattle.std.proofs.lemmas.Nat.{from_le_bytes-to_le_bytes_8}
use Rattle.ev_isa.specs.declared.instruction.Ins.{Ins}
use Rattle.ev_isa.specs.declared.instruction.AluOp.{AluOp}
use Rattle.ev_isa.specs.declared.instruction.Cond.{Cond}
use Rattle.ev_isa.specs.declared.instruction.AluOp.TheVariants.{Add, Or, And, Sub, Xor, Cmp}
use Rattle.ev_isa.specs.declared.instruction.Cond.TheVariants.{Z, Nz, C, Nc, S, Ns}
use Rattle.ev_isa.specs.declared.instruction.Ins.TheVariants.{MovImm, MovReg, Load, Store, StoreImm, GsLoad, GsStore, GsPush, Alu, AluImm, Shl, Shr, Xchg, CmpXchg, Xadd, Jmp, Jcc, JmpReg, Push, PushImm, Pop, IntN, Lkgs, MovGs, ReadCr2, WriteCr2, Nop, Int3, Int1, Syscall, Sysretq, Iretq, Swapgs, Eretu, Erets, Rdmsr, Wrmsr, Sti, Cli, Ud2}
use Rattle.ev_isa.specs.Instruction.{is_instruction}
use Rattle.ev_isa.specs.Spelling.{spelling, four_bytes, rex, modrm, registers, alu_number}
use Rattle.ev_isa.specs.Reading.{is_prefix, signed_at, reg_at, rm_at, behind, plain_forms, wide_forms, prefixed_forms, narrow_forms, forms, reading}
use Rattle.ev_code.specs.declared.fault.DecodeFault.{DecodeFault}
use Rattle.ev_code.specs.Coding.{FieldsFit, IsEncodable}
use Rattle.ev_code.specs.Reader.{instruction_at}
use Rattle.ev_code.proofs.FieldReads.{sib_if, and_true}
use Rattle.ev_code.proofs.Again.{FieldsRead, again, immediate_back, either_prefix}
use Rattle.ev_code.proofs.Spelled.{read_again, read_takes, ok_parts}
use Rattle.ev_code.proofs.Parts.{IsBytes}

-- ---- what is tested begins the bytes

pub prefix_begins : (xs ys : List ℕ) → is_prefix xs ys ≡ true → (rest : List ℕ) × (ys ≡ xs ++ rest)
prefix_begins [] ys h = (ys, refl)
prefix_begins (x ∷ xs) [] h = absurd cc
prefix_begins (x ∷ xs) (y ∷ ys) h =
    let r = and_true (x == y) (is_prefix xs ys) h in
    let t = prefix_begins xs ys r.1 in
    (t.0, λ i. sym (eqb-true x y r.0) i ∷ t.1 i)

prefix_of_append : (xs ys : List ℕ) → is_prefix xs (xs ++ ys) ≡ true
prefix_of_append [] ys = refl
prefix_of_append (x ∷ xs) ys = rw (eq-eqb x x refl, prefix_of_append xs ys) refl

abbrev pub test : List ℕ → Ins → Bool
test b i = is_instruction i && is_prefix (spelling i) b

-- what is tested of bytes that an instruction begins is that instruction
only_one : (i j : Ins) (rest : List ℕ) → IsEncodable i → FieldsRead j → test (spelling i ++ rest) j ≡ true → j ≡ i
only_one i j rest e f t =
    let k = and_true (is_instruction j) (is_prefix (spelling j) (spelling i ++ rest)) t in
    let p = prefix_begins (spelling j) (spelling i ++ rest) k.1 in
    (ok_parts j i p.0 rest (sym (again j p.0 f k.0) ∙ ap instruction_at (sym p.1) ∙ read_again i rest e)).0

-- ---- a list of candidates

-- each candidate that begins the bytes can be read
abbrev pub EachReads : List ℕ → List Ins → Type 0
EachReads b [] = Unit {0}
EachReads b (j ∷ js) = (is_prefix (spelling j) b ≡ true → FieldsRead j) × EachReads b js

test_self : (i : Ins) (rest : List ℕ) → IsEncodable i → test (spelling i ++ rest) i ≡ true
test_self i rest e = rw (e.counts, prefix_of_append (spelling i) rest) refl

found_by : (i j : Ins) (rest : List ℕ) (js : List Ins) → IsEncodable i → (is_prefix (spelling j) (spelling i ++ rest) ≡ true → FieldsRead j)
    → (t : Bool) → test (spelling i ++ rest) j ≡ t → (find (test (spelling i ++ rest)) js ≡ Some i) ⊎ (j ≡ i)
    → cond t (Some j) (find (test (spelling i ++ rest)) js) ≡ Some i
found_by i j rest js e reads true t k =
    let p = and_true (is_instruction j) (is_prefix (spelling j) (spelling i ++ rest)) t in
    ap (λ (x : Ins). Some x) (only_one i j rest e (reads p.1) t)
found_by i j rest js e reads false t (inl k) = k
found_by i j rest js e reads false t (inr k) = absurd (let yes = test_self i rest e in let no = sym t ∙ ap (test (spelling i ++ rest)) k ∙ yes in cc)

found_here : (i j : Ins) (rest : List ℕ) (js : List Ins) → IsEncodable i → (is_prefix (spelling j) (spelling i ++ rest) ≡ true → FieldsRead j)
    → (find (test (spelling i ++ rest)) js ≡ Some i) ⊎ (j ≡ i)
    → find (test (spelling i ++ rest)) (j ∷ js) ≡ Some i
found_here i j rest js e reads k = found_by i j rest js e reads (test (spelling i ++ rest) j) refl k

-- the candidate at place n is found
pub found_at : (i : Ins) (rest : List ℕ) (js : List Ins) (n : ℕ) → IsEncodable i → EachReads (spelling i ++ rest) js → n < length js → get_or js n Nop ≡ i
    → find (test (spelling i ++ rest)) js ≡ Some i
found_at i rest [] n e reads lt h = absurd (omega arith)
found_at i rest (j ∷ js) zero e reads lt h = found_here i j rest js e reads.0 (inr h)
found_at i rest (j ∷ js) (suc n) e reads lt h = found_here i j rest js e reads.0 (inl (found_at i rest js n e reads.1 (omega arith) h))

-- ---- each form can be read

signed_fits_by : (n : ℕ) → FitsSigned w32 (cast_signed w32 n)
signed_fits_by n = by (ltb n (2 ^ 31)) refl
  where
    by : (t : Bool) → ltb n (2 ^ 31) ≡ t → FitsSigned w32 (cond t (pos n) (negsuc (2 ^ 32 - suc n)))
    by true e = let lt : n < 2 ^ 31 = ltb-true _ _ e in record { sfits = lt }
    by false e = let le : 2 ^ 31 ≤ n = ltb-false _ _ e in record { sfits = omega arith }

signed_fits : (b : List ℕ) (k : ℕ) → FitsSigned w32 (signed_at b k)
unfolding signed_at
signed_fits b k = signed_fits_by (from_le_bytes w32 (drop k b))

rm_small : (b : List ℕ) (p q : ℕ) → rm_at b p q < 16
unfolding rm_at
rm_small b p q = omega arith

reg_small : (b : List ℕ) (p q : ℕ) → reg_at b p q < 16
unfolding reg_at
reg_small b p q = omega arith

eight_small : (n : ℕ) (rest : List ℕ) → from_le_bytes w64 (to_le_bytes w64 n ++ rest) < 2 ^ 64
eight_small n rest = omega arith

mov_value_small : (b : List ℕ) → is_prefix (spelling (MovImm (rm_at b 0 1) (from_le_bytes w64 (drop 2 b)))) b ≡ true → from_le_bytes w64 (drop 2 b) < 2 ^ 64
unfolding spelling
mov_value_small b h =
    let d = rm_at b 0 1 in
    let n = from_le_bytes w64 (drop 2 b) in
    let p = prefix_begins (rex 0 d ∷ (0xb8 + d % 8) ∷ to_le_bytes w64 n) b h in
    let e : n ≡ from_le_bytes w64 (to_le_bytes w64 n ++ p.0) = ap (λ (x : List ℕ). from_le_bytes w64 (drop 2 x)) p.1 in
    rw e (eight_small n p.0)

-- ---- the fields of each form are those that were spelled

signed_here : (n : ℤ) (rest : List ℕ) → FitsSigned w32 n → cast_signed w32 (from_le_bytes w32 (four_bytes n ++ rest)) ≡ n
unfolding four_bytes
signed_here n rest f = immediate_back n f

word_here : (n : ℕ) (rest : List ℕ) → n < 2 ^ 64 → from_le_bytes w64 (to_le_bytes w64 n ++ rest) ≡ n
word_here n rest f = from_le_bytes-to_le_bytes_8 n f

memory_low : (s b : ℕ) → modrm 2 s b % 8 ≡ b % 8
memory_low s b = omega arith

-- behind a ModRM byte at place 2, with the SIB byte and without
two_here : (x op m y : ℕ) (n : ℤ) (rest : List ℕ) → m % 8 ≡ y % 8 → FitsSigned w32 n
    → signed_at (x ∷ op ∷ m ∷ (sib_if (y % 8 == 4) ++ four_bytes n) ++ rest) (behind (x ∷ op ∷ m ∷ (sib_if (y % 8 == 4) ++ four_bytes n) ++ rest) 2) ≡ n
unfolding signed_at behind
two_here x op m y n rest e f = rw e (by (y % 8 == 4))
  where
    by : (t : Bool) → cast_signed w32 (from_le_bytes w32 (drop (if t then 4 else 3) (x ∷ op ∷ m ∷ (sib_if t ++ four_bytes n) ++ rest))) ≡ n
    by true = signed_here n rest f
    by false = signed_here n rest f

four_here : (l x z op m y : ℕ) (n : ℤ) (rest : List ℕ) → m % 8 ≡ y % 8 → FitsSigned w32 n
    → signed_at (l ∷ x ∷ z ∷ op ∷ m ∷ (sib_if (y % 8 == 4) ++ four_bytes n) ++ rest)
    (behind (l ∷ x ∷ z ∷ op ∷ m ∷ (sib_if (y % 8 == 4) ++ four_bytes n) ++ rest) 4) ≡ n
unfolding signed_at behind
four_here l x z op m y n rest e f = rw e (by (y % 8 == 4))
  where
    by : (t : Bool) → cast_signed w32 (from_le_bytes w32 (drop (if t then 6 else 5) (l ∷ x ∷ z ∷ op ∷ m ∷ (sib_if t ++ four_bytes n) ++ rest))) ≡ n
    by true = signed_here n rest f
    by false = signed_here n rest f

-- and the number behind that displacement
after_here : (x op m y : ℕ) (n i : ℤ) (rest : List ℕ) → m % 8 ≡ y % 8 → FitsSigned w32 i
    → signed_at (x ∷ op ∷ m ∷ (sib_if (y % 8 == 4) ++ four_bytes n) ++ (four_bytes i ++ rest))
    (behind (x ∷ op ∷ m ∷ (sib_if (y % 8 == 4) ++ four_bytes n) ++ (four_bytes i ++ rest)) 2 + 4) ≡ i
unfolding signed_at behind four_bytes
after_here x op m y n i rest e f = rw e (by (y % 8 == 4))
  where
    by : (t : Bool) → cast_signed w32
        (from_le_bytes w32 (drop ((if t then 4 else 3) + 4) (x ∷ op ∷ m ∷ (sib_if t ++ four_bytes n) ++ (four_bytes i ++ rest)))) ≡ i
    by true = signed_here i rest f
    by false = signed_here i rest f

rm_spelled : (s b form : ℕ) → s < 16 → b < 16 → 8 * (rex s b % 2) + modrm form s b % 8 ≡ b
rm_spelled s b form h k = omega arith

reg_spelled : (s b form : ℕ) → s < 16 → b < 16 → 8 * (rex s b / 4 % 2) + modrm form s b / 8 % 8 ≡ s
reg_spelled s b form h k = omega arith

-- one register, where the reg field names a number
rm_number : (number b form : ℕ) → b < 16 → 8 * (rex 0 b % 2) + modrm form number b % 8 ≡ b
rm_number number b form k = omega arith

reg_absolute : (s : ℕ) → s < 16 → 8 * (rex s 0 / 4 % 2) + modrm 0 s 4 / 8 % 8 ≡ s
reg_absolute s h = omega arith

rm_opcode : (d : ℕ) → d < 16 → 8 * (rex 0 d % 2) + (0xb8 + d % 8) % 8 ≡ d
rm_opcode d h = omega arith

low_back : (x d r : ℕ) → r / 8 ≡ x % 2 → r < 16 → d % 8 ≡ r % 8 → 8 * (x % 2) + d % 8 ≡ r
low_back x d r h lt e = omega arith

-- ---- all of them

each_reads : (b : List ℕ) → EachReads b (forms b)
unfolding forms plain_forms wide_forms prefixed_forms narrow_forms
each_reads b = (
  λ p. signed_fits b 1,
  (
    λ p. signed_fits b 1,
    (
      λ p. tt,
      (
        λ p. tt,
        (
          λ p. tt,
          (
            λ p. tt,
            (
              λ p. tt,
              (
                λ p. tt,
                (
                  λ p. tt,
                  (
                    λ p. tt,
                    (
                      λ p. tt,
                      (
                        λ p. tt,
                        (
                          λ p. tt,
                          (
                            λ p. tt,
                            (
                              λ p. tt,
                              (
                                λ p. tt,
                                (
                                  λ p. tt,
                                  (
                                    λ p. signed_fits b 2,
                                    (
                                      λ p. signed_fits b 2,
                                      (
                                        λ p. signed_fits b 2,
                                        (
                                          λ p. signed_fits b 2,
                                          (
                                            λ p. signed_fits b 2,
                                            (
                                              λ p. signed_fits b 2,
                                              (
                                                λ p. (rm_small b 0 1, mov_value_small b p),
                                                (
                                                  λ p. (rm_small b 0 2, reg_small b 0 2),
                                                  (
                                                    λ p. (reg_small b 0 2, rm_small b 0 2, signed_fits b (behind b 2)),
                                                    (
                                                      λ p. (rm_small b 0 2, signed_fits b (behind b 2), reg_small b 0 2),
                                                      (
                                                        λ p. (rm_small b 0 2, signed_fits b (behind b 2), signed_fits b (behind b 2 + 4)),
                                                        (
                                                          λ p. rm_small b 0 2,
                                                          (
                                                            λ p. rm_small b 0 2,
                                                            (
                                                              λ p. (rm_small b 0 2, signed_fits b (behind b 2), reg_small b 0 2),
                                                              (
                                                                λ p. (rm_small b 0 2, reg_small b 0 2),
                                                                (
                                                                  λ p. (rm_small b 0 2, reg_small b 0 2),
                                                                  (
                                                                    λ p. (rm_small b 0 2, reg_small b 0 2),
                                                                    (
                                                                      λ p. (rm_small b 0 2, reg_small b 0 2),
                                                                      (
                                                                        λ p. (rm_small b 0 2, reg_small b 0 2),
                                                                        (
                                                                          λ p. (rm_small b 0 2, reg_small b 0 2),
                                                                          (
                                                                            λ p. (rm_small b 0 2, signed_fits b 3),
                                                                            (
                                                                              λ p. (rm_small b 0 2, signed_fits b 3),
                                                                              (
                                                                                λ p. (rm_small b 0 2, signed_fits b 3),
                                                                                (
                                                                                  λ p. (rm_small b 0 2, signed_fits b 3),
                                                                                  (
                                                                                    λ p. (rm_small b 0 2, signed_fits b 3),
                                                                                    (
                                                                                      λ p. (rm_small b 0 2, signed_fits b 3),
                                                                                      (
                                                                                        λ p. (reg_small b 1 3, signed_fits b 5),
                                                                                        (
                                                                                          λ p. (signed_fits b 5, reg_small b 1 3),
                                                                                          (
                                                                                            λ p. signed_fits b 4,
                                                                                            (
                                                                                              λ p. (
                                                                                                rm_small b 1 4,
                                                                                                signed_fits b
                                                                                                    (behind b 4),
                                                                                                reg_small b 1 4,
                                                                                              ),
                                                                                              (
                                                                                                λ p. (
                                                                                                  rm_small b 1 4,
                                                                                                  signed_fits b
                                                                                                      (behind b 4),
                                                                                                  reg_small b 1 4,
                                                                                                ),
                                                                                                (
                                                                                                  λ p. omega arith,
                                                                                                  (
                                                                                                    λ p. omega arith,
                                                                                                    (
                                                                                                      λ p. omega arith,
                                                                                                      (
                                                                                                        λ p. omega arith,
                                                                                                        (
                                                                                                          λ p. omega arith,
                                                                                                          (
                                                                                                            λ p. omega arith,
                                                                                                            (
                                                                                                              λ p. omega arith,
                                                                                                              (
                                                                                                                λ p. omega arith,
                                                                                                                (
                                                                                                                  λ p. omega arith,
                                                                                                                  (
                                                                                                                    λ p. omega arith,
                                                                                                                    (
                                                                                                                      λ p. omega arith,
                                                                                                                      (
                                                                                                                        λ p. omega arith,
                                                                                                                        (
                                                                                                                          λ p. omega arith,
                                                                                                                          (
                                                                                                                            λ p. omega arith,
                                                                                                                            tt,
                                                                                                                          ),
                                                                                                                        ),
                                                                                                                      ),
                                                                                                                    ),
                                                                                                                  ),
                                                                                                                ),
                                                                                                              ),
                                                                                                            ),
                                                                                                          ),
                                                                                                        ),
                                                                                                      ),
                                                                                                    ),
                                                                                                  ),
                                                                                                ),
                                                                                              ),
                                                                                            ),
                                                                                          ),
                                                                                        ),
                                                                                      ),
                                                                                    ),
                                                                                  ),
                                                                                ),
                                                                              ),
                                                                            ),
                                                                          ),
                                                                        ),
                                                                      ),
                                                                    ),
                                                                  ),
                                                                ),
                                                              ),
                                                            ),
                                                          ),
                                                        ),
                                                      ),
                                                    ),
                                                  ),
                                                ),
                                              ),
                                            ),
                                          ),
                                        ),
                                      ),
                                    ),
                                  ),
                                ),
                              ),
                            ),
                          ),
                        ),
                      ),
                    ),
                  ),
                ),
              ),
            ),
          ),
        ),
      ),
    ),
  ),
)

-- the place of an instruction among the forms of bytes
abbrev pub PlaceOf : List ℕ → Ins → Type 0
PlaceOf b i = (k : ℕ) × (k < length (forms b)) × (get_or (forms b) k Nop ≡ i)

mov_imm_place : (d n : ℕ) (rest : List ℕ) → d < 16 → n < 2 ^ 64 → PlaceOf (spelling (MovImm d n) ++ rest) (MovImm d n)
unfolding forms plain_forms wide_forms prefixed_forms narrow_forms spelling rm_at
mov_imm_place d n rest h f = (23, omega arith, λ i. MovImm (rm_opcode d h i) (word_here n rest f i))

mov_reg_place : (d s : ℕ) (rest : List ℕ) → d < 16 → s < 16 → PlaceOf (spelling (MovReg d s) ++ rest) (MovReg d s)
unfolding forms plain_forms wide_forms prefixed_forms narrow_forms spelling rm_at reg_at
mov_reg_place d s rest h k = (24, omega arith, λ i. MovReg (rm_spelled s d 3 k h i) (reg_spelled s d 3 k h i))

load_place : (d b : ℕ) (n : ℤ) (rest : List ℕ) → d < 16 → b < 16 → FitsSigned w32 n → PlaceOf (spelling (Load d b n) ++ rest) (Load d b n)
unfolding forms plain_forms wide_forms prefixed_forms narrow_forms spelling rm_at reg_at
load_place d b n rest h k f =
    (25, omega arith, λ i. Load (reg_spelled d b 2 h k i) (rm_spelled d b 2 h k i) (two_here (rex d b) 0x8b (modrm 2 d b) b n rest (memory_low d b) f i))

store_place : (b s : ℕ) (n : ℤ) (rest : List ℕ) → b < 16 → s < 16 → FitsSigned w32 n → PlaceOf (spelling (Store b n s) ++ rest) (Store b n s)
unfolding forms plain_forms wide_forms prefixed_forms narrow_forms spelling rm_at reg_at
store_place b s n rest k h f =
    (26, omega arith, λ i. Store (rm_spelled s b 2 h k i) (two_here (rex s b) 0x89 (modrm 2 s b) b n rest (memory_low s b) f i) (reg_spelled s b 2 h k i))

xchg_place : (b s : ℕ) (n : ℤ) (rest : List ℕ) → b < 16 → s < 16 → FitsSigned w32 n → PlaceOf (spelling (Xchg b n s) ++ rest) (Xchg b n s)
unfolding forms plain_forms wide_forms prefixed_forms narrow_forms spelling rm_at reg_at
xchg_place b s n rest k h f =
    (30, omega arith, λ i. Xchg (rm_spelled s b 2 h k i) (two_here (rex s b) 0x87 (modrm 2 s b) b n rest (memory_low s b) f i) (reg_spelled s b 2 h k i))

store_imm_place : (b : ℕ) (n j : ℤ) (rest : List ℕ) → b < 16 → FitsSigned w32 n → FitsSigned w32 j
    → PlaceOf (spelling (StoreImm b n j) ++ rest) (StoreImm b n j)
unfolding forms plain_forms wide_forms prefixed_forms narrow_forms spelling rm_at
store_imm_place b n j rest k f g = (
  27,
  omega arith,
  ap (λ (y : List ℕ). get_or (forms (rex 0 b ∷ 0xc7 ∷ modrm 2 0 b ∷ y)) 27 Nop) (append_assoc (sib_if (b % 8 == 4) ++ four_bytes n) (four_bytes j) rest)
      ∙ (λ i. StoreImm (rm_number 0 b 2 k i) (two_here (rex 0 b) 0xc7 (modrm 2 0 b) b n (four_bytes j ++ rest) (memory_low 0 b) f i)
      (after_here (rex 0 b) 0xc7 (modrm 2 0 b) b n j rest (memory_low 0 b) g i)),
)

shl_place : (d n : ℕ) (rest : List ℕ) → d < 16 → PlaceOf (spelling (Shl d n) ++ rest) (Shl d n)
unfolding forms plain_forms wide_forms prefixed_forms narrow_forms spelling rm_at
shl_place d n rest h = (28, omega arith, λ i. Shl (rm_number 4 d 3 h i) n)

shr_place : (d n : ℕ) (rest : List ℕ) → d < 16 → PlaceOf (spelling (Shr d n) ++ rest) (Shr d n)
unfolding forms plain_forms wide_forms prefixed_forms narrow_forms spelling rm_at
shr_place d n rest h = (29, omega arith, λ i. Shr (rm_number 5 d 3 h i) n)

alu_place : (op : AluOp) (d s : ℕ) (rest : List ℕ) → d < 16 → s < 16 → PlaceOf (spelling (Alu op d s) ++ rest) (Alu op d s)
unfolding forms plain_forms wide_forms prefixed_forms narrow_forms spelling rm_at reg_at
alu_place Add d s rest h k = (31, omega arith, λ i. Alu Add (rm_spelled s d 3 k h i) (reg_spelled s d 3 k h i))
alu_place Or d s rest h k = (32, omega arith, λ i. Alu Or (rm_spelled s d 3 k h i) (reg_spelled s d 3 k h i))
alu_place And d s rest h k = (33, omega arith, λ i. Alu And (rm_spelled s d 3 k h i) (reg_spelled s d 3 k h i))
alu_place Sub d s rest h k = (34, omega arith, λ i. Alu Sub (rm_spelled s d 3 k h i) (reg_spelled s d 3 k h i))
alu_place Xor d s rest h k = (35, omega arith, λ i. Alu Xor (rm_spelled s d 3 k h i) (reg_spelled s d 3 k h i))
alu_place Cmp d s rest h k = (36, omega arith, λ i. Alu Cmp (rm_spelled s d 3 k h i) (reg_spelled s d 3 k h i))

alu_imm_place : (op : AluOp) (d : ℕ) (n : ℤ) (rest : List ℕ) → d < 16 → FitsSigned w32 n → PlaceOf (spelling (AluImm op d n) ++ rest) (AluImm op d n)
unfolding forms plain_forms wide_forms prefixed_forms narrow_forms spelling rm_at signed_at
alu_imm_place Add d n rest h f = (37, omega arith, λ i. AluImm Add (rm_number (alu_number Add) d 3 h i) (signed_here n rest f i))
alu_imm_place Or d n rest h f = (38, omega arith, λ i. AluImm Or (rm_number (alu_number Or) d 3 h i) (signed_here n rest f i))
alu_imm_place And d n rest h f = (39, omega arith, λ i. AluImm And (rm_number (alu_number And) d 3 h i) (signed_here n rest f i))
alu_imm_place Sub d n rest h f = (40, omega arith, λ i. AluImm Sub (rm_number (alu_number Sub) d 3 h i) (signed_here n rest f i))
alu_imm_place Xor d n rest h f = (41, omega arith, λ i. AluImm Xor (rm_number (alu_number Xor) d 3 h i) (signed_here n rest f i))
alu_imm_place Cmp d n rest h f = (42, omega arith, λ i. AluImm Cmp (rm_number (alu_number Cmp) d 3 h i) (signed_here n rest f i))

gs_load_place : (d : ℕ) (n : ℤ) (rest : List ℕ) → d < 16 → FitsSigned w32 n → PlaceOf (spelling (GsLoad d n) ++ rest) (GsLoad d n)
unfolding forms plain_forms wide_forms prefixed_forms narrow_forms spelling reg_at signed_at
gs_load_place d n rest h f = (43, omega arith, λ i. GsLoad (reg_absolute d h i) (signed_here n rest f i))

gs_store_place : (s : ℕ) (n : ℤ) (rest : List ℕ) → s < 16 → FitsSigned w32 n → PlaceOf (spelling (GsStore n s) ++ rest) (GsStore n s)
unfolding forms plain_forms wide_forms prefixed_forms narrow_forms spelling reg_at signed_at
gs_store_place s n rest h f = (44, omega arith, λ i. GsStore (signed_here n rest f i) (reg_absolute s h i))

gs_push_place : (n : ℤ) (rest : List ℕ) → FitsSigned w32 n → PlaceOf (spelling (GsPush n) ++ rest) (GsPush n)
unfolding forms plain_forms wide_forms prefixed_forms narrow_forms spelling signed_at
gs_push_place n rest f = (45, omega arith, λ i. GsPush (signed_here n rest f i))

cmpxchg_place : (b s : ℕ) (n : ℤ) (rest : List ℕ) → b < 16 → s < 16 → FitsSigned w32 n → PlaceOf (spelling (CmpXchg b n s) ++ rest) (CmpXchg b n s)
unfolding forms plain_forms wide_forms prefixed_forms narrow_forms spelling rm_at reg_at
cmpxchg_place b s n rest k h f = (
  46,
  omega arith,
  λ i. CmpXchg (rm_spelled s b 2 h k i) (four_here 0xf0 (rex s b) 0x0f 0xb1 (modrm 2 s b) b n rest (memory_low s b) f i)
      (reg_spelled s b 2 h k i),
)

xadd_place : (b s : ℕ) (n : ℤ) (rest : List ℕ) → b < 16 → s < 16 → FitsSigned w32 n → PlaceOf (spelling (Xadd b n s) ++ rest) (Xadd b n s)
unfolding forms plain_forms wide_forms prefixed_forms narrow_forms spelling rm_at reg_at
xadd_place b s n rest k h f = (
  47,
  omega arith,
  λ i. Xadd (rm_spelled s b 2 h k i) (four_here 0xf0 (rex s b) 0x0f 0xc1 (modrm 2 s b) b n rest (memory_low s b) f i)
      (reg_spelled s b 2 h k i),
)

jmp_place : (n : ℤ) (rest : List ℕ) → FitsSigned w32 n → PlaceOf (spelling (Jmp n) ++ rest) (Jmp n)
unfolding forms plain_forms wide_forms prefixed_forms narrow_forms spelling signed_at
jmp_place n rest f = (0, omega arith, λ i. Jmp (signed_here n rest f i))

push_imm_place : (n : ℤ) (rest : List ℕ) → FitsSigned w32 n → PlaceOf (spelling (PushImm n) ++ rest) (PushImm n)
unfolding forms plain_forms wide_forms prefixed_forms narrow_forms spelling signed_at
push_imm_place n rest f = (1, omega arith, λ i. PushImm (signed_here n rest f i))

jcc_place : (c : Cond) (n : ℤ) (rest : List ℕ) → FitsSigned w32 n → PlaceOf (spelling (Jcc c n) ++ rest) (Jcc c n)
unfolding forms plain_forms wide_forms prefixed_forms narrow_forms spelling signed_at
jcc_place Z n rest f = (17, omega arith, λ i. Jcc Z (signed_here n rest f i))
jcc_place Nz n rest f = (18, omega arith, λ i. Jcc Nz (signed_here n rest f i))
jcc_place C n rest f = (19, omega arith, λ i. Jcc C (signed_here n rest f i))
jcc_place Nc n rest f = (20, omega arith, λ i. Jcc Nc (signed_here n rest f i))
jcc_place S n rest f = (21, omega arith, λ i. Jcc S (signed_here n rest f i))
jcc_place Ns n rest f = (22, omega arith, λ i. Jcc Ns (signed_here n rest f i))

jmp_reg_place : (s : ℕ) (rest : List ℕ) → s < 16 → PlaceOf (spelling (JmpReg s) ++ rest) (JmpReg s)
unfolding forms plain_forms wide_forms prefixed_forms narrow_forms spelling
jmp_reg_place s rest h =
    either_prefix s (λ q. PlaceOf ((q ++ 0xff ∷ registers 4 s) ++ rest) (JmpReg s)) h
    (λ p. let e : 8 * 0 + (modrm 3 4 s) % 8 ≡ s = omega (arith, p.high) in (48, omega arith, ap JmpReg e))
    (λ p. let e : 8 * 1 + (modrm 3 4 s) % 8 ≡ s = omega (arith, p.high) in (55, omega arith, ap JmpReg e))

push_place : (s : ℕ) (rest : List ℕ) → s < 16 → PlaceOf (spelling (Push s) ++ rest) (Push s)
unfolding forms plain_forms wide_forms prefixed_forms narrow_forms spelling
push_place s rest h =
    either_prefix s (λ q. PlaceOf ((q ++ (0x50 + s % 8) ∷ []) ++ rest) (Push s)) h
    (λ p. let e : 8 * 0 + (0x50 + s % 8) % 8 ≡ s = omega (arith, p.high) in (49, omega arith, ap Push e))
    (λ p. let e : 8 * 1 + (0x50 + s % 8) % 8 ≡ s = omega (arith, p.high) in (56, omega arith, ap Push e))

pop_place : (s : ℕ) (rest : List ℕ) → s < 16 → PlaceOf (spelling (Pop s) ++ rest) (Pop s)
unfolding forms plain_forms wide_forms prefixed_forms narrow_forms spelling
pop_place s rest h =
    either_prefix s (λ q. PlaceOf ((q ++ (0x58 + s % 8) ∷ []) ++ rest) (Pop s)) h
    (λ p. let e : 8 * 0 + (0x58 + s % 8) % 8 ≡ s = omega (arith, p.high) in (50, omega arith, ap Pop e))
    (λ p. let e : 8 * 1 + (0x58 + s % 8) % 8 ≡ s = omega (arith, p.high) in (57, omega arith, ap Pop e))

lkgs_place : (s : ℕ) (rest : List ℕ) → s < 16 → PlaceOf (spelling (Lkgs s) ++ rest) (Lkgs s)
unfolding forms plain_forms wide_forms prefixed_forms narrow_forms spelling
lkgs_place s rest h =
    either_prefix s (λ q. PlaceOf ((0xf2 ∷ q ++ 0x0f ∷ 0x00 ∷ registers 6 s) ++ rest) (Lkgs s)) h
    (λ p. let e : 8 * 0 + (modrm 3 6 s) % 8 ≡ s = omega (arith, p.high) in (51, omega arith, ap Lkgs e))
    (λ p. let e : 8 * 1 + (modrm 3 6 s) % 8 ≡ s = omega (arith, p.high) in (58, omega arith, ap Lkgs e))

mov_gs_place : (s : ℕ) (rest : List ℕ) → s < 16 → PlaceOf (spelling (MovGs s) ++ rest) (MovGs s)
unfolding forms plain_forms wide_forms prefixed_forms narrow_forms spelling
mov_gs_place s rest h =
    either_prefix s (λ q. PlaceOf ((q ++ 0x8e ∷ registers 5 s) ++ rest) (MovGs s)) h
    (λ p. let e : 8 * 0 + (modrm 3 5 s) % 8 ≡ s = omega (arith, p.high) in (52, omega arith, ap MovGs e))
    (λ p. let e : 8 * 1 + (modrm 3 5 s) % 8 ≡ s = omega (arith, p.high) in (59, omega arith, ap MovGs e))

read_cr2_place : (s : ℕ) (rest : List ℕ) → s < 16 → PlaceOf (spelling (ReadCr2 s) ++ rest) (ReadCr2 s)
unfolding forms plain_forms wide_forms prefixed_forms narrow_forms spelling
read_cr2_place s rest h =
    either_prefix s (λ q. PlaceOf ((q ++ 0x0f ∷ 0x20 ∷ registers 2 s) ++ rest) (ReadCr2 s)) h
    (λ p. let e : 8 * 0 + (modrm 3 2 s) % 8 ≡ s = omega (arith, p.high) in (53, omega arith, ap ReadCr2 e))
    (λ p. let e : 8 * 1 + (modrm 3 2 s) % 8 ≡ s = omega (arith, p.high) in (60, omega arith, ap ReadCr2 e))

write_cr2_place : (s : ℕ) (rest : List ℕ) → s < 16 → PlaceOf (spelling (WriteCr2 s) ++ rest) (WriteCr2 s)
unfolding forms plain_forms wide_forms prefixed_forms narrow_forms spelling
write_cr2_place s rest h =
    either_prefix s (λ q. PlaceOf ((q ++ 0x0f ∷ 0x22 ∷ registers 2 s) ++ rest) (WriteCr2 s)) h
    (λ p. let e : 8 * 0 + (modrm 3 2 s) % 8 ≡ s = omega (arith, p.high) in (54, omega arith, ap WriteCr2 e))
    (λ p. let e : 8 * 1 + (modrm 3 2 s) % 8 ≡ s = omega (arith, p.high) in (61, omega arith, ap WriteCr2 e))

place_of : (i : Ins) (rest : List ℕ) → FieldsFit i → PlaceOf (spelling i ++ rest) i
unfolding forms plain_forms wide_forms prefixed_forms narrow_forms spelling
place_of (MovImm d n) rest f = mov_imm_place d n rest f.0 f.1
place_of (MovReg d s) rest f = mov_reg_place d s rest f.0 f.1
place_of (Load d b n) rest f = load_place d b n rest f.0 f.1 f.2
place_of (Store b n s) rest f = store_place b s n rest f.0 f.2 f.1
place_of (StoreImm b n i) rest f = store_imm_place b n i rest f.0 f.1 f.2
place_of (GsLoad d n) rest f = gs_load_place d n rest f.0 f.1
place_of (GsStore n s) rest f = gs_store_place s n rest f.1 f.0
place_of (GsPush n) rest f = gs_push_place n rest f
place_of (Alu op d s) rest f = alu_place op d s rest f.0 f.1
place_of (AluImm op d i) rest f = alu_imm_place op d i rest f.0 f.1
place_of (Shl d n) rest f = shl_place d n rest f.0
place_of (Shr d n) rest f = shr_place d n rest f.0
place_of (Xchg b n s) rest f = xchg_place b s n rest f.0 f.2 f.1
place_of (CmpXchg b n s) rest f = cmpxchg_place b s n rest f.0 f.2 f.1
place_of (Xadd b n s) rest f = xadd_place b s n rest f.0 f.2 f.1
place_of (Jmp n) rest f = jmp_place n rest f
place_of (Jcc c n) rest f = jcc_place c n rest f
place_of (JmpReg s) rest f = jmp_reg_place s rest f
place_of (Push s) rest f = push_place s rest f
place_of (PushImm i) rest f = push_imm_place i rest f
place_of (Pop d) rest f = pop_place d rest f
place_of (IntN n) rest f = (2, omega arith, refl)
place_of (Lkgs s) rest f = lkgs_place s rest f
place_of (MovGs s) rest f = mov_gs_place s rest f
place_of (ReadCr2 d) rest f = read_cr2_place d rest f
place_of (WriteCr2 s) rest f = write_cr2_place s rest f
place_of Nop rest f = (3, omega arith, refl)
place_of Int3 rest f = (4, omega arith, refl)
place_of Int1 rest f = (5, omega arith, refl)
place_of Syscall rest f = (6, omega arith, refl)
place_of Sysretq rest f = (8, omega arith, refl)
place_of Iretq rest f = (9, omega arith, refl)
place_of Swapgs rest f = (10, omega arith, refl)
place_of Eretu rest f = (11, omega arith, refl)
place_of Erets rest f = (12, omega arith, refl)
place_of Rdmsr rest f = (13, omega arith, refl)
place_of Wrmsr rest f = (14, omega arith, refl)
place_of Sti rest f = (15, omega arith, refl)
place_of Cli rest f = (16, omega arith, refl)
place_of Ud2 rest f = (7, omega arith, refl)

-- what an instruction spells, it reads as, whatever follows
pub reading_again : (i : Ins) (rest : List ℕ) → IsEncodable i → reading (spelling i ++ rest) ≡ Some i
unfolding reading
reading_again i rest e =
    let p = place_of i rest e.fields in
    found_at i rest (forms (spelling i ++ rest)) p.0 e (each_reads (spelling i ++ rest)) p.1 p.2

-- ---- what is read begins the bytes

found_passes_by : (b : List ℕ) (y x : Ins) (t : Bool) (rest : Option Ins) → test b y ≡ t → (is_prefix (spelling y) b ≡ true → FieldsRead y)
    → (rest ≡ Some x → (test b x ≡ true) × FieldsRead x)
    → cond t (Some y) rest ≡ Some x → (test b x ≡ true) × FieldsRead x
found_passes_by b y x true rest e reads below h =
    let s : y ≡ x = cc in
    let p = and_true (is_instruction y) (is_prefix (spelling y) b) e in
    subst (λ (j : Ins). (test b j ≡ true) × FieldsRead j) s (e, reads p.1)
found_passes_by b y x false rest e reads below h = below h

found_passes : (b : List ℕ) (js : List Ins) (x : Ins) → EachReads b js → find (test b) js ≡ Some x → (test b x ≡ true) × FieldsRead x
found_passes b [] x reads h = absurd cc
found_passes b (y ∷ js) x reads h = found_passes_by b y x (test b y) (find (test b) js) refl reads.0 (λ k. found_passes b js x reads.1 k) h

-- what bytes read as is an instruction that they begin with, and the reader reads it
pub reading_begins : (b : List ℕ) (i : Ins) → reading b ≡ Some i
    → (is_instruction i ≡ true) × ((rest : List ℕ) × (b ≡ spelling i ++ rest) × (instruction_at b ≡ Ok (i, rest)))
unfolding reading
reading_begins b i h =
    let k = found_passes b (forms b) i (each_reads b) h in
    let p = and_true (is_instruction i) (is_prefix (spelling i) b) k.0 in
    let r = prefix_begins (spelling i) b p.1 in
    (p.0, (r.0, r.1, ap instruction_at r.1 ∙ again i r.0 k.1 p.0))

-- what the reader refuses reads as nothing
refused_by : (b : List ℕ) (f : DecodeFault) (o : Option Ins) → instruction_at b ≡ Err f → reading b ≡ o → o ≡ None
refused_by b f None t h = refl
refused_by b f (Some i) t h = absurd (let k = reading_begins b i h in let e = sym t ∙ k.1.2 in cc)

pub refused_reading : (b : List ℕ) (f : DecodeFault) → instruction_at b ≡ Err f → reading b ≡ None
refused_reading b f t = refused_by b f (reading b) t refl

pub read_reading : (b : List ℕ) (i : Ins) (rest : List ℕ) → IsBytes b → instruction_at b ≡ Ok (i, rest) → reading b ≡ Some i
read_reading b i rest are t = let k = read_takes b i rest are t in ap reading k.1 ∙ reading_again i rest k.0
