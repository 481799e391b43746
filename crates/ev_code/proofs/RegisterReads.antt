-- The readers of instructions without REX.W take what they spell, and so does the reader of all instructions.
use Rattle.std.proofs.Common.{◌≡◌, ℕ, ℤ, ◌+◌, ◌*◌, ◌/◌, ◌%◌, ◌<◌, true, false, ltb, List, [], ◌∷◌, ◌++◌, Option, Some, None, Ok, Err, refl, sym, ap, ◌∙◌, append_assoc, arith, if◌then◌else◌, ◌==◌}
use Rattle.std.specs.Int.{w32}
use Rattle.std.specs.Int.RustNames.{FitsSigned}
use Rattle.std.proofs.lemmas.Bool.{eqb-true, eq-eqb, lt-ltb, le-ltb}
use Rattle.ev_isa.specs.declared.instruction.Ins.{Ins}
use Rattle.ev_isa.specs.declared.instruction.Cond.{Cond}
use Rattle.ev_isa.specs.declared.instruction.Cond.TheVariants.{Z, Nz, C, Nc, S, Ns}
use Rattle.ev_isa.specs.declared.instruction.Ins.TheVariants.{Jmp, Jcc, JmpReg, Push, PushImm, Pop, IntN, Lkgs, MovGs, ReadCr2, WriteCr2, Nop, Int3, Int1, Syscall, Swapgs, Eretu, Erets, Rdmsr, Wrmsr, Sti, Cli, Ud2}
use Rattle.ev_isa.specs.Instruction.{is_instruction}
use Rattle.ev_isa.specs.Spelling.{spelling, four_bytes, short_rex, cond_number}
use Rattle.ev_code.specs.declared.fault.DecodeFault.TheVariants.{Unknown}
use Rattle.ev_code.specs.Coding.{FieldsFit, IsEncodable}
use Rattle.ev_code.specs.Reader.{Read, register_at, rm_field, cond_of, is_wide, with_register_at, lkgs_at, lkgs_high_at, lkgs_or_erets_at, last_at, repne_at, eretu_at, rep_at, cr2_at, condition_at, two_byte_at, narrow_at, cr2_high_at, extended_at, with_immediate_at, int_at, plain_at, behind_at, instruction_at}
use Rattle.ev_code.proofs.Parts.{IsReader, IsLive, same, done, stop, choose, pick, under, field, next, live}
use Rattle.ev_code.proofs.FieldReads.{immediate_field, register_field}
use Rattle.ev_code.proofs.FormReads.{number_step, rex_of_wide, wide_reads, gs_reads, locked_reads}

-- an instruction with no fields
pub no_fields : (i : Ins) → FieldsFit i → is_instruction i ≡ true → IsEncodable i
no_fields i f c = record { fields = f; counts = c }

last_reads : (last : ℕ) (i : Ins) (f : List ℕ → List ℕ) → last < 256 → IsEncodable i → ((bytes : List ℕ) → f (last ∷ bytes) ≡ spelling i ++ bytes)
    → IsReader (Unit {0}) f (last_at last i)
unfolding last_at
last_reads last i f lt good h =
    next _ _ _ _ _ last lt (live_if last i)
    (λ x. pick _ (λ y bytes. f (y ∷ bytes)) _ _ x last _ _ (done _ _ _ _ i (λ v. (good, h))) (stop _ _ _ _))
  where
    live_if : (last : ℕ) (i : Ins) → IsLive (λ bytes. if last == last then (let u : Read Ins = Ok (i, bytes) in u) else Err Unknown)
    live_if last i = live _ [] i refl (rw (eq-eqb last last refl) refl)

-- ---- one register

with_register_reads : (make : ℕ → Ins) (rex upper : ℕ) (f : List ℕ → List ℕ) → upper < 32
    → ((r : ℕ) → r < 16 → r / 8 ≡ rex % 2 → IsEncodable (make r) × ((bytes : List ℕ) → f ((8 * upper + r % 8) ∷ bytes) ≡ spelling (make r) ++ bytes))
    → IsReader (Unit {0}) f (with_register_at make rex upper)
unfolding with_register_at
with_register_reads make rex upper f lt h =
    field _ _ _ _ _ _ _ _ (register_field rex upper lt)
    (λ r. done _ _ _ _ (make r) (λ v. h r v.1.0 v.1.1))
    (λ r. live _ [] (make r) refl refl)

-- the prefix of a register without REX.W, where rex is the prefix, or stands for none
pub record IsPrefix (rex : ℕ) (s : List ℕ) : Type 0 where
  pub is : (r : ℕ) → r < 16 → r / 8 ≡ rex % 2 → short_rex r ≡ s

pub no_prefix : IsPrefix 0x40 []
no_prefix = record { is = λ r lt h. let k : ltb r 8 ≡ true = lt-ltb _ _ (omega arith) in rw k refl }

pub high_prefix : IsPrefix 0x41 (0x41 ∷ [])
high_prefix = record { is = λ r lt h. let k : ltb r 8 ≡ false = le-ltb _ _ (omega arith) in rw k refl }

pub prefixed : (s t u bytes : List ℕ) → t ≡ s → s ++ (u ++ bytes) ≡ (t ++ u) ++ bytes
prefixed s t u bytes e = rw e (sym (append_assoc s u bytes))

lkgs_reads : IsReader (Unit {0}) (λ bytes. 0xf2 ∷ 0x41 ∷ 0x0f ∷ bytes) lkgs_at
unfolding lkgs_at spelling is_instruction with_register_at register_at
lkgs_reads =
    next _ _ _ _ _ 0 (omega arith) (live _ (0xf0 ∷ []) (Lkgs 8) refl refl)
    (λ y. pick _ (λ z bytes. 0xf2 ∷ 0x41 ∷ 0x0f ∷ z ∷ bytes) _ _ y 0 _ _
    (with_register_reads Lkgs 0x41 30 (λ bytes. 0xf2 ∷ 0x41 ∷ 0x0f ∷ 0 ∷ bytes) (omega arith)
    (λ r lt h. (record { fields = lt; counts = refl }, λ bytes. rw (high_prefix.is r lt h) refl)))
    (stop _ _ _ _))

lkgs_high_reads : IsReader (Unit {0}) (λ bytes. 0xf2 ∷ 0x41 ∷ bytes) lkgs_high_at
unfolding lkgs_high_at lkgs_at with_register_at register_at
lkgs_high_reads =
    next _ _ _ _ _ 0x0f (omega arith) (live _ (0 ∷ 0xf0 ∷ []) (Lkgs 8) refl refl)
    (λ y. pick _ (λ z bytes. 0xf2 ∷ 0x41 ∷ z ∷ bytes) _ _ y 0x0f _ _ lkgs_reads (stop _ _ _ _))

lkgs_or_erets_reads : IsReader (Unit {0}) (λ bytes. 0xf2 ∷ 0x0f ∷ bytes) lkgs_or_erets_at
unfolding lkgs_or_erets_at spelling is_instruction with_register_at register_at
lkgs_or_erets_reads =
    next _ _ _ _ _ 0 (omega arith) (live _ (0xf0 ∷ []) (Lkgs 0) refl refl)
    (λ y. pick _ (λ z bytes. 0xf2 ∷ 0x0f ∷ z ∷ bytes) _ _ y 0 _ _
    (with_register_reads Lkgs 0x40 30 (λ bytes. 0xf2 ∷ 0x0f ∷ 0 ∷ bytes) (omega arith)
    (λ r lt h. (record { fields = lt; counts = refl }, λ bytes. rw (no_prefix.is r lt h) refl)))
    (pick _ (λ z bytes. 0xf2 ∷ 0x0f ∷ z ∷ bytes) _ _ y 1 _ _
    (last_reads 0xca Erets _ (omega arith) (no_fields Erets tt refl) (λ bytes. refl)) (stop _ _ _ _)))

repne_reads : IsReader (Unit {0}) (λ bytes. 0xf2 ∷ bytes) repne_at
unfolding repne_at lkgs_high_at lkgs_at with_register_at register_at
repne_reads =
    next _ _ _ _ _ 0x41 (omega arith) (live _ (0x0f ∷ 0 ∷ 0xf0 ∷ []) (Lkgs 8) refl refl)
    (λ y. pick _ (λ z bytes. 0xf2 ∷ z ∷ bytes) _ _ y 0x41 _ _ lkgs_high_reads
    (pick _ (λ z bytes. 0xf2 ∷ z ∷ bytes) _ _ y 0x0f _ _ lkgs_or_erets_reads (stop _ _ _ _)))

eretu_reads : IsReader (Unit {0}) (λ bytes. 0xf3 ∷ 0x0f ∷ bytes) eretu_at
unfolding eretu_at spelling is_instruction last_at
eretu_reads =
    next _ _ _ _ _ 1 (omega arith) (live _ (0xca ∷ []) Eretu refl refl)
    (λ y. pick _ (λ z bytes. 0xf3 ∷ 0x0f ∷ z ∷ bytes) _ _ y 1 _ _ (last_reads 0xca Eretu _ (omega arith) (no_fields Eretu tt refl) (λ bytes. refl))
    (stop _ _ _ _))

rep_reads : IsReader (Unit {0}) (λ bytes. 0xf3 ∷ bytes) rep_at
unfolding rep_at eretu_at last_at
rep_reads =
    next _ _ _ _ _ 0x0f (omega arith) (live _ (1 ∷ 0xca ∷ []) Eretu refl refl)
    (λ y. pick _ (λ z bytes. 0xf3 ∷ z ∷ bytes) _ _ y 0x0f _ _ eretu_reads (stop _ _ _ _))

cr2_reads : (rex op : ℕ) (s : List ℕ) → IsPrefix rex s → IsReader (Unit {0}) (λ bytes. s ++ 0x0f ∷ op ∷ bytes) (cr2_at rex op)
unfolding cr2_at spelling is_instruction
cr2_reads rex op s p =
    pick _ (λ z bytes. s ++ 0x0f ∷ z ∷ bytes) _ _ op 0x20 _ _
    (with_register_reads ReadCr2 rex 26 (λ bytes. s ++ 0x0f ∷ 0x20 ∷ bytes) (omega arith)
    (λ r lt h. (record { fields = lt; counts = refl }, λ bytes. prefixed s (short_rex r) (0x0f ∷ 0x20 ∷ (208 + r % 8) ∷ []) bytes (p.is r lt h))))
    (pick _ (λ z bytes. s ++ 0x0f ∷ z ∷ bytes) _ _ op 0x22 _ _
    (with_register_reads WriteCr2 rex 26 (λ bytes. s ++ 0x0f ∷ 0x22 ∷ bytes) (omega arith)
    (λ r lt h. (record { fields = lt; counts = refl }, λ bytes. prefixed s (short_rex r) (0x0f ∷ 0x22 ∷ (208 + r % 8) ∷ []) bytes (p.is r lt h))))
    (stop _ _ _ _))

narrow_reads : (rex x : ℕ) (s : List ℕ) → IsPrefix rex s → IsReader (Unit {0}) (λ bytes. s ++ x ∷ bytes) (narrow_at rex x)
unfolding narrow_at spelling is_instruction
narrow_reads rex x s p =
    choose _ _ _ _ (x / 8 == 10) _ _
    (λ t. let e : x / 8 ≡ 10 = eqb-true _ _ t in
    let lt : rm_field rex x < 16 = omega arith in
    let high : rm_field rex x / 8 ≡ rex % 2 = omega arith in
    let k : x ≡ 0x50 + rm_field rex x % 8 = omega arith in
    done _ _ _ _ (Push (rm_field rex x))
    (λ v. (
      record { fields = lt; counts = refl },
      λ bytes. ap (λ (y : ℕ). s ++ y ∷ bytes) k ∙ prefixed s (short_rex (rm_field rex x))
          ((0x50 + rm_field rex x % 8) ∷ []) bytes (p.is _ lt high),
    )))
    (λ t. choose _ _ _ _ (x / 8 == 11) _ _
    (λ t. let e : x / 8 ≡ 11 = eqb-true _ _ t in
    let lt : rm_field rex x < 16 = omega arith in
    let high : rm_field rex x / 8 ≡ rex % 2 = omega arith in
    let k : x ≡ 0x58 + rm_field rex x % 8 = omega arith in
    done _ _ _ _ (Pop (rm_field rex x))
    (λ v. (
      record { fields = lt; counts = refl },
      λ bytes. ap (λ (y : ℕ). s ++ y ∷ bytes) k ∙ prefixed s (short_rex (rm_field rex x))
          ((0x58 + rm_field rex x % 8) ∷ []) bytes (p.is _ lt high),
    )))
    (λ t. pick _ (λ z bytes. s ++ z ∷ bytes) _ _ x 0xff _ _
    (with_register_reads JmpReg rex 28 (λ bytes. s ++ 0xff ∷ bytes) (omega arith)
    (λ r lt h. (record { fields = lt; counts = refl }, λ bytes. prefixed s (short_rex r) (0xff ∷ (224 + r % 8) ∷ []) bytes (p.is r lt h))))
    (pick _ (λ z bytes. s ++ z ∷ bytes) _ _ x 0x8e _ _
    (with_register_reads MovGs rex 29 (λ bytes. s ++ 0x8e ∷ bytes) (omega arith)
    (λ r lt h. (record { fields = lt; counts = refl }, λ bytes. prefixed s (short_rex r) (0x8e ∷ (232 + r % 8) ∷ []) bytes (p.is r lt h))))
    (stop _ _ _ _))))

cr2_high_reads : IsReader (Unit {0}) (λ bytes. 0x41 ∷ 0x0f ∷ bytes) cr2_high_at
unfolding cr2_high_at cr2_at with_register_at register_at
cr2_high_reads =
    next _ _ _ _ _ 0x20 (omega arith) (live _ (0xd0 ∷ []) (ReadCr2 8) refl refl)
    (λ y. under _ _ _ _ _ (cr2_reads 0x41 y (0x41 ∷ []) high_prefix))

extended_reads : IsReader (Unit {0}) (λ bytes. 0x41 ∷ bytes) extended_at
unfolding extended_at narrow_at
extended_reads =
    next _ _ _ _ _ 0x50 (omega arith) (live _ [] (Push 8) refl refl)
    (λ x. pick _ (λ z bytes. 0x41 ∷ z ∷ bytes) _ _ x 0x0f _ _ cr2_high_reads (under _ _ _ _ _ (narrow_reads 0x41 x (0x41 ∷ []) high_prefix)))

-- ---- jumps, and what stands behind 0F

cond_step : (n k : ℕ) (c x : Cond) (rest : Option Cond) → k ≡ 0x80 + cond_number c → (rest ≡ Some x → n ≡ 0x80 + cond_number x)
    → (let u : Option Cond = if n == k then Some c else rest in u) ≡ Some x → n ≡ 0x80 + cond_number x
cond_step n k c x rest at others h = number_step (λ d. 0x80 + cond_number d) n k c x rest at others (n == k) refl h

cond_of_back : (n : ℕ) (c : Cond) → cond_of n ≡ Some c → n ≡ 0x80 + cond_number c
unfolding cond_of
cond_of_back n c h =
    cond_step n 0x82 C c _ refl (λ h1. cond_step n 0x83 Nc c _ refl (λ h2. cond_step n 0x84 Z c _ refl (λ h3. cond_step n 0x85 Nz c _ refl
    (λ h4. cond_step n 0x88 S c _ refl (λ h5. cond_step n 0x89 Ns c _ refl (λ h6. absurd cc) h5) h4) h3) h2) h1) h

condition_reads : (o : Option Cond) (op : ℕ) → cond_of op ≡ o → IsReader (Unit {0}) (λ bytes. 0x0f ∷ op ∷ bytes) (condition_at o op)
unfolding condition_at spelling is_instruction
condition_reads None op e = cr2_reads 0x40 op [] no_prefix
condition_reads (Some c) op e =
    field _ _ _ _ _ _ _ _ immediate_field
    (λ n. done _ _ _ _ (Jcc c n)
    (λ v. (record { fields = v.1; counts = refl }, λ bytes. ap (λ (y : ℕ). 0x0f ∷ y ∷ four_bytes n ++ bytes) (cond_of_back op c e))))
    (λ n. live _ [] (Jcc c n) refl refl)

two_byte_reads : IsReader (Unit {0}) (λ bytes. 0x0f ∷ bytes) two_byte_at
unfolding two_byte_at spelling is_instruction
two_byte_reads =
    next _ _ _ _ _ 5 (omega arith) (live _ [] Syscall refl refl)
    (λ y. pick _ (λ z bytes. 0x0f ∷ z ∷ bytes) _ _ y 0x05 _ _ (done _ _ _ _ Syscall (λ v. (no_fields Syscall tt refl, λ bytes. refl)))
    (pick _ (λ z bytes. 0x0f ∷ z ∷ bytes) _ _ y 0x0b _ _ (done _ _ _ _ Ud2 (λ v. (no_fields Ud2 tt refl, λ bytes. refl)))
    (pick _ (λ z bytes. 0x0f ∷ z ∷ bytes) _ _ y 0x30 _ _ (done _ _ _ _ Wrmsr (λ v. (no_fields Wrmsr tt refl, λ bytes. refl)))
    (pick _ (λ z bytes. 0x0f ∷ z ∷ bytes) _ _ y 0x32 _ _ (done _ _ _ _ Rdmsr (λ v. (no_fields Rdmsr tt refl, λ bytes. refl)))
    (pick _ (λ z bytes. 0x0f ∷ z ∷ bytes) _ _ y 0x01 _ _ (last_reads 0xf8 Swapgs _ (omega arith) (no_fields Swapgs tt refl) (λ bytes. refl))
    (under _ _ _ _ _ (condition_reads (cond_of y) y refl)))))))

with_immediate_reads : (make : ℤ → Ins) (f : List ℕ → List ℕ)
    → ((n : ℤ) → FitsSigned w32 n → IsEncodable (make n) × ((bytes : List ℕ) → f (four_bytes n ++ bytes) ≡ spelling (make n) ++ bytes))
    → IsReader (Unit {0}) f (with_immediate_at make)
unfolding with_immediate_at
with_immediate_reads make f h =
    field _ _ _ _ _ _ _ _ immediate_field (λ n. done _ _ _ _ (make n) (λ v. h n v.1)) (λ n. live _ [] (make n) refl refl)

int_reads : IsReader (Unit {0}) (λ bytes. 0xcd ∷ bytes) int_at
unfolding int_at spelling is_instruction
int_reads =
    next _ _ _ _ _ 0 (omega arith) (live _ [] (IntN 0) refl refl)
    (λ n. done _ _ _ _ (IntN n) (λ v. (record { fields = v.1; counts = refl }, λ bytes. refl)))

plain_reads : (x : ℕ) → IsReader (Unit {0}) (λ bytes. x ∷ bytes) (plain_at x)
unfolding plain_at spelling is_instruction
plain_reads x =
    pick _ (λ z bytes. z ∷ bytes) _ _ x 0x90 _ _ (done _ _ _ _ Nop (λ v. (no_fields Nop tt refl, λ bytes. refl)))
    (pick _ (λ z bytes. z ∷ bytes) _ _ x 0xcc _ _ (done _ _ _ _ Int3 (λ v. (no_fields Int3 tt refl, λ bytes. refl)))
    (pick _ (λ z bytes. z ∷ bytes) _ _ x 0xf1 _ _ (done _ _ _ _ Int1 (λ v. (no_fields Int1 tt refl, λ bytes. refl)))
    (pick _ (λ z bytes. z ∷ bytes) _ _ x 0xfa _ _ (done _ _ _ _ Cli (λ v. (no_fields Cli tt refl, λ bytes. refl)))
    (pick _ (λ z bytes. z ∷ bytes) _ _ x 0xfb _ _ (done _ _ _ _ Sti (λ v. (no_fields Sti tt refl, λ bytes. refl)))
    (pick _ (λ z bytes. z ∷ bytes) _ _ x 0xe9 _ _
    (with_immediate_reads Jmp (λ bytes. 0xe9 ∷ bytes) (λ n h. (record { fields = h; counts = refl }, λ bytes. refl)))
    (pick _ (λ z bytes. z ∷ bytes) _ _ x 0x68 _ _
    (with_immediate_reads PushImm (λ bytes. 0x68 ∷ bytes) (λ n h. (record { fields = h; counts = refl }, λ bytes. refl)))
    (pick _ (λ z bytes. z ∷ bytes) _ _ x 0xcd _ _ int_reads (narrow_reads 0x40 x [] no_prefix))))))))

behind_reads : (x : ℕ) → IsReader (Unit {0}) (λ bytes. x ∷ bytes) (behind_at x)
unfolding behind_at
behind_reads x =
    choose _ _ _ _ (is_wide x) _ _ (λ t. wide_reads x (rex_of_wide x t))
    (λ t. pick _ (λ z bytes. z ∷ bytes) _ _ x 0x0f _ _ two_byte_reads
    (pick _ (λ z bytes. z ∷ bytes) _ _ x 0x41 _ _ extended_reads
    (pick _ (λ z bytes. z ∷ bytes) _ _ x 0x65 _ _ gs_reads
    (pick _ (λ z bytes. z ∷ bytes) _ _ x 0xf0 _ _ locked_reads
    (pick _ (λ z bytes. z ∷ bytes) _ _ x 0xf2 _ _ repne_reads
    (pick _ (λ z bytes. z ∷ bytes) _ _ x 0xf3 _ _ rep_reads
    (plain_reads x)))))))

pub instruction_reads : IsReader (Unit {0}) same instruction_at
unfolding instruction_at behind_at plain_at
instruction_reads =
    next _ _ _ _ _ 0x90 (omega arith) (live _ [] Nop refl refl)
    (λ x. under _ _ _ _ _ (behind_reads x))
