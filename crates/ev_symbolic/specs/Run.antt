-- The symbolic step of an instruction, and runs of blocks. No step (None): a load of a word that isn't known, a store outside the windows, a jump whose
-- condition or target isn't known, and every instruction that is visible to others or enters or leaves an activation.
use Rattle.std.specs.Prelude.{ℕ, zero, suc, ◌%◌, ◌^◌, Bool, true, false, ◌&&◌, ◌==◌, nat_lt, if◌then◌else◌, List, [], ◌∷◌, set, Option, Some, None}
use Rattle.ev_isa.specs.Word.{sign_extend}
use Rattle.ev_isa.specs.declared.instruction.Ins.{Ins}
use Rattle.ev_isa.specs.declared.instruction.Ins.TheVariants.{MovImm, MovReg, Load, Store, StoreImm, GsLoad, GsStore, GsPush, Alu, AluImm, Shl, Shr, Jmp, Jcc, JmpReg, Push, PushImm, Pop, Lkgs, MovGs, ReadCr2, WriteCr2, Nop, Swapgs, Rdmsr, Wrmsr}
use Rattle.ev_symbolic.specs.Value.{M, Op, OAdd, OSub, OAnd, OShl, OShr, V, K, P, FOp, v_eq, norm, sop, op_of, left_by, sholds}
use Rattle.ev_symbolic.specs.State.{Loc, SS, Line, Descriptor, Ground, Block, in_win, in_text, loc_eq, loc_of, shift, find, write, sreg, is_listed, descriptor_of}

-- the state after an instruction that sets registers, and goes on
abbrev pub moved : SS → List V → Loc → SS
moved s regs l = record s { regs = regs; rip = l; blocked = false }

abbrev pub sload : Loc → SS → List V → ℕ → Option Loc → Option SS
sload next s regs d None = None
sload next s regs d (Some l) = elim (find l s.words) [ None ↦ None | Some v ↦ Some (moved s (set regs d v) next) ]

abbrev pub sstore : Ground → Loc → SS → List V → V → Option Loc → Option SS
sstore G next s regs v None = None
sstore G next s regs v (Some l) =
    if in_win G.own l then (if in_win G.known l then Some (record (moved s regs next) { words = write l v s.words }) else None)
    else (if in_win G.shared l then Some (moved s regs next) else None)

-- RSP less 8
abbrev pub pushed_rsp : SS → V
pushed_rsp s = sop OSub (sreg s 4) (K 8)

abbrev pub spush : Ground → Loc → SS → V → Option SS
spush G next s v = sstore G next s (set s.regs 4 (pushed_rsp s)) v (loc_of (pushed_rsp s))

abbrev pub spush_at : Ground → Loc → SS → Option Loc → Option SS
spush_at G next s None = None
spush_at G next s (Some l) = elim (find l s.words) [ None ↦ None | Some v ↦ spush G next s v ]

-- the place at a base and a displacement
abbrev pub sat : V → ℕ → Option Loc
sat b n = loc_of (sop OAdd b (K n))

abbrev pub salu : Loc → SS → ℕ → V → Op → V → V → SS
salu next s d v o a b = record (moved s (set s.regs d v) next) { flags = FOp o a b }

abbrev pub sjump : Ground → SS → Loc → Option SS
sjump G s l = if in_text G.text l then Some (moved s s.regs l) else None

abbrev pub sjump_to : Ground → SS → Option Loc → Option SS
sjump_to G s None = None
sjump_to G s (Some l) = sjump G s l

abbrev pub sjcc : Ground → Loc → SS → ℕ → Option Bool → Option SS
sjcc G next s n None = None
sjcc G next s n (Some b) = if b then sjump G s (shift next n) else Some (moved s s.regs next)

abbrev pub slkgs : Loc → SS → Option Descriptor → Option SS
slkgs next s None = None
slkgs next s (Some d) = Some (record (moved s s.regs next) { selector = d.selector; kernel_gs = d.base })

abbrev pub smov_gs : Loc → SS → Option Descriptor → Option SS
smov_gs next s None = None
smov_gs next s (Some d) = Some (record (moved s s.regs next) { selector = d.selector; gs = d.base })

-- CR2 is read only where it is told
abbrev pub sread_cr2 : Loc → SS → ℕ → Option V → Option SS
sread_cr2 next s d None = None
sread_cr2 next s d (Some v) = Some (moved s (set s.regs d v) next)

-- whether a register names an MSR
abbrev pub is_msr : ℕ → V → Bool
is_msr n (K k) = k % 2 ^ 32 == n
is_msr n v = false

-- RDMSR of the GS base
abbrev pub srdmsr : Ground → Loc → SS → Option SS
srdmsr G next s =
    if is_msr 0xc0000101 (sreg s 1) then Some
    (moved s (set (set s.regs 0 (norm G.facts (sop OAnd s.gs (K 4294967295)))) 2 (norm G.facts (sop OShr s.gs (K 32)))) next)
    else None

-- below 2^64 whatever the variables are
abbrev pub is_word : V → Bool
is_word (K n) = nat_lt n M
is_word (P t o) = true
is_word v = false

-- WRMSR of RSP of level 0: EAX and EDX are the halves of RAX
abbrev pub swrmsr : Ground → Loc → SS → Option SS
swrmsr G next s =
    if is_msr 0x1cc (sreg s 1) && (v_eq (norm G.facts (sop OShr (sreg s 0) (K 32))) (sreg s 2) && (is_word (sreg s 0) && is_listed (sreg s 0) G.tops)) then
    Some (record (moved s s.regs next) { rsp0 = sreg s 0 })
    else None

abbrev pub sstep : Ground → Ins → Loc → SS → Option SS
sstep G (MovImm d n) next s = Some (moved s (set s.regs d (K n)) next)
sstep G (MovReg d r) next s = Some (moved s (set s.regs d (sreg s r)) next)
sstep G (Load d b n) next s = sload next s s.regs d (sat (sreg s b) (sign_extend n))
sstep G (Store b n r) next s = sstore G next s s.regs (sreg s r) (sat (sreg s b) (sign_extend n))
sstep G (StoreImm b n i) next s = sstore G next s s.regs (K (sign_extend i)) (sat (sreg s b) (sign_extend n))
sstep G (GsLoad d n) next s = sload next s s.regs d (sat s.gs (sign_extend n))
sstep G (GsStore n r) next s = sstore G next s s.regs (sreg s r) (sat s.gs (sign_extend n))
sstep G (GsPush n) next s = spush_at G next s (sat s.gs (sign_extend n))
sstep G (Alu op d r) next s = Some (salu next s d (left_by G.facts op (sreg s d) (sreg s r)) (op_of op) (sreg s d) (sreg s r))
sstep G (AluImm op d i) next s = Some (salu next s d (left_by G.facts op (sreg s d) (K (sign_extend i))) (op_of op) (sreg s d) (K (sign_extend i)))
sstep G (Shl d n) next s = Some (salu next s d (norm G.facts (sop OShl (sreg s d) (K n))) OShl (sreg s d) (K n))
sstep G (Shr d n) next s = Some (salu next s d (norm G.facts (sop OShr (sreg s d) (K n))) OShr (sreg s d) (K n))
sstep G (Jmp n) next s = sjump G s (shift next (sign_extend n))
sstep G (Jcc c n) next s = sjcc G next s (sign_extend n) (sholds G.facts c s.flags)
sstep G (JmpReg r) next s = sjump_to G s (loc_of (sreg s r))
sstep G (Push r) next s = spush G next s (sreg s r)
sstep G (PushImm i) next s = spush G next s (K (sign_extend i))
sstep G (Pop d) next s = sload next s (set s.regs 4 (sop OAdd (sreg s 4) (K 8))) d (loc_of (sreg s 4))
sstep G (ReadCr2 d) next s = sread_cr2 next s d s.cr2
sstep G (WriteCr2 r) next s = Some (record (moved s s.regs next) { cr2 = Some (sreg s r) })
sstep G Nop next s = Some (moved s s.regs next)
sstep G Swapgs next s = if G.fred then None else Some (record (moved s s.regs next) { gs = s.kernel_gs; kernel_gs = s.gs })
sstep G (Lkgs r) next s = slkgs next s (descriptor_of (sreg s r) G.descriptors)
sstep G (MovGs r) next s = smov_gs next s (descriptor_of (sreg s r) G.descriptors)
sstep G Rdmsr next s = srdmsr G next s
sstep G Wrmsr next s = swrmsr G next s
sstep G _ next s = None

abbrev pub line_at : Loc → List Line → Option Line
line_at l [] = None
line_at l (x ∷ xs) = if loc_eq x.at l then Some x else line_at l xs

-- one step of a block
abbrev pub bstep : Block → Option Line → SS → Option SS
bstep b None s = None
bstep b (Some x) s = sstep b.ground x.ins x.next s

abbrev pub bnext : Block → Option SS → Option SS
bnext b None = None
bnext b (Some s) = bstep b (line_at s.rip b.lines) s

-- the state after k steps
abbrev pub brun : Block → ℕ → Option SS
brun b zero = Some b.opening
brun b (suc k) = bnext b (brun b k)

-- A test on the states of a run, from a state on and over so many steps: closed, so that what holds at every instruction of a block is told once.
abbrev pub every_from : (SS → Bool) → Block → ℕ → SS → Bool
every_from test b zero s = test s
every_from test b (suc n) s = test s && elim (bnext b (Some s)) [ None ↦ true | Some t ↦ every_from test b n t ]

abbrev pub every : (SS → Bool) → Block → Bool
every test b = every_from test b b.steps b.opening
