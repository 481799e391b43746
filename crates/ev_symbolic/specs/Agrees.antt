-- What a symbolic state says of a processor and memory, and what it is to stand at an instruction of a block.
use Rattle.std.specs.Prelude.{◌≡◌, ℕ, ◌+◌, ◌%◌, Bool, true, false, List, [], ◌∷◌, drop, map, length, Option, Some, None}
use Rattle.ev_isa.specs.Word.{NatMap, is_canonical, is_aligned}
use Rattle.ev_isa.specs.Flags.{Status, Flags, computed, sum, difference, shift_left, shift_right, flags_word}
use Rattle.ev_isa.specs.Pages.{KernelWord}
use Rattle.ev_isa.specs.Spelling.{spelling}
use Rattle.ev_isa.specs.declared.instruction.Ins.{Ins}
use Rattle.ev_state.specs.Msr.{is_level_rsp}
use Rattle.ev_state.specs.Descriptors.{base_of}
use Rattle.ev_state.specs.Processor.{Processor, is_user, selector}
use Rattle.ev_mem.specs.declared.region.Region.{Region}
use Rattle.ev_mem.specs.Memory.{Memory, place_in}
use Rattle.ev_apic.specs.declared.apic.Apic.{Apic}
use Rattle.ev_proc.specs.ProcessorStep.{has_fred, executed, ran}
use Rattle.ev_listing.specs.Marks.{Mark, Never}
use Rattle.ev_symbolic.specs.Value.{M, Op, OAdd, OSub, OAnd, OOr, OXor, OShl, OShr, OLess, OSame, V, K, P, X, B, F, FVar, FOp, Fact, number}
use Rattle.ev_symbolic.specs.State.{Loc, Word, SS, Win, Line, Descriptor, Ground, Block, in_win, in_text, loc_eq}
use Rattle.ev_symbolic.specs.Run.{brun}

-- The meaning of bases, variables and opening flags, and of all that a symbolic state doesn't tell of the processor.
-- The bases and the rest stay for the life of an activation, the variables and the flags for a block.
pub record Env : Type 0 where
  pub base : ℕ → ℕ
  pub var : ℕ → ℕ
  pub flags : Flags
  pub rest : Processor

-- a processor with blanks for all that a symbolic state tells of it, and for the blocking of NMIs, which no block changes
abbrev pub untracked : Processor → Processor
untracked c = record c {
  regs = [];
  rip = 0;
  flags = 0;
  cr2 = 0;
  gs = 0;
  nmi_blocked = false;
  sti_blocked = false;
  msrs = record c.msrs { gs_base = 0; kernel_gs_base = 0; rsp = drop 1 c.msrs.rsp };
}

unfoldable pub eval : Env → V → ℕ
eval e (K n) = n
eval e (P t o) = (e.base t + o) % M
eval e (X i) = e.var i
eval e (B o a b) = number o (eval e a) (eval e b)

abbrev pub addr : Env → Loc → ℕ
addr e l = (e.base l.tag + l.off) % M

-- the status flags that an operation leaves
unfoldable pub status : Op → ℕ → ℕ → Status
status OAdd a b = (sum a b).1
status OSub a b = (difference a b).1
status OAnd a b = (computed (number OAnd a b) false false).1
status OOr a b = (computed (number OOr a b) false false).1
status OXor a b = (computed (number OXor a b) false false).1
status OShl a b = (shift_left a b).1
status OShr a b = (shift_right a b).1
status OLess a b = (computed (number OLess a b) false false).1
status OSame a b = (computed (number OSame a b) false false).1

unfoldable pub eval_flags : Env → F → Flags
eval_flags e FVar = e.flags
eval_flags e (FOp o a b) = record e.flags { status = status o (eval e a) (eval e b) }

-- the words that the symbolic state lists stand in memory, in the private windows
abbrev pub Known : Env → List Win → NatMap ℕ → List Word → Type 0
Known e W m [] = Unit {0}
Known e W m (w ∷ ws) = (in_win W w.at ≡ true) × (m (addr e w.at) ≡ eval e w.val) × Known e W m ws

abbrev pub FactsHold : Env → List Fact → Type 0
FactsHold e [] = Unit {0}
FactsHold e (f ∷ fs) = (eval e f.val ≡ f.is) × FactsHold e fs

-- the values select these descriptors
abbrev pub Described : Env → List Descriptor → Type 0
Described e [] = Unit {0}
Described e (d ∷ ds) = (selector (eval e d.value) ≡ eval e d.selector) × (base_of e.rest.gdt (eval e d.selector) ≡ Some (eval e d.base)) × Described e ds

abbrev pub AreTops : Env → List V → Type 0
AreTops e [] = Unit {0}
AreTops e (v ∷ vs) = (is_level_rsp (eval e v) ≡ true) × AreTops e vs

-- the kernel can read and write the words of the windows: this depends on the regions alone, which never change
pub record IsOpen (regions : List Region) (a : ℕ) : Type 0 where
  pub kernel : place_in regions a ≡ KernelWord
  pub canonical : is_canonical a ≡ true
  pub aligned : is_aligned a ≡ true

abbrev pub Open : Env → List Win → List Region → Type 0
Open e W regions = (l : Loc) → in_win W l ≡ true → IsOpen regions (addr e l)

-- the code: what stands at an address, the address after it, and when the abstract machine makes a step with it
pub record Cell : Type 0 where
  pub ins : Ins
  pub next : ℕ
  pub mark : Mark

abbrev pub Code : Type 0
Code = ℕ → Option Cell

-- an instruction that the abstract machine doesn't see
abbrev pub edge_cell : Ins → ℕ → Cell
edge_cell i next = record { ins = i; next = next; mark = Never }

-- each instruction is followed by the address behind its bytes
abbrev pub Spaced : Code → Type 0
Spaced code = (a : ℕ) (x : Cell) → code a ≡ Some x → x.next ≡ a + length (spelling x.ins)

abbrev pub Stands : Code → Env → List Line → Type 0
Stands code e [] = Unit {0}
Stands code e (x ∷ xs) = (code (addr e x.at) ≡ Some (edge_cell x.ins (addr e x.next))) × Stands code e xs

-- two places of these windows are one address only if they are one place
abbrev pub Apart : Env → List Win → List Win → Type 0
Apart e N W = (k l : Loc) → in_win N k ≡ true → in_win W l ≡ true → loc_eq k l ≡ false → addr e k ≡ addr e l → ⊥

-- no place of the first is one of the second, which may be another activation's
abbrev pub Far : Env → List Win → Env → List Win → Type 0
Far e N f W = (k l : Loc) → in_win N k ≡ true → in_win W l ≡ true → addr e k ≡ addr f l → ⊥

-- what an environment owes the ground of a block, for as long as an activation is in the block
pub record Grounded (e : Env) (G : Ground) : Type 0 where
  pub zero_base : e.base 1000 ≡ 0
  pub kernel : is_user e.rest ≡ false
  pub fred : has_fred e.rest ≡ G.fred
  pub sep : Apart e G.known G.own
  pub across : Far e G.known e G.shared
  pub facts : FactsHold e G.facts
  pub descriptors : Described e G.descriptors
  pub tops : AreTops e G.tops
  pub text : (l : Loc) → in_text G.text l ≡ true → is_canonical (addr e l) ≡ true

pub record Fits (code : Code) (e : Env) (b : Block) : Type 0 where
  pub ground : Grounded e b.ground
  pub spaced : Spaced code
  pub stands : Stands code e b.lines

-- a number is the value that is told of it, if one is
abbrev pub IsTold : Env → Option V → ℕ → Type 0
IsTold e None a = Unit {0}
IsTold e (Some v) a = a ≡ eval e v

pub record Agrees (e : Env) (G : Ground) (s : SS) (c : Processor) (m : Memory) : Type 0 where
  pub regs : c.regs ≡ map (eval e) s.regs
  pub rip : c.rip ≡ addr e s.rip
  pub flags : c.flags ≡ flags_word (eval_flags e s.flags)
  pub gs : c.msrs.gs_base ≡ eval e s.gs
  pub kernel_gs : c.msrs.kernel_gs_base ≡ eval e s.kernel_gs
  pub selector : c.gs ≡ eval e s.selector
  pub cr2 : IsTold e s.cr2 c.cr2
  pub levels : c.msrs.rsp ≡ eval e s.rsp0 ∷ e.rest.msrs.rsp
  pub blocked : c.sti_blocked ≡ s.blocked
  pub rest : untracked c ≡ e.rest
  pub words : Known e G.known m.words s.words
  pub known_open : Open e G.known m.regions
  pub shared_open : Open e G.shared m.regions

-- memory with other words
abbrev pub with_words : Memory → NatMap ℕ → Memory
with_words m words = record m { words = words }

-- words changed in the windows alone
abbrev pub Within : Env → List Win → List Win → NatMap ℕ → NatMap ℕ → Type 0
Within e W S m n = (x : ℕ) → ((l : Loc) → in_win W l ≡ true → x ≡ addr e l → ⊥) → ((l : Loc) → in_win S l ≡ true → x ≡ addr e l → ⊥) → n x ≡ m x

-- others left the private windows as they were
abbrev pub Foreign : Env → List Win → NatMap ℕ → NatMap ℕ → Type 0
Foreign e W m n = (l : Loc) → in_win W l ≡ true → n (addr e l) ≡ m (addr e l)

-- what an instruction at RIP leads to, where the symbolic step gives an answer
pub record Steps (e : Env) (G : Ground) (i : Ins) (s : SS) (c : Processor) (m : Memory) : Type 0 where
  pub cpu : Processor
  pub words : NatMap ℕ
  pub runs : (a : Apic) (nmi : Bool) → executed c a m nmi (Some i) ≡ ran cpu a words nmi
  pub long : length cpu.regs ≡ length c.regs
  pub blocking : cpu.nmi_blocked ≡ c.nmi_blocked
  pub agrees : Agrees e G s cpu (with_words m words)
  pub within : Within e G.own G.shared m.words words

abbrev pub StepsIf : Env → Ground → Ins → Option SS → Processor → Memory → Type 0
StepsIf e G i None c m = Unit {0}
StepsIf e G i (Some s) c m = Steps e G i s c m

-- an activation stands at instruction k of a block
pub record At (code : Code) (b : Block) (k : ℕ) (e : Env) (c : Processor) (m : Memory) : Type 0 where
  pub fits : Fits code e b
  pub state : SS
  pub is : brun b k ≡ Some state
  pub agrees : Agrees e b.ground state c m
