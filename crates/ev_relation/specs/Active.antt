-- Activations: at an instruction of a block, over the processor to which they will return; and what the variables of blocks are. Own.
use Rattle.std.specs.Prelude.{◌≡◌, ◌⊎◌, ℕ, ◌+◌, ◌*◌, ◌/◌, ◌%◌, ◌^◌, ◌<◌, ◌≤◌, ◌-◌, suc, Bool, true, false, not, ◌||◌, ◌==◌, if◌then◌else◌, List, [], ◌∷◌, length, get_or, set, slice_get, is_some, Option, Some, None}
use Rattle.ev_isa.specs.Word.{NatMap, bit, is_canonical}
use Rattle.ev_isa.specs.Flags.{Status, Flags, modelled}
use Rattle.ev_isa.specs.declared.mode.Mode.{Mode}
use Rattle.ev_isa.specs.declared.mode.Mode.TheVariants.{Idt, Fred}
use Rattle.ev_body.specs.declared.item.Item.{Item}
use Rattle.ev_body.specs.declared.item.Item.TheVariants.{SetCell, AddCell, SwapCell, Uget, Uput, SetRip, Eoi, Send, Map, Unmap, Ret, Resched, Call, Kick, Wait, Take, Finish}
use Rattle.ev_body.specs.declared.key.Side.{Side}
use Rattle.ev_body.specs.declared.key.Side.TheVariants.{User, Kernel}
use Rattle.ev_body.specs.declared.body.Body.{Body}
use Rattle.ev_body.specs.declared.image.Image.{Image}
use Rattle.ev_body.specs.Bodies.{first_body}
use Rattle.ev_state.specs.Processor.{Processor, rsp, selector}
use Rattle.ev_law.specs.Legal.{runs_calls}
use Rattle.ev_calls.specs.Records.{Linked}
use Rattle.ev_calls.specs.Lists.{IsTurning}
use Rattle.ev_symbolic.specs.Value.{M}
use Rattle.ev_symbolic.specs.State.{top_tag}
use Rattle.ev_mem.specs.Memory.{Memory}
use Rattle.ev_listing.specs.AddressMap.{pcpu, cells_base, body_code, task_words, task_selector, stack_top, head_offset, record_address}
use Rattle.ev_listing.specs.Expansion.{command, item_address, function_address}
use Rattle.ev_abstract.specs.Context.{CallId, BodyContext, local}
use Rattle.ev_abstract.specs.CrossCall.{after_take}
use Rattle.ev_abstract.specs.Run.{item_at}
use Rattle.ev_symbolic.specs.Agrees.{Env, untracked, At}
use Rattle.ev_symbolic.specs.Join.{env_after}
use Rattle.ev_symbolic.specs.Names.{task_tag, next_task_tag, item_tag, next_top_tag, record_tag}
use Rattle.ev_symbolic.specs.Openings.{gs_tag}
use Rattle.ev_table.specs.Table.{code_table}
use Rattle.ev_blocks.specs.Shapes.{Origin, UserCode, KernelCode, FredFrame, IdtFrame}
use Rattle.ev_blocks.specs.Fred.{FromUser, FromKernel, FredToKernel, FredToTask, FredToNext, way_values, kernel_values}
use Rattle.ev_blocks.specs.Fred as fred
use Rattle.ev_blocks.specs.Idt.{IdtReturn, BySysret, Stub, Sys, Common, IdtToKernel, IdtToTask, IdtToNext, table_of, stub_values, common_values, sys_values}
use Rattle.ev_blocks.specs.Idt as idt
use Rattle.ev_blocks.specs.Calls.{CallSpot, AtRecord, BehindWait, BehindBusy, AtFill, AtHead, AtLink, BehindFailure, BehindCall, AtTake, BehindTake, AtTurn, BehindTurn, AtTaken, AtFinish, BehindNext, AtOffset, behind_exchange, at_old_link, at_function, turn_edges, taken_edges}
use Rattle.ev_blocks.specs.Items.{BodySpot, AtTable, AtJump, AtItem, AtNumber, AtNumbers, AtKick, AtUserWord, AtPageWord, BehindSti, BehindKick, InCall, behind_comparison, at_quiet, kick_end}
use Rattle.ev_blocks.specs.Items as items
use Rattle.ev_blocks.specs.Blocks.{Spot, InFred, InIdt, InBody, block, edges, item_edges}
use Rattle.ev_blocks.specs.Blocks as blocks
use Rattle.ev_paths.specs.Lines.{IsAtStub}
use Rattle.ev_activation.specs.Seat.{Kind, SystemCall, FromTask, FromBody, NmiFromBody, Seat, top_at}
use Rattle.ev_relation.specs.Nmi.{Frame, Knows}
use Rattle.ev_relation.specs.Filling.{Filling}

-- ---- bases, and what no block tells

-- 16 the top of the frame, 17 the processor's area, 1000 absolute addresses; a spot says what the others are: 20 an item, and in an exit to another task
-- 18 and 19 the words of the two tasks, and 21 the top of the next one's stack
abbrev pub bases : (p top : ℕ) → (extra : ℕ → ℕ) → ℕ → ℕ
bases p top extra t = if t == 16 then top else (if t == 17 then pcpu p else (if t == 1000 then 0 else extra t))

-- the stack level at which it runs, by the processor to which it returns
abbrev pub nmi_level : Mode → Processor → ℕ
nmi_level Fred w = 2
nmi_level Idt w = w.level

-- that of its kind
abbrev pub level_in : Mode → Kind → Processor → ℕ
level_in mode NmiFromBody w = nmi_level mode w
level_in mode κ w = w.level

-- SS of the kernel: under IDT that of SYSCALL and of the NMI code, or none
abbrev pub IsKernelSs : Mode → ℕ → Type 0
IsKernelSs Fred n = n ≡ 0x18
IsKernelSs Idt n = (n ≡ 0) ⊎ (n ≡ 0x18)

-- what no symbolic state tells of the processor, from the delivery to the return
abbrev pub rest_in : Mode → Kind → ℕ → Processor → Processor
rest_in mode κ ss w = record (untracked w) { cpl = 0; cs = 0x10; ss = ss; level = level_in mode κ w }

-- its environment: bases, variables, flags and the rest
abbrev pub here : Mode → ℕ → Kind → Seat → ℕ → Processor → (extra var : ℕ → ℕ) → Flags → Env
here mode p κ σ ss w extra v f = record { base = bases p (top_at p σ) extra; var = v; flags = f; rest = rest_in mode κ ss w }

-- the address of item i of body n
abbrev pub address_of_item : Mode → ℕ → ℕ → Option Body → ℕ
address_of_item mode n i None = 0
address_of_item mode n i (Some b) = item_address mode n b i

-- the same by the body's number in the image
abbrev pub item_place : Mode → Image → ℕ → ℕ → ℕ
item_place mode image n i = address_of_item mode n i (slice_get image.bodies n)

-- the number that an item's code puts into RAX first
unfoldable pub number_of : Option Item → Option ℕ
number_of (Some (Item.Cell d k)) = Some (cells_base + 8 * k)
number_of (Some (SetCell k s)) = Some (cells_base + 8 * k)
number_of (Some (AddCell k d)) = Some (cells_base + 8 * k)
number_of (Some (SwapCell k d)) = Some (cells_base + 8 * k)
number_of (Some (SetRip a)) = Some a
number_of (Some Resched) = Some 1
number_of _ = None

-- the numbers that an item's code puts into RCX, RAX and RDX first
unfoldable pub numbers_of : Option Item → Option (ℕ × ℕ × ℕ)
numbers_of (Some Eoi) = Some (0x80b, 0, 0)
numbers_of (Some (Send to key)) = Some (0x830, command key, to)
numbers_of _ = None

-- the local that has its user address
unfoldable pub address_local : Option Item → Option ℕ
address_local (Some (Uget d s)) = Some s
address_local (Some (Uput s t)) = Some s
address_local _ = None

-- the local that has the address of its page
unfoldable pub page_local : Option Item → Option ℕ
page_local (Some (Map s)) = Some s
page_local (Some (Unmap s)) = Some s
page_local _ = None

-- the site of an item that uses a record
unfoldable pub site_of : Option Item → Option ℕ
site_of (Some (Call site to func s)) = Some site
site_of (Some (Wait site)) = Some site
site_of _ = None

-- whether a spot's block fills a call record
abbrev pub fills_record : Spot → Bool
fills_record (InBody layout s) = items.fills s
fills_record s = false

module _ (mode : Mode) (image : Image) where
  -- ---- at an instruction of a block

  -- The processor c stands at instruction k of the block of a spot, over w, in the seat σ; at most so many edges are left. IF is the context's: it may be on
  -- at the items of a body alone, and there an interrupt comes at any instruction.
  pub record IsAtSpot (p left : ℕ) (κ : Kind) (σ : Seat) (w : Processor) (b : BodyContext) (c : Processor) (m : Memory) : Type 0 where
    pub spot : Spot
    pub k : ℕ
    pub extra : ℕ → ℕ
    pub var : ℕ → ℕ
    pub flags : Flags
    pub ss : ℕ
    pub ss_is : IsKernelSs mode ss
    pub within : k ≤ (block mode spot).steps
    pub enough : edges mode spot k ≤ left
    pub masked : flags.interrupts ≡ b.interrupts
    pub at : At (code_table mode image) (block mode spot) k (here mode p κ σ ss w extra var flags) c m
    pub long : length c.regs ≡ 16

  -- ---- what a block's variables are, where w is the processor to which the activation returns, and b its body's context

  -- Of a task: a saved area's registers, the words of a frame, the GS base, the selector and RSP of level 0 give back w.
  pub record GivesBack (area : ℕ → ℕ) (a code word rsp stack base own top : ℕ) (w : Processor) : Type 0 where
    pub regs : w.regs ≡ area 0 ∷ area 1 ∷ area 2 ∷ area 3 ∷ rsp ∷ area 5 ∷ area 6 ∷ area 7 ∷ area 8 ∷ area 9 ∷ area 10 ∷ area 11 ∷ area 12 ∷ area 13
        ∷ area 14 ∷ area 15 ∷ []
    pub rip : a ≡ w.rip
    pub cs : selector code ≡ w.cs
    pub flags : word ≡ w.flags
    pub ss : selector stack ≡ w.ss
    pub sti : bit 16 stack ≡ w.sti_blocked
    pub gs : base ≡ w.msrs.gs_base
    pub chosen : own ≡ w.gs
    pub level : top ≡ get_or w.msrs.rsp 0 0

  -- so do these variables of the activation's own task
  abbrev pub Saved : (ℕ → ℕ) → Processor → Type 0
  Saved v w = GivesBack (λ r. v (30 + r)) (v 17) (v 18) (v 19) (v 20) (v 21) (v 60) (v 61) (v 63) w

  -- Of a body, which is at an instruction of an item: GS is the kernel's and isn't exchanged, SS stays, and the frame lies below RSP. What a return asks of w
  -- is said of it here.
  pub record SavedBody (e : Env) (w : Processor) : Type 0 where
    pub regs : w.regs ≡ e.var 30 ∷ e.var 31 ∷ e.var 32 ∷ e.var 33 ∷ e.var 20 ∷ e.var 35 ∷ e.var 36 ∷ e.var 37 ∷ e.var 38 ∷ e.var 39 ∷ e.var 40
        ∷ e.var 41 ∷ e.var 42 ∷ e.var 43 ∷ e.var 44 ∷ e.var 45 ∷ []
    pub rip : e.var 17 ≡ w.rip
    pub canonical : is_canonical w.rip ≡ true
    pub cs : selector (e.var 18) ≡ 0x10
    pub ring : (w.cpl ≡ 0) × (w.cs ≡ 0x10)
    pub stack_level : e.var 18 / 2 ^ 16 % 4 ≡ w.level
    pub flags : e.var 19 ≡ w.flags
    pub whole : modelled w.flags ≡ w.flags
    pub ss : selector (e.var 21) ≡ w.ss
    pub same_ss : e.rest.ss ≡ w.ss
    pub sti : bit 16 (e.var 21) ≡ false
    pub unblocked : w.sti_blocked ≡ false
    pub base : w.msrs.gs_base ≡ e.base gs_tag
    pub gs : e.var 60 ≡ w.msrs.kernel_gs_base
    pub chosen : e.var 61 ≡ w.gs
    pub level : e.var 63 ≡ get_or w.msrs.rsp 0 0
    pub levels : length w.msrs.rsp ≡ 4
    pub above : e.base top_tag ≤ rsp w

  -- by what the activation's event interrupted
  abbrev pub SavedOf : Origin → Env → Processor → Type 0
  SavedOf UserCode e w = Saved e.var w
  SavedOf KernelCode e w = SavedBody e w

  -- which side its body is of
  abbrev pub side_by : Origin → Side
  side_by UserCode = User
  side_by KernelCode = Kernel

  -- the locals are registers 6 to 13
  abbrev pub Locals : (ℕ → ℕ) → BodyContext → Type 0
  Locals v b = b.locals ≡ v 6 ∷ v 7 ∷ v 8 ∷ v 9 ∷ v 10 ∷ v 11 ∷ v 12 ∷ v 13 ∷ []

  -- at the load of the body's address: RAX is the place of the key's word in the table of bodies
  pub record AtLoad (o : Origin) (e : Env) (w : Processor) (b : BodyContext) : Type 0 where
    pub key : ℕ
    pub small : key ≤ 0x100
    pub place : e.var 0 ≡ table_of o + 8 * key
    pub found : first_body 0 image.bodies key (side_by o) ≡ Some b.body
    pub begins : b.place ≡ 0
    pub unknown : b.flags ≡ None
    pub off : b.interrupts ≡ false
    pub quiet : b.calls ≡ []
    pub saved : SavedOf o e w
    pub locals : Locals e.var b

  -- at the jump to the body: RAX is its address
  pub record AtStart (o : Origin) (e : Env) (w : Processor) (b : BodyContext) : Type 0 where
    pub code : e.var 0 ≡ body_code b.body
    pub begins : b.place ≡ 0
    pub unknown : b.flags ≡ None
    pub off : b.interrupts ≡ false
    pub quiet : b.calls ≡ []
    pub saved : SavedOf o e w
    pub locals : Locals e.var b

  -- The calls that a context still has to run are linked from R14 on; where there is none, R14 is anything.
  abbrev pub HoldsCalls : NatMap ℕ → ℕ → List CallId → Type 0
  HoldsCalls words a [] = Unit {0}
  HoldsCalls words a (k ∷ ks) = Linked words a (k ∷ ks)

  -- the status flags are those of the context, where these are known
  abbrev pub FlagsAre : Option Status → Flags → Type 0
  FlagsAre None f = Unit {0}
  FlagsAre (Some s) f = f.status ≡ s

  -- at an item: the registers are its locals, and the flags its flags
  pub record InItem (o : Origin) (e : Env) (w : Processor) (b : BodyContext) (words : NatMap ℕ) : Type 0 where
    pub saved : SavedOf o e w
    pub locals : Locals e.var b
    pub flags : FlagsAre b.flags e.flags
    pub calls : HoldsCalls words (e.var 14) b.calls

  -- in the exit, behind `ret`
  pub record Leaving (o : Origin) (e : Env) (w : Processor) (b : BodyContext) : Type 0 where
    pub saved : SavedOf o e w
    pub off : b.interrupts ≡ false
    pub ret : item_at (slice_get image.bodies b.body) b.place ≡ Some Ret

  -- where the exit finds RIP in RCX and RFLAGS in R11, as SYSRETQ takes them
  abbrev pub Matches : IdtReturn → (rcx rip r11 word : ℕ) → Type 0
  Matches BySysret rcx rip r11 word = (rcx ≡ rip) × (r11 ≡ word)
  Matches by rcx rip r11 word = Unit {0}

  -- In the exit behind `ret` that switches: the words are those of a task of the processor and of the next one, whose saved area gives back w, with RSP of
  -- level 0 as the mode has it.
  pub record ToNext (top : ℕ) (e : Env) (w : Processor) (b : BodyContext) : Type 0 where
    pub off : b.interrupts ≡ false
    pub ret : item_at (slice_get image.bodies b.body) b.place ≡ Some Ret
    pub p : ℕ
    pub task : ℕ
    pub next : ℕ
    pub few : (task < 4) × (next < 4)
    pub area : e.base gs_tag ≡ pcpu p
    pub words : e.base task_tag ≡ task_words p task
    pub next_words : e.base next_task_tag ≡ task_words p next
    pub next_top : e.base next_top_tag ≡ stack_top p next
    pub chosen : w.gs ≡ task_selector p next
    pub gives : GivesBack (λ r. e.var (70 + r)) (e.var 54) (e.var 55) (e.var 56) (e.var 57) (e.var 58) (e.var 51) (e.var 50) top w

  -- the local that the item moves there first is in RAX
  pub record LocalInRax (first : Option Item → Option ℕ) (e : Env) (b : BodyContext) : Type 0 where
    pub register : ℕ
    pub is : first (item_at (slice_get image.bodies b.body) b.place) ≡ Some register
    pub rax : e.var 0 ≡ local b register

  -- the item of the context is at its place
  abbrev pub HasPlace : Env → BodyContext → Type 0
  HasPlace e b = e.base item_tag ≡ item_place mode image b.body b.place

  -- the base of an item is an address of the bodies' code
  abbrev pub HasRange : Env → Type 0
  HasRange e = (0xffffffff82000000 ≤ e.base item_tag) × (e.base item_tag + 0x100 ≤ M)

  -- behind an item's visible instruction the context is at the next item already, which begins so many bytes behind the item
  abbrev pub HasNextPlace : ℕ → Env → BodyContext → Type 0
  HasNextPlace n e b = e.base item_tag + n ≡ item_place mode image b.body b.place

  -- ---- in the items of cross calls

  -- the context's item
  abbrev pub item_of : BodyContext → Option Item
  item_of b = item_at (slice_get image.bodies b.body) b.place

  -- it is in the code of item n of the context's body
  abbrev pub InCodeOf : Env → BodyContext → ℕ → Item → Type 0
  InCodeOf e b n item = (item_at (slice_get image.bodies b.body) n ≡ Some item) × (e.base item_tag ≡ item_place mode image b.body n)

  -- In an item of calls, whose flags no context tells, the registers are the locals.
  pub record InCode (o : Origin) (e : Env) (w : Processor) (b : BodyContext) (words : NatMap ℕ) : Type 0 where
    pub range : HasRange e
    pub saved : SavedOf o e w
    pub locals : Locals e.var b
    pub calls : HoldsCalls words (e.var 14) b.calls

  -- Behind the visible instruction of `call` the context has the answer in its local s, which the register gets last.
  pub record Answering (o : Origin) (e : Env) (w : Processor) (b : BodyContext) (s answer : ℕ) (words : NatMap ℕ) : Type 0 where
    pub range : HasRange e
    pub saved : SavedOf o e w
    pub is_local : (6 ≤ s) × (s < 14)
    pub locals : b.locals ≡ set (e.var 6 ∷ e.var 7 ∷ e.var 8 ∷ e.var 9 ∷ e.var 10 ∷ e.var 11 ∷ e.var 12 ∷ e.var 13 ∷ []) (s - 6) answer
    pub flags : b.flags ≡ None
    pub calls : HoldsCalls words (e.var 14) b.calls
    pub site : ℕ
    pub to : ℕ
    pub func : ℕ
    pub n : ℕ
    pub code : InCodeOf e b n (Call site to func s)
    pub next : b.place ≡ suc n

  -- Behind the visible instruction of `wait` that found the call done.
  pub record Waited (e : Env) (b : BodyContext) : Type 0 where
    pub site : ℕ
    pub n : ℕ
    pub code : InCodeOf e b n (Wait site)
    pub next : b.place ≡ suc n

  -- The activation fills the record of its item's site: 22 is the record, 27 the processor and 28 the site; and these are the item's numbers.
  pub record Fills (e : Env) (b : BodyContext) (f : Option Filling) (address func to s : ℕ) : Type 0 where
    pub site : ℕ
    pub number : ℕ
    pub is : f ≡ Some (record { site = site; number = number })
    pub item : item_of b ≡ Some (Call site to func s)
    pub is_local : (6 ≤ s) × (s < 14)
    pub at : e.base record_tag ≡ e.base gs_tag + 0x800 + 0x40 * site
    pub address_is : address ≡ function_address mode image func
    pub from : e.base gs_tag ≡ pcpu (e.var 27)
    pub from_site : e.var 28 ≡ site

  -- once it is filled, 25 is the number of the call and 26 the argument
  pub record Filled (e : Env) (b : BodyContext) (f : Option Filling) (address func to : ℕ) : Type 0 where
    pub s : ℕ
    pub fills : Fills e b f address func to s
    pub number : e.var 25 ≡ suc fills.number % M
    pub argument : e.var 26 ≡ local b s

  -- whether RAX, a head that was read, is the target's still
  abbrev pub IsHead : Bool → ℕ → ℕ → NatMap ℕ → Type 0
  IsHead true to a words = Unit {0}
  IsHead false to a words = words (pcpu to + head_offset) ≡ a

  -- The record of the first call of a context that has just begun its function: the function's address, the argument and the caller.
  abbrev pub BeginsCall : NatMap ℕ → BodyContext → List CallId → Type 0
  BeginsCall words b [] = Unit {0}
  BeginsCall words b (k ∷ ks) =
      (words (record_address k.from k.site + 8) ≡ item_place mode image b.body b.place)
      × (words (record_address k.from k.site + 0x10) ≡ local b 9) × (words (record_address k.from k.site + 0x20) ≡ local b 10)

  -- which registers have their locals already: R9 and R10 get theirs from the record
  abbrev pub LocalsBut : (nine ten : Bool) → (ℕ → ℕ) → BodyContext → Type 0
  LocalsBut nine ten v b = b.locals ≡ v 6 ∷ v 7 ∷ v 8 ∷ (if nine then v 9 else local b 9) ∷ (if ten then v 10 else local b 10) ∷ v 11 ∷ v 12 ∷ v 13 ∷ []

  -- Behind the visible instruction of `take` and of `finish` the context is at the function of its first call, or behind `take` where there is none. `n` is the
  -- item in whose code the activation is.
  pub record Taking (o : Origin) (e : Env) (w : Processor) (b : BodyContext) (nine ten : Bool) (words : NatMap ℕ) : Type 0 where
    pub range : HasRange e
    pub saved : SavedOf o e w
    pub locals : LocalsBut (not (runs_calls b.calls) || nine) (not (runs_calls b.calls) || ten) e.var b
    pub flags : b.flags ≡ None
    pub begins : BeginsCall words b b.calls

  -- in the code of the body's `take`
  pub record InTake (e : Env) (b : BodyContext) : Type 0 where
    pub n : ℕ
    pub behind : after_take (slice_get image.bodies b.body) ≡ suc n
    pub code : InCodeOf e b n Take
    pub none : b.calls ≡ [] → b.place ≡ suc n

  -- in that of a `finish`
  pub record InFinish (e : Env) (b : BodyContext) : Type 0 where
    pub n : ℕ
    pub code : InCodeOf e b n Finish
    pub none : b.calls ≡ [] → b.place ≡ after_take (slice_get image.bodies b.body)

  -- Behind the load of the next record in `finish` RBX is the record of the first call, and R14 that of the next.
  pub record Finishing (o : Origin) (e : Env) (w : Processor) (b : BodyContext) (words : NatMap ℕ) : Type 0 where
    pub range : HasRange e
    pub saved : SavedOf o e w
    pub locals : Locals e.var b
    pub place : HasPlace e b
    pub item : item_of b ≡ Some Finish
    pub some : runs_calls b.calls ≡ true
    pub list : Linked words (e.var 3) b.calls
    pub next : e.var 14 ≡ words (e.var 3 + 0x18)

  -- a list that is turned round, of which so many are left
  pub record Turns (words : NatMap ℕ) (left turned : ℕ) (calls : List CallId) (n : ℕ) : Type 0 where
    pub list : IsTurning words left turned calls
    pub many : length list.ahead ≡ n

  -- In the code of `kick`, whose local has the answer of the `call` before it: 2 where the target's queue was empty, and then it sends.
  pub record Kicking (o : Origin) (e : Env) (w : Processor) (b : BodyContext) (to : ℕ) (sends : Bool) (words : NatMap ℕ) : Type 0 where
    pub code : InCode o e w b words
    pub place : HasPlace e b
    pub s : ℕ
    pub item : item_of b ≡ Some (Kick to s)
    pub answer : (local b s == 2) ≡ sends

  -- what is made by hand: one instruction at a time
  pub data IsByHand (o : Origin) (e : Env) (w : Processor) (b : BodyContext) (words : NatMap ℕ) (offset edges : ℕ) : Type 0 where
    -- the branch behind the exchange of `call` that put the record into the queue, in whose place the old head, a word, is in RAX
    BehindExchange : offset ≡ behind_exchange → edges ≡ item_edges + 5 → (s : ℕ) (is_first : Bool) → Answering o e w b s (if is_first then 2 else 1) words
        → ((e.var 0 == 0) ≡ is_first) × (e.var 0 < M) → e.flags.status.zero ≡ true → IsByHand o e w b words offset edges
    -- the store of a record's new link: RAX is the record, and RCX its old link
    BehindOldLink : (n : ℕ) → offset ≡ at_old_link + 7 → edges ≡ turn_edges item_edges n + 4 → Taking o e w b false false words → InTake e b
        → Turns words (e.var 0) (e.var 14) b.calls (suc n) → e.var 1 ≡ words (e.var 0 + 0x18) → IsByHand o e w b words offset edges
    -- the loads of the first call's words, and the jump to its function
    AtFunction : offset ≡ at_function → edges ≡ item_edges + 4 → Taking o e w b false false words → InTake e b → runs_calls b.calls ≡ true
        → Linked words (e.var 14) b.calls → IsByHand o e w b words offset edges
    BehindArgument : offset ≡ at_function + 7 → edges ≡ item_edges + 3 → Taking o e w b true false words → InTake e b → runs_calls b.calls ≡ true
        → Linked words (e.var 14) b.calls → IsByHand o e w b words offset edges
    BehindCaller : offset ≡ at_function + 14 → edges ≡ item_edges + 2 → Taking o e w b true true words → InTake e b → runs_calls b.calls ≡ true
        → Linked words (e.var 14) b.calls → IsByHand o e w b words offset edges
    BehindAddress : offset ≡ at_function + 21 → edges ≡ item_edges + 1 → Taking o e w b true true words → InTake e b → runs_calls b.calls ≡ true
        → Linked words (e.var 14) b.calls → e.var 0 ≡ item_place mode image b.body b.place → IsByHand o e w b words offset edges
    -- the jump behind the visible store of `finish`
    BehindFinish : offset ≡ 27 → edges ≡ taken_edges item_edges + 1 → Taking o e w b false false words → InFinish e b
        → Linked words (e.var 14) b.calls → IsByHand o e w b words offset edges
    -- the branch behind the comparison of `kick`
    BehindComparison : offset ≡ behind_comparison → edges ≡ 4 → (to : ℕ) (sends : Bool) → Kicking o e w b to sends words → e.flags.status.zero ≡ sends
        → IsByHand o e w b words offset edges
    -- what is visible where it sends nothing
    AtQuiet : offset ≡ at_quiet → edges ≡ 0 → (to : ℕ) → Kicking o e w b to false words → IsByHand o e w b words offset edges

  -- at the spots of call items; `f` is the record that the activation fills
  abbrev pub InCallSpot : Origin → CallSpot → Env → Processor → BodyContext → Option Filling → NatMap ℕ → Type 0
  InCallSpot o (AtRecord site) e w b f words =
      InCode o e w b words × HasPlace e b × (site_of (item_of b) ≡ Some site) × (e.var 3 ≡ e.base gs_tag + 0x800)
  InCallSpot o (BehindWait true) e w b f words = InCode o e w b words × Waited e b × (b.flags ≡ None)
  InCallSpot o (BehindWait false) e w b f words =
      InCode o e w b words × HasPlace e b × (b.flags ≡ None) × (site : ℕ) × (item_of b ≡ Some (Wait site))
  InCallSpot o (BehindBusy s) e w b f words = Answering o e w b s 0 words
  InCallSpot o (AtFill address func to s) e w b f words =
      InCode o e w b words × HasPlace e b × (z : Fills e b f address func to s) × (e.var 25 ≡ z.number % M)
  InCallSpot o (AtHead address func to) e w b f words = InCode o e w b words × HasPlace e b × Filled e b f address func to
  InCallSpot o (AtLink address func to is_stale) e w b f words =
      InCode o e w b words × HasPlace e b × Filled e b f address func to × IsHead is_stale to (e.var 0) words
      × (e.var 0 < M)
  InCallSpot o (BehindFailure address func to) e w b f words =
      InCode o e w b words × HasPlace e b × Filled e b f address func to × (e.flags.status.zero ≡ false)
  InCallSpot o (BehindCall s is_first) e w b f words = Answering o e w b s (if is_first then 2 else 1) words × ((e.var 0 == 0) ≡ is_first)
  InCallSpot o AtTake e w b f words = InCode o e w b words × HasPlace e b × (item_of b ≡ Some Take) × (e.var 2 ≡ e.base gs_tag + 0x800)
  InCallSpot o (BehindTake left) e w b f words = Taking o e w b false false words × InTake e b × Turns words (e.var 0) 0 b.calls left
  InCallSpot o (AtTurn left) e w b f words = Taking o e w b false false words × InTake e b × Turns words (e.var 0) (e.var 14) b.calls left
  InCallSpot o (BehindTurn left) e w b f words = Taking o e w b false false words × InTake e b × Turns words (e.var 1) (e.var 0) b.calls left
  InCallSpot o (AtTaken is_some) e w b f words =
      Taking o e w b false false words × InTake e b × Linked words (e.var 14) b.calls × (runs_calls b.calls ≡ is_some)
  InCallSpot o AtFinish e w b f words = InCode o e w b words × HasPlace e b × (item_of b ≡ Some Finish)
  InCallSpot o BehindNext e w b f words = Finishing o e w b words
  InCallSpot o (AtOffset offset edges) e w b f words = IsByHand o e w b words offset edges

  -- at the spots of bodies
  abbrev pub InSpot : Origin → BodySpot → Env → Processor → BodyContext → Option Filling → NatMap ℕ → Type 0
  InSpot o AtTable e w b f words = AtLoad o e w b × HasPlace e b
  InSpot o AtJump e w b f words = AtStart o e w b × HasPlace e b
  InSpot o AtItem e w b f words = InItem o e w b words × HasPlace e b
  InSpot o (AtNumber n) e w b f words = InItem o e w b words × HasPlace e b × (number_of (item_of b) ≡ Some n)
  InSpot o (AtNumbers rcx rax rdx) e w b f words = InItem o e w b words × HasPlace e b × (numbers_of (item_of b) ≡ Some (rcx, rax, rdx))
  InSpot o AtUserWord e w b f words = InItem o e w b words × HasPlace e b × LocalInRax address_local e b
  InSpot o (AtPageWord is_page) e w b f words = InItem o e w b words × HasPlace e b × LocalInRax page_local e b
  InSpot o (AtKick to) e w b f words = Kicking o e w b to true words
  InSpot o BehindSti e w b f words = InItem o e w b words × HasNextPlace 2 e b × HasRange e
  InSpot o BehindKick e w b f words = InCode o e w b words × HasNextPlace kick_end e b × (b.flags ≡ None)
  InSpot o (InCall s) e w b f words = InCallSpot o s e w b f words

  -- of an activation over a task, by its spot; in an entry the variables are told by those of the block behind it
  abbrev pub OverTask : Mode → Spot → Env → Processor → BodyContext → Option Filling → NatMap ℕ → Type 0
  OverTask Fred (InFred (FromUser way)) e w b g words = AtLoad UserCode (env_after e (way_values way) e.flags) w b × HasPlace e b
  OverTask Fred (InFred (fred.Leaves FredToTask)) e w b g words = Leaving UserCode e w b
  OverTask Fred (InFred (fred.Leaves FredToNext)) e w b g words = ToNext (e.base next_top_tag) e w b
  OverTask Fred (InBody FredFrame s) e w b g words = InSpot UserCode s e w b g words
  OverTask Idt (InIdt Sys) e w b g words = AtLoad UserCode (env_after e sys_values e.flags) w b × HasPlace e b
  OverTask Idt (InIdt (Stub UserCode has v)) e w b g words = IsAtStub e (Stub UserCode has v)
      × AtLoad UserCode (env_after (env_after e (stub_values has v) e.flags) (common_values UserCode (v == 14)) e.flags) w b × HasPlace e b
  OverTask Idt (InIdt (Common UserCode pf)) e w b g words = AtLoad UserCode (env_after e (common_values UserCode pf) e.flags) w b × HasPlace e b
  OverTask Idt (InIdt (idt.Leaves (IdtToTask by))) e w b g words = Leaving UserCode e w b × Matches by (e.var 31) (e.var 17) (e.var 41) (e.var 19)
  OverTask Idt (InIdt (idt.Leaves (IdtToNext by))) e w b g words = ToNext (e.var 63) e w b × Matches by (e.var 71) (e.var 54) (e.var 81) (e.var 56)
  OverTask Idt (InBody IdtFrame s) e w b g words = InSpot UserCode s e w b g words
  OverTask m spot e w b g words = ⊥

  -- and of one over a body
  abbrev pub OverBody : Mode → Spot → Env → Processor → BodyContext → Option Filling → NatMap ℕ → Type 0
  OverBody Fred (InFred FromKernel) e w b g words = AtLoad KernelCode (env_after e kernel_values e.flags) w b × HasPlace e b
  OverBody Fred (InFred (fred.Leaves FredToKernel)) e w b g words = Leaving KernelCode e w b
  OverBody Fred (InBody FredFrame s) e w b g words = InSpot KernelCode s e w b g words
  OverBody Idt (InIdt (Stub KernelCode has v)) e w b g words = IsAtStub e (Stub KernelCode has v)
      × AtLoad KernelCode (env_after (env_after e (stub_values has v) e.flags) (common_values KernelCode (v == 14)) e.flags) w b × HasPlace e b
  OverBody Idt (InIdt (Common KernelCode pf)) e w b g words = AtLoad KernelCode (env_after e (common_values KernelCode pf) e.flags) w b × HasPlace e b
  OverBody Idt (InIdt (idt.Leaves IdtToKernel)) e w b g words = Leaving KernelCode e w b
  OverBody Idt (InBody IdtFrame s) e w b g words = InSpot KernelCode s e w b g words
  OverBody m spot e w b g words = ⊥

  -- those of NMIs stand at no spot yet
  abbrev pub Means : Kind → Spot → Env → Processor → BodyContext → Option Filling → NatMap ℕ → Type 0
  Means SystemCall spot e w b g words = OverTask mode spot e w b g words
  Means FromTask spot e w b g words = OverTask mode spot e w b g words
  Means FromBody spot e w b g words = OverBody mode spot e w b g words
  Means κ spot e w b g words = ⊥

  -- ---- the activation of a context

  -- The activation of b, of this kind and in this seat, which runs on c and will return to w; `switching` says whether it changes the running task, and
  -- `filling` which call record it fills.
  pub record Active (p left : ℕ) (κ : Kind) (σ : Seat) (f : Frame) (switching : Bool) (filling : Option Filling) (w : Processor) (b : BodyContext)
      (c : Processor) (m : Memory) : Type 0 where
    pub stands : IsAtSpot p left κ σ w b c m
    pub switches : blocks.switches stands.spot ≡ switching
    pub fills : fills_record stands.spot ≡ is_some filling
    pub knows : Knows mode κ (blocks.holds stands.spot) f
    pub means : Means κ stands.spot (here mode p κ σ stands.ss w stands.extra stands.var stands.flags) w b filling m.words
