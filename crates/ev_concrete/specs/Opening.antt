-- The opening of the machine: the words of memory and the processors, for an image and a mode. Own.
use Rattle.std.specs.Prelude.{ℕ, suc, ◌+◌, ◌-◌, ◌*◌, ◌/◌, ◌%◌, ◌^◌, Bool, true, false, ◌&&◌, nat_lt, nat_le, ◌==◌, if◌then◌else◌, List, [], ◌∷◌, ◌++◌, length, map, flat_map, get_or, drop, Option, Some, None}
use Rattle.std.specs.Int.{w64, from_le_bytes}
use Rattle.ev_isa.specs.Word.{is_aligned, members, values, numbers_from}
use Rattle.ev_isa.specs.Flags.{flags_word, start_flags}
use Rattle.ev_body.specs.declared.key.Side.{Side}
use Rattle.ev_body.specs.declared.key.Side.TheVariants.{User, Kernel}
use Rattle.ev_body.specs.declared.body.Body.{Body}
use Rattle.ev_body.specs.declared.image.TaskSpec.{TaskSpec}
use Rattle.ev_body.specs.declared.image.Image.{Image}
use Rattle.ev_body.specs.Bodies.{first_body}
use Rattle.ev_abstract.specs.Machine.{no_task}
use Rattle.ev_isa.specs.Pages.{words_at_start, text_base, page_base}
use Rattle.ev_state.specs.Processor.{Processor}
use Rattle.ev_apic.specs.declared.apic.Apic.{Apic}
use Rattle.ev_mem.specs.declared.region.RegionKind.{RegionKind}
use Rattle.ev_mem.specs.declared.region.Region.{Region}
use Rattle.ev_mem.specs.Memory.{Memory, page_map}
use Rattle.ev_gate.specs.declared.gate.Gate.{Gate}
use Rattle.ev_gate.specs.Gate.{gate_bytes}
use Rattle.ev_listing.specs.AddressMap.{pcpu, top_offset, current_offset, records_offset, rsp0_offset, record_address, user_table, kernel_table, idt_base, cells_base, task_words, task_selector, stack_top, no_body, fred_page, vector_stub, sys_entry, nmi_entry, body_code, code_end}
use Rattle.ev_asm.specs.Assembly.{Places, code}
use Rattle.ev_listing.specs.Marks.{Listing, stmts_of, all_places}
use Rattle.ev_listing.specs.IdtCode.{idt_listings}
use Rattle.ev_listing.specs.FredCode.{fred_listings}
use Rattle.ev_isa.specs.declared.mode.Mode.{Mode}
use Rattle.ev_isa.specs.declared.mode.Mode.TheVariants.{Idt, Fred}
use Rattle.ev_listing.specs.Expansion.{body_stmts}

-- ---- code

-- the code that no image changes
abbrev pub kernel_listings : Mode → List Listing
kernel_listings Idt = idt_listings
kernel_listings Fred = fred_listings

-- the code of the bodies from number n on
abbrev pub body_listings : Mode → Image → ℕ → List Body → List Listing
body_listings mode image n [] = []
body_listings mode image n (b ∷ bs) = record { address = body_code n; lines = body_stmts mode image n b } ∷ body_listings mode image (suc n) bs

-- all code of an image
unfoldable pub listings : Mode → Image → List Listing
listings mode image = body_listings mode image 0 image.bodies ++ kernel_listings mode

-- bytes at their address
abbrev pub Placed : Type 0
Placed = List (ℕ × List ℕ)

-- the bytes of listings, where all labels have these places
abbrev pub placed_code : Places → List Listing → Placed
placed_code env [] = []
placed_code env (b ∷ bs) = (b.address, code env b.address (stmts_of b.lines)) ∷ placed_code env bs

-- the bytes of listings, with their own labels
abbrev pub code_of : List Listing → Placed
code_of bs = placed_code (all_places bs) bs

-- the byte at an address
abbrev pub byte_of : Placed → ℕ → ℕ
byte_of [] a = 0
byte_of (e ∷ es) a = if nat_le e.0 a && nat_lt a (e.0 + length e.1) then get_or e.1 (a - e.0) 0 else byte_of es a

-- the word at an address
unfoldable pub code_word : Placed → ℕ → ℕ
code_word es a = from_le_bytes w64 (map (byte_of es) (numbers_from a 8))

-- ---- tables

-- where the code of a body stands, if there is one
abbrev pub body_address : Option ℕ → ℕ
body_address None = no_body
body_address (Some n) = body_code n

-- the word of a key in the table of a side
abbrev pub table_word : Image → Side → ℕ → ℕ
table_word image side key = body_address (first_body 0 image.bodies key side)

-- gate v: NMI on IST 1, #DF on IST 2, and user code may raise vector 3 alone
abbrev pub gate : ℕ → Gate
gate v = record {
  offset = if v == 2 then nmi_entry else vector_stub v;
  selector = 0x10;
  ist = if v == 2 then 1 else (if v == 8 then 2 else 0);
  trap = false;
  dpl = if v == 3 then 3 else 0;
  present = true;
}

-- word n of the IDT
unfoldable pub idt_word : ℕ → ℕ
idt_word n = from_le_bytes w64 (drop (8 * (n % 2)) (gate_bytes (gate (n / 2))))

-- ---- the areas of processors and tasks

-- word o of call record k of p: its owner and its site
abbrev pub record_word : ℕ → ℕ → ℕ → ℕ
record_word p k o = if o == 0x20 then p else (if o == 0x30 then k else 0)

-- Word o of the area of p. From 404H on it is the TSS, of 104 bytes, whose I/O map begins at its end.
unfoldable pub pcpu_word : ℕ → ℕ → ℕ
pcpu_word p o =
    if o == 0 then p else (if o == top_offset then stack_top p 0 else (if o == current_offset then task_words p 0
    else (if o == records_offset then record_address p 0 else (if o == rsp0_offset then stack_top p 0
    else (if o == 0x428 then stack_top p 4 else (if o == 0x430 then stack_top p 5 else (if o == 0x468 then 104 * 2 ^ 16
    else (if nat_le 0x800 o && nat_lt o 0xa00 then record_word p ((o - 0x800) / 0x40) (o % 0x40) else 0))))))))

-- the tasks of p
abbrev pub tasks_of : Image → ℕ → List TaskSpec
tasks_of image p = get_or image.tasks p []

-- the words of task i of p, of n tasks
abbrev pub task_word : ℕ → ℕ → ℕ → ℕ → ℕ
task_word n p i o =
    if nat_lt i n then (if o == 0 then task_words p (suc i % n) else (if o == 8 then stack_top p i else (if o == 0x10 then task_selector p i else 0))) else 0

-- the saved area of a task that waits, from its base up
abbrev pub saved_words : Mode → TaskSpec → List ℕ
saved_words mode t =
    map (λ r. get_or t.regs r 0) (15 ∷ 14 ∷ 13 ∷ 12 ∷ 11 ∷ 10 ∷ 9 ∷ 8 ∷ 7 ∷ 6 ∷ 5 ∷ 3 ∷ 2 ∷ 1 ∷ 0 ∷ []) ++ above mode
  where
    above : Mode → List ℕ
    above Idt = 0 ∷ 0 ∷ t.start ∷ 0x33 ∷ flags_word start_flags ∷ get_or t.regs 4 0 ∷ 0x2b ∷ []
    above Fred = get_or t.regs 0 0 ∷ 0 ∷ t.start ∷ 0x33 ∷ flags_word start_flags ∷ get_or t.regs 4 0 ∷ 0x20000000000002b ∷ 0 ∷ 0 ∷ []

-- the word so many bytes below the top of a waiting task's stack
abbrev pub below_top : List ℕ → ℕ → ℕ
below_top ws o = if nat_le o (8 * length ws) then get_or ws (length ws - o / 8) 0 else 0

-- the word so many bytes below the top of stack n of p
abbrev pub stack_word : Mode → Image → ℕ → ℕ → ℕ → ℕ
stack_word mode image p n o =
    if nat_lt 0 n && nat_lt n (length (tasks_of image p)) then below_top (saved_words mode (get_or (tasks_of image p) n no_task)) o else 0

-- ---- the words of memory

-- whether an address is among so many bytes from a base on
abbrev pub within : ℕ → ℕ → ℕ → Bool
within base bytes a = nat_le base a && nat_lt a (base + bytes)

-- the word at a multiple of 8
unfoldable pub word_there : Placed → Mode → Image → ℕ → ℕ
word_there es mode image a =
    if nat_lt a (2 ^ 63) then words_at_start image.text a
    else (if nat_le fred_page a then code_word es a
    else (if within (stack_top 0 0 - 0x4000) (0x100000 * image.processors) a
    then stack_word mode image ((a - (stack_top 0 0 - 0x4000)) / 0x100000) ((a - (stack_top 0 0 - 0x4000)) % 0x100000 / 0x4000) (0x4000 - a % 0x4000)
    else (if within (pcpu 0) (0x10000 * image.processors) a then pcpu_word ((a - pcpu 0) / 0x10000) (a % 0x10000)
    else (if within (task_words 0 0) (0x100 * image.processors) a
    then (let i : ℕ = (a - task_words 0 0) / 0x40 in task_word (length (tasks_of image (i / 4))) (i / 4) (i % 4) (a % 0x40))
    else (if within user_table (8 * 257) a then table_word image User ((a - user_table) / 8)
    else (if within kernel_table (8 * 257) a then table_word image Kernel ((a - kernel_table) / 8)
    else (if within idt_base (16 * 256) a then idt_word ((a - idt_base) / 8)
    else (if within page_map (8 * 256) a then (if members image.pages ((a - page_map) / 8) then 1 else 0)
    else (if within cells_base (8 * 256) a then values image.cells ((a - cells_base) / 8) else 0)))))))))

-- a memory's words stand at multiples of 8
unfoldable pub opening_word : Placed → Mode → Image → ℕ → ℕ
opening_word es mode image a = if is_aligned a then word_there es mode image a else 0

-- ---- regions

-- bytes of a kind from a base on
abbrev pub region : ℕ → ℕ → RegionKind → Region
region base bytes kind = record { base = base; words = bytes / 8; kind = kind }

-- the stacks of p
abbrev pub stack_regions : ℕ → List Region
stack_regions p = map (λ n. region (stack_top p n - 0x2000) 0x2000 RegionKind.Kernel) (numbers_from 0 7)

-- all memory: what isn't listed is absent
abbrev pub regions : Image → List Region
regions image =
    flat_map stack_regions (numbers_from 0 image.processors)
    ++ map (λ p. region (pcpu p) 0x10000 RegionKind.Kernel) (numbers_from 0 image.processors)
    ++ region user_table (8 * 257) RegionKind.Kernel ∷ region kernel_table (8 * 257) RegionKind.Kernel ∷ region idt_base 0x1000 RegionKind.Kernel
    ∷ region page_map (8 * 257) RegionKind.Kernel ∷ region cells_base 0x800 RegionKind.Kernel ∷ region (task_words 0 0)
    (0x100 * image.processors) RegionKind.Kernel
    ∷ region fred_page (code_end - fred_page) RegionKind.Kernel ∷ region (body_code 0) (0x20000 * length image.bodies) RegionKind.Kernel
    ∷ region text_base 0x10000 RegionKind.Text
    ∷ map (λ i. region (page_base + 0x1000 * i) 0x1000 (RegionKind.Page i)) (numbers_from 0 256)

-- ---- processors

-- a GS descriptor for each task of p from number i on
abbrev pub descriptors_of : ℕ → ℕ → List TaskSpec → List (ℕ × ℕ)
descriptors_of p i [] = []
descriptors_of p i (t ∷ ts) = (task_selector p i, t.gs) ∷ descriptors_of p (suc i) ts

-- those of the processors from p on; every processor has them all
abbrev pub all_descriptors : ℕ → List (List TaskSpec) → List (ℕ × ℕ)
all_descriptors p [] = []
all_descriptors p (ts ∷ rest) = descriptors_of p 0 ts ++ all_descriptors (suc p) rest

-- CR4, whose bit 32 turns FRED on
abbrev pub control : Mode → ℕ
control Idt = 0
control Fred = 2 ^ 32

-- processor p, at CPL 3 in its task 0
abbrev pub opening_cpu : Mode → Image → ℕ → Processor
opening_cpu mode image p = let t : TaskSpec = get_or (tasks_of image p) 0 no_task in record {
  regs = t.regs;
  rip = t.start;
  flags = flags_word start_flags;
  cpl = 3;
  cs = 0x33;
  ss = 0x2b;
  gs = task_selector p 0;
  cr2 = 0;
  cr4 = control mode;
  level = 0;
  nmi_blocked = false;
  sti_blocked = false;
  idt = idt_base;
  tss = pcpu p + 0x404;
  msrs = record {
    star = 0x0023001000000000;
    lstar = sys_entry;
    fmask = 0x40200;
    gs_base = t.gs;
    kernel_gs_base = pcpu p;
    rsp = stack_top p 0 ∷ stack_top p 6 ∷ stack_top p 4 ∷ stack_top p 5 ∷ [];
    stklvls = 0x30020;
    config = 0xffffffff81000040;
  };
  gdt = all_descriptors 0 image.tasks;
}

-- a local APIC with nothing pending or in service
abbrev pub opening_apic : Apic
opening_apic = record { irr = 0 ∷ 0 ∷ 0 ∷ 0 ∷ []; isr = 0 ∷ 0 ∷ 0 ∷ 0 ∷ []; tpr = 0 }

-- memory with all regions and words
abbrev pub opening_memory : Mode → Image → Memory
opening_memory mode image = let es : Placed = code_of (listings mode image) in record { regions = regions image; words = opening_word es mode image }
