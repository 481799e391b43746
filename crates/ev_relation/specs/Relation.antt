-- When a state of the concrete machine stands for one of the abstract machine. Own.
-- The abstract machine's contexts are matched from the last down: an activation stands over the processor that its return restores. What several activations
-- or
-- processors read or write stands beside, word by word.
use Rattle.std.specs.Prelude.{◌≡◌, ◌≢◌, ◌⊎◌, ℕ, suc, ◌+◌, ◌*◌, ◌-◌, ◌/◌, ◌%◌, ◌^◌, ◌<◌, ◌≤◌, Bool, true, false, ◌&&◌, ◌==◌, if◌then◌else◌, List, [], ◌∷◌, length, map, get_or, slice_get, Option, Some, None}
use Rattle.std.specs.List.{list_any}
use Rattle.ev_isa.specs.Word.{NatMap, NatSet, numbers_from}
use Rattle.ev_isa.specs.Pages.{text_base}
use Rattle.ev_isa.specs.declared.mode.Mode.{Mode}
use Rattle.ev_isa.specs.declared.mode.Mode.TheVariants.{Idt, Fred}
use Rattle.ev_body.specs.declared.item.Item.{Item}
use Rattle.ev_body.specs.declared.image.Image.{Image}
use Rattle.ev_effect.specs.Task.{Task}
use Rattle.ev_state.specs.Processor.{Processor, rsp}
use Rattle.ev_mem.specs.Memory.{Memory, page_map}
use Rattle.ev_apic.specs.declared.apic.Apic.{Apic}
use Rattle.ev_apic.specs.declared.inbox.Inbox.{Inbox}
use Rattle.ev_apic.specs.Vectors.{vectors_of}
use Rattle.ev_symbolic.specs.Value.{M}
use Rattle.ev_listing.specs.Expansion.{function_address}
use Rattle.ev_listing.specs.AddressMap.{pcpu, slot_offset, record_address, user_table, idt_base, cells_base, task_words, fred_page, code_end}
use Rattle.ev_abstract.specs.Boundary.{is_nmi_body}
use Rattle.ev_abstract.specs.Context.{BodyContext}
use Rattle.ev_abstract.specs.Machine.{Machine, processor}
use Rattle.ev_abstract.specs.Machine as abstract
use Rattle.ev_abstract.specs.Run.{item_at}
use Rattle.ev_abstract.specs.declared.entry.Entry.{Entry}
use Rattle.ev_abstract.specs.Machine.{CallState, Free, CallRecord}
use Rattle.ev_calls.specs.Lists.{QueueIs}
use Rattle.ev_call_law.specs.Calls.{KeepsCallRecords}
use Rattle.ev_law.specs.Bases.{HasBases}
use Rattle.ev_law.specs.Legal.{Legal}
use Rattle.ev_concrete.specs.Opening.{listings, code_of, opening_word, tasks_of, regions}
use Rattle.ev_concrete.specs.ConcreteRun.{System, Activation}
use Rattle.ev_concrete.specs.Depth.{is_in_repeat}
use Rattle.ev_activation.specs.Seat.{Kind, NmiFromTask, NmiFromBody, kind_of, seat_of}
use Rattle.ev_user.specs.Tasks.{IsTask, RunsTask}
use Rattle.ev_relation.specs.Tasks.{IsSaved, CurrentIs}
use Rattle.ev_relation.specs.Nmi.{Frame, Leads, Layer, Plain, LatchIs, inner_edges}
use Rattle.ev_user.specs.Sees.{IsUserWord}
use Rattle.ev_user.specs.Words.{HoldsWords}
use Rattle.ev_user.specs.Numbers.{HoldsNumbers}
use Rattle.ev_relation.specs.Filling.{Filling, first_fill, rest_fills, is_filled, AreFree}
use Rattle.ev_relation.specs.Active.{Active}
use Rattle.ev_relation.specs.Domain.{IsInDomain}

-- the word that stands at an address at the opening
abbrev pub first_word : Mode → Image → NatMap ℕ
first_word mode image a = opening_word (code_of (listings mode image)) mode image a

-- offsets of words of a processor's area that nothing writes: the processor's number, and the address of its first call record
abbrev pub IsUnwritten : ℕ → Type 0
IsUnwritten o = (o ≡ 0) ⊎ (o ≡ 0x38)

-- words that nothing writes: user code, the tables, the tasks' words, the kernel's code, and some of each area
pub data IsFixed (a : ℕ) : Type 0 where
  InText : text_base ≤ a → a < text_base + 0x10000 → IsFixed a
  InTables : user_table ≤ a → a < idt_base + 0x1000 → IsFixed a
  InTasks : task_words 0 0 ≤ a → a < task_words 0 0 + 0x100 * 32 → IsFixed a
  InCode : fred_page ≤ a → IsFixed a
  InArea : (p o : ℕ) → p < 32 → IsUnwritten o → a ≡ pcpu p + o → IsFixed a

module _ (mode : Mode) (image : Image) where
  -- ---- a processor's contexts

  -- a context is at an item
  pub record IsContext (b : BodyContext) : Type 0 where
    pub item : Item
    pub is : item_at (slice_get image.bodies b.body) b.place ≡ Some item

  -- so many edges come at most before a visible step
  abbrev pub most_edges : ℕ
  most_edges = 660

  -- So many before one of an activation on which others stand, of which 503 are those of a list of 64 calls that is turned round: the edges of an inner NMI may
  -- come on top.
  abbrev pub body_edges : ℕ
  body_edges = 560

  -- A return restores w, CR2 aside: under IDT the NMI code alone keeps CR2. What stands beneath an activation that doesn't stands with any.
  abbrev pub is_idt : Mode → Bool
  is_idt Idt = true
  is_idt Fred = false

  -- so does the return of this kind
  abbrev pub keeps_cr2 : Kind → Bool
  keeps_cr2 NmiFromTask = is_idt mode
  keeps_cr2 NmiFromBody = is_idt mode
  keeps_cr2 κ = false

  -- what stands beneath it
  abbrev pub Beneath : Bool → (Processor → Type 0) → Processor → Type 0
  Beneath true C w = C w
  Beneath false C w = (a : ℕ) → C (record w { cr2 = a })

  -- only the first body's exit switches to another task, and nothing does over the task itself
  abbrev pub switches_at : Bool → List BodyContext → Bool
  switches_at switching [] = switching
  switches_at switching (b ∷ below) = false

  -- and none of those over another one
  abbrev pub chained : Bool → List BodyContext → Bool
  chained switching [] = false
  chained switching (b ∷ below) = switching

  -- An activation under another one was interrupted with the stack to which that one returns, in the bodies' code; behind INT 3 at the next instruction, so of
  -- what was interrupted only whether that is in REPEAT is told of RIP.
  abbrev pub Interrupted : List BodyContext → Processor → List Activation → Type 0
  Interrupted [] w as' = Unit {0}
  Interrupted (b ∷ below) w [] = ⊥
  Interrupted (b ∷ below) w (a ∷ as') = (a.rsp ≡ rsp w) × (is_in_repeat a.rip ≡ is_in_repeat w.rip) × (code_end ≤ w.rip)

  -- Each context stands on the one before it, and the first on a task: all on the stack of task r, which runs, and the first returns to task `to`, which is t:
  -- to the same, or where its exit switches, to the next one. Each has an activation of its own, which isn't an inner NMI's, and may fill a call record.
  abbrev pub Chain : (p left r to : ℕ) → Task → Frame → (switching : Bool) → (fills : List (Option Filling)) → List BodyContext → List Activation → Processor
      → Memory → Type 0
  Chain p left r to t f sw fs [] as' c m = RunsTask mode image p to t c × (sw ≡ false) × (as' ≡ []) × (fs ≡ [])
  Chain p left r to t f sw fs (b ∷ below) [] c m = ⊥
  Chain p left r to t f sw fs (b ∷ below) (a ∷ as') c m =
      (w : Processor) × IsContext b × (a.inner ≡ false) × Interrupted below w as'
      × Beneath (keeps_cr2 (kind_of image b below)) (λ v. Chain p body_edges r to t f (chained sw below) (rest_fills fs) below as' v m) w
      × Leads mode p (kind_of image b below) f w m.words
      × Active mode image p left (kind_of image b below) (seat_of mode image r (b ∷ below)) f (switches_at sw below) (first_fill fs) w b c m

  -- and what stands on them; `more` edges come behind its own
  abbrev pub Runs : (p left more r to : ℕ) → Task → Layer → Frame → Bool → List (Option Filling) → List BodyContext → List Activation → Processor → Memory
      → Type 0
  Runs p left more r to t Plain f sw fs bs as' c m = Chain p left r to t f sw fs bs as' c m

  -- ---- what belongs to one processor

  -- whether a context has an interrupt of this class in service
  abbrev pub serves : ℕ → Option ℕ → Bool
  serves class None = false
  serves class (Some k) = k == class

  -- the words of a set of vectors
  pub record AreVectorWords (ws : List ℕ) : Type 0 where
    pub four : length ws ≡ 4
    pub small : (i : ℕ) → get_or ws i 0 < 2 ^ 64

  -- The local APIC by the abstract machine: the pending vectors are requested, the classes in service are those that contexts have, and TPR holds none back.
  pub record ApicIs (a : Apic) (set : NatSet) (bs : List BodyContext) : Type 0 where
    pub tpr : a.tpr ≡ 0
    pub irr : AreVectorWords a.irr
    pub isr : AreVectorWords a.isr
    pub pending : (v : ℕ) → v < 256 → vectors_of a.irr v ≡ set v
    pub service : (class : ℕ) → list_any (λ v. vectors_of a.isr v && (v / 16 == class)) (numbers_from 0 256)
        ≡ list_any (λ (b : BodyContext). serves class b.service) bs
    -- one vector of a class, so that the end of an interrupt ends its class
    pub single : (u v : ℕ) → u < 256 → v < 256 → vectors_of a.isr u ≡ true → vectors_of a.isr v ≡ true → u / 16 ≡ v / 16 → u ≡ v

  -- A call record that nobody fills: by how many calls the site has queued, modulo 2^64, and the last one, if that is under way, with its function's address.
  abbrev pub CallIs : NatMap ℕ → ℕ → CallRecord → CallState → Type 0
  CallIs words a r Free = words a ≡ 0
  CallIs words a r st = (words a ≡ 1) × (words (a + 8) ≡ function_address mode image r.func) × (words (a + 0x10) ≡ r.arg) × (words (a + 0x38) ≡ r.func)

  -- with whose it is
  pub record HoldsCall (words : NatMap ℕ) (p k : ℕ) (r : CallRecord) : Type 0 where
    pub from : words (record_address p k + 0x20) ≡ p
    pub site : words (record_address p k + 0x30) ≡ k
    pub number : words (record_address p k + 0x28) ≡ r.number % M
    pub call : CallIs words (record_address p k) r r.state

  -- Processor p of the one stands for processor p of the other; at most `left` edges come before a visible step.
  pub record StandsOn (p left : ℕ) (s : System) (x : abstract.Processor) : Type 0 where
    pub few : left ≤ most_edges
    pub own : ℕ
    pub short : own ≤ body_edges
    pub more : ℕ
    pub enough : own + more + inner_edges (s.latches p) ≤ left
    pub running : x.running < length (tasks_of image p)
    pub waiting : x.waiting ≡ map (λ n. n % length (tasks_of image p)) (numbers_from (suc x.running) (length (tasks_of image p) - 1))
    pub layer : Layer
    pub frame : Frame
    pub switching : Bool  -- the exit switches to another task: its block knows the mark and the words of the running one
    pub marked : switching ≡ true → x.resched ≡ true
    pub returning : ℕ  -- the task to which the bodies return
    pub is_returning : returning ≡ (if switching then get_or x.waiting 0 x.running else x.running)
    pub current : switching ≡ false → CurrentIs mode p x.running s.memory.words
    pub mark : switching ≡ false → s.memory.words (pcpu p + 0x20) ≡ (if x.resched then 1 else 0)
    pub saved : (i : ℕ) → i < length (tasks_of image p) → i ≢ returning → IsSaved mode p i (x.tasks i) s.memory.words
    pub tasks : (i : ℕ) → i < length (tasks_of image p) → IsTask (x.tasks i)
    pub latch : LatchIs layer frame (list_any (is_nmi_body image) x.bodies) (s.latches p) (s.cpus p).nmi_blocked x.nmi
    pub apic : ApicIs (s.apics p) x.pending x.bodies
    pub slots : (k : ℕ) → k < 64 → s.memory.words (pcpu p + slot_offset k) ≡ x.slots k
    pub fills : List (Option Filling)
    pub free : AreFree x.records fills
    pub records : (k : ℕ) → k < 8 → is_filled k fills ≡ false → HoldsCall s.memory.words p k (x.records k)
    pub runs : Runs p own more x.running returning (x.tasks returning) layer frame switching fills x.bodies (s.activations p) (s.cpus p) s.memory

  -- ---- what all processors share

  -- A processor's mail by the abstract machine's: the vectors that were sent to it, and whether an NMI was.
  pub record InboxIs (i : Inbox) (mail : NatSet) (nmi : Bool) : Type 0 where
    pub words : AreVectorWords i.vectors
    pub vectors : (v : ℕ) → v < 256 → vectors_of i.vectors v ≡ mail v
    pub nmi_is : i.nmi ≡ nmi

  -- each word by itself; what user code sees are words, below 2^64
  pub record Shares (s : System) (m : Machine) : Type 0 where
    pub user : (a : ℕ) → IsUserWord a → s.memory.words a ≡ m.words a
    pub held : HoldsWords m.words
    pub pages : (i : ℕ) → i < 256 → s.memory.words (page_map + 8 * i) ≡ (if m.present i then 1 else 0)
    pub cells : (k : ℕ) → k < 256 → s.memory.words (cells_base + 8 * k) ≡ m.cells k
    pub mail : (p : ℕ) → p < image.processors → InboxIs (s.inboxes p) (processor m p).mail (processor m p).mail_nmi
    pub queues : (p : ℕ) → p < image.processors → QueueIs s.memory.words p (processor m p).queue

  -- ---- the machines

  -- The state s of the concrete machine stands for m; of each processor, at most `left` edges come before a visible step.
  pub record Stands (left : NatMap ℕ) (s : System) (m : Machine) : Type 0 where
    pub regions_are : s.memory.regions ≡ regions image
    pub fixed : (a : ℕ) → IsFixed a → s.memory.words a ≡ first_word mode image a
    pub shares : Shares s m
    pub legal : Legal image m
    pub bases : HasBases image m  -- which a switch loads from the descriptors
    pub numbers : HoldsNumbers m
    pub told : List Entry  -- which the abstract machine has made so far
    pub few : length told ≤ s.totals.steps  -- by each step one at most
    pub calls : KeepsCallRecords image m told
    pub domain : (p : ℕ) → p < image.processors → IsInDomain (processor m p)
    pub each : (p : ℕ) → p < image.processors → StandsOn p (left p) s (processor m p)
