-- The abstract machine. Own: it has no RSP, stack level, IST, GS exchange, CR2 and NMI blocking.
use Rattle.std.specs.Prelude.{ℕ, Bool, false, List, [], replicate, get_or, length, ◌-◌}
use Rattle.ev_isa.specs.Word.{numbers_from, NatMap, NatSet, put_at, no_numbers, members, values}
use Rattle.ev_isa.specs.Flags.{start_flags}
use Rattle.ev_body.specs.declared.image.TaskSpec.{TaskSpec}
use Rattle.ev_body.specs.declared.image.Image.{Image}
use Rattle.ev_effect.specs.Task.{Task}
use Rattle.ev_abstract.specs.Context.{CallId, BodyContext}
use Rattle.ev_isa.specs.Pages.{UserMemory, words_at_start}

-- Whether a call's record can be used, stands in the queue of its target, or is being run by a body there.
pub data CallState : Type 0 where
  Free Queued Taken : CallState

-- the call of a call site, with the number of calls that the site has queued
pub record CallRecord : Type 0 where
  pub number : ℕ
  pub to : ℕ
  pub func : ℕ
  pub arg : ℕ
  pub state : CallState

-- A processor's contexts are the running task and the bodies that stand on it, the last one first. The last one runs.
pub record Processor : Type 0 where
  pub tasks : NatMap Task  -- by their numbers
  pub running : ℕ  -- the number of the task that is the first context
  pub waiting : List ℕ  -- the numbers of the others, in the order in which they run
  pub bodies : List BodyContext
  pub pending : NatSet  -- vectors
  pub nmi : Bool  -- the NMI latch
  pub mail : NatSet
  pub mail_nmi : Bool
  pub slots : NatMap ℕ
  pub resched : Bool
  pub queue : List CallId
  pub records : NatMap CallRecord  -- by call site

-- All processors, and what they share: cells, words of user code, and which data pages are present.
pub record Machine : Type 0 where
  pub processors : NatMap Processor
  pub cells : NatMap ℕ
  pub words : NatMap ℕ  -- the words of the text and the data pages, by address; a page's words stay while it is absent
  pub present : NatSet  -- the data pages that are present

-- processor p
abbrev pub processor : Machine → ℕ → Processor
processor m p = m.processors p

-- the machine with another processor p
abbrev pub with_processor : Machine → ℕ → Processor → Machine
with_processor m p x = record m { processors = put_at m.processors p x }

-- the running task
abbrev pub task : Processor → Task
task x = x.tasks x.running

-- the processor whose running task is t
abbrev pub with_task : Processor → Task → Processor
with_task x t = record x { tasks = put_at x.tasks x.running t }

-- what user code of the image sees
abbrev pub user_memory : Image → Machine → UserMemory
user_memory image m = record { text = image.text; present = m.present; words = m.words }

-- ---- the opening

-- the tasks beyond those of the image, which nothing reads
abbrev pub no_task : TaskSpec
no_task = record { start = 0; gs = 0; regs = replicate 16 0 }

-- a task of the image as it begins
abbrev pub task_at_start : TaskSpec → Task
task_at_start spec = record { regs = spec.regs; rip = spec.start; flags = start_flags; gs = spec.gs }

-- the record of a site that has made no call
abbrev pub no_call : CallRecord
no_call = record { number = 0; to = 0; func = 0; arg = 0; state = Free }

-- task 0 runs and the others wait in order
abbrev pub processor_at_start : List TaskSpec → Processor
processor_at_start specs = record {
  tasks = λ i. task_at_start (get_or specs i no_task);
  running = 0;
  waiting = numbers_from 1 (length specs - 1);
  bodies = [];
  pending = no_numbers;
  nmi = false;
  mail = no_numbers;
  mail_nmi = false;
  slots = λ k. 0;
  resched = false;
  queue = [];
  records = λ k. no_call;
}

-- The machine of an image before the first line of a script.
unfoldable pub opening : Image → Machine
opening image = record {
  processors = λ p. processor_at_start (get_or image.tasks p []);
  cells = values image.cells;
  words = words_at_start image.text;
  present = members image.pages;
}
