-- The text of trace entries and of the tasks at the end. Own.
-- Processors, types, depths, sites, numbers, functions, tasks and counts are decimal, all else is lower hexadecimal.
use Rattle.std.specs.Prelude.{ℕ, zero, suc, false, List, [], ◌∷◌, ◌++◌, length, Option, Some, None, decimal, codes, if◌then◌else◌, ◌==◌, flat_map}
use Rattle.std.specs.Fmt.{digits}
use Rattle.ev_isa.specs.Flags.{flags_word}
use Rattle.ev_event.specs.Event.{type_number}
use Rattle.ev_body.specs.declared.key.Key.{Key}
use Rattle.ev_body.specs.declared.key.Side.{Side}
use Rattle.ev_body.specs.declared.key.Side.TheVariants.{User, Kernel, Both}
use Rattle.ev_body.specs.declared.key.Key.TheVariants.{Sys, Db, Nmi, Bp, Ud, Ss, Gp, Pf, Ac, Irq}
use Rattle.ev_effect.specs.Task.{Task}
use Rattle.ev_abstract.specs.declared.entry.Entry.{Entry}
use Rattle.ev_abstract.specs.declared.entry.Entry.TheVariants.{Enter, Log, Call, Busy, Ran, Done}
use Rattle.ev_abstract.specs.Machine.{Processor, Machine, processor}

-- bytes of a line
abbrev pub Text : Type 0
Text = List ℕ

-- a number in hexadecimal, without leading zeros
abbrev pub hex : ℕ → Text
hex n = digits 16 false n

-- words with one space between them
abbrev pub words : List Text → Text
words [] = []
words (w ∷ []) = w
words (w ∷ v ∷ ws) = w ++ 32 ∷ words (v ∷ ws)

-- the name of a key
unfoldable pub key_text : Key → Text
key_text Sys = codes "sys"
key_text Db = codes "db"
key_text Nmi = codes "nmi"
key_text Bp = codes "bp"
key_text Ud = codes "ud"
key_text Ss = codes "ss"
key_text Gp = codes "gp"
key_text Pf = codes "pf"
key_text Ac = codes "ac"
key_text (Irq v) = codes "irq" ++ hex v

-- the name of a side
unfoldable pub side_text : Side → Text
side_text User = codes "user"
side_text Kernel = codes "kernel"
side_text Both = codes "both"

-- the RIP of user code, or a dash
abbrev pub rip_text : Option ℕ → Text
rip_text None = codes "-"
rip_text (Some rip) = hex rip

-- without the mode and the space behind it
unfoldable pub entry_words : Entry → List Text
entry_words (Enter p key kind side depth error info rip) =
    decimal p ∷ codes "enter" ∷ key_text key ∷ codes "type" ∷ decimal (type_number kind) ∷ side_text side ∷ codes "depth" ∷ decimal depth
    ∷ codes "error" ∷ hex error ∷ codes "data" ∷ hex info ∷ codes "rip" ∷ rip_text rip ∷ []
entry_words (Log p value) = decimal p ∷ codes "log" ∷ hex value ∷ []
entry_words (Call p site number to func arg) =
    decimal p ∷ codes "call" ∷ decimal site ∷ decimal number ∷ codes "to" ∷ decimal to ∷ codes "func" ∷ decimal func ∷ codes "arg" ∷ hex arg ∷ []
entry_words (Busy p site) = decimal p ∷ codes "busy" ∷ decimal site ∷ []
entry_words (Ran p from site number) = decimal p ∷ codes "ran" ∷ decimal from ∷ decimal site ∷ decimal number ∷ []
entry_words (Done p site number) = decimal p ∷ codes "done" ∷ decimal site ∷ decimal number ∷ []

-- a line of the output: the mode's word before, LF behind
abbrev pub line_text : Text → List Text → Text
line_text mode ws = words (mode ∷ ws) ++ 10 ∷ []

-- the line of an entry
abbrev pub entry_text : Text → Entry → Text
entry_text mode e = line_text mode (entry_words e)

-- the lines of these entries
abbrev pub trace_text : Text → List Entry → Text
trace_text mode es = flat_map (entry_text mode) es

-- ---- the tasks at the end

-- the names of registers by their numbers
abbrev pub register_names : List Text
register_names = codes "rax" ∷ codes "rcx" ∷ codes "rdx" ∷ codes "rbx" ∷ codes "rsp" ∷ codes "rbp" ∷ codes "rsi" ∷ codes "rdi"
    ∷ codes "r8" ∷ codes "r9" ∷ codes "r10" ∷ codes "r11" ∷ codes "r12" ∷ codes "r13" ∷ codes "r14" ∷ codes "r15" ∷ []

-- each register that isn't 0: its name and its value
abbrev pub register_words : List Text → List ℕ → List Text
register_words [] vs = []
register_words (n ∷ ns) [] = []
register_words (n ∷ ns) (v ∷ vs) = (if v == 0 then [] else n ∷ hex v ∷ []) ++ register_words ns vs

-- task i of processor p with these registers, RIP, RFLAGS and GS base
unfoldable pub state_words : ℕ → ℕ → List ℕ → ℕ → ℕ → ℕ → List Text
state_words p i regs rip flags gs = codes "task" ∷ decimal p ∷ decimal i ∷ codes "rip" ∷ hex rip ∷ codes "flags" ∷ hex flags ∷ codes "gs" ∷ hex gs
    ∷ register_words register_names regs

-- the words of the line of task i of processor p
abbrev pub task_words : ℕ → ℕ → Task → List Text
task_words p i t = state_words p i t.regs t.rip (flags_word t.flags) t.gs

-- a processor on which so many bodies stand
abbrev pub busy_words : ℕ → ℕ → List Text
busy_words p depth = codes "busy" ∷ decimal p ∷ codes "depth" ∷ decimal depth ∷ []

-- the lines of the tasks from number i on, so many
abbrev pub task_lines : Text → ℕ → Processor → ℕ → ℕ → Text
task_lines mode p x i zero = []
task_lines mode p x i (suc n) = line_text mode (task_words p i (x.tasks i)) ++ task_lines mode p x (suc i) n

-- the end lines of processor p: its tasks in the order of their numbers, or that it is busy
abbrev pub end_lines : Text → ℕ → Processor → ℕ → Text
end_lines mode p x zero = task_lines mode p x 0 (suc (length x.waiting))
end_lines mode p x (suc depth) = line_text mode (busy_words p (suc depth))

-- those of the processors from p on
abbrev pub all_end_lines : Text → Machine → ℕ → ℕ → Text
all_end_lines mode m p zero = []
all_end_lines mode m p (suc n) = end_lines mode p (processor m p) (length (processor m p).bodies) ++ all_end_lines mode m (suc p) n
