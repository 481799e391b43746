-- What a step of one processor leaves. Own.
use Rattle.std.specs.Prelude.{◌≡◌, ℕ}
use Rattle.ev_state.specs.Processor.{Processor, is_user}
use Rattle.ev_mem.specs.Memory.{Memory}
use Rattle.ev_listing.specs.Marks.{Mark}
use Rattle.ev_proc.specs.ProcessorStep.{After, has_fred, next_of, step, instruction_at}
use Rattle.ev_concrete.specs.ConcreteRun.{starts_inner}
use Rattle.ev_concrete.specs.Depth.{ends_body, begins_body, bodies_after}
use Rattle.ev_concrete.specs.Shown.{shown_by, shown_instruction}
use Rattle.ev_core.specs.Local.{optional, still}
use Rattle.ev_core.specs.declared.local.Local.{Local}
use Rattle.ev_core.specs.declared.local.Made.{Made}

-- what belongs to a processor after a step of it
abbrev pub local_after : ℕ → Processor → Local → Memory → After → Local
local_after p c l m r = record l {
  apic = r.apic;
  latch = r.nmi;
  depth = bodies_after l.depth (starts_inner (still c l m) p (next_of c l.apic l.latch)) (ends_body c (instruction_at m.words c.rip))
      (begins_body c (instruction_at m.words c.rip)) r.step;
}

-- the step of p at an instruction with this mark; p's parts were c, l and m and are c', l' and m'
pub record IsStep (mark : Mark) (p : ℕ) (c : Processor) (l : Local) (m : Memory) (r : After) (c' : Processor) (l' : Local) (m' : Memory) (made : Made)
    : Type 0 where
  pub cpu : c' ≡ r.cpu
  pub own : l' ≡ local_after p c l m r
  pub memory : m' ≡ record m { words = r.words }
  pub step : made.stepped ≡ r.step
  pub entry : optional made.entry
      ≡ shown_by p l.depth (is_user c) (has_fred c) (shown_instruction p l.depth c m.words mark (instruction_at m.words c.rip)) r.cpu r.words r.step

abbrev pub LocalStep : Mark → ℕ → Processor → Local → Memory → Processor → Local → Memory → Made → Type 0
LocalStep mark p c l m c' l' m' made = IsStep mark p c l m (step c l.apic m l.latch) c' l' m' made
