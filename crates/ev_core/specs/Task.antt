-- The state of a task as user code sees it, and where it stands while the task waits. Own.
use Rattle.std.specs.Prelude.{◌≡◌, ℕ, ◌+◌, ◌-◌, if◌then◌else◌, [], ◌∷◌}
use Rattle.ev_isa.specs.Word.{NatMap}
use Rattle.ev_isa.specs.Flags.{flags_word}
use Rattle.ev_effect.specs.Task.{Task}
use Rattle.ev_state.specs.Processor.{Processor}
use Rattle.ev_proc.specs.ProcessorStep.{has_fred}
use Rattle.ev_listing.specs.AddressMap.{stack_top}
use Rattle.ev_core.specs.declared.task_view.TaskView.{TaskView}

-- registers, RIP, RFLAGS and GS base are those of the task
pub record IsTaskView (v : TaskView) (t : Task) : Type 0 where
  pub regs : v.regs ≡ t.regs
  pub rip : v.rip ≡ t.rip
  pub flags : v.flags ≡ flags_word t.flags
  pub gs : v.gs ≡ t.gs

-- the saved area of task i of processor p
abbrev pub area_at : Processor → ℕ → ℕ → ℕ
area_at c p i = if has_fred c then stack_top p i - 0xc0 else stack_top p i - 0xb0

-- what a saved area says of its task
abbrev pub saved_view : NatMap ℕ → ℕ → ℕ → TaskView
saved_view words a gs = record {
  regs = words (a + 0x70) ∷ words (a + 0x68) ∷ words (a + 0x60) ∷ words (a + 0x58) ∷ words (a + 0xa0) ∷ words (a + 0x50) ∷ words (a + 0x48)
      ∷ words (a + 0x40) ∷ words (a + 0x38) ∷ words (a + 0x30) ∷ words (a + 0x28) ∷ words (a + 0x20) ∷ words (a + 0x18) ∷ words (a + 0x10) ∷ words (a + 8)
      ∷ words a ∷ [];
  rip = words (a + 0x88);
  flags = words (a + 0x98);
  gs = gs;
}
