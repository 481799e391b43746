-- What the relation says to those who make the steps.
use Rattle.std.specs.Prelude.{◌≡◌, ◌≢◌, ℕ, suc, ◌-◌, ◌%◌, ◌<◌, ◌≤◌, [], length, map}
use Rattle.ev_isa.specs.Word.{NatMap, numbers_from}
use Rattle.ev_isa.specs.Flags.{flags_word}
use Rattle.ev_isa.specs.declared.mode.Mode.{Mode}
use Rattle.ev_body.specs.declared.image.Image.{Image}
use Rattle.ev_body.specs.WellFormed.{IsImage}
use Rattle.ev_abstract.specs.Machine.{Machine, processor, task}
use Rattle.ev_concrete.specs.ConcreteRun.{System}
use Rattle.ev_concrete.specs.Depth.{bodies_on}
use Rattle.ev_proc.specs.Conditions.{HasEntries, IsInCode}
use Rattle.ev_built.specs.Built.{IsBuilt}
use Rattle.ev_concrete.specs.Opening.{tasks_of, control, all_descriptors}
use Rattle.ev_law.specs.Bases.{HasBases}
use Rattle.ev_relation.specs.Tasks.{IsSaved, CurrentIs}
use Rattle.ev_relation.specs.Relation.{Stands}

-- The conditions of a processor step; how many bodies stand; what holds of every task; and, where no body stands, the tasks: the processor's registers are
-- those of the running one, which a word of its area names, the others stand in their saved areas, and descriptors have their GS bases.
pub record Tells (mode : Mode) (image : Image) (s : System) (m : Machine) (p : ℕ) : Type 0 where
  pub entries : HasEntries (s.cpus p) s.memory
  pub in_code : IsInCode (s.cpus p) s.memory
  pub depth : bodies_on s p ≡ length (processor m p).bodies
  pub few : length (processor m p).bodies ≤ 32
  pub running : (processor m p).running < length (tasks_of image p)
  pub waiting : (processor m p).waiting ≡ map (λ n. n % length (tasks_of image p))
      (numbers_from (suc (processor m p).running) (length (tasks_of image p) - 1))
  pub long : (i : ℕ) → i < length (tasks_of image p) → length ((processor m p).tasks i).regs ≡ 16
  pub bases : HasBases image m
  pub control : (processor m p).bodies ≡ [] → (s.cpus p).cr4 ≡ control mode
  pub descriptors : (processor m p).bodies ≡ [] → (s.cpus p).gdt ≡ all_descriptors 0 image.tasks
  pub regs : (processor m p).bodies ≡ [] → (s.cpus p).regs ≡ (task (processor m p)).regs
  pub rip : (processor m p).bodies ≡ [] → (s.cpus p).rip ≡ (task (processor m p)).rip
  pub flags : (processor m p).bodies ≡ [] → (s.cpus p).flags ≡ flags_word (task (processor m p)).flags
  pub current : (processor m p).bodies ≡ [] → CurrentIs mode p (processor m p).running s.memory.words
  pub saved : (processor m p).bodies ≡ [] → (i : ℕ) → i < length (tasks_of image p) → i ≢ (processor m p).running
      → IsSaved mode p i ((processor m p).tasks i) s.memory.words

-- the relation says this of each processor
abbrev pub StandsTells : Type 0
StandsTells = (mode : Mode) (image : Image) → IsBuilt image → IsImage image → (left : NatMap ℕ) (s : System) (m : Machine)
    → Stands mode image left s m
    → (p : ℕ) → p < image.processors → Tells mode image s m p
