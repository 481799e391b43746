-- Classes of exceptions and double faults (SDM volume 3, tables 6-4 and 6-5).
use Rattle.std.specs.Prelude.{ℕ, ◌||◌, ◌==◌, if◌then◌else◌, [], ◌∷◌}
use Rattle.ev_isa.specs.Word.{members}
use Rattle.ev_event.specs.declared.event.EventType.{EventType}
use Rattle.ev_event.specs.declared.event.Event.{Event}
use Rattle.ev_event.specs.declared.event.EventType.TheVariants.{Hardware}
use Rattle.ev_event.specs.declared.double_fault.FaultClass.{FaultClass}
use Rattle.ev_event.specs.declared.double_fault.FaultClass.TheVariants.{Benign, Contributory, Page}
use Rattle.ev_event.specs.declared.double_fault.Combined.{Combined}
use Rattle.ev_event.specs.declared.double_fault.Combined.TheVariants.{Serial, Shutdown}

-- the class of a vector as a hardware exception
unfoldable pub fault_class : ℕ → FaultClass
fault_class v =
    if members (0 ∷ 10 ∷ 11 ∷ 12 ∷ 13 ∷ 21 ∷ []) v then Contributory
    else (if (v == 14) || (v == 20) then Page
    else (if v == 8 then FaultClass.Double else Benign))

-- only hardware exceptions have a class other than benign
abbrev pub class_by : EventType → ℕ → FaultClass
class_by Hardware v = fault_class v
class_by _ v = Benign

-- the second event meets the delivery of the first
abbrev pub combined : FaultClass → FaultClass → Combined
combined Contributory Contributory = Combined.Double
combined Page Contributory = Combined.Double
combined Page Page = Combined.Double
combined FaultClass.Double Contributory = Shutdown
combined FaultClass.Double Page = Shutdown
combined _ _ = Serial

unfoldable pub combine : Event → Event → Combined
combine first second = combined (class_by first.kind first.vector) (class_by second.kind second.vector)
