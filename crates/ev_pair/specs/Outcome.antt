-- What a run's answer says of the sink. Own.
use Rattle.std.specs.Prelude.{Result, Err}
use Rattle.ev_pair.specs.declared.fault.RunFault.{RunFault}
use Rattle.ev_pair.specs.declared.fault.RunFault.TheVariants.{WriteFault}

-- a fault of writing has its cause
abbrev pub OnWriteFault : {T : Type 0} → Result T RunFault → Type 0 → Type 0
OnWriteFault (Err WriteFault) P = P
OnWriteFault _ P = Unit {0}
