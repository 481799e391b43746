-- Lines of scripts that name a processor which is there. Own.
use Rattle.std.specs.Prelude.{ℕ, Bool, nat_lt}
use Rattle.ev_abstract.specs.declared.script_line.Line.{Line}
use Rattle.ev_concrete.specs.ConcreteRun.{processor_of}

-- whether the processor that a line names is among so many
abbrev pub is_within : ℕ → Line → Bool
is_within n line = nat_lt (processor_of line) n
