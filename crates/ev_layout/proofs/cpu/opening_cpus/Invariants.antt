use Rattle.std.proofs.Common.{◌≡◌, map}
use Rattle.ev_isa.specs.Word.{numbers_from}
use Rattle.ev_concrete.specs.Opening.{opening_cpu}
use Rattle.ev_layout.proofs.cpu.opening_cpus.Given as goal

abbrev pub invariant-loop-p : goal.invariant-loop-p
invariant-loop-p l = l.cpus ≡ map (opening_cpu l.mode l.image) (numbers_from 0 l.p)
