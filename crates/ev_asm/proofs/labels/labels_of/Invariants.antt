use Rattle.std.proofs.Common.{◌≡◌, drop, take, []}
use Rattle.ev_asm.specs.Assembled.{first_at, is_second_label}
use Rattle.ev_asm.proofs.LabelLaws.{InStep}
use Rattle.ev_asm.proofs.labels.labels_of.Given as goal

abbrev pub invariant-loop-n : goal.invariant-loop-n
invariant-loop-n l = record {
  stands : InStep l.base (take l.n l.stmts) l.labels l.at;
  second : first_at is_second_label l.n (take l.n l.stmts) (drop l.n l.stmts) ≡ first_at is_second_label 0 [] l.stmts;
}
