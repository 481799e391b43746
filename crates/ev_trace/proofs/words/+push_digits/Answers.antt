use Rattle.std.proofs.Common.{ap, append_assoc, length-append, arith, length}
use Rattle.ev_trace.proofs.Hex.{hex_step, length-hex-step}
use Rattle.ev_trace.proofs.words.+push_digits.Goals as goal

pub push_digits-requires : goal.push_digits-requires
push_digits-requires t c = (omega arith, omega (arith, length-hex-step c.args.n (omega arith) (omega arith)))

pub push_digit-requires-2-clause-room : goal.push_digit-requires-2-clause-room
push_digit-requires-2-clause-room t c =
    omega (arith, length-hex-step c.args.n (omega arith) (omega arith), simp length-append at (ap length c.push_digits.ensures))

pub returns : goal.returns
returns t c = let step = hex_step c.args.n (omega arith) (omega arith) in rw step (rw (← append_assoc) cc)
