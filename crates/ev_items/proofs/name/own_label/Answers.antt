use Rattle.std.proofs.Common.{arith, length-append}
use Rattle.std.proofs.lemmas.Fmt.{length-decimal-le}
use Rattle.ev_items.proofs.name.own_label.Goals as goal

pub new-requires : goal.new-requires
new-requires c =
    rw (c.as_str.ensures.value, c.in_ok-text.ensures.ok)
    (simp length-append (omega (
      arith,
      c.own_text-own.ensures.fits,
      length-decimal-le 3 c.args.b (omega arith) (omega arith) (omega arith),
      length-decimal-le 5 c.args.n (omega arith) (omega arith) (omega arith),
    )))
