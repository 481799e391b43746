-- The count of leading zeros names the highest set bit.
use Rattle.ev_apic.proofs.Highest.{highest_is}
use Rattle.ev_apic.proofs.vectors.highest_bit.Goals as goal

pub returns : goal.returns
returns c = highest_is c.args.word c.ranges.word.fits c.checked_sub.result c.checked_sub.ensures
