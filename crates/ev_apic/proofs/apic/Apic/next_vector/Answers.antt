-- The greatest requested vector is the one, if its class is high enough.
use Rattle.std.proofs.Common.{◌∙◌, sym}
use Rattle.ev_apic.proofs.Greatest.{next_some, next_low, next_none}
use Rattle.ev_apic.proofs.apic.Apic.next_vector.Goals as goal

pub returns-in_err-v : goal.returns-in_err-v
returns-in_err-v c = let none = next_none c.args.self.now (sym c.in_err-v.was ∙ c.greatest.ensures) in cc (none, c.from_residual.ensures)

pub returns-then-v-class : goal.returns-then-v-class
returns-then-v-class c =
    next_some c.args.self.now c.priority_class-class.result c.in_ok-v.v c.priority_class-class.ensures (sym c.in_ok-v.was ∙ c.greatest.ensures)
    c.if-v-class.true

pub returns-else-v-class : goal.returns-else-v-class
returns-else-v-class c =
    next_low c.args.self.now c.priority_class-class.result c.in_ok-v.v c.priority_class-class.ensures (sym c.in_ok-v.was ∙ c.greatest.ensures)
    c.if-v-class.false
