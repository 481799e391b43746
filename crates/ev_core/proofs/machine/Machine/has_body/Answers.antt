use Rattle.std.proofs.Common.{◌+◌, ◌*◌, not, ap, ◌∙◌}
use Rattle.std.specs.Prelude.{◌==◌}
use Rattle.ev_mem.specs.Memory.{Memory}
use Rattle.ev_mem.specs.Mapped.{memory}
use Rattle.ev_listing.specs.AddressMap.{user_table, kernel_table, no_body}
use Rattle.ev_core.specs.State.{Parts}
use Rattle.ev_core.specs.Run.{MachineView}
use Rattle.ev_core.specs.declared.machine.Machine.TheInside.{Inside}
use Rattle.ev_core.proofs.Interrupts.{bodies_told, first_holds, second_tells}
use Rattle.ev_core.proofs.machine.Machine.has_body.Goals as goal

pub returns-then-names_body : goal.returns-then-names_body
returns-then-names_body c mode image s m so =
    let n = c.number-number in
    let is = ap (λ (x : Inside). x.state) c.self-inside.view_is ∙ ap (λ (v : MachineView). v.parts) c.self.view_is in
    let mem = ap (λ (w : Parts). memory w.mem) is ∙ so.at.shows.memory in
    first_holds _ _ _ _ (c.names_body.ensures ∙ ap (λ (w : Memory). not (w.words (user_table + 8 * n.result) == no_body)) mem) c.if-names_body.true
    (bodies_told mode image s m _ so c.args.key n.result n.ensures.is n.ensures.small)

pub returns-else-names_body : goal.returns-else-names_body
returns-else-names_body c mode image s m so =
    let n = c.number-number in
    let is = ap (λ (x : Inside). x.state) c.self-inside.view_is ∙ ap (λ (v : MachineView). v.parts) c.self.view_is in
    let mem = ap (λ (w : Parts). memory w.mem) is ∙ so.at.shows.memory in
    second_tells _ _ _ _ _ (c.names_body.ensures ∙ ap (λ (w : Memory). not (w.words (user_table + 8 * n.result) == no_body)) mem) c.if-names_body.false
    (c.names_body-else-names_body.ensures ∙ ap (λ (w : Memory). not (w.words (kernel_table + 8 * n.result) == no_body)) mem)
    (bodies_told mode image s m _ so c.args.key n.result n.ensures.is n.ensures.small)
