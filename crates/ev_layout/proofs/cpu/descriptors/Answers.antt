use Rattle.std.proofs.Common.{◌≡◌, ◌∙◌, ◌<◌, List, get_or, length, true, ap, sym, subst}
use Rattle.std.specs.List.{list_all}
use Rattle.ev_body.specs.declared.image.Image.{Image}
use Rattle.ev_body.specs.declared.image.TaskSpec.{TaskSpec}
use Rattle.ev_layout.specs.Processors.{have_bases}
use Rattle.ev_layout.proofs.Descriptors.{are_tasks, tasks_at, bases_of}
use Rattle.ev_layout.proofs.cpu.descriptors.Goals as goal

pub append_descriptors-requires-clause-bases : goal.append_descriptors-requires-clause-bases
append_descriptors-requires-clause-bases c =
    let i : Image = c.args.image.now in
    let list = c.as_slice-tasks-items.ensures ∙ ap (λ (v : Image). v.tasks) c.image.view_is in
    let all = subst (λ (v : Image). list_all (are_tasks (length v.text)) v.tasks ≡ true) c.image.view_is c.image.invariant.tasks_given.1 in
    let at = tasks_at (length i.text) i.tasks c.loop-p.p c.tasks-item.result all
    (subst (λ (x : List (List TaskSpec)). c.loop-p.p < length x) list c.loop-p-test.true)
    (c.tasks-item.is ∙ ap (λ (x : List (List TaskSpec)). get_or x c.loop-p.p c.tasks-item.result) list) in
    subst (λ (ts : List TaskSpec). have_bases ts ≡ true) (sym c.as_slice.ensures) (bases_of (length i.text) c.tasks-item.result at)
