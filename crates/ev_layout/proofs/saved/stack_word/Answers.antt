use Rattle.std.proofs.Common.{◌≡◌, ◌∙◌, ◌<◌, [], List, get_or, length, ap, subst}
use Rattle.ev_body.specs.declared.image.Image.{Image}
use Rattle.ev_body.specs.declared.image.TaskSpec.{TaskSpec}
use Rattle.ev_layout.proofs.Waiting.{other_default, within_by, stack_is}
use Rattle.ev_layout.proofs.saved.stack_word.Goals as goal

pub returns-in-Some-get : goal.returns-in-Some-get
returns-in-Some-get c =
    let i : Image = c.args.image.now in
    let p = c.args.p in
    let n = c.args.n in
    let ts : List TaskSpec = c.in-Some.tasks.now in
    let list = c.as_slice.ensures ∙ ap (λ (v : Image). v.tasks) c.image.view_is in
    let first = c.in-Some.ensures.lookup in
    let second = c.in-Some-get.ensures.lookup in
    let outer : p < length i.tasks = subst (λ (xs : List (List TaskSpec)). p < length xs) list (within_by p _ first.0) in
    let tasks : ts ≡ get_or i.tasks p [] = first.1 ∙ ap (λ (xs : List (List TaskSpec)). get_or xs p ts) list ∙ other_default i.tasks p ts [] outer in
    let inner = subst (λ (xs : List TaskSpec). n < length xs) c.as_slice-in-Some.ensures (within_by n _ second.0) in
    let task = second.1 ∙ ap (λ (xs : List TaskSpec). get_or xs n c.in-Some-get.task.now) c.as_slice-in-Some.ensures in
    c.saved_word.ensures ∙ stack_is c.args.mode i p n c.args.offset ts c.in-Some-get.task.now c.if-n-eq0.false tasks inner task
