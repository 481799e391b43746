use Rattle.std.proofs.Common.{◌≡◌, sym, ◌∙◌, ap, ◌<◌, None, length, get_or, arith}
use Rattle.ev_abstract.specs.Rules.{failing_call}
use Rattle.ev_abstract.specs.declared.refusal.Refusal.TheVariants.{CallRule}
use Rattle.ev_accept.proofs.Counts.{few_items}
use Rattle.ev_accept.proofs.Searches.{refused_past}
use Rattle.ev_accept.proofs.calls.call_refusal.Goals as goal

pub loop-n-preserved : goal.loop-n-preserved
loop-n-preserved c =
    let same : c.from-in-loop-n.result ≡ c.loop-n.n = c.from-in-loop-n.ensures in
    let is : c.index-bodies-from.result ≡ get_or c.as_slice-bodies.result.now c.from-in-loop-n.result c.index-bodies-from.result = c.index-bodies-from.is in
    let slice : c.as_slice-bodies.result.now ≡ c.args.image.now.bodies = cc in
    let at : c.index-bodies-from.result ≡ get_or c.args.image.now.bodies c.loop-n.n c.index-bodies-from.result = cc in
    let none : failing_call c.args.image.now c.loop-n.n c.index-bodies-from.result ≡ None = cc in
    let long : length c.as_slice-bodies.result.now ≡ length c.args.image.now.bodies = ap length slice in
    let within : c.loop-n.n < length c.args.image.now.bodies = omega arith in
    sym (refused_past CallRule (failing_call c.args.image.now) c.args.image.now.bodies c.loop-n.n c.index-bodies-from.result within at none)
    ∙ c.loop-n.invariant

pub failing_call-requires-clause-few : goal.failing_call-requires-clause-few
failing_call-requires-clause-few c =
    let slice : c.as_slice-bodies.result.now ≡ c.image.inside.bodies = c.as_slice-bodies.ensures in
    let at : c.index-bodies-from.result ≡ get_or c.image.inside.bodies c.from-in-loop-n.result c.index-bodies-from.result =
    c.index-bodies-from.is ∙ ap (λ xs. get_or xs c.from-in-loop-n.result c.index-bodies-from.result) slice in
    let long : length c.as_slice-bodies.result.now ≡ length c.image.inside.bodies = ap length slice in
    few_items (length c.image.inside.text) c.image.inside.bodies c.from-in-loop-n.result c.index-bodies-from.result c.image.invariant.bodies_given.1
    (omega arith) at
