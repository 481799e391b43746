use Rattle.std.proofs.Common.{◌≡◌, sym, ◌∙◌, ap, ◌<◌, None, length, get_or, arith}
use Rattle.ev_accept.specs.Checks.{name_of, failing_by}
use Rattle.ev_accept.proofs.Searches.{refused_past}
use Rattle.ev_accept.proofs.checks.refusal_by.Goals as goal

pub loop-n-preserved : goal.loop-n-preserved
loop-n-preserved c =
    let same : c.from-in-loop-n.result ≡ c.loop-n.n = c.from-in-loop-n.ensures in
    let is : c.index-bodies-from.result ≡ get_or c.as_slice-bodies.result.now c.from-in-loop-n.result c.index-bodies-from.result = c.index-bodies-from.is in
    let slice : c.as_slice-bodies.result.now ≡ c.args.image.now.bodies = cc in
    let at : c.index-bodies-from.result ≡ get_or c.args.image.now.bodies c.loop-n.n c.index-bodies-from.result = cc in
    let none : failing_by c.args.rule c.args.image.now.processors c.index-bodies-from.result ≡ None = cc in
    let long : length c.as_slice-bodies.result.now ≡ length c.args.image.now.bodies = ap length slice in
    let within : c.loop-n.n < length c.args.image.now.bodies = omega arith in
    sym (refused_past (name_of c.args.rule) (λ n b. failing_by c.args.rule c.args.image.now.processors b) c.args.image.now.bodies c.loop-n.n
    c.index-bodies-from.result within at none) ∙ c.loop-n.invariant
