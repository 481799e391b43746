use Rattle.std.proofs.Common.{◌≡◌, refl, sym, ◌∙◌, ap, subst, ◌<◌, ◌≤◌, arith}
use Rattle.ev_body.specs.declared.image.Image.{Image}
use Rattle.ev_body.specs.WellFormed.{IsImage}
use Rattle.ev_abstract.specs.Accepted.{IsFirstRefusal}
use Rattle.ev_abstract.specs.declared.refusal.Refusal.TheVariants.{DeepNesting}
use Rattle.ev_accept.specs.Bound.{bound_of}
use Rattle.ev_accept.proofs.Acceptance.{refused_by_nesting, accepted_with}
use Rattle.ev_accept.proofs.accepted.accept.Goals as goal

pub returns-then-image-bound-clause-refused : goal.returns-then-image-bound-clause-refused
returns-then-image-bound-clause-refused c =
    let is : IsImage c.args.image = subst IsImage c.image.view_is c.image.invariant in
    let bodies : c.image.inside.bodies ≡ c.args.image.bodies = ap (λ (i : Image). i.bodies) c.image.view_is in
    let nest : c.args.image.nest ≡ c.image.inside.nest = sym (ap (λ (i : Image). i.nest) c.image.view_is) in
    let over : c.args.image.nest < c.bound_of-bound.result = omega (arith, c.if-image-bound.true) in
    subst (λ n. IsFirstRefusal c.args.image (DeepNesting c.bound_of-bound.result n)) nest
    (refused_by_nesting c.args.image c.bound_of-bound.result is (sym c.rule_refusal.ensures ∙ c.in_default.is)
    (c.bound_of-bound.ensures ∙ ap bound_of (c.as_slice.ensures ∙ bodies)) over)

pub invariant_of-result : goal.invariant_of-result
invariant_of-result c =
    let is : IsImage c.args.image = subst IsImage c.image.view_is c.image.invariant in
    let bodies : c.image.inside.bodies ≡ c.args.image.bodies = ap (λ (i : Image). i.bodies) c.image.view_is in
    let nest : c.args.image.nest ≡ c.image.inside.nest = sym (ap (λ (i : Image). i.nest) c.image.view_is) in
    let fits : c.bound_of-bound.result ≤ c.args.image.nest = omega arith in
    accepted_with c.args.image c.bound_of-bound.result is (sym c.rule_refusal.ensures ∙ c.in_default.is)
    (c.bound_of-bound.ensures ∙ ap bound_of (c.as_slice.ensures ∙ bodies)) fits

pub returns-clause-accepted : goal.returns-clause-accepted
returns-clause-accepted c =
    let is : IsImage c.args.image = subst IsImage c.image.view_is c.image.invariant in
    let bodies : c.image.inside.bodies ≡ c.args.image.bodies = ap (λ (i : Image). i.bodies) c.image.view_is in
    let nest : c.args.image.nest ≡ c.image.inside.nest = sym (ap (λ (i : Image). i.nest) c.image.view_is) in
    let fits : c.bound_of-bound.result ≤ c.args.image.nest = omega arith in (
      refl,
      accepted_with c.args.image c.bound_of-bound.result is (sym c.rule_refusal.ensures ∙ c.in_default.is)
          (c.bound_of-bound.ensures ∙ ap bound_of (c.as_slice.ensures ∙ bodies)) fits,
    )
