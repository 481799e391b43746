use Rattle.std.proofs.Common.{◌∙◌, ◌≤◌, ap, sym, length, replicate, subst, arith}
use Rattle.std.proofs.lemmas.List.{length-replicate}
use Rattle.ev_trace.specs.FrameText.{Totals}
use Rattle.ev_body.specs.WellFormed.{IsImage}
use Rattle.ev_core.specs.Local.{start}
use Rattle.ev_core.proofs.Opening.{open_count, open_shows, open_run, open_stands}
use Rattle.ev_core.proofs.machine.Machine.open.Goals as goal

pub invariant_of-state : goal.invariant_of-state
invariant_of-state c =
    let given = subst IsImage (c.image.view_is ∙ c.image-image.ensures.image) c.image.invariant in
    let few = given.count.1 in
    let count = open_count c.args.mode c.args.accepted.now.image _ (c.into_vec-cpus.ensures ∙ c.in_ok-parts.ensures.cpus) in record {
      same = ap length (c.in-Ok.ensures) ∙ length-replicate _ start ∙ c.len.ensures ∙ c.into_vec-cpus.result.ok.0;
      few = omega arith;
      frames = let z = c.new.ensures in subst (λ (t : Totals). t.frames ≤ t.steps) (sym z) (omega arith);
    }

pub invariant_of-result : goal.invariant_of-result
invariant_of-result c =
    open_stands c.args.mode c.args.accepted.now.image _
    (record {
      image_is = subst IsImage (c.image.view_is ∙ c.image-image.ensures.image) c.image.invariant;
      built = c.requires.image;
    })
    c.in_ok-parts.ensures.places
    (open_shows c.args.mode c.args.accepted.now.image _ (c.into_vec-cpus.ensures ∙ c.in_ok-parts.ensures.cpus)
    (c.in-Ok.ensures ∙ ap (λ n. replicate n start) (c.len.ensures ∙ c.into_vec-cpus.result.ok.0)) c.in_ok-parts.ensures.memory c.new.ensures)

pub returns : goal.returns
returns c =
    open_run c.args.mode c.args.accepted.now.image _
    (record {
      image_is = subst IsImage (c.image.view_is ∙ c.image-image.ensures.image) c.image.invariant;
      built = c.requires.image;
    })
    c.in_ok-parts.ensures.places
    (open_shows c.args.mode c.args.accepted.now.image _ (c.into_vec-cpus.ensures ∙ c.in_ok-parts.ensures.cpus)
    (c.in-Ok.ensures ∙ ap (λ n. replicate n start) (c.len.ensures ∙ c.into_vec-cpus.result.ok.0)) c.in_ok-parts.ensures.memory c.new.ensures)
