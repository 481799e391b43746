use Rattle.std.proofs.Common.{◌∙◌, subst}
use Rattle.ev_body.specs.WellFormed.{IsImage}
use Rattle.ev_call_law.proofs.Runs.{calls_are_kept}
use Rattle.ev_pair.proofs.Safe.{chains_are_kept, run_is_safe}
use Rattle.ev_pair.proofs.run.run_modes.Goals as goal

pub returns-clause-safe : goal.returns-clause-safe
returns-clause-safe g c mode =
    run_is_safe mode c.args.accepted.now.image c.args.script.now (subst IsImage (c.image.view_is ∙ c.image-image.ensures.image) c.image.invariant)
    c.requires.image c.requires.script c.requires.lines

pub returns-clause-chains : goal.returns-clause-chains
returns-clause-chains g c =
    chains_are_kept c.args.accepted.now.image c.args.script.now (subst IsImage (c.image.view_is ∙ c.image-image.ensures.image) c.image.invariant)
    c.requires.image.accepted c.requires.script

pub returns-clause-calls : goal.returns-clause-calls
returns-clause-calls g c =
    calls_are_kept c.args.accepted.now.image c.args.script.now (subst IsImage (c.image.view_is ∙ c.image-image.ensures.image) c.image.invariant)
    c.requires.image.accepted c.requires.script
