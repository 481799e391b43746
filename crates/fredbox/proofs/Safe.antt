-- The frames of a document's runs are safe, their bodies legal chains, and their calls are kept.
use Rattle.std.proofs.Common.{ℕ, List, subst}
use Rattle.ev_body.specs.KernelImage.{KernelImage}
use Rattle.ev_body.specs.WellFormed.{IsImage}
use Rattle.ev_abstract.specs.declared.script_line.Line.{Line}
use Rattle.ev_built.proofs.Taken.{taken_are_built}
use Rattle.ev_call_law.proofs.Runs.{calls_are_kept}
use Rattle.ev_pair.proofs.Safe.{chains_are_kept, run_is_safe}
use Rattle.fredbox.specs.Safe.{CallsAreKept, ChainsAreKept, FramesAreSafe, HoldsRun}
use Rattle.fredbox.proofs.ReadFormed.{opened_is_image, script_is_formed}

image_is : (bytes : List ℕ) (image : KernelImage) (script : List Line) → HoldsRun bytes image script → IsImage image
image_is bytes image script h = subst IsImage h.image_is (opened_is_image _ h.read h.opens)

pub frames_are_safe : FramesAreSafe
frames_are_safe bytes image script h mode =
    run_is_safe mode image script (image_is bytes image script h) (taken_are_built image h.accepted h.built)
    (script_is_formed image _ _ _ script h.script_is) h.lines_built

pub all_chains_are_kept : ChainsAreKept
all_chains_are_kept bytes image script h =
    chains_are_kept image script (image_is bytes image script h) h.accepted (script_is_formed image _ _ _ script h.script_is)

pub all_calls_are_kept : CallsAreKept
all_calls_are_kept bytes image script h =
    calls_are_kept image script (image_is bytes image script h) h.accepted (script_is_formed image _ _ _ script h.script_is)
