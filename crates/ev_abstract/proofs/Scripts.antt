-- The run and the trace of scripts after each other.
use Rattle.std.specs.Prelude.{◌≡◌, refl, List, [], ◌∷◌, ◌++◌}
use Rattle.ev_body.specs.declared.image.Image.{Image}
use Rattle.ev_abstract.specs.Machine.{Machine, opening}
use Rattle.ev_abstract.specs.declared.script_line.Line.{Line}
use Rattle.ev_abstract.specs.Run.{line_step, after, entries_from, run}
use Rattle.ev_abstract.specs.Laws.{RunOfTwoScripts, TraceOfTwoScripts, TraceOfOneMoreLine}
use Rattle.std.proofs.Common.{sym, append_assoc}
use Rattle.std.proofs.Common.{append-nil, ◌∙◌, ap}

after_more : (image : Image) (m : Machine) (s t : List Line) → after image m (s ++ t) ≡ after image (after image m s) t
after_more image m [] t = refl
after_more image m (l ∷ s) t = after_more image (line_step image m l).0 s t

entries_more : (image : Image) (m : Machine) (s t : List Line) → entries_from image m (s ++ t) ≡ entries_from image m s ++ entries_from image
    (after image m s) t
entries_more image m [] t = refl
entries_more image m (l ∷ s) t =
    rw (entries_more image (line_step image m l).0 s t)
    (sym (append_assoc (line_step image m l).1 (entries_from image (line_step image m l).0 s) (entries_from image (after image (line_step image m l).0 s) t)))

pub run_of_two : RunOfTwoScripts
run_of_two image s t = after_more image (opening image) s t

pub trace_of_two : TraceOfTwoScripts
trace_of_two image s t = entries_more image (opening image) s t

pub trace_of_one_more : TraceOfOneMoreLine
trace_of_one_more image s l = trace_of_two image s (l ∷ []) ∙ ap (λ es. entries_from image (opening image) s ++ es)
    (append-nil (line_step image (run image s) l).1)
