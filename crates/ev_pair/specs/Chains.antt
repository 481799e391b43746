-- What is promised of the bodies that stand while a script runs. Own.
use Rattle.std.specs.Prelude.{◌≡◌, ◌⊎◌, ℕ, ◌<◌, ◌≤◌, List, [], ◌++◌, length}
use Rattle.ev_body.specs.declared.image.Image.{Image}
use Rattle.ev_abstract.specs.Accepted.{IsAcceptedWith}
use Rattle.ev_abstract.specs.Chain.{IsChain}
use Rattle.ev_abstract.specs.Claims.{standing_bodies}
use Rattle.ev_abstract.specs.Machine.{processor}
use Rattle.ev_abstract.specs.Run.{run}
use Rattle.ev_abstract.specs.declared.script_line.Line.{Line}

-- Behind each of the script's lines the bodies that stand on a processor are a legal chain, of no more than the image's bound and than its `nest`.
pub record KeepsChains (image : Image) (script : List Line) : Type 0 where
  pub legal : (done rest : List Line) → script ≡ done ++ rest → (p : ℕ) → p < image.processors
      → (standing_bodies (processor (run image done) p) ≡ []) ⊎ IsChain image (standing_bodies (processor (run image done) p))
  pub bounded : (done rest : List Line) → script ≡ done ++ rest → (p : ℕ) → p < image.processors → (bound : ℕ) → IsAcceptedWith image bound
      → length (standing_bodies (processor (run image done) p)) ≤ bound
  pub nested : (done rest : List Line) → script ≡ done ++ rest → (p : ℕ) → p < image.processors
      → length (standing_bodies (processor (run image done) p)) ≤ image.nest
