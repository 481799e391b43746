-- What the tests of images give. Own.
use Rattle.std.specs.Prelude.{◌≡◌, true}
use Rattle.ev_body.specs.declared.image.Image.{Image}
use Rattle.ev_abstract.specs.Accepted.{IsAccepted}
use Rattle.ev_built.specs.Built.{IsBuilt}
use Rattle.ev_built.specs.RunTakes.{is_built}

-- an accepted image that `run` takes is one of those for which the theorems stand
abbrev pub TakenAreBuilt : Type 0
TakenAreBuilt = (image : Image) → IsAccepted image → is_built image ≡ true → IsBuilt image
