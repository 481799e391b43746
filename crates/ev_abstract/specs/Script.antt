-- What the grammar gives of a script. Own.
use Rattle.std.specs.Prelude.{◌≡◌, Bool, true, ◌&&◌, nat_lt, nat_le, ◌==◌, List}
use Rattle.std.specs.List.{list_any, list_all}
use Rattle.ev_body.specs.declared.key.Key.{Key}
use Rattle.ev_body.specs.declared.body.Body.{Body}
use Rattle.ev_body.specs.declared.image.Image.{Image}
use Rattle.ev_body.specs.Bodies.{key_number}
use Rattle.ev_body.specs.WellFormed.{is_sendable}
use Rattle.ev_abstract.specs.declared.script_line.Line.{Line}
use Rattle.ev_abstract.specs.declared.script_line.Line.TheVariants.{Turn, Edge, Arrive, Accept}

-- whether the image has a body of the key
abbrev pub has_body_of : Image → Key → Bool
has_body_of image key = list_any (λ (b : Body). key_number b.key == key_number key) image.bodies

-- whether a line can stand in a script for the image
unfoldable pub is_line : Image → Line → Bool
is_line image (Turn p) = nat_lt p image.processors
is_line image (Edge p n) = nat_lt p image.processors && nat_le 1 n && nat_le n 4096
is_line image (Arrive p key) = nat_lt p image.processors && is_sendable key && has_body_of image key
is_line image (Accept p) = nat_lt p image.processors

-- each line of the script can
abbrev pub IsScript : Image → List Line → Type 0
IsScript image script = list_all (is_line image) script ≡ true
