-- What `run` takes today, as tests that compute. Own.
use Rattle.std.specs.Prelude.{Bool, ◌&&◌}
use Rattle.std.specs.List.{list_all}
use Rattle.ev_body.specs.declared.body.Body.{Body}
use Rattle.ev_body.specs.declared.body.Part.{Part}
use Rattle.ev_body.specs.declared.image.Image.{Image}
use Rattle.ev_built.specs.Built.{is_built_item, is_built_key}

-- whether the items of a function are such
abbrev pub part_is_built : Part → Bool
part_is_built part = list_all is_built_item part.items

-- whether the body is of a key that `fill` names, with such items in its main part and its functions
abbrev pub body_is_built : Body → Bool
body_is_built b = is_built_key b.key && list_all is_built_item b.items && list_all part_is_built b.parts

-- whether `run` takes the image, once it is accepted: its bodies are such
abbrev pub is_built : Image → Bool
is_built image = list_all body_is_built image.bodies
