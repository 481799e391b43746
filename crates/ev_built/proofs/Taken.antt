-- An image that `run` takes is one of those for which the theorems stand.
use Rattle.std.proofs.Common.{◌≡◌, refl, true, ◌&&◌, List, [], ◌∷◌, ◌∙◌}
use Rattle.std.specs.List.{list_all}
use Rattle.std.proofs.lemmas.Bool.{and_parts, and_from}
use Rattle.std.specs.Prelude.{◌++◌, flat_map}
use Rattle.std.proofs.lemmas.List.Folds.{list_all-append}
use Rattle.ev_body.specs.declared.item.Item.{Item}
use Rattle.ev_body.specs.declared.body.Body.{Body}
use Rattle.ev_body.specs.declared.body.Part.{Part}
use Rattle.ev_built.specs.Built.{is_built_body, is_built_item, is_built_key}
use Rattle.ev_built.specs.RunTakes.{body_is_built, part_is_built}
use Rattle.ev_built.specs.Laws.{TakenAreBuilt}

-- ---- the bodies

-- two lists of such items are one
both_built : (xs ys : List Item) → list_all is_built_item xs ≡ true → list_all is_built_item ys ≡ true
    → list_all is_built_item (xs ++ ys) ≡ true
both_built xs ys x y =
    list_all-append is_built_item xs ys ∙ and_from (list_all is_built_item xs) (list_all is_built_item ys) x y

taken_parts : (ps : List Part) → list_all part_is_built ps ≡ true
    → list_all is_built_item (flat_map (λ (part : Part). part.items) ps) ≡ true
taken_parts [] h = refl
taken_parts (p ∷ ps) h =
    let q = and_parts (part_is_built p) (list_all part_is_built ps) h in
    both_built p.items (flat_map (λ (part : Part). part.items) ps) q.0 (taken_parts ps q.1)

taken_body : (b : Body) → body_is_built b ≡ true → (is_built_body b ≡ true) × (is_built_key b.key ≡ true)
taken_body b h =
    let p = and_parts (is_built_key b.key && list_all is_built_item b.items) (list_all part_is_built b.parts) h in
    let q = and_parts (is_built_key b.key) (list_all is_built_item b.items) p.0 in
    (both_built b.items (flat_map (λ (part : Part). part.items) b.parts) q.1 (taken_parts b.parts p.1), q.0)

taken_bodies : (bs : List Body) → list_all body_is_built bs ≡ true
    → (list_all is_built_body bs ≡ true) × (list_all (λ (b : Body). is_built_key b.key) bs ≡ true)
taken_bodies [] h = (refl, refl)
taken_bodies (b ∷ bs) h =
    let p = and_parts (body_is_built b) (list_all body_is_built bs) h in
    let here = taken_body b p.0 in
    let rest = taken_bodies bs p.1 in (
      and_from (is_built_body b) (list_all is_built_body bs) here.0 rest.0,
      and_from (is_built_key b.key) (list_all (λ (c : Body). is_built_key c.key) bs) here.1 rest.1,
    )

-- ---- the image

pub taken_are_built : TakenAreBuilt
taken_are_built image accepted h =
    let bodies = taken_bodies image.bodies h in record { accepted = accepted; bodies = bodies.0; keys = bodies.1 }
