-- Bodies whose instructions have spellings keep their numbers below the bounds of the address map, and so their items are kept.
use Rattle.std.proofs.Common.{◌≡◌, ℕ, ◌≤◌, true, not, ◌||◌, List, [], ◌∷◌, length, map, refl, arith}
use Rattle.std.proofs.lemmas.Bool.{le-leb}
use Rattle.std.proofs.lemmas.List.{length-map}
use Rattle.std.specs.List.{list_all, list_any}
use Rattle.ev_body.specs.declared.body.Body.{Body}
use Rattle.ev_body.specs.Bodies.{body_items}
use Rattle.ev_body.specs.declared.image.Image.{Image}
use Rattle.ev_body.specs.WellFormed.{is_finish, is_body, IsImage}
use Rattle.ev_abstract.specs.Rules.{is_take}
use Rattle.ev_fetch.specs.Spelled.{has_spelling}
use Rattle.ev_fetch.proofs.Regions.{and_both}
use Rattle.ev_items.specs.Lines.{keeps_slots}
use Rattle.ev_items.proofs.Slots.{body_slots, few_at}
use Rattle.ev_layout.specs.KeptCode.{is_code, are_code}
use Rattle.ev_layout.proofs.Among.{split}

pub all_keep : (p : ℕ) (bs : List Body) → list_all (has_spelling p) bs ≡ true → list_all (keeps_slots p) bs ≡ true
all_keep p [] h = refl
all_keep p (b ∷ bs) h =
    let s = split (has_spelling p b) _ h in
    let k = (split (keeps_slots p b) (list_any is_take (body_items b) || not (list_any is_finish (body_items b))) s.0).0 in
    and_both _ _ k (all_keep p bs s.1)

each_code : (bytes p : ℕ) (bs : List Body) → p ≤ 8 → list_all (is_body bytes) bs ≡ true → list_all (keeps_slots p) bs ≡ true
    → list_all is_code (map body_items bs) ≡ true
each_code bytes p [] l h k = refl
each_code bytes p (b ∷ bs) l h k =
    let few = few_at bytes (b ∷ bs) 0 b h (omega arith) refl in
    and_both _ _ (and_both _ _ (le-leb (length (body_items b)) 256 few) (body_slots p (b ∷ bs) 0 b l k (omega arith) refl))
    (each_code bytes p bs l (split (is_body bytes b) _ h).1 (split (keeps_slots p b) _ k).1)

pub all_code : (image : Image) → IsImage image → list_all (keeps_slots image.processors) image.bodies ≡ true → are_code (map body_items image.bodies) ≡ true
all_code image is h =
    let most = is.bodies_given.0 in
    let count = length-map image.bodies body_items in
    and_both _ _ (le-leb (length (map body_items image.bodies)) 64 (omega arith))
    (each_code (length image.text) image.processors image.bodies is.count.1 is.bodies_given.1 h)
