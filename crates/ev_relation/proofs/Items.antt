-- The items of today's bodies.
use Rattle.std.proofs.Common.{◌≡◌, ℕ, zero, suc, Bool, true, List, [], ◌∷◌, Some, ap, ◌∙◌}
use Rattle.std.specs.Prelude.{slice_get}
use Rattle.std.specs.List.{list_all}
use Rattle.ev_body.specs.declared.item.Item.{Item}
use Rattle.ev_body.specs.declared.body.Body.{Body}
use Rattle.ev_body.specs.declared.image.Image.{Image}
use Rattle.ev_body.specs.Bodies.{body_items}
use Rattle.ev_body.specs.WellFormed.{IsImage}
use Rattle.ev_built.specs.Built.{IsBuilt, is_built_item, is_built_body}
use Rattle.ev_abstract.specs.Run.{item_at}
use Rattle.ev_symbolic.proofs.Values.{and_left, and_right}

-- ---- lists

pub all_at : {X : Type 0} (t : X → Bool) (xs : List X) (i : ℕ) (x : X) → list_all t xs ≡ true → slice_get xs i ≡ Some x → t x ≡ true
all_at t [] i x h k = absurd (cc)
all_at t (y ∷ ys) zero x h k = ap t (let e : x ≡ y = cc in e) ∙ and_left (t y) _ h
all_at t (y ∷ ys) (suc i) x h k = all_at t ys i x (and_right (t y) _ h) k

-- ---- a body of today

module _ (image : Image) (built : IsBuilt image) (good : IsImage image) (n : ℕ) (b : Body) (hb : slice_get image.bodies n ≡ Some b) where
  -- each of its items runs today, in its functions too
  pub which : (i : ℕ) (x : Item) → item_at (Some b) i ≡ Some x → is_built_item x ≡ true
  which i x h = all_at is_built_item (body_items b) i x (all_at is_built_body image.bodies n b built.bodies hb) h
