-- Chains of bodies that can stand on each other, and their greatest length. Own.
use Rattle.std.specs.Prelude.{◌≡◌, ℕ, ◌/◌, ◌≤◌, Bool, true, false, not, ◌&&◌, nat_lt, List, [], ◌∷◌, length, Option, Some, None, slice_get}
use Rattle.std.specs.List.{list_any, list_all}
use Rattle.ev_body.specs.declared.key.Key.{Key}
use Rattle.ev_body.specs.declared.item.Item.{Item}
use Rattle.ev_body.specs.declared.body.Body.{Body}
use Rattle.ev_body.specs.declared.image.Image.{Image}
use Rattle.ev_body.specs.declared.key.Side.TheVariants.{User, Kernel}
use Rattle.ev_body.specs.Bodies.{covers, body_items}
use Rattle.ev_body.specs.declared.key.Key.TheVariants.{Nmi, Pf, Irq}
use Rattle.ev_body.specs.declared.item.Item.TheVariants.{Uget, Uput, Sti}

-- the item that raises a breakpoint
unfoldable pub is_breakpoint : Item → Bool
is_breakpoint Item.Bp = true
is_breakpoint _ = false

-- the items that can raise a page fault
unfoldable pub is_user_access : Item → Bool
is_user_access (Uget d s) = true
is_user_access (Uput s t) = true
is_user_access _ = false

-- the item that sets IF
unfoldable pub is_sti : Item → Bool
is_sti Sti = true
is_sti _ = false

-- whether the body has an item that passes
abbrev pub has_item : (Item → Bool) → Body → Bool
has_item test b = list_any test (body_items b)

-- the key of NMIs
unfoldable pub is_nmi : Key → Bool
is_nmi Nmi = true
is_nmi _ = false

-- whether the key is no interrupt, or one of a class below that of the vector
unfoldable pub is_below : ℕ → Key → Bool
is_below vector (Irq v) = nat_lt (v / 16) (vector / 16)
is_below vector _ = true

-- whether a body of this key may start on the body b, on which stand (from the last down) the bodies of the keys below
unfoldable pub may_start : Key → Body → List Body → Bool
may_start Key.Bp b below = has_item is_breakpoint b
may_start Pf b below = has_item is_user_access b
may_start (Irq v) b below = has_item is_sti b && list_all (λ (c : Body). is_below v c.key && not (is_nmi c.key)) (b ∷ below)
may_start Nmi b below = list_all (λ (c : Body). not (is_nmi c.key)) (b ∷ below)
may_start _ b below = false

-- Whether bodies, the last one first, are a legal chain.
unfoldable pub is_legal : List Body → Bool
is_legal [] = false
is_legal (b ∷ []) = covers b.side User
is_legal (b ∷ c ∷ below) = covers b.side Kernel && may_start b.key c below && is_legal (c ∷ below)

-- the bodies of these numbers; one that the image doesn't have is left out
abbrev pub cons_body : Option Body → List Body → List Body
cons_body None bs = bs
cons_body (Some b) bs = b ∷ bs

-- the bodies of these numbers
abbrev pub bodies_of : Image → List ℕ → List Body
bodies_of image [] = []
bodies_of image (n ∷ ns) = cons_body (slice_get image.bodies n) (bodies_of image ns)

-- numbers of bodies of the image, the last one first, that form a legal chain
pub record IsChain (image : Image) (chain : List ℕ) : Type 0 where
  pub bodies : list_all (λ n. nat_lt n (length image.bodies)) chain ≡ true
  pub legal : is_legal (bodies_of image chain) ≡ true

-- n is the greatest length of a legal chain (the user side of sys always has a body, so there is one)
pub record IsBound (image : Image) (n : ℕ) : Type 0 where
  pub reached : (chain : List ℕ) × IsChain image chain × (length chain ≡ n)
  pub greatest : (chain : List ℕ) → IsChain image chain → length chain ≤ n
