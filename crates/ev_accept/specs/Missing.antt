-- Parts of the rule of missing bodies. Own.
use Rattle.std.specs.Prelude.{ℕ, Bool, if◌then◌else◌, List, [], ◌∷◌, ◌++◌, map, flat_map, filter}
use Rattle.ev_body.specs.declared.key.Key.{Key}
use Rattle.ev_body.specs.declared.key.Key.TheVariants.{Nmi, Bp, Pf}
use Rattle.ev_body.specs.declared.key.Side.{Side}
use Rattle.ev_body.specs.declared.key.Side.TheVariants.{User, Kernel}
use Rattle.ev_body.specs.declared.item.Item.{Item}
use Rattle.ev_body.specs.declared.image.Image.{Image}
use Rattle.ev_body.specs.Bodies.{filled_keys}
use Rattle.ev_abstract.specs.Chain.{is_breakpoint, is_user_access}
use Rattle.ev_abstract.specs.Rules.{is_used, some_body_has, both_sides, irq_keys}

-- the user sides of keys
abbrev pub user_sides : List Key → List (Key × Side)
user_sides keys = map (λ key. (key, User)) keys

-- the kernel side of a fault, where some body has an item that may raise it
abbrev pub fault_side : Image → (Item → Bool) → Key → List (Key × Side)
fault_side image test key = if some_body_has image test then (key, Kernel) ∷ [] else []

-- both sides of a key that is used
abbrev pub used_sides : Image → Key → List (Key × Side)
used_sides image key = if is_used image key then both_sides key else []

-- both sides of each interrupt key that is used, of so many from a vector on
unfoldable pub interrupt_sides : Image → ℕ → ℕ → List (Key × Side)
interrupt_sides image v n = flat_map both_sides (filter (is_used image) (irq_keys v n))

-- the sides of keys that must have a body, in order
unfoldable pub required_sides : Image → List (Key × Side)
required_sides image =
    user_sides filled_keys ++ (fault_side image is_breakpoint Bp ++ (fault_side image is_user_access Pf
    ++ (used_sides image Nmi ++ interrupt_sides image 0x20 0xe0)))
