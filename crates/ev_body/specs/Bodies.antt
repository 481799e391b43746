-- Keys, sides, and the items of bodies by number. Own.
use Rattle.std.specs.Prelude.{ℕ, suc, ◌+◌, Bool, true, false, List, [], ◌∷◌, ◌++◌, length, flat_map, ◌&&◌, Option, Some, None, ◌==◌, if◌then◌else◌, map, filter, is_none}
use Rattle.ev_body.specs.declared.key.Key.{Key}
use Rattle.ev_body.specs.declared.key.Key.TheVariants.{Sys, Db, Nmi, Bp, Ud, Ss, Gp, Pf, Ac, Irq}
use Rattle.ev_body.specs.declared.key.Side.{Side}
use Rattle.ev_body.specs.declared.key.Side.TheVariants.{User, Kernel, Both}
use Rattle.ev_body.specs.declared.item.Item.{Item}
use Rattle.ev_body.specs.declared.item.Item.TheVariants.{Ret}
use Rattle.ev_body.specs.declared.body.Part.{Part}
use Rattle.ev_body.specs.declared.body.Body.{Body}

-- the number of a key: its vector, and 100H for SYSCALL
unfoldable pub key_number : Key → ℕ
key_number Sys = 0x100
key_number Db = 1
key_number Nmi = 2
key_number Bp = 3
key_number Ud = 6
key_number Ss = 12
key_number Gp = 13
key_number Pf = 14
key_number Ac = 17
key_number (Irq v) = v

-- whether a body of the first side serves events that come to the second
unfoldable pub covers : Side → Side → Bool
covers Both _ = true
covers User User = true
covers User _ = false
covers Kernel Kernel = true
covers Kernel _ = false

-- the items of a body by their numbers: the main part, then the function parts
abbrev pub body_items : Body → List Item
body_items b = b.items ++ flat_map (λ part. part.items) b.parts

-- the number of a function's first item, where the parts begin with item n
abbrev pub first_item : ℕ → List Part → ℕ → ℕ
first_item n [] func = n
first_item n (part ∷ parts) func = if part.func == func then n else first_item (n + length part.items) parts func

-- the number of the first item of a function's part
abbrev pub function_start : Body → ℕ → ℕ
function_start b func = first_item (length b.items) b.parts func

-- the number of the first body, from n on, that runs on an event of this key and side
abbrev pub first_body : ℕ → List Body → ℕ → Side → Option ℕ
first_body n [] key side = None
first_body n (b ∷ bs) key side = if key_number b.key == key && covers b.side side then Some n else first_body (suc n) bs key side

-- ---- `fill`: a body of the one item `ret` for each of these keys whose user side has none

-- the keys of what user code can raise, for which `fill` gives a body
abbrev pub filled_keys : List Key
filled_keys = Sys ∷ Db ∷ Bp ∷ Ud ∷ Ss ∷ Gp ∷ Pf ∷ Ac ∷ []

-- the line `fill`: a body of `ret` alone for each of these keys that has none of the user side
abbrev pub fill : List Body → List Body
fill bodies = bodies ++ map (λ key. record { key = key; side = User; items = Ret ∷ []; parts = [] })
    (filter (λ key. is_none (first_body 0 bodies (key_number key) User)) filled_keys)
