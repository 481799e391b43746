-- What the grammar gives of an image: limits, numbers in range, parts that end as they should. Own.
use Rattle.std.specs.Prelude.{◌≡◌, ℕ, ◌+◌, ◌^◌, ◌≤◌, Bool, true, false, not, ◌&&◌, ◌||◌, nat_lt, nat_le, ◌==◌, List, [], ◌∷◌, length, map, flat_map}
use Rattle.std.specs.List.{list_any, list_all}
use Rattle.ev_isa.specs.declared.instruction.Cond.{Cond}
use Rattle.ev_isa.specs.declared.instruction.Cond.TheVariants.{S, Ns}
use Rattle.ev_body.specs.declared.key.Key.{Key}
use Rattle.ev_body.specs.declared.key.Side.{Side}
use Rattle.ev_body.specs.declared.item.Item.{Item}
use Rattle.ev_body.specs.declared.body.Part.{Part}
use Rattle.ev_body.specs.declared.body.Body.{Body}
use Rattle.ev_body.specs.declared.image.TaskSpec.{TaskSpec}
use Rattle.ev_body.specs.declared.key.Side.TheVariants.{User}
use Rattle.ev_body.specs.Bodies.{key_number, covers, body_items}
use Rattle.ev_body.specs.declared.key.Key.TheVariants.{Sys, Db, Ud, Ss, Gp, Ac, Nmi, Irq}
use Rattle.ev_body.specs.declared.item.Item.TheVariants.{Set, Copy, Alu, Jcc, Goto, Log, Cpu, Slot, Put, Cell, SetCell, AddCell, SwapCell, Uget, Uput, GetReg, SetReg, SetRip, Map, Unmap, Send, Call, Kick, Finish, Ret}
use Rattle.ev_body.specs.KernelImage.{KernelImage}

-- rsi, rdi and r8 to r13
abbrev pub is_local : ℕ → Bool
is_local r = nat_le 6 r && nat_lt r 14

-- a 64-bit number
abbrev pub is_word : ℕ → Bool
is_word n = nat_lt n (2 ^ 64)

-- nmi, or an interrupt from 20H on
abbrev pub is_sendable : Key → Bool
is_sendable Nmi = true
is_sendable (Irq v) = nat_le 0x20 v && nat_lt v 0x100
is_sendable _ = false

-- the conditions that jumps of bodies may have
unfoldable pub is_body_cond : Cond → Bool
is_body_cond S = false
is_body_cond Ns = false
is_body_cond _ = true

-- in the text, or directly behind it
abbrev pub is_text_place : ℕ → ℕ → Bool
is_text_place bytes a = nat_le 0x400000 a && nat_le a (0x400000 + bytes)

-- The operands of an item in a part of the items from low up to high, where the text has so many bytes. (What SlotRule bounds is not tested.)
unfoldable pub has_operands : ℕ → ℕ → ℕ → Item → Bool
has_operands bytes low high (Set d n) = is_local d && is_word n
has_operands bytes low high (Copy d s) = is_local d && is_local s
has_operands bytes low high (Alu op d s) = is_local d && is_local s
has_operands bytes low high (Jcc cond n) = is_body_cond cond && nat_le low n && nat_lt n high
has_operands bytes low high (Goto n) = nat_le low n && nat_lt n high
has_operands bytes low high (Log s) = is_local s
has_operands bytes low high (Cpu d) = is_local d
has_operands bytes low high (Slot d k) = is_local d && is_word k
has_operands bytes low high (Put k s) = is_word k && is_local s
has_operands bytes low high (Cell d k) = is_local d && is_word k
has_operands bytes low high (SetCell k s) = is_word k && is_local s
has_operands bytes low high (AddCell k d) = is_word k && is_local d
has_operands bytes low high (SwapCell k d) = is_word k && is_local d
has_operands bytes low high (Uget d s) = is_local d && is_local s
has_operands bytes low high (Uput s t) = is_local s && is_local t
has_operands bytes low high (GetReg d r) = is_local d && nat_lt r 16
has_operands bytes low high (SetReg r s) = nat_lt r 16 && is_local s
has_operands bytes low high (SetRip a) = is_text_place bytes a
has_operands bytes low high (Map s) = is_local s
has_operands bytes low high (Unmap s) = is_local s
has_operands bytes low high (Send to key) = is_word to && is_sendable key
has_operands bytes low high (Call site to func s) = is_word site && is_word to && is_word func && is_local s
has_operands bytes low high (Kick to s) = is_word to && is_local s
has_operands bytes low high (Item.Wait site) = is_word site
has_operands bytes low high _ = true

-- the last item of a function's part
unfoldable pub is_finish : Item → Bool
is_finish Finish = true
is_finish _ = false

-- the last item of a main part
unfoldable pub is_ret : Item → Bool
is_ret Ret = true
is_ret _ = false

-- the last item ends the part, and no other item is `ret` or `finish`
unfoldable pub ends_with : (Item → Bool) → List Item → Bool
ends_with test [] = false
ends_with test (item ∷ []) = test item
ends_with test (item ∷ next ∷ items) = not (is_ret item) && not (is_finish item) && ends_with test (next ∷ items)

-- the function parts, whose items are numbered from n on
abbrev pub are_parts : ℕ → ℕ → List Part → Bool
are_parts bytes n [] = true
are_parts bytes n (part ∷ parts) =
    nat_lt part.func 8 && ends_with is_finish part.items && list_all (has_operands bytes n (n + length part.items)) part.items
    && are_parts bytes (n + length part.items) parts

-- the keys that have the user side alone
unfoldable pub is_user_only : Key → Bool
is_user_only Sys = true
is_user_only Db = true
is_user_only Ud = true
is_user_only Ss = true
is_user_only Gp = true
is_user_only Ac = true
is_user_only _ = false

-- the side of user code alone
unfoldable pub is_user_side : Side → Bool
is_user_side User = true
is_user_side _ = false

-- an interrupt has a vector from 20H to FFH
unfoldable pub is_key : Key → Bool
is_key (Irq v) = nat_le 0x20 v && nat_lt v 0x100
is_key _ = true

-- a body without functions
abbrev pub has_no_parts : List Part → Bool
has_no_parts [] = true
has_no_parts (part ∷ parts) = false

-- a body as the grammar gives it, over a text of so many bytes
abbrev pub is_body : ℕ → Body → Bool
is_body bytes b =
    is_key b.key && (not (is_user_only b.key) || is_user_side b.side) && ends_with is_ret b.items && list_all (has_operands bytes 0 (length b.items)) b.items
    && (has_no_parts b.parts || (key_number b.key == 0xfb)) && are_parts bytes (length b.items) b.parts && nat_le (length (body_items b)) 256

-- no two bodies have one key and a side in common
abbrev pub is_apart : Body → Body → Bool
is_apart b c = not (key_number b.key == key_number c.key) || not
    ((covers b.side User && covers c.side User) || (covers b.side Side.Kernel && covers c.side Side.Kernel))

-- no two bodies serve one key on one side
abbrev pub are_apart : List Body → Bool
are_apart [] = true
are_apart (b ∷ bs) = list_all (is_apart b) bs && are_apart bs

-- a task as the grammar gives it, over a text of so many bytes
abbrev pub is_task : ℕ → TaskSpec → Bool
is_task bytes t = is_text_place bytes t.start && nat_lt t.gs (2 ^ 32) && (length t.regs == 16) && list_all is_word t.regs

-- no number twice
abbrev pub are_distinct : List ℕ → Bool
are_distinct [] = true
are_distinct (n ∷ ns) = not (list_any (λ k. k == n) ns) && are_distinct ns

-- the numbers of the functions of all bodies
abbrev pub functions_of : List Body → List ℕ
functions_of bodies = flat_map (λ (b : Body). map (λ (part : Part). part.func) b.parts) bodies

-- What the grammar gives of an image. The type `Image` keeps it.
pub record IsImage (image : KernelImage) : Type 0 where
  pub count : (1 ≤ image.processors) × (image.processors ≤ 8) × (1 ≤ image.nest) × (image.nest ≤ 32)
  pub pages_fit : list_all (λ i. nat_lt i 256) image.pages && are_distinct image.pages ≡ true
  pub cells_fit : list_all (λ (e : ℕ × ℕ). nat_lt e.0 256 && is_word e.1) image.cells && are_distinct (map (λ (e : ℕ × ℕ). e.0) image.cells) ≡ true
  pub text_fits : length image.text ≤ 65520
  pub text_bytes : list_all (λ b. nat_lt b 256) image.text ≡ true
  pub tasks_given : (length image.tasks ≡ image.processors)
      × (list_all (λ ts. nat_lt 0 (length ts) && nat_le (length ts) 4 && list_all (is_task (length image.text)) ts) image.tasks ≡ true)
  pub bodies_given : (length image.bodies ≤ 64) × (list_all (is_body (length image.text)) image.bodies ≡ true) × (are_apart image.bodies ≡ true)
  pub functions_once : are_distinct (functions_of image.bodies) ≡ true
