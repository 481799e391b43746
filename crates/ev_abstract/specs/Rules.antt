-- The acceptance rules of an image but the last, in their order. Own.
-- A rule's refusal names the first failing body and item, in order of document.
use Rattle.std.specs.Prelude.{ℕ, zero, suc, Bool, true, false, not, ◌&&◌, ◌||◌, nat_lt, nat_le, ◌==◌, if◌then◌else◌, List, [], ◌∷◌, ◌++◌, length, take, drop, Option, Some, None, slice_get, is_some, is_none, filter, flat_map, map, find}
use Rattle.std.specs.Bool.{beq}
use Rattle.std.specs.List.{list_any}
use Rattle.ev_body.specs.declared.key.Key.{Key}
use Rattle.ev_body.specs.declared.key.Side.{Side}
use Rattle.ev_body.specs.declared.item.Item.{Item}
use Rattle.ev_body.specs.declared.body.Part.{Part}
use Rattle.ev_body.specs.declared.body.Body.{Body}
use Rattle.ev_body.specs.declared.image.Image.{Image}
use Rattle.ev_body.specs.declared.key.Side.TheVariants.{User, Kernel}
use Rattle.ev_body.specs.Bodies.{key_number, covers, body_items, first_body, filled_keys}
use Rattle.ev_body.specs.declared.key.Key.TheVariants.{Nmi, Bp, Pf, Irq}
use Rattle.ev_body.specs.declared.item.Item.TheVariants.{Alu, Jcc, Goto, Slot, Put, Cell, SetCell, AddCell, SwapCell, GetReg, SetReg, SetRip, Resched, Sti, Cli, Eoi, Send, Call, Kick, Wait, Take, Finish, Ret}
use Rattle.ev_abstract.specs.Chain.{has_item, is_breakpoint, is_user_access, is_sti, is_nmi}
use Rattle.ev_abstract.specs.declared.refusal.Refusal.{Refusal}
use Rattle.ev_abstract.specs.declared.refusal.Refusal.TheVariants.{MissingBody, SlotRule, RegisterRule, FlagRule, IfRule, EoiRule, FaultRule, NmiRule, CallRule}

-- ---- places

-- whether some item, from number i on, passes the test, which is given its number too; and the number of the first one
abbrev pub first_item_from : ℕ → (ℕ → Item → Bool) → List Item → Option ℕ
first_item_from i test [] = None
first_item_from i test (item ∷ items) = if test i item then Some i else first_item_from (suc i) test items

-- whether some item passes the test
abbrev pub some_item : (ℕ → Item → Bool) → List Item → Bool
some_item test items = is_some (first_item_from 0 test items)

-- the refusal at the first body, from number n on, at which the rule finds a failing item
abbrev pub refusal_at : (ℕ → ℕ → Refusal) → ℕ → Option ℕ → Option Refusal → Option Refusal
refusal_at name n None rest = rest
refusal_at name n (Some i) rest = Some (name n i)

-- the refusal of the first body, from number n on, in which the rule finds a failing item
abbrev pub first_refused : (ℕ → ℕ → Refusal) → (ℕ → Body → Option ℕ) → ℕ → List Body → Option Refusal
first_refused name fails n [] = None
first_refused name fails n (b ∷ bs) = refusal_at name n (fails n b) (first_refused name fails (suc n) bs)

-- the same for a rule that is a test of each item: it is given the body, the item's number and the item
abbrev pub by_items : (ℕ → ℕ → Refusal) → (Body → ℕ → Item → Bool) → Image → Option Refusal
by_items name fails image = first_refused name (λ n b. first_item_from 0 (fails b) (body_items b)) 0 image.bodies

-- ---- words on bodies and items

-- the key of an interrupt
unfoldable pub is_irq : Key → Bool
is_irq (Irq v) = true
is_irq _ = false

-- inner bodies: those of key nmi, and those of key bp or pf with the kernel side
unfoldable pub is_inner_key : Key → Side → Bool
is_inner_key Nmi side = true
is_inner_key Bp side = covers side Kernel
is_inner_key Pf side = covers side Kernel
is_inner_key _ side = false

-- the same of a body
abbrev pub is_inner : Body → Bool
is_inner b = is_inner_key b.key b.side

-- whether item number i stands in a function part
abbrev pub in_function : Body → ℕ → Bool
in_function b i = nat_le (length b.items) i

-- the item that a jump leads to
unfoldable pub jump_target : Item → Option ℕ
jump_target (Jcc cond n) = Some n
jump_target (Goto n) = Some n
jump_target _ = None

-- whether the item is a jump to an item that passes the test
abbrev pub leads_to : Item → (ℕ → Bool) → Bool
leads_to item test = passes (jump_target item)
  where
    passes : Option ℕ → Bool
    passes None = false
    passes (Some n) = test n

-- whether some jump of the body leads to item i
abbrev pub is_target : Body → ℕ → Bool
is_target b i = list_any (λ item. leads_to item (λ n. n == i)) (body_items b)

-- the item before number i
abbrev pub item_before : Body → ℕ → Option Item
item_before b zero = None
item_before b (suc i) = slice_get (body_items b) i

-- IF after an item, and at item number i, along the items from off at the start
unfoldable pub if_after : Bool → Item → Bool
if_after on Sti = true
if_after on Cli = false
if_after on _ = on

-- IF behind these items
abbrev pub if_along : Bool → List Item → Bool
if_along on [] = on
if_along on (item ∷ items) = if_along (if_after on item) items

-- IF at item i of a body, whose main part begins with IF off
abbrev pub if_at : Body → ℕ → Bool
if_at b i = if_along false (take i (body_items b))

-- ---- 1 MissingBody

-- whether an item sends the key: `send` says which, and `kick` sends that of cross calls
unfoldable pub sends : Key → Item → Bool
sends key (Send to k) = key_number k == key_number key
sends key (Kick to s) = key_number key == 0xfb
sends key _ = false

-- whether some body has the key, or some item sends it
abbrev pub is_used : Image → Key → Bool
is_used image key = list_any (λ (b : Body). (key_number b.key == key_number key) || has_item (sends key) b) image.bodies

-- whether some body has an item that passes the test
abbrev pub some_body_has : Image → (Item → Bool) → Bool
some_body_has image test = list_any (has_item test) image.bodies

-- a key that can come to user code and to the kernel needs a body of each side
abbrev pub both_sides : Key → List (Key × Side)
both_sides key = (key, User) ∷ (key, Kernel) ∷ []

-- the interrupt keys from a vector on, so many
abbrev pub irq_keys : ℕ → ℕ → List Key
irq_keys v zero = []
irq_keys v (suc n) = Irq v ∷ irq_keys (suc v) n

-- the sides of keys that must have a body, in order
abbrev pub required : Image → List (Key × Side)
required image =
    map (λ key. (key, User)) filled_keys
    ++ (if some_body_has image is_breakpoint then (Bp, Kernel) ∷ [] else [])
    ++ (if some_body_has image is_user_access then (Pf, Kernel) ∷ [] else [])
    ++ (if is_used image Nmi then both_sides Nmi else [])
    ++ flat_map both_sides (filter (is_used image) (irq_keys 0x20 0xe0))

-- whether no body serves the key on that side
abbrev pub missing : Image → Key × Side → Bool
missing image r = is_none (first_body 0 image.bodies (key_number r.0) r.1)

-- a missing body is refused by its key and side
abbrev pub missing_refusal : Option (Key × Side) → Option Refusal
missing_refusal None = None
missing_refusal (Some r) = Some (MissingBody r.0 r.1)

-- Each event that can come has a body: those of user code by their keys, those that items raise, and those that some body serves or some item sends.
unfoldable pub missing_body : Image → Option Refusal
missing_body image = missing_refusal (find (missing image) (required image))

-- ---- 2 SlotRule: slots below 64, cells below 256, sites and functions below 8, processors below the declared number

-- the item names something that is not there, with so many processors
unfoldable pub breaks_slots : ℕ → Item → Bool
breaks_slots n (Slot d k) = not (nat_lt k 64)
breaks_slots n (Put k s) = not (nat_lt k 64)
breaks_slots n (Cell d k) = not (nat_lt k 256)
breaks_slots n (SetCell k s) = not (nat_lt k 256)
breaks_slots n (AddCell k d) = not (nat_lt k 256)
breaks_slots n (SwapCell k d) = not (nat_lt k 256)
breaks_slots n (Send to key) = not (nat_lt to n)
breaks_slots n (Call site to func s) = not (nat_lt site 8 && nat_lt to n && nat_lt func 8)
breaks_slots n (Kick to s) = not (nat_lt to n)
breaks_slots n (Wait site) = not (nat_lt site 8)
breaks_slots n _ = false

-- Slots, cells, call sites, functions and processors that items name are there.
abbrev pub slot_rule : Image → Option Refusal
slot_rule image = by_items SlotRule (λ b i item. breaks_slots image.processors item) image

-- ---- 3 RegisterRule: the task's registers are for bodies of side user and not of key nmi, and rsp stays

-- a body that stands on a task alone
abbrev pub may_reach_task : Body → Bool
may_reach_task b = not (covers b.side Kernel) && not (is_nmi b.key)

-- the item reads or writes the registers of the task in a body that need not stand on it, or writes rsp
unfoldable pub breaks_registers : Body → Item → Bool
breaks_registers b (GetReg d r) = not (may_reach_task b)
breaks_registers b (SetReg r s) = not (may_reach_task b) || (r == 4)
breaks_registers b (SetRip a) = not (may_reach_task b)
breaks_registers b _ = false

-- Only a body that stands on a task reads and writes its registers, and none writes rsp.
abbrev pub register_rule : Image → Option Refusal
register_rule image = by_items RegisterRule (λ b i item. breaks_registers b item) image

-- ---- 4 FlagRule: a conditional jump stands directly behind an arithmetic item or another one, and no jump leads to it

-- whether the flags behind the item before are known
unfoldable pub leaves_flags : Option Item → Bool
leaves_flags (Some (Alu op d s)) = true
leaves_flags (Some (Jcc cond n)) = true
leaves_flags _ = false

-- a conditional jump at which the flags need not be known
unfoldable pub breaks_flags : Body → ℕ → Item → Bool
breaks_flags b i (Jcc cond n) = not (leaves_flags (item_before b i)) || is_target b i
breaks_flags b i _ = false

-- At a conditional jump the flags are those of an arithmetic item, along each way there.
abbrev pub flag_rule : Image → Option Refusal
flag_rule image = by_items FlagRule breaks_flags image

-- ---- 5 IfRule

-- the item sets IF where it is on, clears it where it is off, does so where it may not, returns with IF on, or jumps to a place with another IF
unfoldable pub breaks_if : Body → ℕ → Item → Bool
breaks_if b i Sti = is_inner b || in_function b i || if_at b i
breaks_if b i Cli = is_inner b || in_function b i || not (if_at b i)
breaks_if b i Ret = if_at b i
breaks_if b i (Jcc cond n) = not (beq (if_at b i) (if_at b n))
breaks_if b i (Goto n) = not (beq (if_at b i) (if_at b n))
breaks_if b i _ = false

-- Each place of a body has one IF; inner bodies and functions never change it, and each body returns with IF off.
abbrev pub if_rule : Image → Option Refusal
if_rule image = by_items IfRule breaks_if image

-- ---- 6 EoiRule

-- the end of an interrupt
unfoldable pub is_eoi : Item → Bool
is_eoi Eoi = true
is_eoi _ = false

-- whether some jump leads from before item e to behind it, or from behind it to it or before it
abbrev pub is_crossed : Body → ℕ → Bool
is_crossed b e = some_item (λ j item. leads_to item (λ n. (nat_lt j e && nat_lt e n) || (nat_lt e j && nat_le n e))) (body_items b)

-- whether the `eoi` at i is not the one of the main part of an interrupt's body, or stands wrongly there
abbrev pub is_bad_eoi : Body → ℕ → Bool
is_bad_eoi b i = not (is_irq b.key) || in_function b i || list_any is_eoi (take i b.items) || if_at b i || list_any is_sti (drop i b.items) || is_crossed b i

-- an `eoi` that stands wrongly
unfoldable pub breaks_eoi : Body → ℕ → Item → Bool
breaks_eoi b i Eoi = is_bad_eoi b i
breaks_eoi b i _ = false

-- item 0 where no item fails, and the body does
abbrev pub or_first : Option ℕ → Bool → Option ℕ
or_first None b = if b then Some 0 else None
or_first (Some i) b = Some i

-- the first `eoi` that stands wrongly, or item 0 where the main part of an interrupt's body has none
abbrev pub failing_eoi : Body → Option ℕ
failing_eoi b = or_first (first_item_from 0 (breaks_eoi b) (body_items b)) (is_irq b.key && not (list_any is_eoi b.items))

-- The body of an interrupt ends it once on each way, with IF off, and no `sti` stands behind the end.
abbrev pub eoi_rule : Image → Option Refusal
eoi_rule image = first_refused EoiRule (λ n b. failing_eoi b) 0 image.bodies

-- ---- 7 FaultRule

-- the item raises what its own body of the kernel side serves, or of which that body may stand on itself
unfoldable pub breaks_faults : Key → Side → Item → Bool
breaks_faults Bp side item = covers side Kernel && is_breakpoint item
breaks_faults Pf side item = covers side Kernel && (is_breakpoint item || is_user_access item)
breaks_faults _ side item = false

-- Bodies of breakpoints and page faults of the kernel raise no such event again, so that they end.
abbrev pub fault_rule : Image → Option Refusal
fault_rule image = by_items FaultRule (λ b i item. breaks_faults b.key b.side item) image

-- ---- 8 NmiRule

-- the items of reschedules and of cross calls
unfoldable pub is_for_outer : Item → Bool
is_for_outer Resched = true
is_for_outer (Call site to func s) = true
is_for_outer (Kick to s) = true
is_for_outer (Wait site) = true
is_for_outer Take = true
is_for_outer Finish = true
is_for_outer _ = false

-- Inner bodies, which can stand in the middle of any other, reschedule nothing, and make and serve no calls.
abbrev pub nmi_rule : Image → Option Refusal
nmi_rule image = by_items NmiRule (λ b i item. is_inner b && is_for_outer item) image

-- ---- 9 CallRule

-- whether the item is the `kick` of this target and local
unfoldable pub is_kick_of : ℕ → ℕ → Option Item → Bool
is_kick_of to s (Some (Kick to' s')) = (to == to') && (s == s')
is_kick_of to s _ = false

-- whether the item is the `call` to this target whose answer is in this local
unfoldable pub is_call_for : ℕ → ℕ → Option Item → Bool
is_call_for to s (Some (Call site to' func s')) = (to == to') && (s == s')
is_call_for to s _ = false

-- whether the item is a `call` of this site
unfoldable pub is_call_at : ℕ → Item → Bool
is_call_at site (Call site' to func s) = site == site'
is_call_at site _ = false

-- the item that takes the calls of the queue
unfoldable pub is_take : Item → Bool
is_take Take = true
is_take _ = false

-- the body that takes calls
abbrev pub is_call_handler : Body → Bool
is_call_handler b = key_number b.key == 0xfb

-- whether a function is declared
abbrev pub is_function : Image → ℕ → Bool
is_function image func = list_any (λ (b : Body). is_call_handler b && list_any (λ (part : Part). part.func == func) b.parts) image.bodies

-- The item breaks the rule in the body of number n. A `kick` that is a jump's target fails itself.
unfoldable pub breaks_calls : Image → ℕ → Body → ℕ → Item → Bool
breaks_calls image n b i (Call site to func s) =
    not (is_kick_of to s (slice_get (body_items b) (suc i))) || list_any (has_item (is_call_at site)) (take n image.bodies) || not (is_function image func)
breaks_calls image n b i (Kick to s) = not (is_call_for to s (item_before b i)) || is_target b i
breaks_calls image n b i (Wait site) = not (has_item (is_call_at site) b)
breaks_calls image n b i Take = not (is_call_handler b) || in_function b i || list_any is_take (take i b.items)
breaks_calls image n b i _ = false

-- item 0 where the body that takes calls has no `take` or isn't of both sides, else the first item that breaks the rule
abbrev pub failing_call : Image → ℕ → Body → Option ℕ
failing_call image n b =
    if is_call_handler b && (not (list_any is_take b.items) || not (covers b.side User && covers b.side Kernel)) then Some 0
    else first_item_from 0 (breaks_calls image n b) (body_items b)

-- The calls of a site stand in one body, each directly before its `kick`; `wait` is for a site of its own body; one body takes calls, once.
abbrev pub call_rule : Image → Option Refusal
call_rule image = first_refused CallRule (failing_call image) 0 image.bodies

-- ---- the first that fails

-- the first refusal, in order
abbrev pub first_some : List (Option Refusal) → Option Refusal
first_some [] = None
first_some (None ∷ rs) = first_some rs
first_some (Some r ∷ rs) = Some r

-- The refusal by the first rule that the image breaks, of all but DeepNesting.
unfoldable pub rules : Image → Option Refusal
rules image = first_some (missing_body image ∷ slot_rule image ∷ register_rule image ∷ flag_rule image ∷ if_rule image ∷ eoi_rule image ∷ fault_rule image
    ∷ nmi_rule image ∷ call_rule image ∷ [])
