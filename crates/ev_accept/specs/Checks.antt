-- The rules that test each item, by their names. Own.
use Rattle.std.specs.Prelude.{ℕ, Bool, false, not, ◌&&◌, ◌||◌, nat_lt, nat_le, Option}
use Rattle.std.specs.List.{list_any}
use Rattle.ev_body.specs.declared.item.Item.{Item}
use Rattle.ev_body.specs.declared.body.Body.{Body}
use Rattle.ev_body.specs.declared.image.Image.{Image}
use Rattle.ev_body.specs.Bodies.{body_items}
use Rattle.ev_abstract.specs.Rules.{first_item_from, first_refused, breaks_slots, breaks_registers, breaks_faults, breaks_flags, breaks_if, is_inner, is_for_outer, breaks_eoi, leads_to, is_irq, is_eoi, or_first}
use Rattle.ev_abstract.specs.declared.refusal.Refusal.{Refusal}
use Rattle.ev_abstract.specs.declared.refusal.Refusal.TheVariants.{SlotRule, RegisterRule, FaultRule, NmiRule, FlagRule, IfRule, EoiRule}
use Rattle.ev_accept.specs.declared.checks.Rule.{Rule}
use Rattle.ev_accept.specs.declared.checks.Rule.TheVariants.{Slots, Registers, Flags, Interrupts, Eois, Faults, Nmis}

-- whether an item, of number i, breaks the rule
abbrev pub breaks_by : Rule → ℕ → Body → ℕ → Item → Bool
breaks_by Slots processors b i item = breaks_slots processors item
breaks_by Registers processors b i item = breaks_registers b item
breaks_by Flags processors b i item = breaks_flags b i item
breaks_by Interrupts processors b i item = breaks_if b i item
breaks_by Eois processors b i item = breaks_eoi b i item
breaks_by Faults processors b i item = breaks_faults b.key b.side item
breaks_by Nmis processors b i item = is_inner b && is_for_outer item

-- the refusal by the rule, at a body and an item
abbrev pub name_of : Rule → ℕ → ℕ → Refusal
name_of Slots = SlotRule
name_of Registers = RegisterRule
name_of Flags = FlagRule
name_of Interrupts = IfRule
name_of Eois = EoiRule
name_of Faults = FaultRule
name_of Nmis = NmiRule

-- the first item of a body that breaks the rule
abbrev pub item_by : Rule → ℕ → Body → Option ℕ
item_by rule processors b = first_item_from 0 (breaks_by rule processors b) (body_items b)

-- whether the rule wants an `eoi` in the main part of an interrupt's body, and there is none
abbrev pub lacks_eoi : Rule → Body → Bool
lacks_eoi Eois b = is_irq b.key && not (list_any is_eoi b.items)
lacks_eoi _ b = false

-- the item at which a body fails: item 0 where an `eoi` is lacking
abbrev pub failing_by : Rule → ℕ → Body → Option ℕ
failing_by rule processors b = or_first (item_by rule processors b) (lacks_eoi rule b)

-- the refusal by the rule, at the first body that fails
abbrev pub refusal_by : Rule → Image → Option Refusal
refusal_by rule image = first_refused (name_of rule) (λ n b. failing_by rule image.processors b) 0 image.bodies

-- whether the item of number j is a jump that crosses item e
abbrev pub crosses : ℕ → ℕ → Item → Bool
crosses e j item = leads_to item (λ n. (nat_lt j e && nat_lt e n) || (nat_lt e j && nat_le n e))
