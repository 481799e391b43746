-- What the code searches by a rule's name is the rule's definition; the first refusal through lists of rules.
use Rattle.std.proofs.Common.{◌≡◌, refl, sym, ◌∙◌, ap, ℕ, suc, false, List, [], ◌∷◌, ◌++◌, Option, Some, None, map}
use Rattle.ev_body.specs.declared.body.Body.{Body}
use Rattle.ev_body.specs.declared.image.Image.{Image}
use Rattle.ev_abstract.specs.Rules.{first_refused, refusal_at, or_first, first_some, rules, missing_body, slot_rule, register_rule, flag_rule, if_rule, eoi_rule, fault_rule, nmi_rule, call_rule}
use Rattle.ev_abstract.specs.declared.refusal.Refusal.{Refusal}
use Rattle.ev_abstract.specs.declared.refusal.Refusal.TheVariants.{SlotRule, RegisterRule, FlagRule, IfRule, FaultRule, NmiRule}
use Rattle.ev_accept.specs.Checks.{item_by, refusal_by}
use Rattle.ev_accept.specs.declared.checks.Rule.{Rule}
use Rattle.ev_accept.specs.declared.checks.Rule.TheVariants.{Slots, Registers, Flags, Interrupts, Eois, Faults, Nmis}

or_none : (o : Option ℕ) → or_first o false ≡ o
or_none None = refl
or_none (Some i) = refl

-- a rule of items alone
by_item : (name : ℕ → ℕ → Refusal) (f : Body → Option ℕ) (n : ℕ) (bs : List Body)
    → first_refused name (λ k b. or_first (f b) false) n bs ≡ first_refused name (λ k b. f b) n bs
by_item name f n [] = refl
by_item name f n (b ∷ bs) =
    ap (λ (o : Option ℕ). refusal_at name n o (first_refused name (λ k c. or_first (f c) false) (suc n) bs)) (or_none (f b))
    ∙ ap (refusal_at name n (f b)) (by_item name f (suc n) bs)

-- the definition that a rule names
abbrev pub rule_of : Rule → Image → Option Refusal
rule_of Slots image = slot_rule image
rule_of Registers image = register_rule image
rule_of Flags image = flag_rule image
rule_of Interrupts image = if_rule image
rule_of Eois image = eoi_rule image
rule_of Faults image = fault_rule image
rule_of Nmis image = nmi_rule image

names : (rule : Rule) (image : Image) → refusal_by rule image ≡ rule_of rule image
names Slots image = by_item SlotRule (item_by Slots image.processors) 0 image.bodies
names Registers image = by_item RegisterRule (item_by Registers image.processors) 0 image.bodies
names Flags image = by_item FlagRule (item_by Flags image.processors) 0 image.bodies
names Interrupts image = by_item IfRule (item_by Interrupts image.processors) 0 image.bodies
names Eois image = refl
names Faults image = by_item FaultRule (item_by Faults image.processors) 0 image.bodies
names Nmis image = by_item NmiRule (item_by Nmis image.processors) 0 image.bodies

-- the rules that test items, in their order
abbrev pub in_order : List Rule
in_order = Slots ∷ Registers ∷ Flags ∷ Interrupts ∷ Eois ∷ Faults ∷ Nmis ∷ []

all_named : (image : Image) (rs : List Rule) → map (λ rule. refusal_by rule image) rs ≡ map (λ rule. rule_of rule image) rs
all_named image [] = refl
all_named image (rule ∷ rs) =
    ap (λ o. o ∷ map (λ r. refusal_by r image) rs) (names rule image) ∙ ap (λ os. rule_of rule image ∷ os) (all_named image rs)

-- ---- the first refusal

found_in_front : (os rest : List (Option Refusal)) (r : Refusal) → first_some os ≡ Some r → first_some (os ++ rest) ≡ Some r
found_in_front [] rest r e = absurd (cc)
found_in_front (None ∷ os) rest r e = found_in_front os rest r e
found_in_front (Some s ∷ os) rest r e = e

found_behind : (os rest : List (Option Refusal)) → first_some os ≡ None → first_some (os ++ rest) ≡ first_some rest
found_behind [] rest e = refl
found_behind (None ∷ os) rest e = found_behind os rest e
found_behind (Some s ∷ os) rest e = absurd (cc)

last_alone : (o : Option Refusal) → first_some (o ∷ []) ≡ o
last_alone None = refl
last_alone (Some r) = refl

-- the answers of the rules that test items
abbrev pub item_answers : Image → List (Option Refusal)
item_answers image = map (λ rule. refusal_by rule image) in_order

-- the rule of missing bodies, those that test items and the rule of calls, in this order
rules_are : (image : Image) → rules image ≡ first_some (missing_body image ∷ (item_answers image ++ call_rule image ∷ []))
unfolding rules
rules_are image = ap (λ os. first_some (missing_body image ∷ (os ++ call_rule image ∷ []))) (sym (all_named image in_order))

pub by_missing : (image : Image) (r : Refusal) → missing_body image ≡ Some r → rules image ≡ Some r
by_missing image r e = rules_are image ∙ ap (λ o. first_some (o ∷ (item_answers image ++ call_rule image ∷ []))) e

past_missing : (image : Image) → missing_body image ≡ None → rules image ≡ first_some (item_answers image ++ call_rule image ∷ [])
past_missing image e = rules_are image ∙ ap (λ o. first_some (o ∷ (item_answers image ++ call_rule image ∷ []))) e

pub by_items_of : (image : Image) (r : Refusal) → missing_body image ≡ None → first_some (item_answers image) ≡ Some r → rules image ≡ Some r
by_items_of image r e h = past_missing image e ∙ found_in_front (item_answers image) (call_rule image ∷ []) r h

pub by_calls : (image : Image) → missing_body image ≡ None → first_some (item_answers image) ≡ None → rules image ≡ call_rule image
by_calls image e h = past_missing image e ∙ found_behind (item_answers image) (call_rule image ∷ []) h ∙ last_alone (call_rule image)
