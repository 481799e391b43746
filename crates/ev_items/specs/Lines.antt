-- What the lines of an item stand for. Own.
use Rattle.std.specs.Prelude.{◌≡◌, ◌<◌, ℕ, Bool, true, not, List, map, codes, get_or}
use Rattle.std.specs.List.{list_all}
use Rattle.ev_isa.specs.Instruction.{is_instruction}
use Rattle.ev_isa.specs.declared.mode.Mode.{Mode}
use Rattle.ev_body.specs.declared.key.Key.{Key}
use Rattle.ev_body.specs.declared.body.Body.{Body}
use Rattle.ev_body.specs.Bodies.{body_items}
use Rattle.ev_abstract.specs.Rules.{breaks_slots}
use Rattle.ev_asm.specs.declared.statement.Stmt.{Stmt}
use Rattle.ev_asm.specs.Assembly.{Name}
use Rattle.ev_listing.specs.Expansion.{item_label, own_label, taken_label, exit_of}
use Rattle.ev_listing.specs.Marks.{Marked, Never, Always, IfNonzero, IfEqual}
use Rattle.ev_listing.specs.Statements.{op, seen, label}
use Rattle.ev_items.specs.declared.line.OwnLabel.{OwnLabel}
use Rattle.ev_items.specs.declared.line.OwnLabel.TheVariants.{M1, K1, K2, W0, L1, L2, L3, T1, T3}
use Rattle.ev_items.specs.declared.line.Target.{Target}
use Rattle.ev_items.specs.declared.line.Target.TheVariants.{Item, Own, Taken, Exit}
use Rattle.ev_items.specs.declared.line.ItemLine.{ItemLine}
use Rattle.ev_items.specs.declared.line.ItemLine.TheVariants.{Label, Op, Seen, SeenNonzero, SeenEqual, Jump, SeenJump}

abbrev pub own_name : OwnLabel → Name
own_name M1 = codes "M1"
own_name K1 = codes "K1"
own_name K2 = codes "K2"
own_name W0 = codes "W0"
own_name L1 = codes "L1"
own_name L2 = codes "L2"
own_name L3 = codes "L3"
own_name T1 = codes "T1"
own_name T3 = codes "T3"

-- the name of a label of item n of body b, whose key is this one
abbrev pub name_of : Mode → ℕ → Key → ℕ → Target → Name
name_of mode b key n (Item i) = item_label b i
name_of mode b key n (Own l) = own_label b n (own_name l)
name_of mode b key n Taken = taken_label b
name_of mode b key n Exit = exit_of mode key

abbrev pub marked_of : Mode → ℕ → Key → ℕ → ItemLine → Marked
marked_of mode b key n (Label t) = label (name_of mode b key n t)
marked_of mode b key n (Op i) = op i
marked_of mode b key n (Seen i) = seen i
marked_of mode b key n (SeenNonzero i) = record { mark = IfNonzero; stmt = Stmt.Plain i }
marked_of mode b key n (SeenEqual i) = record { mark = IfEqual; stmt = Stmt.Plain i }
marked_of mode b key n (Jump c t) = record { mark = Never; stmt = Stmt.Jump c (name_of mode b key n t) }
marked_of mode b key n (SeenJump c t) = record { mark = Always; stmt = Stmt.Jump c (name_of mode b key n t) }

-- a shift counts 1 to 63
abbrev pub is_counted : ItemLine → Bool
is_counted (Op i) = is_instruction i
is_counted (Seen i) = is_instruction i
is_counted (SeenNonzero i) = is_instruction i
is_counted (SeenEqual i) = is_instruction i
is_counted _ = true

-- all of them
abbrev pub lines_of : Mode → ℕ → Key → ℕ → List ItemLine → List Marked
lines_of mode b key n ls = map (marked_of mode b key n) ls

-- the addresses of functions 0 to 7
abbrev pub AreAddresses : (ℕ → ℕ) → List ℕ → Type 0
AreAddresses function as' = (f : ℕ) → f < 8 → get_or as' f 0 ≡ function f

-- Slots, cells, sites, functions and processors in the body's items are below the bounds of SlotRule.
abbrev pub keeps_slots : ℕ → Body → Bool
keeps_slots processors b = list_all (λ item. not (breaks_slots processors item)) (body_items b)
