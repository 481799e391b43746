-- Labels with their places. Own.
use Rattle.std.specs.Prelude.{◌≡◌, ℕ, ◌+◌, ◌<◌, ◌^◌, Bool, true, false, List, [], ◌∷◌, Option, Some, None, is_some, map, option_map}
use Rattle.ev_asm.specs.declared.statement.Stmt.{Stmt}
use Rattle.ev_asm.specs.declared.statement.Stmt.TheVariants.{Label, Plain, Jump}
use Rattle.ev_asm.specs.declared.fault.AsmFault.{AsmFault}
use Rattle.ev_asm.specs.declared.fault.AsmFault.TheVariants.{DoubleLabel}
use Rattle.ev_asm.specs.Assembly.{Places, Name, is_name, total_size, places}
use Rattle.ev_asm.specs.Assembled.{stmt_labels, is_second_label, first_at}

-- the place of a name, if one of the labels has it
abbrev pub found : Places → Name → Option ℕ
found [] name = None
found (e ∷ es) name = elim (is_name e.0 name) [ true ↦ Some e.1 | false ↦ found es name ]

-- the names of labels
abbrev pub names_of : Places → List Name
names_of labels = map (λ (e : Name × ℕ). e.0) labels

-- whether a statement gives a label that stands among these
abbrev pub gives_again : Places → Stmt → Bool
gives_again labels (Label name) = is_some (found labels name)
gives_again labels (Plain i) = false
gives_again labels (Jump cond name) = false

-- the label that a statement gives at a place
abbrev pub label_given : ℕ → Stmt → Places
label_given place (Label name) = (name, place) ∷ []
label_given place (Plain i) = []
label_given place (Jump cond name) = []

-- two tables of labels find the same places, whatever the name
pub record FindAlike (labels others : Places) : Type 0 where
  pub at : (name : Name) → found labels name ≡ found others name

-- the labels are those of the statements, with their places if the statements end below 2^64
pub record AreLabels (base : ℕ) (stmts : List Stmt) (labels : Places) : Type 0 where
  pub names : names_of labels ≡ stmt_labels stmts
  pub placed : base + total_size stmts < 2 ^ 64 → labels ≡ places base stmts
  pub once : first_at is_second_label 0 [] stmts ≡ None

-- the fault of the first statement that gives a label again, if there is one
abbrev pub second_fault : List Stmt → Option AsmFault
second_fault stmts = option_map DoubleLabel (first_at is_second_label 0 [] stmts)
