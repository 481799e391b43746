-- What the index of labels and the count of items of a part are. Own.
use Rattle.std.specs.Prelude.{◌≡◌, ℕ, ◌≤◌, ◌<◌, Bool, true, false, List, [], ◌∷◌, is_some}
use Rattle.ev_asm.specs.Assembly.{Places, Name, place}
use Rattle.ev_asm.specs.LabelTable.{found}
use Rattle.ev_part.specs.declared.line.BodyLine.{BodyLine}
use Rattle.ev_part.specs.declared.line.BodyLine.TheVariants.{Here, Does, Jumps}
use Rattle.ev_part.specs.PartItems.{PartView, labels_of, next_item}

-- the labels are those of the part, and the number that comes next is that of the next item
pub record IsPart (p : PartView) (labels : Places) (next : ℕ) : Type 0 where
  pub given : labels ≡ labels_of p
  pub count : next ≡ next_item p
  pub few : next ≤ 256

-- whether a line gives a label that stands among these
abbrev pub gives_again : Places → BodyLine → Bool
gives_again labels (Here name) = is_some (found labels name)
gives_again labels (Does i) = false
gives_again labels (Jumps cond name) = false

-- the label that a line gives at the number of the next item
abbrev pub label_given : ℕ → BodyLine → Places
label_given next (Here name) = (name, next) ∷ []
label_given next (Does i) = []
label_given next (Jumps cond name) = []

-- the numbers of labels are few
abbrev pub AreSmall : Places → Type 0
AreSmall labels = (name : Name) → place labels name ≤ 256
