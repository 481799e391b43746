-- The bytes of statements at an address, or the first statement that stands in the way. Own.
use Rattle.std.specs.Prelude.{ℕ, suc, ◌+◌, ◌-◌, Bool, true, false, not, nat_lt, List, [], ◌∷◌, ◌++◌, Option, Some, None, Result, Ok, Err}
use Rattle.std.specs.List.{list_any, list_all}
use Rattle.ev_isa.specs.Instruction.{is_instruction}
use Rattle.ev_asm.specs.declared.statement.Stmt.{Stmt}
use Rattle.ev_asm.specs.declared.statement.Stmt.TheVariants.{Label, Plain, Jump}
use Rattle.ev_asm.specs.declared.text.Text.{Text}
use Rattle.ev_asm.specs.declared.fault.AsmFault.{AsmFault}
use Rattle.ev_asm.specs.declared.fault.AsmFault.TheVariants.{DoubleLabel, NoLabel, TooLarge}
use Rattle.ev_asm.specs.Assembly.{Name, is_name, size, places, code}

-- the labels that statements give
abbrev pub stmt_labels : List Stmt → List Name
stmt_labels [] = []
stmt_labels (Label name ∷ ss) = name ∷ stmt_labels ss
stmt_labels (s ∷ ss) = stmt_labels ss

abbrev pub is_new_name : List Name → Name → Bool
is_new_name names name = not (list_any (λ n. is_name n name) names)

-- whether a statement gives a label for the second time
unfoldable pub is_second_label : List Stmt → Stmt → Bool
is_second_label before (Label name) = not (is_new_name (stmt_labels before) name)
is_second_label before s = false

-- whether a statement's instruction is one of the project: a shift counts 1 to 63
unfoldable pub is_encoded : Stmt → Bool
is_encoded (Plain i) = is_instruction i
is_encoded s = true

abbrev pub are_instructions : List Stmt → Bool
are_instructions ss = list_all is_encoded ss

-- the number of the first statement at which the test holds of the statements before it and itself
unfoldable pub first_at : (List Stmt → Stmt → Bool) → ℕ → List Stmt → List Stmt → Option ℕ
first_at test n before [] = None
first_at test n before (s ∷ ss) = elim (test before s) [
  | true ↦ Some n
  | false ↦ first_at test (suc n) (before ++ s ∷ []) ss
]

-- a jump to a label that isn't there
unfoldable pub leads_nowhere : List Name → Stmt → Bool
leads_nowhere names (Jump c name) = is_new_name names name
leads_nowhere names s = false

-- the number of the first statement that doesn't fit into what is left
unfoldable pub first_too_large : ℕ → ℕ → List Stmt → Option ℕ
first_too_large n left [] = None
first_too_large n left (s ∷ ss) = elim (nat_lt left (size s)) [
  | true ↦ Some n
  | false ↦ first_too_large (suc n) (left - size s) ss
]

-- the address of each statement's first byte, and for a label of what follows it
unfoldable pub addresses_of : ℕ → List Stmt → List ℕ
addresses_of a [] = []
addresses_of a (s ∷ ss) = a ∷ addresses_of (a + size s) ss

-- what the statements are at an address, where nothing stands in the way
abbrev pub text_of : ℕ → List Stmt → Text
text_of base stmts = record { base = base; bytes = code (places base stmts) base stmts; places = addresses_of base stmts }

-- in the order of the faults, each over the whole list
unfoldable pub assembled : List Stmt → (base limit : ℕ) → Result Text AsmFault
assembled stmts base limit = elim (first_at is_second_label 0 [] stmts) [
  | Some n ↦ Err (DoubleLabel n)
  | None ↦ elim (first_at (λ before s. leads_nowhere (stmt_labels stmts) s) 0 [] stmts) [
    | Some n ↦ Err (NoLabel n)
    | None ↦ elim (first_too_large 0 limit stmts) [
      | Some n ↦ Err (TooLarge n)
      | None ↦ Ok (text_of base stmts)
    ]
  ]
]
