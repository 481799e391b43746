-- Lines before the text keep what stands there.
use Rattle.std.proofs.Common.{◌≡◌, ℕ, ◌≤◌, true, false, ◌&&◌, [], ◌∷◌, ◌++◌, Ok, refl, ap, ◌∙◌, subst, arith}
use Rattle.std.specs.Prelude.{nat_lt}
use Rattle.std.proofs.lemmas.Bool.{and_from}
use Rattle.std.proofs.lemmas.List.{map-append}
use Rattle.ev_body.specs.WellFormed.{is_word, are_distinct}
use Rattle.ev_line.specs.Operands.{among}
use Rattle.ev_image.specs.declared.head.Head.{Head}
use Rattle.ev_image.specs.declared.kernel.Start.{Start}
use Rattle.ev_image.specs.declared.lines.StartLine.{StartLine}
use Rattle.ev_image.specs.Head.{nothing_given, start_does}
use Rattle.ev_image.specs.Sections.{taken_cells}
use Rattle.ev_image.proofs.Kept.{IsStart, IsHead}
use Rattle.ev_image.proofs.Lists.{less, all_more, distinct_more}
use Rattle.ev_image.proofs.Told.{ToldStart}

pub start_begins : (p n : ℕ) → (1 ≤ p) × (p ≤ 8) → (1 ≤ n) × (n ≤ 32) → IsStart (nothing_given p n)
start_begins p n g h = record { count = (g.0, g.1, h.0, h.1); pages_fit = refl; pages_once = refl; cells_fit = refl; cells_once = refl }

below_256 : (i : ℕ) → i ≤ 255 → nat_lt i 256 ≡ true
below_256 i h = less i 256 (omega arith)

page_kept : (s : Start) (i : ℕ) → IsStart s → (i ≤ 255) × (among s.pages i ≡ false) → IsStart (record s { pages = s.pages ++ i ∷ [] })
page_kept s i g t = record {
  count = g.count;
  pages_fit = all_more (λ k. nat_lt k 256) s.pages i g.pages_fit (below_256 i t.0);
  pages_once = distinct_more s.pages i g.pages_once t.1;
  cells_fit = g.cells_fit;
  cells_once = g.cells_once;
}

cell_kept : (s : Start) (k n : ℕ) → IsStart s → (k ≤ 255) × (among (taken_cells s) k ≡ false) × (is_word n ≡ true)
    → IsStart (record s { cells = s.cells ++ (k, n) ∷ [] })
cell_kept s k n g t = record {
  count = g.count;
  pages_fit = g.pages_fit;
  pages_once = g.pages_once;
  cells_fit = all_more (λ (e : ℕ × ℕ). nat_lt e.0 256 && is_word e.1) s.cells (k, n) g.cells_fit
      (and_from (nat_lt k 256) (is_word n) (below_256 k t.0) t.2);
  cells_once = ap are_distinct (map-append (λ (e : ℕ × ℕ). e.0) s.cells ((k, n) ∷ [])) ∙ distinct_more (taken_cells s) k g.cells_once t.1;
}

pub start_kept : (s : Start) (l : StartLine) (next : Head) → IsStart s → ToldStart s l → start_does s l ≡ Ok next → IsHead next
start_kept s (StartLine.Page i) next g t h =
    let k : Head.Start (record s { pages = s.pages ++ i ∷ [] }) ≡ next = cc in
    subst IsHead k (page_kept s i g t)
start_kept s (StartLine.Cell i n) next g t h =
    let k : Head.Start (record s { cells = s.cells ++ (i, n) ∷ [] }) ≡ next = cc in
    subst IsHead k (cell_kept s i n g t)
start_kept s StartLine.Text next g t h = let k : Head.Text s [] ≡ next = cc in subst IsHead k (g, tt)
