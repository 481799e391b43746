-- What the lines of each section say lies in range.
use Rattle.std.proofs.Common.{◌≡◌, ℕ, ◌<◌, ◌≤◌, Bool, true, false, List, [], ◌∷◌, Option, Some, None, Ok, refl, arith}
use Rattle.std.specs.Prelude.{◌==◌, codes}
use Rattle.std.specs.Str.{bytes_eq}
use Rattle.ev_body.specs.Bodies.{key_number}
use Rattle.ev_body.specs.WellFormed.{is_key, is_word}
use Rattle.ev_body.specs.declared.key.Key.{Key}
use Rattle.ev_io.specs.Tokens.{Token}
use Rattle.ev_asm.specs.Assembly.{Places, place}
use Rattle.ev_line.specs.Operands.{Within, among, has_label}
use Rattle.ev_line.specs.Forms.{Form, form, read_by}
use Rattle.ev_text.specs.Words.{named_in}
use Rattle.ev_text.proofs.Gives.{AllGive, forms_give}
use Rattle.ev_image.specs.Sections.{forms_in, processors_forms, nest_forms, start_forms, taken_cells, page_forms, cell_forms, new_task_forms, register_forms, body_forms, task_forms, between_forms, filled_forms, function_forms, behind_forms}
use Rattle.ev_image.specs.declared.kernel.Start.{Start}
use Rattle.ev_image.specs.declared.kernel.Kernel.{Kernel}
use Rattle.ev_image.specs.declared.kernel.TaskLine.{TaskLine}
use Rattle.ev_image.specs.declared.lines.StartLine.{StartLine}
use Rattle.ev_image.specs.declared.lines.KernelLine.{KernelLine}
use Rattle.ev_image.specs.declared.lines.PartEnd.{PartEnd}

-- each word's forms give values with a property
abbrev AllRows : {X : Type 0} → (P : X → Type 0) → List (Token × List (Form X)) → Type 0
AllRows P [] = Unit {0}
AllRows P (e ∷ es) = AllGive P e.1 × AllRows P es

named_give : {X : Type 0} → (P : X → Type 0) (table : List (Token × List (Form X))) (w : Token) → AllRows P table → AllGive P (forms_in table w)
named_give P [] w g = tt
named_give {X} P (e ∷ es) w g = by (bytes_eq w e.0) (named_give P es w g.1)
  where
    by : (b : Bool) → AllGive P (forms_in es w)
        → AllGive P (let o : Option (List (Form X)) = elim b [ true ↦ Some e.1 | false ↦ named_in es w ] in elim o [ None ↦ [] | Some forms ↦ forms ])
    by true h = g.0
    by false h = h

-- a line that is read has what the forms of each word give
pub line_gives : {X : Type 0} → (P : X → Type 0) (forms : Token → List (Form X)) (ts : List Token) (x : X) → ((w : Token) → AllGive P (forms w))
    → read_by forms ts ≡ Ok x → P x
unfolding read_by
line_gives P forms [] x g h = absurd cc
line_gives P forms (w ∷ ts) x g h = forms_give P (forms w) ts x (g w) h

-- ---- numbers before the text

pub processors_told : (ts : List Token) (n : ℕ) → read_by processors_forms ts ≡ Ok n → (1 ≤ n) × (n ≤ 8)
unfolding processors_forms
processors_told ts n h = line_gives (λ (k : ℕ). (1 ≤ k) × (k ≤ 8)) processors_forms ts n (λ w. named_give (λ (k : ℕ). (1 ≤ k) × (k ≤ 8))
    ((codes "processors", form (Within 1 8 ∷ []) (λ n. n) ∷ []) ∷ []) w ((λ v k. k, tt), tt)) h

pub nest_told : (ts : List Token) (n : ℕ) → read_by nest_forms ts ≡ Ok n → (1 ≤ n) × (n ≤ 32)
unfolding nest_forms
nest_told ts n h = line_gives (λ (k : ℕ). (1 ≤ k) × (k ≤ 32)) nest_forms ts n (λ w. named_give (λ (k : ℕ). (1 ≤ k) × (k ≤ 32))
    ((codes "nest", form (Within 1 32 ∷ []) (λ n. n) ∷ []) ∷ []) w ((λ v k. k, tt), tt)) h

-- ---- pages and cells

abbrev pub ToldStart : Start → StartLine → Type 0
ToldStart s (StartLine.Page i) = (i ≤ 255) × (among s.pages i ≡ false)
ToldStart s (StartLine.Cell k n) = (k ≤ 255) × (among (taken_cells s) k ≡ false) × (is_word n ≡ true)
ToldStart s StartLine.Text = Unit {0}

pub start_told : (s : Start) (ts : List Token) (l : StartLine) → read_by (start_forms s) ts ≡ Ok l → ToldStart s l
unfolding start_forms
start_told s ts l h = line_gives (ToldStart s) (start_forms s) ts l (λ w. named_give (ToldStart s)
    ((codes "page", page_forms s) ∷ (codes "cell", cell_forms s) ∷ (codes "text", form [] StartLine.Text ∷ []) ∷ []) w
    ((λ i k. k, tt), ((λ i k n g. (k.0, k.1, g), tt), ((tt, tt), tt)))) h

-- ---- tasks, and the lines between bodies

abbrev pub IsLabelled : Places → ℕ → Type 0
IsLabelled labels a = (name : Token) × (has_label labels name ≡ true) × (a ≡ place labels name)

abbrev pub ToldKernel : Kernel → KernelLine → Type 0
ToldKernel k (KernelLine.Task p start gs) = (p < k.start.processors) × IsLabelled k.text.labels start × (gs ≤ 0xffffffff)
ToldKernel k (KernelLine.Register r n) = (r < 16) × (is_word n ≡ true)
ToldKernel k (KernelLine.Body key side) = is_key key ≡ true
ToldKernel k KernelLine.Fill = Unit {0}
ToldKernel k KernelLine.Script = Unit {0}

registers_told : (k : Kernel) (o : Option TaskLine) → AllGive (ToldKernel k) (register_forms o)
registers_told k None = tt
registers_told k (Some t) = (λ r g n h. (g.0, h), tt)

pub task_told : (k : Kernel) (ts : List Token) (l : KernelLine) → read_by (task_forms k) ts ≡ Ok l → ToldKernel k l
unfolding task_forms
task_told k ts l h = line_gives (ToldKernel k) (task_forms k) ts l (λ w. named_give (ToldKernel k)
    ((codes "task", new_task_forms k) ∷ (codes "reg", register_forms k.last) ∷ (codes "body", body_forms) ∷ (codes "fill", form [] KernelLine.Fill ∷ [])
    ∷ (codes "script", form [] KernelLine.Script ∷ []) ∷ []) w
    ((λ p a start b gs c. (a, b, c.1), tt), (registers_told k k.last, ((λ key a side b. a, tt), ((tt, tt), ((tt, tt), tt)))))) h

pub between_told : (k : Kernel) (ts : List Token) (l : KernelLine) → read_by between_forms ts ≡ Ok l → ToldKernel k l
unfolding between_forms
between_told k ts l h = line_gives (ToldKernel k) between_forms ts l (λ w. named_give (ToldKernel k)
    ((codes "body", body_forms) ∷ (codes "fill", form [] KernelLine.Fill ∷ []) ∷ (codes "script", form [] KernelLine.Script ∷ []) ∷ []) w
    ((λ key a side b. a, tt), ((tt, tt), ((tt, tt), tt)))) h

pub filled_told : (k : Kernel) (ts : List Token) (l : KernelLine) → read_by filled_forms ts ≡ Ok l → ToldKernel k l
unfolding filled_forms
filled_told k ts l h = line_gives (ToldKernel k) filled_forms ts l (λ w. named_give (ToldKernel k)
    ((codes "script", form [] KernelLine.Script ∷ []) ∷ []) w ((tt, tt), tt)) h

-- ---- behind a part

abbrev pub ToldEnd : Key → PartEnd → Type 0
ToldEnd key PartEnd.Body = Unit {0}
ToldEnd key (PartEnd.Function f) = (f < 8) × ((key_number key == 0xfb) ≡ true)

function_told : (key : Key) (b : Bool) → (key_number key == 0xfb) ≡ b → AllGive (ToldEnd key) (function_forms b)
function_told key true e = (λ f k. (less f k.1, e), tt)
  where
    less : (f : ℕ) → f ≤ 7 → f < 8
    less f h = omega arith
function_told key false e = tt

pub end_told : (key : Key) (ts : List Token) (l : PartEnd) → read_by (behind_forms key) ts ≡ Ok l → ToldEnd key l
unfolding behind_forms
end_told key ts l h = line_gives (ToldEnd key) (behind_forms key) ts l (λ w. named_give (ToldEnd key)
    ((codes "endbody", form [] PartEnd.Body ∷ []) ∷ (codes "func", function_forms (key_number key == 0xfb)) ∷ []) w
    ((tt, tt), (function_told key (key_number key == 0xfb) refl, tt))) h
