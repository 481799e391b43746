-- The first six tokens of a line tell what it does: no form has more than four places.
use Rattle.std.proofs.Common.{◌≡◌, ℕ, Bool, true, false, List, [], ◌∷◌, take, Option, Some, None, Result, Ok, Err, refl, ap, ◌∙◌}
use Rattle.std.specs.List.{list_all}
use Rattle.std.specs.Str.{bytes_eq}
use Rattle.ev_body.specs.Bodies.{key_number}
use Rattle.ev_body.specs.declared.key.Key.{Key}
use Rattle.std.specs.Prelude.{◌==◌, codes}
use Rattle.ev_io.specs.declared.cause.Cause.{Cause}
use Rattle.ev_io.specs.Tokens.{Token}
use Rattle.ev_asm.specs.Assembly.{Places}
use Rattle.ev_asm.specs.declared.statement.Stmt.{Stmt}
use Rattle.ev_line.specs.Operands.{Within, then_make}
use Rattle.ev_line.specs.Forms.{Form, form, read_by}
use Rattle.ev_line.proofs.FormLaws.{is_within, first_six}
use Rattle.ev_line.proofs.NameLaws.{both}
use Rattle.ev_text.specs.declared.words.TextWord.{TextWord}
use Rattle.ev_text.specs.Words.{named_in, text_word}
use Rattle.ev_text.specs.TextForms.{text_forms, statement_forms}
use Rattle.ev_text.specs.UserText.{text_grown}
use Rattle.ev_part.specs.declared.line.BodyLine.{BodyLine}
use Rattle.ev_part.specs.declared.body.BodyLines.{BodyLines}
use Rattle.ev_part.specs.declared.words.ItemWord.{ItemWord}
use Rattle.ev_part.specs.ItemWords.{item_word}
use Rattle.ev_part.specs.ItemForms.{item_forms, part_forms}
use Rattle.ev_part.specs.PartItems.{is_ended}
use Rattle.ev_part.specs.BodyParts.{body_grown}
use Rattle.ev_image.specs.declared.head.Head.{Head}
use Rattle.ev_image.specs.declared.lines.StartLine.{StartLine}
use Rattle.ev_image.specs.declared.lines.KernelLine.{KernelLine}
use Rattle.ev_image.specs.declared.lines.PartEnd.{PartEnd}
use Rattle.ev_image.specs.declared.kernel.Start.{Start}
use Rattle.ev_image.specs.declared.kernel.Kernel.{Kernel}
use Rattle.ev_image.specs.declared.kernel.TaskLine.{TaskLine}
use Rattle.ev_image.specs.LabelLine.{label_name, label_said}
use Rattle.ev_image.specs.Sections.{forms_in, version_forms, processors_forms, nest_forms, page_forms, cell_forms, start_forms, end_forms, text_said, body_forms, register_forms, new_task_forms, task_forms, between_forms, filled_forms, part_said, function_forms, behind_forms}
use Rattle.ev_image.specs.Head.{and_then, nothing_given, start_does, text_does, kernel_does, part_end_does, is_main, body_follows, head_follows}

-- ---- forms have at most four places

abbrev AreFew : {X : Type 0} → List (Form X) → Type 0
AreFew forms = list_all (is_within 4) forms ≡ true

abbrev are_few : {X : Type 0} → Token × List (Form X) → Bool
are_few e = list_all (is_within 4) e.1

few_in : {X : Type 0} → (table : List (Token × List (Form X))) (w : Token) → list_all are_few table ≡ true → AreFew (forms_in table w)
few_in [] w h = refl
few_in {X} (e ∷ es) w h = let k = both (are_few e) (list_all are_few es) h in by (bytes_eq w e.0) k.0 (few_in es w k.1)
  where
    by : (b : Bool) → AreFew e.1 → AreFew (forms_in es w)
        → AreFew (let o : Option (List (Form X)) = elim b [ true ↦ Some e.1 | false ↦ named_in es w ] in elim o [ None ↦ [] | Some forms ↦ forms ])
    by true k more = k
    by false k more = more

text_few : (w : TextWord) → AreFew (text_forms w)
unfolding text_forms
text_few TextWord.Mov = refl
text_few TextWord.Push = refl
text_few TextWord.Pop = refl
text_few (TextWord.Alu op) = refl
text_few TextWord.Shl = refl
text_few TextWord.Shr = refl
text_few TextWord.Xchg = refl
text_few TextWord.CmpXchg = refl
text_few TextWord.Xadd = refl
text_few TextWord.Jmp = refl
text_few (TextWord.Jcc c) = refl
text_few TextWord.Int = refl
text_few (TextWord.Alone i) = refl

statement_few : (w : Token) → AreFew (statement_forms w)
unfolding statement_forms
statement_few w = by (text_word w)
  where
    by : (o : Option TextWord) → AreFew (elim o [ None ↦ [] | Some word ↦ text_forms word ])
    by None = refl
    by (Some word) = text_few word

item_few : (text : Places) (m : Bool) (w : ItemWord) → AreFew (item_forms text m w)
unfolding item_forms
item_few text m ItemWord.Set = refl
item_few text m ItemWord.Copy = refl
item_few text m (ItemWord.Alu op) = refl
item_few text m (ItemWord.Jump c) = refl
item_few text m ItemWord.Log = refl
item_few text m ItemWord.Cpu = refl
item_few text m ItemWord.Slot = refl
item_few text m ItemWord.Put = refl
item_few text m ItemWord.Cell = refl
item_few text m ItemWord.SetCell = refl
item_few text m ItemWord.AddCell = refl
item_few text m ItemWord.SwapCell = refl
item_few text m ItemWord.Uget = refl
item_few text m ItemWord.Uput = refl
item_few text m ItemWord.GetReg = refl
item_few text m ItemWord.SetReg = refl
item_few text m ItemWord.SetRip = refl
item_few text m ItemWord.Map = refl
item_few text m ItemWord.Unmap = refl
item_few text m ItemWord.Send = refl
item_few text m ItemWord.Call = refl
item_few text m ItemWord.Kick = refl
item_few text m ItemWord.Wait = refl
item_few text m (ItemWord.Alone i) = refl
item_few text true ItemWord.Ret = refl
item_few text false ItemWord.Ret = refl
item_few text true ItemWord.Finish = refl
item_few text false ItemWord.Finish = refl

part_few : (text : Places) (m : Bool) (w : Token) → AreFew (part_forms text m w)
unfolding part_forms
part_few text m w = by (item_word w)
  where
    by : (o : Option ItemWord) → AreFew (elim o [ None ↦ [] | Some word ↦ item_forms text m word ])
    by None = refl
    by (Some word) = item_few text m word

version_few : (w : Token) → AreFew (version_forms w)
unfolding version_forms
version_few w = few_in {X = ℕ} ((codes "image", form (Within 1 1 ∷ []) (λ n. n) ∷ []) ∷ []) w refl

processors_few : (w : Token) → AreFew (processors_forms w)
unfolding processors_forms
processors_few w = few_in {X = ℕ} ((codes "processors", form (Within 1 8 ∷ []) (λ n. n) ∷ []) ∷ []) w refl

nest_few : (w : Token) → AreFew (nest_forms w)
unfolding nest_forms
nest_few w = few_in {X = ℕ} ((codes "nest", form (Within 1 32 ∷ []) (λ n. n) ∷ []) ∷ []) w refl

start_few : (s : Start) (w : Token) → AreFew (start_forms s w)
unfolding start_forms
start_few s w = few_in {X = StartLine} ((codes "page", page_forms s) ∷ (codes "cell", cell_forms s) ∷ (codes "text", form [] StartLine.Text ∷ []) ∷ []) w refl

end_few : (w : Token) → AreFew (end_forms w)
unfolding end_forms
end_few w = few_in {X = Unit {0}} ((codes "endtext", form [] tt ∷ []) ∷ []) w refl

-- the words behind the text, where the last task was given registers
abbrev task_table : Kernel → Option TaskLine → List (Token × List (Form KernelLine))
task_table k o =
    (codes "task", new_task_forms k) ∷ (codes "reg", register_forms o) ∷ (codes "body", body_forms) ∷ (codes "fill", form [] KernelLine.Fill ∷ [])
    ∷ (codes "script", form [] KernelLine.Script ∷ []) ∷ []

task_few : (k : Kernel) (w : Token) → AreFew (task_forms k w)
unfolding task_forms
task_few k w = by k.last
  where
    by : (o : Option TaskLine) → AreFew (forms_in (task_table k o) w)
    by None = few_in {X = KernelLine} (task_table k None) w refl
    by (Some t) = few_in {X = KernelLine} (task_table k (Some t)) w refl

between_few : (w : Token) → AreFew (between_forms w)
unfolding between_forms
between_few w = few_in {X = KernelLine}
    ((codes "body", body_forms) ∷ (codes "fill", form [] KernelLine.Fill ∷ []) ∷ (codes "script", form [] KernelLine.Script ∷ []) ∷ []) w refl

filled_few : (w : Token) → AreFew (filled_forms w)
unfolding filled_forms
filled_few w = few_in {X = KernelLine} ((codes "script", form [] KernelLine.Script ∷ []) ∷ []) w refl

-- the words behind a part
abbrev behind_table : Bool → List (Token × List (Form PartEnd))
behind_table b = (codes "endbody", form [] PartEnd.Body ∷ []) ∷ (codes "func", function_forms b) ∷ []

behind_few : (key : Key) (w : Token) → AreFew (behind_forms key w)
unfolding behind_forms
behind_few key w = by (key_number key == 0xfb)
  where
    by : (b : Bool) → AreFew (forms_in (behind_table b) w)
    by true = few_in {X = PartEnd} (behind_table true) w refl
    by false = few_in {X = PartEnd} (behind_table false) w refl

-- ---- labels

label_alone : (name : Token) (ts : List Token) → label_said name (take 5 ts) ≡ label_said name ts
label_alone name [] = refl
label_alone name (t ∷ ts) = refl

text_told : (ts : List Token) → text_said (take 6 ts) ≡ text_said ts
unfolding text_said
text_told [] = refl
text_told (t ∷ ts) = by (label_name t)
  where
    by : (o : Option Token) → (let r : Result Stmt Cause = elim o [
      | Some name ↦ then_make Stmt.Label (label_said name (take 5 ts))
      | None ↦ read_by statement_forms (t ∷ take 5 ts)
    ] in r) ≡ (let r : Result Stmt Cause = elim o [ Some name ↦ then_make Stmt.Label (label_said name ts) | None ↦ read_by statement_forms (t ∷ ts) ] in r)
    by (Some name) = ap (then_make Stmt.Label) (label_alone name ts)
    by None = first_six statement_forms (t ∷ ts) statement_few

part_told : (text : Places) (m : Bool) (ts : List Token) → part_said text m (take 6 ts) ≡ part_said text m ts
unfolding part_said
part_told text m [] = refl
part_told text m (t ∷ ts) = by (label_name t)
  where
    by : (o : Option Token) → (let r : Result BodyLine Cause = elim o [
      | Some name ↦ then_make BodyLine.Here (label_said name (take 5 ts))
      | None ↦ read_by (part_forms text m) (t ∷ take 5 ts)
    ] in r)
        ≡ (let r : Result BodyLine Cause = elim o [ Some name ↦ then_make BodyLine.Here (label_said name ts) | None ↦ read_by (part_forms text m) (t ∷ ts) ]
        in r)
    by (Some name) = ap (then_make BodyLine.Here) (label_alone name ts)
    by None = first_six (part_forms text m) (t ∷ ts) (part_few text m)

-- ---- a line of any section

body_told : (k : Kernel) (b : BodyLines) (ts : List Token) (ended : Bool) → body_follows k b (take 6 ts) ended ≡ body_follows k b ts ended
body_told k b ts true = ap (and_then (part_end_does k b)) (first_six (behind_forms b.key) ts (behind_few b.key))
body_told k b ts false = ap (λ r. then_make (λ more. Head.Body k more) (and_then (body_grown b) r)) (part_told k.text.labels (is_main b.part) ts)

does_told : (s : Start) (ss : List Stmt) (ts : List Token) (r : Result (Unit {0}) Cause) → text_does s ss (take 6 ts) r ≡ text_does s ss ts r
does_told s ss ts (Ok u) = refl
does_told s ss ts (Err Cause.Word) = ap (λ r. then_make (λ more. Head.Text s more) (and_then (text_grown ss) r)) (text_told ts)
does_told s ss ts (Err cause) = refl

pub six_tell : (head : Head) (ts : List Token) → head_follows head (take 6 ts) ≡ head_follows head ts
unfolding head_follows
six_tell Head.Image ts = ap (then_make (λ n. Head.Processors)) (first_six version_forms ts version_few)
six_tell Head.Processors ts = ap (then_make (λ n. Head.Nest n)) (first_six processors_forms ts processors_few)
six_tell (Head.Nest p) ts = ap (then_make (λ n. Head.Start (nothing_given p n))) (first_six nest_forms ts nest_few)
six_tell (Head.Start s) ts = ap (and_then (start_does s)) (first_six (start_forms s) ts (start_few s))
six_tell (Head.Text s ss) ts = ap (text_does s ss (take 6 ts)) (first_six end_forms ts end_few) ∙ does_told s ss ts (read_by end_forms ts)
six_tell (Head.Tasks k) ts = ap (and_then (kernel_does k)) (first_six (task_forms k) ts (task_few k))
six_tell (Head.Body k b) ts = body_told k b ts (is_ended b.part.lines)
six_tell (Head.Bodies k) ts = ap (and_then (kernel_does k)) (first_six between_forms ts between_few)
six_tell (Head.Filled k) ts = ap (and_then (kernel_does k)) (first_six filled_forms ts filled_few)
six_tell (Head.Opened image) ts = refl
