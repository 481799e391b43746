-- Each line that follows keeps what stands, so that the line `script` gives an image.
use Rattle.std.proofs.Common.{◌≡◌, ℕ, ◌≤◌, Bool, true, false, not, ◌&&◌, List, [], ◌∷◌, ◌++◌, length, Option, Some, None, Result, Ok, Err, refl, sym, subst, arith}
use Rattle.std.specs.Prelude.{nat_lt, nat_le}
use Rattle.std.specs.List.{list_all}
use Rattle.std.proofs.lemmas.Bool.{and_from}
use Rattle.ev_body.specs.Bodies.{fill}
use Rattle.ev_body.specs.KernelImage.{KernelImage}
use Rattle.ev_body.specs.WellFormed.{IsImage, is_word, is_user_only, is_user_side, is_apart, functions_of}
use Rattle.ev_body.specs.declared.body.Body.{Body}
use Rattle.ev_io.specs.declared.cause.Cause.{Cause}
use Rattle.ev_io.specs.Tokens.{Token}
use Rattle.ev_asm.specs.declared.statement.Stmt.{Stmt}
use Rattle.ev_line.specs.Operands.{among}
use Rattle.ev_line.specs.Forms.{read_by}
use Rattle.ev_text.specs.UserText.{text_grown, text_ended}
use Rattle.ev_text.specs.declared.text.WholeText.{WholeText}
use Rattle.ev_part.specs.declared.body.BodyLines.{BodyLines}
use Rattle.ev_part.specs.PartItems.{is_ended}
use Rattle.ev_part.specs.BodyParts.{all_parts, body_grown, body_ended}
use Rattle.ev_image.specs.declared.head.Head.{Head}
use Rattle.ev_image.specs.declared.kernel.Start.{Start}
use Rattle.ev_image.specs.declared.kernel.Kernel.{Kernel}
use Rattle.ev_image.specs.declared.kernel.TaskLine.{TaskLine}
use Rattle.ev_image.specs.declared.lines.KernelLine.{KernelLine}
use Rattle.ev_image.specs.declared.lines.PartEnd.{PartEnd}
use Rattle.ev_image.specs.Sections.{version_forms, processors_forms, nest_forms, start_forms, end_forms, text_said, task_forms, between_forms, filled_forms, part_said, behind_forms}
use Rattle.ev_image.specs.Head.{and_then, nothing_given, start_does, no_bodies, text_does, with_last, every_task, of_processor, tasks_by, new_task, with_register, register_given, new_body, each_has_one, image_with, kernel_does, functions_in, part_end_does, is_main, body_follows, head_follows}
use Rattle.ev_image.specs.Reads.{ReachedBy, Reached}
use Rattle.ev_image.proofs.Kept.{IsStart, IsWhole, AreTasks, IsKernel, IsBodyRead, AllSmall, IsHead}
use Rattle.ev_image.proofs.Lists.{unless_ok, made_ok, then_ok, not_false, not_both, not_at_most, not_less}
use Rattle.ev_image.proofs.Told.{IsLabelled, ToldKernel, ToldEnd, processors_told, nest_told, start_told, task_told, between_told, filled_told, end_told}
use Rattle.ev_image.proofs.Starts.{start_begins, start_kept}
use Rattle.ev_image.proofs.TextBytes.{stmt_told, text_more}
use Rattle.ev_image.proofs.Texts.{text_kept}
use Rattle.ev_image.proofs.Tasks.{task_more, new_task_fits, register_more, rows_many, rows_fit}
use Rattle.ev_image.proofs.ItemLines.{line_told}
use Rattle.ev_image.proofs.BodyKept.{body_begins, body_more, function_more}
use Rattle.ev_image.proofs.BodyEnds.{body_added}
use Rattle.ev_image.proofs.Filled.{fill_kept}

is_next : (head next : Head) → ◌≡◌ {A = Result Head Cause} (Ok head) (Ok next) → head ≡ next
is_next head next h = cc

-- ---- the text at its end

nothing_read : (s : Start) (text : WholeText) → IsStart s → IsWhole text → IsKernel (no_bodies s text)
nothing_read s text g h = record {
  start = g;
  text = h;
  tasks = record { fit = refl; few = λ p. omega arith };
  bodies = record { few = omega arith; fit = refl; apart = refl; functions_once = refl };
}

text_next : (s : Start) (ss : List Stmt) (ts : List Token) (next : Head) (r : Result (Unit {0}) Cause) → IsStart s → AllSmall ss
    → text_does s ss ts r ≡ Ok next → IsHead next
text_next s ss ts next (Ok u) g a h =
    let k = made_ok (λ (text : WholeText). Head.Tasks (no_bodies s text)) (text_ended ss) next h in
    subst IsHead k.2 (nothing_read s k.0 g (text_kept ss k.0 a k.1))
text_next s ss ts next (Err Cause.Word) g a h =
    let k = made_ok (λ (more : List Stmt). Head.Text s more) (and_then (text_grown ss) (text_said ts)) next h in
    let t = then_ok (text_grown ss) (text_said ts) k.0 k.1 in
    subst IsHead k.2 (g, text_more ss t.0 k.0 a (stmt_told ts t.0 t.1) t.2)
text_next s ss ts next (Err cause) g a h = absurd cc

-- ---- tasks

task_kept : (k : Kernel) (p start gs : ℕ) → IsKernel k → IsLabelled k.text.labels start → gs ≤ 0xffffffff
    → nat_le 4 (length (of_processor (every_task k) p)) ≡ false → IsKernel (record k { tasks = every_task k; last = Some (new_task p start gs) })
task_kept k p start gs g a l e = record {
  start = g.start;
  text = g.text;
  tasks = task_more (length k.text.bytes) (every_task k) (new_task p start gs) g.tasks
      (new_task_fits (length k.text.bytes) p start gs (rw a.2 (g.text.labels_lie a.0 a.1)) l) (not_at_most 4 (length (of_processor (every_task k) p)) e);
  bodies = g.bodies;
}

register_kept : (k : Kernel) (o : Option TaskLine) (r n : ℕ) (next : Head) → k.last ≡ o → IsKernel k → is_word n ≡ true → register_given k o r n ≡ Ok next
    → IsHead next
register_kept k None r n next e g w h = absurd cc
register_kept k (Some t) r n next e g w h =
    subst IsHead (is_next (Head.Tasks (record k { last = Some (with_register t r n) })) next h)
    (record {
      start = g.start;
      text = g.text;
      tasks = register_more (length k.text.bytes) k.tasks t r n
          (subst (λ (q : Option TaskLine). AreTasks (length k.text.bytes) (with_last k.tasks q)) e
          g.tasks) w;
      bodies = g.bodies;
    })

-- ---- the image

image_is : (k : Kernel) → IsKernel k → each_has_one (tasks_by (every_task k) k.start.processors) ≡ true
    → IsImage (image_with k (tasks_by (every_task k) k.start.processors))
image_is k g h = record {
  count = g.start.count;
  pages_fit = and_from _ _ g.start.pages_fit g.start.pages_once;
  cells_fit = and_from _ _ g.start.cells_fit g.start.cells_once;
  text_fits = g.text.fits;
  text_bytes = g.text.small;
  tasks_given = (rows_many (every_task k) k.start.processors, rows_fit (length k.text.bytes) (every_task k) k.start.processors g.tasks h);
  bodies_given = (g.bodies.few, g.bodies.fit, g.bodies.apart);
  functions_once = g.bodies.functions_once;
}

-- ---- lines outside bodies

kernel_kept : (k : Kernel) (l : KernelLine) (next : Head) → IsKernel k → ToldKernel k l → kernel_does k l ≡ Ok next → IsHead next
unfolding kernel_does
kernel_kept k (KernelLine.Task p start gs) next g t h =
    let u = unless_ok (nat_le 4 (length (of_processor (every_task k) p))) Cause.Limit _ next h in
    subst IsHead (is_next _ next u.1) (task_kept k p start gs g t.1 t.2 u.0)
kernel_kept k (KernelLine.Register r n) next g t h = register_kept k k.last r n next refl g t.1 h
kernel_kept k (KernelLine.Body key side) next g t h =
    let a = unless_ok (is_user_only key && not (is_user_side side)) Cause.Name _ next h in
    let b = unless_ok (not (list_all (λ c. is_apart c (new_body key side)) k.bodies)) Cause.Double _ next a.1 in
    let c = unless_ok (nat_le 64 (length k.bodies)) Cause.Limit _ next b.1 in
    subst IsHead (is_next _ next c.1) (
      g,
      body_begins (length k.text.bytes) k.bodies key side g.bodies t (not_both (is_user_only key) (is_user_side side) a.0)
          (not_false (list_all (λ d. is_apart d (new_body key side)) k.bodies) b.0) (not_at_most 64 (length k.bodies) c.0),
    )
kernel_kept k KernelLine.Fill next g t h =
    let u = unless_ok (nat_lt 64 (length (fill k.bodies))) Cause.Limit _ next h in
    subst IsHead (is_next _ next u.1)
    (record {
      start = g.start;
      text = g.text;
      tasks = g.tasks;
      bodies = fill_kept (length k.text.bytes) k.bodies g.bodies (not_less 64 (length (fill k.bodies)) u.0);
    })
kernel_kept k KernelLine.Script next g t h =
    let u = unless_ok (not (each_has_one (tasks_by (every_task k) k.start.processors))) Cause.Tasks _ next h in
    subst IsHead (is_next _ next u.1) (image_is k g (not_false (each_has_one (tasks_by (every_task k) k.start.processors)) u.0))

-- ---- bodies

end_kept : (k : Kernel) (b : BodyLines) (l : PartEnd) (next : Head) → IsKernel k → IsBodyRead (length k.text.bytes) k.bodies b
    → is_ended b.part.lines ≡ true → ToldEnd b.key l → part_end_does k b l ≡ Ok next → IsHead next
end_kept k b PartEnd.Body next g r e t h =
    let m = made_ok (λ (body : Body). Head.Bodies (record k { bodies = k.bodies ++ body ∷ [] })) (body_ended b) next h in
    subst IsHead m.2
    (record { start = g.start; text = g.text; tasks = g.tasks; bodies = body_added (length k.text.bytes) k.bodies b m.0 r g.bodies e m.1 })
end_kept k b (PartEnd.Function f) next g r e t h =
    let u = unless_ok (among (functions_of k.bodies ++ functions_in (all_parts b)) f) Cause.Double _ next h in
    subst IsHead (is_next _ next u.1) (g, function_more (length k.text.bytes) k.bodies b f r e t.0 t.1 u.0)

body_next : (k : Kernel) (b : BodyLines) (ts : List Token) (next : Head) (e : Bool) → is_ended b.part.lines ≡ e → IsKernel k
    → IsBodyRead (length k.text.bytes) k.bodies b → body_follows k b ts e ≡ Ok next → IsHead next
body_next k b ts next true e g r h =
    let t = then_ok (part_end_does k b) (read_by (behind_forms b.key) ts) next h in
    end_kept k b t.0 next g r e (end_told b.key ts t.0 t.1) t.2
body_next k b ts next false e g r h =
    let m = made_ok (λ (more : BodyLines). Head.Body k more) (and_then (body_grown b) (part_said k.text.labels (is_main b.part) ts)) next h in
    let t = then_ok (body_grown b) (part_said k.text.labels (is_main b.part) ts) m.0 m.1 in
    subst IsHead m.2 (
      g,
      body_more (length k.text.bytes) k.bodies b t.0 m.0 r e
          (line_told k.text.labels (length k.text.bytes) (is_main b.part) ts t.0 g.text.labels_lie t.1) t.2,
    )

-- ---- any line

head_keeps : (head : Head) (ts : List Token) (next : Head) → IsHead head → head_follows head ts ≡ Ok next → IsHead next
unfolding head_follows
head_keeps Head.Image ts next g h = let k = made_ok (λ (n : ℕ). Head.Processors) (read_by version_forms ts) next h in subst IsHead k.2 tt
head_keeps Head.Processors ts next g h =
    let k = made_ok (λ (n : ℕ). Head.Nest n) (read_by processors_forms ts) next h in
    subst IsHead k.2 (processors_told ts k.0 k.1)
head_keeps (Head.Nest p) ts next g h =
    let k = made_ok (λ (n : ℕ). Head.Start (nothing_given p n)) (read_by nest_forms ts) next h in
    subst IsHead k.2 (start_begins p k.0 g (nest_told ts k.0 k.1))
head_keeps (Head.Start s) ts next g h =
    let k = then_ok (start_does s) (read_by (start_forms s) ts) next h in
    start_kept s k.0 next g (start_told s ts k.0 k.1) k.2
head_keeps (Head.Text s ss) ts next g h = text_next s ss ts next (read_by end_forms ts) g.0 g.1 h
head_keeps (Head.Tasks k) ts next g h =
    let t = then_ok (kernel_does k) (read_by (task_forms k) ts) next h in
    kernel_kept k t.0 next g (task_told k ts t.0 t.1) t.2
head_keeps (Head.Body k b) ts next g h = body_next k b ts next (is_ended b.part.lines) refl g.0 g.1 h
head_keeps (Head.Bodies k) ts next g h =
    let t = then_ok (kernel_does k) (read_by between_forms ts) next h in
    kernel_kept k t.0 next g (between_told k ts t.0 t.1) t.2
head_keeps (Head.Filled k) ts next g h =
    let t = then_ok (kernel_does k) (read_by filled_forms ts) next h in
    kernel_kept k t.0 next g (filled_told k ts t.0 t.1) t.2
head_keeps (Head.Opened image) ts next g h = absurd cc

reached_by : (lines : List (List Token)) (head : Head) → ReachedBy lines head → IsHead head
reached_by [] head e = subst IsHead (sym e) tt
reached_by (ts ∷ before) head r = head_keeps r.0 ts head (reached_by before r.0 r.1) r.2

-- what stands behind the line `script` is an image
pub image_kept : (image : KernelImage) → Reached (Head.Opened image) → IsImage image
image_kept image r = reached_by r.0 (Head.Opened image) r.1
