-- What bytes come to is one answer with one text; so what was answered is that, unless a fault or want of memory was.
use Rattle.std.proofs.Common.{◌≡◌, ◌≢◌, inl, inr, ℕ, true, false, Bool, List, [], Option, Some, refl, sym, subst, ap, ◌∙◌}
use Rattle.std.specs.Prelude.{Result, Ok, Err}
use Rattle.std.specs.List.{list_all}
use Rattle.std.specs.Io.KnownBytes.{append_known}
use Rattle.ev_isa.specs.declared.mode.Mode.{Mode}
use Rattle.ev_abstract.specs.EntryText.{Text}
use Rattle.ev_abstract.specs.declared.script_line.Line.{Line}
use Rattle.ev_accept.specs.Acceptance.{AcceptedIsNotRefused, RefusalIsUnique, BoundIsUnique}
use Rattle.ev_body.specs.KernelImage.{KernelImage}
use Rattle.ev_asm_text.specs.AsmText.{asm_text}
use Rattle.ev_built.specs.Built.{line_is_built}
use Rattle.ev_built.specs.RunTakes.{is_built}
use Rattle.ev_command.specs.declared.command.Command.{Command}
use Rattle.ev_command.specs.declared.command.Command.TheVariants.{Run, Asm, Check, Probe, Gen, Threads}
use Rattle.ev_concrete.specs.RunText.{run_text}
use Rattle.ev_image.specs.Reads.{Opened, opened}
use Rattle.ev_image.specs.declared.head.Head.TheVariants as Head
use Rattle.ev_io.specs.InputLines.{lines_of}
use Rattle.ev_io.specs.declared.cause.Cause.{Cause}
use Rattle.ev_io.proofs.Writes.{nothing_written}
use Rattle.ev_probe.specs.Input.{input_text}
use Rattle.ev_script.specs.Script.{read_script}
use Rattle.ev_status.specs.declared.status.Status.{Status}
use Rattle.ev_status.specs.declared.status.Status.TheVariants.{Done, Usage, ReadFault, WriteFault, BadDocument, Refused, NotBuilt, NoMemory}
use Rattle.fredbox.specs.Comes.{Comes, Is, or_line, or_rule, or_not_built}
use Rattle.fredbox.specs.Answer.{bound_text, comes_of, modes_of, opened_comes, runs}
use Rattle.fredbox.specs.Taken.{Took}

-- one answer, with one text
abbrev pub IsOne : Comes → Type 0
IsOne A = (s u : Status) (t v : Text) → A s t → A u v → (s ≡ u) × (t ≡ v)

is_one : (status : Status) (text : Text) → IsOne (Is status text)
is_one status text s u t v (a, b) (c, d) = (a ∙ sym c, b ∙ sym d)

line_one : (A : Type 0) (r : Result A (ℕ × Cause)) (rest : A → Comes) → ((a : A) → IsOne (rest a)) → IsOne (or_line r rest)
line_one A (Err refusal) rest h = is_one (BadDocument refusal.0 refusal.1) []
line_one A (Ok a) rest h = h a

built_one : (b : Bool) (rest : Comes) → IsOne rest → IsOne (or_not_built b rest)
built_one true rest h = h
built_one false rest h = is_one NotBuilt []

-- the laws of acceptance
pub record Laws : Type 0 where
  pub excludes : AcceptedIsNotRefused
  pub refusal : RefusalIsUnique
  pub bound : BoundIsUnique

rule_one : Laws → (image : KernelImage) (rest : ℕ → Comes) → ((bound : ℕ) → IsOne (rest bound)) → IsOne (or_rule image rest)
rule_one laws image rest h s u t v (inl (m, a, c)) (inl (n, b, d)) =
    h n s u t v (subst (λ (k : ℕ). rest k s t) (laws.bound image m n a.is_bound b.is_bound) c) d
rule_one laws image rest h s u t v (inl (m, a, c)) (inr (r, b, d)) = absurd (laws.excludes image m r a b)
rule_one laws image rest h s u t v (inr (r, b, d)) (inl (m, a, c)) = absurd (laws.excludes image m r a b)
rule_one laws image rest h s u t v (inr (r, a, c)) (inr (q, b, d)) = (c.0 ∙ ap Refused (laws.refusal image r q a b) ∙ sym d.0, c.1 ∙ sym d.1)

runs_one : (mode : Option Mode) (frames : Bool) (image : KernelImage) (lines : List Line) → IsOne (runs mode frames image lines)
runs_one mode frames image lines s u t v a b = is_one Done (run_text image lines (modes_of mode) frames) s u t v a b

-- what a command comes to behind an image
opened_one : Laws → (c : Command) (o : Opened) → IsOne (opened_comes c o)
opened_one laws (Run mode frames) o =
    let script = read_script o.image o.lines o.bytes o.behind in
    let lines_come : List Line → Comes = λ lines. or_not_built (list_all line_is_built lines) (runs mode frames o.image lines) in
    let script_comes : ℕ → Comes = λ bound. or_line script lines_come in
    built_one (is_built o.image) (or_rule o.image script_comes) (rule_one laws o.image script_comes (λ bound.
    line_one (List Line) script lines_come (λ lines. built_one (list_all line_is_built lines) (runs mode frames o.image lines)
    (runs_one mode frames o.image lines))))
opened_one laws Check o =
    let script = read_script o.image o.lines o.bytes o.behind in
    rule_one laws o.image (λ bound. or_line script (λ lines. Is Done (bound_text bound))) (λ bound.
    line_one (List Line) script (λ lines. Is Done (bound_text bound)) (λ lines. is_one Done (bound_text bound)))
opened_one laws Asm o =
    line_one (List Line) (read_script o.image o.lines o.bytes o.behind) (λ lines. Is Done (asm_text o.image)) (λ lines. is_one Done (asm_text o.image))
opened_one laws Probe o = is_one Usage []
opened_one laws (Gen seed count) o = is_one Usage []
opened_one laws (Threads mode turns) o = is_one Usage []

comes_one : Laws → (c : Command) (bytes : List ℕ) → IsOne (comes_of c bytes)
comes_one laws Probe bytes = line_one Text (input_text bytes) (Is Done) (λ text. is_one Done text)
comes_one laws (Run mode frames) bytes =
    line_one Opened (opened 0 0 Head.Image (lines_of bytes)) (opened_comes (Run mode frames)) (opened_one laws (Run mode frames))
comes_one laws Check bytes = line_one Opened (opened 0 0 Head.Image (lines_of bytes)) (opened_comes Check) (opened_one laws Check)
comes_one laws Asm bytes = line_one Opened (opened 0 0 Head.Image (lines_of bytes)) (opened_comes Asm) (opened_one laws Asm)
comes_one laws (Gen seed count) bytes =
    line_one Opened (opened 0 0 Head.Image (lines_of bytes)) (opened_comes (Gen seed count)) (opened_one laws (Gen seed count))
comes_one laws (Threads mode turns) bytes =
    line_one Opened (opened 0 0 Head.Image (lines_of bytes)) (opened_comes (Threads mode turns)) (opened_one laws (Threads mode turns))

refused_one : (old new : Option (List ℕ)) (text : Text) → [] ≡ text → new ≡ old → new ≡ append_known old text
refused_one old new text e k = k ∙ sym (nothing_written old) ∙ ap (append_known old) e

-- an answer that is no fault and no want of memory is the one that the bytes come to
answer_is : (old new : Option (List ℕ)) (A : Comes) (result status : Status) (text : Text) → IsOne A → Took old new A result → A status text
    → (result ≡ ReadFault → ⊥) → (result ≡ WriteFault → ⊥) → result ≢ NoMemory → (result ≡ status) × (new ≡ append_known old text)
answer_is old new A Done status text one (t, a, e) k r w m = let u = one Done status t text a k in (u.0, e ∙ ap (append_known old) u.1)
answer_is old new A WriteFault status text one took k r w m = absurd (w refl)
answer_is old new A ReadFault status text one took k r w m = absurd (r refl)
answer_is old new A NoMemory status text one took k r w m = absurd (m refl)
answer_is old new A Usage status text one (a, e) k r w m = let u = one Usage status [] text a k in (u.0, refused_one old new text u.1 e)
answer_is old new A NotBuilt status text one (a, e) k r w m = let u = one NotBuilt status [] text a k in (u.0, refused_one old new text u.1 e)
answer_is old new A (BadDocument n cause) status text one (a, e) k r w m =
    let u = one (BadDocument n cause) status [] text a k in (u.0, refused_one old new text u.1 e)
answer_is old new A (Refused refusal) status text one (a, e) k r w m =
    let u = one (Refused refusal) status [] text a k in (u.0, refused_one old new text u.1 e)

pub answered : Laws → (old new : Option (List ℕ)) (c : Command) (bytes : List ℕ) (result status : Status) (text : Text)
    → Took old new (comes_of c bytes) result → comes_of c bytes status text
    → (result ≡ ReadFault → ⊥) → (result ≡ WriteFault → ⊥) → result ≢ NoMemory → (result ≡ status) × (new ≡ append_known old text)
answered laws old new c bytes result status text took k r w m =
    answer_is old new (comes_of c bytes) result status text (comes_one laws c bytes) took k r w m

pub same_command : (c d : Command) (o : Option Command) → o ≡ Some c → o ≡ Some d → c ≡ d
same_command c d o h k = cc
