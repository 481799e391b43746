-- A visible step, and the abstract machine's: what they come to together.
use Rattle.std.proofs.Common.{◌≡◌, ℕ, true, false, List, refl, sym, ap, ◌∙◌, subst}
use Rattle.std.specs.List.{list_any}
use Rattle.std.proofs.lemmas.Bool.{eq-eqb}
use Rattle.ev_isa.specs.Word.{NatMap, put_at}
use Rattle.ev_isa.specs.declared.mode.Mode.{Mode}
use Rattle.ev_body.specs.declared.image.Image.{Image}
use Rattle.ev_abstract.specs.declared.entry.Entry.{Entry}
use Rattle.ev_abstract.specs.Machine.{Machine}
use Rattle.ev_abstract.specs.Run.{turn}
use Rattle.ev_state.specs.Processor.{is_user}
use Rattle.ev_proc.specs.ProcessorStep.{After, has_fred, next_of, step, instruction_at}
use Rattle.ev_concrete.specs.ConcreteRun.{System, marks_of, mark_at, is_visible, starts_inner, acted, after_step, concrete_step}
use Rattle.ev_concrete.specs.Depth.{bodies_on, ends_body, begins_body, bodies_after, told_bodies}
use Rattle.ev_concrete.specs.LiveWords.{overwrites, IsSafeStep}
use Rattle.ev_relation.specs.Relation.{Stands}
use Rattle.ev_relation.proofs.After.{left_behind}
use Rattle.ev_concrete.specs.Shown.{shown, shown_by, told_at}
use Rattle.ev_relation.specs.Step.{MakesTurn}

-- what was put is there
pub put_same : {X : Type 0} (m : NatMap X) (a : ℕ) (v : X) → put_at m a v a ≡ v
put_same m a v = ap (λ b. elim b [ true ↦ v | false ↦ m a ]) (eq-eqb a a refl)

module _ (mode : Mode) (image : Image) where
  -- what a visible step of the one and a step of the other come to
  pub record TurnsTo (left : NatMap ℕ) (s : System) (m : Machine) (p : ℕ) : Type 0 where
    pub after : After
    pub steps : step (s.cpus p) (s.apics p) s.memory (s.latches p) ≡ after
    pub machine : Machine
    pub entries : List Entry
    pub turns : turn image m p ≡ (machine, entries)
    pub seen : is_visible (marks_of mode image) s p ≡ true
    pub now_left : ℕ
    pub stands : Stands mode image (left_behind mode image p now_left) (acted image.processors (after_step s p after) p after.step).0 machine
    pub shows : (told : List Entry)
        → shown_by p (bodies_on s p) (is_user (s.cpus p)) (has_fred (s.cpus p)) told after.cpu after.words after.step ≡ entries
    pub counts : bodies_on (acted image.processors (after_step s p after) p after.step).0 p
        ≡ bodies_after (bodies_on s p) (starts_inner s p (next_of (s.cpus p) (s.apics p) (s.latches p)))
        (ends_body (s.cpus p) (instruction_at s.memory.words (s.cpus p).rip)) (begins_body (s.cpus p) (instruction_at s.memory.words (s.cpus p).rip))
        after.step
    pub safe : list_any (overwrites mode image s) (acted image.processors (after_step s p after) p after.step).1 ≡ false

  concrete_is : (left : NatMap ℕ) (s : System) (m : Machine) (p : ℕ) (t : TurnsTo left s m p)
      → concrete_step image.processors s p ≡ acted image.processors (after_step s p t.after) p t.after.step
  unfolding concrete_step
  concrete_is left s m p t = ap (λ r. acted image.processors (after_step s p r) p r.step) t.steps

  pub makes_turn : (left : NatMap ℕ) (s : System) (m : Machine) (p : ℕ) → TurnsTo left s m p → MakesTurn mode image left s m p
  unfolding shown
  makes_turn left s m p t = record {
    seen = t.seen;
    now = left_behind mode image p t.now_left;
    stands = subst (λ z. Stands mode image (left_behind mode image p t.now_left) z.0 (turn image m p).0) (sym (concrete_is left s m p t))
        (subst (λ z. Stands mode image (left_behind mode image p t.now_left) (acted image.processors (after_step s p t.after) p t.after.step).0 z.0)
        (sym t.turns) t.stands);
    entries = λ counted. let told : List Entry = told_at (mark_at (marks_of mode image) (s.cpus p).rip) s p in
        ap (λ r. shown_by p (bodies_on s p) (is_user (s.cpus p)) (has_fred (s.cpus p)) told r.cpu r.words r.step) t.steps
        ∙ t.shows told ∙ sym (ap (λ z. z.1) t.turns);
  }

  pub is_safe : (left : NatMap ℕ) (s : System) (m : Machine) (p : ℕ) → TurnsTo left s m p → IsSafeStep mode image s p
  is_safe left s m p t = ap (λ z. list_any (overwrites mode image s) z.1) (concrete_is left s m p t) ∙ t.safe

  pub tells_bodies : (left : NatMap ℕ) (s : System) (m : Machine) (p : ℕ) → TurnsTo left s m p
      → bodies_on (concrete_step image.processors s p).0 p ≡ told_bodies s p
  unfolding told_bodies
  tells_bodies left s m p t =
      ap (λ z. bodies_on z.0 p) (concrete_is left s m p t) ∙ t.counts
      ∙ ap (λ r. bodies_after (bodies_on s p) (starts_inner s p (next_of (s.cpus p) (s.apics p) (s.latches p)))
      (ends_body (s.cpus p) (instruction_at s.memory.words (s.cpus p).rip)) (begins_body (s.cpus p) (instruction_at s.memory.words (s.cpus p).rip)) r.step)
      (sym t.steps)
