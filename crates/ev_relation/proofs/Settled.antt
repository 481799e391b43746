-- An edge, behind which the machine stands for the same abstract machine, leaves it as it is whether the next step of another processor is visible: whatever
-- words it writes, what the other one's mark looks at is told by the abstract machine.
use Rattle.std.proofs.Common.{◌≡◌, ℕ, ◌<◌, false, subst}
use Rattle.std.specs.Prelude.{◌==◌}
use Rattle.ev_isa.specs.Word.{NatMap}
use Rattle.ev_isa.specs.declared.mode.Mode.{Mode}
use Rattle.ev_body.specs.declared.image.Image.{Image}
use Rattle.ev_body.specs.WellFormed.{IsImage}
use Rattle.ev_state.specs.Processor.{Processor, is_user}
use Rattle.ev_abstract.specs.Accepted.{IsAccepted}
use Rattle.ev_abstract.specs.Machine.{Machine}
use Rattle.ev_concrete.specs.ConcreteRun.{System, marks_of, is_visible, concrete_step}
use Rattle.ev_relation.specs.Relation.{Stands}
use Rattle.ev_relation.proofs.Facts.{Facts}
use Rattle.ev_relation.proofs.Visible.{SameOn, step_leaves}
use Rattle.ev_relation.proofs.Looks.{LooksAt, visible_alike}
use Rattle.ev_relation.proofs.CallMarks.{mark_of, looks}

module _ (mode : Mode) (image : Image) (given : IsImage image) (accepted : IsAccepted image) (facts : Facts mode image) where
  pub settled_by_marks : (left left' : NatMap ℕ) (s : System) (m : Machine) (n p q : ℕ) → Stands mode image left s m
      → Stands mode image left' (concrete_step n s p).0 m → q < image.processors → (q == p) ≡ false
      → is_visible (marks_of mode image) (concrete_step n s p).0 q ≡ is_visible (marks_of mode image) s q
  settled_by_marks left left' s m n p q h h' lq differ =
      let s' : System = (concrete_step n s p).0 in
      let same : SameOn s s' q = step_leaves n s p q differ in
      visible_alike mode image left left' s s' m h h' q lq facts same (looks mode image given accepted facts left s m h q lq)
      (subst (λ (c : Processor). is_user c ≡ false → LooksAt mode image q (h'.each q lq).fills c (mark_of mode image c)) same.cpu
      (looks mode image given accepted facts left' s' m h' q lq))
