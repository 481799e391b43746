-- The step theorem, put together: a processor runs its task or a body.
use Rattle.std.proofs.Common.{◌≡◌, ◌⊎◌, inl, inr, ℕ, ◌<◌, List, [], ◌∷◌, true, false, refl, sym, ◌∙◌, ne_eqb}
use Rattle.ev_isa.specs.Word.{NatMap}
use Rattle.ev_isa.specs.declared.mode.Mode.{Mode}
use Rattle.ev_body.specs.declared.key.Key.TheVariants.{Irq}
use Rattle.ev_body.specs.declared.image.Image.{Image}
use Rattle.ev_body.specs.WellFormed.{IsImage}
use Rattle.ev_abstract.specs.Context.{BodyContext}
use Rattle.ev_abstract.specs.Machine.{Machine, processor}
use Rattle.ev_abstract.specs.Run.{line_step}
use Rattle.ev_abstract.specs.Script.{is_line}
use Rattle.ev_abstract.specs.declared.script_line.Line.TheVariants.{Arrive, Accept}
use Rattle.ev_concrete.specs.ConcreteRun.{System, marks_of, is_visible, concrete_step, arrived_at, accept_mail}
use Rattle.ev_built.specs.Built.{IsBuilt}
use Rattle.ev_relation.specs.Relation.{Stands}
use Rattle.ev_relation.specs.Step.{MakesEdge, MakesTurn, Simulated}
use Rattle.ev_refine.specs.Claims.{Refines, KeepsSettled, Opens, AllSettle, TurnsFollow, RunsFollow, EndsFollow, RunsAreSafe}
use Rattle.ev_relation.proofs.Facts.{Facts}
use Rattle.ev_relation.proofs.CodeFacts.{facts}
use Rattle.ev_task_steps.proofs.User.{user_turn}
use Rattle.ev_body_steps.proofs.Kernel.{kernel_step}
use Rattle.ev_relation.proofs.Settled.{settled_by_marks}
use Rattle.ev_refine.proofs.Runs as runs
use Rattle.ev_relation.proofs.Arrivals.{arrival_stands, acceptance_stands}
use Rattle.ev_refine.proofs.Opens as opening

module _ (mode : Mode) (image : Image) (built : IsBuilt image) (given : IsImage image) where
  pub simulates : (left : NatMap ℕ) (s : System) (m : Machine) → Stands mode image left s m → (p : ℕ) → p < image.processors → Simulated mode image left s m p
  simulates left s m h p lt = by_bodies (processor m p).bodies refl
    where
      code : Facts mode image
      code = facts mode image given built

      by_bodies : (bs : List BodyContext) → (processor m p).bodies ≡ bs → Simulated mode image left s m p
      by_bodies [] q = user_turn mode image given built code left s m h p lt q
      by_bodies (b ∷ below) q = kernel_step mode image built given code left s m h p lt b below q

pub refines : Refines
refines mode image built given left s m r p lt = simulates mode image built given left s m r p lt

-- the state behind an edge stands for the same abstract machine
pub keeps_settled : KeepsSettled
keeps_settled mode image built given left s m r p q lt lt' differ hidden = by_step (refines mode image built given left s m r p lt).how
  where
    by_step : MakesEdge mode image left s m p ⊎ MakesTurn mode image left s m p
        → is_visible (marks_of mode image) (concrete_step image.processors s p).0 q ≡ is_visible (marks_of mode image) s q
    by_step (inl e) = settled_by_marks mode image given built.accepted (facts mode image given built) left e.now s m image.processors p q r e.stands lt'
        (ne_eqb q p (λ e. differ (sym e)))
    by_step (inr t) = let clash : true ≡ false = sym t.seen ∙ hidden in absurd (cc)

pub opens : Opens
opens mode image built given = opening.opens mode image given

pub all_settle : AllSettle
all_settle mode image built given left s m r p lt =
    runs.settles mode image (refines mode image built given) (keeps_settled mode image built given) left s m r p lt

pub turns_follow : TurnsFollow
turns_follow mode image built given left s m r p lt =
    runs.turn_follows mode image (refines mode image built given) (keeps_settled mode image built given) left s m r p lt

-- so they are where an interrupt arrives
pub arrivals_stand : (mode : Mode) (image : Image) → IsBuilt image → IsImage image → (left : NatMap ℕ) (s : System) (m : Machine)
    → Stands mode image left s m → (p v : ℕ) → p < image.processors → v < 256 → is_line image (Arrive p (Irq v)) ≡ true
    → Stands mode image left (arrived_at s p (Irq v)) (line_step image m (Arrive p (Irq v))).0
arrivals_stand mode image built given = arrival_stands mode image given built.accepted

-- and where mail is accepted
pub acceptances_stand : (mode : Mode) (image : Image) → IsBuilt image → IsImage image → (left : NatMap ℕ) (s : System) (m : Machine)
    → Stands mode image left s m → (p : ℕ) → p < image.processors → is_line image (Accept p) ≡ true
    → Stands mode image left (accept_mail s p) (line_step image m (Accept p)).0
acceptances_stand mode image built given = acceptance_stands mode image given built.accepted

pub runs_follow : RunsFollow
runs_follow mode image built given script i b =
    runs.lines_follow mode image (refines mode image built given) (keeps_settled mode image built given)
    (arrivals_stand mode image built given) (acceptances_stand mode image built given) script (λ p. 0) _ _ (opens mode image built given) i b

pub ends_follow : EndsFollow
ends_follow mode image built given script i b q lt =
    let r = runs_follow mode image built given script i b in
    runs.settled_first mode image (refines mode image built given) (keeps_settled mode image built given) q r.0 _ _ r.1 lt

pub runs_are_safe : RunsAreSafe
runs_are_safe mode image built given script i b q lt p lt' k =
    let r = ends_follow mode image built given script i b q lt in (all_settle mode image built given r.left _ _ r.stands p lt').safe k
