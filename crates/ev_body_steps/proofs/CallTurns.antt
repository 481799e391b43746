-- Turns that change the last context alone, by an instruction that writes no word: what they make of the abstract machine, for `turns` of `CallSteps`.
use Rattle.std.proofs.Common.{◌≡◌, ℕ, ◌<◌, Bool, true, false, [], ◌∷◌, refl, sym, ap, ◌∙◌, subst}
use Rattle.std.specs.Prelude.{◌==◌}
use Rattle.std.proofs.Common.{eqb-true}
use Rattle.ev_isa.specs.Word.{NatMap}
use Rattle.ev_isa.specs.declared.mode.Mode.{Mode}
use Rattle.ev_body.specs.declared.image.Image.{Image}
use Rattle.ev_body.specs.WellFormed.{IsImage}
use Rattle.ev_abstract.specs.Context.{CallId, BodyContext}
use Rattle.ev_abstract.specs.ItemMeaning.{replace_last, with_context}
use Rattle.ev_abstract.specs.Machine.{CallRecord, Machine, processor}
use Rattle.ev_abstract.specs.Machine as abstract
use Rattle.ev_calls.specs.Lists.{QueueIs}
use Rattle.ev_concrete.specs.ConcreteRun.{System}
use Rattle.ev_built.specs.Built.{IsBuilt}
use Rattle.ev_relation.specs.Filling.{AreFree}
use Rattle.ev_relation.specs.Relation.{Stands}
use Rattle.ev_relation.proofs.CallHolders.{AreAlone}
use Rattle.ev_relation.proofs.Facts.{Facts}
use Rattle.ev_relation.proofs.Maps.{at_same, at_other}
use Rattle.ev_body_steps.proofs.CallSteps.{AreOfCalls}
use Rattle.ev_body_steps.proofs.CallSteps as calls
use Rattle.ev_body_steps.proofs.KernelStep as step

module _ (mode : Mode) (image : Image) (built : IsBuilt image) (good : IsImage image) (facts : Facts mode image)
    (left : NatMap ℕ) (s : System) (m : Machine) (h : Stands mode image left s m) (p : ℕ) (hp : p < image.processors)
    (o : step.Top mode image built good facts left s m h p hp) where
  abbrev x : abstract.Processor
  x = processor m p

  -- a step that writes no word of calls and fills no queue is of none
  abbrev pub no_call : CallId → Bool
  no_call k = false

  pub none_alone : AreAlone mode image left s m h p hp o.b o.below o.bodies no_call
  none_alone = record {
    beneath = λ k some. refl;
    others = λ q d k some. refl;
    queues = λ q k some. refl;
    filled_beneath = λ site e. refl;
    filled = λ q lq d site e. refl;
  }

  pub none_of_calls : AreOfCalls p no_call o.below []
  none_of_calls = record {
    allowed = record { written = tt; own = λ q d. tt };
    of = tt;
    unknown = step.unknown_none o.below;
    tasks = refl;
    slots = refl;
    cells = refl;
    pages = refl;
    user = refl;
  }

  -- where its context alone changes
  module _ (b' : BodyContext) where
    abbrev m' : Machine
    m' = with_context m p b'

    pub own_is : processor m' p ≡ record x { bodies = b' ∷ o.below }
    own_is = at_same m.processors p p _ refl ∙ ap (λ bs. record x { bodies = replace_last b' bs }) o.bodies

    others_are : (q : ℕ) → (q == p) ≡ false → processor m' q ≡ processor m q
    others_are q e = at_other m.processors p q _ e

    as_before : (A : Type 0) (f : abstract.Processor → A) → f (record x { bodies = b' ∷ o.below }) ≡ f x → (q : ℕ) → f (processor m' q) ≡ f (processor m q)
    as_before A f e q = pick (q == p) refl
      where
        pick : (t : Bool) → (q == p) ≡ t → f (processor m' q) ≡ f (processor m q)
        pick true t = subst (λ k. f (processor m' k) ≡ f (processor m k)) (sym (eqb-true q p t)) (ap f own_is ∙ e)
        pick false t = ap f (others_are q t)

    pub makes_as_before : calls.Makes mode image built good facts left s m h p hp o no_call none_alone s.memory.words [] none_of_calls (λ k off far. refl)
        (step.on mode image built good facts left s m h p hp).fills refl (λ k off e. e) m' b'
    makes_as_before =
        let on = step.on mode image built good facts left s m h p hp in record {
          own = own_is
              ∙ sym (ap (λ (y : abstract.Processor). record x { records = y.records; queue = y.queue; bodies = b' ∷ o.below }) own_is);
          others = λ q e. others_are q e
              ∙ sym (ap (λ (y : abstract.Processor). record (processor m q) { records = y.records; queue = y.queue }) (others_are q e));
          same_words = refl;
          same_pages = refl;
          same_cells = refl;
          queues = λ q lq. subst (QueueIs s.memory.words q) (sym (as_before _ (λ y. y.queue) refl q)) (h.shares.queues q lq);
          old = λ q k lk off. ap (λ (r : NatMap CallRecord). r k) (as_before _ (λ y. y.records) refl q);
          held = λ q k lq lk mine unfilled. let clash : false ≡ true = mine in absurd (cc);
          free = subst (λ (r : NatMap CallRecord). AreFree r on.fills) (sym (as_before _ (λ y. y.records) refl p)) on.free;
        }
