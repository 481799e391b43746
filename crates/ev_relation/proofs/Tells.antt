-- What the relation says to those who make the steps.
use Rattle.std.proofs.Common.{◌≡◌, ℕ, ◌<◌, arith, true, false, [], get_or, refl, sym, ap, ◌∙◌, subst}
use Rattle.std.specs.Prelude.{if◌then◌else◌}
use Rattle.ev_isa.specs.Word.{NatMap}
use Rattle.ev_isa.specs.declared.mode.Mode.{Mode}
use Rattle.ev_isa.specs.declared.mode.Mode.TheVariants.{Idt, Fred}
use Rattle.ev_body.specs.declared.image.Image.{Image}
use Rattle.ev_body.specs.WellFormed.{IsImage}
use Rattle.ev_state.specs.Processor.{Processor}
use Rattle.ev_mem.specs.Memory.{Memory}
use Rattle.ev_abstract.specs.Machine.{Machine, processor, task}
use Rattle.ev_abstract.specs.Machine as abstract
use Rattle.ev_concrete.specs.ConcreteRun.{System}
use Rattle.ev_concrete.specs.Opening.{regions}
use Rattle.ev_proc.specs.ProcessorStep.{has_fred}
use Rattle.ev_idt.specs.Tables.{HasTables}
use Rattle.ev_tables.proofs.Stand.{stand}
use Rattle.ev_relation.specs.Relation.{Stands, StandsOn, Chain, InTables}
use Rattle.ev_user.specs.Tasks.{RunsTask}
use Rattle.ev_relation.specs.Told.{Tells}
use Rattle.ev_relation.proofs.Facts.{Facts, HasFixed}
use Rattle.ev_relation.proofs.ModeFacts.{is_fred}
use Rattle.ev_relation.proofs.Depth.{stands_depth}
use Rattle.ev_relation.proofs.Chains.{Kept, chain_kept}
use Rattle.ev_relation.proofs.Legality.{legal_few}
use Rattle.ev_abstract.specs.Accepted.{IsAccepted}
use Rattle.ev_relation.proofs.After.{as_chain}

module _ (mode : Mode) (image : Image) where
  -- without FRED the tables of a delivery stand
  tables : (mode' : Mode) → mode' ≡ mode → IsImage image → (p : ℕ) → p < image.processors → (c : Processor) (m : Memory) → Kept mode image p c
      → m.regions ≡ regions image → HasFixed mode' image m → has_fred c ≡ false → HasTables c m
  tables Fred e given p lt c m k hr hf h = absurd (let clash : true ≡ false = ap is_fred e ∙ sym k.fred ∙ h in cc)
  tables Idt e given p lt c m k hr hf h = stand image m c p given lt hr (λ a ha lo hi. hf a (InTables (omega arith) hi)) k.idt k.tss

  -- where no body stands, the processor is the running task's, and nothing was interrupted
  pub record AtRest (p left : ℕ) (s : System) (x : abstract.Processor) (on : StandsOn mode image p left s x) : Type 0 where
    pub task : RunsTask mode image p x.running (task x) (s.cpus p)
    pub none : s.activations p ≡ []
    pub still : on.switching ≡ false
    pub returning : on.returning ≡ x.running
    pub fills : on.fills ≡ []

  pub at_rest : (p left : ℕ) (s : System) (x : abstract.Processor) (on : StandsOn mode image p left s x) → x.bodies ≡ [] → AtRest p left s x on
  at_rest p left s x on e =
      let h : Chain mode image p on.own x.running on.returning (x.tasks on.returning) on.frame on.switching on.fills [] (s.activations p) (s.cpus p) s.memory
      = subst (λ bs. Chain mode image p on.own x.running on.returning (x.tasks on.returning) on.frame on.switching on.fills bs (s.activations p)
      (s.cpus p) s.memory) e
      (as_chain mode image on.layer p on.own on.more x.running on.returning (x.tasks on.returning) on.frame on.switching on.fills x.bodies (s.activations p)
      (s.cpus p) s.memory
      on.runs) in
      let same : on.returning ≡ x.running = on.is_returning ∙ ap (λ b. if b then get_or x.waiting 0 x.running else x.running) h.1 in record {
        task = subst (λ r. RunsTask mode image p r (x.tasks r) (s.cpus p)) same h.0;
        none = h.2;
        still = h.1;
        returning = same;
        fills = h.3;
      }

  pub stands_tells : IsImage image → IsAccepted image → Facts mode image → (left : NatMap ℕ) (s : System) (m : Machine) → Stands mode image left s m → (p : ℕ)
      → p < image.processors → Tells mode image s m p
  stands_tells given accepted facts left s m r p lt =
      let on = r.each p lt in
      let chain = as_chain mode image on.layer p on.own on.more (processor m p).running on.returning
      ((processor m p).tasks on.returning) on.frame on.switching on.fills
      (processor m p).bodies (s.activations p) (s.cpus p) s.memory on.runs in
      let kept : Kept mode image p (s.cpus p) = chain_kept mode image p on.own _ _ _ _ _ _ (processor m p).bodies _ (s.cpus p) s.memory chain in
      let rest = at_rest p (left p) s (processor m p) on in
      record {
        entries = record { tables = tables mode refl given p lt (s.cpus p) s.memory kept r.regions_are r.fixed };
        in_code = facts.in_code s.memory r.regions_are (s.cpus p);
        depth = stands_depth mode image facts p (left p) s (processor m p) on;
        few = legal_few image given accepted m p r.legal;
        running = on.running;
        waiting = on.waiting;
        regs = λ h. ap (λ c. c.regs) (rest h).task.is;
        rip = λ h. ap (λ c. c.rip) (rest h).task.is;
        flags = λ h. ap (λ c. c.flags) (rest h).task.is;
        long = λ i l. (on.tasks i l).long;
        bases = r.bases;
        control = λ h. ap (λ c. c.cr4) (rest h).task.is;
        descriptors = λ h. ap (λ c. c.gdt) (rest h).task.is;
        current = λ h. on.current (rest h).still;
        saved = λ h i l d. on.saved i l (λ e. d (e ∙ (rest h).returning));
      }
