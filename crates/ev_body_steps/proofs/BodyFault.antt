-- A turn of an item that meets a page fault at a user word: the body of page faults begins on it, and the item's access runs again behind it.
use Rattle.std.proofs.Common.{◌≡◌, ◌≤◌, ℕ, ◌<◌, Bool, true, length, Option, Some, None, refl, ap}
use Rattle.std.specs.Prelude.{slice_get, is_some}
use Rattle.ev_isa.specs.Word.{NatMap, is_canonical}
use Rattle.ev_isa.specs.Flags.{Flags}
use Rattle.ev_isa.specs.declared.mode.Mode.{Mode}
use Rattle.ev_event.specs.Event.{pf}
use Rattle.ev_body.specs.declared.key.Side.TheVariants.{Kernel}
use Rattle.ev_body.specs.declared.body.Body.{Body}
use Rattle.ev_body.specs.declared.image.Image.{Image}
use Rattle.ev_body.specs.Bodies.{first_body, key_number}
use Rattle.ev_body.specs.WellFormed.{IsImage}
use Rattle.ev_listing.specs.AddressMap.{code_end}
use Rattle.ev_state.specs.Processor.{Processor}
use Rattle.ev_apic.specs.declared.apic.Apic.{Apic}
use Rattle.ev_proc.specs.ProcessorStep.{executed, delivering}
use Rattle.ev_abstract.specs.Chain.{has_item, is_user_access}
use Rattle.ev_abstract.specs.ItemMeaning.{raised}
use Rattle.ev_abstract.specs.Machine.{Machine, processor}
use Rattle.ev_abstract.specs.Machine as abstract
use Rattle.ev_abstract.specs.Run.{turn}
use Rattle.ev_law.proofs.Required.{body_faults_have_bodies}
use Rattle.ev_listing.specs.Marks.{Always}
use Rattle.ev_concrete.specs.ConcreteRun.{System}
use Rattle.ev_built.specs.Built.{IsBuilt}
use Rattle.ev_symbolic.specs.Value.{V}
use Rattle.ev_symbolic.specs.Agrees.{Cell}
use Rattle.ev_blocks.specs.Blocks.{block}
use Rattle.ev_paths.specs.Ends.{TellsNoCr2}
use Rattle.ev_table.specs.Table.{code_table}
use Rattle.ev_relation.specs.Filling.{first_fill}
use Rattle.ev_relation.specs.Active.{here, IsKernelSs, Active}
use Rattle.ev_relation.specs.Relation.{switches_at, StandsOn, Stands}
use Rattle.ev_relation.specs.Step.{Simulated}
use Rattle.ev_relation.proofs.Facts.{Facts}
use Rattle.ev_body_steps.proofs.ItemState.{ItemState}
use Rattle.ev_body_steps.proofs.BodyRaising.{fault_event}
use Rattle.ev_body_steps.proofs.BodyTurn as turns
use Rattle.ev_body_steps.proofs.KernelStep as step

there : {X : Type 0} (o : Option X) → is_some o ≡ true → (x : X) × (o ≡ Some x)
there None h = absurd (cc)
there (Some x) h = (x, refl)

module _ (mode : Mode) (image : Image) (built : IsBuilt image) (good : IsImage image) (facts : Facts mode image)
    (left : NatMap ℕ) (s : System) (m : Machine) (h : Stands mode image left s m) (p : ℕ) (hp : p < image.processors)
    (o : step.Top mode image built good facts left s m h p hp) (body' : Body) (is : slice_get image.bodies o.b.body ≡ Some body') where
  abbrev c : Processor
  c = s.cpus p

  abbrev x : abstract.Processor
  x = processor m p

  abbrev on : StandsOn mode image p (left p) s x
  on = step.on mode image built good facts left s m h p hp

  -- at the instruction that meets it, behind those that the item has before
  pub by_fault : (act : Active mode image p on.own o.κ o.σ on.frame (switches_at mode image on.switching o.below) (first_fill on.fills) o.w o.b c s.memory)
      → TellsNoCr2 (block mode act.stands.spot) → (ss : ℕ) → IsKernelSs mode ss → (extra v : ℕ → ℕ) (f : Flags) (offset : ℕ) (rax rcx rdx : V) (g : Flags)
      → ItemState mode (here mode p o.κ o.σ ss o.w extra v f) c s.memory offset rax rcx rdx g → length c.regs ≡ 16 → is_canonical c.rip ≡ true
      → code_end ≤ c.rip → (cell : Cell) → code_table mode image c.rip ≡ Some cell → cell.mark ≡ Always → (code address : ℕ)
      → ((a : Apic) (nmi : Bool) → executed c a s.memory nmi (Some cell.ins) ≡ delivering c a s.memory nmi (pf code address) c.rip)
      → has_item is_user_access body' ≡ true → turn image m p ≡ raised image m p (pf code address) → Simulated mode image left s m p
  unfolding key_number
  by_fault act untold ss ss_is extra v f offset rax rcx rdx g state long canonical inside cell hc marked code address runs accesses turned =
      let found = there (first_body 0 image.bodies 14 Kernel) ((body_faults_have_bodies image o.b.body body' good built.accepted is).1 accesses) in
      turns.raise_step mode image built good facts left s m h p hp o o.b c.rip (pf code address) found.0 (record {
        cell = cell;
        is = hc;
        marked = marked;
        runs = runs;
        event = fault_event code address;
        serves_none = refl;
        found = found.1;
        same_body = refl;
        same_service = refl;
        same_calls = refl;
        canonical = canonical;
        outside = refl;
        inside = inside;
        stood = λ n. turns.stands_any mode image p on.own o.κ o.σ on.frame (switches_at mode image on.switching o.below)
            (first_fill on.fills) o.w o.b c s.memory
            act untold n on.short;
        machine = m;
        own = ap (λ bs. record x { bodies = bs }) o.bodies;
        others = λ q e. refl;
        words = refl;
        present = refl;
        cells = refl;
        turns = turned;
      }) (turns.at_item mode image built good facts left s m h p hp o ss ss_is extra v f offset rax rcx rdx g state long c.rip)
