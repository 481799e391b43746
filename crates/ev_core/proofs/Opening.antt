-- The machine at its opening.
use Rattle.std.proofs.Common.{◌≡◌, ℕ, zero, suc, ◌+◌, ◌<◌, List, [], map, length, replicate, Some, None, ap, refl, sym, ◌∙◌, subst, arith}
use Rattle.std.specs.Prelude.{slice_get}
use Rattle.ev_isa.specs.Word.{numbers_from}
use Rattle.ev_isa.specs.declared.mode.Mode.{Mode}
use Rattle.ev_body.specs.declared.image.Image.{Image}
use Rattle.ev_state.specs.Processor.{Processor}
use Rattle.ev_mem.specs.Mapped.{memory}
use Rattle.ev_abstract.specs.Machine as abstract
use Rattle.ev_concrete.specs.Opening.{opening_cpu, opening_memory}
use Rattle.ev_concrete.specs.ConcreteRun.{marks_of, opening_system}
use Rattle.ev_refine.proofs.Refine.{opens}
use Rattle.ev_layout.specs.Marks.{marks_in}
use Rattle.ev_core.specs.Local.{start}
use Rattle.ev_core.specs.State.{Parts, Shows}
use Rattle.ev_core.specs.Run.{MachineView, CanRun, IsRun, IsStanding}

numbered : {X : Type 0} (f : ℕ → X) (n a i : ℕ) → i < n → slice_get (map f (numbers_from a n)) i ≡ Some (f (a + i))
numbered f zero a i h = absurd (omega arith)
numbered f (suc n) a zero h = let e : a ≡ a + 0 = omega arith in ap (λ k. Some (f k)) e
numbered f (suc n) a (suc i) h = let e : suc a + i ≡ a + suc i = omega arith in numbered f n (suc a) i (omega arith) ∙ ap (λ k. Some (f k)) e

counted_numbers : {X : Type 0} (f : ℕ → X) (n a : ℕ) → length (map f (numbers_from a n)) ≡ n
counted_numbers f zero a = refl
counted_numbers f (suc n) a = ap suc (counted_numbers f n (suc a))

repeated : {X : Type 0} (x : X) (n i : ℕ) → i < n → slice_get (replicate n x) i ≡ Some x
repeated x zero i h = absurd (omega arith)
repeated x (suc n) zero h = refl
repeated x (suc n) (suc i) h = repeated x n i (omega arith)

module _ (mode : Mode) (image : Image) where
  -- one for each processor
  pub open_count : (cpus : List Processor) → cpus ≡ map (opening_cpu mode image) (numbers_from 0 image.processors) → length cpus ≡ image.processors
  open_count cpus is = ap length is ∙ counted_numbers (opening_cpu mode image) image.processors 0

  pub open_shows : (v : Parts) → v.cpus ≡ map (opening_cpu mode image) (numbers_from 0 image.processors) → v.locals ≡ replicate (length v.cpus) start
      → memory v.mem ≡ opening_memory mode image → v.totals ≡ record { steps = 0; frames = 0; low = None }
      → Shows image.processors v (opening_system mode image)
  unfolding opening_system
  open_shows v cpus locals mem totals =
      let count : length v.cpus ≡ image.processors = open_count v.cpus cpus in record {
        processors = count;
        cpu = λ p lt. ap (λ xs. slice_get xs p) cpus ∙ numbered (opening_cpu mode image) image.processors 0 p lt
            ∙ (let e : 0 + p ≡ p = omega arith in ap (λ k. Some (opening_cpu mode image k)) e);
        own = λ p lt. ap (λ xs. slice_get xs p) locals ∙ repeated start (length v.cpus) p (subst (λ k. p < k) (sym count) lt);
        memory = mem;
        totals = totals;
      }

  pub open_run : (v : MachineView) → CanRun image → marks_in v.places ≡ marks_of mode image
      → Shows image.processors v.parts (opening_system mode image) → IsRun mode image [] v
  open_run v can marks shows = record { can = can; script_is = refl; lines_built = refl; at = record { marks = marks; shows = shows } }

  pub open_stands : (v : MachineView) → CanRun image → marks_in v.places ≡ marks_of mode image
      → Shows image.processors v.parts (opening_system mode image) → IsStanding v
  open_stands v can marks shows = record {
    mode = mode;
    image = image;
    system = opening_system mode image;
    machine = abstract.opening image;
    so = record {
      can = can;
      at = record { marks = marks; shows = shows };
      left = λ p. 0;
      stands = opens mode image can.built can.image_is;
    };
  }
