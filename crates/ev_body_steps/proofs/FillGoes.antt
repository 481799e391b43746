-- Where a block of `call` opens that fills a record: what it knows is words of the body's frame and of the record.
use Rattle.std.proofs.Common.{◌≡◌, ℕ, ◌+◌, ◌%◌, ◌<◌, ◌≤◌, Bool, true, false, List, [], ◌∷◌, get_or, map, length, refl, sym, subst}
use Rattle.std.specs.Prelude.{if◌then◌else◌}
use Rattle.ev_isa.specs.Word.{NatMap}
use Rattle.ev_isa.specs.Flags.{Flags}
use Rattle.ev_isa.specs.declared.mode.Mode.{Mode}
use Rattle.ev_isa.specs.declared.mode.Mode.TheVariants.{Idt, Fred}
use Rattle.ev_body.specs.declared.image.Image.{Image}
use Rattle.ev_body.specs.WellFormed.{IsImage}
use Rattle.ev_listing.specs.AddressMap.{record_address}
use Rattle.ev_state.specs.Processor.{Processor}
use Rattle.ev_abstract.specs.Machine.{Machine}
use Rattle.ev_concrete.specs.ConcreteRun.{System}
use Rattle.ev_built.specs.Built.{IsBuilt}
use Rattle.ev_symbolic.specs.Value.{M, V, FVar, Fact}
use Rattle.ev_symbolic.specs.State.{Win, Word, Line, Block, in_win, in_one}
use Rattle.ev_symbolic.specs.Openings.{at_base}
use Rattle.ev_symbolic.specs.Names.{item_tag}
use Rattle.ev_symbolic.specs.Agrees.{Env, Code, Stands as Lines, eval, Known, Open, Fits, At}
use Rattle.ev_symbolic.proofs.Blocks.{begins}
use Rattle.ev_distances.specs.Form.{win_of, InRecord}
use Rattle.ev_blocks.specs.Items.{BodySpot}
use Rattle.ev_blocks.specs.Blocks.{block}
use Rattle.ev_table.specs.Table.{code_table}
use Rattle.ev_relation.specs.Active.{here}
use Rattle.ev_relation.specs.Relation.{Stands}
use Rattle.ev_relation.proofs.Facts.{Facts}
use Rattle.ev_relation.proofs.Fills.{is_fill_spot, is_fill, fill_fits, fill_opens}
use Rattle.ev_relation.proofs.Fits.{InBodies}
use Rattle.ev_blocks.specs.Shapes.{item_text, ground_over, over}
use Rattle.ev_blocks.specs.Calls.{record_forms, item_opening}
use Rattle.ev_relation.proofs.ModeFacts.{is_fred}
use Rattle.ev_body_steps.proofs.Bodies.{body, layout_of}
use Rattle.ev_body_steps.proofs.CallPlaces.{IsAtOffset, IsBeside, place_behind, opens_from}
use Rattle.ev_body_steps.proofs.ItemState.{with_registers, known_of, gone}
use Rattle.ev_body_steps.proofs.KernelStep as step

-- with a window more the words are known that were
pub known_more : (e : Env) (W : List Win) (w : Win) (m : NatMap ℕ) (ws : List Word) → Known e W m ws → Known e (w ∷ W) m ws
known_more e W w m [] h = tt
known_more e W w m (x ∷ ws) h = (also (in_one w x.at) (in_win W x.at) h.0, h.1, known_more e W w m ws h.2)
  where
    also : (s t : Bool) → t ≡ true → (if s then true else t) ≡ true
    also true t q = refl
    also false t q = q

-- a spot of the mode's bodies
pub fill_in : (mode : Mode) (s : BodySpot) → is_fill_spot s ≡ true → is_fill mode (body mode s) ≡ true
fill_in Fred s h = h
fill_in Idt s h = h

-- What such a block says at its opening, but for registers, RIP and words.
pub record FillOpens (mode : Mode) (b : Block) : Type 0 where
  pub beside : IsBeside mode b.opening
  pub known : b.ground.known ≡ win_of InRecord ∷ known_of mode
  pub shared : b.ground.shared ≡ []
  pub flags : b.opening.flags ≡ FVar

-- so do those whose registers and words alone are told
pub record_opens : (mode : Mode) (facts : List Fact) (lines : List Line) (offset : ℕ) (regs : List V) (words : List Word) (steps : ℕ)
    → FillOpens mode (over (ground_over (is_fred mode) item_text (record_forms (layout_of mode)) facts) lines
    (record (item_opening (layout_of mode) offset) { regs = regs; words = words }) steps)
record_opens Fred facts lines offset regs words steps = record {
  beside = record { gs = refl; kernel_gs = refl; selector = refl; rsp0 = refl; cr2 = refl; blocked = refl };
  known = refl;
  shared = refl;
  flags = refl;
}
record_opens Idt facts lines offset regs words steps = record {
  beside = record { gs = refl; kernel_gs = refl; selector = refl; rsp0 = refl; cr2 = refl; blocked = refl };
  known = refl;
  shared = refl;
  flags = refl;
}

module _ (mode : Mode) (image : Image) (built : IsBuilt image) (good : IsImage image) (facts : Facts mode image)
    (left : NatMap ℕ) (s : System) (m : Machine) (h : Stands mode image left s m) (p : ℕ) (hp : p < image.processors)
    (o : step.Top mode image built good facts left s m h p hp) where
  abbrev code : Code
  code = code_table mode image

  abbrev c : Processor
  c = s.cpus p

  abbrev env : ℕ → (extra v : ℕ → ℕ) → Flags → Env
  env ss extra v f = here mode p o.κ o.σ ss o.w extra v f

  -- Such a block opens behind an instruction that writes nothing, and leaves these flags.
  pub fill_stands_with : (ss : ℕ) (extra v : ℕ → ℕ) (f : Flags) (offset : ℕ) (old : Flags) → IsAtOffset mode (env ss extra v f) c s.memory offset old
      → InBodies extra → (s' : BodySpot) → is_fill_spot s' ≡ true → FillOpens mode (block mode (body mode s')) → (extra' v' : ℕ → ℕ) → v 60 ≡ v' 60
      → v 61 ≡ v' 61 → v 63 ≡ v' 63 → extra' 20 ≡ extra 20 → (site : ℕ) → site < 8 → extra' 22 ≡ record_address p site → (regs : List ℕ) (g : Flags)
      (next onto : ℕ) → length regs ≡ 16
      → get_or regs 4 0 ≡ get_or c.regs 4 0 → next ≡ (extra 20 + onto) % M → (block mode (body mode s')).opening.rip ≡ at_base item_tag onto
      → regs ≡ map (eval (env ss extra' (with_registers regs v') g)) (block mode (body mode s')).opening.regs
      → Known (env ss extra' (with_registers regs v') g) (win_of InRecord ∷ known_of mode) s.memory.words (block mode (body mode s')).opening.words
      → Lines code (env ss extra' (with_registers regs v') g) (block mode (body mode s')).lines
      → At code (block mode (body mode s')) 0 (env ss extra' (with_registers regs v') g) (gone c regs g next) s.memory
  fill_stands_with ss extra v f offset old state range s' is y extra' v' other_gs chosen level base site small record_is regs g next onto long rsp rip opens
      registers known lines =
      let B : Block = block mode (body mode s') in
      let u : Env = env ss extra' (with_registers regs v') g in
      let d : Processor = gone c regs g next in
      let there : IsAtOffset mode (env ss extra v f) d s.memory onto g = place_behind mode p o.κ o.σ ss o.w extra v f c s.memory offset old state regs g next
      s.memory.words onto long rsp rip state.words in
      let seat = step.in_seat mode image built good facts left s m h p hp o in
      let fills = fill_in mode s' is in
      let windows : Open u B.ground.known s.memory.regions = fill_opens mode image p o.σ seat hp good.count.1 o.κ ss o.w extra' (with_registers regs v') g site
      small record_is (body mode s') fills s.memory h.regions_are in
      let fit : Fits code u B = fill_fits mode image p o.σ seat hp good.count.1 o.κ ss o.w extra' (with_registers regs v') g site small record_is facts mode
      (body mode s') fills (step.fred_is mode image built good facts left s m h p hp o)
      (subst (λ n. (0xffffffff82000000 ≤ n) × (n + 0x100 ≤ M)) (sym base) range) lines in
      begins code B u d s.memory fit
      (opens_from mode p o.κ o.σ ss o.w extra v f d s.memory onto g there extra' v' other_gs chosen level B.ground B.opening y.beside base opens y.flags
      registers (subst (λ W. Known u W s.memory.words B.opening.words) (sym y.known) known) windows y.shared)

  -- and leaves the flags
  pub fill_stands : (ss : ℕ) (extra v : ℕ → ℕ) (f : Flags) (offset : ℕ) (g : Flags) → IsAtOffset mode (env ss extra v f) c s.memory offset g → InBodies extra
      → (s' : BodySpot) → is_fill_spot s' ≡ true → FillOpens mode (block mode (body mode s')) → (extra' v' : ℕ → ℕ) → v 60 ≡ v' 60 → v 61 ≡ v' 61
      → v 63 ≡ v' 63 → extra' 20 ≡ extra 20 → (site : ℕ) → site < 8 → extra' 22 ≡ record_address p site → (regs : List ℕ) (next onto : ℕ) → length regs ≡ 16
      → get_or regs 4 0 ≡ get_or c.regs 4 0 → next ≡ (extra 20 + onto) % M → (block mode (body mode s')).opening.rip ≡ at_base item_tag onto
      → regs ≡ map (eval (env ss extra' (with_registers regs v') g)) (block mode (body mode s')).opening.regs
      → Known (env ss extra' (with_registers regs v') g) (win_of InRecord ∷ known_of mode) s.memory.words (block mode (body mode s')).opening.words
      → Lines code (env ss extra' (with_registers regs v') g) (block mode (body mode s')).lines
      → At code (block mode (body mode s')) 0 (env ss extra' (with_registers regs v') g) (gone c regs g next) s.memory
  fill_stands ss extra v f offset g state range s' is y extra' v' other_gs chosen level base site small record_is regs next onto =
      fill_stands_with ss extra v f offset g state range s' is y extra' v' other_gs chosen level base site small record_is regs g next onto
