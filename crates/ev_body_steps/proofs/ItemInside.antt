-- Items that begin with a number for RAX: an activation at such an item is at the beginning of the block of that number, and at the block's end it is at the
-- visible instruction.
use Rattle.std.proofs.Common.{◌≡◌, ℕ, suc, ◌+◌, ◌<◌, ◌≤◌, false, [], ◌∷◌, length, Some, refl, sym, ap, ◌∙◌, subst, arith, None}
use Rattle.std.specs.Prelude.{is_some, slice_get}
use Rattle.ev_isa.specs.Word.{NatMap}
use Rattle.ev_isa.specs.Flags.{Flags}
use Rattle.ev_isa.specs.Spelling.{spelling, four_bytes}
use Rattle.ev_isa.specs.declared.instruction.Ins.{Ins}
use Rattle.ev_isa.specs.declared.instruction.Ins.TheVariants.{MovImm}
use Rattle.ev_isa.specs.declared.mode.Mode.{Mode}
use Rattle.ev_isa.specs.declared.mode.Mode.TheVariants.{Idt, Fred}
use Rattle.ev_body.specs.declared.item.Item.{Item}
use Rattle.ev_body.specs.declared.item.Item.TheVariants.{SetCell, AddCell, SwapCell, SetRip, Resched}
use Rattle.ev_body.specs.declared.body.Body.{Body}
use Rattle.ev_body.specs.declared.image.Image.{Image}
use Rattle.ev_body.specs.WellFormed.{IsImage}
use Rattle.ev_listing.specs.Expansion.{item_address}
use Rattle.ev_state.specs.Processor.{Processor, is_user}
use Rattle.ev_mem.specs.Memory.{Memory}
use Rattle.ev_abstract.specs.Context.{BodyContext}
use Rattle.ev_abstract.specs.Machine.{Machine, processor}
use Rattle.ev_abstract.specs.Machine as abstract
use Rattle.ev_abstract.specs.Run.{item_at}
use Rattle.ev_concrete.specs.ConcreteRun.{System}
use Rattle.ev_built.specs.Built.{IsBuilt}
use Rattle.ev_symbolic.specs.Value.{K, X}
use Rattle.ev_symbolic.specs.State.{SS}
use Rattle.ev_symbolic.specs.Run.{brun}
use Rattle.ev_symbolic.specs.Agrees.{Env, eval_flags, Code, Stands as LinesStand, At}
use Rattle.ev_symbolic.specs.Listed.{lines_at}
use Rattle.ev_symbolic.specs.Openings.{at_base}
use Rattle.ev_symbolic.specs.Names.{item_tag}
use Rattle.ev_symbolic.proofs.Blocks.{unsome, begins, at_end}
use Rattle.ev_blocks.specs.Shapes.{FredFrame, IdtFrame}
use Rattle.ev_blocks.specs.Items.{AtItem, AtNumber}
use Rattle.ev_blocks.specs.Blocks.{Spot, block, edges}
use Rattle.ev_blocks.specs.Blocks as blocks
use Rattle.ev_blocks.proofs.Falls.{edges_fall}
use Rattle.ev_table.specs.Table.{code_table}
use Rattle.ev_relation.specs.Filling.{first_fill}
use Rattle.ev_relation.specs.Active.{item_place, address_of_item, number_of, here, IsKernelSs, InItem, Active}
use Rattle.ev_relation.specs.Relation.{switches_at, StandsOn, Stands}
use Rattle.ev_relation.specs.Step.{Simulated}
use Rattle.ev_relation.proofs.Facts.{Facts}
use Rattle.ev_body_steps.proofs.Bodies.{body, means_at}
use Rattle.ev_relation.proofs.CallKinds.{origin_of, plain_knows}
use Rattle.ev_body_steps.proofs.ItemCells.{before, visible_of, EdgesFrom, edges_stand, ItemCells}
use Rattle.ev_body_steps.proofs.ItemCode.{cells_of}
use Rattle.ev_body_steps.proofs.ItemState.{with_three, opening_of, ItemState, item_state}
use Rattle.ev_body_steps.proofs.ItemVisible as visible
use Rattle.ev_body_steps.proofs.KernelStep as step

-- ---- the block of a number

-- where it ends
abbrev number_end : Mode → ℕ → SS
number_end mode n = record (opening_of mode) { rip = at_base item_tag 10; regs = with_three mode (K n) (X 1) (X 2) }

number_runs : (mode : Mode) (n : ℕ) → brun (block mode (body mode (AtNumber n))) 1 ≡ Some (number_end mode n)
unfolding spelling four_bytes
number_runs Fred n = refl
number_runs Idt n = refl

pub number_steps : (mode : Mode) (n : ℕ) → (block mode (body mode (AtNumber n))).steps ≡ 1
number_steps Fred n = refl
number_steps Idt n = refl

-- it begins as an item's block does
begins_number : (mode : Mode) (code : Code) (e : Env) (c : Processor) (m : Memory) (n : ℕ) → At code (block mode (body mode AtItem)) 0 e c m
    → LinesStand code e (lines_at (at_base item_tag 0) (MovImm 0 n ∷ [])) → At code (block mode (body mode (AtNumber n))) 0 e c m
begins_number Fred code e c m n at stand =
    begins code (block Fred (body Fred (AtNumber n))) e c m (record { ground = at.fits.ground; spaced = at.fits.spaced; stands = stand })
    (at_end code (block Fred (body Fred AtItem)) 0 _ refl e c m at)
begins_number Idt code e c m n at stand =
    begins code (block Idt (body Idt (AtNumber n))) e c m (record { ground = at.fits.ground; spaced = at.fits.spaced; stands = stand })
    (at_end code (block Idt (body Idt AtItem)) 0 _ refl e c m at)

number_falls : (mode : Mode) (n : ℕ) → edges mode (body mode (AtNumber n)) 0 < edges mode (body mode AtItem) 0
number_falls Fred n = (edges_fall Fred).item FredFrame (AtNumber n) refl
number_falls Idt n = (edges_fall Idt).item IdtFrame (AtNumber n) refl

number_plain : (mode : Mode) (n : ℕ) → blocks.switches (body mode (AtNumber n)) ≡ false
number_plain Fred n = refl
number_plain Idt n = refl

-- what its end says
pub number_ends : (mode : Mode) (code : Code) (n : ℕ) (e : Env) (c : Processor) (m : Memory) → At code (block mode (body mode (AtNumber n))) 1 e c m
    → ItemState mode e c m 10 (K n) (X 1) (X 2) e.flags
unfolding eval_flags
number_ends Fred code n e c m at =
    item_state Fred e (block Fred (body Fred (AtNumber n))).ground (number_end Fred n) c m 10 (K n) (X 1) (X 2) refl refl
    (at_end code (block Fred (body Fred (AtNumber n))) 1 (number_end Fred n) (number_runs Fred n) e c m at)
number_ends Idt code n e c m at =
    item_state Idt e (block Idt (body Idt (AtNumber n))).ground (number_end Idt n) c m 10 (K n) (X 1) (X 2) refl refl
    (at_end code (block Idt (body Idt (AtNumber n))) 1 (number_end Idt n) (number_runs Idt n) e c m at)

-- items of a number
pub before_is : (i : Item) (n : ℕ) → number_of (Some i) ≡ Some n → before i ≡ MovImm 0 n ∷ []
unfolding number_of before
before_is (Item.Cell d k) n h = ap (λ x. MovImm 0 x ∷ []) (unsome _ _ h)
before_is (SetCell k r) n h = ap (λ x. MovImm 0 x ∷ []) (unsome _ _ h)
before_is (AddCell k d) n h = ap (λ x. MovImm 0 x ∷ []) (unsome _ _ h)
before_is (SwapCell k d) n h = ap (λ x. MovImm 0 x ∷ []) (unsome _ _ h)
before_is (SetRip a) n h = ap (λ x. MovImm 0 x ∷ []) (unsome _ _ h)
before_is Resched n h = ap (λ x. MovImm 0 x ∷ []) (unsome _ _ h)
before_is _ n h = absurd (cc)

module _ (mode : Mode) (image : Image) (built : IsBuilt image) (good : IsImage image) (facts : Facts mode image)
    (left : NatMap ℕ) (s : System) (m : Machine) (h : Stands mode image left s m) (p : ℕ) (hp : p < image.processors)
    (o : step.Top mode image built good facts left s m h p hp) (body' : Body) (is : slice_get image.bodies o.b.body ≡ Some body') where
  abbrev code : Code
  code = code_table mode image

  abbrev c : Processor
  c = s.cpus p

  abbrev x : abstract.Processor
  x = processor m p

  abbrev b : BodyContext
  b = o.b

  abbrev on : StandsOn mode image p (left p) s x
  on = step.on mode image built good facts left s m h p hp

  abbrev env : ℕ → (extra v : ℕ → ℕ) → Flags → Env
  env ss extra v f = here mode p o.κ o.σ ss o.w extra v f

  abbrev Stood : ℕ → BodyContext → Processor → Memory → Type 0
  Stood now b cpu mem = Active mode image p now o.κ o.σ on.frame (switches_at mode image on.switching o.below) (first_fill on.fills) o.w b cpu mem

  -- At the item: the load of the number is an edge.
  pub to_number : first_fill on.fills ≡ None → (act : Stood on.own b c s.memory) (ss : ℕ) → IsKernelSs mode ss → (extra v : ℕ → ℕ) (f : Flags)
      → At code (block mode (body mode AtItem)) 0 (env ss extra v f) c s.memory → InItem mode image (origin_of o.κ) (env ss extra v f) o.w b s.memory.words
      → extra 20 ≡ item_place mode image b.body b.place → length c.regs ≡ 16 → edges mode (body mode AtItem) 0 ≤ on.own
      → (i : Item) (ins : Ins) → visible_of i ≡ Some ins → item_at (Some body') b.place ≡ Some i → (n : ℕ) → number_of (Some i) ≡ Some n
      → Simulated mode image left s m p
  unfolding spelling four_bytes
  to_number unfilled act ss ss_is extra v f at means place long enough i ins seen hi n number =
      let e : Env = env ss extra v f in
      let a : ℕ = item_address mode b.body body' b.place in
      let base : extra 20 ≡ a = place ∙ ap (address_of_item mode b.body b.place) is in
      let range = facts.item_range b.body b.place body' is in
      let low = range.0 in let high = range.1 in
      let cells : ItemCells code a (item_address mode b.body body' (suc b.place)) i ins = cells_of mode image facts b.body body' is b.place i ins hi seen in
      let from : EdgesFrom code (a + 0) (MovImm 0 n ∷ []) = subst (λ y. EdgesFrom code y (MovImm 0 n ∷ [])) (let z : a ≡ a + 0 = omega arith in z)
      (subst (EdgesFrom code a) (before_is i n number) cells.edges) in
      let stand = edges_stand code e a 0 (MovImm 0 n ∷ []) base (omega arith) from in
      let falls = number_falls mode n in
      let one = number_steps mode n in
      step.inside mode image built good facts left s m h p hp o (record {
        stands = record {
          spot = body mode (AtNumber n);
          k = 0;
          extra = extra;
          var = v;
          flags = f;
          ss = ss;
          ss_is = ss_is;
          masked = step.masks mode image built good facts left s m h p hp o (block mode (body mode AtItem)) 0 e at;
          within = omega arith;
          enough = omega arith;
          at = begins_number mode code e c s.memory n at stand;
          long = long;
        };
        switches = number_plain mode n ∙ sym o.off;
        fills = sym (ap is_some unfilled);
        knows = plain_knows mode o.κ on.frame (step.plain_kind mode image built good facts left s m h p hp o) (blocks.holds (body mode (AtNumber n)));
        means = means_at mode image o.κ (step.plain_kind mode image built good facts left s m h p hp o) (AtNumber n) e o.w b
            (first_fill on.fills) s.memory.words
            (means, place, ap (λ o. number_of (item_at o b.place)) is ∙ ap number_of hi ∙ number);
      }) refl (omega arith)

  -- at the block's end the visible instruction comes, with the number in RAX
  unfoldable pub at_number : first_fill on.fills ≡ None → (act : Stood on.own b c s.memory) (ss : ℕ) → IsKernelSs mode ss
      → (extra v : ℕ → ℕ) (f : Flags) (n : ℕ)
      → At code (block mode (body mode (AtNumber n))) 1 (env ss extra v f) c s.memory → InItem mode image (origin_of o.κ)
      (env ss extra v f) o.w b s.memory.words
      → extra 20 ≡ item_place mode image b.body b.place → length c.regs ≡ 16
      → visible.AtVisible mode image built good facts left s m h p hp o body' is ss extra v f
  at_number unfilled act ss ss_is extra v f n at means place long = record {
    unfilled = unfilled;
    act = act;
    ss_is = ss_is;
    means = means;
    place = place;
    long = long;
    kernel = ap is_user at.agrees.rest;
    offset = 10;
    rax = K n;
    rcx = X 1;
    rdx = X 2;
    flags = f;
    state = number_ends mode code n (env ss extra v f) c s.memory at;
  }
