-- Items that read or write a word of user code: an activation at such an item moves the local that has the address to RAX, and at the end of the block that
-- cuts it to an aligned address of the lower half it is at the visible instruction.
use Rattle.std.proofs.Common.{◌≡◌, ℕ, suc, ◌+◌, ◌%◌, ◌<◌, ◌≤◌, true, false, List, ◌∷◌, set, get_or, length, Some, refl, sym, ap, ◌∙◌, subst, arith, None}
use Rattle.std.specs.Prelude.{◌==◌, if◌then◌else◌, slice_get, bit_and}
use Rattle.std.proofs.lemmas.Bool.{ne_eqb}
use Rattle.std.proofs.lemmas.List.{length-set}
use Rattle.ev_isa.specs.Word.{NatMap}
use Rattle.ev_isa.specs.Flags.{Flags, modelled}
use Rattle.ev_isa.specs.Spelling.{spelling, four_bytes}
use Rattle.ev_isa.specs.declared.instruction.Ins.{Ins}
use Rattle.ev_isa.specs.declared.instruction.Ins.TheVariants.{MovReg}
use Rattle.ev_isa.specs.declared.mode.Mode.{Mode}
use Rattle.ev_isa.specs.declared.mode.Mode.TheVariants.{Idt, Fred}
use Rattle.ev_body.specs.declared.item.Item.{Item}
use Rattle.ev_body.specs.declared.item.Item.TheVariants.{Uget, Uput}
use Rattle.ev_body.specs.declared.body.Body.{Body}
use Rattle.ev_body.specs.declared.image.Image.{Image}
use Rattle.ev_body.specs.WellFormed.{IsImage}
use Rattle.ev_listing.specs.Expansion.{item_address}
use Rattle.ev_state.specs.Processor.{Processor, register, is_user}
use Rattle.ev_mem.specs.Memory.{Memory}
use Rattle.ev_abstract.specs.Context.{BodyContext, local}
use Rattle.ev_abstract.specs.Machine.{Machine, processor}
use Rattle.ev_abstract.specs.Machine as abstract
use Rattle.ev_abstract.specs.Run.{item_at}
use Rattle.ev_concrete.specs.ConcreteRun.{System, is_return}
use Rattle.ev_built.specs.Built.{IsBuilt}
use Rattle.ev_symbolic.specs.Value.{M, K, X}
use Rattle.ev_symbolic.specs.Agrees.{Env, eval, eval_flags, edge_cell, Code, Fits, Stands as LinesStand, At}
use Rattle.ev_symbolic.specs.Listed.{lines_at}
use Rattle.ev_symbolic.specs.Openings.{at_base}
use Rattle.ev_symbolic.specs.Names.{item_tag}
use Rattle.ev_symbolic.proofs.Blocks.{unsome, begins, at_end}
use Rattle.ev_blocks.specs.Shapes.{FredFrame, IdtFrame}
use Rattle.ev_blocks.specs.Items.{AtItem, AtUserWord, mask_code, masked}
use Rattle.ev_blocks.specs.Blocks.{Spot, block, edges}
use Rattle.ev_blocks.specs.Blocks as blocks
use Rattle.ev_blocks.proofs.Falls.{edges_fall}
use Rattle.ev_paths.specs.Ends.{TellsNoCr2}
use Rattle.ev_paths.proofs.BodyEnds.{body_ends, body_untold}
use Rattle.ev_activation.specs.Seat.{Kind, Seat}
use Rattle.ev_symbolic.specs.Single.{onward, Leads}
use Rattle.ev_symbolic.proofs.Single.{singles}
use Rattle.ev_table.specs.Table.{code_table}
use Rattle.ev_relation.specs.Filling.{first_fill}
use Rattle.ev_relation.specs.Active.{item_place, address_of_item, address_local, here, IsKernelSs, InItem, Active}
use Rattle.ev_relation.specs.Relation.{switches_at, StandsOn, Stands}
use Rattle.ev_relation.specs.Step.{Simulated}
use Rattle.ev_relation.proofs.Facts.{Facts}
use Rattle.ev_body_steps.proofs.Bodies.{body, at_the_item, saved_again, means_at}
use Rattle.ev_relation.proofs.CallKinds.{origin_of}
use Rattle.ev_body_steps.proofs.ItemCells.{before, visible_of, EdgesFrom, edges_stand, ItemCells}
use Rattle.ev_body_steps.proofs.ItemCode.{cells_of}
use Rattle.ev_body_steps.proofs.ItemState.{ItemState, item_state}
use Rattle.ev_body_steps.proofs.ItemVisible as visible
use Rattle.ev_body_steps.proofs.KernelStep as step

-- ---- the block that cuts the address

-- another number in RAX
abbrev pub with_rax_variable : ℕ → (ℕ → ℕ) → ℕ → ℕ
with_rax_variable n v i = if i == 0 then n else v i

-- it begins as an item's block does, behind the move to RAX
begins_address : (mode : Mode) (code : Code) (p : ℕ) (κ : Kind) (σ : Seat) (ss : ℕ) (w : Processor) (extra v : ℕ → ℕ) (f : Flags) (c : Processor) (m : Memory)
    (n rip : ℕ) → At code (block mode (body mode AtItem)) 0 (here mode p κ σ ss w extra v f) c m
    → Fits code (here mode p κ σ ss w extra (with_rax_variable n v) f) (block mode (body mode AtItem))
    → LinesStand code (here mode p κ σ ss w extra (with_rax_variable n v) f) (lines_at (at_base item_tag 3) mask_code) → rip ≡ (extra 20 + 3) % M
    → At code (block mode (body mode AtUserWord)) 0 (here mode p κ σ ss w extra (with_rax_variable n v) f) (onward c (set c.regs 0 n) rip) m
unfolding eval eval_flags
begins_address Fred code p κ σ ss w extra v f c m n rip at fits stand is =
    let a = at_end code (block Fred (body Fred AtItem)) 0 _ refl (here Fred p κ σ ss w extra v f) c m at in
    begins code (block Fred (body Fred AtUserWord)) (here Fred p κ σ ss w extra (with_rax_variable n v) f) (onward c (set c.regs 0 n) rip) m
    (record { ground = fits.ground; spaced = fits.spaced; stands = stand })
    (record {
      regs = ap (λ (xs : List ℕ). set xs 0 n) a.regs;
      rip = is;
      flags = a.flags;
      gs = a.gs;
      kernel_gs = a.kernel_gs;
      selector = a.selector;
      cr2 = a.cr2;
      levels = a.levels;
      blocked = refl;
      rest = a.rest;
      words = a.words;
      known_open = a.known_open;
      shared_open = a.shared_open;
    })
begins_address Idt code p κ σ ss w extra v f c m n rip at fits stand is =
    let a = at_end code (block Idt (body Idt AtItem)) 0 _ refl (here Idt p κ σ ss w extra v f) c m at in
    begins code (block Idt (body Idt AtUserWord)) (here Idt p κ σ ss w extra (with_rax_variable n v) f) (onward c (set c.regs 0 n) rip) m
    (record { ground = fits.ground; spaced = fits.spaced; stands = stand })
    (record {
      regs = ap (λ (xs : List ℕ). set xs 0 n) a.regs;
      rip = is;
      flags = a.flags;
      gs = a.gs;
      kernel_gs = a.kernel_gs;
      selector = a.selector;
      cr2 = a.cr2;
      levels = a.levels;
      blocked = refl;
      rest = a.rest;
      words = a.words;
      known_open = a.known_open;
      shared_open = a.shared_open;
    })

address_falls : (mode : Mode) → edges mode (body mode AtUserWord) 0 < edges mode (body mode AtItem) 0
address_falls Fred = (edges_fall Fred).item FredFrame AtUserWord refl
address_falls Idt = (edges_fall Idt).item IdtFrame AtUserWord refl

pub address_plain : (mode : Mode) → blocks.switches (body mode AtUserWord) ≡ false
address_plain Fred = refl
address_plain Idt = refl

pub address_steps : (mode : Mode) → (block mode (body mode AtUserWord)).steps ≡ 2
address_steps Fred = refl
address_steps Idt = refl

pub address_untold : (mode : Mode) → TellsNoCr2 (block mode (body mode AtUserWord))
address_untold Fred = body_untold true FredFrame AtUserWord
address_untold Idt = body_untold false IdtFrame AtUserWord

-- what its end says, with some flags
pub record AddressEnd (mode : Mode) (e : Env) (c : Processor) (m : Memory) : Type 0 where
  pub flags : Flags
  pub state : ItemState mode e c m 16 masked (K 0x7ffffffffff8) (X 2) flags

address_ends : (mode : Mode) (code : Code) (e : Env) (c : Processor) (m : Memory) → At code (block mode (body mode AtUserWord)) 2 e c m
    → AddressEnd mode e c m
address_ends Fred code e c m at =
    let z = (body_ends true FredFrame).user_word in
    record {
      flags = _;
      state = item_state Fred e (block Fred (body Fred AtUserWord)).ground z.z c m 16 masked (K 0x7ffffffffff8) (X 2) refl z.is
          (at_end code (block Fred (body Fred AtUserWord)) 2 z.z z.runs e c m at);
    }
address_ends Idt code e c m at =
    let z = (body_ends false IdtFrame).user_word in
    record {
      flags = _;
      state = item_state Idt e (block Idt (body Idt AtUserWord)).ground z.z c m 16 masked (K 0x7ffffffffff8) (X 2) refl z.is
          (at_end code (block Idt (body Idt AtUserWord)) 2 z.z z.runs e c m at);
    }

-- items with such an address
address_before : (i : Item) (r : ℕ) → address_local (Some i) ≡ Some r → before i ≡ MovReg 0 r ∷ mask_code
unfolding address_local before
address_before (Uget d q) r h = ap (λ x. MovReg 0 x ∷ mask_code) (unsome _ _ h)
address_before (Uput q t) r h = ap (λ x. MovReg 0 x ∷ mask_code) (unsome _ _ h)
address_before _ r h = absurd (cc)

-- a move is no return
pub move_stays : (r : ℕ) → is_return (Some (MovReg 0 r)) ≡ false
unfolding is_return
move_stays r = refl

module _ (mode : Mode) (image : Image) (built : IsBuilt image) (good : IsImage image) (facts : Facts mode image)
    (left : NatMap ℕ) (s : System) (m : Machine) (h : Stands mode image left s m) (p : ℕ) (hp : p < image.processors)
    (o : step.Top mode image built good facts left s m h p hp) (body' : Body) (is : slice_get image.bodies o.b.body ≡ Some body') where
  abbrev code : Code
  code = code_table mode image

  abbrev c : Processor
  c = s.cpus p

  abbrev x : abstract.Processor
  x = processor m p

  abbrev b : BodyContext
  b = o.b

  abbrev on : StandsOn mode image p (left p) s x
  on = step.on mode image built good facts left s m h p hp

  abbrev env : ℕ → (extra v : ℕ → ℕ) → Flags → Env
  env ss extra v f = here mode p o.κ o.σ ss o.w extra v f

  abbrev Stood : ℕ → BodyContext → Processor → Memory → Type 0
  Stood now b cpu mem = Active mode image p now o.κ o.σ on.frame (switches_at mode image on.switching o.below) (first_fill on.fills) o.w b cpu mem

  -- At the item: the move is an edge.
  pub to_address : first_fill on.fills ≡ None → (act : Stood on.own b c s.memory) (ss : ℕ) → IsKernelSs mode ss → (extra v : ℕ → ℕ) (f : Flags)
      → At code (block mode (body mode AtItem)) 0 (env ss extra v f) c s.memory → InItem mode image (origin_of o.κ) (env ss extra v f) o.w b s.memory.words
      → extra 20 ≡ item_place mode image b.body b.place → length c.regs ≡ 16 → edges mode (body mode AtItem) 0 ≤ on.own → is_user c ≡ false
      → (i : Item) (ins : Ins) → visible_of i ≡ Some ins → item_at (Some body') b.place ≡ Some i → (r : ℕ) → address_local (Some i) ≡ Some r
      → register c r ≡ local b r → c.flags ≡ modelled c.flags → c.rip ≡ item_address mode b.body body' b.place
      → Simulated mode image left s m p
  unfolding spelling four_bytes
  to_address unfilled act ss ss_is extra v f at means place long enough hu i ins seen hi r of_item value flags rip_is =
      let a : ℕ = item_address mode b.body body' b.place in
      let n : ℕ = local b r in
      let u : ℕ → ℕ = with_rax_variable n v in
      let e : Env = env ss extra u f in
      let base : extra 20 ≡ a = place ∙ ap (address_of_item mode b.body b.place) is in
      let range = facts.item_range b.body b.place body' is in
      let low = range.0 in let high = range.1 in
      let cells : ItemCells code a (item_address mode b.body body' (suc b.place)) i ins = cells_of mode image facts b.body body' is b.place i ins hi seen in
      let from : EdgesFrom code a (MovReg 0 r ∷ mask_code) = subst (EdgesFrom code a) (address_before i r of_item) cells.edges in
      let stand = edges_stand code e a 3 mask_code base (omega arith) from.1 in
      let falls = address_falls mode in
      let way = at_the_item mode in
      let plain = step.plain_kind mode image built good facts left s m h p hp o in
      let cell : code c.rip ≡ Some (edge_cell (MovReg 0 r) (a + 3)) = ap code rip_is ∙ from.0 in
      let there : a + 3 ≡ (extra 20 + 3) % M = (let z : a + 3 ≡ (a + 3) % M = omega arith in z) ∙ ap (λ x. (x + 3) % M) (sym base) in
      step.goes mode image built good facts left s m h p hp o body' is unfilled act (body mode AtUserWord) ss ss_is extra u f
      (step.masks mode image built good facts left s m h p hp o (block mode (body mode AtItem)) 0 (env ss extra v f) at) hu
      (record {
        step = record {
          ins = MovReg 0 r;
          next = a + 3;
          cell = cell;
          cpu = onward c (set c.regs 0 n) (a + 3);
          leads = subst (λ x. Leads c s.memory (MovReg 0 r) (onward c (set c.regs 0 x) (a + 3)) s.memory.words) value
              ((singles c s.memory (a + 3)).moves 0 r (record { kernel = hu; flags = flags; ends = ap (λ x. x + 3) rip_is }));
          at = begins_address mode code p o.κ o.σ ss o.w extra v f c s.memory n (a + 3) at
              (step.fits mode image built good facts left s m h p hp o body' is (body mode AtItem) way.over ss extra u f place tt (way.told e))
              stand there;
          long = length-set c.regs 0 n;
          blocking = refl;
          same = refl;
        };
        inner = move_stays r;
      })
      (omega arith) long (address_plain mode) refl
      (means_at mode image o.κ plain AtUserWord e o.w b (first_fill on.fills) s.memory.words (
        record {
          saved = saved_again mode image (origin_of o.κ) (env ss extra v f) e o.w (λ i low. beside_rax n v i low) refl refl refl means.saved;
          locals = means.locals;
          flags = means.flags;
          calls = means.calls;
        },
        place,
        record { register = r; is = ap (λ o. address_local (item_at o b.place)) is ∙ ap address_local hi ∙ of_item; rax = refl },
      ))
    where
      beside_rax : (n : ℕ) (v : ℕ → ℕ) (i : ℕ) → 16 ≤ i → with_rax_variable n v i ≡ v i
      beside_rax n v i low = ap (λ t. if t then n else v i) (ne_eqb i 0 (λ e. let z : ⊥ = omega arith in z))

  -- at the block's end the visible instruction comes, with the address in RAX
  pub record AtTheWord (ss : ℕ) (extra v : ℕ → ℕ) (f : Flags) : Type 0 where
    pub visible : visible.AtVisible mode image built good facts left s m h p hp o body' is ss extra v f
    pub offset : visible.offset ≡ 16
    pub rax : register c 0 ≡ bit_and (v 0) 0x7ffffffffff8

  pub at_address : first_fill on.fills ≡ None → (act : Stood on.own b c s.memory) (ss : ℕ) → IsKernelSs mode ss → (extra v : ℕ → ℕ) (f : Flags)
      → At code (block mode (body mode AtUserWord)) 2 (env ss extra v f) c s.memory → InItem mode image (origin_of o.κ) (env ss extra v f) o.w b s.memory.words
      → extra 20 ≡ item_place mode image b.body b.place → length c.regs ≡ 16 → AtTheWord ss extra v f
  unfolding eval
  at_address unfilled act ss ss_is extra v f at means place long =
      let z = address_ends mode code (env ss extra v f) c s.memory at in
      record {
        visible = record {
          unfilled = unfilled;
          act = act;
          ss_is = ss_is;
          means = means;
          place = place;
          long = long;
          kernel = ap is_user at.agrees.rest;
          offset = 16;
          rax = masked;
          rcx = K 0x7ffffffffff8;
          rdx = X 2;
          flags = z.flags;
          state = z.state;
        };
        offset = refl;
        rax = ap (λ (xs : List ℕ). get_or xs 0 0) z.state.regs;
      }
