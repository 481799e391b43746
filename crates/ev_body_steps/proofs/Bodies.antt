-- The way from the table of bodies to a body's first item, in either mode.
use Rattle.std.proofs.Common.{◌≡◌, ◌≢◌, ℕ, ◌+◌, ◌-◌, ◌/◌, ◌%◌, ◌^◌, ◌<◌, ◌≤◌, Bool, true, false, ◌&&◌, List, [], ◌∷◌, ◌++◌, get_or, map, Some, refl, sym, ap, ◌∙◌, subst, arith, Option}
use Rattle.std.specs.Prelude.{pos, ◌==◌, nat_lt}
use Rattle.std.proofs.lemmas.Bool.{eqb-true, eq-eqb}
use Rattle.ev_isa.specs.Word.{NatMap, displaced, is_canonical, bit}
use Rattle.ev_isa.specs.Flags.{Flags}
use Rattle.ev_isa.specs.declared.instruction.Ins.{Ins}
use Rattle.ev_isa.specs.declared.instruction.Ins.TheVariants.{Load, JmpReg}
use Rattle.ev_isa.specs.declared.mode.Mode.{Mode}
use Rattle.ev_isa.specs.declared.mode.Mode.TheVariants.{Idt, Fred}
use Rattle.ev_state.specs.Processor.{Processor, register, rsp, selector}
use Rattle.ev_body.specs.declared.image.Image.{Image}
use Rattle.ev_mem.specs.Memory.{Memory}
use Rattle.ev_listing.specs.AddressMap.{pcpu, exit_entry}
use Rattle.ev_abstract.specs.Context.{BodyContext}
use Rattle.ev_symbolic.specs.Value.{M, V, FVar, K, P}
use Rattle.ev_symbolic.specs.State.{SS, Win, Word, Block, in_win, absolute, top_tag}
use Rattle.ev_symbolic.specs.Openings.{word, gs_word, at_base, all_regs, gs_tag}
use Rattle.ev_symbolic.specs.Names.{saved, frame_rip, frame_flags, says_ring}
use Rattle.ev_symbolic.specs.Agrees.{Env, Cell, Code, edge_cell, eval, eval_flags, addr, Known, IsTold, FactsHold, IsOpen, Open, Fits, Agrees, At}
use Rattle.ev_concrete.specs.ConcreteRun.{is_return}
use Rattle.ev_symbolic.proofs.Blocks.{unsome, at_end}
use Rattle.ev_symbolic.proofs.Values.{and_left, and_right}
use Rattle.ev_distances.specs.Form.{OnStack, InArea, wins_of}
use Rattle.ev_blocks.specs.Shapes.{Origin, UserCode, KernelCode, FredFrame, IdtFrame, body_bytes, body_words}
use Rattle.ev_blocks.specs.Fred.{FredToKernel, FredToTask, fexit}
use Rattle.ev_blocks.specs.Fred as fred
use Rattle.ev_blocks.specs.Idt.{IdtReturn, BySysret, ByOtherRip, ByOtherFlags, IdtToKernel, IdtToTask}
use Rattle.ev_blocks.specs.Idt as idt
use Rattle.ev_blocks.specs.Items.{BodySpot, AtTable, AtJump, AtItem, table_load, body_jump, body_block}
use Rattle.ev_blocks.specs.Blocks.{Spot, InFred, InIdt, InBody, block, forms, edges}
use Rattle.ev_blocks.specs.Blocks as blocks
use Rattle.ev_blocks.proofs.Falls.{edges_fall}
use Rattle.ev_grounds.proofs.Facts.{facts_tell}
use Rattle.ev_activation.specs.Seat.{Kind, SystemCall, FromTask, FromBody, NmiFromTask, NmiFromBody, Seat}
use Rattle.ev_user.specs.Words.{AreWords}
use Rattle.ev_table.specs.Table.{other_exit}
use Rattle.ev_relation.specs.Filling.{Filling}
use Rattle.ev_relation.specs.Active.{here, Saved, SavedOf, Matches, AtLoad, InSpot, Leaving, Means}
use Rattle.ev_relation.proofs.Spots.{is_spot, IsAtEntry}
pub use Rattle.ev_relation.proofs.Spots.{layout_of, body}
use Rattle.ev_relation.proofs.CallKinds.{is_over_task, is_over_body, is_plain_kind, origin_of, leaves_task, leaves_body}
use Rattle.ev_paths.specs.Lines.{HasKernel}
use Rattle.ev_paths.proofs.Cells.{fred_cells, idt_cells}
use Rattle.ev_deliver.specs.GoesOn.{GoesOn, with_rax, with_item}
use Rattle.ev_deliver.proofs.GoesOn.{table_loads, body_jumps}

-- an edge to the opening of a block, by an instruction that is no return
pub record Goes (code : Code) (c : Processor) (m : Memory) (b : Block) (e : Env) : Type 0 where
  pub step : GoesOn code c m b e
  pub inner : is_return (Some step.ins) ≡ false

pub goes_by : (code : Code) (c : Processor) (m : Memory) (b : Block) (e : Env) (j : Ins) (k a : ℕ) → GoesOn code c m b e → c.rip ≡ a
    → code a ≡ Some (edge_cell j k) → is_return (Some j) ≡ false → Goes code c m b e
goes_by code c m b e j k a g rip cell h =
    let same : edge_cell g.ins g.next ≡ edge_cell j k = unsome _ _ (sym g.cell ∙ ap code rip ∙ cell) in
    record { step = g; inner = ap (λ (y : Cell). is_return (Some y.ins)) same ∙ h }

-- an absolute address is the number
pub at_code : (e : Env) (n : ℕ) → e.base 1000 ≡ 0 → n % M ≡ n → addr e (absolute n) ≡ n
at_code e n z small = let h : (e.base 1000 + n) % M ≡ n = omega arith in h

-- the load of the body's address leads to the jump
pub loads : (mode : Mode) (code : Code) (e : Env) (c : Processor) (m : Memory) (a t : ℕ) → HasKernel mode code
    → At code (block mode (body mode AtTable)) 0 e c m → displaced (register c 0) (pos 0) ≡ a → IsOpen m.regions a → m.words a ≡ t
    → Fits code (with_rax e t) (block mode (body mode AtJump)) → Open (with_rax e t) (block mode (body mode AtJump)).ground.known m.regions
    → Goes code c m (block mode (body mode AtJump)) (with_rax e t)
unfolding is_return
loads Fred code e c m a t k at p o w f g =
    let cells = (fred_cells code k).table in
    let rip = (at_end code (body_block true FredFrame AtTable) 0 _ refl e c m at).rip in
    goes_by code c m _ _ (Load 0 0 (pos 0)) _ (table_load FredFrame) (table_loads code true FredFrame e c m a t cells at p o w f g)
    (rip ∙ at_code e (table_load FredFrame) at.fits.ground.zero_base refl) cells.load refl
loads Idt code e c m a t k at p o w f g =
    let cells = (idt_cells code k).table in
    let rip = (at_end code (body_block false IdtFrame AtTable) 0 _ refl e c m at).rip in
    goes_by code c m _ _ (Load 0 0 (pos 0)) _ (table_load IdtFrame) (table_loads code false IdtFrame e c m a t cells at p o w f g)
    (rip ∙ at_code e (table_load IdtFrame) at.fits.ground.zero_base refl) cells.load refl

-- and that to the first item
pub jumps : (mode : Mode) (code : Code) (e : Env) (c : Processor) (m : Memory) → HasKernel mode code
    → At code (block mode (body mode AtJump)) 0 e c m → is_canonical (e.var 0) ≡ true → e.var 0 < M
    → Fits code (with_item e (e.var 0)) (block mode (body mode AtItem)) → Open (with_item e (e.var 0)) (block mode (body mode AtItem)).ground.known m.regions
    → Goes code c m (block mode (body mode AtItem)) (with_item e (e.var 0))
unfolding is_return
jumps Fred code e c m k at h l f g =
    let cells = (fred_cells code k).table in
    let rip = (at_end code (body_block true FredFrame AtJump) 0 _ refl e c m at).rip in
    goes_by code c m _ _ (JmpReg 0) _ (body_jump FredFrame) (body_jumps code true FredFrame e c m cells at h l f g)
    (rip ∙ at_code e (body_jump FredFrame) at.fits.ground.zero_base refl) cells.jump refl
jumps Idt code e c m k at h l f g =
    let cells = (idt_cells code k).table in
    let rip = (at_end code (body_block false IdtFrame AtJump) 0 _ refl e c m at).rip in
    goes_by code c m _ _ (JmpReg 0) _ (body_jump IdtFrame) (body_jumps code false IdtFrame e c m cells at h l f g)
    (rip ∙ at_code e (body_jump IdtFrame) at.fits.ground.zero_base refl) cells.jump refl

-- ---- the blocks on that way have no facts, and tell of no switch and no NMI's frame

pub record OnTheWay (mode : Mode) (s : BodySpot) : Type 0 where
  pub over : is_spot mode (body mode s) ≡ true
  pub off : blocks.switches (body mode s) ≡ false
  pub free : blocks.holds (body mode s) ≡ false
  pub told : (e : Env) → FactsHold e (block mode (body mode s)).ground.facts
  pub steps : (block mode (body mode s)).steps ≡ 0

pub at_the_table : (mode : Mode) → OnTheWay mode AtTable
at_the_table Fred = record { over = refl; off = refl; free = refl; told = λ e. tt; steps = refl }
at_the_table Idt = record { over = refl; off = refl; free = refl; told = λ e. tt; steps = refl }

pub at_the_jump : (mode : Mode) → OnTheWay mode AtJump
at_the_jump Fred = record { over = refl; off = refl; free = refl; told = λ e. tt; steps = refl }
at_the_jump Idt = record { over = refl; off = refl; free = refl; told = λ e. tt; steps = refl }

pub at_the_item : (mode : Mode) → OnTheWay mode AtItem
at_the_item Fred = record { over = refl; off = refl; free = refl; told = λ e. tt; steps = refl }
at_the_item Idt = record { over = refl; off = refl; free = refl; told = λ e. tt; steps = refl }

-- fewer edges are left from each to the next
pub table_falls : (mode : Mode) → edges mode (body mode AtJump) 0 < edges mode (body mode AtTable) 0
table_falls Fred = (edges_fall Fred).table FredFrame
table_falls Idt = (edges_fall Idt).table IdtFrame

pub jump_falls : (mode : Mode) → edges mode (body mode AtItem) 0 < edges mode (body mode AtJump) 0
jump_falls Fred = (edges_fall Fred).jump FredFrame
jump_falls Idt = (edges_fall Idt).jump IdtFrame

-- few are left from an item on
pub item_edges_few : (mode : Mode) → edges mode (body mode AtItem) 0 ≤ 100
item_edges_few Fred = omega arith
item_edges_few Idt = omega arith

-- the exit is at a canonical address
pub exit_canonical : (mode : Mode) → is_canonical (other_exit mode) ≡ true
exit_canonical Fred = refl
exit_canonical Idt = refl

-- ---- what they mean

-- the variables that tell of a record which is filled
abbrev pub tells_record : ℕ → Bool
tells_record n = nat_lt 24 n && nat_lt n 30

-- what gives back w is told by none of the sixteen registers, by none of those, by none from 64 on and by no flags
pub saved_beside : (mode : Mode) (image : Image) (o : Origin) (e u : Env) (w : Processor)
    → ((i : ℕ) → 16 ≤ i → i < 64 → tells_record i ≡ false → u.var i ≡ e.var i)
    → u.base gs_tag ≡ e.base gs_tag → u.base top_tag ≡ e.base top_tag → u.rest ≡ e.rest → SavedOf mode image o e w → SavedOf mode image o u w
saved_beside mode image UserCode e u w same base top rest s =
    let at = λ (n : ℕ) (l : 16 ≤ n) (u : n < 64) (off : tells_record n ≡ false). sym (same n l u off) in
    record {
      regs = s.regs ∙ (λ i. at 30 (omega arith) (omega arith) refl i ∷ at 31 (omega arith) (omega arith) refl i ∷ at 32 (omega arith) (omega arith) refl i
          ∷ at 33 (omega arith) (omega arith) refl i ∷ at 20 (omega arith) (omega arith) refl i ∷ at 35 (omega arith) (omega arith) refl i
          ∷ at 36 (omega arith) (omega arith) refl i ∷ at 37 (omega arith) (omega arith) refl i ∷ at 38 (omega arith) (omega arith) refl i
          ∷ at 39 (omega arith) (omega arith) refl i ∷ at 40 (omega arith) (omega arith) refl i ∷ at 41 (omega arith) (omega arith) refl i
          ∷ at 42 (omega arith) (omega arith) refl i ∷ at 43 (omega arith) (omega arith) refl i ∷ at 44 (omega arith) (omega arith) refl i
          ∷ at 45 (omega arith) (omega arith) refl i ∷ []);
      rip = same 17 (omega arith) (omega arith) refl ∙ s.rip;
      cs = ap selector (same 18 (omega arith) (omega arith) refl) ∙ s.cs;
      flags = same 19 (omega arith) (omega arith) refl ∙ s.flags;
      ss = ap selector (same 21 (omega arith) (omega arith) refl) ∙ s.ss;
      sti = ap (bit 16) (same 21 (omega arith) (omega arith) refl) ∙ s.sti;
      gs = same 60 (omega arith) (omega arith) refl ∙ s.gs;
      chosen = same 61 (omega arith) (omega arith) refl ∙ s.chosen;
      level = same 63 (omega arith) (omega arith) refl ∙ s.level;
    }
saved_beside mode image KernelCode e u w same base top rest s =
    let at = λ (n : ℕ) (l : 16 ≤ n) (u : n < 64) (off : tells_record n ≡ false). sym (same n l u off) in
    record {
      regs = s.regs ∙ (λ i. at 30 (omega arith) (omega arith) refl i ∷ at 31 (omega arith) (omega arith) refl i ∷ at 32 (omega arith) (omega arith) refl i
          ∷ at 33 (omega arith) (omega arith) refl i ∷ at 20 (omega arith) (omega arith) refl i ∷ at 35 (omega arith) (omega arith) refl i
          ∷ at 36 (omega arith) (omega arith) refl i ∷ at 37 (omega arith) (omega arith) refl i ∷ at 38 (omega arith) (omega arith) refl i
          ∷ at 39 (omega arith) (omega arith) refl i ∷ at 40 (omega arith) (omega arith) refl i ∷ at 41 (omega arith) (omega arith) refl i
          ∷ at 42 (omega arith) (omega arith) refl i ∷ at 43 (omega arith) (omega arith) refl i ∷ at 44 (omega arith) (omega arith) refl i
          ∷ at 45 (omega arith) (omega arith) refl i ∷ []);
      rip = same 17 (omega arith) (omega arith) refl ∙ s.rip;
      canonical = s.canonical;
      cs = ap selector (same 18 (omega arith) (omega arith) refl) ∙ s.cs;
      ring = s.ring;
      stack_level = ap (λ n. n / 2 ^ 16 % 4) (same 18 (omega arith) (omega arith) refl) ∙ s.stack_level;
      flags = same 19 (omega arith) (omega arith) refl ∙ s.flags;
      whole = s.whole;
      ss = ap selector (same 21 (omega arith) (omega arith) refl) ∙ s.ss;
      same_ss = ap (λ (y : Processor). y.ss) rest ∙ s.same_ss;
      sti = ap (bit 16) (same 21 (omega arith) (omega arith) refl) ∙ s.sti;
      unblocked = s.unblocked;
      base = s.base ∙ sym base;
      gs = same 60 (omega arith) (omega arith) refl ∙ s.gs;
      chosen = same 61 (omega arith) (omega arith) refl ∙ s.chosen;
      level = same 63 (omega arith) (omega arith) refl ∙ s.level;
      levels = s.levels;
      above = subst (λ n. n ≤ rsp w) (sym top) s.above;
    }

-- where none of them but the registers is another
pub saved_again : (mode : Mode) (image : Image) (o : Origin) (e u : Env) (w : Processor) → ((i : ℕ) → 16 ≤ i → u.var i ≡ e.var i)
    → u.base gs_tag ≡ e.base gs_tag → u.base top_tag ≡ e.base top_tag → u.rest ≡ e.rest → SavedOf mode image o e w → SavedOf mode image o u w
saved_again mode image o e u w same = saved_beside mode image o e u w (λ i l below off. same i l)

-- so at the load of the body's address with other flags
pub load_again : (mode : Mode) (image : Image) (o : Origin) (e : Env) (g : Flags) (w : Processor) (b : BodyContext) → AtLoad mode image o e w b
    → AtLoad mode image o (record e { flags = g }) w b
load_again mode image o e g w b l = record {
  key = l.key;
  small = l.small;
  place = l.place;
  found = l.found;
  begins = l.begins;
  unknown = l.unknown;
  off = l.off;
  quiet = l.quiet;
  saved = saved_again mode image o e (record e { flags = g }) w (λ i h. refl) refl refl refl l.saved;
  locals = l.locals;
}

-- at the spots of bodies an activation means the same over a task and over a body
pub means_at : (mode : Mode) (image : Image) (κ : Kind) → is_plain_kind κ ≡ true → (s : BodySpot) (e : Env) (w : Processor) (b : BodyContext)
    (g : Option Filling)
    (m : NatMap ℕ) → InSpot mode image (origin_of κ) s e w b g m → Means mode image κ (body mode s) e w b g m
means_at Fred image SystemCall a s e w b g m h = h
means_at Fred image FromTask a s e w b g m h = h
means_at Fred image FromBody a s e w b g m h = h
means_at Idt image SystemCall a s e w b g m h = h
means_at Idt image FromTask a s e w b g m h = h
means_at Idt image FromBody a s e w b g m h = h
means_at mode image NmiFromTask a s e w b g m h = let clash : false ≡ true = a in absurd (cc)
means_at mode image NmiFromBody a s e w b g m h = let clash : false ≡ true = a in absurd (cc)

-- an item opens at its address, with registers of its own
pub record OpensItem (o : SS) : Type 0 where
  pub rip : o.rip ≡ at_base 20 0
  pub flags : o.flags ≡ FVar
  pub blocked : o.blocked ≡ false
  pub rsp : V
  pub regs : o.regs ≡ all_regs rsp

pub item_opening : (mode : Mode) → OpensItem (block mode (body mode AtItem)).opening
item_opening Fred = record { rip = refl; flags = refl; blocked = refl; rsp = P 16 (M - 0xc0); regs = refl }
item_opening Idt = record { rip = refl; flags = refl; blocked = refl; rsp = P 16 (M - 0xb0); regs = refl }

-- ---- what an activation says at the table, at the jump and at an item

pub rax_at : (mode : Mode) (e : Env) (c : Processor) (m : Memory)
    → Agrees e (block mode (body mode AtTable)).ground (block mode (body mode AtTable)).opening c m → register c 0 ≡ e.var 0
unfolding eval
rax_at Fred e c m a = ap (λ xs. get_or xs 0 0) a.regs
rax_at Idt e c m a = ap (λ xs. get_or xs 0 0) a.regs

pub gs_at : (mode : Mode) (e : Env) (c : Processor) (m : Memory)
    → Agrees e (block mode (body mode AtItem)).ground (block mode (body mode AtItem)).opening c m → c.msrs.gs_base ≡ (e.base gs_tag + 0) % M
unfolding eval
gs_at Fred e c m a = a.gs
gs_at Idt e c m a = a.gs

-- two environments in which a state says the same of a processor and memory, its place aside
pub record SaysSame (e u : Env) (W : List Win) (o : SS) : Type 0 where
  pub regs : map (eval e) o.regs ≡ map (eval u) o.regs
  pub flags : eval_flags e o.flags ≡ eval_flags u o.flags
  pub gs : eval e o.gs ≡ eval u o.gs
  pub kernel_gs : eval e o.kernel_gs ≡ eval u o.kernel_gs
  pub selector : eval e o.selector ≡ eval u o.selector
  pub cr2 : (a : ℕ) → IsTold e o.cr2 a → IsTold u o.cr2 a
  pub rsp0 : eval e o.rsp0 ≡ eval u o.rsp0
  pub words : (m : NatMap ℕ) → Known e W m o.words → Known u W m o.words

-- only its place speaks of the item
pub any_item : (mode : Mode) (p : ℕ) (κ : Kind) (σ : Seat) (ss : ℕ) (w : Processor) (extra extra' v : ℕ → ℕ) (f : Flags)
    → SaysSame (here mode p κ σ ss w extra v f) (here mode p κ σ ss w extra' v f) (block mode (body mode AtItem)).ground.known
    (block mode (body mode AtItem)).opening
unfolding eval eval_flags
any_item Fred p κ σ ss w extra extra' v f = record {
  regs = refl;
  flags = refl;
  gs = refl;
  kernel_gs = refl;
  selector = refl;
  cr2 = λ a h. h;
  rsp0 = refl;
  words =
      λ m h. h;
}
any_item Idt p κ σ ss w extra extra' v f = record {
  regs = refl;
  flags = refl;
  gs = refl;
  kernel_gs = refl;
  selector = refl;
  cr2 = λ a h. h;
  rsp0 = refl;
  words =
      λ m h. h;
}

-- an item's words lie on the stack
pub on_stack_alone : (mode : Mode) → (forms (body mode AtItem)).known ≡ OnStack (body_bytes (layout_of mode)) ∷ []
on_stack_alone Fred = refl
on_stack_alone Idt = refl

-- ---- how the exit opens: with what an item has, and the mark, which is off

abbrev pub all_inside : List Win → List Word → Bool
all_inside W [] = true
all_inside W (w ∷ ws) = in_win W w.at && all_inside W ws

pub known_and : (e : Env) (N W : List Win) (m : NatMap ℕ) (ws vs : List Word) → all_inside W ws ≡ true → Known e N m ws → Known e W m vs
    → Known e W m (ws ++ vs)
known_and e N W m [] vs i k h = h
known_and e N W m (w ∷ ws) vs i k h = (and_left _ _ i, k.1, known_and e N W m ws vs (and_right (in_win W w.at) _ i) k.2 h)

module _ (mode : Mode) (p : ℕ) (κ : Kind) (σ : Seat) (ss : ℕ) (w : Processor) (extra v : ℕ → ℕ) (f : Flags) where
  abbrev e : Env
  e = here mode p κ σ ss w extra v f

  -- the exit that an activation takes
  pub record OpensExit (c d : Processor) (m : Memory) : Type 0 where
    pub spot : Spot
    pub over : is_spot mode spot ≡ true
    pub off : blocks.switches spot ≡ false
    pub free : blocks.holds spot ≡ false
    pub entry : IsAtEntry spot e
    pub told : FactsHold e (block mode spot).ground.facts
    pub fewer : edges mode spot 0 < edges mode (body mode AtItem) 0
    pub agrees : Open e (block mode spot).ground.known m.regions → Agrees e (block mode spot).ground (block mode spot).opening d m
    pub means : (image : Image) (b : BodyContext) (g : Option Filling) (m : NatMap ℕ) → Leaving mode image (origin_of κ) e w b
        → Means mode image κ spot e w b g m

-- the mark is off
mark_at : (p : ℕ) → p < 32 → (words : NatMap ℕ) → words (pcpu p + 0x20) ≡ 0 → words ((pcpu p + 0x20) % M) ≡ 0
mark_at p hp words h = ap words (let q : (pcpu p + 0x20) % M ≡ pcpu p + 0x20 = omega arith in q) ∙ h

pub nothing_open : (e : Env) (m : Memory) → Open e [] m.regions
nothing_open e m l h = let clash : false ≡ true = h in absurd (cc)

pub unlike : (a b : ℕ) → (a == b) ≡ false → a ≢ b
unlike a b h q = let clash : true ≡ false = sym (eq-eqb a b q) ∙ h in cc

module _ (image : Image) (p : ℕ) (hp : p < 32) (κ : Kind) (of_task : is_over_task κ ≡ true) (σ : Seat) (ss : ℕ) (w : Processor) (ring : w.cs ≡ 0x33)
    (extra v : ℕ → ℕ) (f : Flags) (c : Processor) (m : Memory) (off : m.words (pcpu p + 0x20) ≡ 0) where
  abbrev at_exit : ℕ → Processor
  at_exit a = record c { rip = a; sti_blocked = false }

  fred_exit : Saved Fred image v w → Agrees (e Fred p κ σ ss w extra v f) (block Fred (body Fred AtItem)).ground (block Fred (body Fred AtItem)).opening c m
      → OpensExit Fred p κ σ ss w extra v f c (at_exit fexit) m
  unfolding eval eval_flags
  fred_exit s a = record {
    spot = InFred (fred.Leaves FredToTask);
    over = refl;
    off = refl;
    free = refl;
    entry = tt;
    told = ((facts_tell (e Fred p κ σ ss w extra v f)).user (s.cs ∙ ring), tt);
    fewer = (edges_fall Fred).fred_exit FredFrame FredToTask;
    agrees = λ o. record {
      regs = a.regs;
      rip = refl;
      flags = a.flags;
      gs = a.gs;
      kernel_gs = a.kernel_gs;
      selector = a.selector;
      cr2 = tt;
      levels = a.levels;
      blocked = refl;
      rest = a.rest;
      words =
          known_and (e Fred p κ σ ss w extra v f) (wins_of (OnStack 0xc0 ∷ [])) (wins_of (OnStack 0xc0 ∷ InArea 0x20 8 ∷ [])) m.words (body_words FredFrame)
          (word (gs_word 0x20) (K 0) ∷ []) refl a.words (refl, mark_at p hp m.words off, tt);
      known_open = o;
      shared_open = nothing_open (e Fred p κ σ ss w extra v f) m;
    };
    means = λ image b g m l. leaves_task Fred image κ of_task (InFred (fred.Leaves FredToTask)) (e Fred p κ σ ss w extra v f) w b g m (λ k. k) l;
  }

  -- by how RCX and R11 compare with RIP and RFLAGS
  idt_exit : (by : IdtReturn) → (told : FactsHold (e Idt p κ σ ss w extra v f) (block Idt (InIdt (idt.Leaves (IdtToTask by)))).ground.facts)
      → Matches Idt image by (v 31) (v 17) (v 41) (v 19)
      → Agrees (e Idt p κ σ ss w extra v f) (block Idt (body Idt AtItem)).ground (block Idt (body Idt AtItem)).opening c m
      → OpensExit Idt p κ σ ss w extra v f c (at_exit exit_entry) m
  unfolding eval eval_flags
  idt_exit by told same a = record {
    spot = InIdt (idt.Leaves (IdtToTask by));
    over = refl;
    off = refl;
    free = refl;
    entry = tt;
    told = told;
    fewer = (edges_fall Idt).idt_exit IdtFrame (IdtToTask by);
    agrees = λ o. record {
      regs = a.regs;
      rip = refl;
      flags = a.flags;
      gs = a.gs;
      kernel_gs = a.kernel_gs;
      selector = a.selector;
      cr2 = tt;
      levels = a.levels;
      blocked = refl;
      rest = a.rest;
      words =
          known_and (e Idt p κ σ ss w extra v f) (wins_of (OnStack 0xb0 ∷ [])) (wins_of (OnStack 0xb0 ∷ InArea 0x20 8 ∷ [])) m.words (body_words IdtFrame)
          (word (gs_word 0x20) (K 0) ∷ []) refl a.words (refl, mark_at p hp m.words off, tt);
      known_open = o;
      shared_open = nothing_open (e Idt p κ σ ss w extra v f) m;
    };
    means = λ image b g m l. leaves_task Idt image κ of_task (InIdt (idt.Leaves (IdtToTask by))) (e Idt p κ σ ss w extra v f) w b g m (λ k. (k, same)) l;
  }

  by_registers : Saved Idt image v w → v 17 < 2 ^ 64 → v 19 < 2 ^ 64 → AreWords w.regs
      → Agrees (e Idt p κ σ ss w extra v f) (block Idt (body Idt AtItem)).ground (block Idt (body Idt AtItem)).opening c m
      → OpensExit Idt p κ σ ss w extra v f c (at_exit exit_entry) m
  unfolding eval
  by_registers s rip flags words a = by_rip (v 31 == v 17) refl
    where
      ring_is : eval (here Idt p κ σ ss w extra v f) (says_ring 3).val ≡ 3
      ring_is = (facts_tell (here Idt p κ σ ss w extra v f)).user (s.cs ∙ ring)

      rcx : v 31 < 2 ^ 64
      rcx = subst (λ (xs : List ℕ). get_or xs 1 0 < 2 ^ 64) s.regs (words 1)

      r11 : v 41 < 2 ^ 64
      r11 = subst (λ (xs : List ℕ). get_or xs 11 0 < 2 ^ 64) s.regs (words 11)

      by_flags : v 31 ≡ v 17 → (t : Bool) → (v 41 == v 19) ≡ t → OpensExit Idt p κ σ ss w extra v f c (at_exit exit_entry) m
      by_flags q true h =
          let q' : v 41 ≡ v 19 = eqb-true (v 41) (v 19) h in
          idt_exit BySysret (
            ring_is,
            (
              (facts_tell (here Idt p κ σ ss w extra v f)).equal (saved 1) frame_rip q,
              ((facts_tell (here Idt p κ σ ss w extra v f)).equal (saved 11) frame_flags q', tt),
            ),
          ) (q, q') a
      by_flags q false h =
          idt_exit ByOtherFlags (
            ring_is,
            (
              (facts_tell (here Idt p κ σ ss w extra v f)).equal (saved 1) frame_rip q,
              ((facts_tell (here Idt p κ σ ss w extra v f)).unequal (saved 11) frame_flags (unlike (v 41) (v 19) h) r11 flags, tt),
            ),
          ) tt a

      by_rip : (t : Bool) → (v 31 == v 17) ≡ t → OpensExit Idt p κ σ ss w extra v f c (at_exit exit_entry) m
      by_rip true h = by_flags (eqb-true (v 31) (v 17) h) (v 41 == v 19) refl
      by_rip false h = idt_exit ByOtherRip
          (ring_is, ((facts_tell (here Idt p κ σ ss w extra v f)).unequal (saved 1) frame_rip (unlike (v 31) (v 17) h) rcx rip, tt)) tt a

  pub exits : (mode : Mode) → Saved mode image v w → v 17 < 2 ^ 64 → v 19 < 2 ^ 64 → AreWords w.regs
      → Agrees (e mode p κ σ ss w extra v f) (block mode (body mode AtItem)).ground (block mode (body mode AtItem)).opening c m
      → OpensExit mode p κ σ ss w extra v f c (at_exit (other_exit mode)) m
  exits Fred s rip flags words a = fred_exit s a
  exits Idt s rip flags words a = by_registers s rip flags words a

-- ---- the exit to a body reads no mark

module _ (p : ℕ) (κ : Kind) (of_body : is_over_body κ ≡ true) (σ : Seat) (ss : ℕ) (w : Processor) (extra v : ℕ → ℕ) (f : Flags) (c : Processor)
    (m : Memory) where
  abbrev gone : ℕ → Processor
  gone a = record c { rip = a; sti_blocked = false }

  pub kernel_exits : (mode : Mode) → selector (v 18) ≡ 0x10
      → Agrees (e mode p κ σ ss w extra v f) (block mode (body mode AtItem)).ground (block mode (body mode AtItem)).opening c m
      → OpensExit mode p κ σ ss w extra v f c (gone (other_exit mode)) m
  unfolding eval eval_flags
  kernel_exits Fred cs a = record {
    spot = InFred (fred.Leaves FredToKernel);
    over = refl;
    off = refl;
    free = refl;
    entry = tt;
    told = ((facts_tell (e Fred p κ σ ss w extra v f)).kernel cs, tt);
    fewer = (edges_fall Fred).fred_exit FredFrame FredToKernel;
    agrees = λ o. record {
      regs = a.regs;
      rip = refl;
      flags = a.flags;
      gs = a.gs;
      kernel_gs = a.kernel_gs;
      selector = a.selector;
      cr2 = tt;
      levels = a.levels;
      blocked = refl;
      rest = a.rest;
      words = a.words;
      known_open = o;
      shared_open = nothing_open (e Fred p κ σ ss w extra v f) m;
    };
    means = λ image b g m l. leaves_body Fred image κ of_body (InFred (fred.Leaves FredToKernel)) (e Fred p κ σ ss w extra v f) w b g m (λ k. k) l;
  }
  kernel_exits Idt cs a = record {
    spot = InIdt (idt.Leaves IdtToKernel);
    over = refl;
    off = refl;
    free = refl;
    entry = tt;
    told = ((facts_tell (e Idt p κ σ ss w extra v f)).kernel cs, tt);
    fewer = (edges_fall Idt).idt_exit IdtFrame IdtToKernel;
    agrees = λ o. record {
      regs = a.regs;
      rip = refl;
      flags = a.flags;
      gs = a.gs;
      kernel_gs = a.kernel_gs;
      selector = a.selector;
      cr2 = tt;
      levels = a.levels;
      blocked = refl;
      rest = a.rest;
      words = a.words;
      known_open = o;
      shared_open = nothing_open (e Idt p κ σ ss w extra v f) m;
    };
    means = λ image b g m l. leaves_body Idt image κ of_body (InIdt (idt.Leaves IdtToKernel)) (e Idt p κ σ ss w extra v f) w b g m (λ k. k) l;
  }
