-- Where a mark looks at memory: inside a block no instruction has a mark, where one ends none looks at memory but before `call`'s load of its record's state
-- and its exchange, and there the registers say which word it is.
use Rattle.std.proofs.Common.{◌≡◌, ◌⊎◌, inl, inr, ⊎_elim, ℕ, suc, ◌+◌, ◌*◌, ◌-◌, ◌<◌, ◌≤◌, Bool, true, false, ◌&&◌, List, [], ◌∷◌, Option, Some, None, refl, sym, ap, ◌∙◌, subst, arith, map, get_or}
use Rattle.std.specs.Prelude.{◌%◌, is_some, nat_lt, nat_le}
use Rattle.std.proofs.lemmas.Bool.{ltb-true, not-false}
use Rattle.ev_isa.specs.Spelling.{spelling, four_bytes}
use Rattle.ev_isa.specs.Flags.{Flags}
use Rattle.ev_isa.specs.Word.{NatMap}
use Rattle.ev_isa.specs.declared.mode.Mode.{Mode}
use Rattle.ev_body.specs.declared.item.Item.{Item}
use Rattle.ev_body.specs.declared.item.Item.TheVariants.{Call, Wait}
use Rattle.ev_body.specs.declared.body.Body.{Body}
use Rattle.ev_body.specs.declared.image.Image.{Image}
use Rattle.ev_body.specs.declared.key.Key.{Key}
use Rattle.ev_asm.specs.Assembly.{size}
use Rattle.ev_listing.specs.Expansion.{expansion, item_address, function_address}
use Rattle.ev_listing.specs.AddressMap.{pcpu, record_address, head_offset}
use Rattle.ev_listing.specs.Marks.{Mark, Never, Always, IfNonzero, IfEqual}
use Rattle.ev_state.specs.Processor.{Processor, is_user, register}
use Rattle.ev_mem.specs.Memory.{Memory}
use Rattle.ev_abstract.specs.Context.{BodyContext}
use Rattle.ev_abstract.specs.Machine.{Machine, processor}
use Rattle.ev_concrete.specs.ConcreteRun.{System, Activation, marks_of, mark_at}
use Rattle.ev_symbolic.specs.Value.{M}
use Rattle.ev_symbolic.specs.State.{SS, Block}
use Rattle.ev_symbolic.specs.Run.{brun}
use Rattle.ev_symbolic.specs.Listed.{cells_from, AllFound}
use Rattle.ev_symbolic.specs.Agrees.{Env, eval, addr, Cell, edge_cell, At}
use Rattle.ev_symbolic.proofs.Blocks.{inside, earlier, at_end}
use Rattle.ev_blocks.specs.Shapes.{Layout, Origin}
use Rattle.ev_blocks.specs.Calls.{AtRecord, AtLink}
use Rattle.ev_symbolic.specs.Names.{item_tag}
use Rattle.ev_symbolic.specs.Openings.{gs_tag}
use Rattle.ev_symbolic.proofs.Values.{and_left, and_right}
use Rattle.ev_body.specs.WellFormed.{IsImage}
use Rattle.ev_abstract.specs.Accepted.{IsAccepted}
use Rattle.ev_abstract.specs.Rules.{breaks_slots}
use Rattle.ev_abstract.specs.Run.{item_at}
use Rattle.ev_law.specs.Legal.{AreLegal, IsLegalOn, knows}
use Rattle.ev_law.proofs.Ruled.{body_ruled}
use Rattle.ev_paths.proofs.CallEnds.{call_ends}
use Rattle.ev_blocks.specs.Items.{BodySpot, InCall, fills, body_block}
use Rattle.ev_blocks.specs.Blocks.{Spot, InFred, InIdt, InNmi, InBody, block}
use Rattle.ev_blocks.specs.Blocks as blocks
use Rattle.ev_activation.specs.Seat.{Kind, Seat, kind_of, seat_of}
use Rattle.ev_table.specs.Table.{code_table, places_of, reads_no_memory}
use Rattle.ev_relation.specs.Nmi.{Frame}
use Rattle.ev_relation.specs.Filling.{Filling, first_fill, is_filled}
use Rattle.ev_relation.specs.Active.{site_of, item_of, address_of_item, HasPlace, here, fills_record, InSpot, Active}
use Rattle.ev_relation.specs.Relation.{IsContext, Chain, StandsOn, Stands, switches_at}
use Rattle.ev_relation.proofs.Facts.{Facts}
use Rattle.ev_table.proofs.Whole.{kernel_marks_plain}
use Rattle.ev_relation.proofs.Spots.{is_in_code, means_over, runs_to_end}
use Rattle.ev_relation.proofs.Depth.{block_is, RunsIn, OwnCode, ItemCode, runs_in}
use Rattle.ev_relation.proofs.PlainEnds.{spot_plain}
use Rattle.ev_relation.proofs.ModeFacts.{is_fred}
use Rattle.std.proofs.lemmas.Bool.Decides.{leb_tells}
use Rattle.ev_relation.proofs.Switch.{means_switch, switch_ends}
use Rattle.ev_relation.proofs.Fills.{means_fills, fill_ends}
use Rattle.ev_relation.proofs.After.{as_chain, filled_below}
use Rattle.ev_relation.proofs.FilledOnce.{never_filled_twice}
use Rattle.ev_relation.proofs.Looks.{LooksAt, Nothing, State, Queue}

module _ (mode : Mode) (image : Image) where
  -- the mark of a processor's next instruction
  abbrev pub mark_of : Processor → Mark
  mark_of c = mark_at (marks_of mode image) c.rip

  -- ---- inside blocks

  -- the block of an activation runs to its end
  pub active_ends : (p left : ℕ) (κ : Kind) (σ : Seat) (f : Frame) (sw : Bool) (g : Option Filling) (w : Processor) (b : BodyContext) (c : Processor)
      (m : Memory) → (a : Active mode image p left κ σ f sw g w b c m)
      → (z : SS) × (brun (block mode a.stands.spot) (block mode a.stands.spot).steps ≡ Some z)
  active_ends p left κ σ f sw g w b c m a = by_spot (blocks.switches a.stands.spot) refl (fills_record a.stands.spot) refl
    where
      by_spot : (t : Bool) → blocks.switches a.stands.spot ≡ t → (u : Bool) → fills_record a.stands.spot ≡ u
          → (z : SS) × (brun (block mode a.stands.spot) (block mode a.stands.spot).steps ≡ Some z)
      by_spot true on u r = switch_ends mode a.stands.spot (means_switch mode image κ a.stands.spot _ w b g m.words a.means on).0
      by_spot false off true on = fill_ends mode a.stands.spot (means_fills mode image κ a.stands.spot _ w b g m.words a.means on).0
      by_spot false off false none = runs_to_end mode a.stands.spot (means_over mode image κ a.stands.spot _ w b g m.words a.means off none)

  -- no instruction inside has a mark
  pub inside_unmarked : Facts mode image → (p left : ℕ) (κ : Kind) (σ : Seat) (f : Frame) (sw : Bool) (g : Option Filling) (w : Processor) (b : BodyContext)
      (c : Processor) (m : Memory) → (a : Active mode image p left κ σ f sw g w b c m) → a.stands.k < (block mode a.stands.spot).steps → mark_of c ≡ Never
  inside_unmarked facts p left κ σ f sw g w b c m a l =
      let z = active_ends p left κ σ f sw g w b c m a in
      let steps : ℕ = (block mode a.stands.spot).steps in
      let t = earlier (block mode a.stands.spot) (suc a.stands.k) (steps - suc a.stands.k) z.0
      (ap (brun (block mode a.stands.spot)) (let e : steps - suc a.stands.k + suc a.stands.k ≡ steps = omega (arith, l) in e) ∙ z.1) in
      let n = inside (code_table mode image) (block mode a.stands.spot) a.stands.k _ c m a.stands.at t.0 t.1 in
      facts.marks c.rip (edge_cell n.ins n.next) n.stands

  -- ---- the activation that runs

  -- a task runs, or the activation of the last context
  pub data NowRuns (q : ℕ) (c : Processor) (m : Memory) (bs : List BodyContext) (fs : List (Option Filling)) : Type 0 where
    OfTask : is_user c ≡ true → NowRuns q c m bs fs
    OfBody : (left : ℕ) (κ : Kind) (σ : Seat) (f : Frame) (sw : Bool) (w : Processor) (b : BodyContext) (below : List BodyContext) → bs ≡ b ∷ below
        → IsContext mode image b → Active mode image q left κ σ f sw (first_fill fs) w b c m → NowRuns q c m bs fs

  pub which_runs : (q left : ℕ) (s : System) (m : Machine) → (on : StandsOn mode image q left s (processor m q))
      → NowRuns q (s.cpus q) s.memory (processor m q).bodies on.fills
  which_runs q left s m on = by_list (processor m q).bodies (s.activations q) on.switching
      (as_chain mode image on.layer q on.own on.more (processor m q).running on.returning ((processor m q).tasks on.returning) on.frame on.switching on.fills
      (processor m q).bodies (s.activations q) (s.cpus q) s.memory on.runs)
    where
      by_list : (bs : List BodyContext) (as' : List Activation) (sw : Bool)
          → Chain mode image q on.own (processor m q).running on.returning ((processor m q).tasks on.returning) on.frame sw on.fills bs as' (s.cpus q) s.memory
          → NowRuns q (s.cpus q) s.memory bs on.fills
      by_list [] as' sw h = OfTask (ap is_user h.0.is)
      by_list (b ∷ below) [] sw h = absurd h
      by_list (b ∷ below) (a ∷ as') sw h = OfBody on.own (kind_of image b below) (seat_of mode image (processor m q).running (b ∷ below)) on.frame
          (switches_at mode image sw below) h.0 b below refl h.1 h.6

  -- ---- at the load of a record's state

  -- it is marked where it is of `call`
  load_marks : (n i site : ℕ) (key : Key) (item : Item) (a : ℕ) → site_of (Some item) ≡ Some site
      → AllFound (code_table mode image) (cells_from (places_of mode image) a (expansion mode n key (function_address mode image) i item))
      → (x : Cell) × (code_table mode image (a + 16) ≡ Some x)
      × ((x.mark ≡ Always) ⊎ ((x.mark ≡ IfNonzero) × (to : ℕ) × (func : ℕ) × (s : ℕ) × (item ≡ Call site to func s)))
  unfolding expansion site_of spelling four_bytes size
  load_marks n i site key (Call site' to func s) a e f =
      let same : site' ≡ site = cc in
      (_, ap (code_table mode image) (let q : a + 16 ≡ a + 9 + 7 = omega arith in q) ∙ f.1.1.0, inr (refl, to, func, s, ap (λ k. Call k to func s) same))
  load_marks n i site key (Wait site') a e f =
      (_, ap (code_table mode image) (let q : a + 16 ≡ a + 0 + 9 + 7 = omega arith in q) ∙ f.1.1.0, inl refl)
  load_marks n i site key _ a e f = absurd (cc)

  -- ---- at the exchange

  exchange_marks : (n i : ℕ) (key : Key) (site to func s a : ℕ)
      → AllFound (code_table mode image) (cells_from (places_of mode image) a (expansion mode n key (function_address mode image) i (Call site to func s)))
      → (x : Cell) × (code_table mode image (a + 154) ≡ Some x) × (x.mark ≡ IfEqual)
  unfolding expansion spelling four_bytes size
  exchange_marks n i key site to func s a f =
      (_, ap (code_table mode image) (omega arith) ∙ f.1.1.1.1.1.1.1.1.1.1.1.1.1.1.1.1.1.1.1.1.0, refl)

  -- ---- where the two blocks end

  -- where the blocks before the two end, and the register that says which word comes
  record_end : (fred : Bool) (layout : Layout) (site k : ℕ) (e : Env) (c : Processor) (m : Memory)
      → At (code_table mode image) (body_block fred layout (InCall (AtRecord site))) k e c m
      → k ≡ (body_block fred layout (InCall (AtRecord site))).steps
      → (c.rip ≡ (e.base item_tag + 16) % M) × (register c 3 ≡ (e.var 3 + 0x40 * site) % M)
  unfolding eval
  record_end fred layout site k e c m at last =
      let z = (call_ends fred layout).site site in
      let B : Block = body_block fred layout (InCall (AtRecord site)) in
      let a = at_end (code_table mode image) B k z.z (ap (brun B) last ∙ z.runs) e c m at in (
        a.rip ∙ ap (λ (t : SS). addr e t.rip) z.is,
        ap (λ rs. get_or rs 3 0) (a.regs ∙ ap (λ (t : SS). map (eval e) t.regs) z.is),
      )

  link_end : (fred : Bool) (layout : Layout) (address func to : ℕ) (is_stale : Bool) (k : ℕ) (e : Env) (c : Processor) (m : Memory)
      → At (code_table mode image) (body_block fred layout (InCall (AtLink address func to is_stale))) k e c m
      → k ≡ (body_block fred layout (InCall (AtLink address func to is_stale))).steps
      → (c.rip ≡ (e.base item_tag + 154) % M) × (register c 2 ≡ pcpu to + head_offset)
  unfolding eval
  link_end fred layout address func to is_stale k e c m at last =
      let z = (call_ends fred layout).links address func to is_stale in
      let B : Block = body_block fred layout (InCall (AtLink address func to is_stale)) in
      let a = at_end (code_table mode image) B k z.z (ap (brun B) last ∙ z.runs) e c m at in (
        a.rip ∙ ap (λ (t : SS). addr e t.rip) z.is,
        ap (λ rs. get_or rs 2 0) (a.regs ∙ ap (λ (t : SS). map (eval e) t.regs) z.is),
      )

module _ (mode : Mode) (image : Image) (given : IsImage image) (accepted : IsAccepted image) (facts : Facts mode image) (left : NatMap ℕ) (s : System)
    (m : Machine) (h : Stands mode image left s m) (q : ℕ) (lq : q < image.processors) where
  -- the numbers of a `call` are there
  call_numbers : (item : Item) (site to func r : ℕ) → item ≡ Call site to func r → breaks_slots image.processors item ≡ false
      → (site < 8) × (to < image.processors)
  unfolding breaks_slots
  call_numbers item site to func r e rule =
      let all = not-false _ (subst (λ x. breaks_slots image.processors x ≡ false) e rule) in
      let two = and_left (nat_lt site 8 && nat_lt to image.processors) _ all in
      (ltb-true site 8 (and_left (nat_lt site 8) _ two), ltb-true to image.processors (and_right (nat_lt site 8) _ two))

  -- its context, of a body of the image
  module _ (κ : Kind) (σ : Seat) (ss : ℕ) (w : Processor) (extra var : ℕ → ℕ) (flags : Flags) (b : BodyContext) (below : List BodyContext)
      (hb : (processor m q).bodies ≡ b ∷ below) (k : ℕ) where
    abbrev env : Env
    env = here mode q κ σ ss w extra var flags

    legal : IsLegalOn image (knows image m) b below
    legal = (subst (AreLegal image (knows image m)) hb (h.legal.each q).bodies).0

    place : HasPlace mode image env b → env.base item_tag ≡ item_address mode b.body legal.body b.place
    place e = e ∙ ap (address_of_item mode b.body b.place) legal.is_body

    far : (o a : ℕ) → o < 0x100 → a ≡ (env.base item_tag + o) % M → HasPlace mode image env b → a ≡ item_address mode b.body legal.body b.place + o
    far o a small e at =
        let range = (facts.item_range b.body b.place legal.body legal.is_body).1 in
        e ∙ ap (λ t. (t + o) % M) (place at)
        ∙ (let e : (item_address mode b.body legal.body b.place + o) % M ≡ item_address mode b.body legal.body b.place + o = omega (arith, range, small) in e)

    rules : (item : Item) → item_at (Some legal.body) b.place ≡ Some item → breaks_slots image.processors item ≡ false
    rules item e = (body_ruled image given accepted.1.kept b.body legal.body legal.is_body).slots b.place item e

    unfilled : (site to func r : ℕ) → item_of mode image b ≡ Some (Call site to func r) → first_fill (h.each q lq).fills ≡ None
        → is_filled site (h.each q lq).fills ≡ false
    unfilled site to func r item none =
        sym (filled_below site (h.each q lq).fills none)
        ∙ never_filled_twice mode image given accepted q (left q) s m h.legal (h.each q lq) b below hb site to func r item

    record_looks : (fred : Bool) (layout : Layout) (site : ℕ)
        → At (code_table mode image) (body_block fred layout (InCall (AtRecord site))) k env (s.cpus q) s.memory
        → k ≡ (body_block fred layout (InCall (AtRecord site))).steps → HasPlace mode image env b → site_of (item_of mode image b) ≡ Some site
        → env.var 3 ≡ env.base gs_tag + 0x800 → first_fill (h.each q lq).fills ≡ None
        → LooksAt mode image q (h.each q lq).fills (s.cpus q) (mark_of mode image (s.cpus q))
    unfolding site_of
    record_looks fred layout site at last here_is of first none =
        by_item (item_at (Some legal.body) b.place) refl
        (subst (λ (o : Option Body). site_of (item_at o b.place) ≡ Some site) legal.is_body of)
      where
        ends : ((s.cpus q).rip ≡ (env.base item_tag + 16) % M) × (register (s.cpus q) 3 ≡ (env.var 3 + 0x40 * site) % M)
        ends = record_end mode image fred layout site k env (s.cpus q) s.memory at last

        by_item : (o : Option Item) → item_at (Some legal.body) b.place ≡ o → site_of o ≡ Some site
            → LooksAt mode image q (h.each q lq).fills (s.cpus q) (mark_of mode image (s.cpus q))
        by_item None e r = absurd (cc)
        by_item (Some item) e r =
            let x = load_marks mode image b.body b.place site legal.body.key item (item_address mode b.body legal.body b.place) r
            (facts.items b.body b.place legal.body item legal.is_body e) in
            let marked : mark_of mode image (s.cpus q) ≡ x.0.mark
            = facts.marks (s.cpus q).rip x.0 (ap (code_table mode image) (far 16 (s.cpus q).rip (omega arith) ends.0 here_is) ∙ x.1) in
            ⊎_elim (λ always. Nothing (ap reads_no_memory (marked ∙ always)))
            (λ z. State (marked ∙ z.0) site (call_numbers item site z.1 z.2 z.3 z.4 (rules item e)).0
            (ends.1 ∙ ap (λ t. (t + 0x40 * site) % M) first
            ∙ (let e : (pcpu q + 0x800 + 0x40 * site) % M ≡ record_address q site
            = let n = given.count.1 in let small = (call_numbers item site z.1 z.2 z.3 z.4 (rules item e)).0 in omega (arith, lq, n, small) in e))
            (unfilled site z.1 z.2 z.3 (ap (λ (o : Option Body). item_at o b.place) legal.is_body ∙ e ∙ ap (λ t. Some t) z.4) none)) x.2

    link_looks : (fred : Bool) (layout : Layout) (address func to : ℕ) (is_stale : Bool)
        → At (code_table mode image) (body_block fred layout (InCall (AtLink address func to is_stale))) k env (s.cpus q) s.memory
        → k ≡ (body_block fred layout (InCall (AtLink address func to is_stale))).steps → HasPlace mode image env b → (site r : ℕ)
        → item_of mode image b ≡ Some (Call site to func r)
        → LooksAt mode image q (h.each q lq).fills (s.cpus q) (mark_of mode image (s.cpus q))
    link_looks fred layout address func to is_stale at last here_is site r item =
        let ends = link_end mode image fred layout address func to is_stale k env (s.cpus q) s.memory at last in
        let here : item_at (Some legal.body) b.place ≡ Some (Call site to func r) = sym (ap (λ (o : Option Body). item_at o b.place) legal.is_body) ∙ item in
        let x = exchange_marks mode image b.body b.place legal.body.key site to func r (item_address mode b.body legal.body b.place)
        (facts.items b.body b.place legal.body (Call site to func r) legal.is_body here) in
        Queue (facts.marks (s.cpus q).rip x.0 (ap (code_table mode image) (far 154 (s.cpus q).rip (omega arith) ends.0 here_is) ∙ x.1) ∙ x.2) to
        (call_numbers (Call site to func r) site to func r refl (rules (Call site to func r) here)).1 ends.1

    -- so where any spot's block in an item's code ends
    spot_looks : (fred : Bool) (layout : Layout) (o : Origin) (spot : BodySpot) → IsContext mode image b
        → At (code_table mode image) (body_block fred layout spot) k env (s.cpus q) s.memory → k ≡ (body_block fred layout spot).steps
        → is_in_code spot ≡ true → InSpot mode image o spot env w b (first_fill (h.each q lq).fills) s.memory.words
        → fills spot ≡ is_some (first_fill (h.each q lq).fills)
        → LooksAt mode image q (h.each q lq).fills (s.cpus q) (mark_of mode image (s.cpus q))
    spot_looks fred layout o (InCall (AtRecord site)) ctx at last i means filled =
        record_looks fred layout site at last means.1 means.2 means.3 (none_of (first_fill (h.each q lq).fills) (sym filled))
      where
        none_of : (g : Option Filling) → is_some g ≡ false → g ≡ None
        none_of None e = refl
        none_of (Some f) e = let clash : true ≡ false = e in absurd (cc)
    spot_looks fred layout o (InCall (AtLink address func to is_stale)) ctx at last i means filled =
        link_looks fred layout address func to is_stale at last means.1 means.2.fills.site means.2.s means.2.fills.item
    spot_looks fred layout o spot ctx at last i means filled = Nothing
        (spot_plain mode image facts env (s.cpus q) b fred layout o k w (first_fill (h.each q lq).fills) s.memory ctx spot at last i refl means)

    -- and where that of any spot does
    end_looks : (spot : Spot) → IsContext mode image b → At (code_table mode image) (block mode spot) k env (s.cpus q) s.memory → k ≡ (block mode spot).steps
        → fills_record spot ≡ is_some (first_fill (h.each q lq).fills)
        → RunsIn mode image facts env refl w (s.cpus q) s.memory b (first_fill (h.each q lq).fills) spot
        → LooksAt mode image q (h.each q lq).fills (s.cpus q) (mark_of mode image (s.cpus q))
    end_looks spot ctx at last filled (OwnCode runs) =
        let low = runs.0 in Nothing (kernel_marks_plain mode image given (s.cpus q).rip (omega (arith, low)))
    end_looks spot ctx at last filled (ItemCode layout o place is i means) =
        let same : block mode spot ≡ body_block (is_fred mode) layout place = ap (block mode) is ∙ block_is mode layout place in
        spot_looks (is_fred mode) layout o place ctx (subst (λ (B : Block). At (code_table mode image) B k env (s.cpus q) s.memory) same at)
        (last ∙ ap (λ (B : Block). B.steps) same) i means (sym (ap fills_record is) ∙ filled)

  -- Of kernel code a processor's next mark looks at what the abstract machine tells.
  pub looks : is_user (s.cpus q) ≡ false → LooksAt mode image q (h.each q lq).fills (s.cpus q) (mark_of mode image (s.cpus q))
  looks kernel = by_run (which_runs mode image q (left q) s m (h.each q lq))
    where
      by_run : NowRuns mode image q (s.cpus q) s.memory (processor m q).bodies (h.each q lq).fills
          → LooksAt mode image q (h.each q lq).fills (s.cpus q) (mark_of mode image (s.cpus q))
      by_run (OfTask user) = let clash : true ≡ false = sym user ∙ kernel in absurd (cc)
      by_run (OfBody own κ σ f sw w b below hb ctx a) = ⊎_elim
          (λ (l : (nat_le (block mode a.stands.spot).steps a.stands.k ≡ true) × ((block mode a.stands.spot).steps ≤ a.stands.k)).
          let e : a.stands.k ≡ (block mode a.stands.spot).steps = let within = a.stands.within in let here = l.1 in omega (arith, within, here) in
          end_looks κ σ a.stands.ss w a.stands.extra a.stands.var a.stands.flags b below hb a.stands.k a.stands.spot ctx a.stands.at e a.fills
          (runs_in mode image facts (here mode q κ σ a.stands.ss w a.stands.extra a.stands.var a.stands.flags) refl w (s.cpus q) s.memory b
          (first_fill (h.each q lq).fills) κ a.stands.spot a.stands.k a.stands.within a.stands.at a.means))
          (λ l. Nothing (ap reads_no_memory
          (inside_unmarked mode image facts q own κ σ f sw (first_fill (h.each q lq).fills) w b (s.cpus q) s.memory a l.1)))
          (leb_tells (block mode a.stands.spot).steps a.stands.k)
