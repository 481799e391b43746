-- A step of an activation in the code of a call item, where the block of its spot has ended: which lemma of that item it comes to.
use Rattle.std.proofs.Common.{◌≡◌, ℕ, zero, suc, ◌+◌, ◌<◌, ◌≤◌, true, false, length, None, Some, refl, sym, ap, ◌∙◌, subst}
use Rattle.std.specs.Prelude.{slice_get}
use Rattle.ev_isa.specs.Word.{NatMap}
use Rattle.ev_isa.specs.Flags.{Flags}
use Rattle.ev_isa.specs.declared.mode.Mode.{Mode}
use Rattle.ev_isa.specs.declared.mode.Mode.TheVariants.{Idt, Fred}
use Rattle.ev_body.specs.declared.item.Item.{Item}
use Rattle.ev_body.specs.declared.item.Item.TheVariants.{Call, Wait}
use Rattle.ev_body.specs.declared.body.Body.{Body}
use Rattle.ev_body.specs.declared.image.Image.{Image}
use Rattle.ev_body.specs.WellFormed.{IsImage}
use Rattle.ev_state.specs.Processor.{Processor}
use Rattle.ev_mem.specs.Memory.{Memory}
use Rattle.ev_abstract.specs.Context.{BodyContext}
use Rattle.ev_abstract.specs.Machine.{Machine, processor}
use Rattle.ev_abstract.specs.Run.{item_at}
use Rattle.ev_concrete.specs.ConcreteRun.{System}
use Rattle.ev_built.specs.Built.{IsBuilt, is_built_item}
use Rattle.ev_symbolic.specs.Agrees.{Env, Code, At}
use Rattle.ev_blocks.specs.Calls.{CallSpot, AtRecord, BehindWait, BehindBusy, AtFill, AtHead, AtLink, BehindFailure, BehindCall, AtTake, BehindTake, AtTurn, BehindTurn, AtTaken, AtFinish, BehindNext, AtOffset, at_old_link, at_function, turn_edges, taken_edges}
use Rattle.ev_blocks.specs.Calls as blocks
use Rattle.ev_blocks.specs.Items.{InCall}
use Rattle.ev_blocks.specs.Blocks.{block, edges, item_edges}
use Rattle.ev_table.specs.Table.{code_table}
use Rattle.ev_relation.specs.Filling.{first_fill}
use Rattle.ev_relation.specs.Active.{site_of, here, IsKernelSs, IsByHand, BehindExchange, BehindOldLink, AtFunction, BehindArgument, BehindCaller, BehindAddress, BehindFinish, BehindComparison, AtQuiet, InCallSpot, Active}
use Rattle.ev_relation.specs.Relation.{StandsOn, Stands, switches_at}
use Rattle.ev_relation.specs.Step.{Simulated}
use Rattle.ev_relation.proofs.CallKinds.{origin_of}
use Rattle.ev_relation.proofs.Facts.{Facts}
use Rattle.ev_relation.proofs.Items.{which}
use Rattle.ev_body_steps.proofs.Bodies.{body}
use Rattle.ev_body_steps.proofs.KernelStep as step
use Rattle.ev_body_steps.proofs.KickSteps as kicks
use Rattle.ev_body_steps.proofs.WaitSteps as waits
use Rattle.ev_body_steps.proofs.ItemCallHead as heads
use Rattle.ev_body_steps.proofs.CallItemSteps as calls
use Rattle.ev_body_steps.proofs.ItemCallAgain as again
use Rattle.ev_body_steps.proofs.ItemCallAnswer as answers
use Rattle.ev_body_steps.proofs.ItemCallTurn as pushes
use Rattle.ev_body_steps.proofs.TakeExchange as exchanges
use Rattle.ev_body_steps.proofs.TakenSteps as takens
use Rattle.ev_body_steps.proofs.TakenLink as links
use Rattle.ev_body_steps.proofs.FinishSteps as finishes
use Rattle.ev_body_steps.proofs.FinishStore as stores
use Rattle.ev_body_steps.proofs.FinishJump as jumps

-- at the load of the head a block of no instruction ends where it begins
head_steps : (mode : Mode) (address func to : ℕ) → (block mode (body mode (InCall (AtHead address func to)))).steps ≡ 0
head_steps Fred address func to = refl
head_steps Idt address func to = refl

-- so does one behind an exchange that failed
failure_steps : (mode : Mode) (address func to : ℕ) → (block mode (body mode (InCall (BehindFailure address func to)))).steps ≡ 0
failure_steps Fred address func to = refl
failure_steps Idt address func to = refl

module _ (mode : Mode) (image : Image) (built : IsBuilt image) (good : IsImage image) (facts : Facts mode image)
    (left : NatMap ℕ) (s : System) (m : Machine) (h : Stands mode image left s m) (p : ℕ) (hp : p < image.processors)
    (o : step.Top mode image built good facts left s m h p hp) (body' : Body) (is : slice_get image.bodies o.b.body ≡ Some body') where
  abbrev code : Code
  code = code_table mode image

  abbrev c : Processor
  c = s.cpus p

  abbrev b : BodyContext
  b = o.b

  abbrev on : StandsOn mode image p (left p) s (processor m p)
  on = step.on mode image built good facts left s m h p hp

  abbrev Result : Type 0
  Result = Simulated mode image left s m p

  abbrev Stood : ℕ → BodyContext → Processor → Memory → Type 0
  Stood now b cpu mem = Active mode image p now o.κ o.σ on.frame (switches_at mode image on.switching o.below) (first_fill on.fills) o.w b cpu mem

  -- the item at which the context is, is built
  today : item_at (Some body') b.place ≡ Some o.ctx.item → is_built_item o.ctx.item ≡ true
  today hi = which image built good b.body body' is b.place o.ctx.item hi

  module _ (act : Stood on.own b c s.memory) (ss : ℕ) (ss_is : IsKernelSs mode ss) (extra v : ℕ → ℕ) (f : Flags) (long : length c.regs ≡ 16)
      (hi : item_at (Some body') b.place ≡ Some o.ctx.item) where
    abbrev e : Env
    e = here mode p o.κ o.σ ss o.w extra v f

    -- the end of a spot's block
    abbrev AtEnd : CallSpot → Type 0
    AtEnd spot = At code (block mode (body mode (InCall spot))) (block mode (body mode (InCall spot))).steps e c s.memory

    -- the edges that are left there
    abbrev left_at : CallSpot → ℕ
    left_at spot = edges mode (body mode (InCall spot)) (block mode (body mode (InCall spot))).steps

    abbrev Means : CallSpot → Type 0
    Means spot = InCallSpot mode image (origin_of o.κ) spot e o.w b (first_fill on.fills) s.memory.words

    abbrev Unfilled : CallSpot → Type 0
    Unfilled spot = blocks.fills_record spot ≡ false → first_fill on.fills ≡ None

    -- at the load of the record's state, of `wait` and of `call`
    by_record : (site : ℕ) → first_fill on.fills ≡ None → AtEnd (AtRecord site) → Means (AtRecord site) → left_at (AtRecord site) ≤ on.own → (i : Item)
        → item_at (Some body') b.place ≡ Some i → site_of (Some i) ≡ Some site → Result
    unfolding site_of
    by_record site unfilled at means enough (Wait n') hi q =
        waits.at_wait_record mode image built good facts left s m h p hp o body' is unfilled act _ ss ss_is extra v f site refl at means n' hi
    by_record site unfilled at means enough (Call n' to' func r') hi q =
        calls.at_call_record mode image built good facts left s m h p hp o body' is unfilled act _ ss ss_is extra v f site refl at means enough n' to' func r'
        hi
    by_record site unfilled at means enough _ hi q = absurd (cc)

    -- the end of a place between blocks, where these are its offset and its edges
    by_place : (n more : ℕ) (offset more' : ℕ) → offset ≡ n → more' ≡ more → AtEnd (AtOffset offset more') → left_at (AtOffset offset more') ≤ on.own
        → AtEnd (AtOffset n more) × (left_at (AtOffset n more) ≤ on.own)
    by_place n more offset more' q y at enough =
        let same : (offset, more') ≡ (n, more) = λ i. (q i, y i) in
        (subst (λ (t : ℕ × ℕ). AtEnd (AtOffset t.0 t.1)) same at, subst (λ (t : ℕ × ℕ). left_at (AtOffset t.0 t.1) ≤ on.own) same enough)

    -- what is made by hand
    by_hand : (offset more : ℕ) → first_fill on.fills ≡ None → AtEnd (AtOffset offset more) → left_at (AtOffset offset more) ≤ on.own
        → IsByHand mode image (origin_of o.κ) e o.w b s.memory.words offset more → Result
    by_hand offset more unfilled at enough (BehindComparison q y target sends z is_two) =
        kicks.at_kick_comparison mode image built good facts left s m h p hp o body' is unfilled act _ ss ss_is extra v f offset more q y refl at target sends
        z is_two enough
    by_hand offset more unfilled at enough (AtQuiet q y target z) =
        kicks.at_kick_quiet mode image built good facts left s m h p hp o body' is unfilled act _ ss ss_is extra v f offset more q y refl at target z
    by_hand offset more unfilled at enough (BehindOldLink n q y t i turns old) =
        let z = by_place (at_old_link + 7) (turn_edges item_edges n + 4) offset more q y at enough in
        links.at_new_link mode image built good facts left s m h p hp o body' is unfilled act ss ss_is extra v f n z.0 t i turns old z.1
    by_hand offset more unfilled at enough (AtFunction q y t i some list) =
        let z = by_place at_function (item_edges + 4) offset more q y at enough in
        takens.at_argument mode image built good facts left s m h p hp o body' is ss extra v f i unfilled act ss_is z.0 t some list z.1
    by_hand offset more unfilled at enough (BehindArgument q y t i some list) =
        let z = by_place (at_function + 7) (item_edges + 3) offset more q y at enough in
        takens.at_caller mode image built good facts left s m h p hp o body' is ss extra v f i unfilled act ss_is z.0 t some list z.1
    by_hand offset more unfilled at enough (BehindCaller q y t i some list) =
        let z = by_place (at_function + 14) (item_edges + 2) offset more q y at enough in
        takens.at_address mode image built good facts left s m h p hp o body' is ss extra v f i unfilled act ss_is z.0 t some list z.1
    by_hand offset more unfilled at enough (BehindAddress q y t i some list target) =
        let z = by_place (at_function + 21) (item_edges + 1) offset more q y at enough in
        takens.at_function_jump mode image built good facts left s m h p hp o body' is ss extra v f i unfilled act ss_is z.0 t some list target z.1
    by_hand offset more unfilled at enough (BehindExchange q y r is_first z head equal) =
        let there = subst (λ j. AtEnd (AtOffset j more)) q at in
        answers.by_exchange_branch mode image built good facts left s m h p hp o body' is unfilled act ss ss_is extra v f more y there r is_first z head.0
        head.1 equal (subst (λ j. left_at (AtOffset j more) ≤ on.own) q enough)
    by_hand offset more unfilled at enough (BehindFinish q y t i list) =
        let z = by_place 27 (taken_edges item_edges + 1) offset more q y at enough in
        jumps.at_finish_jump mode image built good facts left s m h p hp o body' is unfilled act ss ss_is extra v f z.0 t i list z.1

    -- at the end of each spot's block
    pub by_call_spot : (spot : CallSpot) → Unfilled spot → AtEnd spot → Means spot → left_at spot ≤ on.own → Result
    by_call_spot (AtRecord site) unfilled at means enough = by_record site (unfilled refl) at means enough o.ctx.item hi
        (ap site_of (sym hi) ∙ ap (λ y. site_of (item_at y b.place)) (sym is) ∙ means.2)
    by_call_spot (BehindWait d) unfilled at means enough =
        waits.at_wait_end mode image built good facts left s m h p hp o body' is (unfilled refl) d _ ss ss_is extra v f refl at means long enough o.ctx.item
        (today hi) hi
    by_call_spot (BehindBusy r) unfilled at means enough =
        calls.at_busy_end mode image built good facts left s m h p hp o body' is (unfilled refl) act r _ ss ss_is extra v f refl at means long enough
        o.ctx.item (today hi) hi
    by_call_spot (AtFill address func to r) unfilled at means enough =
        heads.at_fill_end mode image built good facts left s m h p hp o body' is act ss ss_is extra v f address func to r at means enough
    by_call_spot (AtHead address func to) unfilled at means enough =
        heads.by_head mode image built good facts left s m h p hp o body' is act ss ss_is extra v f address func to
        (subst (λ j. At code (block mode (body mode (InCall (AtHead address func to)))) j e c s.memory) (head_steps mode address func to) at) means
        (subst (λ j. edges mode (body mode (InCall (AtHead address func to))) j ≤ on.own) (head_steps mode address func to) enough)
    by_call_spot (AtLink address func to is_stale) unfilled at means enough =
        pushes.at_link_end mode image built good facts left s m h p hp o body' is act ss ss_is extra v f address func to is_stale at means enough
    by_call_spot (BehindFailure address func to) unfilled at means enough =
        again.by_failure mode image built good facts left s m h p hp o body' is act ss ss_is extra v f address func to
        (subst (λ j. At code (block mode (body mode (InCall (BehindFailure address func to)))) j e c s.memory) (failure_steps mode address func to) at) means
        enough
    by_call_spot (BehindCall r is_first) unfilled at means enough =
        answers.at_answer_end mode image built good facts left s m h p hp o body' is (unfilled refl) act r is_first _ ss ss_is extra v f refl at means long
        enough o.ctx.item (today hi) hi
    by_call_spot AtTake unfilled at means enough =
        exchanges.at_take mode image built good facts left s m h p hp o body' is (unfilled refl) act ss ss_is extra v f at means
    by_call_spot (BehindTake rest) unfilled at means enough =
        takens.at_take_end mode image built good facts left s m h p hp o body' is ss extra v f means.1 (unfilled refl) act ss_is rest at means.0 means.2 enough
    by_call_spot (AtTurn zero) unfilled at means enough =
        takens.at_last_end mode image built good facts left s m h p hp o body' is ss extra v f means.1 (unfilled refl) act ss_is at means.0 means.2 enough
    by_call_spot (AtTurn (suc rest)) unfilled at means enough =
        takens.at_turn_end mode image built good facts left s m h p hp o body' is ss extra v f means.1 (unfilled refl) act ss_is rest at means.0 means.2 enough
    by_call_spot (BehindTurn rest) unfilled at means enough =
        takens.at_turned_end mode image built good facts left s m h p hp o body' is ss extra v f means.1 (unfilled refl) act ss_is rest at means.0 means.2
        enough
    by_call_spot (AtTaken true) unfilled at means enough =
        takens.at_some_end mode image built good facts left s m h p hp o body' is ss extra v f means.1 (unfilled refl) act ss_is at means.0 means.2 means.3
        enough
    by_call_spot (AtTaken false) unfilled at means enough =
        takens.at_none_end mode image built good facts left s m h p hp o body' is ss extra v f means.1 (unfilled refl) act ss_is at means.0 means.3 enough
        o.ctx.item (today hi) hi
    by_call_spot AtFinish unfilled at means enough =
        finishes.at_finish_end mode image built good facts left s m h p hp o body' is (unfilled refl) act ss ss_is extra v f at means enough
    by_call_spot BehindNext unfilled at means enough =
        stores.at_next_end mode image built good facts left s m h p hp o body' is (unfilled refl) act ss ss_is extra v f at means
    by_call_spot (AtOffset offset more) unfilled at means enough = by_hand offset more (unfilled refl) at enough means
