-- A step of a processor at an item: `log`, which the abstract machine sees, and `ret`, which leads to the exit.
use Rattle.std.proofs.Common.{◌≡◌, ℕ, ◌+◌, ◌%◌, ◌^◌, ◌<◌, ◌≤◌, Bool, true, false, not, List, [], get_or, length, Some, refl, sym, ap, ◌∙◌, subst, arith, None}
use Rattle.std.specs.Prelude.{is_some, pos, nat_lt, if◌then◌else◌, slice_get}
use Rattle.std.proofs.lemmas.Bool.{ltb-true, not-false}
use Rattle.ev_isa.specs.Word.{NatMap, is_canonical}
use Rattle.ev_isa.specs.Flags.{Flags}
use Rattle.ev_isa.specs.Spelling.{spelling}
use Rattle.ev_isa.specs.declared.instruction.Ins.{Ins}
use Rattle.ev_isa.specs.declared.instruction.Ins.TheVariants.{Load, Store, StoreImm, GsStore, Xchg, Xadd, Jmp, Wrmsr}
use Rattle.ev_isa.specs.declared.mode.Mode.{Mode}
use Rattle.ev_effect.specs.Task.{Task}
use Rattle.ev_body.specs.declared.item.Item.{Item}
use Rattle.ev_body.specs.declared.item.Item.TheVariants.{Set, Copy, Goto, Log, Cpu, Slot, Put, SetCell, AddCell, SwapCell, Uget, Uput, GetReg, SetReg, SetRip, Eoi, Send, Map, Unmap, Ret, Resched, Kick, Wait, Call, Take, Finish}
use Rattle.ev_body.specs.declared.key.Key.TheVariants.{Irq}
use Rattle.ev_body.specs.Bodies.{key_number}
use Rattle.ev_body.specs.declared.body.Body.{Body}
use Rattle.ev_body.specs.declared.image.Image.{Image}
use Rattle.ev_body.specs.WellFormed.{IsImage, is_local, has_operands}
use Rattle.ev_listing.specs.AddressMap.{saved_rip, mark_offset}
use Rattle.ev_listing.specs.Expansion.{command, item_address}
use Rattle.ev_state.specs.Processor.{Processor, register, is_user}
use Rattle.ev_state.proofs.FlagLaws.{kept}
use Rattle.ev_apic.specs.declared.apic.Apic.{Apic}
use Rattle.ev_mem.specs.Memory.{Memory}
use Rattle.ev_proc.specs.ProcessorStep.{has_fred, executed, ran}
use Rattle.ev_abstract.specs.Context.{BodyContext, local}
use Rattle.ev_abstract.specs.ItemMeaning.{user_address}
use Rattle.ev_abstract.specs.Rules.{breaks_slots}
use Rattle.ev_symbolic.proofs.Values.{and_left, and_right}
use Rattle.ev_abstract.specs.Machine.{Machine, processor, with_processor, task}
use Rattle.ev_abstract.specs.Machine as abstract
use Rattle.ev_abstract.specs.Run.{item_at}
use Rattle.ev_concrete.specs.ConcreteRun.{System, is_seen, is_return}
use Rattle.ev_built.specs.Built.{IsBuilt, is_built_item}
use Rattle.ev_symbolic.specs.Value.{M, X}
use Rattle.ev_symbolic.specs.State.{Block}
use Rattle.ev_symbolic.specs.Agrees.{Env, eval, eval_flags, addr, Code, Agrees, At}
use Rattle.ev_symbolic.specs.Machine.{Fetches}
use Rattle.ev_symbolic.specs.Single.{IsAt, onward}
use Rattle.ev_symbolic.proofs.Single.{singles}
use Rattle.ev_symbolic.proofs.Blocks.{unsome, begins, at_end}
use Rattle.ev_blocks.specs.Items.{AtItem, AtNumber, AtNumbers, AtUserWord, AtPageWord, page_steps}
use Rattle.ev_blocks.specs.Blocks.{Spot, InFred, InIdt, InBody, block, edges}
use Rattle.ev_blocks.specs.Blocks as blocks
use Rattle.ev_user.specs.Words.{AreWords}
use Rattle.ev_activation.specs.Seat.{Kind, SystemCall, FromTask, FromBody, NmiFromTask, NmiFromBody, Seat}
use Rattle.ev_table.specs.Table.{code_table, other_exit, RetCell}
use Rattle.ev_relation.specs.Domain.{IsInDomain}
use Rattle.ev_relation.specs.Filling.{first_fill}
use Rattle.ev_relation.specs.Active.{item_place, number_of, numbers_of, address_local, page_local, LocalInRax, here, IsKernelSs, Saved, SavedOf, InItem, Active}
use Rattle.ev_relation.specs.Relation.{IsContext, switches_at, StandsOn, Stands}
use Rattle.ev_relation.specs.Step.{Simulated}
use Rattle.ev_relation.proofs.Facts.{Facts, word_of_flags, word_of_canonical}
use Rattle.ev_relation.proofs.ModeFacts.{is_fred}
use Rattle.ev_relation.proofs.Fits.{IsSeat}
use Rattle.ev_body_steps.proofs.Bodies.{body, means_at, exit_canonical, item_opening, OpensExit, exits, kernel_exits}
use Rattle.ev_relation.proofs.After.{none_spares}
use Rattle.ev_relation.proofs.CallKinds.{is_over_task, is_over_body, is_plain_kind, origin_of, plain_knows, saved_task, saved_body}
use Rattle.ev_body_steps.proofs.ItemState.{item_state, item_comes, item_flags}
use Rattle.ev_body_steps.proofs.ItemVisible as visible
use Rattle.ev_body_steps.proofs.ItemSteps as steps
use Rattle.ev_body_steps.proofs.ItemTask as task
use Rattle.ev_body_steps.proofs.ItemNumbers as numbers
use Rattle.ev_body_steps.proofs.ItemResched as resched
use Rattle.ev_body_steps.proofs.ItemInside as inside
use Rattle.ev_body_steps.proofs.ItemMsr as msr
use Rattle.ev_body_steps.proofs.ItemInterrupts as interrupts
use Rattle.ev_relation.proofs.Legality.{off_at_ret}
use Rattle.ev_body_steps.proofs.ItemAddress as addresses
use Rattle.ev_body_steps.proofs.ItemUser as user
use Rattle.ev_body_steps.proofs.ItemPage as pages
use Rattle.ev_body_steps.proofs.ItemPages as page_items
use Rattle.ev_body_steps.proofs.ItemCells.{visible_of}
use Rattle.ev_law.proofs.Ruled.{IsRuled}
use Rattle.ev_body_steps.proofs.KernelStep as step
use Rattle.ev_body_steps.proofs.BodyBreak as breaks
use Rattle.ev_body_steps.proofs.SwitchOpens as switching
use Rattle.ev_body_steps.proofs.CallFirst as first
use Rattle.ev_body_steps.proofs.ItemFinish as finishes
use Rattle.ev_body_steps.proofs.ItemWaitLoad as waits
use Rattle.ev_body_steps.proofs.ItemCallLoad as callings
use Rattle.ev_body_steps.proofs.KickGoes.{to_comparison}

-- ---- numbers

plus_zero : (n : ℕ) → n + 16 < 2 ^ 64 → n ≡ (n + 0) % M
plus_zero n h = omega arith

zero_plus : (n : ℕ) → n + 16 < 2 ^ 64 → n ≡ (0 + n) % M
zero_plus n h = omega arith

module _ (mode : Mode) (image : Image) (built : IsBuilt image) (good : IsImage image) (facts : Facts mode image)
    (left : NatMap ℕ) (s : System) (m : Machine) (h : Stands mode image left s m) (p : ℕ) (hp : p < image.processors) where
  abbrev code : Code
  code = code_table mode image

  abbrev c : Processor
  c = s.cpus p

  abbrev x : abstract.Processor
  x = processor m p

  abbrev Result : Type 0
  Result = Simulated mode image left s m p

  abbrev on : StandsOn mode image p (left p) s x
  on = step.on mode image built good facts left s m h p hp

  abbrev domain : IsInDomain x
  domain = step.domain mode image built good facts left s m h p hp

  abbrev small : p < 32
  small = step.small mode image built good facts left s m h p hp

  abbrev fetches : Fetches code s.memory
  fetches = step.fetches mode image built good facts left s m h p hp

  -- the task to which the bodies return
  abbrev t : Task
  t = x.tasks on.returning

  abbrev Executes : Ins → Processor → NatMap ℕ → Type 0
  Executes i cpu words = (a : Apic) (nmi : Bool) → executed c a s.memory nmi (Some i) ≡ ran cpu a words nmi

  module _ (o : step.Top mode image built good facts left s m h p hp) where
    abbrev b : BodyContext
    b = o.b

    abbrev below : List BodyContext
    below = o.below

    abbrev κ : Kind
    κ = o.κ

    abbrev σ : Seat
    σ = o.σ

    abbrev w : Processor
    w = o.w

    abbrev ctx : IsContext mode image b
    ctx = o.ctx

    abbrev in_seat : IsSeat σ
    in_seat = step.in_seat mode image built good facts left s m h p hp o

    abbrev fred_is : has_fred w ≡ is_fred mode
    fred_is = step.fred_is mode image built good facts left s m h p hp o

    abbrev plain_kind : is_plain_kind κ ≡ true
    plain_kind = step.plain_kind mode image built good facts left s m h p hp o

    abbrev blocked : c.nmi_blocked ≡ false
    blocked = step.blocked mode image built good facts left s m h p hp

    abbrev env : ℕ → (extra v : ℕ → ℕ) → Flags → Env
    env ss extra v f = here mode p κ σ ss w extra v f

    abbrev Stood : ℕ → BodyContext → Processor → Memory → Type 0
    Stood now b' cpu mem = Active mode image p now κ σ on.frame (switches_at mode image on.switching below) (first_fill on.fills) w b' cpu mem

    module _ (body' : Body) (is : slice_get image.bodies b.body ≡ Some body') where
      -- ---- an item

      -- the place of the context's item
      at_item : (ss : ℕ) (extra v : ℕ → ℕ) (f : Flags)
          → Agrees (env ss extra v f) (block mode (body mode AtItem)).ground (block mode (body mode AtItem)).opening c s.memory
          → extra 20 ≡ item_place mode image b.body b.place → c.rip ≡ item_address mode b.body body' b.place
      at_item ss extra v f a at =
          a.rip ∙ ap (addr (env ss extra v f)) (item_opening mode).rip ∙ ap (λ y. (y + 0) % M)
          (at ∙ step.place_is mode image built good facts left s m h p hp o body' is)
          ∙ sym (plus_zero _ (facts.item_small b.body b.place body' is).1)

      -- the visible instruction comes first
      at_visible : first_fill on.fills ≡ None → (act : Stood on.own b c s.memory) (ss : ℕ) → IsKernelSs mode ss → (extra v : ℕ → ℕ) (f : Flags)
          → At code (block mode (body mode AtItem)) 0 (env ss extra v f) c s.memory → InItem mode image (origin_of κ) (env ss extra v f) w b s.memory.words
          → extra 20 ≡ item_place mode image b.body b.place → length c.regs ≡ 16
          → visible.AtVisible mode image built good facts left s m h p hp o body' is ss extra v f
      at_visible unfilled act ss ss_is extra v f at means place long =
          let B : Block = block mode (body mode AtItem) in
          let a : Agrees (env ss extra v f) B.ground B.opening c s.memory = at_end code B 0 B.opening refl (env ss extra v f) c s.memory at in record {
            unfilled = unfilled;
            act = act;
            ss_is = ss_is;
            means = means;
            place = place;
            long = long;
            kernel = ap is_user a.rest;
            offset = 0;
            rax = X 0;
            rcx = X 1;
            rdx = X 2;
            flags = eval_flags (env ss extra v f) B.opening.flags;
            state = item_state mode (env ss extra v f) B.ground B.opening c s.memory 0 (X 0) (X 1) (X 2) refl (item_comes mode) a;
          }

      -- the exit: to the task where nothing asks for another one, or to the body that was interrupted
      exit_from : (is_over_task κ ≡ true → x.resched ≡ false) → (act : Stood on.own b c s.memory) (ss : ℕ) (extra v : ℕ → ℕ) (f : Flags)
          → Agrees (env ss extra v f) (block mode (body mode AtItem)).ground (block mode (body mode AtItem)).opening c s.memory
          → SavedOf mode image (origin_of κ) (env ss extra v f) w → OpensExit mode p κ σ ss w extra v f c (onward c c.regs (other_exit mode)) s.memory
      exit_from calm act ss extra v f a saved = by_kind (is_over_task κ) refl (is_over_body κ) refl
        where
          by_kind : (t : Bool) → is_over_task κ ≡ t → (u : Bool) → is_over_body κ ≡ u
              → OpensExit mode p κ σ ss w extra v f c (onward c c.regs (other_exit mode)) s.memory
          by_kind true over u q =
              let one : step.Alone mode image built good facts left s m h p hp o
              = step.alone mode image built good facts left s m h p hp o over in
              let z : Saved mode image v w = saved_task mode image κ over (env ss extra v f) w saved in
              exits image p small κ over σ ss w (ap (λ (y : Processor). y.cs) one.task.is) extra v f c s.memory
              (on.mark one.still ∙ ap (λ r. if r then 1 else 0) (calm over)) mode z
              (subst (λ n. n < 2 ^ 64) (sym z.rip)
              (word_of_canonical w.rip (ap (λ (y : Processor). is_canonical y.rip) one.task.is ∙ one.task.task.canonical)))
              (subst (λ n. n < 2 ^ 64) (sym (z.flags ∙ ap (λ (y : Processor). y.flags) one.task.is)) (word_of_flags t.flags))
              (subst (λ (y : Processor). AreWords y.regs) (sym one.task.is) one.task.task.words) a
          by_kind false q true over =
              kernel_exits p κ over σ ss w extra v f c s.memory mode (saved_body mode image κ over (env ss extra v f) w saved).cs a
          by_kind false q false r = let clash : false ≡ true = sym (neither κ q r) ∙ plain_kind in absurd (cc)
            where
              neither : (k : Kind) → is_over_task k ≡ false → is_over_body k ≡ false → is_plain_kind k ≡ false
              neither SystemCall q r = q
              neither FromTask q r = q
              neither FromBody q r = r
              neither NmiFromTask q r = refl
              neither NmiFromBody q r = refl

      at_ret : first_fill on.fills ≡ None → (act : Stood on.own b c s.memory) (ss : ℕ) → IsKernelSs mode ss → (extra v : ℕ → ℕ) (f : Flags)
          → At code (block mode (body mode AtItem)) 0 (env ss extra v f) c s.memory → InItem mode image (origin_of κ) (env ss extra v f) w b s.memory.words
          → extra 20 ≡ item_place mode image b.body b.place → length c.regs ≡ 16 → edges mode (body mode AtItem) 0 ≤ on.own
          → item_at (Some body') b.place ≡ Some Ret → Result
      unfolding is_return
      at_ret unfilled act ss ss_is extra v f at means place long enough hi =
          let e : Env = env ss extra v f in
          let B : Block = block mode (body mode AtItem) in
          let a : Agrees e B.ground B.opening c s.memory = at_end code B 0 B.opening refl e c s.memory at in
          let hu : is_user c ≡ false = ap is_user a.rest in
          let rc : RetCell (code_table mode image) (item_address mode b.body body' b.place) (other_exit mode) = facts.ret_cell b.body b.place body' is hi in
          let hc : code c.rip ≡ Some rc.cell = ap code (at_item ss extra v f a place) ∙ rc.is in
          let cpu : Processor = onward c c.regs (other_exit mode) in
          let at_ret_cell : IsAt c (Jmp rc.distance) rc.cell.next = record {
            kernel = hu;
            flags = kept c.flags _ a.flags;
            ends = ap (λ i. c.rip + length (spelling i)) (sym rc.jump) ∙ sym (facts.spaced c.rip rc.cell hc);
          } in
          let does : Executes rc.cell.ins cpu s.memory.words = subst (λ i. Executes i cpu s.memory.words) (sym rc.jump)
          (subst (λ y. Executes (Jmp rc.distance) (onward c c.regs y) s.memory.words) rc.leads
          ((singles c s.memory rc.cell.next).jumps rc.distance at_ret_cell (ap is_canonical rc.leads ∙ exit_canonical mode))) in
          let to_task : (is_over_task κ ≡ true → x.resched ≡ false) → Result = λ calm.
          let y : OpensExit mode p κ σ ss w extra v f c cpu s.memory = exit_from calm act ss extra v f a means.saved in
          let falls = y.fewer in
          step.edge mode image built good facts left s m h p hp o rc.cell hc (ap (λ k. is_seen k s c) rc.unmarked) (ap (λ i. is_return (Some i)) rc.jump) hu
          (step.outside mode image built good facts left s m h p hp o act) cpu s.memory.words does blocked [] (none_spares p) refl
          (step.unknown_none below) (λ n far far'. refl) (edges mode y.spot 0) (omega arith)
          (record {
            stands = record {
              spot = y.spot;
              k = 0;
              extra = extra;
              var = v;
              flags = f;
              ss = ss;
              ss_is = ss_is;
              masked = step.masks mode image built good facts left s m h p hp o B 0 e at;
              within = omega arith;
              enough = omega arith;
              at = begins code (block mode y.spot) e cpu s.memory
                  (step.fits mode image built good facts left s m h p hp o body' is y.spot y.over ss extra v f place y.entry y.told)
                  (y.agrees (step.windows mode image built good facts left s m h p hp o body' is y.spot y.over ss extra v f));
              long = long;
            };
            switches = y.off ∙ sym o.off;
            fills = step.spot_fills_none mode image built good facts left s m h p hp o unfilled y.spot y.over;
            knows = plain_knows mode κ on.frame plain_kind (blocks.holds y.spot);
            means = y.means image b (first_fill on.fills) s.memory.words (record {
              saved = means.saved;
              off = off_at_ret image good built.accepted m p h.legal b below o.bodies (ap (λ o. item_at o b.place) is ∙ hi);
              ret = ap (λ o. item_at o b.place) is ∙ hi;
            });
          }) in
          let visible : visible.AtVisible mode image built good facts left s m h p hp o body' is ss extra v f
          = at_visible unfilled act ss ss_is extra v f at means place long in
          by_mark (is_over_task κ) refl x.resched refl to_task (λ over asked. switching.leaves mode image built good facts left s m h p hp o body' is
          ss extra v f visible over asked a (ap (λ o. item_at o b.place) is ∙ hi) rc.cell hc rc.unmarked (ap (λ i. is_return (Some i)) rc.jump) does
          (step.masks mode image built good facts left s m h p hp o B 0 e at) enough)
        where
          by_mark : (t : Bool) → is_over_task κ ≡ t → (u : Bool) → x.resched ≡ u → ((is_over_task κ ≡ true → x.resched ≡ false) → Result)
              → (is_over_task κ ≡ true → x.resched ≡ true → Result) → Result
          by_mark true q true r leaves switches = switches q r
          by_mark t q false r leaves switches = leaves (λ over. r)
          by_mark false q u r leaves switches = leaves (λ over. let clash : false ≡ true = sym q ∙ over in absurd (cc))

      pub by_item : first_fill on.fills ≡ None → (act : Stood on.own b c s.memory) (ss : ℕ) → IsKernelSs mode ss → (extra v : ℕ → ℕ) (f : Flags)
          → At code (block mode (body mode AtItem)) 0 (env ss extra v f) c s.memory → InItem mode image (origin_of κ) (env ss extra v f) w b s.memory.words
          → extra 20 ≡ item_place mode image b.body b.place → length c.regs ≡ 16 → edges mode (body mode AtItem) 0 ≤ on.own
          → (i : Item) → is_built_item i ≡ true → item_at (Some body') b.place ≡ Some i → Result
      unfolding is_built_item at_visible visible_of number_of numbers_of address_local page_local has_operands
      by_item unfilled act ss ss_is extra v f at means place long enough i today hi = pick i today hi
        where
          a : visible.AtVisible mode image built good facts left s m h p hp o body' is ss extra v f
          a = at_visible unfilled act ss ss_is extra v f at means place long

          off : a.offset ≡ 0
          off = refl

          same : a.flags ≡ f
          same = item_flags mode (env ss extra v f)

          does : visible.Does mode image built good facts left s m h p hp o body' is ss extra v f a → Result
          does d = visible.visible mode image built good facts left s m h p hp o body' is ss extra v f a d

          -- the number for RAX comes first
          number : (i : Item) (ins : Ins) → visible_of i ≡ Some ins → item_at (Some body') b.place ≡ Some i → (n : ℕ) → number_of (Some i) ≡ Some n → Result
          number i ins seen hi n q = inside.to_number mode image built good facts left s m h p hp o body' is unfilled act ss ss_is extra v f at means place
              long enough
              i ins seen hi n q

          ruled : IsRuled image body'
          ruled = steps.ruled mode image built good facts left s m h p hp o body' is ss extra v f a

          -- the move of a local to RAX comes first
          address : (i : Item) (ins : Ins) → visible_of i ≡ Some ins → item_at (Some body') b.place ≡ Some i → (r : ℕ) → address_local (Some i) ≡ Some r
              → is_local r ≡ true → Result
          address i ins seen hi r q ok =
              let g : Agrees (env ss extra v f) (block mode (body mode AtItem)).ground (block mode (body mode AtItem)).opening c s.memory
              = at_end code (block mode (body mode AtItem)) 0 _ refl (env ss extra v f) c s.memory at in
              addresses.to_address mode image built good facts left s m h p hp o body' is unfilled act ss ss_is extra v f at means place long enough a.kernel
              i ins seen hi r q (steps.is_the_local mode image built good facts left s m h p hp o body' is ss extra v f a r ok)
              (kept c.flags a.flags a.state.flags) (at_item ss extra v f g place)

          -- and that of a local to RAX, of which the page is told
          page : (i : Item) (ins : Ins) → visible_of i ≡ Some ins → item_at (Some body') b.place ≡ Some i → (r : ℕ) → page_local (Some i) ≡ Some r
              → is_local r ≡ true → Result
          page i ins seen hi r q ok =
              let g : Agrees (env ss extra v f) (block mode (body mode AtItem)).ground (block mode (body mode AtItem)).opening c s.memory
              = at_end code (block mode (body mode AtItem)) 0 _ refl (env ss extra v f) c s.memory at in
              pages.to_page mode image built good facts left s m h p hp o body' is unfilled act ss ss_is extra v f at means place long enough a.kernel
              i ins seen hi r q (steps.is_the_local mode image built good facts left s m h p hp o body' is ss extra v f a r ok)
              (kept c.flags a.flags a.state.flags) (at_item ss extra v f g place)

          pick : (i : Item) → is_built_item i ≡ true → item_at (Some body') b.place ≡ Some i → Result
          pick (Set d n) today hi = does (steps.by_set mode image built good facts left s m h p hp o body' is ss extra v f a off same d n hi)
          pick (Copy d q) today hi = does (steps.by_copy mode image built good facts left s m h p hp o body' is ss extra v f a off same d q hi)
          pick (Item.Alu op d q) today hi = does (steps.by_alu mode image built good facts left s m h p hp o body' is ss extra v f a off same op d q hi)
          pick (Item.Jcc cond n) today hi = does (steps.by_jcc mode image built good facts left s m h p hp o body' is ss extra v f a off same cond n hi)
          pick (Goto n) today hi = does (steps.by_goto mode image built good facts left s m h p hp o body' is ss extra v f a off same n hi)
          pick Item.Nop today hi = does (steps.by_nop mode image built good facts left s m h p hp o body' is ss extra v f a off same hi)
          pick (Cpu d) today hi = does (steps.by_cpu mode image built good facts left s m h p hp o body' is ss extra v f a off same d hi)
          pick (Slot d k) today hi = does (steps.by_slot mode image built good facts left s m h p hp o body' is ss extra v f a off same d k hi)
          pick (Put k q) today hi = does (steps.by_put mode image built good facts left s m h p hp o body' is ss extra v f a off same k q hi)
          pick (Log q) today hi = does (steps.by_log mode image built good facts left s m h p hp o body' is ss extra v f a off same q hi)
          pick (GetReg d r) today hi = does (task.by_getreg mode image built good facts left s m h p hp o body' is ss extra v f a off same d r hi)
          pick (SetReg r q) today hi = does (task.by_setreg mode image built good facts left s m h p hp o body' is ss extra v f a off same r q hi)
          pick (Item.Cell d k) today hi = number (Item.Cell d k) (Load d 0 (pos 0)) refl hi _ refl
          pick (SetCell k q) today hi = number (SetCell k q) (Store 0 (pos 0) q) refl hi _ refl
          pick (AddCell k d) today hi = number (AddCell k d) (Xadd 0 (pos 0) d) refl hi _ refl
          pick (SwapCell k d) today hi = number (SwapCell k d) (Xchg 0 (pos 0) d) refl hi _ refl
          pick (SetRip n) today hi = number (SetRip n) (Store 4 (pos saved_rip) 0) refl hi n refl
          pick Resched today hi = number Resched (GsStore (pos mark_offset) 0) refl hi _ refl
          pick (Uget d q) today hi = address (Uget d q) (Load d 0 (pos 0)) refl hi q refl (and_right (is_local d) _ (ruled.operands b.place (Uget d q) hi).2)
          pick (Uput q r) today hi = address (Uput q r) (Store 0 (pos 0) r) refl hi q refl (and_left (is_local q) _ (ruled.operands b.place (Uput q r) hi).2)
          pick (Map q) today hi = page (Map q) (StoreImm 0 (pos 0) (pos 1)) refl hi q refl (ruled.operands b.place (Map q) hi).2
          pick (Unmap q) today hi = page (Unmap q) (StoreImm 0 (pos 0) (pos 0)) refl hi q refl (ruled.operands b.place (Unmap q) hi).2
          pick Eoi today hi = msr.to_numbers mode image built good facts left s m h p hp o body' is unfilled act ss ss_is extra v f at means place long enough
              Eoi Wrmsr refl hi 0x80b 0 0 refl
          pick (Send to (Irq k)) today hi = msr.to_numbers mode image built good facts left s m h p hp o body' is unfilled act ss ss_is extra v f at means
              place long
              enough (Send to (Irq k)) Wrmsr refl hi 0x830 (command (Irq k)) to refl
          pick Item.Cli today hi = does (interrupts.by_cli mode image built good facts left s m h p hp o body' is ss extra v f a off same hi)
          pick Item.Sti today hi = interrupts.by_sti mode image built good facts left s m h p hp o body' is ss extra v f a off same hi
          pick Item.Bp today hi = breaks.by_bp mode image built good facts left s m h p hp o body' is ss extra v f a off same hi
          pick Ret today hi = at_ret unfilled act ss ss_is extra v f at means place long enough hi
          pick (Kick target r) today hi = to_comparison mode image built good facts left s m h p hp o body' is unfilled act ss ss_is extra v f at means place
              enough target r hi
          pick (Call site to func r) today hi = callings.at_call mode image built good facts left s m h p hp o body' is site to func r hi unfilled act ss ss_is
              extra v f at means place long enough
          pick (Wait site) today hi = waits.at_wait mode image built good facts left s m h p hp o body' is unfilled act ss ss_is extra v f at means place
              long enough
              site hi
          pick Take today hi = first.to_take mode image built good facts left s m h p hp o body' is unfilled act ss ss_is extra v f at means place long enough
              hi
          pick Finish today hi = finishes.at_finish mode image built good facts left s m h p hp o body' is unfilled act ss ss_is extra v f at means place
              enough hi
          pick _ today hi = absurd (cc)

      -- behind the load of a number for RAX
      pub by_number : first_fill on.fills ≡ None → (act : Stood on.own b c s.memory) (ss : ℕ) → IsKernelSs mode ss → (extra v : ℕ → ℕ) (f : Flags) (n : ℕ)
          → At code (block mode (body mode (AtNumber n))) 1 (env ss extra v f) c s.memory → InItem mode image (origin_of κ)
          (env ss extra v f) w b s.memory.words
          → extra 20 ≡ item_place mode image b.body b.place → length c.regs ≡ 16 → (i : Item) → number_of (Some i) ≡ Some n
          → item_at (Some body') b.place ≡ Some i → Result
      unfolding number_of inside.at_number eval breaks_slots
      by_number unfilled act ss ss_is extra v f n at means place long i number hi = pick i number hi
        where
          a : visible.AtVisible mode image built good facts left s m h p hp o body' is ss extra v f
          a = inside.at_number mode image built good facts left s m h p hp o body' is unfilled act ss ss_is extra v f n at means place long

          off : a.offset ≡ 10
          off = refl

          rax : register c 0 ≡ n
          rax = ap (λ (xs : List ℕ). get_or xs 0 0) a.state.regs

          ruled : IsRuled image body'
          ruled = steps.ruled mode image built good facts left s m h p hp o body' is ss extra v f a

          does : visible.Does mode image built good facts left s m h p hp o body' is ss extra v f a → Result
          does d = visible.visible mode image built good facts left s m h p hp o body' is ss extra v f a d

          low : (k : ℕ) → not (nat_lt k 256) ≡ false → k < 256
          low k q = ltb-true k 256 (not-false _ q)

          pick : (i : Item) → number_of (Some i) ≡ Some n → item_at (Some body') b.place ≡ Some i → Result
          pick (Item.Cell d k) q hi = does (numbers.by_cell mode image built good facts left s m h p hp o body' is ss extra v f a off refl k
              (low k (ruled.slots b.place (Item.Cell d k) hi)) (rax ∙ sym (unsome _ _ q)) d hi)
          pick (SetCell k r) q hi = does (numbers.by_setcell mode image built good facts left s m h p hp o body' is ss extra v f a off refl k
              (low k (ruled.slots b.place (SetCell k r) hi)) (rax ∙ sym (unsome _ _ q)) r hi)
          pick (AddCell k d) q hi = does (numbers.by_addcell mode image built good facts left s m h p hp o body' is ss extra v f a off refl k
              (low k (ruled.slots b.place (AddCell k d) hi)) (rax ∙ sym (unsome _ _ q)) d hi)
          pick (SwapCell k d) q hi = does (numbers.by_swapcell mode image built good facts left s m h p hp o body' is ss extra v f a off refl k
              (low k (ruled.slots b.place (SwapCell k d) hi)) (rax ∙ sym (unsome _ _ q)) d hi)
          pick (SetRip j) q hi = does (task.by_setrip mode image built good facts left s m h p hp o body' is ss extra v f a off refl j
              (rax ∙ sym (unsome _ _ q)) hi)
          pick Resched q hi = does (resched.by_resched mode image built good facts left s m h p hp o body' is ss extra v f a off refl
              (rax ∙ sym (unsome _ _ q)) hi)
          pick _ q hi = absurd (cc)

      -- behind the loads of numbers for RCX, RAX and RDX
      pub by_numbers : first_fill on.fills ≡ None → (act : Stood on.own b c s.memory) (ss : ℕ) → IsKernelSs mode ss
          → (extra v : ℕ → ℕ) (f : Flags) (rcx rax rdx : ℕ)
          → At code (block mode (body mode (AtNumbers rcx rax rdx))) 3 (env ss extra v f) c s.memory
          → InItem mode image (origin_of κ) (env ss extra v f) w b s.memory.words
          → extra 20 ≡ item_place mode image b.body b.place → length c.regs ≡ 16 → (i : Item) → is_built_item i ≡ true
          → numbers_of (Some i) ≡ Some (rcx, rax, rdx) → item_at (Some body') b.place ≡ Some i → Result
      unfolding is_built_item numbers_of msr.at_numbers eval key_number
      by_numbers unfilled act ss ss_is extra v f rcx rax rdx at means place long i today numbers hi = pick i today numbers hi
        where
          a : visible.AtVisible mode image built good facts left s m h p hp o body' is ss extra v f
          a = msr.at_numbers mode image built good facts left s m h p hp o body' is unfilled act ss ss_is extra v f rcx rax rdx at means place long

          in_rax : register c 0 ≡ rax
          in_rax = ap (λ (xs : List ℕ). get_or xs 0 0) a.state.regs

          in_rcx : register c 1 ≡ rcx
          in_rcx = ap (λ (xs : List ℕ). get_or xs 1 0) a.state.regs

          in_rdx : register c 2 ≡ rdx
          in_rdx = ap (λ (xs : List ℕ). get_or xs 2 0) a.state.regs

          pick : (i : Item) → is_built_item i ≡ true → numbers_of (Some i) ≡ Some (rcx, rax, rdx) → item_at (Some body') b.place ≡ Some i → Result
          pick Eoi today q hi =
              let z : (rcx, rax, rdx) ≡ (0x80b, 0, 0) = sym (unsome _ _ q) in
              visible.visible mode image built good facts left s m h p hp o body' is ss extra v f a
              (msr.by_eoi mode image built good facts left s m h p hp o body' is ss extra v f a refl refl
              (in_rcx ∙ ap (λ (z : ℕ × ℕ × ℕ). z.0) z) (in_rax ∙ ap (λ (z : ℕ × ℕ × ℕ). z.1) z) (in_rdx ∙ ap (λ (z : ℕ × ℕ × ℕ). z.2) z) hi)
          pick (Send to (Irq k)) today q hi =
              let z : (rcx, rax, rdx) ≡ (0x830, command (Irq k), to) = sym (unsome _ _ q) in
              visible.visible mode image built good facts left s m h p hp o body' is ss extra v f a
              (msr.by_send mode image built good facts left s m h p hp o body' is ss extra v f a to k hi refl refl
              (in_rcx ∙ ap (λ (z : ℕ × ℕ × ℕ). z.0) z) (in_rax ∙ ap (λ (z : ℕ × ℕ × ℕ). z.1) z) (in_rdx ∙ ap (λ (z : ℕ × ℕ × ℕ). z.2) z))
          pick _ today q hi = absurd (cc)

      -- behind the block that comes to the address of the page's word
      pub by_page : first_fill on.fills ≡ None → (act : Stood on.own b c s.memory) (ss : ℕ) → IsKernelSs mode ss
          → (extra v : ℕ → ℕ) (f : Flags) (is_page : Bool)
          → At code (block mode (body mode (AtPageWord is_page))) (page_steps is_page) (env ss extra v f) c s.memory
          → InItem mode image (origin_of κ) (env ss extra v f) w b s.memory.words → extra 20 ≡ item_place mode image b.body b.place
          → LocalInRax mode image page_local (env ss extra v f) b → length c.regs ≡ 16 → (i : Item) → item_at (Some body') b.place ≡ Some i → Result
      unfolding page_local
      by_page unfilled act ss ss_is extra v f is_page at means place page long i hi =
          pick i (ap page_local (sym hi) ∙ ap (λ o. page_local (item_at o b.place)) (sym is) ∙ page.is) hi
        where
          z : pages.AtThePage mode image built good facts left s m h p hp o body' is ss extra v f is_page
          z = pages.at_page mode image built good facts left s m h p hp o body' is unfilled act ss ss_is extra v f is_page at means place long

          does : visible.Does mode image built good facts left s m h p hp o body' is ss extra v f z.visible → Result
          does d = visible.visible mode image built good facts left s m h p hp o body' is ss extra v f z.visible d

          asked : (r : ℕ) → Some r ≡ Some page.register → v 0 ≡ local b r
          asked r q = page.rax ∙ ap (local b) (sym (unsome _ _ q))

          pick : (i : Item) → page_local (Some i) ≡ Some page.register → item_at (Some body') b.place ≡ Some i → Result
          pick (Map r) q hi = does (page_items.by_map mode image built good facts left s m h p hp o body' is ss extra v f z.visible z.offset is_page
              r (asked r q) z.told z.rax hi)
          pick (Unmap r) q hi = does (page_items.by_unmap mode image built good facts left s m h p hp o body' is ss extra v f z.visible z.offset is_page
              r (asked r q) z.told z.rax hi)
          pick _ q hi = absurd (cc)

      -- behind the block that cuts the address in RAX
      pub by_address : first_fill on.fills ≡ None → (ss : ℕ) → IsKernelSs mode ss → (extra v : ℕ → ℕ) (f : Flags)
          → At code (block mode (body mode AtUserWord)) 2 (env ss extra v f) c s.memory → InItem mode image (origin_of κ) (env ss extra v f) w b s.memory.words
          → extra 20 ≡ item_place mode image b.body b.place → LocalInRax mode image address_local (env ss extra v f) b → length c.regs ≡ 16
          → edges mode (body mode AtUserWord) 2 ≤ on.own → (i : Item) → item_at (Some body') b.place ≡ Some i → Result
      unfolding address_local
      by_address unfilled ss ss_is extra v f at means place address long enough i hi =
          pick i (ap address_local (sym hi) ∙ ap (λ o. address_local (item_at o b.place)) (sym is) ∙ address.is) hi
        where
          last : (block mode (body mode AtUserWord)).steps ≡ 2
          last = addresses.address_steps mode

          act : Stood on.own b c s.memory
          act = record {
            stands = record {
              spot = body mode AtUserWord;
              k = 2;
              extra = extra;
              var = v;
              flags = f;
              ss = ss;
              ss_is = ss_is;
              masked = step.masks mode image built good facts left s m h p hp o (block mode (body mode AtUserWord)) 2 (env ss extra v f) at;
              within = subst (λ y. 2 ≤ y) (sym last) (omega arith);
              enough = enough;
              at = at;
              long = long;
            };
            switches = addresses.address_plain mode ∙ sym o.off;
            fills = sym (ap is_some unfilled);
            knows = plain_knows mode κ on.frame plain_kind (blocks.holds (body mode AtUserWord));
            means = means_at mode image κ plain_kind AtUserWord (env ss extra v f) w b (first_fill on.fills) s.memory.words (means, place, address);
          }

          z : addresses.AtTheWord mode image built good facts left s m h p hp o body' is ss extra v f
          z = addresses.at_address mode image built good facts left s m h p hp o body' is unfilled act ss ss_is extra v f at means place long

          rax : (r : ℕ) → Some r ≡ Some address.register → register c 0 ≡ user_address (local b r)
          rax r q = z.rax ∙ ap user_address (address.rax ∙ ap (local b) (sym (unsome _ _ q)))

          pick : (i : Item) → address_local (Some i) ≡ Some address.register → item_at (Some body') b.place ≡ Some i → Result
          pick (Uget d j) q hi = user.by_uget mode image built good facts left s m h p hp o body' is ss extra v f z.visible z.offset j (rax j q) act
              (addresses.address_untold mode) d hi
          pick (Uput j y) q hi = user.by_uput mode image built good facts left s m h p hp o body' is ss extra v f z.visible z.offset j (rax j q) act
              (addresses.address_untold mode) y hi
          pick _ q hi = absurd (cc)
