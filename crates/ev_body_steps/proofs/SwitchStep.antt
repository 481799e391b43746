-- A step in an exit that switches to another task: an instruction of it, or the return to that task, with which the abstract machine switches.
use Rattle.std.proofs.Common.{◌≡◌, inr, ℕ, zero, suc, ◌+◌, ◌-◌, ◌%◌, ◌<◌, ◌≤◌, Bool, true, false, not, ◌&&◌, ◌||◌, List, [], ◌∷◌, ◌++◌, get_or, map, length, Some, None, refl, sym, ap, ◌∙◌, subst, arith, Option}
use Rattle.std.specs.Prelude.{◌==◌, if◌then◌else◌, nat_le, is_some}
use Rattle.std.proofs.lemmas.Bool.{leb-true, leb-false}
use Rattle.std.specs.List.{list_any}
use Rattle.ev_isa.specs.Word.{NatMap, numbers_from}
use Rattle.ev_isa.specs.Flags.{Flags}
use Rattle.ev_isa.specs.declared.mode.Mode.{Mode}
use Rattle.ev_isa.specs.declared.mode.Mode.TheVariants.{Idt, Fred}
use Rattle.ev_event.specs.declared.boundary.Next.{Next}
use Rattle.ev_body.specs.declared.item.Item.TheVariants.{Ret}
use Rattle.ev_body.specs.declared.image.Image.{Image}
use Rattle.ev_body.specs.WellFormed.{IsImage}
use Rattle.ev_listing.specs.AddressMap.{pcpu, task_words, task_selector, stack_top, nlast_entry, repeat_entry}
use Rattle.ev_state.specs.Processor.{Processor, is_user}
use Rattle.ev_mem.specs.Memory.{Memory}
use Rattle.ev_proc.specs.ProcessorStep.{next_of}
use Rattle.ev_proc.specs.declared.stepped.Stepped.{Stepped}
use Rattle.ev_abstract.specs.Boundary.{Choice, choice, is_nmi_body}
use Rattle.ev_abstract.specs.Context.{BodyContext}
use Rattle.ev_abstract.specs.Delivery.{switched, rescheduled, dropped}
use Rattle.ev_abstract.specs.ItemMeaning.{item_step, below_last}
use Rattle.ev_abstract.specs.Machine.{Machine, processor, with_processor}
use Rattle.ev_abstract.specs.Machine as abstract
use Rattle.ev_abstract.specs.Run.{turn}
use Rattle.ev_listing.specs.Marks.{Always}
use Rattle.ev_concrete.specs.ConcreteRun.{System, Activation, without_last, activations_by, is_return}
use Rattle.ev_concrete.specs.Depth.{is_in_repeat, bodies_on, begins_body}
use Rattle.ev_concrete.specs.LiveWords.{area_bytes}
use Rattle.ev_concrete.specs.Opening.{tasks_of}
use Rattle.ev_built.specs.Built.{IsBuilt}
use Rattle.ev_symbolic.specs.Value.{M, V, K, P}
use Rattle.ev_symbolic.specs.State.{SS, Block, find}
use Rattle.ev_symbolic.specs.Run.{brun}
use Rattle.ev_symbolic.specs.Openings.{gs_word}
use Rattle.ev_symbolic.specs.Names.{next_task_tag, next_top_tag}
use Rattle.ev_symbolic.specs.Agrees.{Env, Cell, Code, edge_cell, eval, At, with_words}
use Rattle.ev_symbolic.specs.Machine.{Inside}
use Rattle.ev_symbolic.proofs.Blocks.{earlier, goes_on}
use Rattle.ev_blocks.specs.Fred.{FredToNext, fred_block}
use Rattle.ev_blocks.specs.Fred as fred
use Rattle.ev_blocks.specs.Idt.{IdtReturn, BySysret, ByOtherRip, ByOtherFlags, IdtToNext, idt_block}
use Rattle.ev_blocks.specs.Idt as idt
use Rattle.ev_blocks.specs.Blocks.{Spot, InFred, InIdt, block, edges}
use Rattle.ev_blocks.specs.Blocks as blocks
use Rattle.ev_paths.specs.Lines.{HasKernel}
use Rattle.ev_paths.specs.FredEnds.{fred_end}
use Rattle.ev_paths.specs.IdtEnds.{idt_end}
use Rattle.ev_paths.proofs.FredEnds.{fred_returns}
use Rattle.ev_paths.proofs.IdtEnds.{idt_returns}
use Rattle.ev_activation.specs.Seat.{Kind, Seat, kind_of, seat_of}
use Rattle.ev_table.specs.Table.{code_table}
use Rattle.ev_user.specs.Tasks.{RunsTask}
use Rattle.ev_relation.specs.Filling.{Filling, first_fill, rest_fills, is_filled}
use Rattle.ev_relation.specs.Tasks.{CurrentIs}
use Rattle.ev_relation.specs.Nmi.{inner_edges}
use Rattle.ev_relation.specs.Named.{Changes}
use Rattle.ev_relation.specs.Domain.{IsInDomain}
use Rattle.ev_relation.specs.Active.{here, ToNext, Matches, OverTask, Active}
use Rattle.ev_relation.specs.Relation.{body_edges, Chain, serves, StandsOn, Stands}
use Rattle.ev_relation.specs.Step.{Simulated}
use Rattle.ev_relation.proofs.Facts.{Facts}
use Rattle.ev_relation.proofs.Maps.{at_same, at_other}
use Rattle.ev_relation.proofs.Domains.{with_cr2_open, four_tasks}
use Rattle.ev_relation.proofs.Fits.{IsSeat}
use Rattle.ev_relation.proofs.Switch.{switch_unfilled, is_switch, next_level, means_switch, switch_ends, NamesTasks, names_tasks, switch_names, switch_changes}
use Rattle.ev_body_steps.proofs.Instructions.{stays_inside}
use Rattle.ev_relation.proofs.Legality.{context_serves}
use Rattle.ev_relation.proofs.Standing.{masked_first, after_went, went_stays, ran_returns}
use Rattle.ev_relation.proofs.Stays.{AreKept, means_stay, leads_again, seat_fits}
use Rattle.ev_relation.proofs.Chains.{active_masked}
use Rattle.ev_relation.proofs.After.{AreCallFree, own_word, none_spares, slot_same, apic_again, own_stands, own_becomes, filled_below, records_after, CallsAlike}
use Rattle.ev_relation.proofs.CallKinds.{is_over_task, over_any, stands_on_task, plain_no_nmi, ArePlain, means_plain, means_of, level_of}
use Rattle.ev_relation.proofs.Depth.{active_outside, ends_a_body}
use Rattle.ev_body_steps.proofs.Return.{Exits, tells_word, fred_exits_to_next, idt_exits_to_next}
use Rattle.ev_body_steps.proofs.KernelStep as step

-- ---- the tasks take turns

-- behind a switch the next one runs, and those that wait are the others in order
pub rotates : (n r : ℕ) → r < n → n ≤ 4 → map (λ i. i % n) (numbers_from (suc r) (n - 1)) ++ r ∷ []
    ≡ suc r % n ∷ map (λ i. i % n) (numbers_from (suc (suc r % n)) (n - 1))
rotates (suc zero) zero h few = refl
rotates (suc (suc zero)) zero h few = refl
rotates (suc (suc zero)) (suc zero) h few = refl
rotates (suc (suc (suc zero))) zero h few = refl
rotates (suc (suc (suc zero))) (suc zero) h few = refl
rotates (suc (suc (suc zero))) (suc (suc zero)) h few = refl
rotates (suc (suc (suc (suc zero)))) zero h few = refl
rotates (suc (suc (suc (suc zero)))) (suc zero) h few = refl
rotates (suc (suc (suc (suc zero)))) (suc (suc zero)) h few = refl
rotates (suc (suc (suc (suc zero)))) (suc (suc (suc zero))) h few = refl
rotates n r h few = absurd (omega arith)

pub first_of : (xs ys : List ℕ) (r n : ℕ) → xs ++ r ∷ [] ≡ n ∷ ys → get_or xs 0 r ≡ n
first_of [] ys r n h = ap (λ zs. get_or zs 0 r) h
first_of (x ∷ xs) ys r n h = ap (λ zs. get_or zs 0 r) h

-- ---- what the end of the exit says of the words that name the running task

-- a base that is an address
at_base_is : (n a : ℕ) → n ≡ a → a < M → (n + 0) % M ≡ a
at_base_is n a h l = omega arith

module _ (mode : Mode) (p : ℕ) (hp : p < 32) (κ : Kind) (σ : Seat) (w : Processor) (ss : ℕ) (extra v : ℕ → ℕ) (f : Flags) (code : Code) (c : Processor)
    (m : Memory) (task next : ℕ) (names : NamesTasks p extra task next) where
  abbrev e : Env
  e = here mode p κ σ ss w extra v f

  -- a word of the area is what the block's end tells
  tells : (b : Block) (z : SS) → At code b b.steps e c m → brun b b.steps ≡ Some z → (o a : ℕ) → o < 0x10000 → (x : V) → find (gs_word o) z.words ≡ Some x
      → eval e x ≡ a → m.words (pcpu p + o) ≡ a
  tells b z at runs o a l x h is =
      sym (ap m.words (let q : (pcpu p + o) % M ≡ pcpu p + o = omega arith in q)) ∙ tells_word code b z e c m at runs (gs_word o) x h ∙ is

  top_is : eval e (P next_top_tag 0) ≡ stack_top p next
  unfolding eval
  top_is = let few = names.few.1 in at_base_is (extra next_top_tag) (stack_top p next) names.next_top (omega arith)

  words_are : eval e (P next_task_tag 0) ≡ task_words p next
  unfolding eval
  words_are = let few = names.few.1 in at_base_is (extra next_task_tag) (task_words p next) names.next_words (omega arith)

  -- the words of the next task, and no mark
  pub record IsNext (k : Mode) : Type 0 where
    pub current : CurrentIs k p next m.words
    pub mark : m.words (pcpu p + 0x20) ≡ 0

  pub fred_switched : At code (fred_block (fred.Leaves FredToNext)) (fred_block (fred.Leaves FredToNext)).steps e c m → IsNext Fred
  unfolding eval
  fred_switched at =
      let b : Block = fred_block (fred.Leaves FredToNext) in
      let z : SS = fred_end (fred.Leaves FredToNext) in
      let runs = fred_returns.to_next.runs in record {
        current = record {
          top = tells b z at runs 0x10 (stack_top p next) (omega arith) (P next_top_tag 0) (ap (λ xs. get_or xs 0 None) fred_returns.switched) top_is;
          current = tells b z at runs 0x18 (task_words p next) (omega arith) (P next_task_tag 0) (ap (λ xs. get_or xs 1 None) fred_returns.switched) words_are;
          tss = tt;
        };
        mark = tells b z at runs 0x20 0 (omega arith) (K 0) (ap (λ xs. get_or xs 2 None) fred_returns.switched) refl;
      }

  idt_runs : (by : IdtReturn) → brun (idt_block (idt.Leaves (IdtToNext by))) (idt_block (idt.Leaves (IdtToNext by))).steps
      ≡ Some (idt_end (idt.Leaves (IdtToNext by)))
  idt_runs BySysret = idt_returns.to_next.runs
  idt_runs ByOtherRip = idt_returns.to_next_by_rip.runs
  idt_runs ByOtherFlags = idt_returns.to_next_by_flags.runs

  pub idt_switched : (by : IdtReturn) → At code (idt_block (idt.Leaves (IdtToNext by))) (idt_block (idt.Leaves (IdtToNext by))).steps e c m → IsNext Idt
  unfolding eval
  idt_switched by at =
      let b : Block = idt_block (idt.Leaves (IdtToNext by)) in
      let z : SS = idt_end (idt.Leaves (IdtToNext by)) in
      let has = idt_returns.switched by in record {
        current = record {
          top = tells b z at (idt_runs by) 0x10 (stack_top p next) (omega arith) (P next_top_tag 0) (ap (λ xs. get_or xs 1 None) has) top_is;
          current = tells b z at (idt_runs by) 0x18 (task_words p next) (omega arith) (P next_task_tag 0) (ap (λ xs. get_or xs 2 None) has) words_are;
          tss = tells b z at (idt_runs by) 0x408 (stack_top p next) (omega arith) (P next_top_tag 0) (ap (λ xs. get_or xs 0 None) has) top_is;
        };
        mark = tells b z at (idt_runs by) 0x20 0 (omega arith) (K 0) (ap (λ xs. get_or xs 3 None) has) refl;
      }

-- ---- the step

module _ (mode : Mode) (image : Image) (built : IsBuilt image) (good : IsImage image) (facts : Facts mode image)
    (left : NatMap ℕ) (s : System) (m : Machine) (h : Stands mode image left s m) (p : ℕ) (hp : p < image.processors) where
  abbrev code : Code
  code = code_table mode image

  abbrev c : Processor
  c = s.cpus p

  abbrev x : abstract.Processor
  x = processor m p

  abbrev on : StandsOn mode image p (left p) s x
  on = step.on mode image built good facts left s m h p hp

  abbrev domain : IsInDomain x
  domain = step.domain mode image built good facts left s m h p hp

  abbrev small : p < 32
  small = step.small mode image built good facts left s m h p hp

  abbrev blocked : c.nmi_blocked ≡ false
  blocked = step.blocked mode image built good facts left s m h p hp

  abbrev r : ℕ
  r = x.running

  abbrev to : ℕ
  to = on.returning

  abbrev Result : Type 0
  Result = Simulated mode image left s m p

  -- the seat whose steps leave the saved areas at the stacks' tops: the exit writes no stack
  abbrev τ : Seat
  τ = record { stack = r; used = area_bytes mode }

  narrow : r < 7
  narrow = let z = step.narrow_task mode image built good facts left s m h p hp in omega arith

  call_free : AreCallFree p (switch_names p)
  call_free = record {
    allowed = record {
      written = (small, (small, (small, (small, tt))));
      own = λ q d. (own_word p q d, (own_word p q d, (own_word p q d, (own_word p q d, tt))));
    };
    calls = refl;
  }

  module _ (b : BodyContext) (bodies : x.bodies ≡ b ∷ []) (last : Activation) (acts : s.activations p ≡ last ∷ [])
      (k : Chain mode image p on.own r to (x.tasks to) on.frame on.switching on.fills (b ∷ []) (last ∷ []) c s.memory) (now_on : on.switching ≡ true) where
    abbrev κ : Kind
    κ = kind_of image b []

    abbrev σ : Seat
    σ = seat_of mode image r (b ∷ [])

    abbrev w : Processor
    w = k.0

    abbrev act : Active mode image p on.own κ σ on.frame on.switching (first_fill on.fills) w b c s.memory
    act = k.6

    abbrev spot : Spot
    spot = act.stands.spot

    abbrev env : Env
    env = here mode p κ σ act.stands.ss w act.stands.extra act.stands.var act.stands.flags

    plain : ArePlain image (b ∷ [])
    plain = (means_plain mode image κ spot env w b (first_fill on.fills) s.memory.words act.means, tt)

    over : is_over_task κ ≡ true
    over = stands_on_task image b plain.0

    in_seat : IsSeat σ
    in_seat = seat_fits mode image r b [] plain narrow (omega arith)

    meant : (is_switch mode spot ≡ true) × ToNext mode image (next_level mode env) env w b
    meant = means_switch mode image κ spot env w b (first_fill on.fills) s.memory.words act.means (act.switches ∙ now_on)

    abbrev next : ℕ
    next = meant.1.next

    names : NamesTasks p act.stands.extra meant.1.task next
    names = (names_tasks mode image p κ σ act.stands.ss w act.stands.extra act.stands.var act.stands.flags _ w b meant.1).1

    -- the processor to which it returns runs the next task
    lower : Chain mode image p (body_edges mode image) r to (x.tasks to) on.frame false (rest_fills on.fills) [] [] w s.memory
    lower = over_any mode image (λ v. Chain mode image p (body_edges mode image) r to (x.tasks to) on.frame false
        (rest_fills on.fills) [] [] v s.memory) _ w k.4

    under : RunsTask mode image p to (x.tasks to) w
    under = lower.0

    -- it fills no call record
    unfilled : first_fill on.fills ≡ None
    unfilled = none_of (first_fill on.fills) (sym act.fills ∙ switch_unfilled mode spot meant.0)
      where
        none_of : (g : Option Filling) → is_some g ≡ false → g ≡ None
        none_of None q = refl
        none_of (Some f) q = let clash : true ≡ false = q in absurd (cc)

    off : b.interrupts ≡ false
    off = meant.1.off

    first : next_of c (s.apics p) (s.latches p) ≡ Next.Instruction
    first = masked_first c (s.apics p) (s.latches p) (step.latch mode image built good facts left s m h p hp)
        (active_masked mode image p on.own κ σ on.frame on.switching (first_fill on.fills) w b c s.memory act ∙ off)

    outside : is_in_repeat c.rip ≡ false
    outside = active_outside mode image facts p on.own κ σ on.frame on.switching (first_fill on.fills) w b c s.memory k.1 act

    kernel : is_user c ≡ false
    kernel = ap is_user act.stands.at.agrees.rest

    none_nmi : list_any (is_nmi_body image) x.bodies ≡ false
    none_nmi = step.none_is_nmi mode image built good facts left s m h p hp

    -- ---- an instruction of the exit

    inside : act.stands.k < (block mode spot).steps → Result
    inside lt =
        let a = act.stands in
        let S : ℕ = (block mode spot).steps in
        let end = switch_ends mode spot meant.0 in
        let i : Inside code (block mode spot) (suc a.k) env c s.memory = goes_on code (block mode spot) S end.0 end.1 a.k env c s.memory a.at lt in
        let before = earlier (block mode spot) (suc a.k) (S - suc a.k) end.0
        (ap (brun (block mode spot)) (let q : (S - suc a.k) + suc a.k ≡ S = omega arith in q) ∙ end.1) in
        let few = a.enough in
        let returns : is_return (Some i.ins) ≡ false
        = stays_inside code (block mode spot) a.k env c s.memory a.at before.0 before.1 i.ins i.next i.stands in
        let cell : Cell = edge_cell i.ins i.next in
        let now : ℕ = edges mode spot (suc a.k) in
        let changes : Changes p τ (switch_names p) s.memory.words i.words
        = switch_changes mode image p σ in_seat hp good.count.1 κ a.ss w a.extra a.var a.flags meant.1.task next names spot meant.0 τ s.memory.words i.words
        i.within in
        let mem : Memory = with_words s.memory i.words in
        let stays : activations_by s p (s.activations p) i.cpu Stepped.Ran ≡ last ∷ []
        = went_stays image.processors s p i.cpu None i.ins ((step.fetches mode image built good facts left s m h p hp) c.rip cell i.stands).1 returns ∙ acts in
        let act' : Active mode image p now κ σ on.frame on.switching (first_fill on.fills) w b i.cpu mem = record {
          stands = record {
            spot = spot;
            k = suc a.k;
            extra = a.extra;
            var = a.var;
            flags = a.flags;
            ss = a.ss;
            ss_is = a.ss_is;
            masked = a.masked;
            within = lt;
            enough = omega arith;
            at = i.there;
            long = i.long ∙ a.long;
          };
          switches = act.switches;
          fills = act.fills;
          knows = act.knows;
          means = means_stay mode image κ spot env w b (first_fill on.fills) s.memory.words i.words (switch_unfilled mode spot meant.0)
              (subst (λ bs. AreKept p on.fills bs s.memory.words i.words) bodies
              (step.contexts_stay mode image built good facts left s m h p hp τ narrow (switch_names p) call_free i.words changes)).0.0 act.means;
        } in
        let chain : Chain mode image p now r to (x.tasks to) on.frame on.switching on.fills (b ∷ []) (last ∷ []) i.cpu mem = (
          w,
          k.1,
          k.2,
          k.3,
          k.4,
          leads_again mode image p κ on.frame w s.memory.words i.words k.5,
          act',
        ) in
        let there : StandsOn mode image p (now + inner_edges (s.latches p)) (after_went image.processors s p (s.apics p) i.cpu i.words None) x
        = own_becomes mode image p (left p) s (after_went image.processors s p (s.apics p) i.cpu i.words None) x τ i.cpu _ i.words x.tasks x.slots x.resched
        on.fills x.bodies now on small (four_tasks image good p hp) (step.moves mode image built good facts left s m h p hp (s.apics p) i.cpu i.words None)
        (λ j d. inr (omega arith)) narrow
        (switch_names p) call_free.allowed changes on.marked (λ e. absurd (never e)) (λ e. absurd (never e))
        (λ j l. slot_same p τ (switch_names p) small narrow s.memory.words i.words call_free.allowed.written changes refl p j small l ∙ on.slots j l)
        (λ j d. refl) on.tasks (i.blocking ∙ blocked ∙ sym none_nmi) x.pending
        (apic_again mode image (s.apics p) _ x.pending x.bodies x.bodies (at_same s.apics p p (s.apics p) refl) (λ class. refl) on.apic)
        on.free (records_after mode image p (left p) s x τ i.words on small narrow (switch_names p) call_free changes on.fills (λ k. refl))
        (let l = on.short in omega arith)
        (subst (λ as'. Chain mode image p now r to (x.tasks to) on.frame on.switching on.fills x.bodies as' i.cpu mem) (sym stays)
        (subst (λ bs. Chain mode image p now r to (x.tasks to) on.frame on.switching on.fills bs (last ∷ []) i.cpu mem) (sym bodies) chain)) in
        step.edge_to mode image built good facts left s m h p hp first cell i.stands refl returns kernel outside i.cpu i.words i.runs τ narrow
        (switch_names p) call_free refl refl refl changes now (one_less S a.k (blocks.behind spot) on.own lt few) there
      where
        never : on.switching ≡ false → ⊥
        never e = let clash : true ≡ false = sym now_on ∙ e in cc

        one_less : (n k behind own : ℕ) → k < n → (n - k) + behind ≤ own → (n - suc k) + behind < own
        one_less n k behind own h l = omega arith

    -- ---- the return

    -- the tasks of the processor
    abbrev n : ℕ
    n = length (tasks_of image p)

    abbrev queue : List ℕ
    queue = map (λ i. i % n) (numbers_from (suc (suc r % n)) (n - 1))

    rotation : x.waiting ++ r ∷ [] ≡ suc r % n ∷ queue
    rotation = ap (λ ws. ws ++ r ∷ []) on.waiting ∙ rotates n r on.running (four_tasks image good p hp)

    to_is : to ≡ suc r % n
    to_is = on.is_returning ∙ ap (λ z. if z then get_or x.waiting 0 r else r) now_on ∙ first_of x.waiting queue r (suc r % n) rotation

    -- that to which it returns
    next_is : next ≡ suc r % n
    next_is =
        let same : task_selector p to ≡ task_selector meant.1.p next = sym (ap (λ (y : Processor). y.gs) under.is) ∙ meant.1.chosen in
        let own : meant.1.p ≡ p
        = (names_tasks mode image p κ σ act.stands.ss w act.stands.extra act.stands.var act.stands.flags _ w b meant.1).0 in
        (let q : next ≡ to = omega arith in q) ∙ to_is

    abbrev x' : abstract.Processor
    x' = record x { running = suc r % n; waiting = queue; resched = false; bodies = [] }

    switched_is : (ws : List ℕ) → ws ≡ suc r % n ∷ queue → switched (record x { bodies = []; resched = false }) ws ≡ x'
    switched_is ws e = ap (switched (record x { bodies = []; resched = false })) e

    no_nmi : is_nmi_body image b ≡ false
    no_nmi = by (is_nmi_body image b) (plain_no_nmi image b over)
      where
        by : (t : Bool) → (t || false) ≡ false → t ≡ false
        by true e = absurd (cc)
        by false e = refl

    chosen : choice image x ≡ Choice.Next
    chosen = step.masked_choice mode image built good facts left s m h p hp b [] bodies off

    turned : turn image m p ≡ (with_processor m p x', [])
    unfolding item_step
    turned =
        step.context_turns mode image built good facts left s m h p hp b [] bodies chosen Ret meant.1.ret
        ∙ ap (λ bs. (with_processor m p (dropped image b x (below_last bs)), [])) bodies
        ∙ ap (λ t. (with_processor m p (if t && not (is_nmi_body image b) then rescheduled (record x { bodies = [] }) else record x { bodies = [] }), []))
        (on.marked now_on)
        ∙ ap (λ t. (with_processor m p (if not t then rescheduled (record x { bodies = [] }) else record x { bodies = [] }), [])) no_nmi
        ∙ ap (λ y. (with_processor m p y, [])) (switched_is (x.waiting ++ r ∷ []) rotation)

    leaves : Exits code c s.memory w → CurrentIs mode p next s.memory.words → s.memory.words (pcpu p + 0x20) ≡ 0 → Result
    leaves y current mark =
        let cell : Cell = record { ins = y.ins; next = y.next; mark = Always } in
        let hc : code c.rip ≡ Some cell = ap code y.rip ∙ y.cell in
        let back : Processor = record w { cr2 = c.cr2; nmi_blocked = false } in
        let fetched = ((step.fetches mode image built good facts left s m h p hp) c.rip cell hc).1 in
        let gone : activations_by s p (s.activations p) back Stepped.Ran ≡ []
        = ran_returns s p back y.ins fetched y.is kernel
        (ap (λ n. (n == nlast_entry + 12) && (back.rip == repeat_entry) && not (is_user back)) y.rip
        ∙ ap (λ q. q && (back.rip == repeat_entry) && not (is_user back)) y.unlike) ∙ ap without_last acts in
        let after : System = after_went image.processors s p (s.apics p) back s.memory.words None in
        let runs : RunsTask mode image p (suc r % n) (x.tasks (suc r % n)) back
        = subst (λ i. RunsTask mode image p i (x.tasks i) back) to_is (with_cr2_open mode image p to (x.tasks to) w c.cr2 under) in
        let there : StandsOn mode image p (body_edges mode image + inner_edges (s.latches p)) after x'
        = own_stands mode image p (left p) (body_edges mode image) s after x x' back _ s.memory.words on
        (step.moves mode image built good facts left s m h p hp (s.apics p) back s.memory.words None)
        (record {
          running = let l = on.running in omega arith;
          waiting = refl;
          switching = false;
          marked = λ f. absurd (cc);
          returning = suc r % n;
          is_returning = refl;
          current = λ f. subst (λ i. CurrentIs mode p i s.memory.words) next_is current;
          mark = λ f. mark;
          saved = λ i l d. on.saved i l (λ f. d (f ∙ to_is));
          tasks = on.tasks;
          latch = refl;
          blocked = refl;
          apic = apic_again mode image (s.apics p) (after.apics p) x.pending x.bodies [] (at_same s.apics p p (s.apics p) refl)
              (λ class. sym (ap (list_any (λ (a : BodyContext). serves mode image class a.service)) bodies
              ∙ ap (λ q. serves mode image class q || false) (context_serves image good built.accepted m p h.legal b [] bodies meant.1.ret))) on.apic;
          slots = on.slots;
          fills = [];
          free = tt;
          records = λ i l none. on.records i l (sym (filled_below i on.fills unfilled) ∙ ap (is_filled i) lower.3);
          short = omega arith;
          chain = (runs, refl, gone, refl);
        }) in
        let becomes : CallsAlike mode image p m (with_processor m p x') x' s.memory.words = record {
          own = at_same m.processors p p x' refl;
          others = λ q f. at_other m.processors p q x' f;
          mail = refl;
          mail_nmi = refl;
          records = refl;
          queue = refl;
          user = h.shares.user;
          held = h.shares.held;
          pages = h.shares.pages;
          cells = h.shares.cells;
        } in
        step.turn_to mode image built good facts left s m h p hp first cell hc refl kernel (s.apics p) back s.memory.words None
        (step.sends_nothing mode image built good facts left s m h p hp) (y.back (s.apics p) (s.latches p)) τ narrow [] (none_spares p).free
        (λ n far far'. refl) (with_processor m p x') [] turned x' becomes
        (step.context_numbers mode image built good facts left s m h p hp b [] bodies chosen Ret meant.1.ret (with_processor m p x') [] turned)
        (record { nmi = domain.nmi; mail_nmi = domain.mail_nmi })
        (ap (λ t. if t then length x.bodies - 1 else (if begins_body c (Some cell.ins) then suc (length x.bodies) else length x.bodies))
        (ends_a_body (Some cell.ins) c y.place y.rip y.outside kernel y.is) ∙ ap (λ (bs : List BodyContext). length bs - 1) bodies)
        (body_edges mode image) there (λ counted. y.silent p (bodies_on s p) c s.memory.words)

    -- at the end of each exit
    at_end : (k : Mode) → k ≡ mode → (spot : Spot) (ss : ℕ) (extra v : ℕ → ℕ) (f : Flags) → NamesTasks p extra meant.1.task next
        → At code (block k spot) (block k spot).steps (here mode p κ σ ss w extra v f) c s.memory
        → is_switch k spot ≡ true → OverTask mode image k spot (here mode p κ σ ss w extra v f) w b (first_fill on.fills) s.memory.words → Result
    at_end Fred q (InFred (fred.Leaves FredToNext)) ss extra v f named at is means =
        let ends = fred_switched mode p small κ σ w ss extra v f code c s.memory meant.1.task next named at in
        leaves (fred_exits_to_next image p small κ σ to (x.tasks to) w ss extra v f b code c s.memory blocked
        (subst (λ m. HasKernel m code) (sym q) facts.kernel) (subst (λ m. RunsTask m image p to (x.tasks to) w) (sym q) under) (level_of Fred κ w over)
        (subst (λ m. ToNext m image (extra next_top_tag) (here m p κ σ ss w extra v f) w b) (sym q) means) meant.1.task next named
        (subst (λ m. At code (fred_block (fred.Leaves FredToNext)) (fred_block (fred.Leaves FredToNext)).steps (here m p κ σ ss w extra v f) c s.memory)
        (sym q) at))
        (subst (λ m. CurrentIs m p next s.memory.words) q ends.current) ends.mark
    at_end Idt q (InIdt (idt.Leaves (IdtToNext by))) ss extra v f named at is means =
        let ends = idt_switched mode p small κ σ w ss extra v f code c s.memory meant.1.task next named by at in
        leaves (idt_exits_to_next image p small κ σ to (x.tasks to) w ss extra v f b code c s.memory blocked by
        (subst (λ m. HasKernel m code) (sym q) facts.kernel) (subst (λ m. RunsTask m image p to (x.tasks to) w) (sym q) under) (level_of Idt κ w over)
        (subst (λ m. ToNext m image (v 63) (here m p κ σ ss w extra v f) w b) (sym q) means.0)
        (subst (λ m. Matches m image by (v 71) (v 54) (v 81) (v 56)) (sym q) means.1)
        (subst (λ m. At code (idt_block (idt.Leaves (IdtToNext by))) (idt_block (idt.Leaves (IdtToNext by))).steps (here m p κ σ ss w extra v f) c s.memory)
        (sym q) at))
        (subst (λ m. CurrentIs m p next s.memory.words) q ends.current) ends.mark
    at_end k q _ ss extra v f named at is means = let clash : false ≡ true = is in absurd (cc)

    act_step : Result
    act_step = pick (nat_le (suc act.stands.k) (block mode spot).steps) refl
      where
        pick : (t : Bool) → nat_le (suc act.stands.k) (block mode spot).steps ≡ t → Result
        pick true q = inside (leb-true _ _ q)
        pick false q =
            let up = leb-false _ _ q in let down = act.stands.within in
            at_end mode refl spot act.stands.ss act.stands.extra act.stands.var act.stands.flags names
            (subst (λ j. At code (block mode spot) j env c s.memory) (let z : act.stands.k ≡ (block mode spot).steps = omega arith in z) act.stands.at)
            meant.0 (means_of mode image κ over spot env w b (first_fill on.fills) s.memory.words act.means)

  -- of an activation that is in such an exit, which stands on the task alone
  pub switch_step : (b : BodyContext) (below : List BodyContext) → x.bodies ≡ b ∷ below → (a : Activation) (as' : List Activation)
      → s.activations p ≡ a ∷ as'
      → (k : Chain mode image p on.own r to (x.tasks to) on.frame on.switching on.fills (b ∷ below) (a ∷ as') c s.memory)
      → blocks.switches k.6.stands.spot ≡ true → Result
  switch_step b [] hb a as' acts k sw =
      let none : as' ≡ [] = (over_any mode image
      (λ v. Chain mode image p (body_edges mode image) r to (x.tasks to) on.frame false (rest_fills on.fills) [] as' v s.memory) _ k.0 k.4).2 in
      act_step b hb a (subst (λ ys. s.activations p ≡ a ∷ ys) none acts)
      (subst (λ ys. Chain mode image p on.own r to (x.tasks to) on.frame on.switching on.fills (b ∷ []) (a ∷ ys) c s.memory) none k) (sym k.6.switches ∙ sw)
  switch_step b (d ∷ ds) hb a as' acts k sw = let clash : false ≡ true = sym k.6.switches ∙ sw in absurd (cc)
