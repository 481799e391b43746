-- What a step of kernel code gives: an edge, or a turn of the abstract machine; and steps inside blocks.
use Rattle.std.proofs.Common.{◌≡◌, inl, inr, ℕ, suc, ◌+◌, ◌-◌, ◌*◌, ◌<◌, ◌≤◌, Bool, true, false, not, ◌&&◌, List, [], ◌∷◌, length, Option, Some, refl, sym, ap, ◌∙◌, subst, arith, None}
use Rattle.std.specs.Prelude.{if◌then◌else◌, ◌==◌, ◌++◌, get_or, slice_get, is_some, nat_le, nat_lt}
use Rattle.std.specs.List.{list_any}
use Rattle.ev_isa.specs.Word.{NatMap, greatest_below}
use Rattle.ev_isa.specs.Flags.{Flags, flags_word}
use Rattle.ev_isa.specs.declared.instruction.Ins.{Ins}
use Rattle.ev_isa.specs.declared.mode.Mode.{Mode}
use Rattle.ev_effect.specs.Task.{Task}
use Rattle.ev_event.specs.declared.boundary.Next.{Next}
use Rattle.ev_body.specs.declared.item.Item.{Item}
use Rattle.ev_body.specs.declared.item.Item.TheVariants.{Ret}
use Rattle.ev_body.specs.declared.body.Body.{Body}
use Rattle.ev_body.specs.declared.image.Image.{Image}
use Rattle.ev_body.specs.WellFormed.{IsImage}
use Rattle.ev_listing.specs.AddressMap.{pcpu, slot_offset, cells_base, nmi_entry, repeat_entry}
use Rattle.ev_listing.specs.Expansion.{item_address}
use Rattle.ev_state.specs.Processor.{Processor, is_user, interrupts_on}
use Rattle.ev_apic.specs.declared.apic.Apic.{Apic}
use Rattle.ev_apic.specs.declared.send.Send.{Send}
use Rattle.ev_mem.specs.Memory.{Memory, page_map}
use Rattle.ev_proc.specs.ProcessorStep.{has_fred, next_of, executed, ran}
use Rattle.ev_proc.specs.declared.stepped.Stepped.{Stepped}
use Rattle.ev_abstract.specs.Boundary.{Choice, choice, is_nmi_body, maskable, open_to_interrupts, interrupt_or_next, deliverable}
use Rattle.ev_abstract.specs.Context.{BodyContext}
use Rattle.ev_abstract.specs.Delivery.{dropped, rescheduled}
use Rattle.ev_abstract.specs.ItemMeaning.{Step, item_step, below_last}
use Rattle.ev_abstract.specs.declared.entry.Entry.{Entry}
use Rattle.ev_abstract.specs.Machine.{Machine, processor, with_processor, task}
use Rattle.ev_abstract.specs.Machine as abstract
use Rattle.ev_abstract.specs.Run.{item_at, item_or_nothing, next_step, chosen_step, turn}
use Rattle.ev_listing.specs.Marks.{Mark, Always}
use Rattle.ev_concrete.specs.ConcreteRun.{System, Activation, marks_of, is_seen, is_return, activations_by}
use Rattle.ev_concrete.specs.Depth.{is_in_repeat, bodies_on, is_jump, ends_body, begins_body}
use Rattle.ev_built.specs.Built.{IsBuilt}
use Rattle.ev_symbolic.specs.Value.{M}
use Rattle.ev_symbolic.specs.State.{Block}
use Rattle.ev_symbolic.specs.Run.{brun}
use Rattle.ev_symbolic.specs.Agrees.{Env, Cell, Code, edge_cell, FactsHold, Open, Fits, At, with_words}
use Rattle.ev_symbolic.specs.Machine.{Fetches, Inside}
use Rattle.ev_symbolic.proofs.Blocks.{earlier, goes_on, cell_step}
use Rattle.ev_blocks.specs.Blocks.{Spot, InFred, InIdt, InBody, block, edges}
use Rattle.ev_blocks.specs.Blocks as blocks
use Rattle.ev_activation.specs.Seat.{Kind, SystemCall, FromTask, FromBody, NmiFromTask, NmiFromBody, Seat, kind_of, seat_by, seat_of, room_of}
use Rattle.ev_table.specs.Table.{code_table}
use Rattle.ev_user.specs.Tasks.{IsTask, RunsTask}
use Rattle.ev_user.specs.Sees.{IsUserWord}
use Rattle.ev_user.specs.Words.{HoldsWords}
use Rattle.ev_concrete.specs.LiveWords.{area_bytes}
use Rattle.ev_concrete.specs.Opening.{tasks_of}
use Rattle.ev_relation.specs.Tasks.{CurrentIs}
use Rattle.ev_relation.specs.Nmi.{Leads, inner_edges}
use Rattle.ev_relation.specs.Named.{Named, AreWritten, is_task_word, is_slot, is_cell, is_page_bit, is_user_word, have_none, UnknownTo, Changes}
use Rattle.ev_relation.specs.Domain.{IsInDomain}
use Rattle.ev_relation.specs.Filling.{Filling, first_fill, rest_fills, is_filled, AreFree}
use Rattle.ev_relation.specs.Active.{item_place, address_of_item, here, IsKernelSs, fills_record, Means, Active}
use Rattle.ev_relation.specs.Relation.{ApicIs, IsContext, Beneath, keeps_cr2, switches_at, chained, Interrupted, body_edges, most_edges, Chain, serves, StandsOn, Stands}
use Rattle.ev_relation.specs.Step.{IsCounted, Simulated}
use Rattle.ev_concrete.specs.Shown.{shown_always}
use Rattle.ev_relation.proofs.Facts.{Facts}
use Rattle.ev_relation.proofs.Maps.{at_same, at_other}
use Rattle.ev_relation.proofs.ModeFacts.{is_fred}
use Rattle.ev_relation.proofs.Spots.{is_spot, spot_unfilled, IsAtEntry, keeps_rsp, names_if, names_at, means_over, body_writes, runs_to_end}
use Rattle.ev_relation.proofs.Fits.{IsSeat, InBodies, fits_at, opens_at, kernel_changes}
use Rattle.ev_body_steps.proofs.Bodies.{Goes}
use Rattle.ev_body_steps.proofs.Instructions.{stays_inside}
use Rattle.ev_relation.proofs.Standing.{hidden, seen, inboxes_by, posted_by, went, after_went, Went, went_step, went_writes, went_safe, went_shows, went_shown, went_activations, went_stays, Moves, step_moves}
use Rattle.ev_relation.proofs.Stays.{AreKept, means_stay, free_small, rest_small, leads_again, AreSpared, chain_stays, seat_fits, below_spared, marks_under}
use Rattle.ev_relation.proofs.Chains.{Kept, chain_kept, chain_plain, chain_open, chain_masked, word_interrupts, at_interrupts}
use Rattle.ev_relation.proofs.Records.{RecordsStay}
use Rattle.ev_relation.proofs.After.{AreCallFree, AreSparing, own_word, none_spares, tasks_same, current_is, mark_is, slot_same, cell_same, page_same, user_same, latch_parts, as_chain, apic_again, own_becomes, own_after, records_after, left_behind, contexts_kept, CallsAlike, stands_alike}
use Rattle.ev_relation.proofs.CallKinds.{is_over_task, is_plain_kind, over_any, beneath_as, stands_alone, ArePlain, none_nmi, seat_under, area_under, plain_seat, plain_knows}
use Rattle.ev_relation.proofs.Words.{IsBeside}
use Rattle.ev_relation.proofs.Domains.{four_tasks}
use Rattle.ev_law.proofs.Ruled.{body_ruled}
use Rattle.ev_user.specs.Numbers.{AreOfWords, HoldsNumbers}
use Rattle.ev_user.proofs.KeepsNumbers.{items_keep_numbers}
use Rattle.ev_relation.proofs.Legality.{turn_legal, turn_bases, turn_calls, turn_few, legal_few, context_serves}
use Rattle.ev_relation.proofs.Arrivals.{comes_to}
use Rattle.ev_relation.proofs.Depth.{body_at, active_outside, stands_depth, goes_on_inside, bodies_behind, went_counts}

-- the names of a block's writes
rsp_spares : (p : ℕ) → p < 32 → (rsp : Bool) → AreSparing p (names_if rsp p)
rsp_spares p hp true = record {
  free = record { allowed = record { written = (hp, tt); own = λ q d. (own_word p q d, tt) }; calls = refl };
  tasks = refl;
  slots = refl;
  cells = refl;
  pages = refl;
}
rsp_spares p hp false = none_spares p

rsp_no_user : (p : ℕ) (rsp : Bool) → have_none is_user_word (names_if rsp p) ≡ true
rsp_no_user p true = refl
rsp_no_user p false = refl

-- who writes no word writes none that others know
pub unknown_none : (below : List BodyContext) → UnknownTo below []
unknown_none [] = tt
unknown_none (b ∷ below) = refl

module _ (mode : Mode) (image : Image) (built : IsBuilt image) (good : IsImage image) (facts : Facts mode image)
    (left : NatMap ℕ) (s : System) (m : Machine) (h : Stands mode image left s m) (p : ℕ) (hp : p < image.processors) where
  abbrev pub code : Code
  code = code_table mode image

  abbrev pub c : Processor
  c = s.cpus p

  abbrev pub x : abstract.Processor
  x = processor m p

  abbrev pub Result : Type 0
  Result = Simulated mode image left s m p

  pub on : StandsOn mode image p (left p) s x
  on = h.each p hp

  pub on_is : on ≡ h.each p hp
  unfolding on
  on_is = refl

  pub domain : IsInDomain x
  domain = h.domain p hp

  pub depth : bodies_on s p ≡ length x.bodies
  depth = stands_depth mode image facts p (left p) s x on

  pub small : p < 32
  small = let n = good.count.1 in omega arith

  pub latch : s.latches p ≡ false
  latch = sym (latch_parts on.layer on.frame _ (s.latches p) c.nmi_blocked x.nmi on.latch).0 ∙ domain.nmi

  pub fetches : Fetches code s.memory
  fetches = facts.fetches s.memory h.regions_are h.fixed

  -- the task that runs, on whose stack the bodies stand, and that to which they return
  abbrev pub r : ℕ
  r = x.running

  abbrev pub to : ℕ
  to = on.returning

  abbrev pub t : Task
  t = x.tasks to

  pub narrow_task : r < 4
  narrow_task = let n = on.running in let four = four_tasks image good p hp in omega arith

  abbrev pub Chained : (now : ℕ) (t : Task) → List BodyContext → List Activation → Processor → Memory → Type 0
  Chained now t bs as' cpu mem = Chain mode image p now r to t on.frame on.switching on.fills bs as' cpu mem

  pub chain : Chained on.own t x.bodies (s.activations p) c s.memory
  chain = as_chain mode image on.layer p on.own on.more r to t on.frame on.switching on.fills x.bodies (s.activations p) c s.memory on.runs

  pub plain : ArePlain image x.bodies
  plain = chain_plain mode image p on.own r to t on.frame on.switching on.fills x.bodies (s.activations p) c s.memory chain

  pub none_is_nmi : list_any (is_nmi_body image) x.bodies ≡ false
  none_is_nmi = none_nmi image x.bodies plain

  pub deep : length x.bodies ≤ 32
  deep = legal_few image good built.accepted m p h.legal

  pub blocked : c.nmi_blocked ≡ false
  blocked = (latch_parts on.layer on.frame _ (s.latches p) c.nmi_blocked x.nmi on.latch).1 ∙ none_is_nmi

  -- what no activation changes of the processor
  pub kept_now : Kept mode image p c
  kept_now = chain_kept mode image p on.own r to t on.frame on.switching on.fills x.bodies (s.activations p) c s.memory chain

  -- a step that writes no word of calls leaves the records of all contexts
  pub contexts_stay : (σ : Seat) → σ.stack < 7 → (names : List Named) → AreCallFree p names → (words : NatMap ℕ) → Changes p σ names s.memory.words words
      → AreKept p on.fills x.bodies s.memory.words words
  unfolding on
  contexts_stay σ narrow names free words changes =
      contexts_kept mode image left s m h p σ words names small narrow good.count.1 free changes p hp

  -- the classes in service are those of the contexts
  abbrev pub ServesAlike : List BodyContext → Type 0
  ServesAlike bs = (class : ℕ) → list_any (λ (a : BodyContext). serves mode image class a.service) bs
      ≡ list_any (λ (a : BodyContext). serves mode image class a.service) x.bodies

  abbrev pub Executes : Ins → Processor → NatMap ℕ → Type 0
  Executes i cpu words = (a : Apic) (nmi : Bool) → executed c a s.memory nmi (Some i) ≡ ran cpu a words nmi

  -- the system behind a step that may send, and as it had been with what is sent in the mail
  abbrev pub Behind : Apic → Processor → NatMap ℕ → Option Send → System
  Behind a cpu words sent = after_went image.processors s p a cpu words sent

  abbrev pub Posted : Option Send → System
  Posted sent = posted_by image.processors s p sent

  pub moves : (a : Apic) (cpu : Processor) (words : NatMap ℕ) (sent : Option Send)
      → Moves p (Posted sent) (Behind a cpu words sent) cpu (went_activations image.processors s p cpu sent) words
  moves a cpu words sent = step_moves (Posted sent) p (went cpu a words (s.latches p) sent) refl

  -- The abstract machine with what is sent in the mail: of p no more is another, and the machines stand for each other.
  pub record Sends (sent : Option Send) : Type 0 where
    pub machine : Machine
    pub own : processor machine p ≡ record x { mail = (processor machine p).mail; mail_nmi = (processor machine p).mail_nmi }
    pub stands : Stands mode image left (Posted sent) machine

  -- where nothing is sent
  abbrev pub sends_nothing : Sends None
  sends_nothing = record { machine = m; own = refl; stands = h }

  -- STI doesn't hold back the interrupts to which a context is open
  abbrev pub Unblocked : BodyContext → Type 0
  Unblocked b = b.interrupts ≡ true → c.sti_blocked ≡ false

  -- ---- what a step of kernel code gives, where an instruction comes first

  module _ (first : next_of c (s.apics p) (s.latches p) ≡ Next.Instruction) where
    runs : (cell : Cell) → code c.rip ≡ Some cell → is_user c ≡ false → (a : Apic) (cpu : Processor) (words : NatMap ℕ) (sent : Option Send)
        → executed c (s.apics p) s.memory (s.latches p) (Some cell.ins) ≡ went cpu a words (s.latches p) sent → Went s p a cpu words sent
    runs cell hc hu a cpu words sent he = cell_step code c (s.apics p) s.memory (s.latches p) cell fetches hc first hu ∙ he

    -- an edge: the processor stands for the same behind it, and so does the system
    pub edge_with : (cell : Cell) → code c.rip ≡ Some cell → is_seen cell.mark s c ≡ false → is_return (Some cell.ins) ≡ false
        → is_user c ≡ false → is_in_repeat c.rip ≡ false → (cpu : Processor) (words : NatMap ℕ) → Executes cell.ins cpu words
        → (now : ℕ) → now < on.own → StandsOn mode image p (now + inner_edges (s.latches p)) (Behind (s.apics p) cpu words None) x
        → Stands mode image (left_behind mode image p (now + inner_edges (s.latches p))) (Behind (s.apics p) cpu words None) m → Result
    edge_with cell hc hm hr hu out cpu words he now fewer there all =
        let run : Went s p (s.apics p) cpu words None = runs cell hc hu (s.apics p) cpu words None (he (s.apics p) (s.latches p)) in
        let bound = on.enough in record {
          safe = went_safe mode image s p (s.apics p) cpu words None run;
          counts = went_counts image.processors s p (s.apics p) cpu words None cell.ins run (fetches c.rip cell hc).1 (length x.bodies) (length x.bodies) depth
              (stands_depth mode image facts p (now + inner_edges (s.latches p)) (Behind (s.apics p) cpu words None) x there)
              (goes_on_inside (is_return (Some cell.ins)) (not (is_user c)) (not (nat_le nmi_entry c.rip && nat_lt c.rip repeat_entry))
              (is_jump (Some cell.ins)) (is_in_repeat c.rip) (length x.bodies) hr out);
          how = inl (record {
            hidden = hidden (marks_of mode image) s p first hu (ap (λ k. is_seen k s c) (facts.marks c.rip cell hc) ∙ hm);
            now = left_behind mode image p (now + inner_edges (s.latches p));
            fewer = subst (λ n. n < left p) (sym (at_same (λ q. most_edges mode image) p p (now + inner_edges (s.latches p)) refl)) (omega arith);
            stands = subst (λ y. Stands mode image (left_behind mode image p (now + inner_edges (s.latches p))) y.0 m)
                (sym (went_step image.processors s p (s.apics p) cpu words None run)) all;
            writes = went_writes image.processors s p (s.apics p) cpu words None run;
          });
        }

    -- which writes no word of the abstract machine's
    pub edge_to : (cell : Cell) → code c.rip ≡ Some cell → is_seen cell.mark s c ≡ false → is_return (Some cell.ins) ≡ false
        → is_user c ≡ false → is_in_repeat c.rip ≡ false → (cpu : Processor) (words : NatMap ℕ) → Executes cell.ins cpu words
        → (σ : Seat) → σ.stack < 7 → (names : List Named) → AreCallFree p names → have_none is_page_bit names ≡ true → have_none is_cell names ≡ true
        → have_none is_user_word names ≡ true → Changes p σ names s.memory.words words → (now : ℕ) → now < on.own
        → StandsOn mode image p (now + inner_edges (s.latches p)) (Behind (s.apics p) cpu words None) x → Result
    edge_to cell hc hm hr hu out cpu words he σ narrow names free no_page no_cell no_user changes now fewer there =
        let written = free.allowed.written in
        edge_with cell hc hm hr hu out cpu words he now fewer there
        (stands_alike mode image left s (Behind (s.apics p) cpu words None) m m p (now + inner_edges (s.latches p)) x σ cpu _ words good built.accepted
        (four_tasks image good) h hp (moves (s.apics p) cpu words None) narrow names free changes
        (record {
          own = refl;
          others = λ q e. refl;
          mail = refl;
          mail_nmi = refl;
          records = refl;
          queue = refl;
          user = λ a u. user_same p σ names small narrow s.memory.words words written changes no_user a u ∙ h.shares.user a u;
          held = h.shares.held;
          pages = λ i l. page_same p σ names small narrow s.memory.words words written changes no_page i l ∙ h.shares.pages i l;
          cells = λ k l. cell_same p σ names small narrow s.memory.words words written changes no_cell k l ∙ h.shares.cells k l;
        })
        h.legal h.bases h.numbers h.told (let few = h.few in omega (arith, few)) h.calls domain there)

    -- a visible step: the processor stands for the one of the machine behind the abstract machine's turn, and the system for that machine
    pub turn_with : (cell : Cell) → code c.rip ≡ Some cell → (mark : Mark) → cell.mark ≡ mark → is_seen mark s c ≡ true → is_user c ≡ false
        → (a : Apic) (cpu : Processor) (words : NatMap ℕ) (sent : Option Send)
        → executed c (s.apics p) s.memory (s.latches p) (Some cell.ins) ≡ went cpu a words (s.latches p) sent
        → (m' : Machine) (es : List Entry) → turn image m p ≡ (m', es) → (x' : abstract.Processor)
        → bodies_behind (length x.bodies) c cell.ins sent ≡ length x'.bodies
        → (now : ℕ) → StandsOn mode image p (now + inner_edges (s.latches p)) (Behind a cpu words sent) x'
        → Stands mode image (left_behind mode image p (now + inner_edges (s.latches p))) (Behind a cpu words sent) m'
        → (IsCounted s → went_shows p s mark cell.ins cpu words sent ≡ es) → Result
    turn_with cell hc mark hm is hu a cpu words sent he m' es ht x' told now there all hes =
        let run : Went s p a cpu words sent = runs cell hc hu a cpu words sent he in
        let marked = facts.marks c.rip cell hc ∙ hm in
        let turned : Stands mode image (left_behind mode image p (now + inner_edges (s.latches p))) (Behind a cpu words sent) (turn image m p).0 =
        subst (λ q. Stands mode image (left_behind mode image p (now + inner_edges (s.latches p))) (Behind a cpu words sent) q.0) (sym ht) all in record {
          safe = went_safe mode image s p a cpu words sent run;
          counts = went_counts image.processors s p a cpu words sent cell.ins run (fetches c.rip cell hc).1 (length x.bodies) (length x'.bodies) depth
              (stands_depth mode image facts p (now + inner_edges (s.latches p)) (Behind a cpu words sent) x' there) told;
          how = inr (record {
            seen = seen (marks_of mode image) s p first hu (ap (λ k. is_seen k s c) marked ∙ is);
            now = left_behind mode image p (now + inner_edges (s.latches p));
            stands = subst (λ q. Stands mode image (left_behind mode image p (now + inner_edges (s.latches p))) q.0 (turn image m p).0)
                (sym (went_step image.processors s p a cpu words sent run)) turned;
            entries = λ counted. went_shown (marks_of mode image) s p a cpu words sent mark cell.ins run hu marked (fetches c.rip cell hc).1
                ∙ hes counted ∙ sym (ap (λ (q : Step). q.1) ht);
          });
        }

    -- which writes no word of a call, and is always seen
    pub turn_to : (cell : Cell) → code c.rip ≡ Some cell → cell.mark ≡ Always → is_user c ≡ false
        → (a : Apic) (cpu : Processor) (words : NatMap ℕ) (sent : Option Send) (z : Sends sent)
        → executed c (s.apics p) s.memory (s.latches p) (Some cell.ins) ≡ went cpu a words (s.latches p) sent
        → (σ : Seat) → σ.stack < 7 → (names : List Named) → AreCallFree p names → Changes p σ names s.memory.words words
        → (m' : Machine) (es : List Entry) → turn image m p ≡ (m', es) → (x' : abstract.Processor) → CallsAlike mode image p z.machine m' x' words
        → HoldsNumbers m' → IsInDomain x'
        → bodies_behind (length x.bodies) c cell.ins sent ≡ length x'.bodies
        → (now : ℕ) → StandsOn mode image p (now + inner_edges (s.latches p)) (Behind a cpu words sent) x'
        → (IsCounted s → went_shows p s Always cell.ins cpu words sent ≡ es) → Result
    turn_to cell hc hm hu a cpu words sent z he σ narrow names free changes m' es ht x' becomes numbers inside told now there hes =
        turn_with cell hc Always hm refl hu a cpu words sent he m' es ht x' told now there
        (stands_alike mode image left (Posted sent) (Behind a cpu words sent) z.machine m' p (now + inner_edges (s.latches p)) x' σ cpu _ words
        good built.accepted (four_tasks image good) z.stands hp (moves a cpu words sent) narrow names free changes becomes
        (turn_legal image good built.accepted m p hp h.legal (m', es) ht) (turn_bases image m p h.bases (m', es) ht) numbers
        (h.told ++ es) (turn_few image good built.accepted m p hp h.legal h.told h.calls s.totals.steps h.few (m', es) ht)
        (turn_calls image good built.accepted m p hp h.legal h.told h.calls (m', es) ht) inside there)
        hes

  -- ---- what the abstract machine does at the item of its last context, where nothing comes before it

  module _ (b : BodyContext) (below : List BodyContext) (bodies : x.bodies ≡ b ∷ below) where
    -- what it chooses, by IF of the context: an interrupt, or the item
    pub context_choice : choice image x ≡ (if b.interrupts then interrupt_or_next (greatest_below 256 (deliverable x)) else Choice.Next)
    unfolding choice
    context_choice =
        ap (λ n. if n && not (list_any (is_nmi_body image) x.bodies) then Choice.Nmi else maskable x) domain.nmi
        ∙ ap (λ bs. if open_to_interrupts bs then interrupt_or_next (greatest_below 256 (deliverable x)) else Choice.Next) bodies

    pub masked_choice : b.interrupts ≡ false → choice image x ≡ Choice.Next
    masked_choice off = context_choice ∙ ap (λ t. if t then interrupt_or_next (greatest_below 256 (deliverable x)) else Choice.Next) off

    pub context_turns : choice image x ≡ Choice.Next → (i : Item) → item_at (slice_get image.bodies b.body) b.place ≡ Some i
        → turn image m p ≡ item_step image m p b i
    unfolding turn
    context_turns chosen i hi = ap (chosen_step image m p) chosen ∙ ap (next_step image m p) bodies ∙ ap (item_or_nothing image m p b) hi

    -- its numbers stay words
    pub context_numbers : choice image x ≡ Choice.Next → (i : Item) → item_at (slice_get image.bodies b.body) b.place ≡ Some i
        → (m' : Machine) (es : List Entry) → turn image m p ≡ (m', es) → HoldsNumbers m'
    context_numbers chosen i hi m' es ht =
        let found = body_at (slice_get image.bodies b.body) b.place i hi in
        let ops = (body_ruled image good built.accepted.1.kept b.body found.0 found.1).operands b.place i found.2 in
        subst (λ (z : Step). HoldsNumbers z.0) (sym (context_turns chosen i hi) ∙ ht)
        (items_keep_numbers image m p b i (length image.text) ops.0 ops.1 ops.2 (omega arith) h.numbers h.shares.held
        (on.tasks x.running on.running).words (subst AreOfWords bodies (h.numbers.each p).bodies).0)

  -- ---- the last context, on any contexts below, where no interrupt comes

  pub record Top : Type 0 where
    pub b : BodyContext
    pub below : List BodyContext
    pub bodies : x.bodies ≡ b ∷ below
    pub κ : Kind
    pub kind : kind_of image b below ≡ κ
    pub σ : Seat
    pub seat : seat_by mode κ r (seat_of mode image r below) (room_of mode image below) ≡ σ
    pub ctx : IsContext mode image b
    pub last : Activation
    pub others : List Activation
    pub acts : s.activations p ≡ last ∷ others
    pub outer : last.inner ≡ false
    pub w : Processor
    pub interrupted : Interrupted mode image below w others
    pub under : Beneath mode image (keeps_cr2 mode image κ)
        (λ v. Chain mode image p (body_edges mode image) r to t on.frame (chained mode image on.switching below)
        (rest_fills on.fills) below others v s.memory) w
    pub leads : Leads mode p κ on.frame w s.memory.words
    pub off : switches_at mode image on.switching below ≡ false  -- its exit, if it is in it, switches to no other task
    pub first : next_of c (s.apics p) (s.latches p) ≡ Next.Instruction
    pub chosen : Unblocked b → choice image x ≡ Choice.Next

  module _ (o : Top) where
    abbrev pub b : BodyContext
    b = o.b

    abbrev pub below : List BodyContext
    below = o.below

    abbrev pub κ : Kind
    κ = o.κ

    abbrev pub σ : Seat
    σ = o.σ

    abbrev pub w : Processor
    w = o.w

    abbrev pub ctx : IsContext mode image b
    ctx = o.ctx

    abbrev pub env : ℕ → (extra v : ℕ → ℕ) → Flags → Env
    env ss extra v f = here mode p κ σ ss w extra v f

    -- ---- IF is the context's

    pub masked : interrupts_on c ≡ b.interrupts
    masked = chain_masked mode image p on.own r to t on.frame on.switching on.fills b below (s.activations p) c s.memory
        (subst (λ bs. Chained on.own t bs (s.activations p) c s.memory) o.bodies chain)

    -- so it is in the flags of each block where the processor is
    pub masks : (B : Block) (k : ℕ) (e : Env) → At code B k e c s.memory → e.flags.interrupts ≡ b.interrupts
    masks B k e at = sym (at_interrupts code B k e c s.memory at) ∙ masked

    pub masks_flags : (f : Flags) → c.flags ≡ flags_word f → f.interrupts ≡ b.interrupts
    masks_flags f is = sym (word_interrupts c f is) ∙ masked

    pub first : next_of c (s.apics p) (s.latches p) ≡ Next.Instruction
    first = o.first

    abbrev pub Stood : ℕ → BodyContext → Processor → Memory → Type 0
    Stood now b' cpu mem = Active mode image p now κ σ on.frame (switches_at mode image on.switching below) (first_fill on.fills) w b' cpu mem

    pub all_plain : ArePlain image (b ∷ below)
    all_plain = subst (ArePlain image) o.bodies plain

    pub plain_kind : is_plain_kind κ ≡ true
    plain_kind = sym (ap is_plain_kind o.kind) ∙ all_plain.0

    pub shallow : length below < 32
    shallow = let d = deep in let e = ap length o.bodies in omega arith

    pub seat_is : seat_of mode image r (b ∷ below) ≡ σ
    seat_is = ap (λ k. seat_by mode k r (seat_of mode image r below) (room_of mode image below)) o.kind ∙ o.seat

    pub under_is : σ ≡ seat_under mode r (length below)
    under_is = sym seat_is ∙ plain_seat mode image r b below all_plain

    pub in_seat : IsSeat σ
    in_seat = let z = narrow_task in subst IsSeat seat_is (seat_fits mode image r b below all_plain (omega arith) shallow)

    on_stack : σ.stack ≡ r
    on_stack = ap (λ (y : Seat). y.stack) under_is

    pub narrow : σ.stack < 7
    narrow = in_seat.stack

    -- its steps leave the saved areas of the tasks to which the bodies don't return
    pub beside : (i : ℕ) → (i ≡ to → ⊥) → IsBeside mode σ i
    beside i d = by_depth below refl
      where
        by_depth : (ds : List BodyContext) → below ≡ ds → IsBeside mode σ i
        by_depth [] none = inl (λ e. d (e ∙ on_stack
            ∙ sym (on.is_returning ∙ ap (λ z. if z then get_or x.waiting 0 x.running else x.running) (sym (ap (switches_at mode image on.switching) none)
            ∙ o.off))))
        by_depth (b' ∷ ds) some = inr (subst (λ (y : Seat). area_bytes mode ≤ y.used) (sym (under_is ∙ ap (λ bs. seat_under mode r (length bs)) some))
            (area_under mode r (length ds)))

    -- ---- what stands below

    pub lower : Chain mode image p (body_edges mode image) r to t on.frame (chained mode image on.switching below)
        (rest_fills on.fills) below o.others w s.memory
    lower = over_any mode image
        (λ v. Chain mode image p (body_edges mode image) r to t on.frame (chained mode image on.switching below)
        (rest_fills on.fills) below o.others v s.memory)
        (keeps_cr2 mode image κ) w o.under

    pub kept : Kept mode image p w
    kept = chain_kept mode image p (body_edges mode image) r to t on.frame (chained mode image on.switching below)
        (rest_fills on.fills) below o.others w s.memory lower

    pub fred_is : has_fred w ≡ is_fred mode
    fred_is = kept.fred

    -- what stands over a task
    pub record Alone : Type 0 where
      pub none : below ≡ []
      pub task : RunsTask mode image p to t w
      pub still : on.switching ≡ false
      pub no_others : o.others ≡ []
      pub no_fills : rest_fills on.fills ≡ []

    pub alone : is_over_task κ ≡ true → Alone
    alone h =
        let none : below ≡ [] = stands_alone image b below (ap is_over_task o.kind ∙ h) in
        let k : Chain mode image p (body_edges mode image) r to t on.frame (chained mode image on.switching []) (rest_fills on.fills) [] o.others w s.memory
        = subst (λ ds. Chain mode image p (body_edges mode image) r to t on.frame (chained mode image on.switching ds)
        (rest_fills on.fills) ds o.others w s.memory) none lower in
        record {
          none = none;
          task = k.0;
          still = sym (ap (switches_at mode image on.switching) none) ∙ o.off;
          no_others = k.2;
          no_fills = k.3;
        }

    -- where it returns, with any CR2 and NMIs open
    pub returns_to_below : (cr2 : ℕ) → Chain mode image p (body_edges mode image) r to t on.frame on.switching (rest_fills on.fills) below o.others
        (record w { cr2 = cr2; nmi_blocked = false }) s.memory
    returns_to_below cr2 = chain_open mode image p (body_edges mode image) r to t on.frame on.switching (rest_fills on.fills) below o.others
        (record w { cr2 = cr2 }) s.memory
        (subst (λ sw. Chain mode image p (body_edges mode image) r to t on.frame sw (rest_fills on.fills) below o.others (record w { cr2 = cr2 }) s.memory)
        (same below o.off)
        (any_cr2 κ plain_kind _ o.under cr2))
      where
        same : (ds : List BodyContext) → switches_at mode image on.switching ds ≡ false → chained mode image on.switching ds ≡ on.switching
        same [] off = sym off
        same (d ∷ ds) off = refl

        any_cr2 : (κ : Kind) → is_plain_kind κ ≡ true → (C : Processor → Type 0) → Beneath mode image (keeps_cr2 mode image κ) C w → (a : ℕ)
            → C (record w { cr2 = a })
        any_cr2 SystemCall q C h a = h a
        any_cr2 FromTask q C h a = h a
        any_cr2 FromBody q C h a = h a
        any_cr2 NmiFromTask q C h a = let clash : false ≡ true = q in absurd (cc)
        any_cr2 NmiFromBody q C h a = let clash : false ≡ true = q in absurd (cc)

    -- a step that writes no word of calls leaves the records of the contexts below
    pub below_kept : (names : List Named) → AreCallFree p names → (words : NatMap ℕ) → Changes p σ names s.memory.words words
        → AreKept p (rest_fills on.fills) below s.memory.words words
    below_kept names free words changes =
        let all : AreKept p on.fills (b ∷ below) s.memory.words words = subst (λ bs. AreKept p on.fills bs s.memory.words words) o.bodies
        (contexts_stay σ narrow names free words changes) in all.1

    -- a step that writes its own stretch of the stack, and words that no block below knows
    pub below_stays : (names : List Named) → AreWritten names → UnknownTo below names → (words : NatMap ℕ) → Changes p σ names s.memory.words words
        → AreKept p (rest_fills on.fills) below s.memory.words words
        → Beneath mode image (keeps_cr2 mode image κ)
        (λ v. Chain mode image p (body_edges mode image) r to t on.frame (chained mode image on.switching below) (rest_fills on.fills) below o.others v
        (with_words s.memory words)) w
    below_stays names written unknown words changes records_kept =
        let z = narrow_task in
        let spared : AreSpared mode image p r below s.memory.words words
        = below_spared mode image p r names s.memory.words words b below small (omega arith) shallow written unknown
        (subst (λ y. Changes p y names s.memory.words words) (sym seat_is) changes) all_plain in
        beneath_as mode image (keeps_cr2 mode image κ) _ _ w
        (λ v e k. chain_stays mode image p (body_edges mode image) (body_edges mode image) r to t on.frame (chained mode image on.switching below)
        (rest_fills on.fills) below o.others v s.memory words hp
        good.count.1 spared records_kept (rest_small on.fills (free_small x.records on.fills on.free))
        (marks_under mode image p below w v o.others s.memory.words words o.interrupted e) (omega arith) (omega arith) k) o.under

    -- the chain with another last context of the same kind, which may fill another record
    pub with_last_filling : (b' : BodyContext) → kind_of image b' below ≡ κ → IsContext mode image b' → (now : ℕ) (cpu : Processor) (words : NatMap ℕ)
        → (names : List Named) → AreWritten names → UnknownTo below names → Changes p σ names s.memory.words words
        → AreKept p (rest_fills on.fills) below s.memory.words words → (fs : List (Option Filling)) → rest_fills fs ≡ rest_fills on.fills
        → Active mode image p now κ σ on.frame (switches_at mode image on.switching below) (first_fill fs) w b' cpu (with_words s.memory words)
        → Chain mode image p now r to t on.frame on.switching fs (b' ∷ below) (o.last ∷ o.others) cpu (with_words s.memory words)
    with_last_filling b' k ctx' now cpu words names written unknown changes records_kept fs same act =
        let mem : Memory = with_words s.memory words in
        let at = subst (λ n. Beneath mode image (keeps_cr2 mode image n)
        (λ v. Chain mode image p (body_edges mode image) r to t on.frame (chained mode image on.switching below) (rest_fills fs) below o.others v mem) w
        × Leads mode p n on.frame w mem.words
        × Active mode image p now n (seat_by mode n r (seat_of mode image r below) (room_of mode image below)) on.frame
        (switches_at mode image on.switching below) (first_fill fs) w b' cpu mem) (sym k) (
          subst (λ gs. Beneath mode image (keeps_cr2 mode image κ)
              (λ v. Chain mode image p (body_edges mode image) r to t on.frame (chained mode image on.switching below) gs below o.others v mem) w) (sym same)
              (below_stays names written unknown words changes records_kept),
          leads_again mode image p κ on.frame w s.memory.words words o.leads,
          subst (λ y. Active mode image p now κ y on.frame (switches_at mode image on.switching below) (first_fill fs) w b' cpu mem) (sym o.seat) act,
        ) in
        (w, ctx', o.outer, o.interrupted, at.0, at.1, at.2)

    -- or the same one
    pub with_last : (b' : BodyContext) → kind_of image b' below ≡ κ → IsContext mode image b' → (now : ℕ) (cpu : Processor) (words : NatMap ℕ)
        → (names : List Named) → AreCallFree p names → UnknownTo below names → Changes p σ names s.memory.words words
        → Stood now b' cpu (with_words s.memory words) → Chained now t (b' ∷ below) (o.last ∷ o.others) cpu (with_words s.memory words)
    with_last b' k ctx' now cpu words names free unknown changes act = with_last_filling b' k ctx' now cpu words names free.allowed.written unknown changes
        (below_kept names free words changes) on.fills refl act

    -- ---- what a step gives

    pub edge : (cell : Cell) → code c.rip ≡ Some cell → is_seen cell.mark s c ≡ false → is_return (Some cell.ins) ≡ false
        → is_user c ≡ false → is_in_repeat c.rip ≡ false → (cpu : Processor) (words : NatMap ℕ) → Executes cell.ins cpu words → cpu.nmi_blocked ≡ false
        → (names : List Named) → AreSparing p names → have_none is_user_word names ≡ true → UnknownTo below names → Changes p σ names s.memory.words words
        → (now : ℕ) → now < on.own → Stood now b cpu (with_words s.memory words) → Result
    edge cell hc hm hr hu out cpu words he hb names sparing no_user unknown changes now fewer act =
        let same : activations_by s p (s.activations p) cpu Stepped.Ran ≡ o.last ∷ o.others
        = went_stays image.processors s p cpu None cell.ins (fetches c.rip cell hc).1 hr ∙ o.acts in
        let goes_on : Chained now t x.bodies (activations_by s p (s.activations p) cpu Stepped.Ran) cpu (with_words s.memory words)
        = subst (λ as'. Chained now t x.bodies as' cpu (with_words s.memory words)) (sym same)
        (subst (λ bs. Chained now t bs (o.last ∷ o.others) cpu (with_words s.memory words)) (sym o.bodies)
        (with_last b o.kind ctx now cpu words names sparing.free unknown changes act)) in
        let there : StandsOn mode image p (now + inner_edges (s.latches p)) (Behind (s.apics p) cpu words None) x
        = own_after mode image p (left p) s (Behind (s.apics p) cpu words None) x σ cpu _ words x.tasks on.fills x.bodies now on small
        (four_tasks image good p hp)
        (moves (s.apics p) cpu words None) beside narrow names sparing changes (λ i d. refl) on.tasks
        (hb ∙ sym none_is_nmi) x.pending
        (apic_again mode image (s.apics p) _ x.pending x.bodies x.bodies (at_same s.apics p p (s.apics p) refl) (λ class. refl) on.apic)
        on.free (λ k. refl) (let l = on.short in omega arith) goes_on in
        edge_to first cell hc hm hr hu out cpu words he σ narrow names sparing.free sparing.pages sparing.cells no_user changes now fewer there

    -- ---- what the abstract machine does

    pub turns : Unblocked b → (i : Item) → item_at (slice_get image.bodies b.body) b.place ≡ Some i → turn image m p ≡ item_step image m p b i
    turns unblocked i hi = context_turns b below o.bodies (o.chosen unblocked) i hi

    -- at `ret` it has no interrupt in service
    pub ret_serves : item_at (slice_get image.bodies b.body) b.place ≡ Some Ret → b.service ≡ None
    ret_serves hi = context_serves image good built.accepted m p h.legal b below o.bodies hi

    -- its numbers stay words
    pub numbers_behind : Unblocked b → (m' : Machine) (es : List Entry) → turn image m p ≡ (m', es) → HoldsNumbers m'
    numbers_behind unblocked m' es ht = context_numbers b below o.bodies (o.chosen unblocked) ctx.item ctx.is m' es ht

    -- What a visible step makes of the abstract machine, with what it sends in the mail: these are processor p's tasks, slots and bodies behind it, of which
    -- the returning task may be another, and it may ask for another task; other processors are as they were, and memory holds these slots, and the cells,
    -- pages and user words of the machine behind it.
    pub record Makes (from m' : Machine) (words : NatMap ℕ) (tasks : NatMap Task) (slots : NatMap ℕ) (bodies : List BodyContext) : Type 0 where
      pub resched : Bool
      pub asked : x.resched ≡ true → resched ≡ true
      pub own : processor m' p ≡ record (processor from p) { tasks = tasks; slots = slots; resched = resched; bodies = bodies }
      pub others : (q : ℕ) → (q == p) ≡ false → processor m' q ≡ processor from q
      pub same_tasks : (i : ℕ) → (i ≡ to → ⊥) → tasks i ≡ x.tasks i
      pub good_tasks : (i : ℕ) → i < length (tasks_of image p) → IsTask (tasks i)
      pub current : on.switching ≡ false → CurrentIs mode p r words
      pub mark : on.switching ≡ false → words (pcpu p + 0x20) ≡ (if resched then 1 else 0)
      pub slots_are : (k : ℕ) → k < 64 → words (pcpu p + slot_offset k) ≡ slots k
      pub user : (a : ℕ) → IsUserWord a → words a ≡ m'.words a
      pub held : HoldsWords m'.words
      pub pages : (i : ℕ) → i < 256 → words (page_map + 8 * i) ≡ (if m'.present i then 1 else 0)
      pub cells : (k : ℕ) → k < 256 → words (cells_base + 8 * k) ≡ m'.cells k

    -- with the local APIC behind the step, and what it sends
    pub visible_with : Unblocked b → (cell : Cell) → code c.rip ≡ Some cell → cell.mark ≡ Always → is_user c ≡ false
        → (a : Apic) (cpu : Processor) (words : NatMap ℕ) (sent : Option Send) (z : Sends sent)
        → executed c (s.apics p) s.memory (s.latches p) (Some cell.ins) ≡ went cpu a words (s.latches p) sent → cpu.nmi_blocked ≡ false
        → (names : List Named) → AreCallFree p names → Changes p σ names s.memory.words words
        → (m' : Machine) (es : List Entry) → turn image m p ≡ (m', es) → (tasks : NatMap Task) (slots : NatMap ℕ)
        → (fs : List (Option Filling)) → AreFree x.records fs → ((k : ℕ) → is_filled k fs ≡ is_filled k on.fills) → (bs : List BodyContext)
        → Makes z.machine m' words tasks slots bs → ApicIs mode image a x.pending bs
        → bodies_behind (length x.bodies) c cell.ins sent ≡ length bs
        → (now : ℕ) → now ≤ body_edges mode image
        → Chain mode image p now r to (tasks to) on.frame on.switching fs bs (went_activations image.processors s p cpu sent) cpu (with_words s.memory words)
        → (IsCounted s → went_shows p s Always cell.ins cpu words sent ≡ es) → Result
    unfolding comes_to
    visible_with unblocked cell hc hm hu a cpu words sent z he hb names free changes m' es ht tasks slots fs fills filled bs y apic told now few
        goes_on hes =
        let sender : abstract.Processor = processor z.machine p in
        let was : abstract.Processor = record x { mail = sender.mail; mail_nmi = sender.mail_nmi } in
        let x' : abstract.Processor = record was { tasks = tasks; slots = slots; resched = y.resched; bodies = bs } in
        let none : list_any (is_nmi_body image) bs ≡ false
        = none_nmi image bs (chain_plain mode image p now r to (tasks to) on.frame on.switching fs bs _ cpu (with_words s.memory words) goes_on) in
        let posted : StandsOn mode image p (left p) (Posted sent) was = comes_to mode image p (left p) s s.apics s.latches
        (inboxes_by image.processors s p sent) x x.pending sender.mail x.nmi sender.mail_nmi refl refl on on.apic in
        let there : StandsOn mode image p (now + inner_edges (s.latches p)) (Behind a cpu words sent) x'
        = own_becomes mode image p (left p) (Posted sent) (Behind a cpu words sent) was σ cpu _ words tasks slots y.resched fs bs now posted
        small (four_tasks image good p hp) (moves a cpu words sent) beside narrow names free.allowed changes
        (λ e. y.asked (on.marked e)) y.current y.mark y.slots_are y.same_tasks y.good_tasks (hb ∙ sym none)
        x.pending (subst (λ y. ApicIs mode image y x.pending bs) (sym (at_same s.apics p p a refl)) apic)
        fills (records_after mode image p (left p) (Posted sent) was σ words posted small narrow names free changes fs filled) few goes_on in
        let inside : IsInDomain x' = record {
          nmi = domain.nmi;
          mail_nmi = (z.stands.domain p hp).mail_nmi;
        } in
        turn_to first cell hc hm hu a cpu words sent z he σ narrow names free changes m' es ht x'
        (record {
          own = y.own ∙ ap (λ (q : abstract.Processor). record q { tasks = tasks; slots = slots; resched = y.resched; bodies = bs }) z.own;
          others = y.others;
          mail = refl;
          mail_nmi = refl;
          records = sym (ap (λ (q : abstract.Processor). q.records) z.own);
          queue = sym (ap (λ (q : abstract.Processor). q.queue) z.own);
          user = y.user;
          held = y.held;
          pages = y.pages;
          cells = y.cells;
        })
        (numbers_behind unblocked m' es ht) inside told now there hes

    -- which stays
    pub visible : Unblocked b → (cell : Cell) → code c.rip ≡ Some cell → cell.mark ≡ Always → is_user c ≡ false
        → (cpu : Processor) (words : NatMap ℕ) → Executes cell.ins cpu words → cpu.nmi_blocked ≡ false
        → (names : List Named) → AreCallFree p names → Changes p σ names s.memory.words words
        → (m' : Machine) (es : List Entry) → turn image m p ≡ (m', es) → (tasks : NatMap Task) (slots : NatMap ℕ)
        → (fs : List (Option Filling)) → AreFree x.records fs → ((k : ℕ) → is_filled k fs ≡ is_filled k on.fills) → (bs : List BodyContext)
        → Makes m m' words tasks slots bs → ServesAlike bs
        → (if ends_body c (Some cell.ins) then length x.bodies - 1
        else (if begins_body c (Some cell.ins) then suc (length x.bodies) else length x.bodies)) ≡ length bs
        → (now : ℕ) → now ≤ body_edges mode image
        → Chain mode image p now r to (tasks to) on.frame on.switching fs bs (activations_by s p (s.activations p) cpu Stepped.Ran) cpu
        (with_words s.memory words)
        → (IsCounted s → shown_always p (bodies_on s p) c s.memory.words (Some cell.ins) ≡ es) → Result
    visible unblocked cell hc hm hu cpu words he hb names free changes m' es ht tasks slots fs fills filled bs y serving told now few goes_on hes =
        visible_with unblocked cell hc hm hu (s.apics p) cpu words None sends_nothing (he (s.apics p) (s.latches p)) hb
        names free changes m' es ht tasks slots fs fills filled
        bs y (apic_again mode image (s.apics p) (s.apics p) x.pending x.bodies bs refl serving on.apic) told now few goes_on hes

    -- what holds of the components that a step leaves alone, by the names that it writes
    module _ (names : List Named) (free : AreCallFree p names) (words : NatMap ℕ) (changes : Changes p σ names s.memory.words words) where
      pub same_current : have_none is_task_word names ≡ true → on.switching ≡ false → CurrentIs mode p r words
      same_current none e = current_is p σ names small narrow s.memory.words words free.allowed.written changes p
          (tasks_same p σ names small narrow s.memory.words words free.allowed.written changes none p small) mode r (on.current e)

      pub same_mark : have_none is_task_word names ≡ true → on.switching ≡ false → words (pcpu p + 0x20) ≡ (if x.resched then 1 else 0)
      same_mark none e = mark_is p σ names small narrow s.memory.words words free.allowed.written changes p
          (tasks_same p σ names small narrow s.memory.words words free.allowed.written changes none p small) ∙ on.mark e

      pub same_slots : have_none is_slot names ≡ true → (k : ℕ) → k < 64 → words (pcpu p + slot_offset k) ≡ x.slots k
      same_slots none k l = slot_same p σ names small narrow s.memory.words words free.allowed.written changes none p k small l ∙ on.slots k l

      pub same_user : have_none is_user_word names ≡ true → (a : ℕ) → IsUserWord a → words a ≡ m.words a
      same_user none a u = user_same p σ names small narrow s.memory.words words free.allowed.written changes none a u ∙ h.shares.user a u

      pub same_pages : have_none is_page_bit names ≡ true → (i : ℕ) → i < 256 → words (page_map + 8 * i) ≡ (if m.present i then 1 else 0)
      same_pages none i l = page_same p σ names small narrow s.memory.words words free.allowed.written changes none i l ∙ h.shares.pages i l

      pub same_cells : have_none is_cell names ≡ true → (k : ℕ) → k < 256 → words (cells_base + 8 * k) ≡ m.cells k
      same_cells none k l = cell_same p σ names small narrow s.memory.words words free.allowed.written changes none k l ∙ h.shares.cells k l

      -- a step that changes the bodies alone
      pub bodies_alone : AreSparing p names → have_none is_user_word names ≡ true → (bs : List BodyContext)
          → Makes m (with_processor m p (record x { bodies = bs })) words x.tasks x.slots bs
      bodies_alone sparing no_user bs = record {
        resched = x.resched;
        asked = λ e. e;
        own = at_same m.processors p p (record x { bodies = bs }) refl;
        others = λ q e. at_other m.processors p q (record x { bodies = bs }) e;
        same_tasks = λ i d. refl;
        good_tasks = on.tasks;
        current = same_current sparing.tasks;
        mark = same_mark sparing.tasks;
        slots_are = same_slots sparing.slots;
        user = same_user no_user;
        held = h.shares.held;
        pages = same_pages sparing.pages;
        cells = same_cells sparing.cells;
      }

    -- ---- the abstract machine's step

    -- the processor without its last context, where nothing asks for another task, or the context stands on another one
    below_is : (ds : List BodyContext) → (ds ≡ [] → x.resched ≡ false) → dropped image b x ds ≡ record x { bodies = ds }
    below_is [] calm = ap (λ z. if z && not (is_nmi_body image b) then rescheduled (record x { bodies = [] }) else record x { bodies = [] }) (calm refl)
    below_is (d ∷ ds) calm = refl

    pub ret_turn : Unblocked b → (below ≡ [] → x.resched ≡ false) → item_at (slice_get image.bodies b.body) b.place ≡ Some Ret
        → turn image m p ≡ (with_processor m p (record x { bodies = below }), [])
    unfolding item_step
    ret_turn unblocked calm hi =
        turns unblocked Ret hi ∙ ap (λ bs. (with_processor m p (dropped image b x (below_last bs)), [])) o.bodies
        ∙ ap (λ y. (with_processor m p y, [])) (below_is below calm)

    -- ---- inside a block

    pub over_spot : (act : Stood on.own b c s.memory) → fills_record act.stands.spot ≡ false → is_spot mode act.stands.spot ≡ true
    over_spot act none = means_over mode image κ act.stands.spot _ w b (first_fill on.fills) s.memory.words act.means (act.switches ∙ o.off) none

    -- no spot but those of `call` fills a record
    pub fills_none : first_fill on.fills ≡ None → (spot : Spot) → fills_record spot ≡ false → fills_record spot ≡ is_some (first_fill on.fills)
    fills_none unfilled spot off = off ∙ sym (ap is_some unfilled)

    pub spot_fills_none : first_fill on.fills ≡ None → (spot : Spot) → is_spot mode spot ≡ true → fills_record spot ≡ is_some (first_fill on.fills)
    spot_fills_none unfilled spot over = fills_none unfilled spot (spot_unfilled mode spot over)

    -- the records of its calls are as they were behind a step that writes no word of calls
    pub calls_stay : (names : List Named) → AreCallFree p names → (words : NatMap ℕ) → Changes p σ names s.memory.words words
        → RecordsStay b.calls s.memory.words words
    calls_stay names free words changes = (subst (λ bs. AreKept p on.fills bs s.memory.words words) o.bodies
        (contexts_stay σ narrow names free words changes)).0.0

    pub outside : (act : Stood on.own b c s.memory) → is_in_repeat c.rip ≡ false
    outside act = active_outside mode image facts p on.own κ σ on.frame (switches_at mode image on.switching below) (first_fill on.fills) w b c s.memory ctx act

    -- only SYSCALL's entry writes a word with a name, and it stands over a task
    spot_names : (spot : Spot) (e : Env) → Means mode image κ spot e w b (first_fill on.fills) s.memory.words → UnknownTo below (names_at p spot)
    spot_names spot e means = by_kind κ o.kind means below o.kind
      where
        by_kind : (κ : Kind) → kind_of image b below ≡ κ → Means mode image κ spot e w b (first_fill on.fills) s.memory.words → (ds : List BodyContext)
            → kind_of image b ds ≡ κ
            → UnknownTo ds (names_at p spot)
        by_kind κ q means [] k = tt
        by_kind SystemCall q means (d ∷ ds) k = let z = ap length (stands_alone image b (d ∷ ds) (ap is_over_task k)) in absurd (omega arith)
        by_kind FromTask q means (d ∷ ds) k = let z = ap length (stands_alone image b (d ∷ ds) (ap is_over_task k)) in absurd (omega arith)
        by_kind FromBody q means (d ∷ ds) k = subst (λ y. UnknownTo (d ∷ ds) (names_if y p))
            (sym (body_writes mode image spot e w b (first_fill on.fills) s.memory.words means)) refl
        by_kind NmiFromTask q means (d ∷ ds) k = absurd means
        by_kind NmiFromBody q means (d ∷ ds) k = absurd means

    pub inside : (act : Stood on.own b c s.memory) → fills_record act.stands.spot ≡ false → act.stands.k < (block mode act.stands.spot).steps → Result
    inside act none lt =
        let a = act.stands in
        let e : Env = env a.ss a.extra a.var a.flags in
        let S : ℕ = (block mode a.spot).steps in
        let end = runs_to_end mode a.spot (over_spot act none) in
        let i : Inside code (block mode a.spot) (suc a.k) e c s.memory = goes_on code (block mode a.spot) S end.0 end.1 a.k e c s.memory a.at lt in
        let next = earlier (block mode a.spot) (suc a.k) (S - suc a.k) end.0
        (ap (brun (block mode a.spot)) (let q : (S - suc a.k) + suc a.k ≡ S = omega arith in q) ∙ end.1) in
        let few = a.enough in
        let rsp : Bool = keeps_rsp a.spot in
        let changes : Changes p σ (names_at p a.spot) s.memory.words i.words = kernel_changes mode image p σ in_seat hp good.count.1 κ a.ss w a.extra a.var
        a.flags a.spot (over_spot act none) s.memory.words i.words i.within in
        edge (edge_cell i.ins i.next) i.stands refl
        (stays_inside code (block mode a.spot) a.k e c s.memory a.at next.0 next.1 i.ins i.next i.stands)
        (ap is_user a.at.agrees.rest) (outside act) i.cpu i.words i.runs (i.blocking ∙ blocked)
        (names_at p a.spot) (rsp_spares p small rsp) (rsp_no_user p rsp) (spot_names a.spot e act.means)
        changes
        (edges mode a.spot (suc a.k)) (one_less S a.k (blocks.behind a.spot) on.own lt few)
        (record {
          stands = record {
            spot = a.spot;
            k = suc a.k;
            extra = a.extra;
            var = a.var;
            flags = a.flags;
            ss = a.ss;
            ss_is = a.ss_is;
            masked = a.masked;
            within = lt;
            enough = omega arith;
            at = i.there;
            long = i.long ∙ a.long;
          };
          switches = act.switches;
          fills = act.fills;
          knows = act.knows;
          means = means_stay mode image κ a.spot e w b (first_fill on.fills) s.memory.words i.words (spot_unfilled mode a.spot (over_spot act none))
              (calls_stay (names_at p a.spot) (rsp_spares p small rsp).free i.words changes) act.means;
        })
      where
        one_less : (n k behind own : ℕ) → k < n → (n - k) + behind ≤ own → (n - suc k) + behind < own
        one_less n k behind own h l = omega arith

    -- ---- from block to block, by an instruction that writes nothing

    -- the body of the context, and where its item stands
    module _ (body' : Body) (is : slice_get image.bodies b.body ≡ Some body') where
      pub place_is : item_place mode image b.body b.place ≡ item_address mode b.body body' b.place
      place_is = ap (address_of_item mode b.body b.place) is

      pub range : (0xffffffff82000000 ≤ item_place mode image b.body b.place) × (item_place mode image b.body b.place + 0x100 ≤ M)
      range = subst (λ a. (0xffffffff82000000 ≤ a) × (a + 0x100 ≤ M)) (sym place_is) (facts.item_range b.body b.place body' is)

      in_bodies : (extra : ℕ → ℕ) → extra 20 ≡ item_place mode image b.body b.place → InBodies extra
      in_bodies extra h = subst (λ a. (0xffffffff82000000 ≤ a) × (a + 0x100 ≤ M)) (sym h) range

      -- a block without facts fits, and its windows are open
      pub fits : (spot : Spot) → is_spot mode spot ≡ true → (ss : ℕ) (extra v : ℕ → ℕ) (f : Flags) → extra 20 ≡ item_place mode image b.body b.place
          → IsAtEntry spot (env ss extra v f) → FactsHold (env ss extra v f) (block mode spot).ground.facts → Fits code (env ss extra v f) (block mode spot)
      fits spot over ss extra v f h at told =
          fits_at mode image p σ in_seat hp good.count.1 κ ss w extra v f facts spot over fred_is (in_bodies extra h) at told

      pub windows : (spot : Spot) → is_spot mode spot ≡ true → (ss : ℕ) (extra v : ℕ → ℕ) (f : Flags)
          → Open (env ss extra v f) (block mode spot).ground.known s.memory.regions
      windows spot over ss extra v f = opens_at mode image p σ in_seat hp good.count.1 κ ss w extra v f spot over s.memory h.regions_are

      -- an edge to the opening of a block
      pub goes : first_fill on.fills ≡ None → (act : Stood on.own b c s.memory) (spot : Spot) (ss : ℕ) → IsKernelSs mode ss → (extra v : ℕ → ℕ) (f : Flags)
          → f.interrupts ≡ b.interrupts → is_user c ≡ false
          → Goes code c s.memory (block mode spot) (env ss extra v f) → edges mode spot 0 < on.own → length c.regs ≡ 16 → blocks.switches spot ≡ false
          → fills_record spot ≡ false → Means mode image κ spot (env ss extra v f) w b (first_fill on.fills) s.memory.words → Result
      goes unfilled act spot ss ss_is extra v f masked_by hu g fewer long off none means =
          edge (edge_cell g.step.ins g.step.next) g.step.cell refl g.inner hu (outside act) g.step.cpu s.memory.words g.step.leads (g.step.blocking ∙ blocked)
          [] (none_spares p) refl (unknown_none below) (λ a far far'. refl) (edges mode spot 0) fewer
          (record {
            stands = record {
              spot = spot;
              k = 0;
              extra = extra;
              var = v;
              flags = f;
              ss = ss;
              ss_is = ss_is;
              masked = masked_by;
              within = omega arith;
              enough = omega arith;
              at = g.step.at;
              long = g.step.long ∙ long;
            };
            switches = off ∙ sym o.off;
            fills = fills_none unfilled spot none;
            knows = plain_knows mode κ on.frame plain_kind (blocks.holds spot);
            means = means;
          })
