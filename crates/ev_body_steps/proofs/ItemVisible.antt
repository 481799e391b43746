-- A visible item: the processor makes its instruction, the abstract machine the item, and the activation stands at the next item, over what it stood over.
-- An item says which local, which word with a name and which flags it leaves, and where it leads.
use Rattle.std.proofs.Common.{◌≡◌, ℕ, ◌+◌, ◌<◌, ◌≤◌, Bool, false, not, ◌&&◌, List, ◌∷◌, get_or, length, Option, Some, refl, sym, ap, ◌∙◌, subst, arith, None}
use Rattle.std.specs.Prelude.{is_some, slice_get, nat_le, nat_lt}
use Rattle.std.proofs.lemmas.Option.{slice_get-get_or}
use Rattle.std.specs.List.{list_any}
use Rattle.ev_isa.specs.Word.{NatMap}
use Rattle.ev_isa.specs.Flags.{Status, Flags, flags_word, flags_of}
use Rattle.ev_isa.specs.declared.instruction.Ins.{Ins}
use Rattle.ev_isa.specs.declared.mode.Mode.{Mode}
use Rattle.ev_effect.specs.Task.{Task}
use Rattle.ev_body.specs.declared.item.Item.TheVariants.{Ret}
use Rattle.ev_body.specs.declared.body.Body.{Body}
use Rattle.ev_body.specs.declared.image.Image.{Image}
use Rattle.ev_body.specs.Bodies.{body_items}
use Rattle.ev_body.specs.WellFormed.{IsImage}
use Rattle.ev_listing.specs.AddressMap.{nmi_entry, repeat_entry}
use Rattle.ev_listing.specs.Expansion.{item_address}
use Rattle.ev_state.specs.Processor.{Processor, is_user}
use Rattle.ev_state.proofs.FlagLaws.{flags_of-flags_word}
use Rattle.ev_mem.specs.Memory.{Memory}
use Rattle.ev_apic.specs.declared.apic.Apic.{Apic}
use Rattle.ev_apic.specs.declared.send.Send.{Send}
use Rattle.ev_proc.specs.ProcessorStep.{has_fred, executed}
use Rattle.ev_abstract.specs.Context.{BodyContext, CallId}
use Rattle.ev_abstract.specs.declared.entry.Entry.{Entry}
use Rattle.ev_abstract.specs.Machine.{Machine, processor, with_processor}
use Rattle.ev_abstract.specs.Machine as abstract
use Rattle.ev_abstract.specs.Run.{item_at, turn}
use Rattle.ev_law.specs.Legal.{Legal, IsLegalOn, AreLegal, knows}
use Rattle.ev_listing.specs.Marks.{Always}
use Rattle.ev_concrete.specs.ConcreteRun.{System, is_return}
use Rattle.ev_concrete.specs.Depth.{is_in_repeat, is_jump}
use Rattle.ev_built.specs.Built.{IsBuilt}
use Rattle.ev_symbolic.specs.Value.{M, V}
use Rattle.ev_symbolic.specs.Agrees.{Env, Cell, Code, Known, Fits, with_words}
use Rattle.ev_symbolic.specs.Single.{onward, in_status, Leads}
use Rattle.ev_symbolic.proofs.Blocks.{begins}
use Rattle.ev_blocks.specs.Items.{AtItem}
use Rattle.ev_blocks.specs.Blocks.{block, edges}
use Rattle.ev_blocks.specs.Blocks as blocks
use Rattle.ev_activation.specs.Seat.{kind_of}
use Rattle.ev_table.specs.Table.{code_table}
use Rattle.ev_relation.specs.Named.{Named, UnknownTo, Changes}
use Rattle.ev_relation.specs.Filling.{first_fill}
use Rattle.ev_relation.specs.Active.{item_place, address_of_item, here, rest_in, IsKernelSs, SavedOf, FlagsAre, InItem, Active}
use Rattle.ev_relation.specs.Relation.{ApicIs, IsContext, switches_at, Chain, StandsOn, Stands, serves}
use Rattle.ev_relation.specs.Step.{Simulated}
use Rattle.ev_relation.proofs.Facts.{Facts}
use Rattle.ev_relation.proofs.Legality.{turn_legal}
use Rattle.ev_relation.proofs.Depth.{goes_on_inside, sent_inside}
use Rattle.ev_relation.proofs.ModeFacts.{is_fred}
use Rattle.ev_relation.proofs.Fits.{IsSeat, fits_at, opens_at}
use Rattle.ev_body_steps.proofs.Bodies.{body, at_the_item, item_edges_few, saved_again, means_at}
use Rattle.ev_relation.proofs.Standing.{went, went_shows, went_activations, went_stays}
use Rattle.ev_relation.proofs.After.{AreCallFree, apic_again}
use Rattle.ev_relation.proofs.CallKinds.{origin_of, plain_knows}
use Rattle.ev_body_steps.proofs.ItemState.{with_registers, opening_of, known_of, unblocked, ItemState, any_registers, any_known, beyond_registers, gone, lands}
use Rattle.ev_body_steps.proofs.ItemLocals.{Write, IsLocal, regs_with, locals_with, regs_long, keeps_rsp, locals_behind, calls_behind}
use Rattle.ev_body_steps.proofs.KernelStep as step

-- ---- the processor behind an instruction, by the flags that it had

-- where the flags stay
pub goes_onward : (c : Processor) (m : Memory) (i : Ins) (g : Flags) (regs : List ℕ) (rip : ℕ) (words : NatMap ℕ) → c.flags ≡ flags_word g
    → Leads c m i (onward c regs rip) words → Leads c m i (gone c regs g rip) words
goes_onward c m i g regs rip words h l = subst (λ f. Leads c m i (record (onward c regs rip) { flags = f }) words) h l

-- where it leaves these
pub goes_with : (c : Processor) (m : Memory) (i : Ins) (g : Flags) (regs : List ℕ) (rip : ℕ) (words : NatMap ℕ) (s : Status) → c.flags ≡ flags_word g
    → Leads c m i (in_status (onward c regs rip) s) words → Leads c m i (gone c regs (record g { status = s }) rip) words
goes_with c m i g regs rip words s h l =
    subst (λ f. Leads c m i (record (onward c regs rip) { flags = flags_word (record f { status = s }) }) words)
    (ap flags_of h ∙ flags_of-flags_word g) l

-- a legal context is at an item
pub legal_context : (image : Image) (known : CallId → Bool) (b : BodyContext) (below : List BodyContext) (mode : Mode) → AreLegal image known (b ∷ below)
    → IsContext mode image b
legal_context image known b below mode h =
    let l : IsLegalOn image known b below = h.0 in
    record {
      item = get_or (body_items l.body) b.place Ret;
      is = ap (λ o. item_at o b.place) l.is_body ∙ slice_get-get_or (body_items l.body) b.place Ret l.at.place;
    }

-- the status flags are those that are told, and IF is what it was
abbrev pub FlagsBehind : (mode : Mode) (image : Image) → Flags → Option Status → Flags → Type 0
FlagsBehind mode image was status g = FlagsAre mode image status g × (g.interrupts ≡ was.interrupts)

module _ (mode : Mode) (image : Image) (built : IsBuilt image) (good : IsImage image) (facts : Facts mode image)
    (left : NatMap ℕ) (s : System) (m : Machine) (h : Stands mode image left s m) (p : ℕ) (hp : p < image.processors)
    (o : step.Top mode image built good facts left s m h p hp) (body' : Body) (is : slice_get image.bodies o.b.body ≡ Some body') where
  abbrev code : Code
  code = code_table mode image

  abbrev c : Processor
  c = s.cpus p

  abbrev x : abstract.Processor
  x = processor m p

  abbrev on : StandsOn mode image p (left p) s x
  on = step.on mode image built good facts left s m h p hp

  abbrev pub env : ℕ → (extra v : ℕ → ℕ) → Flags → Env
  env ss extra v f = here mode p o.κ o.σ ss o.w extra v f

  abbrev Stood : ℕ → BodyContext → Processor → Memory → Type 0
  Stood now b cpu mem = Active mode image p now o.κ o.σ on.frame (switches_at mode image on.switching o.below) (first_fill on.fills) o.w b cpu mem

  -- the address of an item of the body
  abbrev pub at : ℕ → ℕ
  at i = item_address mode o.b.body body' i

  -- the context behind an item: with this local, at this item, with these flags
  abbrev pub behind : Write → ℕ → Option Status → BodyContext
  behind write place status = record o.b { locals = locals_with o.b.locals write; place = place; flags = status }

  -- The activation is at the visible instruction of an item, so many bytes behind the item's beginning.
  pub record AtVisible (ss : ℕ) (extra v : ℕ → ℕ) (f : Flags) : Type 0 where
    pub unfilled : first_fill on.fills ≡ None
    pub act : Stood on.own o.b c s.memory
    pub ss_is : IsKernelSs mode ss
    pub means : InItem mode image (origin_of o.κ) (env ss extra v f) o.w o.b s.memory.words
    pub place : extra 20 ≡ item_place mode image o.b.body o.b.place
    pub long : length c.regs ≡ 16
    pub kernel : is_user c ≡ false
    pub offset : ℕ
    pub rax : V
    pub rcx : V
    pub rdx : V
    pub flags : Flags
    pub state : ItemState mode (env ss extra v f) c s.memory offset rax rcx rdx flags

  -- What the activation stands over behind a step that leaves these words: the same, or what a write of the saved area makes of it.
  pub record StandsOver (ss : ℕ) (v : ℕ → ℕ) (words : NatMap ℕ) (w : Processor) (var : ℕ → ℕ) (tasks : NatMap Task) : Type 0 where
    pub other_gs : v 60 ≡ var 60
    pub chosen : v 61 ≡ var 61
    pub level : v 63 ≡ var 63
    pub rest : rest_in mode o.κ ss w ≡ rest_in mode o.κ ss o.w
    pub fred : has_fred w ≡ is_fred mode
    pub saved : (regs : List ℕ) (extra' : ℕ → ℕ) (f' : Flags)
        → SavedOf mode image (origin_of o.κ) (here mode p o.κ o.σ ss w extra' (with_registers regs var) f') w
    pub known : (regs : List ℕ) (extra' : ℕ → ℕ) (f' : Flags)
        → Known (here mode p o.κ o.σ ss w extra' (with_registers regs var) f') (known_of mode) words (opening_of mode).words
    pub chains : (b : BodyContext) → kind_of image b o.below ≡ o.κ → IsContext mode image b → (now : ℕ) (cpu : Processor)
        → Active mode image p now o.κ o.σ on.frame (switches_at mode image on.switching o.below) (first_fill on.fills) w b cpu (with_words s.memory words)
        → Chain mode image p now x.running on.returning (tasks on.returning) on.frame on.switching on.fills (b ∷ o.below) (o.last ∷ o.others) cpu
        (with_words s.memory words)

  -- where the block's words stay
  pub stays_over : (ss : ℕ) (extra v : ℕ → ℕ) (f : Flags) (a : AtVisible ss extra v f) (words : NatMap ℕ) (names : List Named) → AreCallFree p names
      → UnknownTo o.below names → Changes p o.σ names s.memory.words words
      → Known (env ss extra v f) (known_of mode) words (opening_of mode).words → StandsOver ss v words o.w v x.tasks
  stays_over ss extra v f a words names allowed unknown changes known = record {
    other_gs = refl;
    chosen = refl;
    level = refl;
    rest = refl;
    fred = step.fred_is mode image built good facts left s m h p hp o;
    saved = λ regs extra' f'. saved_again mode image (origin_of o.κ) (env ss extra v f) (env ss extra' (with_registers regs v) f') o.w
        (beyond_registers regs v) refl refl refl a.means.saved;
    known = λ regs extra' f'. any_known mode p o.κ o.σ ss o.w extra extra' v f f' regs words known;
    chains = λ b kind ctx now cpu act. step.with_last mode image built good facts left s m h p hp o b kind ctx now cpu words names allowed unknown changes act;
  }

  -- the local APIC, where the context keeps what it has in service
  pub same_apic : (write : Write) (place : ℕ) (status : Option Status) → ApicIs mode image (s.apics p) x.pending (behind write place status ∷ o.below)
  same_apic write place status =
      apic_again mode image (s.apics p) (s.apics p) x.pending x.bodies (behind write place status ∷ o.below) refl
      (λ class. sym (ap (list_any (λ (a : BodyContext). serves mode image class a.service)) o.bodies)) on.apic

  -- What an item does there; all but the end of an interrupt leave the local APIC as it is, all but `cli` IF, and all but `send` send nothing.
  pub record Does (ss : ℕ) (extra v : ℕ → ℕ) (f : Flags) (a : AtVisible ss extra v f) : Type 0 where
    pub cell : Cell
    pub found : code c.rip ≡ Some cell
    pub marked : cell.mark ≡ Always
    pub no_return : is_return (Some cell.ins) ≡ false
    pub write : Write
    pub local : IsLocal write
    pub place : ℕ
    pub flags : Flags
    pub status : Option Status
    pub flags_are : FlagsAre mode image status flags
    pub interrupts : Bool
    pub masked : flags.interrupts ≡ interrupts
    pub words : NatMap ℕ
    pub apic : Apic
    pub sent : Option Send
    pub sends : step.Sends mode image built good facts left s m h p hp sent
    pub runs : executed c (s.apics p) s.memory (s.latches p) (Some cell.ins)
        ≡ went (gone c (regs_with c.regs write) flags (at place)) apic words (s.latches p) sent
    pub service : Option ℕ
    pub apic_is : ApicIs mode image apic x.pending (record (behind write place status) { service = service; interrupts = interrupts } ∷ o.below)
    pub names : List Named
    pub allowed : AreCallFree p names
    pub unknown : UnknownTo o.below names
    pub changes : Changes p o.σ names s.memory.words words
    pub w : Processor
    pub var : ℕ → ℕ
    pub tasks : NatMap Task
    pub over : StandsOver ss v words w var tasks
    pub machine : Machine
    pub entries : List Entry
    pub turns : turn image m p ≡ (machine, entries)
    pub slots : NatMap ℕ
    pub makes : step.Makes mode image built good facts left s m h p hp o sends.machine machine words tasks slots
        (record (behind write place status) { service = service; interrupts = interrupts } ∷ o.below)
    pub shows : went_shows p s Always cell.ins (gone c (regs_with c.regs write) flags (at place)) words sent ≡ entries

  pub visible : (ss : ℕ) (extra v : ℕ → ℕ) (f : Flags) (a : AtVisible ss extra v f) → Does ss extra v f a → Simulated mode image left s m p
  visible ss extra v f a d =
      let b' : BodyContext = record (behind d.write d.place d.status) { service = d.service; interrupts = d.interrupts } in
      let regs : List ℕ = regs_with c.regs d.write in
      let cpu : Processor = gone c regs d.flags (at d.place) in
      let mem : Memory = with_words s.memory d.words in
      let way = at_the_item mode in
      let few = item_edges_few mode in
      let next_small = (facts.item_small o.b.body d.place body' is).1 in
      let further : ℕ → ℕ = λ n. item_place mode image o.b.body d.place in
      let next_is : item_place mode image o.b.body d.place ≡ at d.place = ap (address_of_item mode o.b.body d.place) is in
      let v' : ℕ → ℕ = with_registers regs d.var in
      let w : Processor = d.w in
      let u : Env = here mode p o.κ o.σ ss w further v' d.flags in
      let seat : IsSeat o.σ = step.in_seat mode image built good facts left s m h p hp o in
      let legal : Legal image d.machine = turn_legal image good built.accepted m p hp h.legal (d.machine, d.entries) d.turns in
      let ctx : IsContext mode image b' = legal_context image (knows image d.machine) b' o.below mode
      (subst (λ (y : abstract.Processor). AreLegal image (knows image d.machine) y.bodies) d.makes.own (legal.each p).bodies) in
      let agrees = lands mode (env ss extra v f) u c s.memory a.offset a.rax a.rcx a.rdx a.flags a.state
      (any_registers mode p o.κ o.σ ss o.w w extra further v d.var f d.flags regs d.over.other_gs d.over.chosen d.over.level) d.over.rest regs
      (regs_long c.regs d.write a.long) (keeps_rsp c.regs d.write d.local) d.var refl (at d.place) next_is next_small d.words
      (d.over.known regs further d.flags)
      (opens_at mode image p o.σ seat hp good.count.1 o.κ ss w further v' d.flags (body mode AtItem) way.over s.memory h.regions_are) in
      let spread = facts.item_range o.b.body d.place body' is in
      let fit : Fits code u (block mode (body mode AtItem)) =
      fits_at mode image p o.σ seat hp good.count.1 o.κ ss w further v' d.flags facts (body mode AtItem) way.over d.over.fred
      (subst (λ y. (0xffffffff82000000 ≤ y) × (y + 0x100 ≤ M)) (sym next_is) spread) tt (way.told u) in
      let plain = step.plain_kind mode image built good facts left s m h p hp o in
      let item : InItem mode image (origin_of o.κ) u w b' d.words = record {
        saved = d.over.saved regs further d.flags;
        locals = locals_behind mode image (env ss extra v f) c s.memory a.offset a.rax a.rcx a.rdx a.flags a.state o.b a.means.locals d.write d.local;
        flags = d.flags_are;
        calls = calls_behind mode image (env ss extra v f) c s.memory a.offset a.rax a.rcx a.rdx a.flags a.state o.b a.means.locals d.write d.local d.words
            (step.calls_stay mode image built good facts left s m h p hp o d.names d.allowed d.words d.changes) a.means.calls;
      } in
      let act' : Active mode image p (edges mode (body mode AtItem) 0) o.κ o.σ on.frame (switches_at mode image on.switching o.below)
      (first_fill on.fills) w b' cpu mem = record {
        stands = record {
          spot = body mode AtItem;
          k = 0;
          extra = further;
          var = v';
          flags = d.flags;
          ss = ss;
          ss_is = a.ss_is;
          masked = d.masked;
          within = omega arith;
          enough = omega arith;
          at = begins code (block mode (body mode AtItem)) u cpu mem fit agrees;
          long = regs_long c.regs d.write a.long;
        };
        switches = way.off ∙ sym o.off;
        fills = sym (ap is_some a.unfilled);
        knows = plain_knows mode o.κ on.frame plain (blocks.holds (body mode AtItem));
        means = means_at mode image o.κ plain AtItem u w b' (first_fill on.fills) d.words (item, refl);
      } in
      let still_there : went_activations image.processors s p cpu d.sent ≡ o.last ∷ o.others
      = went_stays image.processors s p cpu d.sent d.cell.ins (step.fetches mode image built good facts left s m h p hp c.rip d.cell d.found).1 d.no_return
      ∙ o.acts in
      step.visible_with mode image built good facts left s m h p hp o (λ on. a.state.blocked ∙ unblocked mode) d.cell d.found d.marked a.kernel d.apic cpu
      d.words d.sent d.sends d.runs
      (step.blocked mode image built good facts left s m h p hp) d.names d.allowed d.changes d.machine d.entries d.turns d.tasks d.slots
      on.fills on.free (λ k. refl) (b' ∷ o.below)
      d.makes
      d.apic_is
      (sent_inside (length x.bodies) c d.cell.ins d.sent
      (goes_on_inside (is_return (Some d.cell.ins)) (not (is_user c)) (not (nat_le nmi_entry c.rip && nat_lt c.rip repeat_entry)) (is_jump (Some d.cell.ins))
      (is_in_repeat c.rip) (length x.bodies) d.no_return (step.outside mode image built good facts left s m h p hp o a.act)) ∙ ap length o.bodies)
      (edges mode (body mode AtItem) 0) (omega arith)
      (subst (λ as'. Chain mode image p (edges mode (body mode AtItem) 0) x.running on.returning (d.tasks on.returning) on.frame on.switching on.fills
      (b' ∷ o.below) as' cpu
      mem) (sym still_there) (d.over.chains b' o.kind ctx (edges mode (body mode AtItem) 0) cpu act'))
      (λ counted. d.shows)
