-- Items that write a model-specific register: they begin with numbers for RCX, RAX and RDX, and their visible instruction is WRMSR. `eoi` ends in the local
-- APIC the interrupt of the greatest vector in service, which is that of its context; `send` puts an interrupt into the mail of a processor.
use Rattle.std.proofs.Common.{◌≡◌, ℕ, suc, ◌+◌, ◌<◌, ◌≤◌, false, [], ◌∷◌, length, Some, refl, sym, ap, ◌∙◌, subst, arith}
use Rattle.std.specs.Prelude.{is_some, slice_get, if◌then◌else◌, not, ◌&&◌, ◌*◌, ◌/◌, ◌%◌, ◌^◌, ◌==◌, nat_lt, nat_le, Bool, true, None}
use Rattle.ev_isa.specs.Word.{NatMap}
use Rattle.ev_isa.specs.Flags.{Flags}
use Rattle.ev_isa.specs.Spelling.{spelling, four_bytes}
use Rattle.ev_isa.specs.declared.instruction.Ins.{Ins}
use Rattle.ev_isa.specs.declared.instruction.Ins.TheVariants.{Wrmsr}
use Rattle.ev_isa.specs.declared.mode.Mode.{Mode}
use Rattle.ev_isa.specs.declared.mode.Mode.TheVariants.{Idt, Fred}
use Rattle.ev_body.specs.declared.item.Item.{Item}
use Rattle.ev_body.specs.declared.item.Item.TheVariants.{Eoi, Send}
use Rattle.ev_body.specs.declared.key.Key.TheVariants.{Irq}
use Rattle.ev_body.specs.declared.body.Body.{Body}
use Rattle.ev_body.specs.declared.image.Image.{Image}
use Rattle.ev_body.specs.WellFormed.{IsImage, is_sendable}
use Rattle.ev_listing.specs.Expansion.{item_address}
use Rattle.ev_state.specs.Processor.{Processor, register, is_user}
use Rattle.ev_mem.specs.Memory.{Memory}
use Rattle.ev_abstract.specs.Context.{BodyContext}
use Rattle.ev_abstract.specs.Machine.{Machine, processor}
use Rattle.ev_abstract.specs.Machine as abstract
use Rattle.ev_abstract.specs.Run.{item_at}
use Rattle.ev_listing.specs.Marks.{Always}
use Rattle.ev_concrete.specs.ConcreteRun.{System}
use Rattle.ev_built.specs.Built.{IsBuilt}
use Rattle.ev_symbolic.specs.Value.{K}
use Rattle.ev_symbolic.specs.State.{SS}
use Rattle.ev_symbolic.specs.Run.{brun}
use Rattle.ev_symbolic.specs.Agrees.{Env, eval_flags, Code, Stands as LinesStand, At}
use Rattle.ev_symbolic.specs.Listed.{lines_at}
use Rattle.ev_symbolic.specs.Openings.{at_base}
use Rattle.ev_symbolic.specs.Names.{item_tag}
use Rattle.ev_symbolic.proofs.Blocks.{unsome, begins, at_end}
use Rattle.ev_blocks.specs.Shapes.{FredFrame, IdtFrame}
use Rattle.ev_blocks.specs.Items.{AtItem, AtNumbers, numbers_code}
use Rattle.ev_blocks.specs.Blocks.{Spot, block, edges}
use Rattle.ev_blocks.specs.Blocks as blocks
use Rattle.ev_blocks.proofs.Falls.{edges_fall}
use Rattle.ev_table.specs.Table.{code_table}
use Rattle.ev_relation.specs.Filling.{first_fill}
use Rattle.ev_relation.specs.Active.{item_place, address_of_item, numbers_of, here, IsKernelSs, InItem, Active}
use Rattle.ev_relation.specs.Relation.{ApicIs, switches_at, StandsOn, Stands}
use Rattle.ev_relation.specs.Step.{Simulated}
use Rattle.ev_relation.proofs.Facts.{Facts}
use Rattle.ev_body_steps.proofs.Bodies.{body, means_at}
use Rattle.ev_relation.proofs.CallKinds.{origin_of, plain_knows}
use Rattle.ev_body_steps.proofs.ItemCells.{before, visible_of, EdgesFrom, edges_stand, ItemCells}
use Rattle.ev_body_steps.proofs.ItemCode.{cells_of}
use Rattle.ev_body_steps.proofs.ItemState.{with_three, opening_of, ItemState, item_state}
use Rattle.ev_body_steps.proofs.ItemVisible as visible
use Rattle.ev_body_steps.proofs.KernelStep as step
use Rattle.ev_body_steps.proofs.ItemSteps as steps
use Rattle.ev_body_steps.proofs.ItemWords as words
use Rattle.ev_body_steps.proofs.Mailing as mailing
use Rattle.ev_relation.proofs.Legality.{eoi_context}
use Rattle.ev_relation.proofs.Vectors.{ended_is, lower_each}
use Rattle.ev_relation.proofs.After.{none_spares}
use Rattle.ev_apic.specs.declared.apic.Apic.{Apic}
use Rattle.ev_isa.specs.Instruction.{user_may}
use Rattle.ev_event.specs.Event.{ud}
use Rattle.ev_apic.specs.Apic.{ended}
use Rattle.ev_apic.specs.Send.{sent, send_to, target_of}
use Rattle.ev_apic.specs.declared.send.SendKey.TheVariants.{Fixed, Nmi}
use Rattle.ev_apic.specs.declared.send.Target.TheVariants.{One}
use Rattle.ev_proc.specs.ProcessorStep.{executed, ran, fault, special, write_msr, after_send, low32}
use Rattle.ev_exec.specs.Exec.{exec}
use Rattle.ev_symbolic.specs.Single.{IsAt, onward}
use Rattle.ev_concrete.specs.ConcreteRun.{is_return}
use Rattle.ev_concrete.specs.Shown.{shown_always}
use Rattle.ev_abstract.specs.ItemMeaning.{item_step, with_context, with_mail}
use Rattle.ev_abstract.specs.Rules.{breaks_slots, is_used}
use Rattle.ev_law.proofs.Ruled.{IsRuled}
use Rattle.ev_law.proofs.Machines.{used_by_item, send_sends}
use Rattle.ev_symbolic.proofs.Values.{and_left, and_right}
use Rattle.std.proofs.lemmas.Bool.{lt-ltb, ltb-true, leb-true, not-false}
use Rattle.ev_relation.proofs.Standing.{went}

-- ---- the block of the numbers

-- where it ends
abbrev numbers_end : Mode → (rcx rax rdx : ℕ) → SS
numbers_end mode rcx rax rdx = record (opening_of mode) { rip = at_base item_tag 30; regs = with_three mode (K rax) (K rcx) (K rdx) }

numbers_run : (mode : Mode) (rcx rax rdx : ℕ) → brun (block mode (body mode (AtNumbers rcx rax rdx))) 3 ≡ Some (numbers_end mode rcx rax rdx)
unfolding spelling four_bytes
numbers_run Fred rcx rax rdx = refl
numbers_run Idt rcx rax rdx = refl

pub numbers_steps : (mode : Mode) (rcx rax rdx : ℕ) → (block mode (body mode (AtNumbers rcx rax rdx))).steps ≡ 3
numbers_steps Fred rcx rax rdx = refl
numbers_steps Idt rcx rax rdx = refl

-- it begins as an item's block does
begins_numbers : (mode : Mode) (code : Code) (e : Env) (c : Processor) (m : Memory) (rcx rax rdx : ℕ) → At code (block mode (body mode AtItem)) 0 e c m
    → LinesStand code e (lines_at (at_base item_tag 0) (numbers_code rcx rax rdx)) → At code (block mode (body mode (AtNumbers rcx rax rdx))) 0 e c m
begins_numbers Fred code e c m rcx rax rdx at stand =
    begins code (block Fred (body Fred (AtNumbers rcx rax rdx))) e c m
    (record { ground = at.fits.ground; spaced = at.fits.spaced; stands = stand })
    (at_end code (block Fred (body Fred AtItem)) 0 _ refl e c m at)
begins_numbers Idt code e c m rcx rax rdx at stand =
    begins code (block Idt (body Idt (AtNumbers rcx rax rdx))) e c m
    (record { ground = at.fits.ground; spaced = at.fits.spaced; stands = stand })
    (at_end code (block Idt (body Idt AtItem)) 0 _ refl e c m at)

numbers_fall : (mode : Mode) (rcx rax rdx : ℕ) → edges mode (body mode (AtNumbers rcx rax rdx)) 0 < edges mode (body mode AtItem) 0
numbers_fall Fred rcx rax rdx = (edges_fall Fred).item FredFrame (AtNumbers rcx rax rdx) refl
numbers_fall Idt rcx rax rdx = (edges_fall Idt).item IdtFrame (AtNumbers rcx rax rdx) refl

numbers_plain : (mode : Mode) (rcx rax rdx : ℕ) → blocks.switches (body mode (AtNumbers rcx rax rdx)) ≡ false
numbers_plain Fred rcx rax rdx = refl
numbers_plain Idt rcx rax rdx = refl

-- what its end says
pub numbers_ends : (mode : Mode) (code : Code) (rcx rax rdx : ℕ) (e : Env) (c : Processor) (m : Memory)
    → At code (block mode (body mode (AtNumbers rcx rax rdx))) 3 e c m → ItemState mode e c m 30 (K rax) (K rcx) (K rdx) e.flags
unfolding eval_flags
numbers_ends Fred code rcx rax rdx e c m at =
    item_state Fred e (block Fred (body Fred (AtNumbers rcx rax rdx))).ground (numbers_end Fred rcx rax rdx) c m 30 (K rax) (K rcx) (K rdx) refl refl
    (at_end code (block Fred (body Fred (AtNumbers rcx rax rdx))) 3 (numbers_end Fred rcx rax rdx) (numbers_run Fred rcx rax rdx) e c m at)
numbers_ends Idt code rcx rax rdx e c m at =
    item_state Idt e (block Idt (body Idt (AtNumbers rcx rax rdx))).ground (numbers_end Idt rcx rax rdx) c m 30 (K rax) (K rcx) (K rdx) refl refl
    (at_end code (block Idt (body Idt (AtNumbers rcx rax rdx))) 3 (numbers_end Idt rcx rax rdx) (numbers_run Idt rcx rax rdx) e c m at)

-- items of numbers
before_numbers : (i : Item) (rcx rax rdx : ℕ) → numbers_of (Some i) ≡ Some (rcx, rax, rdx) → before i ≡ numbers_code rcx rax rdx
unfolding numbers_of before
before_numbers Eoi rcx rax rdx h = ap (λ (z : ℕ × ℕ × ℕ). numbers_code z.0 z.1 z.2) (unsome _ _ h)
before_numbers (Send to key) rcx rax rdx h = ap (λ (z : ℕ × ℕ × ℕ). numbers_code z.0 z.1 z.2) (unsome _ _ h)
before_numbers _ rcx rax rdx h = absurd (cc)

-- WRMSR of 0 to the register that ends an interrupt
writes_end : (c : Processor) (m : Memory) (next : ℕ) → IsAt c Wrmsr next → register c 0 ≡ 0 → register c 1 ≡ 0x80b → register c 2 ≡ 0
    → (a : Apic) (nmi : Bool) → executed c a m nmi (Some Wrmsr) ≡ ran (onward c c.regs next) (ended a) m.words nmi
unfolding exec special
writes_end c m next h rax rcx rdx a nmi =
    ap (λ t. if t && not (user_may Wrmsr) then fault c a m nmi ud else special c a m nmi (c.rip + length (spelling Wrmsr)) Wrmsr) h.kernel
    ∙ ap (λ n. special c a m nmi n Wrmsr) h.ends
    ∙ ap (λ n. write_msr c a m nmi next (low32 n) (low32 (register c 0) + 2 ^ 32 * low32 (register c 2))) rcx
    ∙ ap (λ n. write_msr c a m nmi next 0x80b (low32 n + 2 ^ 32 * low32 (register c 2))) rax
    ∙ ap (λ n. write_msr c a m nmi next 0x80b (low32 0 + 2 ^ 32 * low32 n)) rdx

-- an interrupt command of mode 0 without a shorthand sends its vector to its destination
command_sends : (v to : ℕ) → 0x20 ≤ v → v < 0x100 → to < 2 ^ 32
    → sent (low32 (0x4000 + v) + 2 ^ 32 * low32 to) ≡ Some (record { target = One to; key = Fixed v })
unfolding sent
command_sends v to from small low =
    let n : ℕ = low32 (0x4000 + v) + 2 ^ 32 * low32 to in
    let mode : n / 2 ^ 8 % 8 ≡ 0 = omega arith in
    let vector : n % 256 ≡ v = omega arith in
    let shorthand : n / 2 ^ 18 % 4 ≡ 0 = omega arith in
    let destination : n / 2 ^ 32 ≡ to = omega arith in
    (λ i. if mode i == 4 then Some (send_to n Nmi) else (if (mode i == 0) && nat_lt 15 (vector i)
    then Some (record { target = target_of (shorthand i) (destination i); key = Fixed (vector i) }) else None))
    ∙ ap (λ b. if b then Some (record { target = One to; key = Fixed v }) else None) (lt-ltb 15 v (omega arith))

-- WRMSR to the interrupt command register
pub writes_command : (c : Processor) (m : Memory) (next : ℕ) → IsAt c Wrmsr next → (v to : ℕ) → 0x20 ≤ v → v < 0x100 → to < 2 ^ 32
    → register c 0 ≡ 0x4000 + v → register c 1 ≡ 0x830 → register c 2 ≡ to → (a : Apic) (nmi : Bool)
    → executed c a m nmi (Some Wrmsr) ≡ went (onward c c.regs next) a m.words nmi (Some (record { target = One to; key = Fixed v }))
unfolding exec special
writes_command c m next h v to from small low rax rcx rdx a nmi =
    ap (λ t. if t && not (user_may Wrmsr) then fault c a m nmi ud else special c a m nmi (c.rip + length (spelling Wrmsr)) Wrmsr) h.kernel
    ∙ ap (λ n. special c a m nmi n Wrmsr) h.ends
    ∙ ap (λ n. write_msr c a m nmi next (low32 n) (low32 (register c 0) + 2 ^ 32 * low32 (register c 2))) rcx
    ∙ ap (λ n. write_msr c a m nmi next 0x830 (low32 n + 2 ^ 32 * low32 (register c 2))) rax
    ∙ ap (λ n. write_msr c a m nmi next 0x830 (low32 (0x4000 + v) + 2 ^ 32 * low32 n)) rdx
    ∙ ap (after_send c a m nmi next) (command_sends v to from small low)

module _ (mode : Mode) (image : Image) (built : IsBuilt image) (good : IsImage image) (facts : Facts mode image)
    (left : NatMap ℕ) (s : System) (m : Machine) (h : Stands mode image left s m) (p : ℕ) (hp : p < image.processors)
    (o : step.Top mode image built good facts left s m h p hp) (body' : Body) (is : slice_get image.bodies o.b.body ≡ Some body') where
  abbrev code : Code
  code = code_table mode image

  abbrev c : Processor
  c = s.cpus p

  abbrev x : abstract.Processor
  x = processor m p

  abbrev b : BodyContext
  b = o.b

  abbrev on : StandsOn mode image p (left p) s x
  on = step.on mode image built good facts left s m h p hp

  abbrev env : ℕ → (extra v : ℕ → ℕ) → Flags → Env
  env ss extra v f = here mode p o.κ o.σ ss o.w extra v f

  abbrev Stood : ℕ → BodyContext → Processor → Memory → Type 0
  Stood now b cpu mem = Active mode image p now o.κ o.σ on.frame (switches_at mode image on.switching o.below) (first_fill on.fills) o.w b cpu mem

  -- At the item: the first load is an edge.
  pub to_numbers : first_fill on.fills ≡ None → (act : Stood on.own b c s.memory) (ss : ℕ) → IsKernelSs mode ss → (extra v : ℕ → ℕ) (f : Flags)
      → At code (block mode (body mode AtItem)) 0 (env ss extra v f) c s.memory → InItem mode image (origin_of o.κ) (env ss extra v f) o.w b s.memory.words
      → extra 20 ≡ item_place mode image b.body b.place → length c.regs ≡ 16 → edges mode (body mode AtItem) 0 ≤ on.own
      → (i : Item) (ins : Ins) → visible_of i ≡ Some ins → item_at (Some body') b.place ≡ Some i → (rcx rax rdx : ℕ)
      → numbers_of (Some i) ≡ Some (rcx, rax, rdx)
      → Simulated mode image left s m p
  unfolding spelling four_bytes
  to_numbers unfilled act ss ss_is extra v f at means place long enough i ins seen hi rcx rax rdx numbers =
      let e : Env = env ss extra v f in
      let a : ℕ = item_address mode b.body body' b.place in
      let base : extra 20 ≡ a = place ∙ ap (address_of_item mode b.body b.place) is in
      let range = facts.item_range b.body b.place body' is in
      let low = range.0 in let high = range.1 in
      let cells : ItemCells code a (item_address mode b.body body' (suc b.place)) i ins = cells_of mode image facts b.body body' is b.place i ins hi seen in
      let from : EdgesFrom code (a + 0) (numbers_code rcx rax rdx)
      = subst (λ y. EdgesFrom code y (numbers_code rcx rax rdx)) (let z : a ≡ a + 0 = omega arith in z)
      (subst (EdgesFrom code a) (before_numbers i rcx rax rdx numbers) cells.edges) in
      let stand = edges_stand code e a 0 (numbers_code rcx rax rdx) base (omega arith) from in
      let falls = numbers_fall mode rcx rax rdx in
      let one = numbers_steps mode rcx rax rdx in
      step.inside mode image built good facts left s m h p hp o (record {
        stands = record {
          spot = body mode (AtNumbers rcx rax rdx);
          k = 0;
          extra = extra;
          var = v;
          flags = f;
          ss = ss;
          ss_is = ss_is;
          masked = step.masks mode image built good facts left s m h p hp o (block mode (body mode AtItem)) 0 e at;
          within = omega arith;
          enough = omega arith;
          at = begins_numbers mode code e c s.memory rcx rax rdx at stand;
          long = long;
        };
        switches = numbers_plain mode rcx rax rdx ∙ sym o.off;
        fills = sym (ap is_some unfilled);
        knows = plain_knows mode o.κ on.frame (step.plain_kind mode image built good facts left s m h p hp o)
            (blocks.holds (body mode (AtNumbers rcx rax rdx)));
        means = means_at mode image o.κ (step.plain_kind mode image built good facts left s m h p hp o) (AtNumbers rcx rax rdx) e o.w b
            (first_fill on.fills) s.memory.words
            (means, place, ap (λ o. numbers_of (item_at o b.place)) is ∙ ap numbers_of hi ∙ numbers);
      }) refl (omega arith)

  -- at the block's end the visible instruction comes, with the numbers in the registers
  unfoldable pub at_numbers : first_fill on.fills ≡ None → (act : Stood on.own b c s.memory) (ss : ℕ) → IsKernelSs mode ss
      → (extra v : ℕ → ℕ) (f : Flags) (rcx rax rdx : ℕ)
      → At code (block mode (body mode (AtNumbers rcx rax rdx))) 3 (env ss extra v f) c s.memory → InItem mode image (origin_of o.κ)
      (env ss extra v f) o.w b s.memory.words
      → extra 20 ≡ item_place mode image b.body b.place → length c.regs ≡ 16
      → visible.AtVisible mode image built good facts left s m h p hp o body' is ss extra v f
  at_numbers unfilled act ss ss_is extra v f rcx rax rdx at means place long = record {
    unfilled = unfilled;
    act = act;
    ss_is = ss_is;
    means = means;
    place = place;
    long = long;
    kernel = ap is_user at.agrees.rest;
    offset = 30;
    rax = K rax;
    rcx = K rcx;
    rdx = K rdx;
    flags = f;
    state = numbers_ends mode code rcx rax rdx (env ss extra v f) c s.memory at;
  }

  module _ (ss : ℕ) (extra v : ℕ → ℕ) (f : Flags) (a : visible.AtVisible mode image built good facts left s m h p hp o body' is ss extra v f) where
    abbrev next : ℕ
    next = visible.at mode image built good facts left s m h p hp o body' is (suc b.place)

    -- the context behind its `eoi`, and the local APIC
    abbrev behind : BodyContext
    behind = record (visible.behind mode image built good facts left s m h p hp o body' is None (suc b.place) b.flags) { service = None }

    apic_behind : item_at (Some body') b.place ≡ Some Eoi → ApicIs mode image (ended (s.apics p)) x.pending (behind ∷ o.below)
    apic_behind hi =
        let k = eoi_context image good built.accepted m p h.legal b o.below o.bodies (ap (λ o. item_at o b.place) is ∙ hi) in
        ended_is mode image (s.apics p) x.pending b behind o.below k.0 (subst (ApicIs mode image (s.apics p) x.pending) o.bodies on.apic) k.1 refl
        (λ class. lower_each mode image k.0 class o.below k.2)

    pub by_eoi : a.offset ≡ 30 → a.flags ≡ f → register c 1 ≡ 0x80b → register c 0 ≡ 0 → register c 2 ≡ 0 → item_at (Some body') b.place ≡ Some Eoi
        → visible.Does mode image built good facts left s m h p hp o body' is ss extra v f a
    unfolding item_step visible_of before is_return shown_always spelling four_bytes
    by_eoi off same rcx rax rdx hi =
        let cells : ItemCells code (visible.at mode image built good facts left s m h p hp o body' is b.place) next Eoi Wrmsr
        = cells_of mode image facts b.body body' is b.place Eoi Wrmsr hi refl in
        let here : code c.rip ≡ Some (record { ins = Wrmsr; next = next; mark = Always })
        = ap code (steps.rip_is mode image built good facts left s m h p hp o body' is ss extra v f a (omega arith)
        ∙ ap (λ n. visible.at mode image built good facts left s m h p hp o body' is b.place + n) off) ∙ cells.seen in record {
          cell = record { ins = Wrmsr; next = next; mark = Always };
          found = here;
          marked = refl;
          no_return = refl;
          write = None;
          local = tt;
          place = suc b.place;
          flags = a.flags;
          status = b.flags;
          flags_are = (steps.known_flags mode image built good facts left s m h p hp o body' is ss extra v f a same).0;
          interrupts = b.interrupts;
          masked = steps.same_interrupts mode image built good facts left s m h p hp o body' is ss extra v f a;
          words = s.memory.words;
          apic = ended (s.apics p);
          sent = None;
          sends = step.sends_nothing mode image built good facts left s m h p hp;
          runs = subst (λ g. executed c (s.apics p) s.memory (s.latches p) (Some Wrmsr)
              ≡ ran (record (onward c c.regs next) { flags = g }) (ended (s.apics p)) s.memory.words (s.latches p)) a.state.flags
              (writes_end c s.memory next (steps.at_ins mode image built good facts left s m h p hp o body' is ss extra v f a Wrmsr next here) rax rcx rdx
              (s.apics p) (s.latches p));
          service = None;
          apic_is = apic_behind hi;
          names = [];
          allowed = (none_spares p).free;
          unknown = step.unknown_none o.below;
          changes = λ y off d. refl;
          w = o.w;
          var = v;
          tasks = x.tasks;
          over = steps.over_of mode image built good facts left s m h p hp o body' is ss extra v f a None tt;
          machine = with_context m p behind;
          entries = [];
          turns = steps.turns mode image built good facts left s m h p hp o body' is ss extra v f a Eoi hi;
          slots = x.slots;
          makes = words.makes_context mode image built good facts left s m h p hp o m m s.memory.words x.tasks x.slots behind
              (steps.nothing mode image built good facts left s m h p hp o body' is ss extra v f a);
          shows = refl;
        }

    -- ---- `send` of an interrupt

    module _ (to n : ℕ) (hi : item_at (Some body') b.place ≡ Some (Send to (Irq n))) where
      abbrev ruled : IsRuled image body'
      ruled = steps.ruled mode image built good facts left s m h p hp o body' is ss extra v f a

      sendable : is_sendable (Irq n) ≡ true
      sendable = ruled.sends b.place to (Irq n) hi

      from : 0x20 ≤ n
      from = leb-true 0x20 n (and_left (nat_le 0x20 n) (nat_lt n 0x100) sendable)

      small : n < 0x100
      small = ltb-true n 0x100 (and_right (nat_le 0x20 n) (nat_lt n 0x100) sendable)

      there : to < image.processors
      unfolding breaks_slots
      there = ltb-true to image.processors (not-false _ (ruled.slots b.place (Send to (Irq n)) hi))

      used : is_used image (Irq n) ≡ true
      used = used_by_item image (Irq n) b.body b.place body' (Send to (Irq n)) is hi (send_sends image to (Irq n))

      abbrev mailed_to : Machine
      mailed_to = with_mail m to (Irq n)

      pub by_send : a.offset ≡ 30 → a.flags ≡ f → register c 1 ≡ 0x830 → register c 0 ≡ 0x4000 + n → register c 2 ≡ to
          → visible.Does mode image built good facts left s m h p hp o body' is ss extra v f a
      unfolding item_step visible_of before is_return shown_always spelling four_bytes mailing.sending
      by_send off same rcx rax rdx =
          let cells : ItemCells code (visible.at mode image built good facts left s m h p hp o body' is b.place) next (Send to (Irq n)) Wrmsr
          = cells_of mode image facts b.body body' is b.place (Send to (Irq n)) Wrmsr hi refl in
          let here : code c.rip ≡ Some (record { ins = Wrmsr; next = next; mark = Always })
          = ap code (steps.rip_is mode image built good facts left s m h p hp o body' is ss extra v f a (omega arith)
          ∙ ap (λ k. visible.at mode image built good facts left s m h p hp o body' is b.place + k) off) ∙ cells.seen in
          let few = good.count.1 in record {
            cell = record { ins = Wrmsr; next = next; mark = Always };
            found = here;
            marked = refl;
            no_return = refl;
            write = None;
            local = tt;
            place = suc b.place;
            flags = a.flags;
            status = b.flags;
            flags_are = (steps.known_flags mode image built good facts left s m h p hp o body' is ss extra v f a same).0;
            interrupts = b.interrupts;
            masked = steps.same_interrupts mode image built good facts left s m h p hp o body' is ss extra v f a;
            words = s.memory.words;
            apic = s.apics p;
            sent = Some (record { target = One to; key = Fixed n });
            sends = mailing.sending mode image built good facts left s m h p hp o to n there sendable used;
            runs = subst (λ g. executed c (s.apics p) s.memory (s.latches p) (Some Wrmsr)
                ≡ went (record (onward c c.regs next) { flags = g }) (s.apics p) s.memory.words (s.latches p)
                (Some (record { target = One to; key = Fixed n }))) a.state.flags
                (writes_command c s.memory next (steps.at_ins mode image built good facts left s m h p hp o body' is ss extra v f a Wrmsr next here) n to from
                small (let l = there in omega arith) rax rcx rdx (s.apics p) (s.latches p));
            service = b.service;
            apic_is = visible.same_apic mode image built good facts left s m h p hp o body' is None (suc b.place) b.flags;
            names = [];
            allowed = (none_spares p).free;
            unknown = step.unknown_none o.below;
            changes = λ y off d. refl;
            w = o.w;
            var = v;
            tasks = x.tasks;
            over = steps.over_of mode image built good facts left s m h p hp o body' is ss extra v f a None tt;
            machine = with_context mailed_to p (visible.behind mode image built good facts left s m h p hp o body' is None (suc b.place) b.flags);
            entries = [];
            turns = steps.turns mode image built good facts left s m h p hp o body' is ss extra v f a (Send to (Irq n)) hi;
            slots = x.slots;
            makes = words.makes_context mode image built good facts left s m h p hp o mailed_to mailed_to s.memory.words x.tasks x.slots
                (visible.behind mode image built good facts left s m h p hp o body' is None (suc b.place) b.flags)
                (mailing.still mode image built good facts left s m h p hp o to n there sendable used);
            shows = refl;
          }
