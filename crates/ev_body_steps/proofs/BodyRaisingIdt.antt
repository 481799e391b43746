-- The delivery of an event to a body that runs, through the IDT: the frame that it writes, and the activation that it begins.
use Rattle.std.proofs.Common.{◌≡◌, inl, inr, ℕ, suc, ◌+◌, ◌-◌, ◌*◌, ◌/◌, ◌%◌, ◌^◌, ◌<◌, ◌≤◌, Bool, true, false, ◌&&◌, ◌||◌, List, [], ◌∷◌, length, map, refl, sym, ap, ◌∙◌, subst, arith, length-set}
use Rattle.std.proofs.Math.Bool.{and-false}
use Rattle.std.specs.Prelude.{◌==◌, if◌then◌else◌, nat_lt}
use Rattle.ev_isa.specs.Word.{NatMap, bit}
use Rattle.ev_isa.specs.Flags.{Flags, flags_of}
use Rattle.ev_isa.specs.declared.mode.Mode.TheVariants.{Idt}
use Rattle.ev_event.specs.declared.event.Event.{Event}
use Rattle.ev_event.specs.Event.{has_error_code, is_hardware, is_nmi_type}
use Rattle.ev_body.specs.declared.image.Image.{Image}
use Rattle.ev_effect.specs.Frame.{placed}
use Rattle.ev_gate.specs.Gate.{gate_at}
use Rattle.ev_concrete.specs.Opening.{gate}
use Rattle.ev_listing.specs.AddressMap.{kernel_table, idt_base, vector_stub, stack_top, stack_bytes}
use Rattle.ev_state.specs.Processor.{Processor, is_user, interrupts_on}
use Rattle.ev_mem.specs.Memory.{Memory}
use Rattle.ev_fred.specs.FredDelivery.{fred_delivery}
use Rattle.ev_idt.specs.IdtDelivery.{idt_delivery, is_gated}
use Rattle.ev_abstract.specs.Delivery.{event_key}
use Rattle.ev_symbolic.specs.Value.{M}
use Rattle.ev_symbolic.specs.Agrees.{Env, eval, untracked, Open, Fits, with_words, At}
use Rattle.ev_symbolic.specs.Join.{env_after}
use Rattle.ev_symbolic.proofs.Placed.{placed_other}
use Rattle.ev_blocks.specs.Shapes.{KernelCode}
use Rattle.ev_blocks.specs.Idt.{Stub, pushed, told_error, told_address, stub_values, common_values, idt_block}
use Rattle.ev_blocks.specs.Blocks.{InIdt}
use Rattle.ev_deliver.specs.FredDelivers.{other_base, cr2_after}
use Rattle.ev_deliver.specs.IdtDelivers.{origin_by, idt_variables, frame_at, idt_handler, idt_words, StubSite, StubBegins}
use Rattle.ev_deliver.proofs.FredDelivers.{listed_is}
use Rattle.ev_deliver.proofs.IdtDelivers.{idt_delivers}
use Rattle.ev_deliver.proofs.Tops.{idt_from_body}
use Rattle.ev_activation.specs.Seat.{FromBody, Seat, top_at}
use Rattle.ev_table.specs.Table.{code_table}
use Rattle.ev_tables.proofs.Stand.{gates_stand}
use Rattle.ev_relation.specs.Active.{here, IsKernelSs, AtLoad}
use Rattle.ev_relation.specs.Relation.{InTables}
use Rattle.ev_relation.specs.Named.{Outside, Changes}
use Rattle.ev_relation.proofs.CallKinds.{seat_under}
use Rattle.ev_relation.proofs.Fits.{fits_at, opens_at}
use Rattle.ev_relation.proofs.Spots.{few_edges}
use Rattle.ev_body_steps.proofs.BodyRaising as raise
use Rattle.ev_body_steps.proofs.BodyRaising.{IsBodyEvent, AtItem, Ready, Begins}

-- the frame lies below the seat's top
below_top : (p r n bytes : ℕ) → p < 32 → r < 7 → n < 32 → (vs : List ℕ) → length vs * 8 ≡ bytes → bytes ≤ 0x30 → (words : NatMap ℕ)
    → Changes p (seat_under Idt r n) [] words (placed words ((top_at p (seat_under Idt r n) + (M - bytes)) % M) vs)
below_top p r n bytes hp hr hn vs hl hb words x off d = from ((top_at p (seat_under Idt r n) + (M - bytes)) % M) refl off
  where
    from : (a : ℕ) → a ≡ (top_at p (seat_under Idt r n) + (M - bytes)) % M
        → Outside (stack_top p r - stack_bytes) (top_at p (seat_under Idt r n)) x → placed words a vs x ≡ words x
    from a ha (inl h) = placed_other vs words a x (omega arith) (inl (omega arith))
    from a ha (inr h) = placed_other vs words a x (omega arith) (inr (omega arith))

module _ (image : Image) (p r n : ℕ) (c : Processor) (e : Event) (body : ℕ) (m : Memory) (ready : Ready Idt image p r n c e body m) where
  abbrev seat : Seat
  seat = raise.seat Idt image p r n c e body

  abbrev v : ℕ
  v = e.vector

  abbrev has : Bool
  has = has_error_code e.vector

  -- the vector's entry, and the body's first item
  abbrev place : ℕ → ℕ
  place k = if k == 23 then vector_stub e.vector else raise.first_place Idt image p r n c e body k

  -- IF is off in the handler
  abbrev off_flags : Flags
  off_flags = record (flags_of c.flags) { interrupts = interrupts_on c && false }

  abbrev env : Env
  env = here Idt p FromBody seat c.ss c place (idt_variables c e) off_flags

  abbrev at : AtItem Idt p r n c
  at = ready.at

  abbrev frame : ℕ
  frame = frame_at env has

  abbrev d : Processor
  d = idt_handler c e frame

  abbrev words : NatMap ℕ
  words = idt_words env has m.words

  small : p < 32
  small = let a = ready.within in let b = ready.few in omega arith

  -- ---- the handler: SS stays

  rest : env.rest ≡ untracked d
  rest = ap (λ b. record (untracked c) { cpl = 0; cs = 0x10; ss = if b then 0 else c.ss; level = c.level }) (sym at.kernel)

  blocking : d.nmi_blocked ≡ false
  blocking = ap (λ y. y || is_nmi_type e.kind) at.open_to ∙ ready.event.plain

  gates : (k : ℕ) → k < 256 → gate_at m.words idt_base k ≡ gate k
  gates k l = gates_stand Idt image m.words ready.formed (λ a al lo hi. ready.fixed a (InTables (omega arith) hi)) k l

  open_gate : (is_gated e.kind && is_user c && nat_lt (gate e.vector).dpl 3) ≡ false
  open_gate = ap (λ b. is_gated e.kind && b && nat_lt (gate e.vector).dpl 3) at.kernel ∙ never (is_gated e.kind) (nat_lt (gate e.vector).dpl 3)
    where
      never : (a b : Bool) → (a && false && b) ≡ false
      never true b = refl
      never false b = refl

  site : StubSite c m e env
  site = record {
    site = record {
      gate_is = ap (λ a. gate_at m.words a e.vector) at.idt ∙ gates e.vector ready.event.small;
      passes = open_gate;
      small = ready.event.small;
      error = ready.event.error;
      long = at.long;
      levels = at.levels;
      top = idt_from_body c m.words e.vector (top_at p (seat_under Idt r n)) at.kernel ready.event.other.0 ready.event.other.1
          (let t = at.at_top in let s = ready.stack in let d = ready.deep in omega arith)
          (let s = ready.stack in let d = ready.deep in omega arith)
          (let s = ready.stack in let d = ready.deep in omega arith)
          ∙ (let s = ready.stack in let d = ready.deep in
          let q : top_at p (seat_under Idt r n) - 0xb0 ≡ top_at p (seat_under Idt r (suc n)) = omega arith in q);
    };
    other = ready.event.other.0;
    area = ap (λ b. if b then c.msrs.kernel_gs_base else c.msrs.gs_base) at.kernel ∙ at.base;
    area_small = let s = small in omega arith;
    stub = refl;
    var = refl;
  }

  begun : StubBegins (code_table Idt image) c m e env
  begun = idt_delivers (code_table Idt image) c m e env site rest refl
      (subst (λ b. Fits (code_table Idt image) env (idt_block (Stub (origin_by b) has v))) (sym at.kernel)
      (fits_at Idt image p seat (raise.in_seat Idt image p r n c e body m ready) ready.within ready.few FromBody c.ss c place (idt_variables c e) off_flags
      ready.facts (InIdt (Stub KernelCode has v)) refl at.fred (raise.in_bodies Idt image p r n c e body m ready) (ready.event.small, refl, refl) tt))
      (subst (λ b. Open env (idt_block (Stub (origin_by b) has v)).ground.known m.regions) (sym at.kernel)
      (opens_at Idt image p seat (raise.in_seat Idt image p r n c e body m ready) ready.within ready.few FromBody c.ss c place (idt_variables c e) off_flags
      (InIdt (Stub KernelCode has v)) refl m ready.regions_are))

  here_at : At (code_table Idt image) (idt_block (Stub KernelCode has v)) 0 env d (with_words m words)
  here_at = subst (λ b. At (code_table Idt image) (idt_block (Stub (origin_by b) has v)) 0 env d (with_words m words)) at.kernel begun.at

  -- ---- what the load of the body's address finds

  abbrev behind : Env
  behind = env_after (env_after env (stub_values has v) off_flags) (common_values KernelCode (v == 14)) off_flags

  place_is : (k j : ℕ) → k ≡ j → j < 2 ^ 8 → ((k * 2 ^ 3) % 2 ^ 64 + kernel_table) % 2 ^ 64 ≡ kernel_table + 8 * j
  place_is k j h l = omega arith

  -- the error code, which the entry pushes as 0 where there is none, and the address of a page fault
  error_is : (t : Bool) → has_error_code e.vector ≡ t → eval env (told_error t) ≡ e.error
  unfolding eval
  error_is true q = ap (λ t. if t then e.error else 0) (ready.event.error ∙ q)
  error_is false q = sym (ready.event.no_error q)

  address_is : (t : Bool) → (v == 14) ≡ t → eval (env_after env (stub_values has v) off_flags) (told_address t) ≡ e.info
  unfolding eval
  address_is true q = sym (ap (λ t. if t then cr2_after e c.cr2 else 0) q) ∙ ready.event.told c.cr2
  address_is false q = sym (ap (λ t. if t then cr2_after e c.cr2 else 0) q) ∙ ready.event.told c.cr2

  same_ss : IsKernelSs Idt c.ss → (c.ss % 2 ^ 16 ≡ c.ss) × (bit 16 c.ss ≡ false)
  same_ss (inl h) = (ap (λ n. n % 2 ^ 16) h ∙ sym h, ap (bit 16) h)
  same_ss (inr h) = (ap (λ n. n % 2 ^ 16) h ∙ sym h, ap (bit 16) h)

  loads : AtLoad Idt image KernelCode behind c (raise.context Idt image p r n c e body)
  unfolding eval
  loads = record {
    key = event_key e.kind e.vector;
    small = let k = ready.event.key in let s = ready.event.small in omega arith;
    place = place_is _ _ (sym ready.event.key) (subst (λ k. k < 2 ^ 8) (sym ready.event.key) ready.event.small);
    found = ready.found;
    begins = refl;
    unknown = refl;
    off = refl;
    quiet = refl;
    saved = record {
      regs = listed_is c.regs at.long;
      rip = refl;
      canonical = ready.canonical;
      cs = ap (λ n. n % 2 ^ 16) at.ring.1;
      ring = at.ring;
      stack_level = ap (λ n. n / 2 ^ 16 % 4) at.ring.1 ∙ sym at.level;
      flags = refl;
      whole = at.flags;
      ss = (same_ss at.ss).0;
      same_ss = refl;
      sti = (same_ss at.ss).1;
      unblocked = at.unblocked;
      base = at.base;
      gs = ap (λ b. other_base b c) at.kernel;
      chosen = refl;
      level = refl;
      levels = at.levels;
      above = let t = at.at_top in let s = ready.stack in let d = ready.deep in omega arith;
    };
    locals = (λ i. sym (error_is has refl) i ∷ ready.event.key i ∷ sym (address_is (v == 14) refl) i ∷ 0 ∷ 0 ∷ 0 ∷ 0 ∷ 0 ∷ []);
  }

  frame_changes : (b : Bool) → Changes p seat [] m.words (idt_words env b m.words)
  frame_changes true = below_top p r (suc n) 0x30 small ready.stack ready.deep (map (eval env) (pushed true)) refl (omega arith) m.words
  frame_changes false = below_top p r (suc n) 0x28 small ready.stack ready.deep (map (eval env) (pushed false)) refl (omega arith) m.words

  pub begins_idt : Begins Idt image p r n c e body m
  begins_idt = record {
    cpu = d;
    words = words;
    frame = frame;
    went = ap (λ b. if b then fred_delivery c m e false else idt_delivery c m e) at.fred ∙ begun.went;
    blocking = blocking;
    active = λ f. record {
      stands = record {
        spot = InIdt (Stub KernelCode has v);
        k = 0;
        extra = place;
        var = idt_variables c e;
        flags = off_flags;
        ss = c.ss;
        ss_is = at.ss;
        masked = and-false (interrupts_on c);
        within = omega arith;
        enough = few_edges Idt image (InIdt (Stub KernelCode has v)) refl refl 0;
        at = here_at;
        long = length-set c.regs 4 frame ∙ at.long;
      };
      switches = refl;
      fills = refl;
      knows = tt;
      means = ((ready.event.small, refl, refl), loads, refl);
    };
    changes = frame_changes has;
    frame_is = ap (λ b. frame + 8 * (if b then 8 else (if is_hardware e.kind && has_error_code e.vector then 6 else 5))) at.fred
        ∙ ap (λ b. frame + 8 * (if b then 6 else 5)) ready.event.error ∙ frame_by has;
  }
    where
      frame_by : (b : Bool) → frame_at env b + 8 * (if b then 6 else 5) ≡ top_at p seat
      frame_by true = let s = ready.stack in let l = ready.deep in let k = small in omega arith
      frame_by false = let s = ready.stack in let l = ready.deep in let k = small in omega arith
