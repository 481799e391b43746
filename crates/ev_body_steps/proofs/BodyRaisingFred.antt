-- The delivery of an event to a body that runs, under FRED: the frame that it writes, and the activation that it begins.
use Rattle.std.proofs.Common.{◌≡◌, inl, inr, ℕ, suc, ◌+◌, ◌-◌, ◌*◌, ◌%◌, ◌^◌, ◌<◌, Bool, true, false, not, ◌&&◌, ◌||◌, List, [], ◌∷◌, length, map, refl, sym, ap, ◌∙◌, subst, arith, length-set}
use Rattle.std.specs.Prelude.{◌==◌, if◌then◌else◌, nat_lt, max}
use Rattle.std.proofs.lemmas.Bool.{le-ltb}
use Rattle.ev_isa.specs.Word.{NatMap}
use Rattle.ev_isa.specs.declared.mode.Mode.TheVariants.{Fred}
use Rattle.ev_event.specs.declared.event.Event.{Event}
use Rattle.ev_event.specs.Event.{has_error_code, is_hardware, is_nmi_type}
use Rattle.ev_body.specs.declared.image.Image.{Image}
use Rattle.ev_effect.specs.Frame.{placed}
use Rattle.ev_listing.specs.AddressMap.{kernel_table, stack_top, stack_bytes}
use Rattle.ev_state.specs.Processor.{Processor, is_user, with_rsp}
use Rattle.ev_mem.specs.Memory.{Memory}
use Rattle.ev_fred.specs.FredDelivery.{new_level, event_level, exchanged_if, handler_page, fred_delivery}
use Rattle.ev_symbolic.specs.Value.{M}
use Rattle.ev_symbolic.specs.Agrees.{Env, eval, untracked, Open, Fits, with_words, At}
use Rattle.ev_symbolic.specs.Join.{env_after}
use Rattle.ev_symbolic.proofs.Placed.{placed_other}
use Rattle.ev_blocks.specs.Shapes.{KernelCode, fred_frame}
use Rattle.ev_blocks.specs.Fred.{FromKernel, fred_block, kernel_values}
use Rattle.ev_blocks.specs.Blocks.{InFred}
use Rattle.ev_deliver.specs.FredDelivers.{entry_by, fred_variables, no_flags, frame_at, fred_handler, fred_words, FredSite, FredBegins, FrameTells, faulted, other_base}
use Rattle.ev_deliver.proofs.FredDelivers.{listed_is, fred_delivers, frames_tell}
use Rattle.ev_deliver.proofs.Tops.{fred_from_body}
use Rattle.ev_activation.specs.Seat.{FromBody, Seat, top_at}
use Rattle.ev_table.specs.Table.{code_table}
use Rattle.ev_abstract.specs.Delivery.{event_key}
use Rattle.ev_idt.specs.IdtDelivery.{idt_delivery}
use Rattle.ev_relation.specs.Active.{here, AtLoad}
use Rattle.ev_relation.specs.Named.{Outside, Changes}
use Rattle.ev_relation.proofs.CallKinds.{seat_under}
use Rattle.ev_relation.proofs.Fits.{fits_at, opens_at}
use Rattle.ev_relation.proofs.Spots.{few_edges}
use Rattle.ev_body_steps.proofs.BodyRaising as raise
use Rattle.ev_body_steps.proofs.BodyRaising.{IsBodyEvent, AtItem, Ready, Begins}

-- the frame lies below the seat's top
below_top : (p r n : ℕ) → p < 32 → r < 7 → n < 32 → (vs : List ℕ) → length vs ≡ 8 → (words : NatMap ℕ) → Changes p (seat_under Fred r n) [] words
    (placed words ((top_at p (seat_under Fred r n) + (M - 64)) % M) vs)
below_top p r n hp hr hn vs hl words x off d = from ((top_at p (seat_under Fred r n) + (M - 64)) % M) refl off
  where
    from : (a : ℕ) → a ≡ (top_at p (seat_under Fred r n) + (M - 64)) % M
        → Outside (stack_top p r - stack_bytes) (top_at p (seat_under Fred r n)) x → placed words a vs x ≡ words x
    from a ha (inl h) = placed_other vs words a x (omega arith) (inl (omega arith))
    from a ha (inr h) = placed_other vs words a x (omega arith) (inr (omega arith))

module _ (image : Image) (p r n : ℕ) (c : Processor) (e : Event) (body : ℕ) (m : Memory) (ready : Ready Fred image p r n c e body m) where
  abbrev seat : Seat
  seat = raise.seat Fred image p r n c e body

  abbrev place : ℕ → ℕ
  place = raise.first_place Fred image p r n c e body

  abbrev env : Env
  env = here Fred p FromBody seat 0x18 c place (fred_variables c e) no_flags

  abbrev at : AtItem Fred p r n c
  at = ready.at

  small : p < 32
  small = let a = ready.within in let b = ready.few in omega arith

  -- ---- the level stays

  stays_zero : (l k : ℕ) → l ≡ 0 → k ≡ 0 → max l k ≡ l
  stays_zero l k h i = ap (λ x. max x k) h ∙ ap (max 0) i ∙ sym h

  level_is : new_level c e false ≡ c.level
  level_is =
      ap (λ b. if b && true && not (is_hardware e.kind && (e.vector == 8)) then 0 else max c.level (event_level c.msrs e.kind e.vector)) at.kernel
      ∙ stays_zero c.level (event_level c.msrs e.kind e.vector) at.level (ready.event.level c.msrs at.config at.stack_levels)

  -- ---- the handler

  -- by whether the event interrupts a task, the level and whether NMIs are blocked
  handler_with : Bool → ℕ → Bool → Processor
  handler_with b l z = record (with_rsp (exchanged_if b (faulted c e)) (frame_at env)) {
    rip = handler_page c.msrs.config + (if b then 0 else 0x100);
    cs = 0x10;
    ss = 0x18;
    cpl = 0;
    flags = 2;
    level = l;
    nmi_blocked = z;
    sti_blocked = false;
  }

  rest : env.rest ≡ untracked (fred_handler c e env)
  unfolding handler_with
  rest =
      sym (ap (λ b. untracked (handler_with b (new_level c e false) (fred_handler c e env).nmi_blocked)) at.kernel
      ∙ ap (λ l. untracked (handler_with false l (fred_handler c e env).nmi_blocked)) level_is)

  blocking : (fred_handler c e env).nmi_blocked ≡ false
  blocking = ap (λ y. y || is_nmi_type e.kind) at.open_to ∙ ready.event.plain

  site : FredSite c e env
  site = record {
    config = at.config;
    long = at.long;
    levels = at.levels;
    top = fred_from_body c e (top_at p (seat_under Fred r n)) at.kernel
        (ap (nat_lt c.level) level_is ∙ le-ltb c.level c.level (omega arith)) at.config
        (let t = at.at_top in let s = ready.stack in let d = ready.deep in omega arith)
        (let s = ready.stack in let d = ready.deep in omega arith)
        (let s = ready.stack in let d = ready.deep in omega arith)
        (let s = ready.stack in let d = ready.deep in let k = small in omega arith)
        ∙ (let s = ready.stack in let d = ready.deep in
        let q : top_at p (seat_under Fred r n) - 0x100 ≡ top_at p (seat_under Fred r (suc n)) = omega arith in q);
    area = ap (λ b. if b then c.msrs.kernel_gs_base else c.msrs.gs_base) at.kernel ∙ at.base;
    area_small = let s = small in omega arith;
    var = refl;
    flags = refl;
  }

  begun : FredBegins (code_table Fred image) c m e env
  begun = fred_delivers (code_table Fred image) c m e env site rest
      (subst (λ b. Fits (code_table Fred image) env (fred_block (entry_by b e))) (sym at.kernel)
      (fits_at Fred image p seat (raise.in_seat Fred image p r n c e body m ready) ready.within ready.few FromBody 0x18 c place (fred_variables c e) no_flags
      ready.facts (InFred FromKernel) refl at.fred (raise.in_bodies Fred image p r n c e body m ready) tt tt))
      (subst (λ b. Open env (fred_block (entry_by b e)).ground.known m.regions) (sym at.kernel)
      (opens_at Fred image p seat (raise.in_seat Fred image p r n c e body m ready) ready.within ready.few FromBody 0x18 c place (fred_variables c e) no_flags
      (InFred FromKernel) refl m ready.regions_are))

  here_at : At (code_table Fred image) (fred_block FromKernel) 0 env (fred_handler c e env) (with_words m (fred_words env m.words))
  here_at = subst (λ b. At (code_table Fred image) (fred_block (entry_by b e)) 0 env (fred_handler c e env) (with_words m (fred_words env m.words))) at.kernel
      begun.at

  -- ---- what the load of the body's address finds

  tells : FrameTells c e env
  tells = frames_tell c e env refl (let h = at.ring.1 in omega arith) (let h = at.level in omega arith) (let h = at.ss in omega arith) ready.event.small

  abbrev behind : Env
  behind = env_after env kernel_values no_flags

  error_is : (if is_hardware e.kind && has_error_code e.vector then e.error else 0) ≡ e.error
  error_is = by_error (has_error_code e.vector) refl
    where
      by_error : (t : Bool) → has_error_code e.vector ≡ t → (if is_hardware e.kind && has_error_code e.vector then e.error else 0) ≡ e.error
      by_error true q = ap (λ t. if t then e.error else 0) (ready.event.error ∙ q)
      by_error false q = ap (λ t. if t then e.error else 0) (ready.event.error ∙ q) ∙ sym (ready.event.no_error q)

  place_is : (v k : ℕ) → v ≡ k → k < 2 ^ 8 → ((v * 2 ^ 3) % 2 ^ 64 + kernel_table) % 2 ^ 64 ≡ kernel_table + 8 * k
  place_is v k h l = omega arith

  loads : AtLoad Fred image KernelCode behind c (raise.context Fred image p r n c e body)
  unfolding eval
  loads = record {
    key = event_key e.kind e.vector;
    small = let k = ready.event.key in let s = ready.event.small in omega arith;
    place = place_is _ _ (tells.vector ∙ sym ready.event.key) (subst (λ k. k < 2 ^ 8) (sym ready.event.key) ready.event.small);
    found = ready.found;
    begins = refl;
    unknown = refl;
    off = refl;
    quiet = refl;
    saved = record {
      regs = listed_is c.regs at.long;
      rip = refl;
      canonical = ready.canonical;
      cs = tells.cs ∙ at.ring.1;
      ring = at.ring;
      stack_level = tells.level;
      flags = refl;
      whole = at.flags;
      ss = tells.ss;
      same_ss = sym at.ss;
      sti = tells.sti ∙ at.unblocked;
      unblocked = at.unblocked;
      base = at.base;
      gs = ap (λ b. other_base b c) at.kernel;
      chosen = refl;
      level = refl;
      levels = at.levels;
      above = let t = at.at_top in let s = ready.stack in let d = ready.deep in omega arith;
    };
    locals = (λ i. sym error_is i ∷ (ready.event.key ∙ sym tells.vector) i ∷ e.info ∷ 0 ∷ 0 ∷ 0 ∷ 0 ∷ 0 ∷ []);
  }

  pub begins_fred : Begins Fred image p r n c e body m
  begins_fred = record {
    cpu = fred_handler c e env;
    words = fred_words env m.words;
    frame = frame_at env;
    went = ap (λ b. if b then fred_delivery c m e false else idt_delivery c m e) at.fred ∙ begun.went;
    blocking = blocking;
    active = λ f. record {
      stands = record {
        spot = InFred FromKernel;
        k = 0;
        extra = place;
        var = fred_variables c e;
        flags = no_flags;
        ss = 0x18;
        ss_is = refl;
        masked = refl;
        within = omega arith;
        enough = few_edges Fred image (InFred FromKernel) refl refl 0;
        at = here_at;
        long = long_by (is_user c);
      };
      switches = refl;
      fills = refl;
      knows = tt;
      means = (loads, refl);
    };
    changes = below_top p r (suc n) small ready.stack ready.deep (map (eval env) fred_frame) refl m.words;
    frame_is = ap (λ b. frame_at env + 8 * (if b then 8 else (if is_hardware e.kind && has_error_code e.vector then 6 else 5))) at.fred
        ∙ (let s = ready.stack in let d = ready.deep in let k = small in omega arith);
  }
    where
      long_by : (b : Bool) → length (with_rsp (exchanged_if b (faulted c e)) (frame_at env)).regs ≡ 16
      long_by true = length-set c.regs 4 (frame_at env) ∙ at.long
      long_by false = length-set c.regs 4 (frame_at env) ∙ at.long
