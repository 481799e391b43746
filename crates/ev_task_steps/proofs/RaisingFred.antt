-- The delivery of what a task raises under FRED: the frame that it writes, and the activation that it begins.
use Rattle.std.proofs.Common.{◌≡◌, ℕ, ◌+◌, ◌-◌, ◌%◌, ◌*◌, ◌^◌, ◌<◌, ◌≤◌, Bool, true, false, not, ◌&&◌, List, [], ◌∷◌, get_or, set, length, map, Some, None, refl, sym, ap, ◌∙◌, subst, arith, inl, inr}
use Rattle.std.specs.Prelude.{◌==◌, if◌then◌else◌}
use Rattle.std.proofs.lemmas.Bool.{ne_eqb}
use Rattle.std.proofs.lemmas.List.{length-set}
use Rattle.ev_isa.specs.Word.{NatMap, wrap}
use Rattle.ev_isa.specs.Flags.{flags_word}
use Rattle.ev_isa.specs.declared.mode.Mode.TheVariants.{Fred}
use Rattle.ev_event.specs.declared.event.Event.{Event}
use Rattle.ev_event.specs.Event.{type_number, is_hardware}
use Rattle.ev_body.specs.declared.image.Image.{Image}
use Rattle.ev_effect.specs.Task.{Task}
use Rattle.ev_effect.specs.Frame.{placed}
use Rattle.ev_state.specs.Processor.{Processor}
use Rattle.ev_state.specs.Outcome.{Went}
use Rattle.ev_mem.specs.Memory.{Memory}
use Rattle.ev_apic.specs.declared.apic.Apic.{Apic}
use Rattle.ev_fred.specs.FredDelivery.{ss_word}
use Rattle.ev_proc.specs.ProcessorStep.{has_fred, try}
use Rattle.ev_listing.specs.AddressMap.{user_table, stack_top, stack_bytes}
use Rattle.ev_concrete.specs.ConcreteRun.{frame_size}
use Rattle.ev_concrete.specs.Shown.{is_refused, told_event, told_rip}
use Rattle.ev_built.specs.Built.{IsBuilt}
use Rattle.ev_symbolic.specs.Value.{M, K}
use Rattle.ev_symbolic.specs.Agrees.{Env, eval, untracked, Agrees, with_words}
use Rattle.ev_symbolic.proofs.Blocks.{at_end}
use Rattle.ev_symbolic.proofs.Placed.{next_place, placed_other}
use Rattle.ev_symbolic.specs.Join.{env_after}
use Rattle.ev_blocks.specs.Shapes.{UserCode, fred_frame}
use Rattle.ev_blocks.specs.Fred.{FredWay, ByCall, ByInt3, ByIntN, ByOther, FromUser, fred_block, way_values}
use Rattle.ev_blocks.specs.Blocks.{InFred, edges}
use Rattle.ev_deliver.specs.FredDelivers.{way_of, fred_variables, no_flags, frame_at, fred_handler, fred_words, FredSite, FredBegins, FrameTells}
use Rattle.ev_deliver.proofs.FredDelivers.{listed_is, fred_delivers, fred_facts, frames_tell}
use Rattle.ev_deliver.proofs.Tops.{fred_from_task}
use Rattle.ev_activation.specs.Seat.{Seat, top_at}
use Rattle.ev_table.specs.Table.{code_table}
use Rattle.ev_user.specs.Causes.{Fault, Undefined, Protection, Page, Cause, Faulted, Debug, Breakpoint, Three, Refused, Call, Arrived, IsCause, own_event, raised_event, raising}
use Rattle.ev_user.specs.Deliveries.{saving}
use Rattle.ev_user.proofs.Deliver.{events_are_own, arrives_at_once, call_arrives}
use Rattle.ev_relation.specs.Active.{here, rest_in, AtLoad}
use Rattle.ev_relation.specs.Named.{Outside, Changes}
use Rattle.ev_relation.proofs.CallKinds.{knows_nothing, means_by}
use Rattle.ev_relation.proofs.Fits.{fits_at, opens_at}
use Rattle.ev_relation.proofs.After.{kernel_names}
use Rattle.ev_relation.proofs.Domains.{four_tasks}
use Rattle.ev_task_steps.proofs.UserSafe.{frame_is_safe}
use Rattle.ev_task_steps.proofs.Raising as raise
use Rattle.ev_task_steps.proofs.Raising.{cause_key, kind_at, saved_at, returning, arrival, entry_edges, key_small, arrived_kind, over_one, Finds, Ready, Begins}

-- the frame lies on the task's stack, at its top
on_stack : (p n : ℕ) → n < 4 → p < 32 → (vs : List ℕ) → length vs ≡ 8 → (words : NatMap ℕ) → Changes p (record { stack = n; used = 0 }) (kernel_names p) words
    (placed words ((top_at p (record { stack = n; used = 0 }) + (M - 64)) % M) vs)
on_stack p n hn hp vs hl words x off d = from ((top_at p (record { stack = n; used = 0 }) + (M - 64)) % M) refl off
  where
    from : (a : ℕ) → a ≡ (top_at p (record { stack = n; used = 0 }) + (M - 64)) % M
        → Outside (stack_top p n - stack_bytes) (top_at p (record { stack = n; used = 0 })) x → placed words a vs x ≡ words x
    from a ha (inl h) = placed_other vs words a x (omega arith) (inl (omega arith))
    from a ha (inr h) = placed_other vs words a x (omega arith) (inr (omega arith))

module _ (image : Image) (p n : ℕ) (t : Task) (cr2 : ℕ) (cause : Cause) (body : ℕ) where
  -- the task's processor with the RIP that the frame has
  abbrev from : Processor
  from = saving (raise.raiser Fred image p n t cr2 cause body) cause

  abbrev over : Processor
  over = raise.over Fred image p n t cr2 cause body

  abbrev seat : Seat
  seat = raise.seat Fred image p n t cr2 cause body

  abbrev place : ℕ → ℕ
  place = raise.first_place Fred image p n t cr2 cause body

  abbrev env : Env
  env = here Fred p (kind_at cause) seat 0x18 over place (fred_variables from (own_event cause)) no_flags

-- ---- what each event comes to

module _ (image : Image) (p n : ℕ) (t : Task) (cr2 body : ℕ) where
  -- the values of the block behind the entry
  abbrev behind : Cause → FredWay → ℕ → ℕ
  behind cause w i = eval (env image p n t cr2 cause body) (get_or (way_values w) i (K 0))

  -- the processor is at level 0, with NMIs as they were, and what is told is what was raised
  record Comes (cause : Cause) : Type 0 where
    rest : (env image p n t cr2 cause body).rest
        ≡ untracked (fred_handler (from image p n t cr2 cause body) (own_event cause) (env image p n t cr2 cause body))
    single : (is_hardware (own_event cause).kind && ((own_event cause).vector == 8)) ≡ false
    blocking : (fred_handler (from image p n t cr2 cause body) (own_event cause) (env image p n t cr2 cause body)).nmi_blocked ≡ false
    told : told_event (is_refused true (own_event cause)) (own_event cause) ≡ raised_event cause
    saved : told_rip (is_refused true (own_event cause)) (t.rip + (own_event cause).length) ≡ saved_at t cause

  comes : (cause : Cause) → IsCause cause → ((own_event cause).length ≡ 2 → t.rip + 2 < 2 ^ 64) → Comes cause
  comes (Faulted Undefined) h l = record { rest = refl; single = refl; blocking = refl; told = refl; saved = refl }
  comes (Faulted Fault.Stack) h l = record { rest = refl; single = refl; blocking = refl; told = refl; saved = refl }
  comes (Faulted Protection) h l = record { rest = refl; single = refl; blocking = refl; told = refl; saved = refl }
  comes (Faulted (Page code address)) h l = record { rest = refl; single = refl; blocking = refl; told = refl; saved = refl }
  comes (Faulted Fault.Alignment) h l = record { rest = refl; single = refl; blocking = refl; told = refl; saved = refl }
  comes Debug h l = record { rest = refl; single = refl; blocking = refl; told = refl; saved = refl }
  comes Breakpoint h l = record { rest = refl; single = refl; blocking = refl; told = refl; saved = refl }
  comes Three h l = record { rest = refl; single = refl; blocking = refl; told = refl; saved = refl }
  comes Call h l = record { rest = refl; single = refl; blocking = refl; told = refl; saved = refl }
  comes (Arrived v) h l = record {
    rest = ap (λ κ. rest_in Fred κ 0x18 (over image p n t cr2 (Arrived v) body)) (arrived_kind v h);
    single = refl;
    blocking = refl;
    told = refl;
    saved = refl;
  }
  comes (Refused k) h l =
      let other : (k == 3) ≡ false = ne_eqb k 3 h.1 in
      let short = l refl in
      let e : Event = own_event (Refused k) in record {
        rest = refl;
        single = refl;
        blocking = refl;
        told = ap (λ b. told_event (not b) e) other;
        saved = ap (λ b. told_rip (not b) (t.rip + 2)) other ∙ (let q : (t.rip + 2 + (2 ^ 64 - 2)) % 2 ^ 64 ≡ t.rip + 0 = omega arith in q);
      }

  -- the number of a byte n, times eight, and two
  error_is : (v k : ℕ) → v ≡ k → k < 2 ^ 8 → ((v * 2 ^ 3) % 2 ^ 64 + 2) % 2 ^ 64 ≡ 8 * k + 2
  error_is v k h l = omega arith

  -- the place of a byte's word in the table
  place_is : (v k : ℕ) → v ≡ k → k < 2 ^ 8 → ((v * 2 ^ 3) % 2 ^ 64 + user_table) % 2 ^ 64 ≡ user_table + 8 * k
  place_is v k h l = omega arith

  finds : (cause : Cause) → IsCause cause → length t.regs ≡ 16 → ((own_event cause).length ≡ 2 → t.rip + 2 < 2 ^ 64)
      → Finds Fred p n t body cause (behind cause (way_of (own_event cause)))
  unfolding eval ss_word type_number
  finds (Faulted Undefined) h l s = record {
    place = refl;
    regs = listed_is t.regs l;
    rip = refl;
    cs = refl;
    flags = refl;
    ss = refl;
    sti = refl;
    gs = refl;
    chosen = refl;
    level = refl;
    locals =
        refl;
  }
  finds (Faulted Fault.Stack) h l s = record {
    place = refl;
    regs = listed_is t.regs l;
    rip = refl;
    cs = refl;
    flags = refl;
    ss = refl;
    sti = refl;
    gs = refl;
    chosen = refl;
    level = refl;
    locals =
        refl;
  }
  finds (Faulted Protection) h l s = record {
    place = refl;
    regs = listed_is t.regs l;
    rip = refl;
    cs = refl;
    flags = refl;
    ss = refl;
    sti = refl;
    gs = refl;
    chosen = refl;
    level = refl;
    locals =
        refl;
  }
  finds (Faulted (Page code address)) h l s = record {
    place = refl;
    regs = listed_is t.regs l;
    rip = refl;
    cs = refl;
    flags = refl;
    ss = refl;
    sti = refl;
    gs = refl;
    chosen = refl;
    level = refl;
    locals =
        refl;
  }
  finds (Faulted Fault.Alignment) h l s = record {
    place = refl;
    regs = listed_is t.regs l;
    rip = refl;
    cs = refl;
    flags = refl;
    ss = refl;
    sti = refl;
    gs = refl;
    chosen = refl;
    level = refl;
    locals =
        refl;
  }
  finds Debug h l s = record {
    place = refl;
    regs = listed_is t.regs l;
    rip = refl;
    cs = refl;
    flags = refl;
    ss = refl;
    sti = refl;
    gs = refl;
    chosen = refl;
    level = refl;
    locals =
        refl;
  }
  finds Breakpoint h l s = record {
    place = refl;
    regs = listed_is t.regs l;
    rip = refl;
    cs = refl;
    flags = refl;
    ss = refl;
    sti = refl;
    gs = refl;
    chosen = refl;
    level = refl;
    locals =
        refl;
  }
  finds Three h l s = record {
    place = refl;
    regs = listed_is t.regs l;
    rip = refl;
    cs = refl;
    flags = refl;
    ss = refl;
    sti = refl;
    gs = refl;
    chosen = refl;
    level = refl;
    locals =
        refl;
  }
  finds Call h l s = record {
    place = refl;
    regs = ap (λ xs. set (set xs 1 (t.rip + 2)) 11 (flags_word t.flags)) (listed_is t.regs l);
    rip = refl;
    cs = refl;
    flags = refl;
    ss = refl;
    sti = refl;
    gs = refl;
    chosen = refl;
    level = refl;
    locals = refl;
  }
  finds (Arrived v) h l s =
      let tells : FrameTells (from image p n t cr2 (Arrived v) body) (own_event (Arrived v)) (env image p n t cr2 (Arrived v) body)
      = frames_tell (from image p n t cr2 (Arrived v) body) (own_event (Arrived v)) (env image p n t cr2 (Arrived v) body) refl (omega arith) (omega arith)
      (omega arith) h.1 in record {
        place = place_is _ v tells.vector h.1;
        regs = listed_is t.regs l;
        rip = refl;
        cs = refl;
        flags = refl;
        ss = tells.ss;
        sti = tells.sti;
        gs = refl;
        chosen = refl;
        level = refl;
        locals = λ i. 0 ∷ sym tells.vector i ∷ 0 ∷ 0 ∷ 0 ∷ 0 ∷ 0 ∷ 0 ∷ [];
      }
  finds (Refused k) h l s =
      let short = s refl in
      let by_n : way_of (own_event (Refused k)) ≡ ByIntN = ap (λ b. if b then ByInt3 else ByIntN) (ne_eqb k 3 h.1) in
      let tells : FrameTells (from image p n t cr2 (Refused k) body) (own_event (Refused k)) (env image p n t cr2 (Refused k) body)
      = frames_tell (from image p n t cr2 (Refused k) body) (own_event (Refused k)) (env image p n t cr2 (Refused k) body) refl (omega arith) (omega arith)
      (omega arith) h.0 in
      let error : behind (Refused k) ByIntN 6 ≡ 8 * k + 2 = error_is _ k tells.vector h.0 in
      subst (λ w. Finds Fred p n t body (Refused k) (behind (Refused k) w)) (sym by_n) (record {
        place = refl;
        regs = listed_is t.regs l;
        rip = let q : (t.rip + 2 + 2 ^ 64 - 2) % 2 ^ 64 ≡ t.rip + 0 = omega arith in q;
        cs = refl;
        flags = refl;
        ss = tells.ss;
        sti = tells.sti;
        gs = refl;
        chosen = refl;
        level = refl;
        locals = ap (λ x. x ∷ 13 ∷ 0 ∷ 0 ∷ 0 ∷ 0 ∷ 0 ∷ 0 ∷ []) (sym error);
      })

-- ---- the delivery

few_edges : (w : FredWay) → edges Fred (InFred (FromUser w)) 0 ≤ entry_edges
few_edges ByCall = omega arith
few_edges ByInt3 = omega arith
few_edges ByIntN = omega arith
few_edges ByOther = omega arith

-- the step is the event's arrival
arrives : (cause : Cause) (c d : Processor) (a : Apic) (m : Memory) (nmi : Bool) (words : NatMap ℕ) (frame : ℕ) → has_fred c ≡ true
    → try (saving c cause) m (own_event cause) false ≡ Went d words frame → raising c a m nmi cause ≡ arrival d words (own_event cause) (Some frame) a nmi
arrives Call c d a m nmi words frame f h = call_arrives c d a m nmi words frame f h
arrives (Faulted x) c d a m nmi words frame f h = arrives_at_once c d a m nmi words frame (Faulted x) (λ e. cc) h
arrives Debug c d a m nmi words frame f h = arrives_at_once c d a m nmi words frame Debug (λ e. cc) h
arrives Breakpoint c d a m nmi words frame f h = arrives_at_once c d a m nmi words frame Breakpoint (λ e. cc) h
arrives Three c d a m nmi words frame f h = arrives_at_once c d a m nmi words frame Three (λ e. cc) h
arrives (Arrived v) c d a m nmi words frame f h = arrives_at_once c d a m nmi words frame (Arrived v) (λ e. cc) h
arrives (Refused k) c d a m nmi words frame f h = arrives_at_once c d a m nmi words frame (Refused k) (λ e. cc) h

module _ (image : Image) (built : IsBuilt image) (p n : ℕ) (t : Task) (cr2 : ℕ) (cause : Cause) (body : ℕ) (m : Memory)
    (ready : Ready Fred image p n t cr2 cause body m) where
  abbrev at : Env
  at = env image p n t cr2 cause body

  abbrev c : Processor
  c = from image p n t cr2 cause body

  abbrev e : Event
  e = own_event cause

  small : p < 32
  small = let a = ready.within in let b = ready.few in omega arith

  does : Comes image p n t cr2 body cause
  does = comes image p n t cr2 body cause ready.is_cause ready.rip_small

  found : Finds Fred p n t body cause (behind image p n t cr2 body cause (way_of e))
  found = finds image p n t cr2 body cause ready.is_cause ready.long ready.rip_small

  -- the frame ends at the top of the task's stack
  site : FredSite c e at
  site = record {
    config = refl;
    long = ready.long;
    levels = refl;
    top = fred_from_task c e refl does.single ∙ (let q : stack_top p n ≡ top_at p (seat image p n t cr2 cause body) = omega arith in q);
    area = refl;
    area_small = let s = small in omega arith;
    var = refl;
    flags = refl;
  }

  begun : FredBegins (code_table Fred image) c m e at
  begun = fred_delivers (code_table Fred image) c m e at site does.rest
      (fits_at Fred image p (seat image p n t cr2 cause body) (raise.in_seat Fred image p n t cr2 cause body ready.running) ready.within ready.few
      (kind_at cause)
      0x18 (over image p n t cr2 cause body) (place image p n t cr2 cause body)
      (fred_variables c e) no_flags ready.facts (InFred (FromUser (way_of e))) refl refl (raise.in_bodies Fred image p n t cr2 cause body m ready) tt
      (fred_facts c e at refl (omega arith) (events_are_own cause ready.is_cause).0.small))
      (opens_at Fred image p (seat image p n t cr2 cause body) (raise.in_seat Fred image p n t cr2 cause body ready.running) ready.within ready.few
      (kind_at cause)
      0x18 (over image p n t cr2 cause body) (place image p n t cr2 cause body)
      (fred_variables c e) no_flags (InFred (FromUser (way_of e))) refl m ready.regions_are)

  agrees : Agrees at (fred_block (FromUser (way_of e))).ground (fred_block (FromUser (way_of e))).opening (fred_handler c e at)
      (with_words m (fred_words at m.words))
  agrees = at_end (code_table Fred image) (fred_block (FromUser (way_of e))) 0 (fred_block (FromUser (way_of e))).opening refl at _ _ begun.at

  -- the frame's second word is the RIP that was saved
  saved_is : fred_words at m.words (wrap (frame_at at + 8)) ≡ c.rip
  unfolding eval
  saved_is = ap (fred_words at m.words) (next_place (top_at p (seat image p n t cr2 cause body)) (M - 64)) ∙ agrees.words.2.1

  -- the frame ends at the top
  frame_low : stack_top p n ≤ frame_at at + stack_bytes
  unfolding eval
  frame_low = let s = small in let r = ready.running in omega arith

  frame_high : frame_at at + 8 * 8 ≤ stack_top p n
  unfolding eval
  frame_high = let s = small in let r = ready.running in omega arith

  loads : AtLoad Fred image UserCode (env_after at (way_values (way_of e)) no_flags) (over image p n t cr2 cause body)
      (raise.context Fred image p n t cr2 cause body)
  loads = record {
    key = cause_key cause;
    small = key_small cause ready.is_cause;
    place = found.place;
    found = ready.found;
    begins = refl;
    unknown = refl;
    off = refl;
    saved = record {
      regs = found.regs;
      rip = found.rip;
      cs = found.cs;
      flags = found.flags;
      ss = found.ss;
      sti = found.sti;
      gs = found.gs;
      chosen = found.chosen;
      level = found.level;
    };
    locals = found.locals;
    quiet = refl;
  }

  pub begins_fred : Begins Fred image p n t cr2 cause body m
  begins_fred = record {
    cpu = fred_handler c e at;
    words = fred_words at m.words;
    frame = Some (frame_at at);
    event = e;
    runs = λ a nmi. arrives cause (raise.raiser Fred image p n t cr2 cause body) (fred_handler c e at) a m nmi (fred_words at m.words) (frame_at at) refl
        begun.went;
    blocking = does.blocking;
    active = λ f. record {
      stands = record {
        spot = InFred (FromUser (way_of e));
        k = 0;
        extra = place image p n t cr2 cause body;
        var = fred_variables c e;
        flags = no_flags;
        ss = 0x18;
        ss_is = refl;
        masked = refl;
        within = omega arith;
        enough = few_edges (way_of e);
        at = begun.at;
        long = length-set t.regs 4 (frame_at at) ∙ ready.long;
      };
      switches = refl;
      fills = refl;
      knows = knows_nothing Fred (kind_at cause) f (over_one cause ready.is_cause) false;
      means = means_by Fred image (kind_at cause) (over_one cause ready.is_cause) (InFred (FromUser (way_of e))) at (over image p n t cr2 cause body)
          (raise.context Fred image p n t cr2 cause body) None (fred_words at m.words) (loads, refl);
    };
    changes = on_stack p n ready.running small (map (eval at) fred_frame) refl m.words;
    told = does.told;
    saved = ap (told_rip (is_refused true e)) saved_is ∙ does.saved;
    safe = λ s only k z is. frame_is_safe Fred s p n only image (four_tasks image ready.formed) small ready.running (frame_at at) 8 k z e
        (ap (λ y. frame_size y e) is) frame_low frame_high;
  }
