-- The delivery through the IDT of what a task raises but for system calls: the frame that it writes, and the activation that it begins.
use Rattle.std.proofs.Common.{◌≡◌, ◌≢◌, ℕ, ◌+◌, ◌-◌, ◌*◌, ◌%◌, ◌^◌, ◌<◌, ◌≤◌, Bool, true, false, ◌&&◌, List, length, map, Some, None, refl, sym, ap, ◌∙◌, arith, inl, inr, subst}
use Rattle.std.proofs.lemmas.Bool.{ne_eqb}
use Rattle.std.proofs.Math.Bool.{and-false}
use Rattle.std.specs.Prelude.{◌==◌, if◌then◌else◌}
use Rattle.std.proofs.lemmas.List.{length-set}
use Rattle.ev_isa.specs.Word.{NatMap, wrap}
use Rattle.ev_isa.specs.Flags.{Flags, flags_word, flags_of}
use Rattle.ev_isa.specs.declared.mode.Mode.TheVariants.{Idt}
use Rattle.ev_event.specs.declared.event.Event.{Event}
use Rattle.ev_event.specs.Event.{has_error_code}
use Rattle.ev_body.specs.declared.image.Image.{Image}
use Rattle.ev_effect.specs.Task.{Task}
use Rattle.ev_effect.specs.Frame.{placed}
use Rattle.ev_gate.specs.Gate.{gate_at}
use Rattle.ev_state.specs.Processor.{Processor, interrupts_on}
use Rattle.ev_state.specs.Outcome.{Went}
use Rattle.ev_mem.specs.Memory.{Memory}
use Rattle.ev_apic.specs.declared.apic.Apic.{Apic}
use Rattle.ev_fred.specs.FredDelivery.{fred_delivery}
use Rattle.ev_idt.specs.IdtDelivery.{idt_delivery}
use Rattle.ev_proc.specs.ProcessorStep.{has_fred, try}
use Rattle.ev_listing.specs.AddressMap.{pcpu, user_table, idt_base, vector_stub, stack_top, stack_bytes}
use Rattle.ev_concrete.specs.Opening.{gate}
use Rattle.ev_concrete.specs.ConcreteRun.{frame_size}
use Rattle.ev_concrete.specs.Shown.{is_refused, told_event, told_rip}
use Rattle.ev_built.specs.Built.{IsBuilt}
use Rattle.ev_symbolic.specs.Value.{M}
use Rattle.ev_symbolic.specs.Join.{env_after}
use Rattle.ev_symbolic.specs.Agrees.{Env, eval, untracked, Known, Agrees, with_words}
use Rattle.ev_symbolic.proofs.Blocks.{at_end}
use Rattle.ev_symbolic.proofs.Placed.{next_place, placed_other}
use Rattle.ev_blocks.specs.Shapes.{UserCode, from_top}
use Rattle.ev_blocks.specs.Idt.{Stub, idt_block, pushed, pushed_bytes, stub_values, common_values}
use Rattle.ev_blocks.specs.Blocks.{InIdt, edges}
use Rattle.ev_deliver.specs.IdtDelivers.{idt_variables, frame_at, idt_handler, idt_words, StubSite, StubBegins}
use Rattle.ev_deliver.proofs.FredDelivers.{listed_is}
use Rattle.ev_deliver.proofs.IdtDelivers.{idt_delivers, idt_refuses}
use Rattle.ev_deliver.proofs.Tops.{idt_from_task}
use Rattle.ev_activation.specs.Seat.{Seat, top_at}
use Rattle.ev_table.specs.Table.{code_table}
use Rattle.ev_tables.proofs.Stand.{gates_stand}
use Rattle.ev_user.specs.Causes.{Fault, Undefined, Protection, Page, Cause, Faulted, Debug, Breakpoint, Three, Refused, Call, Arrived, IsCause, own_event, raised_event, raising}
use Rattle.ev_user.specs.Deliveries.{Passes, saving}
use Rattle.ev_user.proofs.Deliver.{interrupts_have_none, events_are_own, events_pass, arrives_at_once, refusal_arrives}
use Rattle.ev_relation.specs.Active.{here, rest_in, AtLoad}
use Rattle.ev_relation.specs.Relation.{InTables}
use Rattle.ev_relation.specs.Named.{Outside, Changes}
use Rattle.ev_relation.proofs.CallKinds.{knows_nothing, means_by}
use Rattle.ev_relation.proofs.Fits.{fits_at, opens_at}
use Rattle.ev_relation.proofs.After.{kernel_names}
use Rattle.ev_relation.proofs.Domains.{four_tasks}
use Rattle.ev_task_steps.proofs.UserSafe.{frame_is_safe}
use Rattle.ev_task_steps.proofs.Raising as raise
use Rattle.ev_task_steps.proofs.Raising.{cause_key, kind_at, saved_at, returning, arrival, entry_edges, key_small, arrived_kind, over_one, Finds, Ready, Begins}

-- the frame lies on the task's stack, at its top
on_stack : (p n bytes : ℕ) → n < 4 → p < 32 → (vs : List ℕ) → 8 * length vs ≡ bytes → bytes ≤ 0x30 → (words : NatMap ℕ)
    → Changes p (record { stack = n; used = 0 }) (kernel_names p) words (placed words ((top_at p (record { stack = n; used = 0 }) + (M - bytes)) % M) vs)
on_stack p n bytes hn hp vs hl hb words x off d = from ((top_at p (record { stack = n; used = 0 }) + (M - bytes)) % M) refl off
  where
    from : (a : ℕ) → a ≡ (top_at p (record { stack = n; used = 0 }) + (M - bytes)) % M
        → Outside (stack_top p n - stack_bytes) (top_at p (record { stack = n; used = 0 })) x → placed words a vs x ≡ words x
    from a ha (inl h) = placed_other vs words a x (omega arith) (inl (omega arith))
    from a ha (inr h) = placed_other vs words a x (omega arith) (inr (omega arith))

module _ (image : Image) (p n : ℕ) (t : Task) (cr2 : ℕ) (cause : Cause) (body : ℕ) where
  abbrev e : Event
  e = raised_event cause

  abbrev has : Bool
  has = has_error_code (raised_event cause).vector

  -- the task's processor with the RIP that the frame has
  abbrev from : Processor
  from = record (raise.raiser Idt image p n t cr2 cause body) { rip = saved_at t cause }

  abbrev over : Processor
  over = raise.over Idt image p n t cr2 cause body

  abbrev seat : Seat
  seat = raise.seat Idt image p n t cr2 cause body

  -- the vector's entry, and the body's first item
  abbrev place : ℕ → ℕ
  place k = if k == 23 then vector_stub (raised_event cause).vector else raise.first_place Idt image p n t cr2 cause body k

  -- IF is off in the handler
  abbrev off_flags : Flags
  off_flags = record (flags_of (flags_word t.flags)) { interrupts = interrupts_on (raise.raiser Idt image p n t cr2 cause body) && false }

  abbrev env : Env
  env = here Idt p (kind_at cause) seat 0 over place (idt_variables from (raised_event cause)) off_flags

-- ---- what each event comes to

module _ (image : Image) (p n : ℕ) (t : Task) (cr2 body : ℕ) where
  -- the values of the block behind the code in common
  abbrev behind : Cause → ℕ → ℕ
  behind cause =
      (env_after (env_after (env image p n t cr2 cause body) (stub_values (has_error_code (raised_event cause).vector) (raised_event cause).vector)
      (off_flags image p n t cr2 cause body)) (common_values UserCode ((raised_event cause).vector == 14)) (off_flags image p n t cr2 cause body)).var

  record Comes (cause : Cause) : Type 0 where
    rest : (env image p n t cr2 cause body).rest
        ≡ untracked (idt_handler (from image p n t cr2 cause body) (raised_event cause)
        (frame_at (env image p n t cr2 cause body) (has_error_code (raised_event cause).vector)))
    blocking : (idt_handler (from image p n t cr2 cause body) (raised_event cause)
        (frame_at (env image p n t cr2 cause body) (has_error_code (raised_event cause).vector))).nmi_blocked ≡ false
    told : told_event (is_refused false (raised_event cause)) (raised_event cause) ≡ raised_event cause
    saved : (rip : ℕ) → told_rip (is_refused false (raised_event cause)) rip ≡ rip
    other : (raised_event cause).vector ≢ 8
    finds : length t.regs ≡ 16 → Finds Idt p n t body cause (behind cause)

  -- an interrupt has no error code, and is no page fault
  place_is : (k : ℕ) → k < 2 ^ 8 → ((k * 2 ^ 3) % 2 ^ 64 + user_table) % 2 ^ 64 ≡ user_table + 8 * k
  place_is k l = omega arith

  arrived_finds : (v : ℕ) → IsCause (Arrived v) → length t.regs ≡ 16 → Finds Idt p n t body (Arrived v) (behind (Arrived v))
  unfolding eval
  arrived_finds v is l =
      let E : Env = env image p n t cr2 (Arrived v) body in
      let off : Flags = off_flags image p n t cr2 (Arrived v) body in
      let low = is.0 in
      subst (λ e. Finds Idt p n t body (Arrived v) (env_after (env_after E (stub_values e v) off) (common_values UserCode (v == 14)) off).var)
      (sym (interrupts_have_none v is.0))
      (subst (λ q. Finds Idt p n t body (Arrived v) (env_after (env_after E (stub_values false v) off) (common_values UserCode q) off).var)
      (sym (ne_eqb v 14 (λ e. let z : ⊥ = omega arith in z))) (record {
        place = place_is v is.1;
        regs = listed_is t.regs l;
        rip = refl;
        cs = refl;
        flags = refl;
        ss = refl;
        sti = refl;
        gs = refl;
        chosen = refl;
        level = refl;
        locals = refl;
      }))

  comes : (cause : Cause) → cause ≢ Call → IsCause cause → Comes cause
  unfolding eval
  comes (Faulted Undefined) h is = record {
    rest = refl;
    blocking = refl;
    told = refl;
    saved = λ rip. refl;
    other = λ q. let z : ⊥ = omega arith in z;
    finds = λ l. record {
      place = refl;
      regs = listed_is t.regs l;
      rip = refl;
      cs = refl;
      flags = refl;
      ss = refl;
      sti = refl;
      gs = refl;
      chosen = refl;
      level = refl;
      locals =
          refl;
    };
  }
  comes (Faulted Fault.Stack) h is = record {
    rest = refl;
    blocking = refl;
    told = refl;
    saved = λ rip. refl;
    other = λ q. let z : ⊥ = omega arith in z;
    finds = λ l. record {
      place = refl;
      regs = listed_is t.regs l;
      rip = refl;
      cs = refl;
      flags = refl;
      ss = refl;
      sti = refl;
      gs = refl;
      chosen = refl;
      level = refl;
      locals =
          refl;
    };
  }
  comes (Faulted Protection) h is = record {
    rest = refl;
    blocking = refl;
    told = refl;
    saved = λ rip. refl;
    other = λ q. let z : ⊥ = omega arith in z;
    finds = λ l. record {
      place = refl;
      regs = listed_is t.regs l;
      rip = refl;
      cs = refl;
      flags = refl;
      ss = refl;
      sti = refl;
      gs = refl;
      chosen = refl;
      level = refl;
      locals =
          refl;
    };
  }
  comes (Faulted (Page code address)) h is = record {
    rest = refl;
    blocking = refl;
    told = refl;
    saved = λ rip. refl;
    other = λ q. let z : ⊥ = omega arith in z;
    finds = λ l. record {
      place = refl;
      regs = listed_is t.regs l;
      rip = refl;
      cs = refl;
      flags = refl;
      ss = refl;
      sti = refl;
      gs = refl;
      chosen = refl;
      level = refl;
      locals =
          refl;
    };
  }
  comes (Faulted Fault.Alignment) h is = record {
    rest = refl;
    blocking = refl;
    told = refl;
    saved = λ rip. refl;
    other = λ q. let z : ⊥ = omega arith in z;
    finds = λ l. record {
      place = refl;
      regs = listed_is t.regs l;
      rip = refl;
      cs = refl;
      flags = refl;
      ss = refl;
      sti = refl;
      gs = refl;
      chosen = refl;
      level = refl;
      locals =
          refl;
    };
  }
  comes Debug h is = record {
    rest = refl;
    blocking = refl;
    told = refl;
    saved = λ rip. refl;
    other = λ q. let z : ⊥ = omega arith in z;
    finds = λ l. record {
      place = refl;
      regs = listed_is t.regs l;
      rip = refl;
      cs = refl;
      flags = refl;
      ss = refl;
      sti = refl;
      gs = refl;
      chosen = refl;
      level = refl;
      locals =
          refl;
    };
  }
  comes Breakpoint h is = record {
    rest = refl;
    blocking = refl;
    told = refl;
    saved = λ rip. refl;
    other = λ q. let z : ⊥ = omega arith in z;
    finds = λ l. record {
      place = refl;
      regs = listed_is t.regs l;
      rip = refl;
      cs = refl;
      flags = refl;
      ss = refl;
      sti = refl;
      gs = refl;
      chosen = refl;
      level = refl;
      locals =
          refl;
    };
  }
  comes Three h is = record {
    rest = refl;
    blocking = refl;
    told = refl;
    saved = λ rip. refl;
    other = λ q. let z : ⊥ = omega arith in z;
    finds = λ l. record {
      place = refl;
      regs = listed_is t.regs l;
      rip = refl;
      cs = refl;
      flags = refl;
      ss = refl;
      sti = refl;
      gs = refl;
      chosen = refl;
      level = refl;
      locals =
          refl;
    };
  }
  comes (Refused k) h is = record {
    rest = refl;
    blocking = refl;
    told = refl;
    saved = λ rip. refl;
    other = λ q. let z : ⊥ = omega arith in z;
    finds = λ l. record {
      place = refl;
      regs = listed_is t.regs l;
      rip = refl;
      cs = refl;
      flags = refl;
      ss = refl;
      sti = refl;
      gs = refl;
      chosen = refl;
      level = refl;
      locals =
          refl;
    };
  }
  comes Call h is = absurd (h refl)
  comes (Arrived v) h is = record {
    rest = ap (λ κ. rest_in Idt κ 0 (over image p n t cr2 (Arrived v) body)) (arrived_kind v is);
    blocking = refl;
    told = refl;
    saved = λ rip. refl;
    other = λ q. let l = is.0 in let z : ⊥ = omega arith in z;
    finds = λ l. arrived_finds v is l;
  }

-- ---- the delivery

-- the step is the event's arrival
arrives : (cause : Cause) → cause ≢ Call → IsCause cause → (c d : Processor) (a : Apic) (m : Memory) (nmi : Bool) (words : NatMap ℕ) (frame : ℕ)
    → has_fred c ≡ false → gate_at m.words c.idt (own_event cause).vector ≡ gate (own_event cause).vector → c.cpl ≡ 3
    → try (record c { rip = c.rip + (raised_event cause).length }) m (raised_event cause) false ≡ Went d words frame
    → raising c a m nmi cause ≡ arrival d words (raised_event cause) (Some frame) a nmi
arrives Call o i c d a m nmi words frame f g u h = absurd (o refl)
arrives (Faulted x) o i c d a m nmi words frame f g u h = arrives_at_once c d a m nmi words frame (Faulted x) o h
arrives (Arrived v) o i c d a m nmi words frame f g u h = arrives_at_once c d a m nmi words frame (Arrived v) o h
arrives Debug o i c d a m nmi words frame f g u h = arrives_at_once c d a m nmi words frame Debug o h
arrives Breakpoint o i c d a m nmi words frame f g u h = arrives_at_once c d a m nmi words frame Breakpoint o h
arrives Three o i c d a m nmi words frame f g u h = arrives_at_once c d a m nmi words frame Three o h
arrives (Refused k) o i c d a m nmi words frame f g u h =
    let e : Event = own_event (Refused k) in
    let s : Processor = saving c (Refused k) in
    refusal_arrives c d a m nmi words frame k
    (ap (λ b. if b then fred_delivery s m e false else idt_delivery s m e) f ∙ idt_refuses s m e g refl (ap (λ l. l == 3) u) i.1)
    (ap (λ b. if b then fred_delivery c m (raised_event (Refused k)) true else idt_delivery c m (raised_event (Refused k))) f
    ∙ sym (ap (λ b. if b then fred_delivery c m (raised_event (Refused k)) false else idt_delivery c m (raised_event (Refused k))) f)
    ∙ ap (λ r. try (record c { rip = r }) m (raised_event (Refused k)) false) (let q : c.rip ≡ c.rip + 0 = omega arith in q) ∙ h)

module _ (image : Image) (built : IsBuilt image) (p n : ℕ) (t : Task) (cr2 : ℕ) (cause : Cause) (body : ℕ) (m : Memory)
    (ready : Ready Idt image p n t cr2 cause body m) (event : cause ≢ Call) where
  abbrev at : Env
  at = env image p n t cr2 cause body

  abbrev c : Processor
  c = from image p n t cr2 cause body

  abbrev v : ℕ
  v = (raised_event cause).vector

  abbrev with_error : Bool
  with_error = has_error_code (raised_event cause).vector

  abbrev frame : ℕ
  frame = frame_at at with_error

  abbrev d : Processor
  d = idt_handler c (raised_event cause) frame

  abbrev words : NatMap ℕ
  words = idt_words at with_error m.words

  small : p < 32
  small = let a = ready.within in let b = ready.few in omega arith

  does : Comes image p n t cr2 body cause
  does = comes image p n t cr2 body cause event ready.is_cause

  found : Finds Idt p n t body cause (behind image p n t cr2 body cause)
  found = does.finds ready.long

  passes : Passes c (raised_event cause)
  passes = events_pass c cause ready.is_cause

  vector_small : v < 2 ^ 8
  vector_small = (events_are_own cause ready.is_cause).1.small

  gates : (k : ℕ) → k < 256 → gate_at m.words idt_base k ≡ gate k
  gates k l = gates_stand Idt image m.words ready.formed (λ a al lo hi. ready.fixed a (InTables (omega arith) hi)) k l

  site : StubSite c m (raised_event cause) at
  site = record {
    site = record {
      gate_is = gates v vector_small;
      passes = passes.passes;
      small = vector_small;
      error = passes.error;
      long = ready.long;
      levels = refl;
      top = idt_from_task c m.words v (stack_top p n) refl passes.other does.other
          (ap m.words (let q : pcpu p + 0x404 + 4 ≡ pcpu p + 0x408 = omega arith in q) ∙ ready.tss)
          (let r = ready.running in omega arith) ∙ (let q : stack_top p n ≡ top_at p (seat image p n t cr2 cause body) = omega arith in q);
    };
    other = passes.other;
    area = refl;
    area_small = let s = small in omega arith;
    stub = refl;
    var = refl;
  }

  begun : StubBegins (code_table Idt image) c m (raised_event cause) at
  begun = idt_delivers (code_table Idt image) c m (raised_event cause) at site does.rest refl
      (fits_at Idt image p (seat image p n t cr2 cause body) (raise.in_seat Idt image p n t cr2 cause body ready.running) ready.within ready.few
      (kind_at cause)
      0 (over image p n t cr2 cause body) (place image p n t cr2 cause body)
      (idt_variables c (raised_event cause)) (off_flags image p n t cr2 cause body) ready.facts (InIdt (Stub UserCode with_error v)) refl refl
      (raise.in_bodies Idt image p n t cr2 cause body m ready) (vector_small, refl, refl) tt)
      (opens_at Idt image p (seat image p n t cr2 cause body) (raise.in_seat Idt image p n t cr2 cause body ready.running) ready.within ready.few
      (kind_at cause)
      0 (over image p n t cr2 cause body) (place image p n t cr2 cause body)
      (idt_variables c (raised_event cause)) (off_flags image p n t cr2 cause body) (InIdt (Stub UserCode with_error v)) refl m ready.regions_are)

  agrees : Agrees at (idt_block (Stub UserCode with_error v)).ground (idt_block (Stub UserCode with_error v)).opening d (with_words m words)
  agrees = at_end (code_table Idt image) (idt_block (Stub UserCode with_error v)) 0 (idt_block (Stub UserCode with_error v)).opening refl at _ _ begun.at

  -- the frame has the RIP that was saved, behind the error code where there is one
  saved_by_error : (b : Bool) → Known at (idt_block (Stub UserCode with_error v)).ground.known words (from_top (pushed_bytes b) (pushed b))
      → words (if b then wrap (frame_at at b + 8) else frame_at at b) ≡ saved_at t cause
  unfolding eval
  saved_by_error true k = ap words (next_place (top_at p (seat image p n t cr2 cause body)) (M - 0x30)) ∙ k.2.1
  saved_by_error false k = k.1

  -- the frame ends at the top
  abbrev words_of : Bool → ℕ
  words_of b = if b then 6 else 5

  frame_low : (b : Bool) → stack_top p n ≤ frame_at at b + stack_bytes
  unfolding eval
  frame_low true = let s = small in let r = ready.running in omega arith
  frame_low false = let s = small in let r = ready.running in omega arith

  frame_high : (b : Bool) → frame_at at b + 8 * words_of b ≤ stack_top p n
  unfolding eval
  frame_high true = let s = small in let r = ready.running in omega arith
  frame_high false = let s = small in let r = ready.running in omega arith

  loads : AtLoad Idt image UserCode (env_after (env_after at (stub_values (has_error_code (raised_event cause).vector) (raised_event cause).vector)
      (off_flags image p n t cr2 cause body)) (common_values UserCode ((raised_event cause).vector == 14)) (off_flags image p n t cr2 cause body))
      (over image p n t cr2 cause body) (raise.context Idt image p n t cr2 cause body)
  loads = record {
    key = cause_key cause;
    small = key_small cause ready.is_cause;
    place = found.place;
    found = ready.found;
    begins = refl;
    unknown = refl;
    off = refl;
    saved = record {
      regs = found.regs;
      rip = found.rip;
      cs = found.cs;
      flags = found.flags;
      ss = found.ss;
      sti = found.sti;
      gs = found.gs;
      chosen = found.chosen;
      level = found.level;
    };
    locals = found.locals;
    quiet = refl;
  }

  frame_changes : (b : Bool) → Changes p (seat image p n t cr2 cause body) (kernel_names p) m.words (idt_words at b m.words)
  frame_changes true = on_stack p n 0x30 ready.running small (map (eval at) (pushed true)) refl (omega arith) m.words
  frame_changes false = on_stack p n 0x28 ready.running small (map (eval at) (pushed false)) refl (omega arith) m.words

  few_edges : (b : Bool) → edges Idt (InIdt (Stub UserCode b v)) 0 ≤ entry_edges
  few_edges true = omega arith
  few_edges false = omega arith

  pub begins_idt : Begins Idt image p n t cr2 cause body m
  begins_idt = record {
    cpu = d;
    words = words;
    frame = Some frame;
    event = raised_event cause;
    runs = λ a nmi. arrives cause event ready.is_cause (raise.raiser Idt image p n t cr2 cause body) d a m nmi words frame refl
        (gates (own_event cause).vector (events_are_own cause ready.is_cause).0.small) refl begun.went;
    blocking = does.blocking;
    active = λ f. record {
      stands = record {
        spot = InIdt (Stub UserCode with_error v);
        k = 0;
        extra = place image p n t cr2 cause body;
        var = idt_variables c (raised_event cause);
        flags = off_flags image p n t cr2 cause body;
        ss = 0;
        ss_is = inl refl;
        masked = and-false (interrupts_on c);
        within = omega arith;
        enough = few_edges with_error;
        at = begun.at;
        long = length-set t.regs 4 frame ∙ ready.long;
      };
      switches = refl;
      fills = refl;
      knows = knows_nothing Idt (kind_at cause) f (over_one cause ready.is_cause) false;
      means = means_by Idt image (kind_at cause) (over_one cause ready.is_cause) (InIdt (Stub UserCode with_error v)) at (over image p n t cr2 cause body)
          (raise.context Idt image p n t cr2 cause body) None words ((vector_small, refl, refl), loads, refl);
    };
    changes = frame_changes with_error;
    told = does.told;
    saved = does.saved _ ∙ ap (λ b. words (if b then wrap (frame + 8) else frame)) passes.error ∙ saved_by_error with_error agrees.words;
    safe = λ s only k z is. frame_is_safe Idt s p n only image (four_tasks image ready.formed) small ready.running frame (words_of with_error) k z
        (raised_event cause) (ap (λ y. frame_size y (raised_event cause)) is ∙ ap words_of passes.error) (frame_low with_error) (frame_high with_error);
  }
