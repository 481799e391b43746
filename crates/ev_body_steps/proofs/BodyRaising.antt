-- The delivery of an event to a body that runs: what it owes for the activation that it begins, in either mode.
use Rattle.std.proofs.Common.{◌≡◌, ◌≢◌, ℕ, suc, ◌+◌, ◌*◌, ◌/◌, ◌%◌, ◌^◌, ◌<◌, ◌≤◌, true, false, ◌&&◌, [], length, Some, refl, sym, ap, subst, arith, None}
use Rattle.std.specs.Prelude.{◌==◌, if◌then◌else◌, slice_get}
use Rattle.ev_isa.specs.Word.{NatMap, is_canonical}
use Rattle.ev_isa.specs.Flags.{modelled}
use Rattle.ev_isa.specs.declared.mode.Mode.{Mode}
use Rattle.ev_event.specs.declared.event.Event.{Event}
use Rattle.ev_event.specs.declared.event.EventType.TheVariants.{Int3}
use Rattle.ev_event.specs.Event.{pf, software, interrupt_event, has_error_code, is_hardware, is_nmi_type}
use Rattle.ev_body.specs.declared.key.Side.TheVariants.{Kernel}
use Rattle.ev_body.specs.declared.body.Body.{Body}
use Rattle.ev_body.specs.declared.image.Image.{Image}
use Rattle.ev_body.specs.Bodies.{first_body}
use Rattle.ev_body.specs.WellFormed.{IsImage}
use Rattle.ev_state.specs.Msr.{Msrs}
use Rattle.ev_state.specs.Outcome.{Went}
use Rattle.ev_state.specs.Processor.{Processor, is_user, rsp}
use Rattle.ev_mem.specs.Memory.{Memory}
use Rattle.ev_fred.specs.FredDelivery.{event_level}
use Rattle.ev_proc.specs.ProcessorStep.{has_fred, try}
use Rattle.ev_listing.specs.AddressMap.{pcpu, idt_base}
use Rattle.ev_abstract.specs.Context.{BodyContext}
use Rattle.ev_abstract.specs.Delivery.{event_key, body_at_start}
use Rattle.ev_concrete.specs.Opening.{regions}
use Rattle.ev_concrete.specs.ConcreteRun.{frame_size}
use Rattle.ev_concrete.specs.LiveWords.{area_bytes}
use Rattle.ev_concrete.specs.Shown.{key_of, is_soft}
use Rattle.ev_symbolic.specs.Agrees.{with_words}
use Rattle.ev_activation.specs.Seat.{FromBody, Seat, top_at}
use Rattle.ev_deliver.specs.FredDelivers.{cr2_after}
use Rattle.ev_relation.specs.Active.{address_of_item, item_place, IsKernelSs, Active}
use Rattle.ev_relation.specs.Nmi.{Frame}
use Rattle.ev_relation.specs.Named.{Changes}
use Rattle.ev_relation.specs.Relation.{body_edges}
use Rattle.ev_relation.proofs.CallKinds.{seat_under}
use Rattle.ev_relation.proofs.Facts.{HasFixed, Facts}
use Rattle.ev_relation.proofs.Fits.{IsSeat}
use Rattle.ev_relation.proofs.ModeFacts.{is_fred}
use Rattle.ev_relation.proofs.Stays.{seat_under_fits}
use Rattle.std.proofs.lemmas.Bool.{ne_eqb}
use Rattle.ev_user.proofs.Deliver.{interrupts_have_none}
use Rattle.ev_relation.proofs.UserBody.{key_from, interrupt_key}

-- ---- events that a body can meet: no NMI, no double fault, no INT n and no SYSCALL, at stack level 0

pub record IsBodyEvent (e : Event) : Type 0 where
  pub small : e.vector < 2 ^ 8
  pub other : (e.vector ≢ 2) × (e.vector ≢ 8)
  pub error : (is_hardware e.kind && has_error_code e.vector) ≡ has_error_code e.vector
  pub no_error : has_error_code e.vector ≡ false → e.error ≡ 0
  pub level : (m : Msrs) → m.config ≡ 0xffffffff81000040 → m.stklvls ≡ 0x30020 → event_level m e.kind e.vector ≡ 0
  pub plain : is_nmi_type e.kind ≡ false
  pub soft : is_soft e.kind ≡ false
  pub key : event_key e.kind e.vector ≡ e.vector
  pub name : key_from (event_key e.kind e.vector) ≡ key_of e.kind e.vector
  pub told : (a : ℕ) → (if e.vector == 14 then cr2_after e a else 0) ≡ e.info

-- a page fault
pub fault_event : (code address : ℕ) → IsBodyEvent (pf code address)
unfolding key_of
fault_event code address = record {
  small = omega arith;
  other = (λ h. let z : ⊥ = omega arith in z, λ h. let z : ⊥ = omega arith in z);
  error = refl;
  no_error = λ h. let clash : true ≡ false = h in absurd (cc);
  level = λ m c l. ap (λ n. n / 4 ^ 14 % 4) l;
  plain = refl;
  soft = refl;
  key = refl;
  name = refl;
  told = λ a. refl;
}

-- INT 3
pub break_event : IsBodyEvent (software Int3 3 1)
unfolding key_of
break_event = record {
  small = omega arith;
  other = (λ h. let z : ⊥ = omega arith in z, λ h. let z : ⊥ = omega arith in z);
  error = refl;
  no_error = λ h. refl;
  level = λ m c l. ap (λ n. n / 4 ^ 3 % 4) l;
  plain = refl;
  soft = refl;
  key = refl;
  name = refl;
  told = λ a. refl;
}

-- an interrupt
pub interrupt_is : (v : ℕ) → 32 ≤ v → v < 256 → IsBodyEvent (interrupt_event v)
unfolding key_of
interrupt_is v low high = record {
  small = high;
  other = (λ h. let z : ⊥ = omega arith in z, λ h. let z : ⊥ = omega arith in z);
  error = sym (interrupts_have_none v low);
  no_error = λ h. refl;
  level = λ m c l. ap (λ n. n / 2 ^ 9 % 4) c;
  plain = refl;
  soft = refl;
  key = refl;
  name = interrupt_key v low high;
  told = λ a. ap (λ t. if t then cr2_after (interrupt_event v) a else 0) (ne_eqb v 14 (λ e. let z : ⊥ = omega arith in z));
}

-- ---- the processor of a body at an instruction of an item, with the RIP that is saved

-- it stands in the n-th seat on stack r of processor p
pub record AtItem (mode : Mode) (p r n : ℕ) (c : Processor) : Type 0 where
  pub kernel : is_user c ≡ false
  pub ring : (c.cpl ≡ 0) × (c.cs ≡ 0x10)
  pub ss : IsKernelSs mode c.ss
  pub level : c.level ≡ 0
  pub flags : modelled c.flags ≡ c.flags
  pub unblocked : c.sti_blocked ≡ false
  pub open_to : c.nmi_blocked ≡ false
  pub base : c.msrs.gs_base ≡ pcpu p
  pub levels : length c.msrs.rsp ≡ 4
  pub config : c.msrs.config ≡ 0xffffffff81000040
  pub stack_levels : c.msrs.stklvls ≡ 0x30020
  pub fred : has_fred c ≡ is_fred mode
  pub idt : c.idt ≡ idt_base
  pub long : length c.regs ≡ 16
  pub at_top : rsp c + area_bytes mode ≡ top_at p (seat_under mode r n)

module _ (mode : Mode) (image : Image) (p r n : ℕ) (c : Processor) (e : Event) (body : ℕ) where
  -- the body's context, and its activation's seat below the one that it interrupts
  abbrev pub context : BodyContext
  context = body_at_start body Kernel e

  abbrev pub seat : Seat
  seat = seat_under mode r (suc n)

  pub record Ready (m : Memory) : Type 0 where
    pub within : p < image.processors
    pub few : image.processors ≤ 8
    pub formed : IsImage image
    pub facts : Facts mode image
    pub event : IsBodyEvent e
    pub at : AtItem mode p r n c
    pub canonical : is_canonical c.rip ≡ true
    pub stack : r < 7
    pub deep : suc n < 32
    pub regions_are : m.regions ≡ regions image
    pub fixed : HasFixed mode image m
    pub found : first_body 0 image.bodies (event_key e.kind e.vector) Kernel ≡ Some body
    pub stands : Body
    pub is : slice_get image.bodies body ≡ Some stands

  -- What it comes to: an activation at its entry over c, with no word changed but those of a frame below the top of its seat.
  pub record Begins (m : Memory) : Type 0 where
    pub cpu : Processor
    pub words : NatMap ℕ
    pub frame : ℕ
    pub went : try c m e false ≡ Went cpu words frame
    pub blocking : cpu.nmi_blocked ≡ false
    pub active : (f : Frame) → Active mode image p (body_edges mode image) FromBody seat f false None c context cpu (with_words m words)
    pub changes : Changes p seat [] m.words words
    pub frame_is : frame + 8 * frame_size c e ≡ top_at p seat

  -- the place of the body's first item, as base 20
  abbrev pub first_place : ℕ → ℕ
  first_place k = item_place mode image body 0

  pub in_bodies : (m : Memory) → Ready m → (0xffffffff82000000 ≤ item_place mode image body 0) × (item_place mode image body 0 + 0x100 ≤ 2 ^ 64)
  in_bodies m ready = subst (λ a. (0xffffffff82000000 ≤ a) × (a + 0x100 ≤ 2 ^ 64)) (sym (ap (address_of_item mode body 0) ready.is))
      (ready.facts.item_range body 0 ready.stands ready.is)

  pub in_seat : (m : Memory) → Ready m → IsSeat seat
  in_seat m ready = seat_under_fits mode r (suc n) ready.stack ready.deep
