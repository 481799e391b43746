-- The delivery of a system call under IDT: SYSCALL writes no word, and leaves RIP and the flags in RCX and R11; and the activation that it begins.
use Rattle.std.proofs.Common.{◌≡◌, ℕ, ◌+◌, ◌-◌, ◌<◌, Bool, true, false, not, ◌&&◌, List, get_or, set, length, None, refl, ap, ◌∙◌, arith, inr}
use Rattle.std.specs.Prelude.{bit_and}
use Rattle.std.proofs.lemmas.Bool.{not-true}
use Rattle.std.proofs.lemmas.List.{length-set}
use Rattle.ev_isa.specs.Word.{bit, bit_if}
use Rattle.ev_isa.specs.Flags.{Flags, flags_word, flags_of}
use Rattle.ev_isa.specs.declared.mode.Mode.TheVariants.{Idt}
use Rattle.ev_body.specs.declared.image.Image.{Image}
use Rattle.ev_effect.specs.Task.{Task}
use Rattle.ev_state.specs.Processor.{Processor}
use Rattle.ev_mem.specs.Memory.{Memory}
use Rattle.ev_apic.specs.declared.apic.Apic.{Apic}
use Rattle.ev_idt.specs.IdtDelivery.{syscall_idt}
use Rattle.ev_listing.specs.AddressMap.{stack_top}
use Rattle.ev_symbolic.specs.Agrees.{Env, eval, At}
use Rattle.ev_blocks.specs.Idt.{Sys, idt_block, sys_values}
use Rattle.ev_symbolic.specs.Join.{env_after}
use Rattle.ev_blocks.specs.Shapes.{UserCode}
use Rattle.ev_blocks.specs.Blocks.{InIdt}
use Rattle.ev_symbolic.proofs.Values.{and_left, and_right}
use Rattle.ev_deliver.specs.IdtDelivers.{call_variables, CallSite}
use Rattle.ev_deliver.proofs.FredDelivers.{listed_is}
use Rattle.ev_deliver.proofs.IdtDelivers.{call_delivers}
use Rattle.ev_activation.specs.Seat.{SystemCall, Seat, top_at}
use Rattle.ev_table.specs.Table.{code_table}
use Rattle.ev_user.specs.Causes.{Call, own_event, raising}
use Rattle.ev_relation.specs.Active.{here, AtLoad}
use Rattle.ev_relation.proofs.Fits.{fits_at, opens_at}
use Rattle.ev_task_steps.proofs.Raising as raise
use Rattle.ev_task_steps.proofs.Raising.{arrival, Ready, Begins}

-- FMASK takes IF and AC from the flags
abbrev masked_flags : Flags → Flags
masked_flags f = flags_of (flags_word f - bit_and (flags_word f) 0x40200)

-- IF is off in them: a test over each bit
abbrev every : (Bool → Bool) → Bool
every test = test true && test false

each : (test : Bool → Bool) → every test ≡ true → (b : Bool) → test b ≡ true
each test h true = and_left (test true) (test false) h
each test h false = and_right (test true) (test false) h

-- of these bits
abbrev word_of : (carry zero sign interrupts overflow alignment : Bool) → ℕ
word_of c z s i o a = 2 + bit_if 0 c + bit_if 6 z + bit_if 7 s + bit_if 9 i + bit_if 11 o + bit_if 18 a

abbrev is_off : (carry zero sign interrupts overflow alignment : Bool) → Bool
is_off c z s i o a = not (bit 9 (word_of c z s i o a - bit_and (word_of c z s i o a) 0x40200))

abbrev any_alignment : (carry zero sign interrupts overflow : Bool) → Bool
any_alignment c z s i o = every (is_off c z s i o)

abbrev any_overflow : (carry zero sign interrupts : Bool) → Bool
any_overflow c z s i = every (any_alignment c z s i)

abbrev any_interrupts : (carry zero sign : Bool) → Bool
any_interrupts c z s = every (any_overflow c z s)

abbrev any_sign : (carry zero : Bool) → Bool
any_sign c z = every (any_interrupts c z)

abbrev any_zero : Bool → Bool
any_zero c = every (any_sign c)

are_masked : (f : Flags) → (masked_flags f).interrupts ≡ false
unfolding flags_word flags_of
are_masked f =
    let s = f.status in
    let all : every any_zero ≡ true = refl in
    let carry = each any_zero all s.carry in
    let zero = each (any_sign s.carry) carry s.zero in
    let sign = each (any_interrupts s.carry s.zero) zero s.sign in
    let interrupts = each (any_overflow s.carry s.zero s.sign) sign f.interrupts in
    let overflow = each (any_alignment s.carry s.zero s.sign f.interrupts) interrupts s.overflow in
    not-true _ (each (is_off s.carry s.zero s.sign f.interrupts s.overflow) overflow f.alignment)

module _ (image : Image) (p n : ℕ) (t : Task) (cr2 body : ℕ) where
  -- the next instruction, and the task's processor there
  abbrev next : ℕ
  next = t.rip + 2

  abbrev caller : Processor
  caller = record (raise.raiser Idt image p n t cr2 Call body) { rip = next }

  abbrev over : Processor
  over = raise.over Idt image p n t cr2 Call body

  abbrev seat : Seat
  seat = raise.seat Idt image p n t cr2 Call body

  abbrev place : ℕ → ℕ
  place = raise.first_place Idt image p n t cr2 Call body

  abbrev env : Env
  env = here Idt p SystemCall seat 0x18 over place (call_variables caller) (masked_flags t.flags)

  -- the instruction delivers it
  runs : (a : Apic) (m : Memory) (nmi : Bool)
      → raising (raise.raiser Idt image p n t cr2 Call body) a m nmi Call ≡ arrival (syscall_idt caller) m.words (own_event Call) None a nmi
  runs a m nmi = refl

  module _ (m : Memory) (ready : Ready Idt image p n t cr2 Call body m) where
    small : p < 32
    small = let a = ready.within in let b = ready.few in omega arith

    site : CallSite caller m env
    site = record {
      entry = refl;
      long = ready.long;
      levels = refl;
      area = refl;
      area_small = let s = small in omega arith;
      top = ready.top_is ∙ (let e : stack_top p n ≡ top_at p seat = omega arith in e);
      top_small = let s = small in let r = ready.running in omega arith;
      var = refl;
    }

    at : At (code_table Idt image) (idt_block Sys) 0 env (syscall_idt caller) m
    unfolding syscall_idt
    at = call_delivers (code_table Idt image) caller m env site refl refl
        (fits_at Idt image p seat (raise.in_seat Idt image p n t cr2 Call body ready.running) ready.within ready.few SystemCall 0x18 over place
        (call_variables caller) (masked_flags t.flags) ready.facts (InIdt Sys) refl refl (raise.in_bodies Idt image p n t cr2 Call body m ready) tt tt)
        (opens_at Idt image p seat (raise.in_seat Idt image p n t cr2 Call body ready.running) ready.within ready.few SystemCall 0x18 over place
        (call_variables caller) (masked_flags t.flags) (InIdt Sys) refl m ready.regions_are)

    -- RCX and R11 as SYSCALL leaves them
    abbrev entered : List ℕ
    entered = set (set t.regs 1 next) 11 (flags_word t.flags)

    long : length entered ≡ 16
    long = length-set (set t.regs 1 next) 11 (flags_word t.flags) ∙ length-set t.regs 1 next ∙ ready.long

    rcx_is : get_or entered 1 0 ≡ next
    rcx_is = ap (λ xs. get_or (set (set xs 1 next) 11 (flags_word t.flags)) 1 0) (listed_is t.regs ready.long)

    r11_is : get_or entered 11 0 ≡ flags_word t.flags
    r11_is = ap (λ xs. get_or (set (set xs 1 next) 11 (flags_word t.flags)) 11 0) (listed_is t.regs ready.long)

    loads : AtLoad Idt image UserCode (env_after env sys_values env.flags) over (raise.context Idt image p n t cr2 Call body)
    unfolding eval
    loads = record {
      key = 0x100;
      small = omega arith;
      place = refl;
      found = ready.found;
      begins = refl;
      unknown = refl;
      off = refl;
      saved = record {
        regs = listed_is entered long;
        rip = rcx_is;
        cs = refl;
        flags = r11_is;
        ss = refl;
        sti = refl;
        gs = refl;
        chosen = refl;
        level = refl;
      };
      locals = refl;
      quiet = refl;
    }

    pub begins_call : Begins Idt image p n t cr2 Call body m
    unfolding syscall_idt
    begins_call = record {
      cpu = syscall_idt caller;
      words = m.words;
      frame = None;
      event = own_event Call;
      runs = λ a nmi. runs a m nmi;
      blocking = refl;
      active = λ f. record {
        stands = record {
          spot = InIdt Sys;
          k = 0;
          extra = place;
          var = call_variables caller;
          flags = masked_flags t.flags;
          ss = 0x18;
          ss_is = inr refl;
          masked = are_masked t.flags;
          within = omega arith;
          enough = omega arith;
          at = at;
          long = long;
        };
        switches = refl;
        fills = refl;
        knows = tt;
        means = (loads, refl);
      };
      changes = λ a off d. refl;
      told = refl;
      saved = rcx_is;
      safe = λ s only k z is. refl;
    }
