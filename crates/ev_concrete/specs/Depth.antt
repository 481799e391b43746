-- How many bodies stand on a processor, told from its activations; and what a step makes of that number, told from the step alone. Own.
use Rattle.std.specs.Prelude.{ℕ, suc, ◌-◌, Bool, true, false, not, ◌&&◌, nat_lt, nat_le, if◌then◌else◌, length, filter, Option, Some}
use Rattle.ev_isa.specs.declared.instruction.Ins.{Ins}
use Rattle.ev_isa.specs.declared.instruction.Ins.TheVariants.{Jmp}
use Rattle.ev_state.specs.Processor.{Processor, is_user}
use Rattle.ev_listing.specs.AddressMap.{nmi_entry, repeat_entry, nbody_entry}
use Rattle.ev_proc.specs.ProcessorStep.{After, next_of, step, instruction_at}
use Rattle.ev_proc.specs.declared.stepped.Stepped.{Stepped}
use Rattle.ev_concrete.specs.ConcreteRun.{System, Activation, interrupted, is_return, starts_inner}

-- whether an address lies in REPEAT, where an NMI's activation goes on between the end of one body and the next
abbrev pub is_in_repeat : ℕ → Bool
is_in_repeat a = nat_le repeat_entry a && nat_lt a nbody_entry

-- whether a body stands for an activation: none does for that of an inner NMI, and none while the NMI code goes through REPEAT
abbrev pub has_body : Activation → Bool
has_body a = not a.inner && not (is_in_repeat a.rip)

-- So many bodies stand on p. Where user code runs there is no activation, and so no body, whatever its RIP is.
abbrev pub bodies_on : System → ℕ → ℕ
bodies_on s p = length (filter has_body (interrupted (s.cpus p) (s.activations p)))

-- ---- after a step

-- Whether an instruction that c runs ends a body: a return of the kernel does, but for that of an inner NMI, whose code stands before REPEAT.
abbrev pub ends_body : Processor → Option Ins → Bool
ends_body c i = is_return i && not (is_user c) && not (nat_le nmi_entry c.rip && nat_lt c.rip repeat_entry)

-- whether it begins one: the jump of REPEAT to the body of an NMI that was held
unfoldable pub is_jump : Option Ins → Bool
is_jump (Some (Jmp n)) = true
is_jump _ = false

-- the same, told from the processor before the jump
abbrev pub begins_body : Processor → Option Ins → Bool
begins_body c i = is_jump i && not (is_user c) && is_in_repeat c.rip

-- how many stand behind a step where so many stood: a delivery begins one, but for that of an inner NMI
abbrev pub bodies_after : ℕ → (inner ends begins : Bool) → Stepped → ℕ
bodies_after n inner ends begins (Stepped.Delivered e frame) = if inner then n else suc n
bodies_after n inner ends begins Stepped.Ran = if ends then n - 1 else (if begins then suc n else n)
bodies_after n inner ends begins Stepped.Shutdown = n
bodies_after n inner ends begins (Stepped.Sent m) = n

-- behind the next step of p
unfoldable pub told_bodies : System → ℕ → ℕ
told_bodies s p =
    let c : Processor = s.cpus p in
    let i : Option Ins = instruction_at s.memory.words c.rip in
    let r : After = step c (s.apics p) s.memory (s.latches p) in
    bodies_after (bodies_on s p) (starts_inner s p (next_of c (s.apics p) (s.latches p))) (ends_body c i) (begins_body c i) r.step
