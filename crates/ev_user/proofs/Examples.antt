-- Odd steps of user code, computed: RIP at the text's end and behind it, in a page and in the kernel, bytes behind the text, and accesses that fault.
use Rattle.std.specs.Prelude.{◌≡◌, refl, ℕ, ◌==◌, pos, List, [], ◌∷◌, ◌++◌, replicate}
use Rattle.ev_isa.specs.Flags.{start_flags}
use Rattle.ev_isa.specs.Pages.{UserMemory, place_of, fault_at}
use Rattle.ev_isa.specs.Instruction.{user_may, is_instruction}
use Rattle.ev_isa.specs.Spelling.{spelling, four_bytes}
use Rattle.ev_isa.specs.Reading.{reading, forms, plain_forms, wide_forms, prefixed_forms, narrow_forms, signed_at, reg_at, rm_at, behind}
use Rattle.ev_isa.specs.declared.instruction.Ins.{Ins}
use Rattle.ev_isa.specs.declared.instruction.Ins.TheVariants.{Load, Store, Push, IntN, Swapgs}
use Rattle.ev_event.specs.declared.event.EventType.TheVariants.{Int3}
use Rattle.ev_event.specs.Event.{ud, gp, ss, pf, ac, software}
use Rattle.ev_effect.specs.Task.{Task}
use Rattle.ev_effect.specs.Effect.{effect, access_event}
use Rattle.ev_abstract.specs.UserCode.{UserStep, Goes, Raises, user_step, executed}

-- the definitions that the examples compute
unfoldable computing : Unit {0}
unfolding user_step executed user_may effect access_event place_of fault_at reading forms plain_forms wide_forms prefixed_forms narrow_forms signed_at reg_at
    rm_at behind spelling four_bytes is_instruction
computing = tt

-- user memory with this text, where page 3 alone is present, and a task with these RAX and RSP
abbrev memory : List ℕ → UserMemory
memory text = record { text = text; present = λ i. i == 3; words = λ a. 0 }

abbrev task : (rip rax rsp : ℕ) → Task
task rip rax rsp = record { regs = rax ∷ 0 ∷ 0 ∷ 0 ∷ rsp ∷ replicate 11 0; rip = rip; flags = start_flags; gs = 0 }

-- the step at an address, and that of one instruction with RAX or RSP
abbrev at : List ℕ → ℕ → UserStep
at text rip = user_step (memory text) (task rip 0 0)

abbrev does : Ins → (rax rsp : ℕ) → UserStep
does i rax rsp = user_step (memory (spelling i)) (task 0x400000 rax rsp)

-- ---- RIP

-- at the last byte of the text's region stands 0
last_byte : at [] 0x40ffff ≡ Raises 0x40ffff ud
unfolding computing
last_byte = refl

behind_text : at [] 0x410000 ≡ Raises 0x410000 (pf 0x14 0x410000)
unfolding computing
behind_text = refl

absent_page : at [] 0x10000000 ≡ Raises 0x10000000 (pf 0x14 0x10000000)
unfolding computing
absent_page = refl

present_page : at [] 0x10003008 ≡ Raises 0x10003008 (pf 0x15 0x10003008)
unfolding computing
present_page = refl

kernel_code : at [] 0xffffffff81000000 ≡ Raises 0xffffffff81000000 (pf 0x15 0xffffffff81000000)
unfolding computing
kernel_code = refl

-- a place in the kernel that the definitions name: the first instruction of REPEAT
repeat_code : at [] 0xffffffff81004800 ≡ Raises 0xffffffff81004800 (pf 0x15 0xffffffff81004800)
unfolding computing
repeat_code = refl

-- a jump whose displacement is the zeros behind the text
across_the_end : at (0xe9 ∷ []) 0x400000 ≡ Goes (task 0x400005 0 0) (λ a. 0)
unfolding computing
across_the_end = refl

-- INT3 is the text's last byte, and the RIP that it saves is behind the text
at_the_end : at (replicate 7 0x90 ++ 0xcc ∷ []) 0x400007 ≡ Raises 0x400008 (software Int3 3 1)
unfolding computing
at_the_end = refl

-- ---- accesses

unaligned : does (Store 0 (pos 4) 0) 0x10003000 0 ≡ Raises 0x400000 ac
unfolding computing
unaligned = refl

unmapped : does (Load 0 0 (pos 0)) 0x10002ff8 0 ≡ Raises 0x400000 (pf 4 0x10002ff8)
unfolding computing
unmapped = refl

text_written : does (Store 0 (pos 0) 0) 0x400000 0 ≡ Raises 0x400000 (pf 7 0x400000)
unfolding computing
text_written = refl

kernel_read : does (Load 0 0 (pos 0)) 0xffff888000820018 0 ≡ Raises 0x400000 (pf 5 0xffff888000820018)
unfolding computing
kernel_read = refl

not_canonical : does (Load 0 0 (pos 0)) 0x800000000000 0 ≡ Raises 0x400000 (gp 0)
unfolding computing
not_canonical = refl

stack_not_canonical : does (Push 0) 0 0x800000000008 ≡ Raises 0x400000 (ss 0)
unfolding computing
stack_not_canonical = refl

-- a push at RSP 0 is above all
stack_wraps : does (Push 0) 0 0 ≡ Raises 0x400000 (pf 7 0xfffffffffffffff8)
unfolding computing
stack_wraps = refl

-- ---- events

closed_gate : does (IntN 5) 0 0 ≡ Raises 0x400000 (gp 42)
unfolding computing
closed_gate = refl

privileged : does Swapgs 0 0 ≡ Raises 0x400000 ud
unfolding computing
privileged = refl
