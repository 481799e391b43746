-- What a closed run of the concrete machine computes with, beside that.
use Rattle.ev_event.specs.Boundary.{first_of}
use Rattle.ev_event.specs.DoubleFault.{combine, fault_class}
use Rattle.ev_mem.specs.Memory.{code_bytes}
use Rattle.ev_gate.specs.Gate.{gate_bytes, gate_in, read_gate}
use Rattle.ev_apic.specs.Apic.{next_vector}
use Rattle.ev_apic.specs.Send.{sent}
use Rattle.ev_apic.specs.Vectors.{with_vector}
use Rattle.ev_state.specs.Msr.{msr, written}
use Rattle.ev_idt.specs.IdtDelivery.{idt_delivery, iretq, syscall_idt, sysretq}
use Rattle.ev_fred.specs.FredDelivery.{erets, eretu, fred_delivery, lkgs, ss_word}
use Rattle.ev_exec.specs.Exec.{exec, mov_gs}
use Rattle.ev_proc.specs.ProcessorStep.{deliveries, next_of, special, step}
use Rattle.ev_asm.specs.Assembly.{code, distance, places, size, stmt_bytes}
use Rattle.ev_listing.specs.Expansion.{body_stmts, expansion, saved_offset}
use Rattle.ev_listing.specs.FredCode.{fred_listings}
use Rattle.ev_listing.specs.IdtCode.{idt_listings}
use Rattle.ev_listing.specs.Marks.{marks}
use Rattle.ev_concrete.specs.ConcreteRun.{concrete_line, concrete_step, edges, is_return, is_visible, opening_system}
use Rattle.ev_concrete.specs.Opening.{code_word, idt_word, listings, opening_word, pcpu_word, word_there}
use Rattle.ev_concrete.specs.RunText.{run_text}
use Rattle.ev_examples.proofs.Computes.{computing}

unfoldable pub stepping : Unit {0}
unfolding computing first_of fault_class combine code_bytes gate_bytes gate_in read_gate next_vector sent with_vector msr written idt_delivery iretq
    syscall_idt sysretq ss_word fred_delivery eretu erets lkgs mov_gs exec deliveries special next_of step size places distance stmt_bytes code saved_offset
    expansion body_stmts fred_listings idt_listings marks is_visible is_return concrete_step edges concrete_line opening_system listings code_word idt_word
    pcpu_word opening_word run_text word_there
stepping = tt
