-- Deliveries on their own: what is tried, the frame, and the processor after it.
use Rattle.std.specs.Prelude.{◌≡◌, refl, ℕ, [], ◌++◌, false, codes}
use Rattle.ev_isa.specs.declared.mode.Mode.{Mode}
use Rattle.ev_isa.specs.declared.mode.Mode.TheVariants.{Fred, Idt}
use Rattle.ev_event.specs.Event.{exception, software}
use Rattle.ev_event.specs.declared.event.Event.{Event}
use Rattle.ev_event.specs.declared.event.EventType.{EventType}
use Rattle.ev_probe.specs.Probe.{Probe, probed, report, report_text}
use Rattle.ev_examples.proofs.ComputesConcrete.{stepping}

unfoldable pub user_state : Mode → ℕ → Probe
user_state mode bad =
    record { mode = mode; cpl = 3; rip = 0x400000; flags = 0x40202; rsp = 0; level = 0; sti = false; nmi = false; stklvls = 0x30020; bad = bad; words = [] }

unfoldable pub page_fault_event : Event
page_fault_event = exception 14 6 0x10000000

-- the stack of the task is unmapped: a page fault on the way, and then #DF
idt_double : report_text (probed (user_state Idt 1) page_fault_event) ≡
    codes "try 14 error 6\ntry 8 error 0\nframe ffffc90000017fd0 0 400000 33 40202 0 2b\n"
    ++ codes "cpu rip ffffffff81002080 cs 10 ss 0 flags 40002 rsp ffffc90000017fd0 level 0 nmi 0 cr2 ffffc90000003ff8\n"
unfolding stepping report user_state page_fault_event
idt_double = refl

fred_double : report_text (probed (user_state Fred 1) page_fault_event) ≡
    codes "try 14 error 6\ntry 8 error 0\nframe ffffc90000017fc0 0 400000 33 40202 0 20300080000002b 0 0\n"
    ++ codes "cpu rip ffffffff81000000 cs 10 ss 18 flags 2 rsp ffffc90000017fc0 level 3 nmi 0 cr2 ffffc90000003ff8\n"
unfolding stepping report user_state page_fault_event
fred_double = refl

-- with the #DF stack unmapped too
idt_shutdown : report_text (probed (user_state Idt 0x21) page_fault_event) ≡
    codes "try 14 error 6\ntry 8 error 0\nshutdown\n"
unfolding stepping report user_state page_fault_event
idt_shutdown = refl

fred_shutdown : report_text (probed (user_state Fred 0x21) page_fault_event) ≡
    codes "try 14 error 6\ntry 8 error 0\nshutdown\n"
unfolding stepping report user_state page_fault_event
fred_shutdown = refl

-- INT 40H through a gate that is closed to user code, and no stack for its #GP
closed_gate : report_text (probed (user_state Idt 1) (software EventType.SoftInt 0x40 2)) ≡
    codes "try 64 error 0\ntry 13 error 202\ntry 14 error 2\ntry 8 error 0\nframe ffffc90000017fd0 0 400000 33 40202 0 2b\n"
    ++ codes "cpu rip ffffffff81002080 cs 10 ss 0 flags 40002 rsp ffffc90000017fd0 level 0 nmi 0 cr2 ffffc90000003ff8\n"
unfolding stepping report user_state
closed_gate = refl

-- a breakpoint of the kernel, with RSP aligned down to 64
unfoldable pub kernel_state : Probe
kernel_state =
    record {
      mode = Fred;
      cpl = 0;
      rip = 0xffffffff82000001;
      flags = 2;
      rsp = 0xffffc90000003f3d;
      level = 0;
      sti = false;
      nmi = false;
      stklvls =
          0x30020;
      bad = 0;
      words = [];
    }

aligned : report_text (probed kernel_state (software EventType.Int3 3 1)) ≡
    codes "try 3 error 0\nframe ffffc90000003e80 0 ffffffff82000001 10 2 ffffc90000003f3d 1206000300000018 0 0\n"
    ++ codes "cpu rip ffffffff81000100 cs 10 ss 18 flags 2 rsp ffffc90000003e80 level 0 nmi 0 cr2 0\n"
unfolding stepping report kernel_state
aligned = refl
