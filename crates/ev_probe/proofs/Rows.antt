-- Probe lines with their answers, worked out by the definitions: the text of the report, or the cause. The answers come from a program that was written
-- apart from these definitions.
use Rattle.std.specs.Prelude.{◌≡◌, refl, ℕ, List, [], ◌∷◌, ◌++◌, ◌*◌, ◌-◌, map, replicate, false, codes, Result, Ok, Err}
use Rattle.std.specs.Fmt.{digits}
use Rattle.ev_isa.specs.Flags.{flags_of, flags_word}
use Rattle.ev_isa.specs.Pages.{fault_at}
use Rattle.ev_event.specs.DoubleFault.{combine, fault_class}
use Rattle.ev_event.specs.Event.{type_number}
use Rattle.ev_effect.specs.Effect.{access_event}
use Rattle.ev_gate.specs.Gate.{gate_bytes, gate_in}
use Rattle.ev_idt.specs.IdtDelivery.{idt_delivery, iretq}
use Rattle.ev_fred.specs.FredDelivery.{erets, eretu, fred_delivery, ss_word}
use Rattle.ev_io.specs.declared.cause.Cause.{Cause}
use Rattle.ev_io.specs.Number.{below_word, digit, digits_number, is_decimal, is_digits, is_hexadecimal, number_of, value}
use Rattle.ev_io.specs.InputLines.{byte_fault, fault_from, lines_of, text_of}
use Rattle.ev_io.specs.Follow.{line_follows, read, tokens_follow}
use Rattle.ev_io.specs.Tokens.{is_passed_over, pieces, tokens_of}
use Rattle.ev_state.specs.Outcome.{Outcome, Went, Met}
use Rattle.ev_isa.specs.declared.mode.Mode.{Mode}
use Rattle.ev_isa.specs.declared.mode.Mode.TheVariants.{Idt, Fred}
use Rattle.ev_line.specs.Operands.{number}
use Rattle.ev_concrete.specs.Opening.{idt_word, opening_word, pcpu_word, word_there}
use Rattle.ev_probe.specs.ProbeLine.{at_equals, event_of, is_allowed, is_idt_delivery, is_return, is_stack_pointer, mode_of, op_in, probe_line, setting_value, settings_from, values_of}
use Rattle.ev_probe.specs.Probe.{Probe, probe_cpu, probe_memory, report}
use Rattle.ev_probe.specs.Input.{follows, input_text, read_line, read_told, whole}
use Rattle.ev_probe.specs.Answer.{answer_to, probe_of, probe_text, told_from, told_of}

unfoldable probing : Unit {0}
unfolding digits below_word flags_of flags_word fault_at combine fault_class type_number access_event gate_bytes gate_in idt_delivery iretq erets eretu
    fred_delivery ss_word
    digit digits_number is_decimal is_digits is_hexadecimal number_of value pieces tokens_of number idt_word opening_word pcpu_word word_there at_equals
    event_of is_allowed is_idt_delivery is_return is_stack_pointer mode_of op_in probe_line setting_value settings_from values_of report answer_to
    probe_of probe_text told_from told_of
probing = tt

abbrev Row : Type 0
Row = List ℕ × Result (List ℕ) Cause

abbrev answered : List Row → List Row
answered rows = map (λ (row : Row). (row.0, probe_text row.0)) rows

unfoldable worked_rows : List Row
worked_rows = (
  codes "probe idt deliver vector=14 type=3 error=6 info=0x10000000 bad=1",
  Ok (codes "try 14 error 6\n"
      ++ codes "try 8 error 0\n"
      ++ codes "frame ffffc90000017fd0 0 400000 33 40202 0 2b\n"
      ++ codes "cpu rip ffffffff81002080 cs 10 ss 0 flags 40002 rsp ffffc90000017fd0 level 0 nmi 0 cr2 ffffc90000003ff8\n"),
)
    ∷ (
      codes "probe fred deliver vector=14 type=3 error=6 info=0x10000000 bad=1",
      Ok (codes "try 14 error 6\n"
          ++ codes "try 8 error 0\n"
          ++ codes "frame ffffc90000017fc0 0 400000 33 40202 0 20300080000002b 0 0\n"
          ++ codes "cpu rip ffffffff81000000 cs 10 ss 18 flags 2 rsp ffffc90000017fc0 level 3 nmi 0 cr2 ffffc90000003ff8\n"),
    )
    ∷ (codes "probe idt deliver vector=14 type=3 error=6 info=0x10000000 bad=0x21", Ok (codes "try 14 error 6\ntry 8 error 0\nshutdown\n"))
    ∷ (codes "probe fred deliver vector=14 type=3 error=6 info=0x10000000 bad=0x21", Ok (codes "try 14 error 6\ntry 8 error 0\nshutdown\n"))
    ∷ (
      codes "probe fred deliver vector=3 type=6 cpl=0 rip=0xffffffff82000001 flags=2 rsp=0xffffc90000003f3d",
      Ok (codes "try 3 error 0\n"
          ++ codes "frame ffffc90000003e80 0 ffffffff82000001 10 2 ffffc90000003f3d 1206000300000018 0 0\n"
          ++ codes "cpu rip ffffffff81000100 cs 10 ss 18 flags 2 rsp ffffc90000003e80 level 0 nmi 0 cr2 0\n"),
    )
    ∷ (
      codes "probe idt deliver vector=0x40 type=4 bad=1",
      Ok (codes "try 64 error 0\n"
          ++ codes "try 13 error 202\n"
          ++ codes "try 14 error 2\n"
          ++ codes "try 8 error 0\n"
          ++ codes "frame ffffc90000017fd0 0 400000 33 40202 0 2b\n"
          ++ codes "cpu rip ffffffff81002080 cs 10 ss 0 flags 40002 rsp ffffc90000017fd0 level 0 nmi 0 cr2 ffffc90000003ff8\n"),
    )
    ∷ (codes "probe idt deliver type=7", Err Cause.Limit)
    ∷ (codes "probe fred eretu level=1 rsp=0xffffc90000003f00", Ok (codes "raise 13 error 0\n"))
    ∷ (codes "probe fred eretu level=1 rsp=0xffffc90000003f00 w1=0x400000 w2=0x33 w3=2 w5=0x2b", Ok (codes "raise 13 error 0\n"))
    ∷ []

worked : answered worked_rows ≡ worked_rows
unfolding worked_rows probing
worked = refl

unfoldable refused_rows : List Row
refused_rows =
    ([], Err Cause.Word)
    ∷ (codes "probed idt deliver", Err Cause.Word)
    ∷ (codes "probe", Err Cause.Count)
    ∷ (codes "probe idt", Err Cause.Count)
    ∷ (codes "probe x", Err Cause.Count)
    ∷ (codes "probe x y", Err Cause.Word)
    ∷ (codes "probe fred iretq", Err Cause.Word)
    ∷ (codes "probe idt eretu", Err Cause.Word)
    ∷ (codes "probe idt deliver vector", Err Cause.Word)
    ∷ (codes "probe idt deliver x=1", Err Cause.Word)
    ∷ (codes "probe idt deliver =1", Err Cause.Word)
    ∷ (codes "probe idt deliver vector=3 vector=3", Err Cause.Double)
    ∷ (codes "probe idt deliver vector=3 vector=x", Err Cause.Double)
    ∷ (codes "probe idt deliver vector=x vector=3", Err Cause.Number)
    ∷ (codes "probe idt deliver vector=x foo", Err Cause.Number)
    ∷ (codes "probe idt deliver foo vector=x", Err Cause.Word)
    ∷ (codes "probe idt deliver vector=", Err Cause.Number)
    ∷ (codes "probe idt deliver vector=03", Err Cause.Number)
    ∷ (codes "probe idt deliver vector=-1", Err Cause.Number)
    ∷ (codes "probe idt deliver vector=0x10000000000000000", Err Cause.Number)
    ∷ (codes "probe idt deliver vector=1=2", Err Cause.Number)
    ∷ (codes "probe idt deliver Vector=1", Err Cause.Word)
    ∷ (codes "probe idt deliver w8=0", Err Cause.Word)
    ∷ (codes "probe idt deliver vector=256", Err Cause.Limit)
    ∷ (codes "probe idt deliver type=1", Err Cause.Limit)
    ∷ (codes "probe idt deliver type=8", Err Cause.Limit)
    ∷ (codes "probe idt deliver type=7", Err Cause.Limit)
    ∷ (codes "probe idt deliver vector=3 error=1", Err Cause.Limit)
    ∷ (codes "probe idt deliver vector=13 info=1", Err Cause.Limit)
    ∷ (codes "probe idt deliver vector=14 type=4 error=1", Err Cause.Limit)
    ∷ (codes "probe idt deliver cpl=1", Err Cause.Limit)
    ∷ (codes "probe idt deliver rip=0x800000000000", Err Cause.Limit)
    ∷ (codes "probe idt deliver flags=4", Err Cause.Limit)
    ∷ (codes "probe idt deliver level=4", Err Cause.Limit)
    ∷ (codes "probe idt deliver sti=2", Err Cause.Limit)
    ∷ (codes "probe idt deliver nmi=2", Err Cause.Limit)
    ∷ (codes "probe idt deliver bad=0x80", Err Cause.Limit)
    ∷ (codes "probe idt deliver cpl=0", Err Cause.Limit)
    ∷ (codes "probe idt deliver cpl=0 rsp=0xffffc90000001fff", Err Cause.Limit)
    ∷ (codes "probe idt deliver cpl=0 rsp=0xffffc90000004001", Err Cause.Limit)
    ∷ (codes "probe idt deliver cpl=0 rsp=0xffffc9000001c001", Err Cause.Limit)
    ∷ (codes "probe idt iretq rsp=0xffffc90000003fc1", Err Cause.Limit)
    ∷ (codes "probe idt iretq rsp=0xffffc90000003fc8", Err Cause.Limit)
    ∷ (codes "probe idt iretq rsp=0xffffc90000003fc0 cpl=3", Err Cause.Limit)
    ∷ (codes "probe idt iretq rsp=0xffffc90000003fc0 bad=1", Err Cause.Limit)
    ∷ (codes "probe fred erets rsp=0xffffc90000001ff8", Err Cause.Limit)
    ∷ (codes "probe idt iretq rsp=0x400000", Err Cause.Limit)
    ∷ []

refused : answered refused_rows ≡ refused_rows
unfolding refused_rows probing
refused = refl

unfoldable unmapped_rows : List Row
unmapped_rows = (
  codes "probe idt deliver vector=2 type=2 bad=0x1",
  Ok (codes "try 2 error 0\n"
      ++ codes "frame ffffc90000013fd8 400000 33 40202 0 2b\n"
      ++ codes "cpu rip ffffffff81004000 cs 10 ss 0 flags 40002 rsp ffffc90000013fd8 level 0 nmi 1 cr2 0\n"),
)
    ∷ (
      codes "probe idt deliver vector=2 type=2 bad=0x2",
      Ok (codes "try 2 error 0\n"
          ++ codes "frame ffffc90000013fd8 400000 33 40202 0 2b\n"
          ++ codes "cpu rip ffffffff81004000 cs 10 ss 0 flags 40002 rsp ffffc90000013fd8 level 0 nmi 1 cr2 0\n"),
    )
    ∷ (
      codes "probe idt deliver vector=2 type=2 bad=0x4",
      Ok (codes "try 2 error 0\n"
          ++ codes "frame ffffc90000013fd8 400000 33 40202 0 2b\n"
          ++ codes "cpu rip ffffffff81004000 cs 10 ss 0 flags 40002 rsp ffffc90000013fd8 level 0 nmi 1 cr2 0\n"),
    )
    ∷ (
      codes "probe idt deliver vector=2 type=2 bad=0x8",
      Ok (codes "try 2 error 0\n"
          ++ codes "frame ffffc90000013fd8 400000 33 40202 0 2b\n"
          ++ codes "cpu rip ffffffff81004000 cs 10 ss 0 flags 40002 rsp ffffc90000013fd8 level 0 nmi 1 cr2 0\n"),
    )
    ∷ (
      codes "probe idt deliver vector=2 type=2 bad=0x10",
      Ok (codes "try 2 error 0\n"
          ++ codes "try 14 error 2\n"
          ++ codes "frame ffffc90000003fd0 2 400000 33 40202 0 2b\n"
          ++ codes "cpu rip ffffffff810020e0 cs 10 ss 0 flags 40002 rsp ffffc90000003fd0 level 0 nmi 0 cr2 ffffc90000013ff8\n"),
    )
    ∷ (
      codes "probe idt deliver vector=2 type=2 bad=0x20",
      Ok (codes "try 2 error 0\n"
          ++ codes "frame ffffc90000013fd8 400000 33 40202 0 2b\n"
          ++ codes "cpu rip ffffffff81004000 cs 10 ss 0 flags 40002 rsp ffffc90000013fd8 level 0 nmi 1 cr2 0\n"),
    )
    ∷ (
      codes "probe idt deliver vector=2 type=2 bad=0x40",
      Ok (codes "try 2 error 0\n"
          ++ codes "frame ffffc90000013fd8 400000 33 40202 0 2b\n"
          ++ codes "cpu rip ffffffff81004000 cs 10 ss 0 flags 40002 rsp ffffc90000013fd8 level 0 nmi 1 cr2 0\n"),
    )
    ∷ (
      codes "probe idt deliver vector=14 error=7 info=8 bad=0x1",
      Ok (codes "try 14 error 7\n"
          ++ codes "try 8 error 0\n"
          ++ codes "frame ffffc90000017fd0 0 400000 33 40202 0 2b\n"
          ++ codes "cpu rip ffffffff81002080 cs 10 ss 0 flags 40002 rsp ffffc90000017fd0 level 0 nmi 0 cr2 ffffc90000003ff8\n"),
    )
    ∷ (
      codes "probe idt deliver vector=14 error=7 info=8 bad=0x2",
      Ok (codes "try 14 error 7\n"
          ++ codes "frame ffffc90000003fd0 7 400000 33 40202 0 2b\n"
          ++ codes "cpu rip ffffffff810020e0 cs 10 ss 0 flags 40002 rsp ffffc90000003fd0 level 0 nmi 0 cr2 8\n"),
    )
    ∷ (
      codes "probe idt deliver vector=14 error=7 info=8 bad=0x4",
      Ok (codes "try 14 error 7\n"
          ++ codes "frame ffffc90000003fd0 7 400000 33 40202 0 2b\n"
          ++ codes "cpu rip ffffffff810020e0 cs 10 ss 0 flags 40002 rsp ffffc90000003fd0 level 0 nmi 0 cr2 8\n"),
    )
    ∷ (
      codes "probe idt deliver vector=14 error=7 info=8 bad=0x8",
      Ok (codes "try 14 error 7\n"
          ++ codes "frame ffffc90000003fd0 7 400000 33 40202 0 2b\n"
          ++ codes "cpu rip ffffffff810020e0 cs 10 ss 0 flags 40002 rsp ffffc90000003fd0 level 0 nmi 0 cr2 8\n"),
    )
    ∷ (
      codes "probe idt deliver vector=14 error=7 info=8 bad=0x10",
      Ok (codes "try 14 error 7\n"
          ++ codes "frame ffffc90000003fd0 7 400000 33 40202 0 2b\n"
          ++ codes "cpu rip ffffffff810020e0 cs 10 ss 0 flags 40002 rsp ffffc90000003fd0 level 0 nmi 0 cr2 8\n"),
    )
    ∷ (
      codes "probe idt deliver vector=14 error=7 info=8 bad=0x20",
      Ok (codes "try 14 error 7\n"
          ++ codes "frame ffffc90000003fd0 7 400000 33 40202 0 2b\n"
          ++ codes "cpu rip ffffffff810020e0 cs 10 ss 0 flags 40002 rsp ffffc90000003fd0 level 0 nmi 0 cr2 8\n"),
    )
    ∷ (
      codes "probe idt deliver vector=14 error=7 info=8 bad=0x40",
      Ok (codes "try 14 error 7\n"
          ++ codes "frame ffffc90000003fd0 7 400000 33 40202 0 2b\n"
          ++ codes "cpu rip ffffffff810020e0 cs 10 ss 0 flags 40002 rsp ffffc90000003fd0 level 0 nmi 0 cr2 8\n"),
    )
    ∷ (
      codes "probe fred deliver vector=2 type=2 bad=0x1",
      Ok (codes "try 2 error 0\n"
          ++ codes "try 14 error 2\n"
          ++ codes "try 8 error 0\n"
          ++ codes "frame ffffc90000017fc0 0 400000 33 40202 0 20300080000002b 0 0\n"
          ++ codes "cpu rip ffffffff81000000 cs 10 ss 18 flags 2 rsp ffffc90000017fc0 level 3 nmi 0 cr2 ffffc90000003ff8\n"),
    )
    ∷ (
      codes "probe fred deliver vector=2 type=2 bad=0x2",
      Ok (codes "try 2 error 0\n"
          ++ codes "frame ffffc90000003fc0 0 400000 33 40202 0 20200020004002b 0 0\n"
          ++ codes "cpu rip ffffffff81000000 cs 10 ss 18 flags 2 rsp ffffc90000003fc0 level 0 nmi 1 cr2 0\n"),
    )
    ∷ (
      codes "probe fred deliver vector=2 type=2 bad=0x4",
      Ok (codes "try 2 error 0\n"
          ++ codes "frame ffffc90000003fc0 0 400000 33 40202 0 20200020004002b 0 0\n"
          ++ codes "cpu rip ffffffff81000000 cs 10 ss 18 flags 2 rsp ffffc90000003fc0 level 0 nmi 1 cr2 0\n"),
    )
    ∷ (
      codes "probe fred deliver vector=2 type=2 bad=0x8",
      Ok (codes "try 2 error 0\n"
          ++ codes "frame ffffc90000003fc0 0 400000 33 40202 0 20200020004002b 0 0\n"
          ++ codes "cpu rip ffffffff81000000 cs 10 ss 18 flags 2 rsp ffffc90000003fc0 level 0 nmi 1 cr2 0\n"),
    )
    ∷ (
      codes "probe fred deliver vector=2 type=2 bad=0x10",
      Ok (codes "try 2 error 0\n"
          ++ codes "frame ffffc90000003fc0 0 400000 33 40202 0 20200020004002b 0 0\n"
          ++ codes "cpu rip ffffffff81000000 cs 10 ss 18 flags 2 rsp ffffc90000003fc0 level 0 nmi 1 cr2 0\n"),
    )
    ∷ (
      codes "probe fred deliver vector=2 type=2 bad=0x20",
      Ok (codes "try 2 error 0\n"
          ++ codes "frame ffffc90000003fc0 0 400000 33 40202 0 20200020004002b 0 0\n"
          ++ codes "cpu rip ffffffff81000000 cs 10 ss 18 flags 2 rsp ffffc90000003fc0 level 0 nmi 1 cr2 0\n"),
    )
    ∷ (
      codes "probe fred deliver vector=2 type=2 bad=0x40",
      Ok (codes "try 2 error 0\n"
          ++ codes "frame ffffc90000003fc0 0 400000 33 40202 0 20200020004002b 0 0\n"
          ++ codes "cpu rip ffffffff81000000 cs 10 ss 18 flags 2 rsp ffffc90000003fc0 level 0 nmi 1 cr2 0\n"),
    )
    ∷ (
      codes "probe fred deliver vector=14 error=7 info=8 bad=0x1",
      Ok (codes "try 14 error 7\n"
          ++ codes "try 8 error 0\n"
          ++ codes "frame ffffc90000017fc0 0 400000 33 40202 0 20300080000002b 0 0\n"
          ++ codes "cpu rip ffffffff81000000 cs 10 ss 18 flags 2 rsp ffffc90000017fc0 level 3 nmi 0 cr2 ffffc90000003ff8\n"),
    )
    ∷ (
      codes "probe fred deliver vector=14 error=7 info=8 bad=0x2",
      Ok (codes "try 14 error 7\n"
          ++ codes "frame ffffc90000003fc0 7 400000 33 40202 0 203000e0000002b 8 0\n"
          ++ codes "cpu rip ffffffff81000000 cs 10 ss 18 flags 2 rsp ffffc90000003fc0 level 0 nmi 0 cr2 8\n"),
    )
    ∷ (
      codes "probe fred deliver vector=14 error=7 info=8 bad=0x4",
      Ok (codes "try 14 error 7\n"
          ++ codes "frame ffffc90000003fc0 7 400000 33 40202 0 203000e0000002b 8 0\n"
          ++ codes "cpu rip ffffffff81000000 cs 10 ss 18 flags 2 rsp ffffc90000003fc0 level 0 nmi 0 cr2 8\n"),
    )
    ∷ (
      codes "probe fred deliver vector=14 error=7 info=8 bad=0x8",
      Ok (codes "try 14 error 7\n"
          ++ codes "frame ffffc90000003fc0 7 400000 33 40202 0 203000e0000002b 8 0\n"
          ++ codes "cpu rip ffffffff81000000 cs 10 ss 18 flags 2 rsp ffffc90000003fc0 level 0 nmi 0 cr2 8\n"),
    )
    ∷ (
      codes "probe fred deliver vector=14 error=7 info=8 bad=0x10",
      Ok (codes "try 14 error 7\n"
          ++ codes "frame ffffc90000003fc0 7 400000 33 40202 0 203000e0000002b 8 0\n"
          ++ codes "cpu rip ffffffff81000000 cs 10 ss 18 flags 2 rsp ffffc90000003fc0 level 0 nmi 0 cr2 8\n"),
    )
    ∷ (
      codes "probe fred deliver vector=14 error=7 info=8 bad=0x20",
      Ok (codes "try 14 error 7\n"
          ++ codes "frame ffffc90000003fc0 7 400000 33 40202 0 203000e0000002b 8 0\n"
          ++ codes "cpu rip ffffffff81000000 cs 10 ss 18 flags 2 rsp ffffc90000003fc0 level 0 nmi 0 cr2 8\n"),
    )
    ∷ (
      codes "probe fred deliver vector=14 error=7 info=8 bad=0x40",
      Ok (codes "try 14 error 7\n"
          ++ codes "frame ffffc90000003fc0 7 400000 33 40202 0 203000e0000002b 8 0\n"
          ++ codes "cpu rip ffffffff81000000 cs 10 ss 18 flags 2 rsp ffffc90000003fc0 level 0 nmi 0 cr2 8\n"),
    )
    ∷ []

unmapped : answered unmapped_rows ≡ unmapped_rows
unfolding unmapped_rows probing
unmapped = refl

unfoldable tops_rows : List Row
tops_rows = (
  codes "probe idt deliver vector=32 type=0 cpl=0 rsp=0xffffc90000004000 level=1",
  Ok (codes "try 32 error 0\n"
      ++ codes "frame ffffc90000003fd8 400000 10 40202 ffffc90000004000 18\n"
      ++ codes "cpu rip ffffffff81002200 cs 10 ss 18 flags 40002 rsp ffffc90000003fd8 level 1 nmi 0 cr2 0\n"),
)
    ∷ (
      codes "probe idt deliver vector=32 type=0 cpl=0 rsp=0xffffc90000010000 level=1",
      Ok (codes "try 32 error 0\n"
          ++ codes "frame ffffc9000000ffd8 400000 10 40202 ffffc90000010000 18\n"
          ++ codes "cpu rip ffffffff81002200 cs 10 ss 18 flags 40002 rsp ffffc9000000ffd8 level 1 nmi 0 cr2 0\n"),
    )
    ∷ (
      codes "probe idt deliver vector=32 type=0 cpl=0 rsp=0xffffc9000001c000 level=1",
      Ok (codes "try 32 error 0\n"
          ++ codes "frame ffffc9000001bfd8 400000 10 40202 ffffc9000001c000 18\n"
          ++ codes "cpu rip ffffffff81002200 cs 10 ss 18 flags 40002 rsp ffffc9000001bfd8 level 1 nmi 0 cr2 0\n"),
    )
    ∷ (
      codes "probe idt deliver vector=32 type=0 cpl=0 rsp=0xffffc9000001c000 level=1 bad=0x40",
      Ok (codes "try 32 error 0\n"
          ++ codes "try 14 error 2\n"
          ++ codes "try 8 error 0\n"
          ++ codes "frame ffffc90000017fd0 0 400000 10 40202 ffffc9000001c000 18\n"
          ++ codes "cpu rip ffffffff81002080 cs 10 ss 18 flags 40002 rsp ffffc90000017fd0 level 1 nmi 0 cr2 ffffc9000001bff8\n"),
    )
    ∷ (
      codes "probe idt deliver vector=8 cpl=0 rsp=0xffffc90000017f80 level=3",
      Ok (codes "try 8 error 0\n"
          ++ codes "frame ffffc90000017fd0 0 400000 10 40202 ffffc90000017f80 18\n"
          ++ codes "cpu rip ffffffff81002080 cs 10 ss 18 flags 40002 rsp ffffc90000017fd0 level 3 nmi 0 cr2 0\n"),
    )
    ∷ (codes "probe idt deliver vector=8 cpl=0 rsp=0xffffc90000017f80 level=3 bad=0x20", Ok (codes "try 8 error 0\nshutdown\n"))
    ∷ (codes "probe idt deliver vector=8 bad=0x20", Ok (codes "try 8 error 0\nshutdown\n"))
    ∷ (
      codes "probe idt deliver vector=2 type=2 cpl=0 rsp=0xffffc90000013f00 level=2 nmi=1",
      Ok (codes "try 2 error 0\n"
          ++ codes "frame ffffc90000013fd8 400000 10 40202 ffffc90000013f00 18\n"
          ++ codes "cpu rip ffffffff81004000 cs 10 ss 18 flags 40002 rsp ffffc90000013fd8 level 2 nmi 1 cr2 0\n"),
    )
    ∷ (
      codes "probe fred deliver vector=32 type=0 cpl=0 rsp=0xffffc90000004000 level=1",
      Ok (codes "try 32 error 0\n"
          ++ codes "frame ffffc90000003f80 0 400000 10010 40202 ffffc90000004000 200002000000018 0 0\n"
          ++ codes "cpu rip ffffffff81000100 cs 10 ss 18 flags 2 rsp ffffc90000003f80 level 1 nmi 0 cr2 0\n"),
    )
    ∷ (
      codes "probe fred deliver vector=32 type=0 cpl=0 rsp=0xffffc90000010000 level=1",
      Ok (codes "try 32 error 0\n"
          ++ codes "frame ffffc9000000ff80 0 400000 10010 40202 ffffc90000010000 200002000000018 0 0\n"
          ++ codes "cpu rip ffffffff81000100 cs 10 ss 18 flags 2 rsp ffffc9000000ff80 level 1 nmi 0 cr2 0\n"),
    )
    ∷ (
      codes "probe fred deliver vector=32 type=0 cpl=0 rsp=0xffffc9000001c000 level=1",
      Ok (codes "try 32 error 0\n"
          ++ codes "frame ffffc9000001bf80 0 400000 10010 40202 ffffc9000001c000 200002000000018 0 0\n"
          ++ codes "cpu rip ffffffff81000100 cs 10 ss 18 flags 2 rsp ffffc9000001bf80 level 1 nmi 0 cr2 0\n"),
    )
    ∷ (
      codes "probe fred deliver vector=32 type=0 cpl=0 rsp=0xffffc9000001c000 level=1 bad=0x40",
      Ok (codes "try 32 error 0\n"
          ++ codes "try 14 error 2\n"
          ++ codes "try 8 error 0\n"
          ++ codes "frame ffffc90000017fc0 0 400000 10010 40202 ffffc9000001c000 203000800000018 0 0\n"
          ++ codes "cpu rip ffffffff81000100 cs 10 ss 18 flags 2 rsp ffffc90000017fc0 level 3 nmi 0 cr2 ffffc9000001bfb8\n"),
    )
    ∷ (
      codes "probe fred deliver vector=8 cpl=0 rsp=0xffffc90000017f80 level=3",
      Ok (codes "try 8 error 0\n"
          ++ codes "frame ffffc90000017f00 0 400000 30010 40202 ffffc90000017f80 203000800000018 0 0\n"
          ++ codes "cpu rip ffffffff81000100 cs 10 ss 18 flags 2 rsp ffffc90000017f00 level 3 nmi 0 cr2 0\n"),
    )
    ∷ (codes "probe fred deliver vector=8 cpl=0 rsp=0xffffc90000017f80 level=3 bad=0x20", Ok (codes "try 8 error 0\nshutdown\n"))
    ∷ (codes "probe fred deliver vector=8 bad=0x20", Ok (codes "try 8 error 0\nshutdown\n"))
    ∷ (
      codes "probe fred deliver vector=2 type=2 cpl=0 rsp=0xffffc90000013f00 level=2 nmi=1",
      Ok (codes "try 2 error 0\n"
          ++ codes "frame ffffc90000013e80 0 400000 20010 40202 ffffc90000013f00 202000200040018 0 0\n"
          ++ codes "cpu rip ffffffff81000100 cs 10 ss 18 flags 2 rsp ffffc90000013e80 level 2 nmi 1 cr2 0\n"),
    )
    ∷ []

tops : answered tops_rows ≡ tops_rows
unfolding tops_rows probing
tops = refl

unfoldable software_rows : List Row
software_rows = (
  codes "probe idt deliver vector=3 type=4",
  Ok (codes "try 3 error 0\n"
      ++ codes "frame ffffc90000003fd8 400000 33 40202 0 2b\n"
      ++ codes "cpu rip ffffffff81002030 cs 10 ss 0 flags 40002 rsp ffffc90000003fd8 level 0 nmi 0 cr2 0\n"),
)
    ∷ (
      codes "probe idt deliver vector=0x80 type=4",
      Ok (codes "try 128 error 0\n"
          ++ codes "try 13 error 402\n"
          ++ codes "frame ffffc90000003fd0 402 400000 33 40202 0 2b\n"
          ++ codes "cpu rip ffffffff810020d0 cs 10 ss 0 flags 40002 rsp ffffc90000003fd0 level 0 nmi 0 cr2 0\n"),
    )
    ∷ (
      codes "probe idt deliver vector=0x80 type=4 cpl=0 rsp=0xffffc90000007ff8",
      Ok (codes "try 128 error 0\n"
          ++ codes "frame ffffc90000007fc8 400000 10 40202 ffffc90000007ff8 18\n"
          ++ codes "cpu rip ffffffff81002800 cs 10 ss 18 flags 40002 rsp ffffc90000007fc8 level 0 nmi 0 cr2 0\n"),
    )
    ∷ (
      codes "probe idt deliver vector=3 type=6",
      Ok (codes "try 3 error 0\n"
          ++ codes "frame ffffc90000003fd8 400000 33 40202 0 2b\n"
          ++ codes "cpu rip ffffffff81002030 cs 10 ss 0 flags 40002 rsp ffffc90000003fd8 level 0 nmi 0 cr2 0\n"),
    )
    ∷ (
      codes "probe idt deliver vector=0x80 type=6",
      Ok (codes "try 128 error 0\n"
          ++ codes "try 13 error 402\n"
          ++ codes "frame ffffc90000003fd0 402 400000 33 40202 0 2b\n"
          ++ codes "cpu rip ffffffff810020d0 cs 10 ss 0 flags 40002 rsp ffffc90000003fd0 level 0 nmi 0 cr2 0\n"),
    )
    ∷ (
      codes "probe idt deliver vector=0x80 type=6 cpl=0 rsp=0xffffc90000007ff8",
      Ok (codes "try 128 error 0\n"
          ++ codes "frame ffffc90000007fc8 400000 10 40202 ffffc90000007ff8 18\n"
          ++ codes "cpu rip ffffffff81002800 cs 10 ss 18 flags 40002 rsp ffffc90000007fc8 level 0 nmi 0 cr2 0\n"),
    )
    ∷ (
      codes "probe idt deliver vector=1 type=5 sti=1",
      Ok (codes "try 1 error 0\n"
          ++ codes "frame ffffc90000003fd8 400000 33 40202 0 2b\n"
          ++ codes "cpu rip ffffffff81002010 cs 10 ss 0 flags 40002 rsp ffffc90000003fd8 level 0 nmi 0 cr2 0\n"),
    )
    ∷ (
      codes "probe idt deliver vector=20 error=0 bad=1",
      Ok (codes "try 20 error 0\n"
          ++ codes "try 8 error 0\n"
          ++ codes "frame ffffc90000017fd0 0 400000 33 40202 0 2b\n"
          ++ codes "cpu rip ffffffff81002080 cs 10 ss 0 flags 40002 rsp ffffc90000017fd0 level 0 nmi 0 cr2 ffffc90000003ff8\n"),
    )
    ∷ (
      codes "probe idt deliver vector=21 error=5",
      Ok (codes "try 21 error 5\n"
          ++ codes "frame ffffc90000003fd0 5 400000 33 40202 0 2b\n"
          ++ codes "cpu rip ffffffff81002150 cs 10 ss 0 flags 40002 rsp ffffc90000003fd0 level 0 nmi 0 cr2 0\n"),
    )
    ∷ (
      codes "probe idt deliver vector=0 bad=1 level=3",
      Ok (codes "try 0 error 0\n"
          ++ codes "try 14 error 2\n"
          ++ codes "try 8 error 0\n"
          ++ codes "frame ffffc90000017fd0 0 400000 33 40202 0 2b\n"
          ++ codes "cpu rip ffffffff81002080 cs 10 ss 0 flags 40002 rsp ffffc90000017fd0 level 3 nmi 0 cr2 ffffc90000003ff8\n"),
    )
    ∷ (
      codes "probe fred deliver vector=3 type=4",
      Ok (codes "try 3 error 0\n"
          ++ codes "frame ffffc90000003fc0 0 400000 33 40202 0 220400030002002b 0 0\n"
          ++ codes "cpu rip ffffffff81000000 cs 10 ss 18 flags 2 rsp ffffc90000003fc0 level 0 nmi 0 cr2 0\n"),
    )
    ∷ (
      codes "probe fred deliver vector=0x80 type=4",
      Ok (codes "try 128 error 0\n"
          ++ codes "frame ffffc90000003fc0 0 400000 33 40202 0 220400800002002b 0 0\n"
          ++ codes "cpu rip ffffffff81000000 cs 10 ss 18 flags 2 rsp ffffc90000003fc0 level 0 nmi 0 cr2 0\n"),
    )
    ∷ (
      codes "probe fred deliver vector=0x80 type=4 cpl=0 rsp=0xffffc90000007ff8",
      Ok (codes "try 128 error 0\n"
          ++ codes "frame ffffc90000007f40 0 400000 10 40202 ffffc90000007ff8 2204008000020018 0 0\n"
          ++ codes "cpu rip ffffffff81000100 cs 10 ss 18 flags 2 rsp ffffc90000007f40 level 0 nmi 0 cr2 0\n"),
    )
    ∷ (
      codes "probe fred deliver vector=3 type=6",
      Ok (codes "try 3 error 0\n"
          ++ codes "frame ffffc90000003fc0 0 400000 33 40202 0 120600030000002b 0 0\n"
          ++ codes "cpu rip ffffffff81000000 cs 10 ss 18 flags 2 rsp ffffc90000003fc0 level 0 nmi 0 cr2 0\n"),
    )
    ∷ (
      codes "probe fred deliver vector=0x80 type=6",
      Ok (codes "try 128 error 0\n"
          ++ codes "frame ffffc90000003fc0 0 400000 33 40202 0 120600800000002b 0 0\n"
          ++ codes "cpu rip ffffffff81000000 cs 10 ss 18 flags 2 rsp ffffc90000003fc0 level 0 nmi 0 cr2 0\n"),
    )
    ∷ (
      codes "probe fred deliver vector=0x80 type=6 cpl=0 rsp=0xffffc90000007ff8",
      Ok (codes "try 128 error 0\n"
          ++ codes "frame ffffc90000007f40 0 400000 10 40202 ffffc90000007ff8 1206008000000018 0 0\n"
          ++ codes "cpu rip ffffffff81000100 cs 10 ss 18 flags 2 rsp ffffc90000007f40 level 0 nmi 0 cr2 0\n"),
    )
    ∷ (
      codes "probe fred deliver vector=1 type=5 sti=1",
      Ok (codes "try 1 error 0\n"
          ++ codes "frame ffffc90000003fc0 0 400000 33 40202 0 120500010001002b 0 0\n"
          ++ codes "cpu rip ffffffff81000000 cs 10 ss 18 flags 2 rsp ffffc90000003fc0 level 0 nmi 0 cr2 0\n"),
    )
    ∷ (
      codes "probe fred deliver vector=1 type=7 flags=0x40ac3",
      Ok (codes "try 1 error 0\n"
          ++ codes "frame ffffc90000003fc0 0 400000 33 40ac3 0 220700010002002b 0 0\n"
          ++ codes "cpu rip ffffffff81000000 cs 10 ss 18 flags 2 rsp ffffc90000003fc0 level 0 nmi 0 cr2 0\n"),
    )
    ∷ (
      codes "probe fred deliver vector=20 error=0 bad=1",
      Ok (codes "try 20 error 0\n"
          ++ codes "try 8 error 0\n"
          ++ codes "frame ffffc90000017fc0 0 400000 33 40202 0 20300080000002b 0 0\n"
          ++ codes "cpu rip ffffffff81000000 cs 10 ss 18 flags 2 rsp ffffc90000017fc0 level 3 nmi 0 cr2 ffffc90000003ff8\n"),
    )
    ∷ (
      codes "probe fred deliver vector=21 error=5",
      Ok (codes "try 21 error 5\n"
          ++ codes "frame ffffc90000003fc0 5 400000 33 40202 0 20300150000002b 0 0\n"
          ++ codes "cpu rip ffffffff81000000 cs 10 ss 18 flags 2 rsp ffffc90000003fc0 level 0 nmi 0 cr2 0\n"),
    )
    ∷ (
      codes "probe fred deliver vector=0 bad=1 level=3",
      Ok (codes "try 0 error 0\n"
          ++ codes "try 14 error 2\n"
          ++ codes "frame ffffc90000017fc0 2 400000 30033 40202 0 603000e0000002b ffffc90000003ff8 0\n"
          ++ codes "cpu rip ffffffff81000000 cs 10 ss 18 flags 2 rsp ffffc90000017fc0 level 3 nmi 0 cr2 ffffc90000003ff8\n"),
    )
    ∷ []

software : answered software_rows ≡ software_rows
unfolding software_rows probing
software = refl

unfoldable bottoms_rows : List Row
bottoms_rows = (
  codes "probe idt deliver vector=32 type=0 cpl=0 rsp=0xffffc90000002000",
  Ok (codes "try 32 error 0\n"
      ++ codes "try 14 error 2\n"
      ++ codes "try 8 error 0\n"
      ++ codes "frame ffffc90000017fd0 0 400000 10 40202 ffffc90000002000 18\n"
      ++ codes "cpu rip ffffffff81002080 cs 10 ss 18 flags 40002 rsp ffffc90000017fd0 level 0 nmi 0 cr2 ffffc90000001ff8\n"),
)
    ∷ (
      codes "probe idt deliver vector=13 error=1 cpl=0 rsp=0xffffc90000002000",
      Ok (codes "try 13 error 1\n"
          ++ codes "try 14 error 2\n"
          ++ codes "try 8 error 0\n"
          ++ codes "frame ffffc90000017fd0 0 400000 10 40202 ffffc90000002000 18\n"
          ++ codes "cpu rip ffffffff81002080 cs 10 ss 18 flags 40002 rsp ffffc90000017fd0 level 0 nmi 0 cr2 ffffc90000001ff8\n"),
    )
    ∷ (
      codes "probe idt deliver vector=32 type=0 cpl=0 rsp=0xffffc90000002010",
      Ok (codes "try 32 error 0\n"
          ++ codes "try 14 error 2\n"
          ++ codes "try 8 error 0\n"
          ++ codes "frame ffffc90000017fd0 0 400000 10 40202 ffffc90000002010 18\n"
          ++ codes "cpu rip ffffffff81002080 cs 10 ss 18 flags 40002 rsp ffffc90000017fd0 level 0 nmi 0 cr2 ffffc90000001ff8\n"),
    )
    ∷ (
      codes "probe idt deliver vector=13 error=1 cpl=0 rsp=0xffffc90000002010",
      Ok (codes "try 13 error 1\n"
          ++ codes "try 14 error 2\n"
          ++ codes "try 8 error 0\n"
          ++ codes "frame ffffc90000017fd0 0 400000 10 40202 ffffc90000002010 18\n"
          ++ codes "cpu rip ffffffff81002080 cs 10 ss 18 flags 40002 rsp ffffc90000017fd0 level 0 nmi 0 cr2 ffffc90000001ff8\n"),
    )
    ∷ (
      codes "probe idt deliver vector=32 type=0 cpl=0 rsp=0xffffc90000002020",
      Ok (codes "try 32 error 0\n"
          ++ codes "try 14 error 2\n"
          ++ codes "try 8 error 0\n"
          ++ codes "frame ffffc90000017fd0 0 400000 10 40202 ffffc90000002020 18\n"
          ++ codes "cpu rip ffffffff81002080 cs 10 ss 18 flags 40002 rsp ffffc90000017fd0 level 0 nmi 0 cr2 ffffc90000001ff8\n"),
    )
    ∷ (
      codes "probe idt deliver vector=13 error=1 cpl=0 rsp=0xffffc90000002020",
      Ok (codes "try 13 error 1\n"
          ++ codes "try 14 error 2\n"
          ++ codes "try 8 error 0\n"
          ++ codes "frame ffffc90000017fd0 0 400000 10 40202 ffffc90000002020 18\n"
          ++ codes "cpu rip ffffffff81002080 cs 10 ss 18 flags 40002 rsp ffffc90000017fd0 level 0 nmi 0 cr2 ffffc90000001ff8\n"),
    )
    ∷ (
      codes "probe idt deliver vector=32 type=0 cpl=0 rsp=0xffffc90000002030",
      Ok (codes "try 32 error 0\n"
          ++ codes "frame ffffc90000002008 400000 10 40202 ffffc90000002030 18\n"
          ++ codes "cpu rip ffffffff81002200 cs 10 ss 18 flags 40002 rsp ffffc90000002008 level 0 nmi 0 cr2 0\n"),
    )
    ∷ (
      codes "probe idt deliver vector=13 error=1 cpl=0 rsp=0xffffc90000002030",
      Ok (codes "try 13 error 1\n"
          ++ codes "frame ffffc90000002000 1 400000 10 40202 ffffc90000002030 18\n"
          ++ codes "cpu rip ffffffff810020d0 cs 10 ss 18 flags 40002 rsp ffffc90000002000 level 0 nmi 0 cr2 0\n"),
    )
    ∷ (
      codes "probe fred deliver vector=32 type=0 cpl=0 rsp=0xffffc90000002000",
      Ok (codes "try 32 error 0\n"
          ++ codes "try 14 error 2\n"
          ++ codes "try 8 error 0\n"
          ++ codes "frame ffffc90000017fc0 0 400000 10 40202 ffffc90000002000 203000800000018 0 0\n"
          ++ codes "cpu rip ffffffff81000100 cs 10 ss 18 flags 2 rsp ffffc90000017fc0 level 3 nmi 0 cr2 ffffc90000001fb8\n"),
    )
    ∷ (
      codes "probe fred deliver vector=32 type=0 cpl=0 rsp=0xffffc90000002040",
      Ok (codes "try 32 error 0\n"
          ++ codes "try 14 error 2\n"
          ++ codes "try 8 error 0\n"
          ++ codes "frame ffffc90000017fc0 0 400000 10 40202 ffffc90000002040 203000800000018 0 0\n"
          ++ codes "cpu rip ffffffff81000100 cs 10 ss 18 flags 2 rsp ffffc90000017fc0 level 3 nmi 0 cr2 ffffc90000001ff8\n"),
    )
    ∷ (
      codes "probe fred deliver vector=32 type=0 cpl=0 rsp=0xffffc90000002080",
      Ok (codes "try 32 error 0\n"
          ++ codes "frame ffffc90000002000 0 400000 10 40202 ffffc90000002080 200002000000018 0 0\n"
          ++ codes "cpu rip ffffffff81000100 cs 10 ss 18 flags 2 rsp ffffc90000002000 level 0 nmi 0 cr2 0\n"),
    )
    ∷ (
      codes "probe fred deliver vector=32 type=0 cpl=0 rsp=0xffffc900000020c0",
      Ok (codes "try 32 error 0\n"
          ++ codes "frame ffffc90000002040 0 400000 10 40202 ffffc900000020c0 200002000000018 0 0\n"
          ++ codes "cpu rip ffffffff81000100 cs 10 ss 18 flags 2 rsp ffffc90000002040 level 0 nmi 0 cr2 0\n"),
    )
    ∷ (
      codes "probe fred deliver vector=32 type=0 cpl=0 rsp=0xffffc90000002100",
      Ok (codes "try 32 error 0\n"
          ++ codes "frame ffffc90000002080 0 400000 10 40202 ffffc90000002100 200002000000018 0 0\n"
          ++ codes "cpu rip ffffffff81000100 cs 10 ss 18 flags 2 rsp ffffc90000002080 level 0 nmi 0 cr2 0\n"),
    )
    ∷ []

bottoms : answered bottoms_rows ≡ bottoms_rows
unfolding bottoms_rows probing
bottoms = refl

unfoldable returns_rows : List Row
returns_rows = (
  codes "probe idt iretq nmi=1 sti=1 rsp=0xffffc90000003f00 w0=0x400000 w1=0x33 w2=0x40202 w3=0x800000000000 w4=0x2b",
  Ok (codes "cpu rip 400000 cs 33 ss 2b flags 40202 rsp 800000000000 level 0 nmi 0 cr2 0\n"),
)
    ∷ (codes "probe idt iretq nmi=1 sti=1 rsp=0xffffc90000003f00 w0=0x800000000000 w1=0x33 w2=0x40202 w3=0 w4=0x2b", Ok (codes "raise 13 error 0\n"))
    ∷ (
      codes "probe idt iretq nmi=1 sti=1 rsp=0xffffc90000003f00 w0=0xffffffff82000000 w1=0x10 w2=0x202 w3=8 w4=0",
      Ok (codes "cpu rip ffffffff82000000 cs 10 ss 0 flags 202 rsp 8 level 0 nmi 0 cr2 0\n"),
    )
    ∷ (
      codes "probe idt iretq nmi=1 sti=1 rsp=0xffffc90000003f00 w0=0xffffffff82000000 w1=0x10 w2=2 w3=8 w4=0x18",
      Ok (codes "cpu rip ffffffff82000000 cs 10 ss 18 flags 2 rsp 8 level 0 nmi 0 cr2 0\n"),
    )
    ∷ (codes "probe idt iretq nmi=1 sti=1 rsp=0xffffc90000003f00 w0=0xffffffff82000000 w1=0x10 w2=2 w3=8 w4=0x2b", Ok (codes "raise 13 error 0\n"))
    ∷ (codes "probe idt iretq nmi=1 sti=1 rsp=0xffffc90000003f00 w0=0x400000 w1=0x33 w2=2 w3=8 w4=0x18", Ok (codes "raise 13 error 0\n"))
    ∷ (
      codes "probe idt iretq nmi=1 sti=1 rsp=0xffffc90000003f00 w0=0x400000 w1=0xff0033 w2=0xffffffffffffffff w3=8 w4=0x1002b",
      Ok (codes "cpu rip 400000 cs 33 ss 2b flags 40ac3 rsp 8 level 0 nmi 0 cr2 0\n"),
    )
    ∷ (codes "probe idt iretq nmi=1 sti=1 rsp=0xffffc90000003f00 w0=0x400000 w1=0x30 w2=2 w3=8 w4=0x2b", Ok (codes "raise 13 error 0\n"))
    ∷ (
      codes "probe fred eretu level=0 nmi=1 rsp=0xffffc90000003f00 w1=0x400010 w2=0x33 w3=0x40ad7 w4=0x800000000000 w5=0x2b",
      Ok (codes "cpu rip 400010 cs 33 ss 2b flags 40ac3 rsp 800000000000 level 0 nmi 1 cr2 0\n"),
    )
    ∷ (
      codes "probe fred eretu level=0 nmi=1 rsp=0xffffc90000003f00 w1=0x400010 w2=0x10 w3=0x40ad7 w4=0x800000000000 w5=0x18",
      Ok (codes "raise 13 error 0\n"),
    )
    ∷ (
      codes "probe fred eretu level=0 nmi=1 rsp=0xffffc90000003f00 w1=0x400010 w2=0x20010 w3=0x40ad7 w4=0x800000000000 w5=0x50018",
      Ok (codes "raise 13 error 0\n"),
    )
    ∷ (
      codes "probe fred eretu level=0 nmi=1 rsp=0xffffc90000003f00 w1=0x400010 w2=0x10010 w3=0x40ad7 w4=0x800000000000 w5=0x10000",
      Ok (codes "raise 13 error 0\n"),
    )
    ∷ (
      codes "probe fred eretu level=0 nmi=1 rsp=0xffffc90000003f00 w1=0x400010 w2=0x33 w3=0x40ad7 w4=0x800000000000 w5=0x4002b",
      Ok (codes "cpu rip 400010 cs 33 ss 2b flags 40ac3 rsp 800000000000 level 0 nmi 0 cr2 0\n"),
    )
    ∷ (
      codes "probe fred eretu level=0 nmi=1 rsp=0xffffc90000003f00 w1=0x400010 w2=0x33 w3=0x40ad7 w4=0x800000000000 w5=0x1002b",
      Ok (codes "cpu rip 400010 cs 33 ss 2b flags 40ac3 rsp 800000000000 level 0 nmi 1 cr2 0\n"),
    )
    ∷ (
      codes "probe fred eretu level=0 nmi=1 rsp=0xffffc90000003f00 w1=0x400010 w2=0x30010 w3=0x40ad7 w4=0x800000000000 w5=0x18",
      Ok (codes "raise 13 error 0\n"),
    )
    ∷ (
      codes "probe fred eretu level=2 nmi=1 rsp=0xffffc90000003f00 w1=0x400010 w2=0x33 w3=0x40ad7 w4=0x800000000000 w5=0x2b",
      Ok (codes "raise 13 error 0\n"),
    )
    ∷ (
      codes "probe fred eretu level=2 nmi=1 rsp=0xffffc90000003f00 w1=0x400010 w2=0x10 w3=0x40ad7 w4=0x800000000000 w5=0x18",
      Ok (codes "raise 13 error 0\n"),
    )
    ∷ (
      codes "probe fred eretu level=2 nmi=1 rsp=0xffffc90000003f00 w1=0x400010 w2=0x20010 w3=0x40ad7 w4=0x800000000000 w5=0x50018",
      Ok (codes "raise 13 error 0\n"),
    )
    ∷ (
      codes "probe fred eretu level=2 nmi=1 rsp=0xffffc90000003f00 w1=0x400010 w2=0x10010 w3=0x40ad7 w4=0x800000000000 w5=0x10000",
      Ok (codes "raise 13 error 0\n"),
    )
    ∷ (
      codes "probe fred eretu level=2 nmi=1 rsp=0xffffc90000003f00 w1=0x400010 w2=0x33 w3=0x40ad7 w4=0x800000000000 w5=0x4002b",
      Ok (codes "raise 13 error 0\n"),
    )
    ∷ (
      codes "probe fred eretu level=2 nmi=1 rsp=0xffffc90000003f00 w1=0x400010 w2=0x33 w3=0x40ad7 w4=0x800000000000 w5=0x1002b",
      Ok (codes "raise 13 error 0\n"),
    )
    ∷ (
      codes "probe fred eretu level=2 nmi=1 rsp=0xffffc90000003f00 w1=0x400010 w2=0x30010 w3=0x40ad7 w4=0x800000000000 w5=0x18",
      Ok (codes "raise 13 error 0\n"),
    )
    ∷ (codes "probe fred eretu rsp=0xffffc90000003f00 w1=0x800000000000 w2=0x33 w5=0x2b", Ok (codes "raise 13 error 0\n"))
    ∷ (
      codes "probe fred erets level=0 nmi=1 rsp=0xffffc90000003f00 w1=0x400010 w2=0x33 w3=0x40ad7 w4=0x800000000000 w5=0x2b",
      Ok (codes "raise 13 error 0\n"),
    )
    ∷ (
      codes "probe fred erets level=0 nmi=1 rsp=0xffffc90000003f00 w1=0x400010 w2=0x10 w3=0x40ad7 w4=0x800000000000 w5=0x18",
      Ok (codes "cpu rip 400010 cs 10 ss 18 flags 40ac3 rsp 800000000000 level 0 nmi 1 cr2 0\n"),
    )
    ∷ (
      codes "probe fred erets level=0 nmi=1 rsp=0xffffc90000003f00 w1=0x400010 w2=0x20010 w3=0x40ad7 w4=0x800000000000 w5=0x50018",
      Ok (codes "raise 13 error 0\n"),
    )
    ∷ (
      codes "probe fred erets level=0 nmi=1 rsp=0xffffc90000003f00 w1=0x400010 w2=0x10010 w3=0x40ad7 w4=0x800000000000 w5=0x10000",
      Ok (codes "raise 13 error 0\n"),
    )
    ∷ (
      codes "probe fred erets level=0 nmi=1 rsp=0xffffc90000003f00 w1=0x400010 w2=0x33 w3=0x40ad7 w4=0x800000000000 w5=0x4002b",
      Ok (codes "raise 13 error 0\n"),
    )
    ∷ (
      codes "probe fred erets level=0 nmi=1 rsp=0xffffc90000003f00 w1=0x400010 w2=0x33 w3=0x40ad7 w4=0x800000000000 w5=0x1002b",
      Ok (codes "raise 13 error 0\n"),
    )
    ∷ (
      codes "probe fred erets level=0 nmi=1 rsp=0xffffc90000003f00 w1=0x400010 w2=0x30010 w3=0x40ad7 w4=0x800000000000 w5=0x18",
      Ok (codes "raise 13 error 0\n"),
    )
    ∷ (
      codes "probe fred erets level=2 nmi=1 rsp=0xffffc90000003f00 w1=0x400010 w2=0x33 w3=0x40ad7 w4=0x800000000000 w5=0x2b",
      Ok (codes "raise 13 error 0\n"),
    )
    ∷ (
      codes "probe fred erets level=2 nmi=1 rsp=0xffffc90000003f00 w1=0x400010 w2=0x10 w3=0x40ad7 w4=0x800000000000 w5=0x18",
      Ok (codes "cpu rip 400010 cs 10 ss 18 flags 40ac3 rsp 800000000000 level 0 nmi 1 cr2 0\n"),
    )
    ∷ (
      codes "probe fred erets level=2 nmi=1 rsp=0xffffc90000003f00 w1=0x400010 w2=0x20010 w3=0x40ad7 w4=0x800000000000 w5=0x50018",
      Ok (codes "cpu rip 400010 cs 10 ss 18 flags 40ac3 rsp 800000000000 level 2 nmi 0 cr2 0\n"),
    )
    ∷ (
      codes "probe fred erets level=2 nmi=1 rsp=0xffffc90000003f00 w1=0x400010 w2=0x10010 w3=0x40ad7 w4=0x800000000000 w5=0x10000",
      Ok (codes "cpu rip 400010 cs 10 ss 18 flags 40ac3 rsp 800000000000 level 1 nmi 1 cr2 0\n"),
    )
    ∷ (
      codes "probe fred erets level=2 nmi=1 rsp=0xffffc90000003f00 w1=0x400010 w2=0x33 w3=0x40ad7 w4=0x800000000000 w5=0x4002b",
      Ok (codes "raise 13 error 0\n"),
    )
    ∷ (
      codes "probe fred erets level=2 nmi=1 rsp=0xffffc90000003f00 w1=0x400010 w2=0x33 w3=0x40ad7 w4=0x800000000000 w5=0x1002b",
      Ok (codes "raise 13 error 0\n"),
    )
    ∷ (
      codes "probe fred erets level=2 nmi=1 rsp=0xffffc90000003f00 w1=0x400010 w2=0x30010 w3=0x40ad7 w4=0x800000000000 w5=0x18",
      Ok (codes "raise 13 error 0\n"),
    )
    ∷ (codes "probe fred erets rsp=0xffffc90000003f00 w1=0x800000000000 w2=0x10 w5=0x2b", Ok (codes "raise 13 error 0\n"))
    ∷ []

returns : answered returns_rows ≡ returns_rows
unfolding returns_rows probing
returns = refl

-- ---- whole inputs

abbrev InputRow : Type 0
InputRow = List ℕ × Result (List ℕ) (ℕ × Cause)

abbrev read_inputs : List InputRow → List InputRow
read_inputs rows = map (λ (row : InputRow). (row.0, input_text row.0)) rows

unfoldable input_rows : List InputRow
input_rows =
    ([], Err (0, Cause.NoEnd))
    ∷ (codes "\n", Err (1, Cause.NoEnd))
    ∷ (codes "# only\n\n", Err (2, Cause.NoEnd))
    ∷ (
      codes "probe idt deliver\n",
      Ok (codes "try 14 error 0\n"
          ++ codes "frame ffffc90000003fd0 0 400000 33 40202 0 2b\n"
          ++ codes "cpu rip ffffffff810020e0 cs 10 ss 0 flags 40002 rsp ffffc90000003fd0 level 0 nmi 0 cr2 0\n"),
    )
    ∷ (
      codes "probe idt deliver",
      Ok (codes "try 14 error 0\n"
          ++ codes "frame ffffc90000003fd0 0 400000 33 40202 0 2b\n"
          ++ codes "cpu rip ffffffff810020e0 cs 10 ss 0 flags 40002 rsp ffffc90000003fd0 level 0 nmi 0 cr2 0\n"),
    )
    ∷ (
      codes "  probe  idt   deliver  ",
      Ok (codes "try 14 error 0\n"
          ++ codes "frame ffffc90000003fd0 0 400000 33 40202 0 2b\n"
          ++ codes "cpu rip ffffffff810020e0 cs 10 ss 0 flags 40002 rsp ffffc90000003fd0 level 0 nmi 0 cr2 0\n"),
    )
    ∷ (codes "# a\n\n probe fred deliver bad=0x21\n# b\n \n", Ok (codes "try 14 error 0\ntry 8 error 0\nshutdown\n"))
    ∷ (codes "probe idt deliver\nprobe idt deliver\n", Err (2, Cause.AfterEnd))
    ∷ (codes "probe idt deliver\n#\nx\n", Err (3, Cause.AfterEnd))
    ∷ (codes "# a\nprobe idt\n", Err (2, Cause.Count))
    ∷ (codes "probe idt deliver\n" ++ 7 ∷ codes "\n", Err (2, Cause.NotAscii))
    ∷ (codes "#" ++ 7 ∷ codes "\nprobe idt deliver\n", Err (1, Cause.NotAscii))
    ∷ (codes "probe idt iretq rsp=0xffffc90000003f00 w1=0x33\n# end", Ok (codes "raise 13 error 0\n"))
    ∷ []

inputs : read_inputs input_rows ≡ input_rows
unfolding input_rows probing is_passed_over byte_fault fault_from text_of line_follows lines_of read_line read_told follows whole input_text read
    tokens_follow
inputs = refl

-- ---- returns whose words can't all be read, which no line asks for

-- the event that a return meets: its vector, its error code, its address, and CR2 after it
abbrev met : Outcome → List ℕ
met (Went c words frame) = []
met (Met c e) = e.vector ∷ e.error ∷ e.info ∷ c.cr2 ∷ []

abbrev at_rsp : Mode → ℕ → ℕ → Probe
at_rsp mode rsp bad = record {
  mode = mode;
  cpl = 0;
  rip = 0xffffffff81003400;
  flags = 2;
  rsp = rsp;
  level = 0;
  sti = false;
  nmi = false;
  stklvls = 0x30020;
  bad = bad;
  words = [];
}

abbrev by_iretq : ℕ → ℕ → List ℕ
by_iretq rsp bad = met (iretq (probe_cpu (at_rsp Idt rsp bad)) (probe_memory (at_rsp Idt rsp bad)))

abbrev by_eretu : ℕ → ℕ → List ℕ
by_eretu rsp bad = met (eretu (probe_cpu (at_rsp Fred rsp bad)) (probe_memory (at_rsp Fred rsp bad)))

-- each word in turn is the first above the stack's top
iretq_words : map (λ k. by_iretq (0xffffc90000004000 - 8 * k) 0) (0 ∷ 1 ∷ 2 ∷ 3 ∷ 4 ∷ [])
    ≡ replicate 5 (14 ∷ 0 ∷ 0xffffc90000004000 ∷ 0xffffc90000004000 ∷ [])
unfolding probing
iretq_words = refl

-- ERETU reads from the second word on
eretu_words : map (λ k. by_eretu (0xffffc90000003ff8 - 8 * k) 0) (0 ∷ 1 ∷ 2 ∷ 3 ∷ 4 ∷ [])
    ≡ replicate 5 (14 ∷ 0 ∷ 0xffffc90000004000 ∷ 0xffffc90000004000 ∷ [])
unfolding probing
eretu_words = refl

-- on an unmapped stack, at an address that isn't canonical, at one that is no multiple of 8, and below the stacks
iretq_stacks : map (λ rsp. by_iretq rsp 1) (0xffffc90000003f00 ∷ 0x800000000000 ∷ 0xffffc90000007f04 ∷ 0xffffc90000000000 ∷ [])
    ≡ (14 ∷ 0 ∷ 0xffffc90000003f00 ∷ 0xffffc90000003f00 ∷ []) ∷ (12 ∷ 0 ∷ 0 ∷ 0 ∷ []) ∷ (17 ∷ 0 ∷ 0 ∷ 0 ∷ [])
    ∷ (14 ∷ 0 ∷ 0xffffc90000000000 ∷ 0xffffc90000000000 ∷ []) ∷ []
unfolding probing
iretq_stacks = refl
