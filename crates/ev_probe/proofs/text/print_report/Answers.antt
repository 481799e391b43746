use Rattle.std.proofs.Common.{◌∙◌, ap}
use Rattle.std.specs.Prelude.{flat_map}
use Rattle.ev_probe.specs.Told.{told}
use Rattle.ev_probe.specs.Probe.{try_text}
use Rattle.ev_probe.proofs.Answers.{prints, report_is}
use Rattle.ev_probe.proofs.Inputs.{input_prints}
use Rattle.ev_probe.proofs.text.print_report.Goals as goal

pub returns-clause-line : goal.returns-clause-line
returns-clause-line c line h =
    prints line c.push_end.new.out.bytes (told c.args.r.now)
    (report_is (told c.args.r.now) c.push_tries.new.out.bytes c.push_frame.new.out.bytes c.push_end.new.out.bytes
    (c.push_tries.ensures.bytes ∙ ap (flat_map try_text) c.as_slice.ensures.value) c.push_frame.ensures.bytes c.push_end.ensures) h

pub returns-clause-input : goal.returns-clause-input
returns-clause-input c bytes h =
    input_prints bytes c.push_end.new.out.bytes (told c.args.r.now)
    (report_is (told c.args.r.now) c.push_tries.new.out.bytes c.push_frame.new.out.bytes c.push_end.new.out.bytes
    (c.push_tries.ensures.bytes ∙ ap (flat_map try_text) c.as_slice.ensures.value) c.push_frame.ensures.bytes c.push_end.ensures) h
