use Rattle.std.proofs.Common.{sym, subst}
use Rattle.ev_body.specs.KernelImage.{KernelImage}
use Rattle.ev_command.specs.declared.command.Command.{Command}
use Rattle.ev_command.specs.declared.command.Command.TheVariants.{Run, Asm, Check}
use Rattle.ev_io.proofs.Bytes.{draws_then}
use Rattle.fredbox.specs.Answer.{comes_of}
use Rattle.fredbox.specs.Broken.{BreaksOff}
use Rattle.fredbox.specs.Faults.{CountsRead}
use Rattle.fredbox.specs.Taken.{Took}
use Rattle.fredbox.proofs.FaultLaws.{counts_behind, image_counts}
use Rattle.fredbox.proofs.TakenLaws.{fresh_coming, opened_from, opened_took, script_broke, stands_behind}
use Rattle.fredbox.proofs.top.of_image.Goals as goal

pub returns-in-Run-clause-draws : goal.returns-in-Run-clause-draws
returns-in-Run-clause-draws g c = draws_then _ _ _ _ _ _ c.in-Ok.ensures.draws c.run.ensures.draws

pub returns-in-Asm-clause-draws : goal.returns-in-Asm-clause-draws
returns-in-Asm-clause-draws g c = draws_then _ _ _ _ _ _ c.in-Ok.ensures.draws c.asm.ensures.draws

pub returns-in-Check-clause-draws : goal.returns-in-Check-clause-draws
returns-in-Check-clause-draws g c = draws_then _ _ _ _ _ _ c.in-Ok.ensures.draws c.check.ensures.draws

pub returns-in-Check-clause-took : goal.returns-in-Check-clause-took
returns-in-Check-clause-took g c = λ bytes e.
    let reads = c.in-Ok.ensures.reads bytes (fresh_coming _ _ bytes c.requires.fresh e) in
    let at = opened_from c.args.lines.now c.read_image.new.lines bytes reads.0 c.in-Ok.image c.requires.fresh reads.2 in
    subst (λ (x : Command). Took (g.K.Sink.taken c.args.sink.now) (g.K.Sink.taken c.check.new.sink) (comes_of x bytes) c.check.result) (sym c.in-Check.is)
    (opened_took _ _ Check bytes (stands_behind c.in-Ok.image c.read_image.new.lines reads.0) _ tt at (c.check.ensures.took reads.0 reads.1))

pub returns-in-Run-clause-broken : goal.returns-in-Run-clause-broken
returns-in-Run-clause-broken g c = λ h bytes e.
    let reads = c.in-Ok.ensures.reads bytes (fresh_coming _ _ bytes c.requires.fresh e) in
    let at = opened_from c.args.lines.now c.read_image.new.lines bytes reads.0 c.in-Ok.image c.requires.fresh reads.2 in
    subst (λ (x : Command). BreaksOff x bytes (g.S.Source.left c.run.new.src)) (sym c.in-Run.is)
    (script_broke (Run c.in-Run.mode c.in-Run.frames) bytes c.in-Ok.image c.read_image.new.lines c.run.new.lines reads.0 _ tt at
    (c.run.ensures.broken h reads.0 reads.1))

pub returns-in-Asm-clause-broken : goal.returns-in-Asm-clause-broken
returns-in-Asm-clause-broken g c = λ h bytes e.
    let reads = c.in-Ok.ensures.reads bytes (fresh_coming _ _ bytes c.requires.fresh e) in
    let at = opened_from c.args.lines.now c.read_image.new.lines bytes reads.0 c.in-Ok.image c.requires.fresh reads.2 in
    subst (λ (x : Command). BreaksOff x bytes (g.S.Source.left c.asm.new.src)) (sym c.in-Asm.is)
    (script_broke Asm bytes c.in-Ok.image c.read_image.new.lines c.asm.new.lines reads.0 _ tt at (c.asm.ensures.broken h reads.0 reads.1))

pub returns-in-Check-clause-broken : goal.returns-in-Check-clause-broken
returns-in-Check-clause-broken g c = λ h bytes e.
    let reads = c.in-Ok.ensures.reads bytes (fresh_coming _ _ bytes c.requires.fresh e) in
    let at = opened_from c.args.lines.now c.read_image.new.lines bytes reads.0 c.in-Ok.image c.requires.fresh reads.2 in
    subst (λ (x : Command). BreaksOff x bytes (g.S.Source.left c.check.new.src)) (sym c.in-Check.is)
    (script_broke Check bytes c.in-Ok.image c.read_image.new.lines c.check.new.lines reads.0 _ tt at (c.check.ensures.broken h reads.0 reads.1))

pub returns-in-Err-clause-read : goal.returns-in-Err-clause-read
returns-in-Err-clause-read g c =
    subst (CountsRead _ _) (sym c.image_status.ensures.is) (image_counts KernelImage _ _ c.in-Err.fault c.in-Err.ensures.cause)

pub returns-in-Run-clause-read : goal.returns-in-Run-clause-read
returns-in-Run-clause-read g c = counts_behind _ _ _ _ c.in-Ok.ensures.cause c.run.ensures.read

pub returns-in-Asm-clause-read : goal.returns-in-Asm-clause-read
returns-in-Asm-clause-read g c = counts_behind _ _ _ _ c.in-Ok.ensures.cause c.asm.ensures.read

pub returns-in-Check-clause-read : goal.returns-in-Check-clause-read
returns-in-Check-clause-read g c = counts_behind _ _ _ _ c.in-Ok.ensures.cause c.check.ensures.read
