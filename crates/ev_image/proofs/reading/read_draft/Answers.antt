use Rattle.std.proofs.Common.{◌∙◌, refl, arith, ap, sym, [], ◌∷◌, Ok}
use Rattle.ev_io.specs.Tokens.{tokens_of}
use Rattle.ev_io.proofs.Bytes.{draws_nothing, draws_then}
use Rattle.ev_io.proofs.StandLaws.{stands_first, stands_more}
use Rattle.ev_image.specs.declared.draft.Draft.{Draft}
use Rattle.ev_image.specs.declared.head.Head.{Head}
use Rattle.ev_image.specs.declared.head.Head.TheVariants as heads
use Rattle.ev_image.specs.Head.{head_follows}
use Rattle.ev_image.specs.Reads.{image_in}
use Rattle.ev_image.proofs.ReadLaws.{counts_again, followed, refused, script_line, skips_to}
use Rattle.ev_image.proofs.reading.read_draft.Goals as goal

pub loop-next-init : goal.loop-next-init
loop-next-init g c = record {
  stands = λ bytes e. stands_first head_follows c.args.lines.now heads.Image bytes _ e;
  before = refl;
  reached = ([], refl);
  draws = draws_nothing _ _;
  count = refl;
}

pub returns-in-Err-clause-reads : goal.returns-in-Err-clause-reads
returns-in-Err-clause-reads g c = λ bytes e.
    let stands = c.loop-next.invariant.stands bytes e in
    let said = c.in-Err.ensures.said in
    refused c.args.lines.now bytes c.loop-next.lines _ _ c.next_head.new.lines _ said.0 c.in-Err.fault c.loop-next.invariant.before stands
    (said.2 stands.left stands.to_come) said.1

pub returns-in-Err-clause-draws : goal.returns-in-Err-clause-draws
returns-in-Err-clause-draws g c = draws_then _ _ _ _ _ _ c.loop-next.invariant.draws c.next_head.ensures.draws

pub returns-in-Err-clause-later : goal.returns-in-Err-clause-later
returns-in-Err-clause-later g c = omega (arith, c.loop-next.invariant.count, c.next_head.ensures.later)

pub returns-in-Err-clause-cause : goal.returns-in-Err-clause-cause
returns-in-Err-clause-cause g c = counts_again Head Draft c.in-Err.fault _ _ _ c.loop-next.invariant.count c.in-Err.ensures.cause

pub returns-in-Ok-opened-clause-reads : goal.returns-in-Ok-opened-clause-reads
returns-in-Ok-opened-clause-reads g c = λ bytes e.
    let stands = c.loop-next.invariant.stands bytes e in
    let said = c.in-Ok.ensures.said in
    let line = followed c.loop-next.head c.next_head.new.lines said.0 c.in-Ok.next said.1 in
    let skips = skips_to c.loop-next.lines stands.left c.next_head.new.lines _ line.0 said.0 (said.2 stands.left stands.to_come) line.1 in
    script_line c.args.lines.now bytes c.loop-next.lines _ _ c.next_head.new.lines _ line.0 c.in-Ok-opened.draft c.loop-next.invariant.before stands skips
    (line.2 ∙ ap Ok c.in-Ok-opened.ensures)

pub returns-in-Ok-opened-clause-reached : goal.returns-in-Ok-opened-clause-reached
returns-in-Ok-opened-clause-reached g c =
    let reached = c.loop-next.invariant.reached in
    let said = c.in-Ok.ensures.said in
    let line = followed c.loop-next.head c.next_head.new.lines said.0 c.in-Ok.next said.1 in
    (tokens_of c.next_head.new.lines.text ∷ reached.0, (c.loop-next.head, reached.1, line.2 ∙ ap Ok c.in-Ok-opened.ensures))

pub returns-in-Ok-opened-clause-draws : goal.returns-in-Ok-opened-clause-draws
returns-in-Ok-opened-clause-draws g c = draws_then _ _ _ _ _ _ c.loop-next.invariant.draws c.next_head.ensures.draws

pub loop-next-preserved : goal.loop-next-preserved
loop-next-preserved g c =
    let same = sym c.in-Err-opened.ensures.0 in
    let reached = c.loop-next.invariant.reached in
    let said = c.in-Ok.ensures.said in
    let line = followed c.loop-next.head c.next_head.new.lines said.0 c.in-Ok.next said.1 in
    record {
      stands = λ bytes e.
          let stands = c.loop-next.invariant.stands bytes e in
          let skips = skips_to c.loop-next.lines stands.left c.next_head.new.lines _ line.0 said.0 (said.2 stands.left stands.to_come) line.1 in
          stands_more head_follows c.args.lines.now heads.Image bytes c.loop-next.lines _ _ c.next_head.new.lines _ line.0 _ stands skips
          (line.2 ∙ ap Ok same);
      before = ap image_in c.in-Err-opened.ensures.0 ∙ c.in-Err-opened.ensures.1;
      reached = (tokens_of c.next_head.new.lines.text ∷ reached.0, (c.loop-next.head, reached.1, line.2 ∙ ap Ok same));
      draws = draws_then _ _ _ _ _ _ c.loop-next.invariant.draws c.next_head.ensures.draws;
      count = omega (arith, c.loop-next.invariant.count, c.in-Ok.ensures.cause);
    }
