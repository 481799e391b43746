use Rattle.std.proofs.Common.{◌≡◌, ◌∙◌, refl, arith, length, [], Err, Vec, Global}
use Rattle.ev_abstract.specs.declared.script_line.Line.{Line}
use Rattle.ev_io.specs.Tokens.{tokens_of}
use Rattle.ev_io.proofs.Bytes.{draws_nothing, draws_then}
use Rattle.ev_io.proofs.StandLaws.{stands_first, stands_more}
use Rattle.ev_script.specs.Script.{Open, follows, said}
use Rattle.ev_script.proofs.ScriptLaws.{follow_more, follow_end, follow_bad, faulty, bad_line, last_line, read_counts, more_formed, said_at}
use Rattle.ev_script.proofs.reading.read_to_end.Goals as goal

pub loop-fault-init : goal.loop-fault-init
loop-fault-init g c = record {
  stands = λ bytes e. rw c.new-script.ensures.items (stands_first (follows c.args.image.now) c.args.lines.now (Open []) bytes _ e);
  formed = rw c.new-script.ensures.items refl;
  few = omega (arith, c.new-script.ensures.len);
  draws = draws_nothing _ _;
  count = refl;
}

pub returns-in-Err-clause-reads : goal.returns-in-Err-clause-reads
returns-in-Err-clause-reads g c = λ bytes e.
    let stands = c.loop-fault.invariant.stands bytes e in
    let skips = c.in-Err.ensures.said stands.left stands.to_come in
    rw c.fault_of.ensures (faulty c.args.image.now c.args.lines.now bytes c.loop-fault.lines _ _ c.next_said.new.self _ c.in-Err.fault stands skips)

pub returns-in-Err-clause-draws : goal.returns-in-Err-clause-draws
returns-in-Err-clause-draws g c = draws_then _ _ _ _ _ _ c.loop-fault.invariant.draws c.next_said.ensures.draws

pub returns-in-Err-clause-later : goal.returns-in-Err-clause-later
returns-in-Err-clause-later g c = omega (arith, c.loop-fault.invariant.count, c.next_said.ensures.later)

pub returns-in-Err-clause-cause : goal.returns-in-Err-clause-cause
returns-in-Err-clause-cause g c = rw c.fault_of.ensures (read_counts (Vec Line Global) c.in-Err.fault _ _ _ c.loop-fault.invariant.count c.in-Err.ensures.cause)

pub returns-in-Ok-None-clause-reads : goal.returns-in-Ok-None-clause-reads
returns-in-Ok-None-clause-reads g c = λ bytes e.
    let stands = c.loop-fault.invariant.stands bytes e in
    let skips = rw c.in-Ok-None.field-0-is at (c.in-Ok-None.ensures.said stands.left stands.to_come) in
    rw c.number.ensures (last_line c.args.image.now c.args.lines.now bytes c.loop-fault.lines _ c.loop-fault.script.items c.next_said.new.self stands skips)

pub returns-in-Ok-None-clause-draws : goal.returns-in-Ok-None-clause-draws
returns-in-Ok-None-clause-draws g c = draws_then _ _ _ _ _ _ c.loop-fault.invariant.draws c.next_said.ensures.draws

pub returns-in-Ok-None-clause-later : goal.returns-in-Ok-None-clause-later
returns-in-Ok-None-clause-later g c = omega (arith, c.loop-fault.invariant.count, c.next_said.ensures.later)

pub returns-in-Err-said-clause-reads : goal.returns-in-Err-said-clause-reads
returns-in-Err-said-clause-reads g c = λ bytes e.
    let stands = c.loop-fault.invariant.stands bytes e in
    let skips = rw c.in-Ok-Some.field-0-is at (c.in-Ok-Some.ensures.said stands.left stands.to_come) in
    let count = c.len.ensures ∙ c.loop-fault.script.ok.0 in
    let said : said c.args.image.now (length c.loop-fault.script.items) (tokens_of c.next_said.new.self.text) ≡ Err c.in-Err-said.cause =
    said_at c.args.image.now _ _ _ _ _ count c.text.ensures (c.in-Err-said.ensures.value) in
    bad_line c.args.image.now c.args.lines.now bytes c.loop-fault.lines _ _ c.next_said.new.self _ c.in-Ok-Some.number c.in-Err-said.cause stands skips
    (follow_bad c.args.image.now c.loop-fault.script.items _ c.in-Err-said.cause said)

pub returns-in-Err-said-clause-draws : goal.returns-in-Err-said-clause-draws
returns-in-Err-said-clause-draws g c = draws_then _ _ _ _ _ _ c.loop-fault.invariant.draws c.next_said.ensures.draws

pub returns-in-Err-said-clause-later : goal.returns-in-Err-said-clause-later
returns-in-Err-said-clause-later g c = omega (arith, c.loop-fault.invariant.count, c.next_said.ensures.later)

pub returns-in-Ok-None-said-clause-reads : goal.returns-in-Ok-None-said-clause-reads
returns-in-Ok-None-said-clause-reads g c = λ bytes e.
    let stands = c.loop-fault.invariant.stands bytes e in
    let skips = rw c.in-Ok-Some.field-0-is at (c.in-Ok-Some.ensures.said stands.left stands.to_come) in
    let count = c.len.ensures ∙ c.loop-fault.script.ok.0 in
    let none = rw c.in-Ok-None-said.field-0-is at c.in-Ok-None-said.ensures.value in
    stands_more (follows c.args.image.now) c.args.lines.now (Open []) bytes c.loop-fault.lines _ _ c.next_said.new.self _ c.in-Ok-Some.number _ stands skips
    (follow_end c.args.image.now c.loop-fault.script.items _ (said_at c.args.image.now _ _ _ _ _ count c.text.ensures none))

pub returns-in-Ok-None-said-clause-draws : goal.returns-in-Ok-None-said-clause-draws
returns-in-Ok-None-said-clause-draws g c = draws_then _ _ _ _ _ _ c.loop-fault.invariant.draws c.next_said.ensures.draws

pub returns-in-Ok-None-said-clause-later : goal.returns-in-Ok-None-said-clause-later
returns-in-Ok-None-said-clause-later g c = omega (arith, c.loop-fault.invariant.count, c.next_said.ensures.later)

pub returns-in-Err-push-clause-draws : goal.returns-in-Err-push-clause-draws
returns-in-Err-push-clause-draws g c = draws_then _ _ _ _ _ _ c.loop-fault.invariant.draws c.next_said.ensures.draws

pub returns-in-Err-push-clause-later : goal.returns-in-Err-push-clause-later
returns-in-Err-push-clause-later g c = omega (arith, c.loop-fault.invariant.count, c.next_said.ensures.later)

pub loop-fault-preserved : goal.loop-fault-preserved
loop-fault-preserved g c =
    let line = c.in-Ok-Some-said.line in
    let said = rw c.in-Ok-Some-said.field-0-is at c.in-Ok-Some-said.ensures in
    let count = c.len.ensures ∙ c.loop-fault.script.ok.0 in
    let grown = c.in-Ok.ensures.items in
    record {
      stands = λ bytes e.
          let stands = c.loop-fault.invariant.stands bytes e in
          let skips = rw c.in-Ok-Some.field-0-is at (c.in-Ok-Some.ensures.said stands.left stands.to_come) in
          rw grown (stands_more (follows c.args.image.now) c.args.lines.now (Open []) bytes c.loop-fault.lines _ _ c.next_said.new.self _
          c.in-Ok-Some.number _ stands skips
          (follow_more c.args.image.now c.loop-fault.script.items _ line (said_at c.args.image.now _ _ _ _ _ count c.text.ensures said.value)));
      formed = rw grown (more_formed c.args.image.now c.loop-fault.script.items line c.loop-fault.invariant.formed said.formed);
      few = omega (arith, said.room, c.len.ensures, c.in-Ok.ensures.len);
      draws = draws_then _ _ _ _ _ _ c.loop-fault.invariant.draws c.next_said.ensures.draws;
      count = omega (arith, c.loop-fault.invariant.count, c.in-Ok-Some.ensures.cause);
    }
