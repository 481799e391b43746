use Rattle.std.proofs.Common.{arith, refl}
use Rattle.ev_words.proofs.Frames.{at_start, here, one_more, at_end}
use Rattle.ev_words.proofs.frame.place.Goals as goal

pub loop-word-init : goal.loop-word-init
loop-word-init c = at_start c.args.mem.now c.args.address c.args.words.now c.requires.writable

pub set_word-requires-clause-aligned : goal.set_word-requires-clause-aligned
set_word-requires-clause-aligned c =
    (here c.args.mem.now c.loop-word.mem c.args.address c.args.words.now c.loop-word.at c.loop-word.word-index c.loop-word.invariant (omega arith)).0

pub set_word-requires-clause-mapped : goal.set_word-requires-clause-mapped
set_word-requires-clause-mapped c =
    (here c.args.mem.now c.loop-word.mem c.args.address c.args.words.now c.loop-word.at c.loop-word.word-index c.loop-word.invariant (omega arith)).1

pub loop-word-preserved : goal.loop-word-preserved
loop-word-preserved c = one_more c.args.mem.now c.loop-word.mem c.set_word.new.self c.args.address c.args.words.now c.loop-word.at c.loop-word.word-index _
    c.loop-word.invariant (omega arith) refl c.set_word.ensures

pub returns : goal.returns
returns c = at_end c.args.mem.now c.loop-word.mem c.args.address c.args.words.now c.loop-word.at c.loop-word.word-index c.loop-word.invariant (omega arith)
