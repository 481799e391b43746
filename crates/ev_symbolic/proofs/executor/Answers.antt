use Rattle.ev_symbolic.proofs.Sound as sound
use Rattle.ev_symbolic.proofs.Blocks as blocks
use Rattle.ev_symbolic.proofs.executor.Goals as goal

pub returns : goal.returns
returns c = record {
  sound = λ e G h. sound.step_ok e G h;
  inside = λ code b k e c m at s h f a nmi n. record { to = blocks.inside code b k e c m at s h; is = blocks.inside_step code b k e c m at s h f a nmi n };
  others = λ code b k e c m n at r h. blocks.stays code b k e c m n at r h;
}
