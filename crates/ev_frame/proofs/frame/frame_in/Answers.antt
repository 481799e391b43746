-- The masks take the fields out.
use Rattle.std.proofs.Common.{◌/◌, ◌^◌, refl}
use Rattle.std.proofs.lemmas.Nat.{and_mask}
use Rattle.ev_frame.proofs.frame.frame_in.Goals as goal

pub returns-clause-value : goal.returns-clause-value
returns-clause-value c =
    let cs = c.word_at-cs.result in
    let ss = c.word_at-ss.result in
    rw (
      and_mask cs 16,
      and_mask (cs / 2 ^ 16) 2,
      and_mask (cs / 2 ^ 18) 1,
      and_mask ss 16,
      and_mask (ss / 2 ^ 16) 1,
      and_mask (ss / 2 ^ 17) 1,
      and_mask (ss / 2 ^ 18) 1,
      and_mask (ss / 2 ^ 32) 8,
      and_mask (ss / 2 ^ 48) 4,
      and_mask (ss / 2 ^ 56) 1,
      and_mask (ss / 2 ^ 57) 1,
      and_mask (ss / 2 ^ 58) 1,
      c.word_at.ensures,
      c.word_at-2.ensures,
      c.word_at-3.ensures,
      c.word_at-4.ensures,
      c.word_at-5.ensures,
      c.word_at-cs.ensures,
      c.word_at-ss.ensures,
    ) refl
