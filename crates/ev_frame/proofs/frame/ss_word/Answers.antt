-- The fields one above the other.
use Rattle.std.proofs.Common.{◌∙◌, arith}
use Rattle.ev_isa.proofs.Bits.{flag_byte, flag_small}
use Rattle.ev_frame.proofs.FrameWords.{ss_is, ss_word_is}
use Rattle.ev_frame.proofs.frame.ss_word.Goals as goal

pub returns : goal.returns
returns c =
    let f = c.args.f.now in
    rw (
      c.from.ensures,
      c.from-2.ensures,
      c.from-3.ensures,
      c.from-4.ensures,
      c.from-5.ensures,
      c.from-6.ensures,
      c.from-7.ensures,
      c.from-8.ensures,
      c.from-9.ensures,
      c.from-10.ensures,
      flag_byte f.sti,
      flag_byte f.software,
      flag_byte f.nmi,
      flag_byte f.enclave,
      flag_byte f.long,
      flag_byte f.nested,
    )
    (ss_is _ _ _ _ _ _ _ _ _ _ (omega arith) (flag_small f.sti) (flag_small f.software) (flag_small f.nmi) (omega arith) c.requires.kind
    (flag_small f.enclave) (flag_small f.long)
    (flag_small f.nested) c.requires.length
    ∙ ss_word_is f)
