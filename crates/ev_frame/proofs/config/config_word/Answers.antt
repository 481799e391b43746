use Rattle.std.proofs.Common.{◌≡◌, ◌+◌, ◌*◌, ◌%◌, ◌^◌, bit_or, arith}
use Rattle.ev_frame.proofs.Fields.{or_below}
use Rattle.ev_frame.proofs.config.config_word.Goals as goal

pub returns : goal.returns
returns c =
    let f = c.args.c.now in
    let high : bit_or f.page (f.int_level * 2 ^ 9 % 2 ^ 64) ≡ f.page + f.int_level * 2 ^ 9 % 2 ^ 64 = or_below 12 f.page _ c.requires.page (omega arith) in
    let middle : bit_or (f.page + f.int_level * 2 ^ 9 % 2 ^ 64) (f.decrement * 2 ^ 6 % 2 ^ 64) ≡ f.page + f.int_level * 2 ^ 9 % 2 ^ 64 + f.decrement * 2 ^ 6
    % 2 ^ 64 =
    or_below 9 _ _ (omega arith) (omega arith) in
    let low : bit_or (f.page + f.int_level * 2 ^ 9 % 2 ^ 64 + f.decrement * 2 ^ 6 % 2 ^ 64) f.level ≡ f.page + f.int_level * 2 ^ 9 % 2 ^ 64 + f.decrement
    * 2 ^ 6 % 2 ^ 64 + f.level =
    or_below 6 _ _ (omega arith) (omega arith) in
    rw (c.from.ensures, c.from-2.ensures, c.from-3.ensures, high, middle, low) (omega arith)
