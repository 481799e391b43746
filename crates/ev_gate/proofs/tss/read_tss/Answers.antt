-- What is read, word by word.
use Rattle.std.proofs.Common.{◌≡◌, drop, ap, ◌∙◌}
use Rattle.std.proofs.lemmas.List.{take_rest}
use Rattle.byteorder.specs.Endian.{little_number}
use Rattle.ev_gate.specs.Tss.{word_from}
use Rattle.ev_gate.proofs.TssLaws.{passes, stacks_are}
use Rattle.ev_gate.proofs.Numbers.{word_is}
use Rattle.ev_gate.proofs.tss.read_tss.Goals as goal

pub returns : goal.returns
returns c =
    let bytes = c.args.bytes.now in
    let rsp0 : c.read_u64-rsp0.result ≡ word_from bytes 4 = c.read_u64-rsp0.ensures ∙ ap (little_number 8) (take_rest bytes 4) ∙ word_is (drop 4 bytes) in
    let stacks = stacks_are bytes c.read_u64_into.new.dst c.read_u64_into.auto.dst c.read_u64_into.ensures in
    let whole = passes bytes c.if-bytes-lt104.false in
    cc
