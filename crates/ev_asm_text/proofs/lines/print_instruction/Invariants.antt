use Rattle.std.proofs.Common.{◌≡◌, ◌+◌, ◌*◌, ◌≤◌, ◌∷◌, ◌++◌, take}
use Rattle.std.specs.Prelude.{flat_map}
use Rattle.arrayvec.specs.ArrayString.{array_string_len}
use Rattle.ev_abstract.specs.EntryText.{hex}
use Rattle.ev_asm_text.specs.AsmText.{two_digits}
use Rattle.ev_asm_text.proofs.lines.print_instruction.Given as goal

abbrev pub invariant-loop-byte : goal.invariant-loop-byte
invariant-loop-byte l = record {
  text : l.out.bytes ≡ hex l.at ++ 32 ∷ flat_map two_digits (take l.byte-index l.bytes);
  room : array_string_len l.out ≤ 17 + 2 * l.byte-index;
}
