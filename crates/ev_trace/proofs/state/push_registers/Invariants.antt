use Rattle.std.proofs.Common.{◌≡◌, ◌+◌, ◌*◌, ◌≤◌, ◌++◌, take}
use Rattle.arrayvec.specs.ArrayString.{array_string_len}
use Rattle.ev_abstract.specs.EntryText.{register_names, register_words}
use Rattle.ev_trace.specs.Spaced.{spaced}
use Rattle.ev_trace.proofs.state.push_registers.Given as goal

abbrev pub invariant-loop-i : goal.invariant-loop-i
invariant-loop-i l = record {
  bytes : l.out.bytes ≡ l.initial.out.bytes ++ spaced (register_words (take l.i register_names) (take l.i l.regs));
  short : array_string_len l.out ≤ 115 + 21 * l.i;
}
