use Rattle.std.proofs.Common.{◌≡◌, ◌*◌, ◌≤◌, take}
use Rattle.std.specs.Prelude.{flat_map}
use Rattle.arrayvec.specs.ArrayString.{array_string_len}
use Rattle.ev_probe.specs.Probe.{try_text}
use Rattle.ev_probe.proofs.text.push_tries.Given as goal

abbrev pub invariant-loop-t : goal.invariant-loop-t
invariant-loop-t l = record {
  bytes : l.out.bytes ≡ flat_map try_text (take l.t-index l.tries);
  short : array_string_len l.out ≤ 51 * l.t-index;
}
