use Rattle.std.proofs.Common.{◌≡◌, ◌+◌, ◌*◌, ◌≤◌, ◌++◌, map, take}
use Rattle.arrayvec.specs.ArrayString.{array_string_len}
use Rattle.ev_abstract.specs.EntryText.{hex}
use Rattle.ev_trace.specs.Spaced.{spaced}
use Rattle.ev_probe.proofs.text.push_words.Given as goal

abbrev pub invariant-loop-word : goal.invariant-loop-word
invariant-loop-word l = record {
  bytes : l.out.bytes ≡ l.initial.out.bytes ++ spaced (map hex (take l.word-index l.words));
  short : array_string_len l.out ≤ array_string_len l.initial.out + 17 * l.word-index;
}
