use Rattle.std.proofs.Common.{◌≡◌, ◌<◌, ◌^◌, take, true, nat_lt}
use Rattle.std.specs.List.{list_all}
use Rattle.ev_io.specs.Number.{digit, value}
use Rattle.ev_io.proofs.number.read_digits.Given as goal

abbrev pub invariant-loop-b : goal.invariant-loop-b
invariant-loop-b l = record {
  number : l.number ≡ value l.base (take l.b-index l.digits);
  below : l.number < 2 ^ 64;
  digits : list_all (λ b. nat_lt (digit b) l.base) (take l.b-index l.digits) ≡ true;
}
