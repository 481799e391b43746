use Rattle.std.proofs.Common.{◌≡◌, ◌≤◌, ◌+◌, ◌*◌, ℕ, drop}
use Rattle.ev_isa.specs.declared.mode.Mode.{Mode}
use Rattle.ev_body.specs.declared.key.Key.{Key}
use Rattle.ev_listing.specs.AddressMap.{body_code}
use Rattle.ev_layout.proofs.PlacesOf.{in_items}
use Rattle.ev_layout.proofs.place.place_in_body.Given as goal

abbrev pub invariant-loop-i : goal.invariant-loop-i
invariant-loop-i l = record {
  same : (mode : Mode) (f : ℕ → ℕ) (key : Key) → in_items mode f l.n key l.i l.at l.rip (drop l.i l.items)
      ≡ in_items mode f l.n key 0 (body_code l.n) l.rip l.items;
  near : l.at ≤ body_code l.n + 480 * l.i;
}
