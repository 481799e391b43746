use Rattle.std.proofs.Common.{◌≡◌, ◌≤◌, ◌<◌, ◌+◌, ◌⊎◌, ℕ}
use Rattle.ev_mem.specs.Mapped.{memory}
use Rattle.ev_listing.specs.AddressMap.{idt_base}
use Rattle.ev_probe.specs.BareMemory.{HoldsGates, few_regions}
use Rattle.ev_probe.proofs.memory.fill_gates.Given as goal

abbrev pub invariant-loop-n : goal.invariant-loop-n
invariant-loop-n l = record {
  regions : l.mem.regions ≡ few_regions l.bad;
  gates : HoldsGates l.n (memory l.mem).words;
  others : (a : ℕ) → (a < idt_base) ⊎ (idt_base + 0x1000 ≤ a) → (memory l.mem).words a ≡ (memory l.fn.mem).words a;
}
