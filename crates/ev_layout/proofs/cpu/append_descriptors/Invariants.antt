use Rattle.std.proofs.Common.{◌≡◌, ◌≤◌, ◌+◌, ◌*◌, ◌++◌, true, length, drop}
use Rattle.ev_listing.specs.AddressMap.{task_selector}
use Rattle.ev_concrete.specs.Opening.{descriptors_of}
use Rattle.ev_layout.specs.Processors.{are_below}
use Rattle.ev_layout.proofs.cpu.append_descriptors.Given as goal

abbrev pub invariant-loop-i : goal.invariant-loop-i
invariant-loop-i l = record {
  all : l.gdt ++ descriptors_of l.p l.i (drop l.i l.tasks) ≡ l.fn.gdt ++ descriptors_of l.p 0 l.tasks;
  below : are_below (task_selector l.p l.i) l.gdt ≡ true;
  room : length l.gdt ≤ 4 * l.p + l.i;
}
