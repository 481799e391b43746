use Rattle.std.proofs.Common.{◌≡◌, ◌≤◌, ◌*◌, ◌++◌, true, length, drop}
use Rattle.ev_listing.specs.AddressMap.{task_selector}
use Rattle.ev_concrete.specs.Opening.{all_descriptors}
use Rattle.ev_layout.specs.Processors.{are_below}
use Rattle.ev_layout.proofs.cpu.descriptors.Given as goal

abbrev pub invariant-loop-p : goal.invariant-loop-p
invariant-loop-p l = record {
  all : l.gdt ++ all_descriptors l.p (drop l.p l.image.tasks) ≡ all_descriptors 0 l.image.tasks;
  below : are_below (task_selector l.p 0) l.gdt ≡ true;
  room : length l.gdt ≤ 4 * l.p;
}
