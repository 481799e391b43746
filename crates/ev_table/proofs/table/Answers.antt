use Rattle.ev_concrete.specs.Opening.{listings}
use Rattle.ev_listing.specs.Marks.{all_places}
use Rattle.ev_symbolic.proofs.Listed.{spaced_in}
use Rattle.ev_table.specs.Table.{KernelStands}
use Rattle.ev_table.proofs.Kernel as kernel
use Rattle.ev_table.proofs.LabelPlaces.{labels_placed}
use Rattle.ev_table.proofs.OwnPlaces.{own_labels_placed}
use Rattle.ev_table.proofs.Whole as whole
use Rattle.ev_table.proofs.TakenPlace.{taken_placed}
use Rattle.ev_table.proofs.table.Goals as goal

kernel_stands : KernelStands
unfolding kernel.kernel_cells
kernel_stands mode image given = whole.kernel_found mode image given

pub returns : goal.returns
returns c = record {
  kernel = kernel_stands;
  spaced = λ mode image. spaced_in (all_places (listings mode image)) (listings mode image);
  items = λ mode image given n i b item h k. whole.item_stands mode image given n i b item h k;
  item_marks = λ mode image given n i b item h k. whole.item_marks mode image given n i b item h k;
  follow = λ mode image n i b item k. whole.next_address mode image n i b item k;
  labels = λ mode image given n i b h l. labels_placed mode image given n i b h l;
  own_labels = λ mode image given n i b item c cs off high h l found. own_labels_placed mode image i c cs high item off given n b h l found;
  taken_labels = λ mode image given n i b h k first. taken_placed mode image given n i b h k first;
  placed = λ mode image key. whole.exit_is_there mode image key;
  rets = λ mode image given n i b h k. whole.ret_stands mode image given n i b h k;
  exits = λ mode key h. whole.exit_of_others mode key h;
  first_items = λ mode n b. whole.first_item mode n b;
  canonical = λ mode image given n i b h. whole.canonical_items mode image given n i b h;
  marks = λ mode image given a x h. whole.cell_marked mode image given a x h;
  memory = λ mode image given a l. whole.kernel_marks_plain mode image given a l;
}
