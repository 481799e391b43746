-- The facts on an image's code hold for the images of today.
use Rattle.std.proofs.Common.{◌≡◌, ℕ, true, List, Some, ◌∙◌, ◌≤◌, ◌+◌, ◌^◌, arith, leb-true}
use Rattle.std.specs.Prelude.{slice_get, nat_le}
use Rattle.std.specs.List.{list_all}
use Rattle.ev_body.specs.declared.body.Body.{Body}
use Rattle.ev_body.specs.declared.image.Image.{Image}
use Rattle.ev_body.specs.WellFormed.{IsImage, is_key}
use Rattle.ev_body.specs.Bodies.{key_number}
use Rattle.ev_body.specs.declared.key.Key.{Key}
use Rattle.ev_body.specs.declared.key.Key.TheVariants.{Sys, Db, Nmi, Bp, Ud, Ss, Gp, Pf, Ac, Irq}
use Rattle.ev_body.specs.declared.item.Item.TheVariants.{Take, Ret}
use Rattle.ev_isa.specs.declared.mode.Mode.{Mode}
use Rattle.ev_built.specs.Built.{IsBuilt, is_built_key}
use Rattle.ev_abstract.specs.Run.{item_at}
use Rattle.ev_asm.specs.Assembly.{place}
use Rattle.ev_listing.specs.Expansion.{taken_label, item_address}
use Rattle.ev_listing.specs.Marks.{all_places}
use Rattle.ev_concrete.specs.Opening.{listings}
use Rattle.ev_symbolic.proofs.Listed.{spaced_in}
use Rattle.ev_symbolic.proofs.Values.{and_left}
use Rattle.ev_table.specs.Table.{code_table, places_of, other_exit, exit_address, RetCell}
use Rattle.ev_table.proofs.Kernel as kernel
use Rattle.ev_paths.specs.Lines.{HasKernel}
use Rattle.ev_table.proofs.Whole as whole
use Rattle.ev_table.proofs.LabelPlaces.{labels_placed}
use Rattle.ev_table.proofs.OwnPlaces.{own_labels_placed}
use Rattle.ev_table.proofs.TakenPlace.{taken_placed}
use Rattle.ev_blocks.specs.Calls.{at_taken}
use Rattle.ev_fetch.proofs.Kernel.{kernel_fetches}
use Rattle.ev_fetch.proofs.InCode.{stays_in_code}
use Rattle.ev_law.proofs.Ruled.{body_ruled}
use Rattle.ev_fetch.proofs.Ruled.{accepted_are_spelled}
use Rattle.ev_fetch.proofs.Opened.{holds_code, holds_text}
use Rattle.ev_fetch.specs.Spelled.{AreSpelled}
use Rattle.ev_fetch.specs.Claims.{kernel_cells}
use Rattle.ev_relation.specs.Relation.{InText, InCode}
use Rattle.ev_relation.proofs.Facts.{Facts}
use Rattle.ev_relation.proofs.Items.{all_at}

-- no body of today is that of NMIs
not_nmi : (bs : List Body) (n : ℕ) (b : Body) → list_all (λ (b : Body). is_built_key b.key) bs ≡ true → slice_get bs n ≡ Some b → is_key b.key ≡ true
    → key_number b.key ≡ 2 → ⊥
unfolding is_built_key key_number is_key
not_nmi bs n b h k i q = other b.key (all_at (λ (b : Body). is_built_key b.key) bs n b h k) i q
  where
    other : (key : Key) → is_built_key key ≡ true → is_key key ≡ true → key_number key ≡ 2 → ⊥
    other Sys h i q = absurd (cc)
    other Db h i q = absurd (cc)
    other Nmi h i q = absurd (cc)
    other Bp h i q = absurd (cc)
    other Ud h i q = absurd (cc)
    other Ss h i q = absurd (cc)
    other Gp h i q = absurd (cc)
    other Pf h i q = absurd (cc)
    other Ac h i q = absurd (cc)
    other (Irq v) h i q = let l : 32 ≤ v = leb-true 32 v (and_left (nat_le 32 v) _ i) in absurd (omega arith)

module _ (mode : Mode) (image : Image) (given : IsImage image) (built : IsBuilt image) where
  spells : AreSpelled (kernel_cells mode image)
  spells = accepted_are_spelled mode image given built.accepted

  ret : (n i : ℕ) (b : Body) → slice_get image.bodies n ≡ Some b → item_at (Some b) i ≡ Some Ret
      → RetCell (code_table mode image) (item_address mode n b i) (other_exit mode)
  ret n i b h k =
      let r : RetCell (code_table mode image) (item_address mode n b i) (exit_address mode b.key) = whole.ret_stands mode image given n i b h k in
      record {
        cell = r.cell;
        distance = r.distance;
        is = r.is;
        jump = r.jump;
        unmarked = r.unmarked;
        leads =
            r.leads ∙ whole.exit_of_others mode b.key (not_nmi image.bodies n b built.keys h
            (body_ruled image given built.accepted.1.kept n b h).key);
      }

  -- the `take` of a body is its first one
  taken_labels : (n i : ℕ) (b : Body) → slice_get image.bodies n ≡ Some b → item_at (Some b) i ≡ Some Take
      → place (places_of mode image) (taken_label n) ≡ item_address mode n b i + at_taken
  taken_labels n i b h k = taken_placed mode image given n i b h k ((body_ruled image given built.accepted.1.kept n b h).first i k)

  kernel_found : HasKernel mode (code_table mode image)
  unfolding kernel.kernel_cells
  kernel_found = whole.kernel_found mode image given

  item_range : (n i : ℕ) (b : Body) → slice_get image.bodies n ≡ Some b → (0xffffffff82000000 ≤ item_address mode n b i)
      × (item_address mode n b i + 0x100 ≤ 2 ^ 64)
  item_range n i b h = upper (item_address mode n b i) (whole.range mode image given n i b h)
    where
      upper : (a : ℕ) → (0xffffffff82000000 ≤ a) × (a ≤ 0xffffffff82800000) → (0xffffffff82000000 ≤ a) × (a + 0x100 ≤ 2 ^ 64)
      upper a r = (r.0, omega arith)

  pub facts : Facts mode image
  facts = record {
    kernel = kernel_found;
    item_range = item_range;
    spaced = spaced_in (all_places (listings mode image)) (listings mode image);
    items = λ n i b item h k. whole.item_stands mode image given n i b item h k;
    follow = λ n i b item k. whole.next_address mode image n i b item k;
    labels = labels_placed mode image given;
    own_labels = λ n i b item c cs off high h l found. own_labels_placed mode image i c cs high item off given n b h l found;
    taken_labels = taken_labels;
    ret_cell = ret;
    first_item = λ n b. whole.first_item mode n b;
    item_small = λ n i b h. whole.canonical_items mode image given n i b h;
    marks = λ a x h. whole.cell_marked mode image given a x h;
    fetches = λ m e f. kernel_fetches mode image m given spells e (holds_code mode image m.words (λ a l. f a (InCode l)));
    holds = λ m f. holds_text mode image m.words (λ a l k. f a (InText l k));
    in_code = λ m e c. stays_in_code image m c given e;
  }
