-- The kernel fetches the instructions of its code table.
use Rattle.std.proofs.Common.{◌≡◌, ℕ, ◌+◌, ◌-◌, ◌%◌, ◌≤◌, true, false, length, Some, None, ap, ◌∙◌, arith, ⊎_elim}
use Rattle.std.proofs.lemmas.Bool.{eqb-true}
use Rattle.ev_isa.specs.Pages.{KernelWord, fault_at}
use Rattle.ev_isa.specs.Reading.{reading}
use Rattle.ev_isa.specs.Spelling.{spelling}
use Rattle.ev_isa.specs.declared.mode.Mode.{Mode}
use Rattle.ev_code.specs.Coding.{IsEncodable}
use Rattle.ev_code.proofs.Spelled.{spelling_length}
use Rattle.ev_code.proofs.ReadingForms.{reading_again}
use Rattle.ev_body.specs.declared.image.Image.{Image}
use Rattle.ev_body.specs.WellFormed.{IsImage}
use Rattle.ev_mem.specs.Memory.{Memory, place_in, present_in, code_bytes}
use Rattle.ev_listing.specs.AddressMap.{fred_page}
use Rattle.ev_listing.specs.Marks.{all_places}
use Rattle.ev_concrete.specs.Opening.{listings, regions, byte_of, code_word}
use Rattle.ev_concrete.specs.Opening as opening
use Rattle.ev_symbolic.specs.Agrees.{Cell}
use Rattle.ev_symbolic.specs.Listed.{Cells, cell_at, code_of}
use Rattle.std.specs.Prelude.{◌==◌, if◌then◌else◌, Bool, [], ◌∷◌}
use Rattle.ev_symbolic.proofs.Blocks.{unsome}
use Rattle.std.proofs.Common.{subst}
use Rattle.ev_fetch.specs.Spelled.{AreSpelled}
use Rattle.ev_fetch.specs.Claims.{kernel_cells, HoldsCode, KernelFetches}
use Rattle.ev_fetch.proofs.Bytes.{bytes_from, code_back, begins_with}
use Rattle.ev_fetch.proofs.Regions.{entry_place, body_place}
use Rattle.ev_fetch.proofs.Spellings.{spelling_some}
use Rattle.ev_fetch.proofs.Placed.{Inside, inside_there, byte_there, byte_small}
use Rattle.ev_fetch.proofs.Sizes.{listings_disjoint, listings_inside}

found_spelled : (xs : Cells) (a : ℕ) (x : Cell) → AreSpelled xs → cell_at xs a ≡ Some x → IsEncodable x.ins
found_spelled [] a x h q = absurd (cc)
found_spelled (y ∷ ys) a x h q = pick (y.0 == a) q (found_spelled ys a x h.1)
  where
    pick : (t : Bool) → (if t then Some y.1 else cell_at ys a) ≡ Some x → (cell_at ys a ≡ Some x → IsEncodable x.ins) → IsEncodable x.ins
    pick true w k = subst (λ (z : Cell). IsEncodable z.ins) (unsome y.1 x w) h.0
    pick false w k = k w

module _ (mode : Mode) (image : Image) (m : Memory) (is : IsImage image) (a : ℕ) (x : Cell) (found : code_of (listings mode image) a ≡ Some x) where
  inside : Inside (listings mode image) a
  inside = subst (Inside (listings mode image)) (let e : a + 0 ≡ a = omega arith in e)
      (inside_there (all_places (listings mode image)) (listings mode image) a x found 0 (spelling_some x.ins))

  place : place_in (regions image) a ≡ KernelWord
  place = ⊎_elim (λ l. entry_place image a is l.0 l.1) (λ r. body_place image a is r.0 r.1) (listings_inside mode image is a inside)

  from : fred_page ≤ a
  from = ⊎_elim (λ l. l.0) (λ r. let k = r.0 in omega arith) (listings_inside mode image is a inside)

  bytes_there : AreSpelled (kernel_cells mode image) → HoldsCode mode image m.words
      → code_bytes m.words a ≡ bytes_from (byte_of (opening.code_of (listings mode image))) a 15
  unfolding code_word
  bytes_there spells holds =
      code_back (byte_of (opening.code_of (listings mode image))) (byte_small (all_places (listings mode image)) (listings mode image) spells) m.words a
      (λ b al lo hi. let even : b % 8 ≡ 0 = eqb-true (b % 8) 0 al in let first = from in holds b al (omega arith))

  reads : AreSpelled (kernel_cells mode image) → HoldsCode mode image m.words → reading (code_bytes m.words a) ≡ Some x.ins
  reads spells holds =
      let f = byte_of (opening.code_of (listings mode image)) in
      let n = length (spelling x.ins) in
      ap reading (bytes_there spells holds ∙ begins_with f (spelling x.ins) a 15 (spelling_length x.ins)
      (byte_there (all_places (listings mode image)) (listings mode image) a x (listings_disjoint mode image is) found))
      ∙ reading_again x.ins (bytes_from f (a + n) (15 - n)) (found_spelled (kernel_cells mode image) a x spells found)

  faultless : m.regions ≡ regions image → fault_at (present_in m) (record { user = false; write = false; fetch = true }) (place_in m.regions a) ≡ None
  unfolding fault_at
  faultless e = ap (λ rs. fault_at (present_in m) (record { user = false; write = false; fetch = true }) (place_in rs a)) e
      ∙ ap (fault_at (present_in m) (record { user = false; write = false; fetch = true })) place

pub kernel_fetches : KernelFetches
kernel_fetches mode image m is spells e holds a x q = (faultless mode image m is a x q e, reads mode image m is a x q spells holds)
