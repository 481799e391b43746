-- At the opening user code sees the same memory on both sides.
use Rattle.std.proofs.Common.{◌≡◌, ℕ, ◌+◌, ◌-◌, ◌*◌, ◌/◌, ◌%◌, ◌^◌, ◌<◌, ◌≤◌, Bool, true, false, List, get_or, drop, refl, sym, ap, ◌∙◌, subst, arith, ◌⊎◌, inl, inr, ⊎_elim}
use Rattle.std.specs.Prelude.{nat_lt, nat_le, if◌then◌else◌}
use Rattle.std.specs.Int.{w64, from_le_bytes}
use Rattle.std.proofs.lemmas.List.{get_or-drop}
use Rattle.std.proofs.lemmas.Bool.{le-leb, lt-ltb, leb-true, ltb-true, eq-eqb}
use Rattle.ev_isa.specs.Word.{is_aligned, members}
use Rattle.ev_isa.specs.Pages.{text_base, text_word, word_at_start, Place, Text, Page, KernelWord, Lower, Upper, place_of}
use Rattle.ev_isa.specs.declared.mode.Mode.{Mode}
use Rattle.ev_body.specs.declared.image.Image.{Image}
use Rattle.ev_body.specs.WellFormed.{IsImage}
use Rattle.ev_mem.specs.Memory.{page_map}
use Rattle.ev_listing.specs.AddressMap.{pcpu, user_table, kernel_table, idt_base, task_words, stack_top, fred_page}
use Rattle.ev_abstract.specs.Machine.{opening}
use Rattle.ev_concrete.specs.Opening.{Placed, code_of, listings, within, word_there, opening_word}
use Rattle.ev_symbolic.proofs.Values.{and_left, and_right}
use Rattle.ev_fetch.proofs.Regions.{and_both, all_small}
use Rattle.ev_fetch.proofs.Opened.{only_if, only_else, not_below, holds_text}
use Rattle.ev_user.specs.Sees.{IsPageWord, IsUserWord}
use Rattle.ev_user.specs.Claims.{OpeningSees}

not_above : (a b : ℕ) → b < a → nat_le a b ≡ false
not_above a b h = by (nat_le a b) refl
  where
    by : (t : Bool) → nat_le a b ≡ t → nat_le a b ≡ false
    by true q = absurd (let l = leb-true a b q in omega arith)
    by false q = q

outside : (base bytes a : ℕ) → (a < base) ⊎ (base + bytes ≤ a) → within base bytes a ≡ false
outside base bytes a h = by (within base bytes a) refl
  where
    by : (t : Bool) → within base bytes a ≡ t → within base bytes a ≡ false
    by true q =
        let lo : base ≤ a = leb-true base a (and_left _ _ q) in
        let hi : a < base + bytes = ltb-true a (base + bytes) (and_right (nat_le base a) _ q) in
        absurd (⊎_elim (λ (l : a < base). let z : ⊥ = omega arith in z) (λ (l : base + bytes ≤ a). let z : ⊥ = omega arith in z) h)
    by false q = q

-- a word of the page map
mapped : (es : Placed) (mode : Mode) (image : Image) → IsImage image → (i : ℕ) → i < 256
    → opening_word es mode image (page_map + 8 * i) ≡ (if members image.pages i then 1 else 0)
unfolding opening_word word_there
mapped es mode image is i h =
    let a : ℕ = page_map + 8 * i in
    let few = is.count.1 in
    only_if (is_aligned a) _ _ (eq-eqb (a % 8) 0 (let e : a % 8 ≡ 0 = omega arith in e))
    ∙ only_else (nat_lt a (2 ^ 63)) _ _ (not_below a (2 ^ 63) (omega arith))
    ∙ only_else (nat_le fred_page a) _ _ (not_above fred_page a (omega arith))
    ∙ only_else (within (stack_top 0 0 - 0x4000) (0x100000 * image.processors) a) _ _
    (outside (stack_top 0 0 - 0x4000) (0x100000 * image.processors) a (inl (omega arith)))
    ∙ only_else (within (pcpu 0) (0x10000 * image.processors) a) _ _ (outside (pcpu 0) (0x10000 * image.processors) a (inr (omega arith)))
    ∙ only_else (within (task_words 0 0) (0x100 * image.processors) a) _ _
    (outside (task_words 0 0) (0x100 * image.processors) a (inl (omega arith)))
    ∙ only_else (within user_table (8 * 257) a) _ _ (outside user_table (8 * 257) a (inr (omega arith)))
    ∙ only_else (within kernel_table (8 * 257) a) _ _ (outside kernel_table (8 * 257) a (inr (omega arith)))
    ∙ only_else (within idt_base (16 * 256) a) _ _ (outside idt_base (16 * 256) a (inr (omega arith)))
    ∙ only_if (within page_map (8 * 256) a) _ _ (and_both _ _ (le-leb page_map a (omega arith)) (lt-ltb a (page_map + 8 * 256) (omega arith)))
    ∙ ap (λ k. if members image.pages k then 1 else 0) (let e : (a - page_map) / 8 ≡ i = omega arith in e)

user_small : (a : ℕ) → IsUserWord a → a < 2 ^ 63
user_small a h =
    ⊎_elim (λ (k : (text_base ≤ a) × (a < text_base + 0x10000)). let l = k.1 in let z : a < 2 ^ 63 = omega arith in z)
    (λ (k : IsPageWord a). let l = k.1 in let z : a < 2 ^ 63 = omega arith in z) h.1

-- eight bytes make a word
eight_are : (bytes : List ℕ) → ((i : ℕ) → get_or bytes i 0 < 256) → from_le_bytes w64 bytes < 2 ^ 64
eight_are bytes are = omega (arith, are 0, are 1, are 2, are 3, are 4, are 5, are 6, are 7)

-- the words of the text and of the pages are made of bytes
first_small : (text : List ℕ) → ((i : ℕ) → get_or text i 0 < 256) → (a : ℕ) (z : Place) → word_at_start text a z < 2 ^ 64
unfolding word_at_start text_word
first_small text h a Text =
    eight_are (drop (a - text_base) text) (λ i. subst (λ n. n < 256) (sym (get_or-drop (a - text_base) text i 0)) (h (a - text_base + i)))
first_small text h a (Page n) = omega arith
first_small text h a KernelWord = omega arith
first_small text h a Lower = omega arith
first_small text h a Upper = omega arith

pub opening_sees : OpeningSees
unfolding opening opening_word word_there
opening_sees mode image is = record {
  regions_are = refl;
  text_is = refl;
  holds = holds_text mode image (opening_word (code_of (listings mode image)) mode image) (λ a h k. refl);
  words = λ a h. only_if (is_aligned a) _ _ h.0 ∙ only_if (nat_lt a (2 ^ 63)) _ _ (lt-ltb a (2 ^ 63) (user_small a h));
  held = λ a. first_small image.text (all_small image.text is.text_bytes) a (place_of a);
  pages = λ i h. mapped (code_of (listings mode image)) mode image is i h;
}
