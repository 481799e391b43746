-- The words of the opening hold the code and the text.
use Rattle.std.proofs.Common.{◌≡◌, ℕ, ◌+◌, ◌^◌, ◌<◌, ◌≤◌, Bool, true, false, ◌&&◌, refl, ap, ◌∙◌, arith}
use Rattle.std.specs.Prelude.{nat_lt, nat_le, if◌then◌else◌}
use Rattle.std.proofs.lemmas.Bool.{le-leb, lt-ltb, ltb-true}
use Rattle.ev_isa.specs.Word.{NatMap, is_aligned}
use Rattle.ev_isa.specs.Pages.{Text, place_of, text_base, text_word, word_at_start}
use Rattle.ev_isa.specs.declared.mode.Mode.{Mode}
use Rattle.ev_body.specs.declared.image.Image.{Image}
use Rattle.ev_listing.specs.AddressMap.{fred_page}
use Rattle.ev_concrete.specs.Opening.{Placed, code_of, listings, word_there, opening_word, code_word}
use Rattle.ev_fetch.specs.Claims.{HoldsCode, HoldsText}
use Rattle.ev_fetch.proofs.Regions.{and_both}

pub only_if : {X : Type 0} (t : Bool) (x y : X) → t ≡ true → (if t then x else y) ≡ x
only_if true x y h = refl
only_if false x y h = absurd (cc)

pub only_else : {X : Type 0} (t : Bool) (x y : X) → t ≡ false → (if t then x else y) ≡ y
only_else true x y h = absurd (cc)
only_else false x y h = refl

pub not_below : (a b : ℕ) → b ≤ a → nat_lt a b ≡ false
not_below a b h = by (nat_lt a b) refl
  where
    by : (t : Bool) → nat_lt a b ≡ t → nat_lt a b ≡ false
    by true q = absurd (let lt = ltb-true a b q in omega arith)
    by false q = q

-- at and behind the first entry
pub opened_code : (es : Placed) (mode : Mode) (image : Image) (a : ℕ) → is_aligned a ≡ true → fred_page ≤ a → opening_word es mode image a ≡ code_word es a
unfolding opening_word word_there
opened_code es mode image a al l =
    only_if (is_aligned a) _ _ al ∙ only_else (nat_lt a (2 ^ 63)) _ _ (not_below a (2 ^ 63) (omega arith)) ∙ only_if (nat_le fred_page a) _ _
    (le-leb fred_page a l)

-- in the text
pub opened_text : (es : Placed) (mode : Mode) (image : Image) (a : ℕ) → is_aligned a ≡ true → text_base ≤ a → a < text_base + 0x10000
    → opening_word es mode image a ≡ text_word image.text a
unfolding opening_word word_there place_of word_at_start
opened_text es mode image a al l h =
    only_if (is_aligned a) _ _ al ∙ only_if (nat_lt a (2 ^ 63)) _ _ (lt-ltb a (2 ^ 63) (omega arith))
    ∙ ap (word_at_start image.text a)
    (only_if (nat_le text_base a && nat_lt a (text_base + 0x10000)) Text _ (and_both _ _ (le-leb text_base a l) (lt-ltb a (text_base + 0x10000) h)))

-- words that are the opening's there
pub holds_code : (mode : Mode) (image : Image) (words : NatMap ℕ)
    → ((a : ℕ) → fred_page ≤ a → words a ≡ opening_word (code_of (listings mode image)) mode image a) → HoldsCode mode image words
holds_code mode image words h a al l = h a l ∙ opened_code (code_of (listings mode image)) mode image a al l

pub holds_text : (mode : Mode) (image : Image) (words : NatMap ℕ)
    → ((a : ℕ) → text_base ≤ a → a < text_base + 0x10000 → words a ≡ opening_word (code_of (listings mode image)) mode image a)
    → HoldsText image.text words
holds_text mode image words h a al l k = h a l k ∙ opened_text (code_of (listings mode image)) mode image a al l k
