-- What user code has access to, and memory after a word is written there.
use Rattle.std.proofs.Common.{◌≡◌, ℕ, ◌+◌, ◌-◌, ◌*◌, ◌/◌, ◌^◌, ◌<◌, ◌≤◌, Bool, true, false, ◌&&◌, Option, Some, None, refl, sym, ap, ◌∙◌, subst, arith, ◌⊎◌, inl, inr}
use Rattle.std.specs.Prelude.{◌==◌, nat_lt, nat_le, if◌then◌else◌}
use Rattle.std.proofs.lemmas.Bool.{leb-true, ltb-true, eqb-true, eqb-false}
use Rattle.ev_isa.specs.Word.{NatMap, NatSet, put_at, is_aligned, bit_if}
use Rattle.ev_isa.specs.Pages.{Place, Text, Page, KernelWord, Lower, Upper, Access, fault_code, fault_if, fault_at, text_base, page_base, place_of, UserMemory}
use Rattle.ev_body.specs.declared.image.Image.{Image}
use Rattle.ev_body.specs.WellFormed.{IsImage}
use Rattle.ev_mem.specs.Memory.{Memory, page_map, view}
use Rattle.ev_abstract.specs.UserCode.{user_view}
use Rattle.ev_symbolic.proofs.Values.{and_left, and_right}
use Rattle.ev_symbolic.proofs.Words.{put_same, put_other}
use Rattle.ev_user.specs.Words.{HoldsWords}
use Rattle.ev_user.specs.Sees.{Sees, IsPageWord, IsUserWord, IsWrite, with_write, written, user_written}
use Rattle.ev_user.proofs.Alike.{AreAlike, IsOpenTo}
use Rattle.ev_user.proofs.Places.{pages_fault_alike}

abbrev pub access_of : (user write : Bool) → Access
access_of user write = record { user = user; write = write; fetch = false }

abbrev access : Bool → Access
access write = access_of true write

-- a word to which there is access: of the text, which isn't written, or of a page that is present
abbrev pub IsIn : Bool → ℕ → Bool → Type 0
IsIn write a present = (((text_base ≤ a) × (a < text_base + 0x10000)) × (write ≡ false)) ⊎ (IsPageWord a × (present ≡ true))

pub accessed : (present : NatSet) (user write : Bool) (a : ℕ) → fault_at present (access_of user write) (place_of a) ≡ None
    → IsIn write a (present ((a - page_base) / 0x1000))
unfolding fault_at place_of
accessed present user write a h =
    pick (nat_le text_base a && nat_lt a (text_base + 0x10000)) (nat_le page_base a && nat_lt a (page_base + 0x1000 * 256)) (nat_lt a (2 ^ 63)) write
    (present ((a - page_base) / 0x1000)) refl refl refl h
  where
    rule : Bool → Place → Option ℕ
    rule w z = fault_at present (access_of user w) z

    pick : (x y z w b : Bool) → (nat_le text_base a && nat_lt a (text_base + 0x10000)) ≡ x → (nat_le page_base a && nat_lt a (page_base + 0x1000 * 256)) ≡ y
        → present ((a - page_base) / 0x1000) ≡ b
        → rule w (if x then Text else (if y then Page ((a - page_base) / 0x1000) else (if z then Lower else Upper))) ≡ None
        → IsIn w a b
    pick true y z true b hx hy e k = absurd (cc)
    pick true y z false b hx hy e k =
        inl ((leb-true text_base a (and_left _ _ hx), ltb-true a (text_base + 0x10000) (and_right (nat_le text_base a) _ hx)), refl)
    pick false true z w true hx hy e k =
        inr ((leb-true page_base a (and_left _ _ hy), ltb-true a (page_base + 0x1000 * 256) (and_right (nat_le page_base a) _ hy)), refl)
    pick false true z w false hx hy e k = absurd (let f : rule w (Page ((a - page_base) / 0x1000)) ≡ rule_absent w = ap (absent_if w) e in cc)
      where
        absent_if : Bool → Bool → Option ℕ
        absent_if w b = fault_at (λ k. b) (access_of user w) (Page 0)

        rule_absent : Bool → Option ℕ
        rule_absent w = absent_if w false
    pick false false true w b hx hy e k = absurd (cc)
    pick false false false w b hx hy e k = absurd (cc)

-- error codes are small
bit_small : (k : ℕ) (b : Bool) → bit_if k b ≤ 2 ^ k
bit_small k true = omega arith
bit_small k false = omega arith

code_small : (x : Access) (b : Bool) → fault_code x b < 32
code_small x b = omega (arith, bit_small 0 b, bit_small 1 x.write, bit_small 2 x.user, bit_small 4 x.fetch)

if_small : (b : Bool) (n code : ℕ) → n < 32 → fault_if b n ≡ Some code → code < 32
if_small true n code l h = let e : n ≡ code = cc in omega arith
if_small false n code l h = absurd (cc)

pub small_code : (present : NatSet) (x : Access) (z : Place) (code : ℕ) → fault_at present x z ≡ Some code → code < 32
unfolding fault_at
small_code present x Text code h = if_small x.write (fault_code x true) code (code_small x true) h
small_code present x (Page i) code h = pick (present i) h
  where
    pick : (b : Bool) → (if b then fault_if x.fetch (fault_code x true) else Some (fault_code x false)) ≡ Some code → code < 32
    pick true k = if_small x.fetch (fault_code x true) code (code_small x true) k
    pick false k = if_small true (fault_code x false) code (code_small x false) k
small_code present x KernelWord code h = if_small x.user (fault_code x true) code (code_small x true) h
small_code present x Lower code h = if_small true (fault_code x false) code (code_small x false) h
small_code present x Upper code h = if_small true (fault_code x x.user) code (code_small x x.user) h

pub user_word : (write b : Bool) (a : ℕ) → is_aligned a ≡ true → IsIn write a b → IsUserWord a
user_word write b a h (inl k) = (h, inl k.0)
user_word write b a h (inr k) = (h, inr k.0)

-- the two views are alike
pub views_alike : (image : Image) (u : UserMemory) (m : Memory) → IsImage image → Sees image u m → AreAlike (user_view u) (view m true)
views_alike image u m is s = record {
  faults = λ write a. sym (pages_fault_alike image u m is s write false a);
  codes = λ write a code h. small_code u.present (access write) (place_of a) code h;
  words = λ write a al h. sym (s.words a (user_word write (u.present ((a - page_base) / 0x1000)) a al (accessed u.present true write a h)));
}

-- ---- after a write

-- a word that can be written is one of a page that is present
pub is_write : (u : UserMemory) (w : Option (ℕ × ℕ)) → IsOpenTo (user_view u) w → IsWrite u.present w
is_write u None h = tt
is_write u (Some x) h = pick (accessed u.present true true x.0 h.1)
  where
    pick : IsIn true x.0 (u.present ((x.0 - page_base) / 0x1000)) → IsWrite u.present (Some x)
    pick (inl k) = absurd (let z : true ≡ false = k.1 in cc)
    pick (inr k) = (h.0, k.0, k.1)

pub others_stay : (present : NatSet) (words : NatMap ℕ) (w : Option (ℕ × ℕ)) → IsWrite present w → (a : ℕ) → (IsPageWord a → ⊥) → with_write words w a ≡ words
    a
others_stay present words None h a k = refl
others_stay present words (Some x) h a k = put_other words x.0 x.1 a (λ q. k (subst IsPageWord (sym q) h.1))

-- two maps with the same write
both_written : (words words' : NatMap ℕ) (w : Option (ℕ × ℕ)) (a : ℕ) → words a ≡ words' a → with_write words w a ≡ with_write words' w a
both_written words words' None a h = h
both_written words words' (Some x) a h = pick (a == x.0) refl
  where
    pick : (b : Bool) → (a == x.0) ≡ b → put_at words x.0 x.1 a ≡ put_at words' x.0 x.1 a
    pick true q =
        subst (λ y. put_at words x.0 x.1 y ≡ put_at words' x.0 x.1 y) (sym (eqb-true a x.0 q))
        (put_same words x.0 x.1 ∙ sym (put_same words' x.0 x.1))
    pick false q = put_other words x.0 x.1 a (eqb-false a x.0 q) ∙ h ∙ sym (put_other words' x.0 x.1 a (eqb-false a x.0 q))

-- user code sees the same after the same write
pub sees_again : (image : Image) (u : UserMemory) (m : Memory) (w : Option (ℕ × ℕ)) → Sees image u m → IsWrite u.present w
    → HoldsWords (with_write u.words w) → Sees image (user_written u w) (written m w)
sees_again image u m w s h held = record {
  regions_are = s.regions_are;
  text_is = s.text_is;
  holds = λ a al lo hi. others_stay u.present m.words w h a (λ (k : IsPageWord a). let l = k.0 in omega arith) ∙ s.holds a al lo hi;
  words = λ a k. both_written m.words u.words w a (s.words a k);
  held = held;
  pages = λ i l. others_stay u.present m.words w h (page_map + 8 * i) (λ (k : IsPageWord (page_map + 8 * i)). let g = k.1 in omega arith) ∙ s.pages i l;
}
