-- What the forms of a word come to: a word of one form, and tokens behind the last place.
use Rattle.std.proofs.Common.{◌≡◌, ◌≢◌, ℕ, zero, suc, ◌+◌, ◌<◌, ◌≤◌, Bool, true, false, cond, List, [], ◌∷◌, ◌++◌, length, take, drop, Option, Some, None, Result, Ok, Err, refl, ap, sym, ◌∙◌, take_all, arith}
use Rattle.std.specs.Prelude.{nat_le, ◌==◌, filter, filter_map, find, slice_get}
use Rattle.std.specs.List.{list_all}
use Rattle.std.proofs.lemmas.Bool.Decides.{nat_tests}
use Rattle.std.proofs.lemmas.List.{take-append-drop, length-take}
use Rattle.std.proofs.lemmas.Option.{slice_get_past}
use Rattle.ev_io.specs.declared.cause.Cause.{Cause}
use Rattle.ev_io.specs.Tokens.{Token}
use Rattle.ev_line.specs.declared.kind.Kind.{Kind}
use Rattle.ev_line.specs.Operands.{Place, Value, value, then_make}
use Rattle.ev_line.specs.Forms.{Form, form, same_kind, kind_of, kind_at, kind_among, takes, kind_here, is_shaped, fitting, has_places, read_places, read_form, read_fitting, read_forms, read_by, is_plain, read_only}
use Rattle.ev_line.proofs.NameLaws.{both}

-- ---- a word of one form

same_as_itself : (k : Kind) → same_kind k k ≡ true
unfolding same_kind
same_as_itself Kind.Memory = refl
same_as_itself Kind.GsMemory = refl
same_as_itself Kind.Number = refl
same_as_itself Kind.Word = refl
same_as_itself Kind.Register = refl

shaped_kind : (k : Kind) (t : Token) → same_kind k Kind.Memory ≡ false → same_kind k Kind.GsMemory ≡ false → is_shaped k t ≡ true
unfolding same_kind is_shaped
shaped_kind Kind.Memory t g h = absurd cc
shaped_kind Kind.GsMemory t g h = absurd cc
shaped_kind Kind.Number t g h = refl
shaped_kind Kind.Word t g h = refl
shaped_kind Kind.Register t g h = refl

plain_shape : (p : Place) (t : Token) → is_plain p ≡ true → is_shaped (kind_of p) t ≡ true
unfolding is_plain kind_of is_shaped
plain_shape Place.Register t h = refl
plain_shape Place.Local t h = refl
plain_shape Place.Number t h = refl
plain_shape Place.Signed t h = refl
plain_shape Place.Memory t h = absurd cc
plain_shape Place.Gs t h = absurd cc
plain_shape Place.Label t h = refl
plain_shape Place.AnyKey t h = refl
plain_shape Place.AnySide t h = refl
plain_shape Place.SentKey t h = refl
plain_shape (Place.Within low high) t h = refl
plain_shape (Place.Processor count) t h = refl
plain_shape (Place.New taken high) t h = refl
plain_shape (Place.NewRegister taken) t h = refl
plain_shape (Place.TextLabel places) t h = refl
plain_shape (Place.KeyOfBody keys) t h = refl

plain_at : (ps : List Place) (n : ℕ) (p : Place) → list_all is_plain ps ≡ true → slice_get ps n ≡ Some p → is_plain p ≡ true
plain_at [] n p h e = absurd cc
plain_at (q ∷ qs) zero p h e = let same : q ≡ p = cc in ap is_plain (sym same) ∙ (both (is_plain q) (list_all is_plain qs) h).0
plain_at (q ∷ qs) (suc n) p h e = plain_at qs n p (both (is_plain q) (list_all is_plain qs) h).1 e

-- each token fits a form of plain places that stands alone
fits_alone : {X : Type 0} → (n : ℕ) (ts : List Token) (f : Form X) → list_all is_plain f.places ≡ true → fitting n ts (f ∷ []) ≡ f ∷ []
unfolding fitting kind_here kind_among takes
fits_alone n [] f h = refl
fits_alone {X} n (t ∷ ts) f h = by (slice_get f.places n) refl (fits_alone (suc n) ts f h)
  where
    by : (o : Option Place) → slice_get f.places n ≡ o → fitting (suc n) ts (f ∷ []) ≡ f ∷ [] → fitting n (t ∷ ts) (f ∷ []) ≡ f ∷ []
    by None e more = rw (fitting, e) refl
    by (Some p) e more = rw (fitting, e, plain_shape p t (plain_at f.places n p h e), e, same_as_itself (kind_of p)) more

pub one_form : {X : Type 0} → (f : Form X) (ts : List Token) → list_all is_plain f.places ≡ true → read_forms (f ∷ []) ts ≡ read_only f ts
unfolding read_forms read_fitting read_form read_only
one_form {X} f ts h = ap (read_fitting ts) (fits_alone 0 ts f h) ∙ by (has_places ts f) refl
  where
    by : (e : Bool) → has_places ts f ≡ e → read_fitting ts (f ∷ []) ≡ read_only f ts
    by true e = rw (read_fitting, read_only, e) refl
    by false e = rw (read_fitting, read_only, e) refl

-- one place, and two places from left to right
pub one_place : {X : Type 0} → (p : Place) (f : Value p → X) (t : Token) → read_only (form (p ∷ []) f) (t ∷ []) ≡ then_make f (value p t)
unfolding read_only read_places
one_place {X} p f t = by (value p t) refl
  where
    by : (r : Result (Value p) Cause) → value p t ≡ r → read_only (form {X = X} (p ∷ []) f) (t ∷ []) ≡ then_make f (value p t)
    by (Ok v) e = rw (read_only, read_places, e) refl
    by (Err cause) e = rw (read_only, read_places, e) refl

abbrev pub make_both : {A B X : Type 0} → (A → B → X) → Result A Cause → Result B Cause → Result X Cause
make_both f (Err cause) r = Err cause
make_both f (Ok v) (Err cause) = Err cause
make_both f (Ok v) (Ok w) = Ok (f v w)

pub two_places : {X : Type 0} → (p q : Place) (f : Value p → Value q → X) (a b : Token)
    → read_only (form (p ∷ q ∷ []) f) (a ∷ b ∷ []) ≡ make_both f (value p a) (value q b)
unfolding read_only read_places
two_places {X} p q f a b = by (value p a) refl (value q b) refl
  where
    by : (r : Result (Value p) Cause) → value p a ≡ r → (s : Result (Value q) Cause) → value q b ≡ s
        → read_only (form {X = X} (p ∷ q ∷ []) f) (a ∷ b ∷ []) ≡ make_both f (value p a) (value q b)
    by (Err cause) e s k = rw (read_only, read_places, e) refl
    by (Ok v) e (Err cause) k = rw (read_only, read_places, e, read_places, k) refl
    by (Ok v) e (Ok w) k = rw (read_only, read_places, e, read_places, k) refl

-- another number of tokens
pub other_count : {X : Type 0} → (f : Form X) (ts : List Token) → length f.places ≢ length ts → read_only f ts ≡ Err Cause.Count
unfolding read_only
other_count f ts h = rw (read_only, differ (length f.places) (length ts) h) refl
  where
    differ : (a b : ℕ) → a ≢ b → a == b ≡ false
    differ a b h = grind (arith, nat_tests)

-- ---- tokens behind the last place

abbrev pub is_within : {X : Type 0} → ℕ → Form X → Bool
is_within n f = nat_le (length f.places) n

-- no form has a place from n on
no_kinds : {X : Type 0} → (n : ℕ) (forms : List (Form X)) → list_all (is_within n) forms ≡ true → filter_map (kind_at n) forms ≡ []
no_kinds n [] h = refl
no_kinds {X} n (f ∷ fs) h = let k = both (is_within n f) (list_all (is_within n) fs) h in rw (slice_get_past f.places n (le_true _ _ k.0)) (no_kinds n fs k.1)
  where
    le_true : (a b : ℕ) → nat_le a b ≡ true → a ≤ b
    le_true a b h = grind (arith, nat_tests)

still_within : {X : Type 0} → (n : ℕ) (test : Form X → Bool) (forms : List (Form X)) → list_all (is_within n) forms ≡ true
    → list_all (is_within n) (filter test forms) ≡ true
still_within n test [] h = refl
still_within {X} n test (f ∷ fs) h = let k = both (is_within n f) (list_all (is_within n) fs) h in by (test f) k.0 (still_within n test fs k.1)
  where
    by : (e : Bool) → is_within n f ≡ true → list_all (is_within n) (filter test fs) ≡ true
        → list_all (is_within n) (cond e (f ∷ filter test fs) (filter test fs)) ≡ true
    by true k more = rw k more
    by false k more = more

-- tokens behind the places of all forms are passed over
fitting_behind : {X : Type 0} → (n : ℕ) (us vs : List Token) (forms : List (Form X)) → list_all (is_within (n + length us)) forms ≡ true
    → fitting n (us ++ vs) forms ≡ fitting n us forms
unfolding fitting kind_here
fitting_behind n [] [] forms h = refl
fitting_behind n [] (v ∷ vs) forms h = rw (fitting, no_kinds n forms (ap (λ m. list_all (is_within m) forms) (none_more n) ∙ h)) refl
  where
    none_more : (n : ℕ) → n ≡ n + 0
    none_more n = omega arith
fitting_behind {X} n (u ∷ us) vs forms h =
    by (kind_here (filter_map (kind_at n) forms) u) refl (λ k. fitting_behind (suc n) us vs (filter (λ f. takes k (slice_get f.places n)) forms) (within k))
  where
    counted : n + suc (length us) ≡ suc n + length us
    counted = omega arith

    within : (k : Kind) → list_all (is_within (suc n + length us)) (filter (λ f. takes k (slice_get f.places n)) forms) ≡ true
    within k = still_within (suc n + length us) (λ f. takes k (slice_get f.places n)) forms (ap (λ m. list_all (is_within m) forms) (sym counted) ∙ h)

    by : (o : Option Kind) → kind_here (filter_map (kind_at n) forms) u ≡ o
        → ((k : Kind) → fitting (suc n) (us ++ vs) (filter (λ f. takes k (slice_get f.places n)) forms) ≡ fitting (suc n) us
        (filter (λ f. takes k (slice_get f.places n)) forms))
        → fitting n (u ∷ (us ++ vs)) forms ≡ fitting n (u ∷ us) forms
    by None e more = rw (fitting, e) refl
    by (Some k) e more = shaped (is_shaped k u) refl
      where
        shaped : (b : Bool) → is_shaped k u ≡ b → fitting n (u ∷ (us ++ vs)) forms ≡ fitting n (u ∷ us) forms
        shaped true g = rw (fitting, e, g) (more k)
        shaped false g = rw (fitting, e, g) refl

fitting_within : {X : Type 0} → (m n : ℕ) (ts : List Token) (forms : List (Form X)) → list_all (is_within m) forms ≡ true
    → list_all (is_within m) (fitting n ts forms) ≡ true
unfolding fitting
fitting_within m n [] forms h = h
fitting_within {X} m n (t ∷ ts) forms h =
    by (kind_here (filter_map (kind_at n) forms) t) refl (λ k. fitting_within m (suc n) ts (filter (λ f. takes k (slice_get f.places n)) forms)
    (still_within m (λ f. takes k (slice_get f.places n)) forms h))
  where
    by : (o : Option Kind) → kind_here (filter_map (kind_at n) forms) t ≡ o
        → ((k : Kind) → list_all (is_within m) (fitting (suc n) ts (filter (λ f. takes k (slice_get f.places n)) forms)) ≡ true)
        → list_all (is_within m) (fitting n (t ∷ ts) forms) ≡ true
    by None e more = rw (fitting, e) h
    by (Some k) e more = shaped (is_shaped k t) refl
      where
        shaped : (b : Bool) → is_shaped k t ≡ b → list_all (is_within m) (fitting n (t ∷ ts) forms) ≡ true
        shaped true g = rw (fitting, e, g) (more k)
        shaped false g = rw (fitting, e, g) refl

-- no form has so many places
none_found : {X : Type 0} → (m : ℕ) (ts : List Token) (forms : List (Form X)) → list_all (is_within m) forms ≡ true → m < length ts
    → find (has_places ts) forms ≡ None
none_found m ts [] h l = refl
none_found {X} m ts (f ∷ fs) h l = let k = both (is_within m f) (list_all (is_within m) fs) h in
    rw (differ (length f.places) (length ts) k.0 l) (none_found m ts fs k.1 l)
  where
    differ : (a b : ℕ) → nat_le a m ≡ true → m < b → a == b ≡ false
    differ a b g e = grind (arith, nat_tests)

too_many : {X : Type 0} → (m : ℕ) (ts us : List Token) (forms : List (Form X)) → list_all (is_within m) forms ≡ true → m < length ts → m < length us
    → read_fitting ts forms ≡ read_fitting us forms
unfolding read_fitting read_form
too_many m ts us [] h k l = refl
too_many {X} m ts us (f ∷ fs) h k l = ap (read_form ts) (none_found m ts (f ∷ fs) h k) ∙ none ∙ ap (read_form us) (sym (none_found m us (f ∷ fs) h l))
  where
    none : read_form {X = X} ts None ≡ read_form us None
    none = refl

more_within : {X : Type 0} → (m n : ℕ) (forms : List (Form X)) → list_all (is_within m) forms ≡ true → m ≤ n → list_all (is_within n) forms ≡ true
more_within m n [] h l = refl
more_within {X} m n (f ∷ fs) h l = let k = both (is_within m f) (list_all (is_within m) fs) h in rw (more (length f.places) k.0) (more_within m n fs k.1 l)
  where
    more : (a : ℕ) → nat_le a m ≡ true → nat_le a n ≡ true
    more a g = grind (arith, nat_tests)

-- A token behind the places of all forms is one too many, whatever it is: the first of these tokens tell what comes of all.
pub first_tokens : {X : Type 0} → (m : ℕ) (ts : List Token) (forms : List (Form X)) → list_all (is_within m) forms ≡ true
    → read_forms forms (take (m + 1) ts) ≡ read_forms forms ts
unfolding read_forms
first_tokens {X} m ts forms h = by (nat_le (length ts) (m + 1)) refl
  where
    by : (e : Bool) → nat_le (length ts) (m + 1) ≡ e → read_forms forms (take (m + 1) ts) ≡ read_forms forms ts
    by true e = ap (read_forms forms) (take_all (m + 1) ts (le_true _ _ e))
      where
        le_true : (a b : ℕ) → nat_le a b ≡ true → a ≤ b
        le_true a b h = grind (arith, nat_tests)
    by false e =
        ap (read_fitting (take (m + 1) ts))
        (sym (fitting_behind 0 (take (m + 1) ts) (drop (m + 1) ts) forms (few (length (take (m + 1) ts)) (omega (arith, length-take (m + 1) ts, long))))
        ∙ ap (λ (us : List Token). fitting 0 us forms) (take-append-drop (m + 1) ts))
        ∙ too_many m (take (m + 1) ts) ts (fitting 0 ts forms) (fitting_within m 0 ts forms h) (omega (arith, length-take (m + 1) ts, long))
        (omega (arith, long))
      where
        le_false : (a b : ℕ) → nat_le a b ≡ false → b < a
        le_false a b h = grind (arith, nat_tests)

        long : m + 1 < length ts
        long = le_false _ _ e

        few : (n : ℕ) → m ≤ n → list_all (is_within (0 + n)) forms ≡ true
        few n l = more_within m (0 + n) forms h (omega (arith, l))

-- A line whose forms have at most four places is told by its first six tokens.
pub first_six : {X : Type 0} → (forms : Token → List (Form X)) (ts : List Token) → ((w : Token) → list_all (is_within 4) (forms w) ≡ true)
    → read_by forms (take 6 ts) ≡ read_by forms ts
unfolding read_by
first_six forms [] h = refl
first_six forms (w ∷ ts) h = first_tokens 4 ts (forms w) (h w)
