-- Writing one text after another.
use Rattle.std.proofs.Common.{◌≡◌, ℕ, suc, ◌+◌, ◌≤◌, List, [], ◌∷◌, ◌++◌, length, take, Option, Some, None, append_assoc, length-append, ap, sym, refl, ◌∙◌, subst, arith}
use Rattle.std.proofs.lemmas.List.{take-append-le, append-nil}
use Rattle.std.specs.Prelude.{Result, Ok, Err, OnOk, OnErr}
use Rattle.std.specs.Io.KnownBytes.{append_known}
use Rattle.ev_io.specs.Transfer.{TookPrefix}

pub both_written : (old : Option (List ℕ)) (x y : List ℕ) → append_known (append_known old x) y ≡ append_known old (x ++ y)
both_written None x y = refl
both_written (Some z) x y = ap (λ w. Some w) (append_assoc z x y)

pub then_ok : (old mid new : Option (List ℕ)) (x y : List ℕ) → mid ≡ append_known old x → new ≡ append_known mid y → new ≡ append_known old (x ++ y)
then_ok old mid new x y a b = b ∙ ap (λ m. append_known m y) a ∙ both_written old x y

take_more : (x y : List ℕ) (n : ℕ) → x ++ take n y ≡ take (length x + n) (x ++ y)
take_more [] y n = let e : n ≡ 0 + n = omega arith in ap (λ k. take k y) e
take_more (c ∷ x) y n = let e : suc (length x + n) ≡ length (c ∷ x) + n = omega arith in ap (λ w. c ∷ w) (take_more x y n) ∙ ap (λ k. take k (c ∷ (x ++ y))) e

pub first_failed : (old new : Option (List ℕ)) (x y : List ℕ) → TookPrefix old new x → TookPrefix old new (x ++ y)
first_failed old new x y h =
    let within : h.0 ≤ length x = h.1 in
    (h.0, omega (arith, length-append x y), h.2 ∙ ap (append_known old) (sym (take-append-le h.0 x y within)))

pub second_failed : (old mid new : Option (List ℕ)) (x y : List ℕ) → mid ≡ append_known old x → TookPrefix mid new y → TookPrefix old new (x ++ y)
second_failed old mid new x y a h =
    let within : h.0 ≤ length y = h.1 in (
      length x + h.0,
      omega (arith, length-append x y),
      h.2 ∙ ap (λ m. append_known m (take h.0 y)) a ∙ both_written old x (take h.0 y)
          ∙ ap (append_known old) (take_more x y h.0),
    )

pub nothing_written : (old : Option (List ℕ)) → append_known old [] ≡ old
nothing_written None = refl
nothing_written (Some z) = ap (λ w. Some w) (append-nil z)

-- what was written from old to now, before the rest of a whole text
pub record Wrote (old now : Option (List ℕ)) (rest whole : List ℕ) : Type 0 where
  pub text : List ℕ
  pub taken : now ≡ append_known old text
  pub is : text ++ rest ≡ whole

pub none_yet : (old : Option (List ℕ)) (whole : List ℕ) → Wrote old old whole whole
none_yet old whole = record { text = []; taken = sym (nothing_written old); is = refl }

pub more_written : (old now new : Option (List ℕ)) (all x rest whole : List ℕ) → Wrote old now all whole → all ≡ x ++ rest → new ≡ append_known now x
    → Wrote old new rest whole
more_written old now new all x rest whole w e h = record {
  text = w.text ++ x;
  taken = then_ok old now new w.text x w.taken h;
  is = append_assoc w.text x rest ∙ ap (λ t. w.text ++ t) (sym e) ∙ w.is;
}

pub all_written : (old now new : Option (List ℕ)) (x whole : List ℕ) → Wrote old now x whole → new ≡ append_known now x → new ≡ append_known old whole
all_written old now new x whole w h = then_ok old now new w.text x w.taken h ∙ ap (append_known old) w.is

pub none_left : (old now : Option (List ℕ)) (whole : List ℕ) → Wrote old now [] whole → now ≡ append_known old whole
none_left old now whole w = w.taken ∙ ap (append_known old) (sym (append-nil w.text) ∙ w.is)

pub failed_within : (old now new : Option (List ℕ)) (all x rest whole : List ℕ) → Wrote old now all whole → all ≡ x ++ rest → TookPrefix now new x
    → TookPrefix old new whole
failed_within old now new all x rest whole w e h =
    subst (TookPrefix old new) (ap (λ t. w.text ++ t) (sym e) ∙ w.is)
    (second_failed old now new w.text (x ++ rest) w.taken (first_failed now new x rest h))

pub failed_at_end : (old now new : Option (List ℕ)) (x whole : List ℕ) → Wrote old now x whole → TookPrefix now new x → TookPrefix old new whole
failed_at_end old now new x whole w h = failed_within old now new x x [] whole w (sym (append-nil x)) h

-- ---- on the outcome of a write

pub ok_then : {T E : Type 0} (r : Result T E) (P Q : Type 0) → (P → Q) → OnOk r P → OnOk r Q
ok_then (Ok x) P Q f h = f h
ok_then (Err e) P Q f h = tt

pub err_then : {T E : Type 0} (r : Result T E) (P Q : Type 0) → (P → Q) → OnErr r P → OnErr r Q
err_then (Ok x) P Q f h = tt
err_then (Err e) P Q f h = f h

pub ok_now : {T E : Type 0} (r : Result T E) (P : Type 0) → P → OnOk r P
ok_now (Ok x) P h = h
ok_now (Err e) P h = tt

pub err_now : {T E : Type 0} (r : Result T E) (P : Type 0) → P → OnErr r P
err_now (Ok x) P h = tt
err_now (Err e) P h = h
