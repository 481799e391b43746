-- What forms make of the values that places give: a line that is read has what each of its forms gives.
use Rattle.std.proofs.Common.{◌≡◌, ℕ, suc, ◌+◌, ◌-◌, ◌*◌, ◌<◌, ◌≤◌, ◌^◌, Bool, true, false, not, nat_lt, List, [], ◌∷◌, length, filter, filter_map, drop, subst, Option, Some, None, Result, Ok, Err, refl, sym, ap, ◌∙◌, arith}
use Rattle.std.specs.Prelude.{ℤ, find, slice_get, if◌then◌else◌, nat_le, codes}
use Rattle.std.specs.List.{list_all}
use Rattle.std.proofs.lemmas.Bool.Decides.{nat_tests}
use Rattle.std.proofs.lemmas.Bool.{and_parts}
use Rattle.std.specs.Str.{bytes_eq}
use Rattle.ev_io.specs.declared.cause.Cause.{Cause}
use Rattle.ev_io.specs.Tokens.{Token}
use Rattle.ev_io.specs.Number.{is_between, number_of, below_word, value as digits_value, is_decimal, is_hexadecimal}
use Rattle.ev_asm.specs.Assembly.{place}
use Rattle.ev_body.specs.declared.key.Key.{Key}
use Rattle.ev_body.specs.Bodies.{key_number}
use Rattle.ev_body.specs.WellFormed.{is_local, is_word, is_key, is_sendable}
use Rattle.ev_abstract.specs.EntryText.{register_names, key_text}
use Rattle.ev_line.specs.declared.kind.Kind.{Kind}
use Rattle.ev_line.specs.Names.{register_of, place_from, low_digit, interrupt, interrupt_key, key_in, key_of, named_keys}
use Rattle.ev_line.specs.Operands.{Place, Value, value, or_else, if_it, then_make, among, has_label, number, number_within, displacement, register, local, label, memory_parts, based, memory, key, sent_key, key_of_body, processor}
use Rattle.ev_line.specs.Operands.{Register, Local, Number, Signed, Memory, Gs, Label, AnyKey, AnySide, SentKey, Within, Processor, New, NewRegister, TextLabel, KeyOfBody}
use Rattle.ev_line.specs.Forms.{Maker, Form, takes, kind_at, kind_here, is_shaped, fitting, read_places, read_form, read_fitting, read_forms, has_places}
use Rattle.ev_text.proofs.Ranges.{number_bounds}

-- what is known of the value of a token at a place
abbrev pub InPlace : (p : Place) → Value p → Type 0
InPlace Register v = v < 16
InPlace Local v = is_local v ≡ true
InPlace Number v = is_word v ≡ true
InPlace Memory v = v.0 < 16
InPlace AnyKey v = is_key v ≡ true
InPlace SentKey v = is_sendable v ≡ true
InPlace (Within low high) v = (low ≤ v) × (v ≤ high)
InPlace (Processor count) v = v < count
InPlace (New taken high) v = (v ≤ high) × (among taken v ≡ false)
InPlace (NewRegister taken) v = (v < 16) × (among taken v ≡ false)
InPlace (KeyOfBody keys) v = (is_sendable v ≡ true) × (among keys (key_number v) ≡ true)
InPlace (TextLabel labels) v = (name : Token) × (has_label labels name ≡ true) × (v ≡ place labels name)
InPlace _ v = Unit {0}

-- what is made of any values of the places has a property
abbrev pub Gives : {X : Type 0} → (P : X → Type 0) → (ps : List Place) → Maker ps X → Type 0
Gives P [] x = P x
Gives P (p ∷ ps) f = (v : Value p) → InPlace p v → Gives P ps (f v)

abbrev pub AllGive : {X : Type 0} → (P : X → Type 0) → List (Form X) → Type 0
AllGive P [] = Unit {0}
AllGive P (f ∷ fs) = Gives P f.places f.made × AllGive P fs

-- ---- values lie in their places

tested : {X : Type 0} → (test : X → Bool) (cause : Cause) (r : Result X Cause) (v : X) → if_it test cause r ≡ Ok v → (r ≡ Ok v) × (test v ≡ true)
tested {X} test cause (Err e) v h = absurd cc
tested {X} test cause (Ok x) v h = by (test x) refl h
  where
    by : (b : Bool) → test x ≡ b → (let r : Result X Cause = elim b [ true ↦ Ok x | false ↦ Err cause ] in r) ≡ Ok v
        → ◌≡◌ {A = Result X Cause} (Ok x) (Ok v) × (test v ≡ true)
    by true e h = let g : x ≡ v = cc in (h, rw (sym g) e)
    by false e h = absurd cc

named_below : (n : ℕ) (ws : List Token) (t : Token) (k : ℕ) → place_from n ws t ≡ Some k → k < n + length ws
named_below n [] t k h = absurd cc
named_below n (w ∷ ws) t k h = by (bytes_eq t w) h (named_below (suc n) ws t k)
  where
    by : (b : Bool) → (let o : Option ℕ = elim b [ true ↦ Some n | false ↦ place_from (suc n) ws t ] in o) ≡ Some k
        → (place_from (suc n) ws t ≡ Some k → k < suc n + length ws) → k < n + length (w ∷ ws)
    by true h go = let e : n ≡ k = cc in omega arith
    by false h go = let l = go h in omega arith

there : {X : Type 0} → (cause : Cause) (o : Option X) (v : X) → or_else cause o ≡ Ok v → o ≡ Some v
there cause None v h = absurd cc
there cause (Some x) v h = let e : x ≡ v = cc in ap Some e

register_in : (t : Token) (v : ℕ) → register t ≡ Ok v → v < 16
unfolding register register_of
register_in t v h = named_below 0 register_names t v (there Cause.Name (place_from 0 register_names t) v h)

below : (n v : ℕ) → below_word n ≡ Some v → is_word v ≡ true
unfolding below_word
below n v h = by (nat_lt n (2 ^ 64)) refl h
  where
    by : (b : Bool) → nat_lt n (2 ^ 64) ≡ b → (if b then Some n else None) ≡ Some v → is_word v ≡ true
    by true e h = let g : n ≡ v = cc in rw (sym g) e
    by false e h = absurd cc

number_in : (t : Token) (v : ℕ) → number t ≡ Ok v → is_word v ≡ true
unfolding number number_of
number_in t v h = by (is_decimal t) (is_hexadecimal t) (there Cause.Number _ v h)
  where
    by : (a b : Bool) → (if a then below_word (digits_value 10 t) else (if b then below_word (digits_value 16 (drop 2 t)) else None)) ≡ Some v
        → is_word v ≡ true
    by true b e = below _ v e
    by false true e = below _ v e
    by false false e = absurd cc

made : {X Y : Type 0} → (f : X → Y) (r : Result X Cause) (v : Y) → then_make f r ≡ Ok v → (x : X) × (r ≡ Ok x) × (v ≡ f x)
made f (Err e) v h = absurd cc
made f (Ok x) v h = (x, refl, let e : f x ≡ v = cc in sym e)

less : (a b : ℕ) → nat_lt a b ≡ true → a < b
less a b h = grind arith

not_true : (b : Bool) → not b ≡ true → b ≡ false
not_true true h = absurd cc
not_true false h = refl

-- ---- memory operands

based_in : (name : Token) (negative : Bool) (n : Token) (v : ℕ × ℤ) → based name negative n ≡ Ok v → v.0 < 16
unfolding based
based_in name negative n v h = by (register name) refl (displacement negative n) refl
  where
    by : (r : Result ℕ Cause) → register name ≡ r → (d : Result ℤ Cause) → displacement negative n ≡ d → v.0 < 16
    by (Err c) e d f = absurd (let k : based name negative n ≡ Err c = rw (based, e) refl in cc)
    by (Ok b) e (Err c) f = absurd (let k : based name negative n ≡ Err c = rw (based, e, f) refl in cc)
    by (Ok b) e (Ok z) f =
        let k : based name negative n ≡ Ok (b, z) = rw (based, e, f) refl in
        let same : b ≡ v.0 = first b z v (sym k ∙ h) in
        rw (sym same) (register_in name b e)
      where
        first : (b : ℕ) (z : ℤ) (v : ℕ × ℤ) → ◌≡◌ {A = Result (ℕ × ℤ) Cause} (Ok (b, z)) (Ok v) → b ≡ v.0
        first b z v e = cc

memory_in : (t : Token) (v : ℕ × ℤ) → memory t ≡ Ok v → v.0 < 16
unfolding memory
memory_in t v h = by (memory_parts t) refl
  where
    by : (o : Option (Token × Bool × Token)) → memory_parts t ≡ o → v.0 < 16
    by None e = absurd (let k : memory t ≡ Err Cause.Word = rw (memory, e) refl in cc)
    by (Some p) e = let k : memory t ≡ based p.0 p.1 p.2 = rw (memory, e) refl in based_in p.0 p.1 p.2 v (sym k ∙ h)

-- ---- keys

digit_small : (c d : ℕ) → low_digit c ≡ Some d → d ≤ 15
unfolding low_digit
digit_small c d h = by (is_between 0x30 0x39 c) refl h
  where
    letter : (b : Bool) → is_between 0x61 0x66 c ≡ b → (let o : Option ℕ = elim b [ true ↦ Some (c - 0x57) | false ↦ None ] in o) ≡ Some d → d ≤ 15
    letter true e h = let k : c ≤ 0x66 = at_most 0x61 0x66 c e in let g : c - 0x57 ≡ d = cc in omega arith
      where
        at_most : (a b n : ℕ) → is_between a b n ≡ true → n ≤ b
        at_most a b n h = grind (arith, nat_tests)
    letter false e h = absurd cc

    by : (b : Bool) → is_between 0x30 0x39 c ≡ b → (let o : Option ℕ = elim b [
      | true ↦ Some (c - 0x30)
      | false ↦ elim (is_between 0x61 0x66 c) [ true ↦ Some (c - 0x57) | false ↦ None ]
    ] in o) ≡ Some d → d ≤ 15
    by true e h = let k : c ≤ 0x39 = at_most 0x30 0x39 c e in let g : c - 0x30 ≡ d = cc in omega arith
      where
        at_most : (a b n : ℕ) → is_between a b n ≡ true → n ≤ b
        at_most a b n h = grind (arith, nat_tests)
    by false e h = letter (is_between 0x61 0x66 c) refl h

vector_is_key : (o p : Option ℕ) (k : Key) → ((d : ℕ) → o ≡ Some d → d ≤ 15) → ((d : ℕ) → p ≡ Some d → d ≤ 15) → interrupt o p ≡ Some k → is_key k ≡ true
unfolding is_key
vector_is_key None p k f g h = absurd cc
vector_is_key (Some x) None k f g h = absurd cc
vector_is_key (Some x) (Some y) k f g h = by (nat_le 0x20 (16 * x + y)) refl h
  where
    small : 16 * x + y < 0x100
    small = omega (arith, f x refl, g y refl)

    fits : (n : ℕ) → nat_le 0x20 n ≡ true → n < 0x100 → is_key (Key.Irq n) ≡ true
    fits n e l = grind (arith, nat_tests)

    by : (b : Bool) → nat_le 0x20 (16 * x + y) ≡ b → (let q : Option Key = elim b [ true ↦ Some (Key.Irq (16 * x + y)) | false ↦ None ] in q) ≡ Some k
        → is_key k ≡ true
    by true e h = let m : Key.Irq (16 * x + y) ≡ k = cc in rw (sym m) (fits (16 * x + y) e small)
    by false e h = absurd cc

interrupt_is_key : (t : Token) (k : Key) → interrupt_key t ≡ Some k → is_key k ≡ true
unfolding interrupt_key
interrupt_is_key (i ∷ r ∷ q ∷ x ∷ y ∷ []) k h = by (bytes_eq (i ∷ r ∷ q ∷ []) (codes "irq")) h
  where
    by : (b : Bool) → (let o : Option Key = elim b [ true ↦ interrupt (low_digit x) (low_digit y) | false ↦ None ] in o) ≡ Some k → is_key k ≡ true
    by true h = vector_is_key (low_digit x) (low_digit y) k (digit_small x) (digit_small y) h
    by false h = absurd cc
interrupt_is_key _ k h = absurd cc

-- a key among these, or an interrupt
in_keys : (ks : List Key) (t : Token) (k : Key) → list_all is_key ks ≡ true → key_in ks t ≡ Some k → is_key k ≡ true
in_keys [] t k g h = interrupt_is_key t k h
in_keys (x ∷ xs) t k g h = by (bytes_eq t (key_text x)) h (in_keys xs t k (and_parts (is_key x) (list_all is_key xs) g).1)
  where
    by : (b : Bool) → (let o : Option Key = elim b [ true ↦ Some x | false ↦ key_in xs t ] in o) ≡ Some k → (key_in xs t ≡ Some k → is_key k ≡ true)
        → is_key k ≡ true
    by true h go = let e : x ≡ k = cc in rw (sym e) (and_parts (is_key x) (list_all is_key xs) g).0
    by false h go = go h

key_in_place : (t : Token) (k : Key) → key t ≡ Ok k → is_key k ≡ true
unfolding key key_of is_key
key_in_place t k h = in_keys named_keys t k refl (there Cause.Name (key_of t) k h)

-- the value of a token at a place lies in it
pub in_place : (p : Place) (t : Token) (v : Value p) → value p t ≡ Ok v → InPlace p v
unfolding value local sent_key key_of_body processor
in_place Register t v h = register_in t v h
in_place Local t v h = (tested is_local Cause.Name (register t) v h).1
in_place Number t v h = number_in t v h
in_place Signed t v h = tt
in_place Memory t v h = memory_in t v h
in_place Gs t v h = tt
in_place Label t v h = tt
in_place AnyKey t v h = key_in_place t v h
in_place AnySide t v h = tt
in_place SentKey t v h = (tested is_sendable Cause.Name (key t) v h).1
in_place (Within low high) t v h = number_bounds low high t v (sym h)
in_place (Processor count) t v h = less v count (tested (λ n. nat_lt n count) Cause.NoSuchProcessor (number t) v h).1
in_place (New taken high) t v h =
    let k = tested (λ n. not (among taken n)) Cause.Double (number_within 0 high t) v h in
    ((number_bounds 0 high t v (sym k.0)).1, not_true (among taken v) k.1)
in_place (NewRegister taken) t v h =
    let k = tested (λ n. not (among taken n)) Cause.Double (register t) v h in
    (register_in t v k.0, not_true (among taken v) k.1)
in_place (TextLabel labels) t v h =
    let m = made (place labels) (if_it (has_label labels) Cause.NoLabel (label t)) v h in
    (m.0, (tested (has_label labels) Cause.NoLabel (label t) m.0 m.1).1, m.2)
in_place (KeyOfBody keys) t v h =
    let k = tested (λ key. among keys (key_number key)) Cause.NoBody (sent_key t) v h in
    ((tested is_sendable Cause.Name (key t) v k.0).1, k.1)

-- ---- reading

places_give : {X : Type 0} → (P : X → Type 0) (ps : List Place) (f : Maker ps X) (ts : List Token) (x : X) → Gives P ps f → read_places ps ts f ≡ Ok x → P x
unfolding read_places
places_give P [] f [] x g h = let e : f ≡ x = cc in subst P e g
places_give P [] f (t ∷ ts) x g h = absurd cc
places_give P (p ∷ ps) f [] x g h = absurd cc
places_give {X} P (p ∷ ps) f (t ∷ ts) x g h = by (value p t) refl h (λ v k. places_give P ps (f v) ts x k)
  where
    by : (r : Result (Value p) Cause) → value p t ≡ r → (let q : Result X Cause = elim r [ Ok v ↦ read_places ps ts (f v) | Err cause ↦ Err cause ] in q) ≡ Ok
        x
        → ((v : Value p) → Gives P ps (f v) → read_places ps ts (f v) ≡ Ok x → P x) → P x
    by (Ok v) e h go = go v (g v (in_place p t v e)) h
    by (Err cause) e h go = absurd cc

chosen : {X : Type 0} → (P : X → Type 0) (test : Form X → Bool) (forms : List (Form X)) → AllGive P forms → AllGive P (filter test forms)
chosen P test [] g = tt
chosen P test (f ∷ fs) g = by (test f) (chosen P test fs g.1)
  where
    by : (b : Bool) → AllGive P (filter test fs) → AllGive P (if b then f ∷ filter test fs else filter test fs)
    by true k = (g.0, k)
    by false k = k

fitting_give : {X : Type 0} → (P : X → Type 0) (n : ℕ) (ts : List Token) (forms : List (Form X)) → AllGive P forms → AllGive P (fitting n ts forms)
unfolding fitting
fitting_give P n [] forms g = g
fitting_give {X} P n (t ∷ ts) forms g =
    by (kind_here (filter_map (kind_at n) forms) t)
    (λ k. fitting_give P (suc n) ts (filter (λ f. takes k (slice_get f.places n)) forms) (chosen P (λ f. takes k (slice_get f.places n)) forms g))
  where
    shaped : (k : Kind) (b : Bool) → AllGive P (fitting (suc n) ts (filter (λ f. takes k (slice_get f.places n)) forms))
        → AllGive P (let fs : List (Form X) = elim b [ true ↦ fitting (suc n) ts (filter (λ f. takes k (slice_get f.places n)) forms) | false ↦ [] ] in fs)
    shaped k true h = h
    shaped k false h = tt

    by : (o : Option Kind) → ((k : Kind) → AllGive P (fitting (suc n) ts (filter (λ f. takes k (slice_get f.places n)) forms)))
        → AllGive P (let fs : List (Form X) = elim o [
          | None ↦ forms
          | Some k ↦ elim (is_shaped k t) [ true ↦ fitting (suc n) ts (filter (λ f. takes k (slice_get f.places n)) forms) | false ↦ [] ]
        ] in fs)
    by None go = g
    by (Some k) go = shaped k (is_shaped k t) (go k)

found_gives : {X : Type 0} → (P : X → Type 0) (ts : List Token) (test : Form X → Bool) (forms : List (Form X)) (x : X) → AllGive P forms
    → read_form ts (find test forms) ≡ Ok x → P x
unfolding read_form
found_gives P ts test [] x g h = absurd cc
found_gives P ts test (f ∷ fs) x g h = by (test f) h (found_gives P ts test fs x g.1)
  where
    by : (b : Bool) → read_form ts (if b then Some f else find test fs) ≡ Ok x → (read_form ts (find test fs) ≡ Ok x → P x) → P x
    by true h go = places_give P f.places f.made ts x g.0 h
    by false h go = go h

-- a line that is read has what each of its forms gives
pub forms_give : {X : Type 0} → (P : X → Type 0) (forms : List (Form X)) (ts : List Token) (x : X) → AllGive P forms → read_forms forms ts ≡ Ok x → P x
unfolding read_forms read_fitting
forms_give {X} P forms ts x g h = by (fitting 0 ts forms) (fitting_give P 0 ts forms g) h
  where
    by : (fs : List (Form X)) → AllGive P fs → read_fitting ts fs ≡ Ok x → P x
    by [] k h = absurd cc
    by (f ∷ fs) k h = found_gives P ts (has_places ts) (f ∷ fs) x k h
