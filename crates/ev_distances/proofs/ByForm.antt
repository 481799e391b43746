-- Windows by form: each is an interval, the kernel has access to it, and closed tests of forms tell that windows lie apart.
use Rattle.std.proofs.Common.{◌≡◌, ◌≢◌, ℕ, ◌+◌, ◌-◌, ◌*◌, ◌%◌, ◌<◌, ◌≤◌, Bool, true, false, not, ◌&&◌, List, [], ◌∷◌, refl, sym, ap, ◌∙◌, arith, ◌⊎◌, inl, inr, ⊎_elim}
use Rattle.std.specs.Prelude.{◌==◌, ◌||◌, nat_le, if◌then◌else◌}
use Rattle.std.proofs.lemmas.Bool.{eqb-true, eq-eqb, leb-true, not-true}
use Rattle.ev_body.specs.declared.image.Image.{Image}
use Rattle.ev_listing.specs.AddressMap.{record_address, stack_top}
use Rattle.ev_concrete.specs.Opening.{regions}
use Rattle.ev_symbolic.specs.Value.{M}
use Rattle.ev_symbolic.specs.State.{top_tag}
use Rattle.ev_symbolic.specs.Agrees.{Env}
use Rattle.ev_symbolic.specs.Openings.{win_at}
use Rattle.ev_symbolic.specs.Names.{task_tag, next_task_tag, next_top_tag, record_tag}
use Rattle.ev_symbolic.specs.Openings.{gs_tag}
use Rattle.ev_symbolic.proofs.Values.{and_left, and_right}
use Rattle.ev_distances.specs.Span.{Areas, Stacks, Span, OtherProcessor, OtherNumber, Before, Behind, part_eq, DifferUnless, Apart, ApartFrom, AllApart, Located, AllLocated, ApartUnless, OthersFrom, OthersApart, IsCovered, AllCovered, all_aligned}
use Rattle.ev_distances.specs.Form.{Form, OnStack, Stretch, InArea, OnTask, OnNextTask, OnNextStack, InRecord, record_bytes, win_of, Where, span_of, wins_of, spans_of, HasBase, IsWhere, depth_of, bytes_of, is_form, are_forms, Each, HasRoom, Fitting, part_of, is_own, apart_off_stack, apart_in_one, apart_on_two_stacks, apart_by_depth, apart_at_one_top, apart_from_all, all_apart}
use Rattle.ev_distances.specs.Claims.{FormsAreApart, FormsAreOpen, OfTwoProcessors, OnTwoStacks, IsAbove, ByDepth, AtOneTop}
use Rattle.ev_distances.proofs.Spans.{differ, far}
use Rattle.ev_distances.proofs.Windows.{sep, open_ok, in_area, on_task, on_stack}
use Rattle.ev_distances.proofs.Regions.{stack_covered, area_covered, task_covered}

-- ---- sizes

not_zero : (n : ℕ) → not (n == 0) ≡ true → 0 < n
not_zero n h = pick (n == 0) refl h
  where
    pick : (b : Bool) → (n == 0) ≡ b → not b ≡ true → 0 < n
    pick true q r = absurd (cc)
    pick false q r = grind (arith, q)

fits : (b n : ℕ) → b ≤ n → 0 + b ≤ n
fits b n h = omega arith

multiple : (n : ℕ) → (n % 8 == 0) ≡ true → n % 8 ≡ 0
multiple n h = eqb-true (n % 8) 0 h

-- ---- intervals

-- n bytes from d below the top
on_stretch : (e : Env) (t p n used d len : ℕ) → e.base t + used ≡ stack_top p n → p < 32 → n < 7 → 0 < len → len ≤ d → used + d ≤ 0x4000
    → Located e (win_at t (M - d) len) (record { part = Stacks; p = p; n = n; lo = 0x4000 - used - d; len = len })
on_stretch e t p n used d len h hp hn h0 hd hl = record {
  small = omega arith;
  starts = (let x : (e.base t + (M - d)) % M ≡ (0xffffc90000000000 + 0x100000 * p + 0x4000 * n) + (0x4000 - used - d) = omega arith in x);
  len = omega arith;
  is = record { processor = hp; number = hn; fits = omega arith };
}

in_record : (e : Env) (t p k : ℕ) → e.base t ≡ record_address p k → p < 32 → k < 8
    → Located e (win_at t 0 record_bytes) (record { part = Areas; p = p; n = 0; lo = 0x800 + record_bytes * k; len = record_bytes })
in_record e t p k h hp hk = record {
  small = omega arith;
  starts = (let x : (e.base t + 0) % M ≡ (0xffff888000000000 + 0x10000 * p) + (0x800 + 0x40 * k) = omega arith in x);
  len = omega arith;
  is = record { processor = hp; number = omega arith; fits = omega arith };
}

form_located : (n : ℕ) (e : Env) (x : Where) → IsWhere n x → (f : Form) → is_form f ≡ true → HasBase e x f → HasRoom x f → Located e (win_of f) (span_of x f)
form_located n e x w (OnStack b) t h r =
    let p = w.processor in let q = w.few in
    on_stack e top_tag x.p x.stack x.used b h (omega arith) w.stack (not_zero b (and_left (not (b == 0)) _ t)) (omega arith)
form_located n e x w (Stretch d b) t h r =
    let p = w.processor in let q = w.few in
    on_stretch e top_tag x.p x.stack x.used d b h (omega arith) w.stack (not_zero b (and_left (not (b == 0)) _ t))
    (leb-true b d (and_left (nat_le b d) _ (and_right (not (b == 0)) _ t))) (omega arith)
form_located n e x w (InArea lo b) t h r =
    let p = w.processor in let q = w.few in
    in_area e gs_tag x.p lo b h (omega arith) (leb-true (lo + b) 0x10000 (and_left (nat_le (lo + b) 0x10000) _ t))
form_located n e x w (OnTask b) t h r =
    let p = w.processor in let q = w.few in on_task e task_tag x.p x.task 0 b h (omega arith) w.task (fits b 0x40 (leb-true b 0x40 t))
form_located n e x w (OnNextTask b) t h r =
    let p = w.processor in let q = w.few in on_task e next_task_tag x.p x.next 0 b h (omega arith) w.next (fits b 0x40 (leb-true b 0x40 t))
form_located n e x w (OnNextStack b) t h r =
    let p = w.processor in let q = w.few in let k = w.next in
    let size : b ≤ 0x2000 = leb-true b 0x2000 (and_left (nat_le b 0x2000) _ (and_right (not (b == 0)) _ t)) in
    on_stack e next_top_tag x.p x.next 0 b (let z : e.base next_top_tag + 0 ≡ stack_top x.p x.next = omega (arith, h) in z) (omega arith) (omega arith)
    (not_zero b (and_left (not (b == 0)) _ t)) (omega arith)
form_located n e x w InRecord t h r = let p = w.processor in let q = w.few in in_record e record_tag x.p x.site h (omega arith) w.site

forms_located : (n : ℕ) (e : Env) (x : Where) → IsWhere n x → (fs : List Form) → are_forms fs ≡ true → Each (HasBase e x) fs → Each (HasRoom x) fs
    → AllLocated e (wins_of fs) (spans_of x fs)
forms_located n e x w [] t h r = tt
forms_located n e x w (f ∷ fs) t h r =
    (form_located n e x w f (and_left (is_form f) _ t) h.0 r.0, forms_located n e x w fs (and_right (is_form f) _ t) h.1 r.1)

pub located : (n : ℕ) (e : Env) (x : Where) (fs : List Form) → Fitting n e x fs → AllLocated e (wins_of fs) (spans_of x fs)
located n e x fs g = forms_located n e x g.at fs g.forms g.bases g.room

-- ---- access

form_covered : (image : Image) (x : Where) → IsWhere image.processors x → (f : Form) → is_form f ≡ true → HasRoom x f
    → IsCovered (regions image) (span_of x f)
form_covered image x w (OnStack b) t r = stack_covered image x.p x.stack (0x4000 - x.used - b) b w.processor w.stack (omega arith) (omega arith)
form_covered image x w (Stretch d b) t r =
    let k : b ≤ d = leb-true b d (and_left (nat_le b d) _ (and_right (not (b == 0)) _ t)) in
    stack_covered image x.p x.stack (0x4000 - x.used - d) b w.processor w.stack (omega arith) (omega arith)
form_covered image x w (InArea lo b) t r =
    area_covered image x.p lo b w.processor (leb-true (lo + b) 0x10000 (and_left (nat_le (lo + b) 0x10000) _ t))
form_covered image x w (OnTask b) t r = task_covered image x.p x.task 0 b w.processor w.task (fits b 0x40 (leb-true b 0x40 t))
form_covered image x w (OnNextTask b) t r = task_covered image x.p x.next 0 b w.processor w.next (fits b 0x40 (leb-true b 0x40 t))
form_covered image x w (OnNextStack b) t r =
    let k = w.next in
    let size : b ≤ 0x2000 = leb-true b 0x2000 (and_left (nat_le b 0x2000) _ (and_right (not (b == 0)) _ t)) in
    stack_covered image x.p x.next (0x4000 - b) b w.processor (omega arith) (omega arith) (omega arith)
form_covered image x w InRecord t r = let k = w.site in area_covered image x.p (0x800 + record_bytes * x.site) record_bytes w.processor (omega arith)

forms_covered : (image : Image) (x : Where) → IsWhere image.processors x → (fs : List Form) → are_forms fs ≡ true → Each (HasRoom x) fs
    → AllCovered (regions image) (spans_of x fs)
forms_covered image x w [] t r = tt
forms_covered image x w (f ∷ fs) t r =
    (form_covered image x w f (and_left (is_form f) _ t) r.0, forms_covered image x w fs (and_right (is_form f) _ t) r.1)

both_multiples : (a b : ℕ) (c : Bool) → a % 8 ≡ 0 → b % 8 ≡ 0 → c ≡ true → ((a % 8 == 0) && ((b % 8 == 0) && c)) ≡ true
both_multiples a b c h k l =
    ap (λ t. t && ((b % 8 == 0) && c)) (eq-eqb (a % 8) 0 h) ∙ ap (λ t. t && c) (eq-eqb (b % 8) 0 k) ∙ l

form_aligned : (x : Where) → x.used % 8 ≡ 0 → (f : Form) (c : Bool) → is_form f ≡ true → HasRoom x f → c ≡ true
    → (((win_of f).lo % 8 == 0) && (((span_of x f).lo % 8 == 0) && c)) ≡ true
form_aligned x u (OnStack b) c t r l =
    let m : b % 8 ≡ 0 = multiple b (and_right (nat_le b 0x2000) _ (and_right (not (b == 0)) _ t)) in
    both_multiples (M - b) (0x4000 - x.used - b) c (omega arith) (omega arith) l
form_aligned x u (Stretch d b) c t r l =
    let m : d % 8 ≡ 0 =
    multiple d (and_right (b % 8 == 0) _ (and_right (nat_le d 0x2000) _ (and_right (nat_le b d) _ (and_right (not (b == 0)) _ t)))) in
    both_multiples (M - d) (0x4000 - x.used - d) c (omega arith) (omega arith) l
form_aligned x u (InArea lo b) c t r l =
    let m : lo % 8 ≡ 0 = multiple lo (and_right (nat_le (lo + b) 0x10000) _ t) in both_multiples lo lo c m m l
form_aligned x u (OnTask b) c t r l = l
form_aligned x u (OnNextTask b) c t r l = l
form_aligned x u (OnNextStack b) c t r l =
    let size : b ≤ 0x2000 = leb-true b 0x2000 (and_left (nat_le b 0x2000) _ (and_right (not (b == 0)) _ t)) in
    let m : b % 8 ≡ 0 = multiple b (and_right (nat_le b 0x2000) _ (and_right (not (b == 0)) _ t)) in
    both_multiples (M - b) (0x4000 - b) c (omega arith) (omega arith) l
form_aligned x u InRecord c t r l = both_multiples 0 (0x800 + record_bytes * x.site) c refl (omega arith) l

forms_aligned : (x : Where) → x.used % 8 ≡ 0 → (fs : List Form) → are_forms fs ≡ true → Each (HasRoom x) fs
    → all_aligned (wins_of fs) (spans_of x fs) ≡ true
forms_aligned x u [] t r = refl
forms_aligned x u (f ∷ fs) t r =
    form_aligned x u f _ (and_left (is_form f) _ t) r.0 (forms_aligned x u fs (and_right (is_form f) _ t) r.1)

pub forms_open : FormsAreOpen
forms_open image e x fs g =
    open_ok e (regions image) (wins_of fs) (spans_of x fs) (located image.processors e x fs g) (forms_aligned x g.at.aligned fs g.forms g.room)
    (forms_covered image x g.at fs g.forms g.room)

-- ---- two forms

or_true : (a b : Bool) → (a || b) ≡ true → (a ≡ true) ⊎ (b ≡ true)
or_true true b h = inl refl
or_true false b h = inr h

parts_differ : (s t : Span) → part_eq s.part t.part ≡ false → Apart s t
parts_differ s t h = pick (part_eq s.part t.part) h
  where
    pick : (b : Bool) → b ≡ false → DifferUnless (if b then (nat_le (s.lo + s.len) t.lo || nat_le (t.lo + t.len) s.lo) else true) s t
    pick true q = absurd (cc)
    pick false q = tt

by_offsets : (s t : Span) → (s.lo + s.len ≤ t.lo) ⊎ (t.lo + t.len ≤ s.lo) → Apart s t
by_offsets s t h = ⊎_elim (λ a. differ s t (Before a)) (λ b. differ s t (Behind b)) h

part_is : (x : Where) (f : Form) → (span_of x f).part ≡ part_of f
part_is x (OnStack b) = refl
part_is x (Stretch d b) = refl
part_is x (InArea lo b) = refl
part_is x (OnTask b) = refl
part_is x (OnNextTask b) = refl
part_is x (OnNextStack b) = refl
part_is x InRecord = refl

off_stack : (x y : Where) → x.site < 8 → y.site < 8 → (f g : Form) → apart_off_stack f g ≡ true → Apart (span_of x f) (span_of y g)
off_stack x y i j (InArea lo n) (InArea lo' n') h = by_offsets (span_of x (InArea lo n)) (span_of y (InArea lo' n'))
    (⊎_elim (λ a. inl (leb-true (lo + n) lo' a)) (λ b. inr (leb-true (lo' + n') lo b)) (or_true _ _ h))
off_stack x y i j (InArea lo n) InRecord h = by_offsets (span_of x (InArea lo n)) (span_of y InRecord)
    (⊎_elim (λ a. inl (let z : lo + n ≤ 0x800 = leb-true (lo + n) 0x800 a in let r : lo + n ≤ 0x800 + record_bytes * y.site = omega arith in r))
    (λ b. inr (let z : 0xa00 ≤ lo = leb-true 0xa00 lo b in let r : (0x800 + record_bytes * y.site) + record_bytes ≤ lo = omega arith in r)) (or_true _ _ h))
off_stack x y i j InRecord (InArea lo n) h = by_offsets (span_of x InRecord) (span_of y (InArea lo n))
    (⊎_elim (λ a. inr (let z : lo + n ≤ 0x800 = leb-true (lo + n) 0x800 a in let r : lo + n ≤ 0x800 + record_bytes * x.site = omega arith in r))
    (λ b. inl (let z : 0xa00 ≤ lo = leb-true 0xa00 lo b in let r : (0x800 + record_bytes * x.site) + record_bytes ≤ lo = omega arith in r)) (or_true _ _ h))
off_stack x y i j f g h =
    parts_differ (span_of x f) (span_of y g)
    (ap (λ p. part_eq p (span_of y g).part) (part_is x f) ∙ ap (part_eq (part_of f)) (part_is y g) ∙ not-true (part_eq (part_of f) (part_of g)) h)

-- ---- lists of forms

pairs_from : (t : Form → Form → Bool) (x y : Where) (Q S : Form → Type 0)
    → ((f g : Form) → Q f → S g → t f g ≡ true → Apart (span_of x f) (span_of y g)) → (f : Form) → Q f → (gs : List Form) → Each S gs
    → apart_from_all t f gs ≡ true → ApartFrom (span_of x f) (spans_of y gs)
pairs_from t x y Q S one f q [] s h = tt
pairs_from t x y Q S one f q (g ∷ gs) s h =
    (one f g q s.0 (and_left (t f g) _ h), pairs_from t x y Q S one f q gs s.1 (and_right (t f g) _ h))

pairs : (t : Form → Form → Bool) (x y : Where) (Q S : Form → Type 0)
    → ((f g : Form) → Q f → S g → t f g ≡ true → Apart (span_of x f) (span_of y g)) → (fs gs : List Form) → Each Q fs → Each S gs
    → all_apart t fs gs ≡ true → AllApart (spans_of x fs) (spans_of y gs)
pairs t x y Q S one [] gs q s h = tt
pairs t x y Q S one (f ∷ fs) gs q s h =
    (pairs_from t x y Q S one f q.0 gs s (and_left (apart_from_all t f gs) _ h), pairs t x y Q S one fs gs q.1 s (and_right (apart_from_all t f gs) _ h))

-- ---- one activation

module _ (x : Where) (site : x.site < 8) where
  one_from : (f : Form) (gs : List Form) → apart_from_all apart_in_one f gs ≡ true → OthersFrom (win_of f) (span_of x f) (wins_of gs) (spans_of x gs)
  one_from f [] h = tt
  one_from f (g ∷ gs) h =
      (pick ((win_of f).tag == (win_of g).tag) (and_left (apart_in_one f g) _ h), one_from f gs (and_right (apart_in_one f g) _ h))
    where
      pick : (b : Bool) → (if b then true else apart_off_stack f g) ≡ true → ApartUnless b (span_of x f) (span_of x g)
      pick true q = tt
      pick false q = off_stack x x site site f g q

  one_apart : (fs gs : List Form) → all_apart apart_in_one fs gs ≡ true → OthersApart (wins_of fs) (spans_of x fs) (wins_of gs) (spans_of x gs)
  one_apart [] [] h = tt
  one_apart [] (g ∷ gs) h = tt
  one_apart (f ∷ fs) gs h =
      (one_from f gs (and_left (apart_from_all apart_in_one f gs) _ h), one_apart fs gs (and_right (apart_from_all apart_in_one f gs) _ h))

pub forms_apart : FormsAreApart
forms_apart n e x fs gs f g h =
    sep e (wins_of fs) (wins_of gs) (spans_of x fs) (spans_of x gs) (located n e x fs f) (located n e x gs g) (one_apart x f.at.site fs gs h)

-- ---- two activations

span_p : (x : Where) (f : Form) → (span_of x f).p ≡ x.p
span_p x (OnStack b) = refl
span_p x (Stretch d b) = refl
span_p x (InArea lo b) = refl
span_p x (OnTask b) = refl
span_p x (OnNextTask b) = refl
span_p x (OnNextStack b) = refl
span_p x InRecord = refl

abbrev Any : Form → Type 0
Any f = Unit {0}

any : (fs : List Form) → Each Any fs
any [] = tt
any (f ∷ fs) = (tt, any fs)

never_tested : (fs gs : List Form) → all_apart (λ f g. true) fs gs ≡ true
never_tested [] gs = refl
never_tested (f ∷ fs) gs = ap (λ b. b && all_apart (λ f g. true) fs gs) (from gs) ∙ never_tested fs gs
  where
    from : (gs : List Form) → apart_from_all (λ f g. true) f gs ≡ true
    from [] = refl
    from (g ∷ gs) = from gs

pub two_processors : OfTwoProcessors
two_processors n e e' x y fs gs f g h =
    far e e' (wins_of fs) (wins_of gs) (spans_of x fs) (spans_of y gs) (located n e x fs f) (located n e' y gs g)
    (pairs (λ a b. true) x y Any Any
    (λ a b i j t. differ (span_of x a) (span_of y b) (OtherProcessor (λ q. h (sym (span_p x a) ∙ q ∙ span_p y b)))) fs gs (any fs) (any gs)
    (never_tested fs gs))

-- on two stacks
own_number : (y : Where) (g : Form) → is_own g ≡ true → (span_of y g).n ≡ y.stack
own_number y (OnStack b) h = refl
own_number y (Stretch d b) h = refl
own_number y (InArea lo b) h = absurd (cc)
own_number y (OnTask b) h = absurd (cc)
own_number y (OnNextTask b) h = absurd (cc)
own_number y (OnNextStack b) h = absurd (cc)
own_number y InRecord h = absurd (cc)

stack_number : (x : Where) (f : Form) → part_eq (part_of f) Stacks ≡ true → ((span_of x f).n ≡ x.stack) ⊎ ((span_of x f).n ≡ x.next)
stack_number x (OnStack b) h = inl refl
stack_number x (Stretch d b) h = inl refl
stack_number x (InArea lo b) h = absurd (cc)
stack_number x (OnTask b) h = absurd (cc)
stack_number x (OnNextTask b) h = absurd (cc)
stack_number x (OnNextStack b) h = inr refl
stack_number x InRecord h = absurd (cc)

two_numbers : (x y : Where) → x.site < 8 → y.site < 8 → x.stack ≢ y.stack → x.next ≢ y.stack → (f g : Form) → apart_on_two_stacks f g ≡ true
    → Apart (span_of x f) (span_of y g)
two_numbers x y i j h k f g t = pick (is_own g) refl (part_eq (part_of f) Stacks) refl t
  where
    pick : (b : Bool) → is_own g ≡ b → (c : Bool) → part_eq (part_of f) Stacks ≡ c → (if b && c then true else apart_off_stack f g) ≡ true
        → Apart (span_of x f) (span_of y g)
    pick true a true b z =
        differ (span_of x f) (span_of y g)
        (OtherNumber
        (λ q. ⊎_elim (λ r. h (sym r ∙ q ∙ own_number y g a)) (λ r. k (sym r ∙ q ∙ own_number y g a)) (stack_number x f b)))
    pick true a false b z = off_stack x y i j f g z
    pick false a c b z = off_stack x y i j f g z

pub two_stacks : OnTwoStacks
two_stacks n e e' x y fs gs f g h k t =
    far e e' (wins_of fs) (wins_of gs) (spans_of x fs) (spans_of y gs) (located n e x fs f) (located n e' y gs g)
    (pairs apart_on_two_stacks x y Any Any (λ a b i j z. two_numbers x y f.at.site g.at.site h k a b z) fs gs (any fs) (any gs) t)

-- what is asked of each form of a list, with that it is one
abbrev Fits : (Form → Type 0) → Form → Type 0
Fits Q f = Q f × (is_form f ≡ true)

with_form : (Q : Form → Type 0) (fs : List Form) → Each Q fs → are_forms fs ≡ true → Each (Fits Q) fs
with_form Q [] q t = tt
with_form Q (f ∷ fs) q t = ((q.0, and_left (is_form f) _ t), with_form Q fs q.1 (and_right (is_form f) _ t))

small : (f : Form) → is_form f ≡ true → is_own f ≡ true → bytes_of f ≤ depth_of f
small (OnStack b) t o = omega arith
small (Stretch d b) t o = leb-true b d (and_left (nat_le b d) _ (and_right (not (b == 0)) _ t))
small (InArea lo b) t o = absurd (cc)
small (OnTask b) t o = absurd (cc)
small (OnNextTask b) t o = absurd (cc)
small (OnNextStack b) t o = absurd (cc)
small InRecord t o = absurd (cc)

-- the interval of a form on its own stack
own_span : (x : Where) (f : Form) → is_own f ≡ true → ((span_of x f).lo ≡ 0x4000 - x.used - depth_of f) × ((span_of x f).len ≡ bytes_of f)
own_span x (OnStack b) o = (refl, refl)
own_span x (Stretch d b) o = (refl, refl)
own_span x (InArea lo b) o = absurd (cc)
own_span x (OnTask b) o = absurd (cc)
own_span x (OnNextTask b) o = absurd (cc)
own_span x (OnNextStack b) o = absurd (cc)
own_span x InRecord o = absurd (cc)

-- one below all of the other
deeper : (x y : Where) → x.site < 8 → y.site < 8 → (f g : Form) → Fits (IsAbove x y) f → Fits (HasRoom y) g → apart_by_depth f g ≡ true
    → Apart (span_of x f) (span_of y g)
deeper x y i j f g q s t = pick (is_own g) refl (is_own f) refl t
  where
    pick : (b : Bool) → is_own g ≡ b → (c : Bool) → is_own f ≡ c → (if b && c then true else apart_off_stack f g) ≡ true
        → Apart (span_of x f) (span_of y g)
    pick true a true b h =
        let k : bytes_of g ≤ depth_of g = small g s.1 a in
        let u = own_span x f b in
        let v = own_span y g a in
        let up : x.used + depth_of f ≤ y.used = q.0 in
        let room : y.used + depth_of g ≤ 0x2000 = s.0 in
        differ (span_of x f) (span_of y g) (Behind (omega (arith, u.0, v.0, v.1)))
    pick true a false b h = off_stack x y i j f g h
    pick false a c b h = off_stack x y i j f g h

pub by_depth : ByDepth
by_depth n e e' x y fs gs f g h t =
    far e e' (wins_of fs) (wins_of gs) (spans_of x fs) (spans_of y gs) (located n e x fs f) (located n e' y gs g)
    (pairs apart_by_depth x y (Fits (IsAbove x y)) (Fits (HasRoom y)) (λ a b q s z. deeper x y f.at.site g.at.site a b q s z) fs gs
    (with_form (IsAbove x y) fs h f.forms) (with_form (HasRoom y) gs g.room g.forms) t)

-- at one place
at_one : (x y : Where) → x.site < 8 → y.site < 8 → x.used ≡ y.used → (f g : Form) → Fits (HasRoom x) f → Fits (HasRoom y) g
    → apart_at_one_top f g ≡ true → Apart (span_of x f) (span_of y g)
at_one x y i j same f g q s t = pick (is_own g) refl (is_own f) refl t
  where
    pick : (b : Bool) → is_own g ≡ b → (c : Bool) → is_own f ≡ c
        → (if b && c then (nat_le (depth_of g + bytes_of f) (depth_of f) || nat_le (depth_of f + bytes_of g) (depth_of g)) else apart_off_stack f g) ≡ true
        → Apart (span_of x f) (span_of y g)
    pick true a true b h =
        let u = own_span x f b in
        let v = own_span y g a in
        let kf : bytes_of f ≤ depth_of f = small f q.1 b in
        let kg : bytes_of g ≤ depth_of g = small g s.1 a in
        let rf : x.used + depth_of f ≤ 0x2000 = q.0 in
        let rg : y.used + depth_of g ≤ 0x2000 = s.0 in
        ⊎_elim
        (λ z. let w : depth_of g + bytes_of f ≤ depth_of f = leb-true _ _ z in
        differ (span_of x f) (span_of y g) (Before (omega (arith, u.0, u.1, v.0))))
        (λ z. let w : depth_of f + bytes_of g ≤ depth_of g = leb-true _ _ z in
        differ (span_of x f) (span_of y g) (Behind (omega (arith, u.0, v.0, v.1)))) (or_true _ _ h)
    pick true a false b h = off_stack x y i j f g h
    pick false a c b h = off_stack x y i j f g h

pub one_top : AtOneTop
one_top n e e' x y fs gs f g h t =
    far e e' (wins_of fs) (wins_of gs) (spans_of x fs) (spans_of y gs) (located n e x fs f) (located n e' y gs g)
    (pairs apart_at_one_top x y (Fits (HasRoom x)) (Fits (HasRoom y)) (λ a b q s z. at_one x y f.at.site g.at.site h a b q s z) fs gs
    (with_form (HasRoom x) fs f.room f.forms) (with_form (HasRoom y) gs g.room g.forms) t)
