-- What the rules give of bodies: what the proof of the bound wants.
use Rattle.std.proofs.Common.{◌≡◌, refl, sym, ◌∙◌, ap, ℕ, suc, ◌<◌, Bool, true, false, cond, ◌&&◌, ◌||◌, ltb, leb, List, [], ◌∷◌, Option, Some, None, ◌⊎◌, inl, inr, arith, is_none, find, eqb, drop}
use Rattle.std.specs.List.{list_any, list_all}
use Rattle.std.proofs.lemmas.Bool.{and_parts, and_from, ltb-true, cases_Bool, true≢false, false≢true, or_from, or_left, or_right}
use Rattle.ev_body.specs.declared.key.Key.{Key}
use Rattle.ev_body.specs.declared.key.Key.TheVariants.{Sys, Bp, Pf, Irq}
use Rattle.ev_body.specs.declared.key.Side.{Side}
use Rattle.ev_body.specs.declared.key.Side.TheVariants.{User, Kernel}
use Rattle.ev_body.specs.declared.item.Item.{Item}
use Rattle.ev_body.specs.declared.item.Item.TheVariants.{Sti}
use Rattle.ev_body.specs.declared.body.Body.{Body}
use Rattle.ev_body.specs.declared.image.Image.{Image}
use Rattle.ev_body.specs.Bodies.{key_number, covers, body_items, first_body}
use Rattle.ev_body.specs.WellFormed.{is_key}
use Rattle.ev_abstract.specs.declared.refusal.Refusal.{Refusal}
use Rattle.ev_abstract.specs.declared.refusal.Refusal.TheVariants.{IfRule, FaultRule}
use Rattle.ev_abstract.specs.Chain.{has_item, is_breakpoint, is_user_access, is_sti}
use Rattle.ev_abstract.specs.Rules.{first_item_from, refusal_at, first_refused, is_inner_key, is_inner, breaks_if, breaks_faults, if_rule, fault_rule, missing, required, missing_refusal, missing_body, first_some, rules, slot_rule, register_rule, flag_rule, eoi_rule, nmi_rule, call_rule}
use Rattle.ev_accept.specs.Bound.{is_bp, is_pf}
use Rattle.ev_accept.proofs.Members.{In}
use Rattle.ev_accept.proofs.Upper.{AreQuiet}

-- a rule that holds finds no item in any body
pub record Passes (fails : ℕ → Body → Option ℕ) (b : Body) : Type 0 where
  pub number : ℕ
  pub none : fails number b ≡ None

pub each_passes : (name : ℕ → ℕ → Refusal) (fails : ℕ → Body → Option ℕ) (n : ℕ) (bs : List Body) (b : Body) → first_refused name fails n bs ≡ None → In b bs
    → Passes fails b
each_passes name fails n [] b h m = absurd m
each_passes name fails n (c ∷ cs) b h m = by (fails n c) refl h m (λ t i. each_passes name fails (suc n) cs b t i)
  where
    Before : Type 0
    Before = first_refused name fails (suc n) cs ≡ None → In b cs → Passes fails b

    later : first_refused name fails (suc n) cs ≡ None → (b ≡ c) ⊎ In b cs → fails n c ≡ None → Before → Passes fails b
    later h (inl e) z before = record { number = n; none = ap (fails n) e ∙ z }
    later h (inr m) z before = before h m

    by : (o : Option ℕ) → fails n c ≡ o → refusal_at name n o (first_refused name fails (suc n) cs) ≡ None → (b ≡ c) ⊎ In b cs → Before → Passes fails b
    by None e h m before = later h m e before
    by (Some i) e h m before = absurd (cc)

no_such_item : (test : ℕ → Item → Bool) (p : Item → Bool) (i : ℕ) (items : List Item) → ((j : ℕ) (item : Item) → p item ≡ true → test j item ≡ true)
    → first_item_from i test items ≡ None
    → list_any p items ≡ false
no_such_item test p i [] h e = refl
no_such_item test p i (item ∷ items) h e = by (test i item) refl e (cases_Bool (p item)) (λ f. no_such_item test p (suc i) items h f)
  where
    by : (t : Bool) → test i item ≡ t → cond t (Some i) (first_item_from (suc i) test items) ≡ None → (p item ≡ true) ⊎ (p item ≡ false)
        → (first_item_from (suc i) test items ≡ None → list_any p items ≡ false) → list_any p (item ∷ items) ≡ false
    by true t e c before = absurd (cc)
    by false t e (inl c) before = absurd (true≢false (sym (h i item c) ∙ t))
    by false t e (inr c) before = or_from (p item) (list_any p items) c (before e)

-- ---- no `sti` in inner bodies

inner_sti : (b : Body) → is_inner b ≡ true → first_item_from 0 (breaks_if b) (body_items b) ≡ None → has_item is_sti b ≡ false
unfolding breaks_if is_sti
inner_sti b inner e = no_such_item (breaks_if b) is_sti 0 (body_items b) breaks e
  where
    breaks : (j : ℕ) (item : Item) → is_sti item ≡ true → breaks_if b j item ≡ true
    breaks j Sti h = grind (arith, inner)
    breaks j _ h = absurd (false≢true h)

inner_bp : (k : Key) (s : Side) → is_bp k ≡ true → covers s Kernel ≡ true → is_inner_key k s ≡ true
unfolding is_bp is_inner_key
inner_bp Bp s h c = c
inner_bp _ s h c = absurd (false≢true h)

inner_pf : (k : Key) (s : Side) → is_pf k ≡ true → covers s Kernel ≡ true → is_inner_key k s ≡ true
unfolding is_pf is_inner_key
inner_pf Pf s h c = c
inner_pf _ s h c = absurd (false≢true h)

-- ---- no faults in the bodies of faults

faults_bp : (k : Key) (s : Side) (item : Item) → is_bp k ≡ true → covers s Kernel ≡ true → is_breakpoint item ≡ true → breaks_faults k s item ≡ true
unfolding is_bp breaks_faults
faults_bp Bp s item h c i = and_from (covers s Kernel) (is_breakpoint item) c i
faults_bp _ s item h c i = absurd (false≢true h)

faults_pf : (k : Key) (s : Side) (item : Item) → is_pf k ≡ true → covers s Kernel ≡ true → (is_breakpoint item || is_user_access item) ≡ true
    → breaks_faults k s item ≡ true
unfolding is_pf breaks_faults
faults_pf Pf s item h c i = and_from (covers s Kernel) (is_breakpoint item || is_user_access item) c i
faults_pf _ s item h c i = absurd (false≢true h)

-- ---- vectors

vector_fits : (k : Key) → is_key k ≡ true → (v : ℕ) → k ≡ Irq v → v < 256
unfolding is_key
vector_fits k h v e =
    let f : (leb 0x20 v && ltb v 0x100) ≡ true = sym (ap is_key e) ∙ h in
    ltb-true v 256 (and_parts (leb 0x20 v) (ltb v 0x100) f).1

pub all_at : (test : Body → Bool) (b : Body) (bs : List Body) → list_all test bs ≡ true → In b bs → test b ≡ true
all_at test b [] h m = absurd m
all_at test b (c ∷ cs) h (inl e) = ap test e ∙ (and_parts (test c) (list_all test cs) h).0
all_at test b (c ∷ cs) h (inr m) = all_at test b cs (and_parts (test c) (list_all test cs) h).1 m

pub are_quiet : (image : Image) → if_rule image ≡ None → fault_rule image ≡ None → list_all (λ (b : Body). is_key b.key) image.bodies ≡ true
    → AreQuiet image.bodies
are_quiet image ifs faults keys b m = record {
  bp = λ k. let p = and_parts (is_bp b.key) (covers b.side Kernel) k in (
    no_such_item (λ i item. breaks_faults b.key b.side item) is_breakpoint 0 (body_items b) (λ j item h. faults_bp b.key b.side item p.0 p.1 h) fault,
    inner_sti b (inner_bp b.key b.side p.0 p.1) calm,
  );
  pf = λ k. let p = and_parts (is_pf b.key) (covers b.side Kernel) k in (
    no_such_item (λ i item. breaks_faults b.key b.side item) is_breakpoint 0 (body_items b)
        (λ j item h. faults_pf b.key b.side item p.0 p.1 (or_left (is_breakpoint item) (is_user_access item) h)) fault,
    no_such_item (λ i item. breaks_faults b.key b.side item) is_user_access 0 (body_items b)
        (λ j item h. faults_pf b.key b.side item p.0 p.1 (or_right (is_breakpoint item) (is_user_access item) h)) fault,
    inner_sti b (inner_pf b.key b.side p.0 p.1) calm,
  );
  irq = λ v e. vector_fits b.key (all_at (λ (c : Body). is_key c.key) b image.bodies keys m) v e;
}
  where
    calm : first_item_from 0 (breaks_if b) (body_items b) ≡ None
    calm = (each_passes IfRule (λ n c. first_item_from 0 (breaks_if c) (body_items c)) 0 image.bodies b ifs m).none

    fault : first_item_from 0 (λ i item. breaks_faults b.key b.side item) (body_items b) ≡ None
    fault = (each_passes FaultRule (λ n c. first_item_from 0 (λ i item. breaks_faults c.key c.side item) (body_items c)) 0 image.bodies b faults m).none

-- ---- there is a body of system calls

pub record OnUser (bodies : List Body) : Type 0 where
  pub body : Body
  pub member : In body bodies
  pub side : covers body.side User ≡ true

first_is : (n : ℕ) (bs : List Body) (key : ℕ) → is_none (first_body n bs key User) ≡ false → OnUser bs
first_is n [] key h = absurd (true≢false h)
first_is n (b ∷ bs) key h = by (eqb (key_number b.key) key && covers b.side User) refl h (λ f. first_is (suc n) bs key f)
  where
    by : (t : Bool) → (eqb (key_number b.key) key && covers b.side User) ≡ t → is_none (cond t (Some n) (first_body (suc n) bs key User)) ≡ false
        → (is_none (first_body (suc n) bs key User) ≡ false → OnUser bs) → OnUser (b ∷ bs)
    by true e h before = record { body = b; member = inl refl; side = (and_parts (eqb (key_number b.key) key) (covers b.side User) e).1 }
    by false e h before = let r = before h in record { body = r.body; member = inr r.member; side = r.side }

none_missing : (test : Key × Side → Bool) (r : Key × Side) (rs : List (Key × Side)) → missing_refusal (find test (r ∷ rs)) ≡ None → test r ≡ false
none_missing test r rs h = by (test r) refl h
  where
    by : (t : Bool) → test r ≡ t → missing_refusal (cond t (Some r) (find test rs)) ≡ None → test r ≡ false
    by true e h = absurd (cc)
    by false e h = e

pub on_user : (image : Image) → missing_body image ≡ None → OnUser image.bodies
unfolding missing_body key_number
on_user image h = first_is 0 image.bodies 0x100 (none_missing (missing image) (Sys, User) (drop 1 (required image)) h)

-- ---- each rule

pub record Kept (image : Image) : Type 0 where
  pub bodies : missing_body image ≡ None
  pub ifs : if_rule image ≡ None
  pub faults : fault_rule image ≡ None

some_then : (o : Option Refusal) (os : List (Option Refusal)) → first_some (o ∷ os) ≡ None → (o ≡ None) × (first_some os ≡ None)
some_then None os h = (refl, h)
some_then (Some r) os h = absurd (cc)

pub kept_from : (image : Image) → rules image ≡ None → Kept image
unfolding rules
kept_from image h =
    let p1 = some_then (missing_body image) (slot_rule image ∷ register_rule image ∷ flag_rule image ∷ if_rule image ∷ eoi_rule image ∷ fault_rule image
    ∷ nmi_rule image ∷ call_rule image ∷ []) h in
    let p2 = some_then (slot_rule image) (register_rule image ∷ flag_rule image ∷ if_rule image ∷ eoi_rule image ∷ fault_rule image ∷ nmi_rule image
    ∷ call_rule image ∷ []) p1.1 in
    let p3 = some_then (register_rule image) (flag_rule image ∷ if_rule image ∷ eoi_rule image ∷ fault_rule image ∷ nmi_rule image ∷ call_rule image ∷ [])
    p2.1 in
    let p4 = some_then (flag_rule image) (if_rule image ∷ eoi_rule image ∷ fault_rule image ∷ nmi_rule image ∷ call_rule image ∷ []) p3.1 in
    let p5 = some_then (if_rule image) (eoi_rule image ∷ fault_rule image ∷ nmi_rule image ∷ call_rule image ∷ []) p4.1 in
    let p6 = some_then (eoi_rule image) (fault_rule image ∷ nmi_rule image ∷ call_rule image ∷ []) p5.1 in
    let p7 = some_then (fault_rule image) (nmi_rule image ∷ call_rule image ∷ []) p6.1 in
    record { bodies = p1.0; ifs = p5.0; faults = p7.0 }
