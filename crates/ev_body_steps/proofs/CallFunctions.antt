-- Where the calls that a body has taken begin: the function's address in a call's record is that of the item at which the abstract machine puts the context.
use Rattle.std.proofs.Common.{◌≡◌, ℕ, zero, suc, ◌+◌, Bool, true, false, not, ◌&&◌, ◌||◌, List, [], ◌∷◌, Some, refl, sym, ap, ◌∙◌, arith}
use Rattle.std.specs.Prelude.{slice_get, get_or, set, ◌==◌, if◌then◌else◌}
use Rattle.std.specs.List.{list_all}
use Rattle.std.proofs.lemmas.Bool.{and_parts, and_from, eqb-true, eq-eqb, false_from_ne_true}
use Rattle.std.proofs.lemmas.Option.{slice_get_within}
use Rattle.ev_isa.specs.Word.{NatMap}
use Rattle.ev_isa.specs.declared.mode.Mode.{Mode}
use Rattle.ev_body.specs.declared.item.Item.TheVariants.{Take, Finish}
use Rattle.ev_body.specs.declared.key.Side.TheVariants.{User}
use Rattle.ev_body.specs.declared.body.Body.{Body}
use Rattle.ev_body.specs.declared.image.Image.{Image}
use Rattle.ev_body.specs.Bodies.{key_number, covers, body_items, first_body}
use Rattle.ev_body.specs.WellFormed.{IsImage, is_apart, are_apart}
use Rattle.ev_abstract.specs.Context.{CallId, BodyContext}
use Rattle.ev_abstract.specs.Machine.{CallState, Free, Queued, Taken, CallRecord, Machine}
use Rattle.ev_abstract.specs.CrossCall.{record_of, take_place, after_take, start_of, at_first_call}
use Rattle.ev_abstract.specs.Rules.{is_call_handler}
use Rattle.ev_abstract.specs.Run.{item_at}
use Rattle.ev_built.specs.Built.{IsBuilt}
use Rattle.ev_law.specs.Legal.{runs_calls}
use Rattle.ev_law.proofs.Lists.{all_at}
use Rattle.ev_law.proofs.Ruled.{IsRuled, body_ruled, handler_serves_users}
use Rattle.ev_call_law.specs.Calls.{is_free}
use Rattle.ev_listing.specs.AddressMap.{record_address}
use Rattle.ev_listing.specs.Expansion.{address_in, function_address}
use Rattle.ev_relation.specs.Active.{item_place, Locals, LocalsBut, BeginsCall}
use Rattle.ev_relation.specs.Relation.{CallIs, HoldsCall}
use Rattle.ev_relation.proofs.Facts.{Facts}

-- ---- the body that takes calls

-- bodies of one key that both serve user code aren't apart
not_apart : (b c : Body) → key_number b.key ≡ key_number c.key → covers b.side User ≡ true → covers c.side User ≡ true → is_apart b c ≡ true → ⊥
not_apart b c k u v h = no (key_number b.key == key_number c.key) (covers b.side User) (covers c.side User) _ (eq-eqb _ _ k) u v h
  where
    no : (same x y : Bool) (z : Bool) → same ≡ true → x ≡ true → y ≡ true → (not same || not ((x && y) || z)) ≡ true → ⊥
    no true true true z k u v h = absurd (cc)
    no true true false z k u v h = absurd (cc)
    no true false y z k u v h = absurd (cc)
    no false x y z k u v h = absurd (cc)

-- so a body of the user side is the first one of its key
first_of_key : (k key : ℕ) (bs : List Body) (n : ℕ) (b : Body) → slice_get bs n ≡ Some b → key_number b.key ≡ key → covers b.side User ≡ true
    → are_apart bs ≡ true → first_body k bs key User ≡ Some (k + n)
first_of_key k key [] n b e h u apart = absurd (cc)
first_of_key k key (x ∷ xs) zero b e h u apart =
    let same : x ≡ b = cc in
    let found : (key_number x.key == key && covers x.side User) ≡ true
    = and_from _ _ (eq-eqb (key_number x.key) key (ap (λ (y : Body). key_number y.key) same ∙ h)) (ap (λ (y : Body). covers y.side User) same ∙ u) in
    ap (λ t. if t then Some k else first_body (suc k) xs key User) found ∙ ap Some (let z : k ≡ k + 0 = omega arith in z)
first_of_key k key (x ∷ xs) (suc n) b e h u apart =
    let a = and_parts (list_all (is_apart x) xs) _ apart in
    let other : (key_number x.key == key && covers x.side User) ≡ false = false_from_ne_true _ (λ q. (let p = and_parts (key_number x.key == key) _ q in
    not_apart x b (eqb-true _ _ p.0 ∙ sym h) p.1 u (all_at (is_apart x) xs n b a.0 e))) in
    ap (λ t. if t then Some k else first_body (suc k) xs key User) other ∙ first_of_key (suc k) key xs n b e h u a.1
    ∙ ap Some (let z : suc k + n ≡ k + suc n = omega arith in z)

-- ---- what a call's record says

-- of one that is under way, whether it waits or is taken
under_way : (mode : Mode) (image : Image) (words : NatMap ℕ) (a : ℕ) (r : CallRecord) (st : CallState) → is_free st ≡ false → CallIs mode image words a r st
    → (words (a + 8) ≡ function_address mode image r.func) × (words (a + 0x10) ≡ r.arg)
under_way mode image words a r Free busy h = absurd (cc)
under_way mode image words a r Queued busy h = (h.1, h.2)
under_way mode image words a r Taken busy h = (h.1, h.2)

-- ---- in an accepted image

module _ (mode : Mode) (image : Image) (good : IsImage image) (built : IsBuilt image) (facts : Facts mode image) where
  -- a body with a `take`
  module _ (b : BodyContext) (body : Body) (is : slice_get image.bodies b.body ≡ Some body) (t : ℕ) (takes : item_at (Some body) t ≡ Some Take) where
    ruled : IsRuled image body
    ruled = body_ruled image good built.accepted.1.kept b.body body is

    pub handler : is_call_handler body ≡ true
    handler = (ruled.take t takes).2

    -- its `take` is the one that the abstract machine finds
    pub after_take_is : after_take (slice_get image.bodies b.body) ≡ suc t
    after_take_is = ap after_take is ∙ ap suc (ruled.take t takes).0

    -- the address of a function is that of its first item here
    pub function_is : (func : ℕ) → function_address mode image func ≡ item_place mode image b.body (start_of (slice_get image.bodies b.body) func)
    function_is func =
        let first : first_body 0 image.bodies 0xfb User ≡ Some b.body = first_of_key 0 0xfb image.bodies b.body body is (eqb-true _ _ handler)
        (handler_serves_users image good built.accepted.1.kept b.body body is handler) good.bodies_given.2
        ∙ ap Some (let z : 0 + b.body ≡ b.body = omega arith in z) in
        ap (λ o. address_in mode image o func) first ∙ rw is refl

    -- the first call's record has its item's address, the argument and the caller, which the context has in its locals
    pub begins_call : (v : ℕ → ℕ) (words : NatMap ℕ) (m : Machine) (k : CallId) (ks : List CallId) → Locals mode image v b
        → HoldsCall mode image words k.from k.site (record_of m k) → is_free (record_of m k).state ≡ false
        → BeginsCall mode image words (at_first_call image m b (k ∷ ks)) (k ∷ ks)
    begins_call v words m k ks locals holds busy =
        let r : CallRecord = record_of m k in
        let a : ℕ = record_address k.from k.site in
        let call = under_way mode image words a r r.state busy holds.call in (
          call.0 ∙ function_is r.func,
          call.1 ∙ sym (ap (λ ls. get_or (set (set ls 3 r.arg) 4 k.from) 3 0) locals),
          holds.from ∙ sym (ap (λ ls. get_or (set (set ls 3 r.arg) 4 k.from) 4 0) locals),
        )

  -- a body with a `finish` has one
  pub finish_has_take : (n i : ℕ) (body : Body) → slice_get image.bodies n ≡ Some body → item_at (Some body) i ≡ Some Finish
      → (t : ℕ) × (item_at (Some body) t ≡ Some Take)
  finish_has_take n i body is finishes =
      let ruled : IsRuled image body = body_ruled image good built.accepted.1.kept n body is in
      (take_place 0 (body_items body), (ruled.part i (slice_get_within (body_items body) i Finish finishes) (ruled.finish i finishes)).1)

  -- of the locals, R9 and R10 get theirs from the record, where there is a call
  pub locals_but : (v : ℕ → ℕ) (m : Machine) (b : BodyContext) (ks : List CallId) → Locals mode image v b
      → LocalsBut mode image (not (runs_calls ks) || false) (not (runs_calls ks) || false) v (at_first_call image m b ks)
  locals_but v m b [] locals = locals
  locals_but v m b (k ∷ ks) locals = let set_by : List ℕ → List ℕ = λ ls. set (set ls 3 (record_of m k).arg) 4 k.from in
      ap set_by locals ∙ sym (ap (λ ls. v 6 ∷ v 7 ∷ v 8 ∷ get_or (set_by ls) 3 0 ∷ get_or (set_by ls) 4 0 ∷ v 11 ∷ v 12 ∷ v 13 ∷ []) locals)
