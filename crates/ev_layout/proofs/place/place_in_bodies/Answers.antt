use Rattle.std.proofs.Common.{◌≡◌, ℕ, ◌-◌, ◌/◌, ◌<◌, ◌≤◌, true, not, List, length, get_or, option_map, sym, ap, ◌∙◌, subst, arith}
use Rattle.std.proofs.lemmas.List.{length-map}
use Rattle.std.specs.Prelude.{nat_le}
use Rattle.std.specs.List.{list_all}
use Rattle.std.proofs.lemmas.Bool.{leb-true}
use Rattle.ev_body.specs.declared.item.Item.{Item}
use Rattle.ev_abstract.specs.Rules.{breaks_slots}
use Rattle.ev_listing.specs.AddressMap.{body_code}
use Rattle.ev_listing.specs.Expansion.{function_address}
use Rattle.ev_layout.specs.KeptCode.{is_code, are_code}
use Rattle.ev_layout.specs.CodePlaces.{item_place}
use Rattle.ev_layout.proofs.Among.{split}
use Rattle.ev_layout.proofs.PlacesOf.{in_items, bodies_before, bodies_behind, only_body, nth_body, code_at, few_items}
use Rattle.ev_layout.proofs.place.place_in_bodies.Goals as goal

few : (bodies : List (List Item)) → are_code bodies ≡ true → length bodies ≤ 64
few bodies h = leb-true (length bodies) 64 (split (nat_le (length bodies) 64) _ h).0

each : (bodies : List (List Item)) → are_code bodies ≡ true → list_all is_code bodies ≡ true
each bodies h = (split (nat_le (length bodies) 64) _ h).1

pub returns-then-rip-lt-BODIES : goal.returns-then-rip-lt-BODIES
returns-then-rip-lt-BODIES c = λ mode image e.
    sym (ap (option_map item_place) (bodies_before mode image 0 c.args.rip image.bodies c.if-rip-lt-BODIES.true))

pub returns-then-n-bodies : goal.returns-then-n-bodies
returns-then-n-bodies c = λ mode image e.
    let count : length c.args.bodies.now ≡ length image.bodies = ap length e ∙ simp length-map in
    sym (ap (option_map item_place) (bodies_behind mode image 0 c.args.rip image.bodies
    (subst (λ bs. list_all is_code bs ≡ true) e (each c.args.bodies.now c.requires)) (omega arith)))

pub place_in_body-requires : goal.place_in_body-requires
place_in_body-requires c =
    let h = code_at c.args.bodies.now _ c.index-bodies-n.result (each c.args.bodies.now c.requires) (omega arith) c.index-bodies-n.is in
    let items = c.as_slice.ensures in
    record {
      number = let most = few c.args.bodies.now c.requires in omega arith;
      few = let most = few_items c.index-bodies-n.result h in let same = ap length items in omega arith;
      slots = ap (list_all (λ item. not (breaks_slots 8 item))) items ∙ (split (nat_le (length c.index-bodies-n.result) 256) _ h).1;
    }

pub returns : goal.returns
returns c = λ mode image e.
    let n : ℕ = (c.args.rip - 0xffffffff82000000) / 0x20000 in
    let there = subst (λ bs. list_all is_code bs ≡ true) e (each c.args.bodies.now c.requires) in
    let r = nth_body image.bodies n c.index-bodies-n.result (subst (λ bs. n < length bs) e (omega arith))
    (c.index-bodies-n.is ∙ ap (λ bs. get_or bs n c.index-bodies-n.result) e) in
    c.place_in_body.ensures mode (function_address mode image) r.0.key
    ∙ ap (option_map item_place) (ap (in_items mode (function_address mode image) n r.0.key 0 (body_code n) c.args.rip) (c.as_slice.ensures ∙ r.3)
    ∙ sym (only_body mode image image.bodies 0 n n c.args.rip r.0 there (omega arith) r.1 r.2 (omega arith) (omega arith)))
