use Rattle.std.proofs.Common.{◌≡◌, ℕ, true, false, Some, None, refl, sym}
use Rattle.std.specs.Prelude.{nat_eq}
use Rattle.std.proofs.lemmas.Bool.{eq-eqb, ne_eqb}
use Rattle.ev_asm.specs.Assembly.{size}
use Rattle.ev_listing.specs.AddressMap.{no_body}
use Rattle.ev_stub.specs.Position.{index_from}
use Rattle.ev_layout.specs.declared.place.Place.TheVariants as place
use Rattle.ev_layout.specs.CodePlaces.{stop_place}
use Rattle.ev_layout.proofs.place.stop_place.Goals as goal

-- the label takes no bytes, so that the jump stands where the code begins
stops : (rip : ℕ) → nat_eq no_body rip ≡ true → stop_place rip ≡ Some place.Stop
unfolding index_from size
stops rip e = rw (e, index_from) refl

goes_on : (rip : ℕ) → nat_eq no_body rip ≡ false → stop_place rip ≡ None
unfolding index_from size
goes_on rip e = rw (e, index_from) refl

pub returns-then-rip-eq-NO_BODY : goal.returns-then-rip-eq-NO_BODY
returns-then-rip-eq-NO_BODY c = sym (stops c.args.rip (eq-eqb no_body c.args.rip (sym c.if-rip-eq-NO_BODY.true)))

pub returns-else-rip-eq-NO_BODY : goal.returns-else-rip-eq-NO_BODY
returns-else-rip-eq-NO_BODY c = sym (goes_on c.args.rip (ne_eqb no_body c.args.rip (λ same. c.if-rip-eq-NO_BODY.false (sym same))))
