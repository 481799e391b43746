use Rattle.std.proofs.Common.{◌∙◌, Option, sym, ap}
use Rattle.std.specs.Option.{option_or}
use Rattle.ev_isa.specs.declared.mode.Mode.{Mode}
use Rattle.ev_layout.specs.declared.place.Place.{Place}
use Rattle.ev_layout.specs.KeptCode.{KeptCode}
use Rattle.ev_layout.specs.CodePlaces.{kernel_place, stop_place, place_of}
use Rattle.ev_layout.proofs.places.Places.place_of.Goals as goal

pub returns-in-Some : goal.returns-in-Some
unfolding place_of
returns-in-Some c = λ mode image is.
    let bodies = c.as_slice.ensures ∙ ap (λ (v : KeptCode). v.bodies) c.self.view_is ∙ is.bodies_are in
    let found = sym c.in-Some.is ∙ c.place_in_bodies.ensures mode image bodies in
    ap (λ (o : Option Place). option_or o (option_or (kernel_place mode c.args.rip) (stop_place c.args.rip))) found

pub returns-in-Some-kernel_place : goal.returns-in-Some-kernel_place
unfolding place_of
returns-in-Some-kernel_place c = λ mode image is.
    let bodies = c.as_slice.ensures ∙ ap (λ (v : KeptCode). v.bodies) c.self.view_is ∙ is.bodies_are in
    let modes = ap (λ (v : KeptCode). v.mode) c.self.view_is ∙ is.mode_is in
    let none = sym c.in-None.is ∙ c.place_in_bodies.ensures mode image bodies in
    let found = sym c.in-Some-kernel_place.is ∙ c.kernel_place.ensures ∙ ap (λ (m : Mode). kernel_place m c.args.rip) modes in
    λ i. option_or (none i) (option_or (found i) (stop_place c.args.rip))

pub returns-in-None-kernel_place : goal.returns-in-None-kernel_place
unfolding place_of
returns-in-None-kernel_place c = λ mode image is.
    let bodies = c.as_slice.ensures ∙ ap (λ (v : KeptCode). v.bodies) c.self.view_is ∙ is.bodies_are in
    let modes = ap (λ (v : KeptCode). v.mode) c.self.view_is ∙ is.mode_is in
    let none = sym c.in-None.is ∙ c.place_in_bodies.ensures mode image bodies in
    let before = sym c.in-None-kernel_place.is ∙ c.kernel_place.ensures ∙ ap (λ (m : Mode). kernel_place m c.args.rip) modes in
    λ i. option_or (none i) (option_or (before i) (c.stop_place.ensures i))
