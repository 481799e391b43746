-- Call records that activations are filling: between the load that found a record free and the exchange that puts it into a queue the words of the record are
-- the activation's own, while the abstract machine's record is free. Own.
use Rattle.std.specs.Prelude.{◌≡◌, ℕ, ◌<◌, Bool, false, ◌||◌, ◌==◌, List, [], ◌∷◌, Option, Some, None}
use Rattle.ev_isa.specs.Word.{NatMap}
use Rattle.ev_abstract.specs.Machine.{CallRecord, Free}

-- the record of a site of the processor, by which so many calls have been queued
pub record Filling : Type 0 where
  pub site : ℕ
  pub number : ℕ

-- what the first of a list of contexts fills, and what those below it do
abbrev pub first_fill : List (Option Filling) → Option Filling
first_fill [] = None
first_fill (f ∷ fs) = f

-- those below
abbrev pub rest_fills : List (Option Filling) → List (Option Filling)
rest_fills [] = []
rest_fills (f ∷ fs) = fs

-- whether it is this site's record
abbrev pub is_of_site : ℕ → Option Filling → Bool
is_of_site k None = false
is_of_site k (Some f) = f.site == k

-- whether some context fills the site's record
abbrev pub is_filled : ℕ → List (Option Filling) → Bool
is_filled k [] = false
is_filled k (f ∷ fs) = is_of_site k f || is_filled k fs

-- The record is free, has this number, and no other context fills it.
pub record IsFree (records : NatMap CallRecord) (f : Filling) (others : List (Option Filling)) : Type 0 where
  pub small : f.site < 8
  pub free : (records f.site).state ≡ Free
  pub number : (records f.site).number ≡ f.number
  pub alone : is_filled f.site others ≡ false

-- if there is one
abbrev pub IsFreeIf : NatMap CallRecord → Option Filling → List (Option Filling) → Type 0
IsFreeIf records None others = Unit {0}
IsFreeIf records (Some f) others = IsFree records f others

-- each that is filled
abbrev pub AreFree : NatMap CallRecord → List (Option Filling) → Type 0
AreFree records [] = Unit {0}
AreFree records (f ∷ fs) = IsFreeIf records f fs × AreFree records fs
