-- Numbers of calls in words: while few steps were counted, the word that the concrete machine keeps of a number modulo 2^64 is the number.
use Rattle.std.proofs.Common.{◌≡◌, ℕ, suc, ◌<◌, arith}
use Rattle.std.specs.Prelude.{◌%◌, ◌^◌}
use Rattle.std.proofs.Math.Nat.{mod-eq_of_lt}
use Rattle.std.proofs.lemmas.List.Sums.{count_by-le-length}
use Rattle.ev_isa.specs.Word.{NatMap}
use Rattle.ev_isa.specs.declared.mode.Mode.{Mode}
use Rattle.ev_body.specs.declared.image.Image.{Image}
use Rattle.ev_abstract.specs.Context.{CallId}
use Rattle.ev_abstract.specs.CrossCall.{record_of}
use Rattle.ev_abstract.specs.Machine.{Machine}
use Rattle.ev_call_law.specs.Calls.{is_call_of}
use Rattle.ev_concrete.specs.ConcreteRun.{System}
use Rattle.ev_symbolic.specs.Value.{M}
use Rattle.ev_relation.specs.Relation.{Stands}
use Rattle.ev_relation.specs.Step.{IsCounted}

module _ (mode : Mode) (image : Image) (left : NatMap ℕ) (s : System) (m : Machine) (h : Stands mode image left s m) (counted : IsCounted s)
    (k : CallId) where
  -- a site has queued no more calls than entries were told
  number_small : (record_of m k).number < 2 ^ 63
  number_small =
      let total = (h.calls.told k).total in
      let among = count_by-le-length (is_call_of k) h.told in
      let few = h.few in omega (arith, total, among, few, counted)

  -- the number of the site's last call
  pub number_kept : (record_of m k).number % M ≡ (record_of m k).number
  number_kept = mod-eq_of_lt (let small = number_small in omega (arith, small))

  -- and of its next one
  pub next_kept : suc (record_of m k).number % M ≡ suc (record_of m k).number
  next_kept = mod-eq_of_lt (let small = number_small in omega (arith, small))
