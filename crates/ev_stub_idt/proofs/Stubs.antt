-- The stubs of vectors, one after the other.
use Rattle.std.proofs.Common.{◌≡◌, ℕ, suc, ◌-◌, ◌<◌, List, [], ◌∷◌, ◌++◌, refl, ap, sym, ◌∙◌, arith, append_assoc}
use Rattle.std.proofs.lemmas.List.{append-nil}
use Rattle.ev_listing.specs.AddressMap.{vector_stub}
use Rattle.ev_listing.specs.IdtCode.{stub, stubs}
use Rattle.ev_listing.specs.Marks.{Listing}
use Rattle.ev_stub_idt.specs.Listings.{vector_stubs}

abbrev pub stub_listing : ℕ → Listing
stub_listing v = record { address = vector_stub v; lines = stub v }

-- the stubs of the vectors from v on
unfoldable pub stubs_from : ℕ → List Listing
stubs_from v = stubs v (256 - v)

pub stubs_all : stubs_from 0 ≡ vector_stubs
unfolding stubs_from vector_stubs
stubs_all = refl

next : (v : ℕ) → v < 256 → stubs_from v ≡ stub_listing v ∷ stubs_from (suc v)
unfolding stubs_from
next v h = let e : 256 - v ≡ suc (256 - suc v) = omega arith in rw e refl

pub stubs_step : (v w : ℕ) (done more W : List Listing) → v < 256 → w ≡ suc v → more ≡ done ++ stub_listing v ∷ [] → done ++ stubs_from v ≡ W
    → more ++ stubs_from w ≡ W
stubs_step v w done more W lt k g h =
    rw (k, g) (append_assoc done (stub_listing v ∷ []) (stubs_from (suc v)) ∙ ap (λ (x : List Listing). done ++ x) (sym (next v lt)) ∙ h)

no_more : stubs_from 256 ≡ []
unfolding stubs_from
no_more = refl

pub stubs_end : (v : ℕ) (done more W : List Listing) → v ≡ 255 → more ≡ done ++ stub_listing v ∷ [] → done ++ stubs_from v ≡ W → more ≡ W
stubs_end v done more W k g h =
    sym (append-nil more) ∙ ap (λ (x : List Listing). more ++ x) (sym no_more) ∙ stubs_step v 256 done more W (omega arith) (omega arith) g h
