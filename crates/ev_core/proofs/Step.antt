-- What a step's parts say together.
use Rattle.std.proofs.Common.{◌≡◌, ℕ}
use Rattle.ev_isa.specs.Word.{NatMap}
use Rattle.ev_mem.specs.Memory.{Memory}

-- memory that keeps its regions
pub same_regions : (m m' : Memory) (words : NatMap ℕ) → m'.regions ≡ m.regions → m'.words ≡ words → m' ≡ record m { words = words }
same_regions m m' words r w = λ i. record { regions = r i; words = w i }
