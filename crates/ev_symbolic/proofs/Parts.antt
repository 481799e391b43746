-- Parts of listings stand in the code of the whole.
use Rattle.std.proofs.Common.{List, [], ◌∷◌, ◌++◌, sym, subst, ⊎_elim}
use Rattle.ev_asm.specs.Assembly.{Places}
use Rattle.ev_listing.specs.Marks.{Listing}
use Rattle.ev_symbolic.specs.Agrees.{Code}
use Rattle.ev_symbolic.specs.Claims.{PartsStand}
use Rattle.ev_symbolic.specs.Listed.{Cells, cells_from, cells_in, AllFound, IsIn, AreIn}
use Rattle.ev_symbolic.proofs.Listed.{first_found, rest_found, stands_in}

pub found_append : (code : Code) (xs ys : Cells) → AllFound code xs → AllFound code ys → AllFound code (xs ++ ys)
found_append code [] ys f g = g
found_append code (x ∷ xs) ys f g = (f.0, found_append code xs ys f.1 g)

-- one of the listings
pub one_found : (code : Code) (env : Places) (b : Listing) (bs : List Listing) → IsIn b bs → AllFound code (cells_in env bs)
    → AllFound code (cells_from env b.address b.lines)
one_found code env b [] h f = absurd h
one_found code env b (x ∷ bs) h f =
    let xs = cells_from env x.address x.lines in
    ⊎_elim
    (λ q. subst (λ (y : Listing). AllFound code (cells_from env y.address y.lines)) (sym q) (first_found code xs (cells_in env bs) f))
    (λ r. one_found code env b bs r (rest_found code xs (cells_in env bs) f)) h

parts_found : (code : Code) (env : Places) (parts whole : List Listing) → AreIn parts whole → AllFound code (cells_in env whole)
    → AllFound code (cells_in env parts)
parts_found code env [] whole h f = tt
parts_found code env (b ∷ bs) whole h f =
    found_append code (cells_from env b.address b.lines) (cells_in env bs) (one_found code env b whole h.0 f) (parts_found code env bs whole h.1 f)

pub parts_stand : PartsStand
parts_stand code e z env parts whole h f low = stands_in code e z env parts (parts_found code env parts whole h f) low
