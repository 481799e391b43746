-- The listings of an image's bodies: their labels and marks, and each body's own part.
use Rattle.std.proofs.Common.{◌≡◌, ℕ, zero, suc, ◌+◌, true, ◌&&◌, List, [], ◌∷◌, Some, refl, ap, ◌∙◌, subst, arith}
use Rattle.std.specs.Prelude.{slice_get}
use Rattle.ev_isa.specs.declared.mode.Mode.{Mode}
use Rattle.ev_body.specs.declared.body.Body.{Body}
use Rattle.ev_body.specs.declared.image.Image.{Image}
use Rattle.ev_body.specs.Bodies.{body_items}
use Rattle.ev_asm.specs.Assembly.{Places, places}
use Rattle.ev_listing.specs.AddressMap.{body_code}
use Rattle.ev_listing.specs.Expansion.{function_address, body_stmts}
use Rattle.ev_listing.specs.Marks.{stmts_of, all_places}
use Rattle.ev_concrete.specs.Opening.{body_listings}
use Rattle.ev_concrete.specs.ConcreteRun.{Marks}
use Rattle.ev_symbolic.specs.Agrees.{Code}
use Rattle.ev_symbolic.specs.Listed.{cells_from, cells_in, AllFound}
use Rattle.ev_table.specs.Table.{AreMarked}
use Rattle.ev_table.proofs.Cells.{found_first, found_rest}
use Rattle.ev_table.proofs.Labels.{AllOfBodies, all_append, lines_of_bodies}
use Rattle.ev_table.proofs.Expanded.{all_unmarked, all_of_body}
use Rattle.ev_table.proofs.Marked as marked
use Rattle.ev_table.proofs.Marked.{EachMarked}

module _ (mode : Mode) (image : Image) where
  pub labels : (n : ℕ) (bs : List Body) → AllOfBodies (all_places (body_listings mode image n bs))
  unfolding body_stmts
  labels n [] = tt
  labels n (b ∷ bs) =
      all_append (places (body_code n) (stmts_of (body_stmts mode image n b))) (all_places (body_listings mode image (suc n) bs))
      (lines_of_bodies (body_code n) (body_stmts mode image n b) (all_of_body mode n b.key (function_address mode image) 0 (body_items b))) (labels (suc n) bs)

  pub unmarked : (n : ℕ) (bs : List Body) → marked.all_unmarked (body_listings mode image n bs) ≡ true
  unfolding body_stmts
  unmarked n [] = refl
  unmarked n (b ∷ bs) = ap (λ t. t && marked.all_unmarked (body_listings mode image (suc n) bs))
      (all_unmarked mode n b.key (function_address mode image) 0 (body_items b)) ∙ unmarked (suc n) bs

  -- the cells and marks of one body, where all are known
  pub body_found : (code : Code) (env : Places) (n : ℕ) (bs : List Body) → AllFound code (cells_in env (body_listings mode image n bs)) → (j : ℕ) (b : Body)
      → slice_get bs j ≡ Some b → AllFound code (cells_from env (body_code (n + j)) (body_stmts mode image (n + j) b))
  body_found code env n [] f j b h = absurd (cc)
  body_found code env n (x ∷ xs) f zero b h =
      subst (λ k. AllFound code (cells_from env (body_code k) (body_stmts mode image k b))) (let e : n ≡ n + 0 = omega arith in e)
      (subst (λ (y : Body). AllFound code (cells_from env (body_code n) (body_stmts mode image n y))) (let e : x ≡ b = cc in e)
      (found_first code (cells_from env (body_code n) (body_stmts mode image n x)) (cells_in env (body_listings mode image (suc n) xs)) f))
  body_found code env n (x ∷ xs) f (suc j) b h =
      subst (λ k. AllFound code (cells_from env (body_code k) (body_stmts mode image k b))) (let e : suc n + j ≡ n + suc j = omega arith in e)
      (body_found code env (suc n) xs
      (found_rest code (cells_from env (body_code n) (body_stmts mode image n x)) (cells_in env (body_listings mode image (suc n) xs)) f) j b h)

  pub body_marked : (ms : Marks) (n : ℕ) (bs : List Body) → EachMarked ms (body_listings mode image n bs) → (j : ℕ) (b : Body)
      → slice_get bs j ≡ Some b → AreMarked ms (body_code (n + j)) (body_stmts mode image (n + j) b)
  body_marked ms n [] f j b h = absurd (cc)
  body_marked ms n (x ∷ xs) f zero b h =
      subst (λ k. AreMarked ms (body_code k) (body_stmts mode image k b)) (let e : n ≡ n + 0 = omega arith in e)
      (subst (λ (y : Body). AreMarked ms (body_code n) (body_stmts mode image n y)) (let e : x ≡ b = cc in e) f.0)
  body_marked ms n (x ∷ xs) f (suc j) b h =
      subst (λ k. AreMarked ms (body_code k) (body_stmts mode image k b)) (let e : suc n + j ≡ n + suc j = omega arith in e)
      (body_marked ms (suc n) xs f.1 j b h)
