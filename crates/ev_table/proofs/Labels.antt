-- Labels of bodies begin with "b", and those that the kernel's jumps name don't: so the kernel's have the same places in every image.
use Rattle.std.proofs.Common.{◌≡◌, ℕ, ◌+◌, Bool, true, false, not, ◌&&◌, List, [], ◌∷◌, ◌++◌, refl, sym, ap, ◌∙◌, append_assoc}
use Rattle.std.specs.Prelude.{◌==◌, if◌then◌else◌}
use Rattle.std.proofs.lemmas.Bool.{eqb-true, not-true}
use Rattle.ev_isa.specs.declared.mode.Mode.{Mode}
use Rattle.ev_isa.specs.declared.mode.Mode.TheVariants.{Idt, Fred}
use Rattle.ev_body.specs.declared.key.Key.{Key}
use Rattle.ev_body.specs.declared.key.Key.TheVariants.{Nmi}
use Rattle.ev_asm.specs.declared.statement.Stmt.{Stmt}
use Rattle.ev_asm.specs.declared.statement.Stmt.TheVariants.{Label, Plain, Jump}
use Rattle.ev_asm.specs.Assembly.{Name, Places, is_name, place, places, size}
use Rattle.ev_listing.specs.Expansion.{exit_of}
use Rattle.ev_listing.specs.Marks.{Marked, Listing, stmts_of, all_places}
use Rattle.ev_symbolic.specs.Listed.{cells_from, cells_in, SameTarget, SameTargets}
use Rattle.ev_symbolic.proofs.Listed.{cells_same}
use Rattle.ev_symbolic.proofs.Values.{and_left, and_right}
use Rattle.ev_table.proofs.Expanded.{is_of_body, names_body, name_bodies}

abbrev pub AllOfBodies : Places → Type 0
AllOfBodies [] = Unit {0}
AllOfBodies (e ∷ es) = (is_of_body e.0 ≡ true) × AllOfBodies es

pub all_append : (xs ys : Places) → AllOfBodies xs → AllOfBodies ys → AllOfBodies (xs ++ ys)
all_append [] ys h k = k
all_append (x ∷ xs) ys h k = (h.0, all_append xs ys h.1 k)

-- labels that lines give are of bodies, where their names are
pub lines_of_bodies : (a : ℕ) (ls : List Marked) → name_bodies ls ≡ true → AllOfBodies (places a (stmts_of ls))
unfolding places
lines_of_bodies a [] h = tt
lines_of_bodies a (l ∷ ls) h = one l.stmt (and_left _ _ h) (λ b. lines_of_bodies b ls (and_right (names_body l.stmt) _ h))
  where
    one : (s : Stmt) → names_body s ≡ true → ((b : ℕ) → AllOfBodies (places b (stmts_of ls))) → AllOfBodies (places a (s ∷ stmts_of ls))
    one (Label name) q k = (q, k a)
    one (Plain i) q k = k (a + size (Plain i))
    one (Jump c name) q k = k (a + size (Jump c name))

other_name : (m n : Name) → is_of_body m ≡ true → is_of_body n ≡ false → is_name m n ≡ false
other_name [] n h k = absurd (cc)
other_name (x ∷ xs) [] h k = refl
other_name (x ∷ xs) (y ∷ ys) h k = pick (x == y) refl
  where
    pick : (b : Bool) → (x == y) ≡ b → (b && is_name xs ys) ≡ false
    pick true q = absurd (let e : (y == 0x62) ≡ true = ap (λ z. z == 0x62) (sym (eqb-true x y q)) ∙ h in cc)
    pick false q = refl

-- behind labels of bodies a name of the kernel has the same place
pub place_behind : (xs ys : Places) (name : Name) → AllOfBodies xs → is_of_body name ≡ false → place (xs ++ ys) name ≡ place ys name
place_behind [] ys name h k = refl
place_behind (x ∷ xs) ys name h k = ap (λ b. if b then x.1 else place (xs ++ ys) name) (other_name x.0 name h.0 k) ∙ place_behind xs ys name h.1 k

-- ---- listings whose jumps name no label of a body

abbrev pub is_inner : Stmt → Bool
is_inner (Jump c name) = not (is_of_body name)
is_inner s = true

abbrev pub are_inner : List Marked → Bool
are_inner [] = true
are_inner (l ∷ ls) = is_inner l.stmt && are_inner ls

abbrev pub all_inner : List Listing → Bool
all_inner [] = true
all_inner (b ∷ bs) = are_inner b.lines && all_inner bs

module _ (env env' : Places) (same : (name : Name) → is_of_body name ≡ false → place env name ≡ place env' name) where
  same_target : (s : Stmt) → is_inner s ≡ true → SameTarget env env' s
  same_target (Label name) h = tt
  same_target (Plain i) h = tt
  same_target (Jump c name) h = same name (not-true (is_of_body name) h)

  same_targets : (ls : List Marked) → are_inner ls ≡ true → SameTargets env env' ls
  same_targets [] h = tt
  same_targets (l ∷ ls) h = (same_target l.stmt (and_left _ _ h), same_targets ls (and_right (is_inner l.stmt) _ h))

  pub cells_in_same : (bs : List Listing) → all_inner bs ≡ true → cells_in env bs ≡ cells_in env' bs
  cells_in_same [] h = refl
  cells_in_same (b ∷ bs) h =
      ap (λ xs. xs ++ cells_in env bs) (cells_same env env' b.address b.lines (same_targets b.lines (and_left _ _ h)))
      ∙ ap (λ xs. cells_from env' b.address b.lines ++ xs) (cells_in_same bs (and_right (are_inner b.lines) _ h))

-- the exits are names of the kernel
pub exit_inner : (mode : Mode) (key : Key) → is_of_body (exit_of mode key) ≡ false
exit_inner Idt Nmi = refl
exit_inner Idt _ = refl
exit_inner Fred Nmi = refl
exit_inner Fred _ = refl

-- ---- lists of listings one behind the other

pub all_places_append : (bs cs : List Listing) → all_places (bs ++ cs) ≡ all_places bs ++ all_places cs
all_places_append [] cs = refl
all_places_append (b ∷ bs) cs = ap (λ xs. places b.address (stmts_of b.lines) ++ xs) (all_places_append bs cs)
    ∙ sym (append_assoc (places b.address (stmts_of b.lines)) (all_places bs) (all_places cs))

pub cells_in_append : (env : Places) (bs cs : List Listing) → cells_in env (bs ++ cs) ≡ cells_in env bs ++ cells_in env cs
cells_in_append env [] cs = refl
cells_in_append env (b ∷ bs) cs = ap (λ xs. cells_from env b.address b.lines ++ xs) (cells_in_append env bs cs)
    ∙ sym (append_assoc (cells_from env b.address b.lines) (cells_in env bs) (cells_in env cs))
