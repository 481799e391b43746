-- The words of a frame: where a delivery places them, an activation knows them; all else stays; and the kernel has access to their places.
use Rattle.std.proofs.Common.{◌≡◌, ℕ, zero, suc, ◌+◌, ◌*◌, ◌%◌, ◌<◌, ◌≤◌, Bool, true, false, List, [], ◌∷◌, length, map, Some, None, refl, sym, ap, ◌∙◌, subst, arith, ◌⊎◌, inl, inr, ⊎_elim}
use Rattle.ev_isa.specs.Word.{NatMap, put_at, wrap}
use Rattle.ev_event.specs.Event.{ss}
use Rattle.ev_effect.specs.Frame.{addresses, placed, or_else, first_event}
use Rattle.ev_mem.specs.declared.region.Region.{Region}
use Rattle.ev_mem.specs.Memory.{Memory, view}
use Rattle.ev_symbolic.specs.Value.{M, V}
use Rattle.ev_symbolic.specs.State.{Loc, Word, Win, in_win, write, find, top_tag}
use Rattle.ev_symbolic.specs.Agrees.{Env, eval, addr, Known, Apart, Open}
use Rattle.ev_symbolic.specs.Placed.{at_top, words_placed, all_in, AllOpen}
use Rattle.ev_symbolic.proofs.Values.{and_left, and_right, add_shift}
use Rattle.ev_symbolic.proofs.Words.{put_same, put_other, without_ok, accessible}
use Rattle.ev_symbolic.proofs.Blocks.{all_found}

pub next_place : (b off : ℕ) → wrap ((b + off) % M + 8) ≡ (b + (off + 8) % M) % M
next_place b off = sym (add_shift b off 8)

pub placed_known : (e : Env) (K W : List Win) → Apart e K W → (vs : List V) (off : ℕ) (words : NatMap ℕ) (ws : List Word) → all_in W off (length vs) ≡ true
    → all_in K off (length vs) ≡ true
    → Known e K words ws → Known e K (placed words ((e.base top_tag + off) % M) (map (eval e) vs)) (words_placed off vs ws)
placed_known e K W sep [] off words ws i j k = k
placed_known e K W sep (v ∷ vs) off words ws i j k =
    let l : Loc = at_top off in
    let q : in_win W l ≡ true = and_left _ _ i in
    let q' : in_win K l ≡ true = and_left _ _ j in
    subst (λ a. Known e K (placed (put_at words (addr e l) (eval e v)) a (map (eval e) vs)) (words_placed ((off + 8) % M) vs (write l v ws)))
    (sym (next_place (e.base top_tag) off))
    (placed_known e K W sep vs ((off + 8) % M) (put_at words (addr e l) (eval e v)) (write l v ws) (and_right (in_win W l) _ i) (and_right (in_win K l) _ j)
    (q', put_same words (addr e l) (eval e v), without_ok e K W sep words l (eval e v) q ws k))

-- as an opening lists them
pub listed_known : (e : Env) (K W : List Win) → Apart e K W → (vs : List V) (off : ℕ) (words : NatMap ℕ) (ws front : List Word)
    → all_in W off (length vs) ≡ true → all_in K off (length vs) ≡ true → Known e K words ws
    → map (λ (w : Word). find w.at (words_placed off vs ws)) front ≡ map (λ (w : Word). Some w.val) front
    → Known e K (placed words ((e.base top_tag + off) % M) (map (eval e) vs)) front
listed_known e K W sep vs off words ws front i j k f =
    all_found e K (placed words ((e.base top_tag + off) % M) (map (eval e) vs)) (words_placed off vs ws) (placed_known e K W sep vs off words ws i j k) front f

-- a word below the places, or behind them, stays
pub placed_other : (vs : List ℕ) (words : NatMap ℕ) (a x : ℕ) → a + 8 * length vs < M → (x < a) ⊎ (a + 8 * length vs ≤ x) → placed words a vs x ≡ words x
placed_other [] words a x h k = refl
placed_other (v ∷ vs) words a x h k =
    let next : wrap (a + 8) ≡ a + 8 = omega arith in
    ap (λ b. placed (put_at words a v) b vs x) next
    ∙ placed_other vs (put_at words a v) (a + 8) x (omega arith)
    (⊎_elim (λ l. inl (let z : x < a + 8 = omega arith in z)) (λ l. inr (let z : (a + 8) + 8 * length vs ≤ x = omega arith in z)) k)
    ∙ put_other words a v x (λ q. ⊎_elim (λ (l : x < a). absurd (omega arith)) (λ (l : a + 8 * length (v ∷ vs) ≤ x). absurd (omega arith)) k)

-- ---- access

pub places_open : (e : Env) (W : List Win) (regions : List Region) → Open e W regions → (n off : ℕ) → all_in W off n ≡ true
    → AllOpen regions (addresses ((e.base top_tag + off) % M) n)
places_open e W regions o zero off i = tt
places_open e W regions o (suc n) off i = (
  o (at_top off) (and_left _ _ i),
  subst (λ a. AllOpen regions (addresses a n)) (sym (next_place (e.base top_tag) off))
      (places_open e W regions o n ((off + 8) % M) (and_right (in_win W (at_top off)) _ i)),
)

pub no_event : (m : Memory) (write : Bool) (as' : List ℕ) → AllOpen m.regions as' → first_event (view m false) write as' ≡ None
no_event m write [] o = refl
no_event m write (a ∷ as') o = ap (λ z. or_else z (first_event (view m false) write as')) (accessible m false refl write (ss 0) a o.0)
    ∙ no_event m write as' o.1

-- five, six and eight places, from the highest down
pub five_open : (regions : List Region) (a b c d e : ℕ) → AllOpen regions (a ∷ b ∷ c ∷ d ∷ e ∷ []) → AllOpen regions (e ∷ d ∷ c ∷ b ∷ a ∷ [])
five_open regions a b c d e (i, (j, (k, (l, (m, n))))) = (m, (l, (k, (j, (i, n)))))

pub six_open : (regions : List Region) (a b c d e f : ℕ) → AllOpen regions (a ∷ b ∷ c ∷ d ∷ e ∷ f ∷ []) → AllOpen regions (f ∷ e ∷ d ∷ c ∷ b ∷ a ∷ [])
six_open regions a b c d e f (i, (j, (k, (l, (m, (n, o)))))) = (n, (m, (l, (k, (j, (i, o))))))

pub eight_open : (regions : List Region) (a b c d e f g h : ℕ) → AllOpen regions (a ∷ b ∷ c ∷ d ∷ e ∷ f ∷ g ∷ h ∷ [])
    → AllOpen regions (h ∷ g ∷ f ∷ e ∷ d ∷ c ∷ b ∷ a ∷ [])
eight_open regions a b c d e f g h (i, (j, (k, (l, (m, (n, (o, (q, r)))))))) = (q, (o, (n, (m, (l, (k, (j, (i, r))))))))
