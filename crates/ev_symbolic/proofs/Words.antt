-- Places, windows and known words: what a write does to them, and what a found word says.
use Rattle.std.proofs.Common.{◌≡◌, ℕ, ◌+◌, ◌%◌, ◌<◌, Bool, true, false, not, List, [], ◌∷◌, set, map, Option, Some, None, refl, sym, ap, ◌∙◌, subst, arith, ⊎_elim}
use Rattle.std.specs.Prelude.{◌==◌, nat_lt, if◌then◌else◌}
use Rattle.std.proofs.lemmas.List.{map-set}
use Rattle.std.proofs.lemmas.Bool.{eqb-true, eq-eqb, ltb-true}
use Rattle.std.proofs.lemmas.Bool.Decides.{eqb_tells}
use Rattle.ev_isa.specs.Word.{NatMap, put_at, is_aligned}
use Rattle.ev_isa.specs.Pages.{fault_at}
use Rattle.ev_event.specs.declared.event.Event.{Event}
use Rattle.ev_event.specs.Event.{ac}
use Rattle.ev_effect.specs.Effect.{access_event, page_event}
use Rattle.ev_mem.specs.Memory.{Memory, view, page_fault, data_access, present_in}
use Rattle.ev_symbolic.specs.Value.{M, V, K, P, X, B}
use Rattle.ev_symbolic.specs.State.{Loc, Word, Win, is_within, in_one, in_win, in_text, loc_eq, loc_of, shift, find, without}
use Rattle.ev_symbolic.specs.Agrees.{Env, eval, addr, Known, IsOpen, Apart, Far, Within}
use Rattle.ev_symbolic.proofs.Values.{and_left, and_right, add_shift}

-- ---- places

pub loc_same : (k l : Loc) → loc_eq k l ≡ true → k ≡ l
loc_same k l h =
    let p : k.tag ≡ l.tag = eqb-true k.tag l.tag (and_left _ _ h) in
    let q : k.off ≡ l.off = eqb-true k.off l.off (and_right (k.tag == l.tag) _ h) in
    λ i. record { tag = p i; off = q i }

within_below : (w : Win) (l : Loc) → is_within w l ≡ true → nat_lt l.off M ≡ true
within_below w l h = and_left (nat_lt l.off M) _ (and_right (w.tag == l.tag) _ h)

-- the offset of a place in a window
pub win_below : (W : List Win) (l : Loc) → in_win W l ≡ true → nat_lt l.off M ≡ true
win_below [] l h = absurd (cc)
win_below (w ∷ ws) l h = pick (in_one w l) refl h (win_below ws l)
  where
    pick : (b : Bool) → in_one w l ≡ b → (if b then true else in_win ws l) ≡ true → (in_win ws l ≡ true → nat_lt l.off M ≡ true) → nat_lt l.off M ≡ true
    pick true q r k = within_below w l (and_left (is_within w l) _ q)
    pick false q r k = k r

pub text_below : (W : List Win) (l : Loc) → in_text W l ≡ true → nat_lt l.off M ≡ true
text_below [] l h = absurd (cc)
text_below (w ∷ ws) l h = pick (is_within w l) refl h (text_below ws l)
  where
    pick : (b : Bool) → is_within w l ≡ b → (if b then true else in_text ws l) ≡ true → (in_text ws l ≡ true → nat_lt l.off M ≡ true) → nat_lt l.off M ≡ true
    pick true q r k = within_below w l q
    pick false q r k = k r

-- the place that a value names
abbrev pub Names : Env → V → Option Loc → Type 0
Names e v None = Unit {0}
Names e v (Some l) = nat_lt l.off M ≡ true → addr e l ≡ eval e v

lower : (z n : ℕ) → z ≡ 0 → n < M → (z + n) % M ≡ n
lower z n h k = omega arith

pub names_ok : (e : Env) → e.base 1000 ≡ 0 → (v : V) → Names e v (loc_of v)
unfolding eval
names_ok e z (K n) = λ h. lower (e.base 1000) n z (ltb-true n M h)
names_ok e z (P i o) = λ h. refl
names_ok e z (X i) = tt
names_ok e z (B o a b) = tt

pub shift_ok : (e : Env) (l : Loc) (n d : ℕ) → n ≡ addr e l → (n + d) % M ≡ addr e (shift l d)
shift_ok e l n d h = ap (λ x. (x + d) % M) h ∙ sym (add_shift (e.base l.tag) l.off d)

-- ---- words

-- what a word that is found says of memory
abbrev pub Found : Env → List Win → NatMap ℕ → Loc → Option V → Type 0
Found e W m l None = Unit {0}
Found e W m l (Some v) = (in_win W l ≡ true) × (m (addr e l) ≡ eval e v)

pub found_ok : (e : Env) (W : List Win) (m : NatMap ℕ) (l : Loc) (ws : List Word) → Known e W m ws → Found e W m l (find l ws)
found_ok e W m l [] k = tt
found_ok e W m l (w ∷ ws) k = pick (loc_eq w.at l) refl (found_ok e W m l ws k.2)
  where
    pick : (b : Bool) → loc_eq w.at l ≡ b → Found e W m l (find l ws) → Found e W m l (if b then Some w.val else find l ws)
    pick true h r = let same : w.at ≡ l = loc_same w.at l h in (subst (λ x. in_win W x ≡ true) same k.0, subst (λ x. m (addr e x) ≡ eval e w.val) same k.1)
    pick false h r = r

pub put_same : (m : NatMap ℕ) (a v : ℕ) → put_at m a v a ≡ v
put_same m a v = ap (λ b. elim b [ true ↦ v | false ↦ m a ]) (eq-eqb a a refl)

pub put_other : (m : NatMap ℕ) (a v x : ℕ) → (x ≡ a → ⊥) → put_at m a v x ≡ m x
put_other m a v x h = ⊎_elim (λ p. absurd (h p.1)) (λ p. ap (λ b. elim b [ true ↦ v | false ↦ m x ]) p.0) (eqb_tells x a)

pub without_ok : (e : Env) (N W : List Win) → Apart e N W → (m : NatMap ℕ) (l : Loc) (v : ℕ) → in_win W l ≡ true → (ws : List Word) → Known e N m ws
    → Known e N (put_at m (addr e l) v) (without l ws)
without_ok e N W sep m l v h [] k = tt
without_ok e N W sep m l v h (w ∷ ws) k = pick (loc_eq w.at l) refl (without_ok e N W sep m l v h ws k.2)
  where
    pick : (b : Bool) → loc_eq w.at l ≡ b → Known e N (put_at m (addr e l) v) (without l ws)
        → Known e N (put_at m (addr e l) v) (if b then without l ws else (w ∷ without l ws))
    pick true q r = r
    pick false q r = (k.0, put_other m (addr e l) v (addr e w.at) (sep w.at l k.0 h q) ∙ k.1, r)

pub shared_ok : (e : Env) (W S : List Win) → Far e W e S → (m : NatMap ℕ) (l : Loc) (v : ℕ) → in_win S l ≡ true → (ws : List Word) → Known e W m ws
    → Known e W (put_at m (addr e l) v) ws
shared_ok e W S across m l v h [] k = tt
shared_ok e W S across m l v h (w ∷ ws) k = (k.0, put_other m (addr e l) v (addr e w.at) (across w.at l k.0 h) ∙ k.1, shared_ok e W S across m l v h ws k.2)

pub within_put : (e : Env) (W S : List Win) (m : NatMap ℕ) (l : Loc) (v : ℕ) → in_win W l ≡ true → Within e W S m (put_at m (addr e l) v)
within_put e W S m l v h x far far' = put_other m (addr e l) v x (far l h)

pub within_put_shared : (e : Env) (W S : List Win) (m : NatMap ℕ) (l : Loc) (v : ℕ) → in_win S l ≡ true → Within e W S m (put_at m (addr e l) v)
within_put_shared e W S m l v h x far far' = put_other m (addr e l) v x (far' l h)

-- ---- accesses

-- the kernel has access to an open word, whatever the words of memory are
pub accessible : (m : Memory) (user : Bool) → user ≡ false → (write : Bool) (bad : Event) (a : ℕ) → IsOpen m.regions a
    → access_event (view m user) write bad a ≡ None
unfolding access_event fault_at
accessible m user u write bad a o =
    ap (λ b. access_event (view m b) write bad a) u
    ∙ ap (λ b. if not b then Some bad else (if not (is_aligned a) then Some ac else page_event (page_fault m (data_access false write) a) a)) o.canonical
    ∙ ap (λ b. if not b then Some ac else page_event (page_fault m (data_access false write) a) a) o.aligned
    ∙ ap (λ p. page_event (fault_at (present_in m) (data_access false write) p) a) o.kernel

-- ---- registers

pub set_ok : (e : Env) (xs : List ℕ) (ys : List V) (d x : ℕ) (v : V) → xs ≡ map (eval e) ys → x ≡ eval e v → set xs d x ≡ map (eval e) (set ys d v)
set_ok e xs ys d x v h k = ap (λ zs. set zs d x) h ∙ ap (λ z. set (map (eval e) ys) d z) k ∙ sym (map-set (eval e) ys d v)
