-- The task's registers and RIP in the saved area of an activation: where each word stands, what it is, and what a write of one changes.
use Rattle.std.proofs.Common.{◌≡◌, ◌⊎◌, inl, inr, ⊎_elim, ℕ, zero, suc, ◌+◌, ◌-◌, ◌%◌, ◌<◌, ◌≤◌, Bool, true, false, not, ◌&&◌, List, [], ◌∷◌, set, Some, refl, sym, ap, ◌∙◌, arith}
use Rattle.std.specs.Prelude.{pos, ◌==◌, nat_le, nat_lt, if◌then◌else◌, Option, None}
use Rattle.std.proofs.lemmas.Bool.{eqb-true, eq-eqb, ne_eqb, leb-true, ltb-true}
use Rattle.ev_isa.specs.Word.{NatMap, put_at, displaced, bit}
use Rattle.ev_isa.specs.declared.mode.Mode.{Mode}
use Rattle.ev_isa.specs.declared.mode.Mode.TheVariants.{Idt, Fred}
use Rattle.ev_body.specs.declared.image.Image.{Image}
use Rattle.ev_state.specs.Processor.{Processor, selector}
use Rattle.ev_listing.specs.AddressMap.{saved_rip, saved_cs, saved_flags, saved_ss}
use Rattle.ev_listing.specs.Expansion.{saved_offset}
use Rattle.ev_symbolic.specs.Value.{M, V, K, P, X, B, v_eq}
use Rattle.ev_symbolic.specs.State.{Loc, Word, Win, top_tag, in_win, loc_eq, find}
use Rattle.ev_symbolic.specs.Openings.{at_base}
use Rattle.ev_symbolic.specs.Names.{top_less}
use Rattle.ev_symbolic.specs.Agrees.{Env, eval, addr, Known, Apart}
use Rattle.ev_symbolic.proofs.Values.{and_left, and_right}
use Rattle.ev_symbolic.proofs.Words.{loc_same, Found, found_ok, put_same, put_other}
use Rattle.ev_blocks.specs.Shapes.{body_bytes}
use Rattle.ev_relation.specs.Active.{Saved}
use Rattle.ev_body_steps.proofs.Bodies.{layout_of}
use Rattle.ev_body_steps.proofs.ItemState.{opening_of, known_of}

-- ---- one word of known ones is written anew

-- no variable of a register, nor this one
abbrev is_other : ℕ → V → Bool
is_other j (X i) = nat_le 16 i && not (i == j)
is_other j (K n) = true
is_other j v = false

-- the words lie below the top of the frame; the one at a place is this variable, and no other one is
abbrev pub is_alone : Loc → ℕ → List Word → Bool
is_alone l j [] = true
is_alone l j (w ∷ ws) = ((w.at.tag == top_tag) && (if loc_eq w.at l then v_eq w.val (X j) else is_other j w.val)) && is_alone l j ws

-- where the variable alone is another, and the word at its place with it
pub known_anew : (e u : Env) (W : List Win) (l : Loc) (j : ℕ) (m : NatMap ℕ) → Apart e W W → in_win W l ≡ true → u.base top_tag ≡ e.base top_tag
    → ((i : ℕ) → 16 ≤ i → (i ≡ j → ⊥) → u.var i ≡ e.var i) → (ws : List Word) → is_alone l j ws ≡ true → Known e W m ws
    → Known u W (put_at m (addr e l) (u.var j)) ws
unfolding eval
known_anew e u W l j m sep inside same others [] h k = tt
known_anew e u W l j m sep inside same others (w ∷ ws) h k =
    let here = and_left _ (is_alone l j ws) h in (
      k.0,
      one (loc_eq w.at l) refl (and_right (w.at.tag == top_tag) _ here),
      known_anew e u W l j m sep inside same others ws (and_right _ (is_alone l j ws) h) k.2,
    )
  where
    kept : (v : V) → is_other j v ≡ true → eval e v ≡ eval u v
    kept (X i) q = sym (others i (leb-true 16 i (and_left (nat_le 16 i) _ q)) (λ t. differs i t (and_right (nat_le 16 i) _ q)))
      where
        differs : (i : ℕ) → i ≡ j → not (i == j) ≡ true → ⊥
        differs i t q = let z : true ≡ false = sym q ∙ ap not (eq-eqb i j t) in absurd (cc)
    kept (K n) q = refl
    kept (P t o) q = absurd (cc)
    kept (B o a b) q = absurd (cc)

    the_one : (v : V) → v_eq v (X j) ≡ true → u.var j ≡ eval u v
    the_one (X i) q = ap u.var (sym (eqb-true i j q))
    the_one (K n) q = absurd (cc)
    the_one (P t o) q = absurd (cc)
    the_one (B o a b) q = absurd (cc)

    there : addr u w.at ≡ addr e w.at
    there =
        let tag : w.at.tag ≡ top_tag = eqb-true w.at.tag top_tag (and_left (w.at.tag == top_tag) _ (and_left _ (is_alone l j ws) h)) in
        ap (λ t. (u.base t + w.at.off) % M) tag ∙ ap (λ a. (a + w.at.off) % M) same ∙ ap (λ t. (e.base t + w.at.off) % M) (sym tag)

    one : (b : Bool) → loc_eq w.at l ≡ b → (if b then v_eq w.val (X j) else is_other j w.val) ≡ true
        → put_at m (addr e l) (u.var j) (addr u w.at) ≡ eval u w.val
    one true q r = ap (put_at m (addr e l) (u.var j)) (there ∙ ap (addr e) (loc_same w.at l q)) ∙ put_same m (addr e l) (u.var j) ∙ the_one w.val r
    one false q r = ap (put_at m (addr e l) (u.var j)) there ∙ put_other m (addr e l) (u.var j) (addr e w.at) (sep w.at l k.0 inside q) ∙ k.1
        ∙ kept w.val r

-- ---- the saved area's words

-- the variable of a register of the task, and that of its RIP
unfoldable pub variable_of : ℕ → ℕ
variable_of r = if r == 4 then 20 else 30 + r

abbrev pub rip_variable : ℕ
rip_variable = 17

-- the place so many bytes above RSP
abbrev pub saved_at : Mode → ℕ → Loc
saved_at mode o = at_base 16 (M - body_bytes (layout_of mode) + o)

-- whether a word that is found is the variable
abbrev is_variable : ℕ → Option V → Bool
is_variable j None = false
is_variable j (Some v) = v_eq v (X j)

-- a test of a word of the area: it has this variable, and no other one has
abbrev is_saved : Mode → ℕ → ℕ → Bool
is_saved mode o j =
    nat_lt o 0xb0 && (in_win (known_of mode) (saved_at mode o)
    && (is_variable j (find (saved_at mode o) (opening_of mode).words) && is_alone (saved_at mode o) j (opening_of mode).words))

-- what the test gives
pub record IsSavedWord (mode : Mode) (o j : ℕ) : Type 0 where
  pub small : o < 0xb0
  pub inside : in_win (known_of mode) (saved_at mode o) ≡ true
  pub found : is_variable j (find (saved_at mode o) (opening_of mode).words) ≡ true
  pub alone : is_alone (saved_at mode o) j (opening_of mode).words ≡ true

tested : (mode : Mode) (o j : ℕ) → is_saved mode o j ≡ true → IsSavedWord mode o j
tested mode o j h =
    let rest = and_right (nat_lt o 0xb0) _ h in
    let more = and_right (in_win (known_of mode) (saved_at mode o)) _ rest in
    record {
      small = ltb-true o 0xb0 (and_left _ _ h);
      inside = and_left _ _ rest;
      found = and_left _ _ more;
      alone = and_right (is_variable j (find (saved_at mode o) (opening_of mode).words)) _ more;
    }

-- each number below sixteen
pub each_below : (Q : ℕ → Type 0) → Q 0 → Q 1 → Q 2 → Q 3 → Q 4 → Q 5 → Q 6 → Q 7 → Q 8 → Q 9 → Q 10 → Q 11 → Q 12 → Q 13 → Q 14 → Q 15
    → (r : ℕ) → r < 16 → Q r
each_below Q z0 z1 z2 z3 z4 z5 z6 z7 z8 z9 z10 z11 z12 z13 z14 z15 zero q = z0
each_below Q z0 z1 z2 z3 z4 z5 z6 z7 z8 z9 z10 z11 z12 z13 z14 z15 (suc zero) q = z1
each_below Q z0 z1 z2 z3 z4 z5 z6 z7 z8 z9 z10 z11 z12 z13 z14 z15 (suc (suc zero)) q = z2
each_below Q z0 z1 z2 z3 z4 z5 z6 z7 z8 z9 z10 z11 z12 z13 z14 z15 (suc (suc (suc zero))) q = z3
each_below Q z0 z1 z2 z3 z4 z5 z6 z7 z8 z9 z10 z11 z12 z13 z14 z15 (suc (suc (suc (suc zero)))) q = z4
each_below Q z0 z1 z2 z3 z4 z5 z6 z7 z8 z9 z10 z11 z12 z13 z14 z15 (suc (suc (suc (suc (suc zero))))) q = z5
each_below Q z0 z1 z2 z3 z4 z5 z6 z7 z8 z9 z10 z11 z12 z13 z14 z15 (suc (suc (suc (suc (suc (suc zero)))))) q = z6
each_below Q z0 z1 z2 z3 z4 z5 z6 z7 z8 z9 z10 z11 z12 z13 z14 z15 (suc (suc (suc (suc (suc (suc (suc zero))))))) q = z7
each_below Q z0 z1 z2 z3 z4 z5 z6 z7 z8 z9 z10 z11 z12 z13 z14 z15 (suc (suc (suc (suc (suc (suc (suc (suc zero)))))))) q = z8
each_below Q z0 z1 z2 z3 z4 z5 z6 z7 z8 z9 z10 z11 z12 z13 z14 z15 (suc (suc (suc (suc (suc (suc (suc (suc (suc zero))))))))) q = z9
each_below Q z0 z1 z2 z3 z4 z5 z6 z7 z8 z9 z10 z11 z12 z13 z14 z15 (suc (suc (suc (suc (suc (suc (suc (suc (suc (suc zero)))))))))) q = z10
each_below Q z0 z1 z2 z3 z4 z5 z6 z7 z8 z9 z10 z11 z12 z13 z14 z15 (suc (suc (suc (suc (suc (suc (suc (suc (suc (suc (suc zero))))))))))) q = z11
each_below Q z0 z1 z2 z3 z4 z5 z6 z7 z8 z9 z10 z11 z12 z13 z14 z15 (suc (suc (suc (suc (suc (suc (suc (suc (suc (suc (suc (suc zero)))))))))))) q = z12
each_below Q z0 z1 z2 z3 z4 z5 z6 z7 z8 z9 z10 z11 z12 z13 z14 z15 (suc (suc (suc (suc (suc (suc (suc (suc (suc (suc (suc (suc (suc zero))))))))))))) q = z13
each_below Q z0 z1 z2 z3 z4 z5 z6 z7 z8 z9 z10 z11 z12 z13 z14 z15 (suc (suc (suc (suc (suc (suc (suc (suc (suc (suc (suc (suc (suc (suc zero)))))))))))))) q
    = z14
each_below Q z0 z1 z2 z3 z4 z5 z6 z7 z8 z9 z10 z11 z12 z13 z14 z15 (suc (suc (suc (suc (suc
    (suc (suc (suc (suc (suc (suc (suc (suc (suc (suc zero))))))))))))))) q = z15
each_below Q z0 z1 z2 z3 z4 z5 z6 z7 z8 z9 z10 z11 z12 z13 z14 z15 _ q = absurd (omega arith)

register_saved : (mode : Mode) (r : ℕ) → r < 16 → is_saved mode (saved_offset r) (variable_of r) ≡ true
unfolding saved_offset variable_of
register_saved Fred r h = each_below (λ r. is_saved Fred (saved_offset r) (variable_of r) ≡ true)
    refl refl refl refl refl refl refl refl refl refl refl refl refl refl refl refl r h
register_saved Idt r h = each_below (λ r. is_saved Idt (saved_offset r) (variable_of r) ≡ true)
    refl refl refl refl refl refl refl refl refl refl refl refl refl refl refl refl r h

pub saved_register : (mode : Mode) (r : ℕ) → r < 16 → IsSavedWord mode (saved_offset r) (variable_of r)
saved_register mode r h = tested mode (saved_offset r) (variable_of r) (register_saved mode r h)

pub saved_place : (mode : Mode) → IsSavedWord mode saved_rip rip_variable
saved_place Fred = tested Fred saved_rip rip_variable refl
saved_place Idt = tested Idt saved_rip rip_variable refl

-- CS, RFLAGS and SS of its frame
pub saved_ring : (mode : Mode) → IsSavedWord mode saved_cs 18
saved_ring Fred = tested Fred saved_cs 18 refl
saved_ring Idt = tested Idt saved_cs 18 refl

pub saved_status : (mode : Mode) → IsSavedWord mode saved_flags 19
saved_status Fred = tested Fred saved_flags 19 refl
saved_status Idt = tested Idt saved_flags 19 refl

pub saved_stack : (mode : Mode) → IsSavedWord mode saved_ss 21
saved_stack Fred = tested Fred saved_ss 21 refl
saved_stack Idt = tested Idt saved_ss 21 refl

-- ---- reading and writing them

-- another number for one variable
abbrev pub with_variable : (j x : ℕ) → (ℕ → ℕ) → ℕ → ℕ
with_variable j x v i = if i == j then x else v i

pub the_variable : (j x : ℕ) (v : ℕ → ℕ) → with_variable j x v j ≡ x
the_variable j x v = ap (λ b. if b then x else v j) (eq-eqb j j refl)

pub another_variable : (j x : ℕ) (v : ℕ → ℕ) (i : ℕ) → (i ≡ j → ⊥) → with_variable j x v i ≡ v i
another_variable j x v i d = ap (λ b. if b then x else v i) (ne_eqb i j d)

-- what stands there
pub saved_is : (mode : Mode) (e : Env) (m : NatMap ℕ) (o j : ℕ) → IsSavedWord mode o j → Known e (known_of mode) m (opening_of mode).words
    → m (addr e (saved_at mode o)) ≡ e.var j
unfolding eval
saved_is mode e m o j h k =
    one (find (saved_at mode o) (opening_of mode).words) h.found (found_ok e (known_of mode) m (saved_at mode o) (opening_of mode).words k)
  where
    one : (x : Option V) → is_variable j x ≡ true → Found e (known_of mode) m (saved_at mode o) x → m (addr e (saved_at mode o)) ≡ e.var j
    one None q f = absurd (cc)
    one (Some (X i)) q f = f.1 ∙ ap e.var (eqb-true i j q)
    one (Some (K n)) q f = absurd (cc)
    one (Some (P t n)) q f = absurd (cc)
    one (Some (B n a b)) q f = absurd (cc)

-- its address, from RSP
pub saved_address : (mode : Mode) (e : Env) (rsp o : ℕ) → o < 0xb0 → rsp ≡ eval e (top_less (body_bytes (layout_of mode)))
    → displaced rsp (pos o) ≡ addr e (saved_at mode o)
unfolding eval
saved_address Fred e rsp o h q = ap (λ a. displaced a (pos o)) q ∙ (let z : ((e.base 16 + (M - 0xc0)) % M + o) % M ≡ (e.base 16 + (M - 0xc0 + o)) % M
    = omega arith in z)
saved_address Idt e rsp o h q = ap (λ a. displaced a (pos o)) q ∙ (let z : ((e.base 16 + (M - 0xb0)) % M + o) % M ≡ (e.base 16 + (M - 0xb0 + o)) % M
    = omega arith in z)

-- ---- what the activation returns to, behind a write

-- a register's variable is none of the frame's other ones
pub register_range : (r : ℕ) → r < 16 → (variable_of r ≡ 20) ⊎ ((30 ≤ variable_of r) × (variable_of r < 46))
unfolding variable_of
register_range r h = pick (r == 4)
  where
    pick : (b : Bool) → ((if b then 20 else 30 + r) ≡ 20) ⊎ ((30 ≤ (if b then 20 else 30 + r)) × ((if b then 20 else 30 + r) < 46))
    pick true = inl refl
    pick false = inr (omega arith, omega arith)

-- the registers that the variables give
abbrev pub saved_registers : (ℕ → ℕ) → List ℕ
saved_registers v =
    v 30 ∷ v 31 ∷ v 32 ∷ v 33 ∷ v 20 ∷ v 35 ∷ v 36 ∷ v 37 ∷ v 38 ∷ v 39 ∷ v 40 ∷ v 41 ∷ v 42 ∷ v 43 ∷ v 44 ∷ v 45 ∷ []

register_set : (x : ℕ) (v : ℕ → ℕ) (r : ℕ) → r < 16 → set (saved_registers v) r x ≡ saved_registers (with_variable (variable_of r) x v)
unfolding variable_of
register_set x v r h = each_below (λ r. set (saved_registers v) r x ≡ saved_registers (with_variable (variable_of r) x v))
    refl refl refl refl refl refl refl refl refl refl refl refl refl refl refl refl r h

pub saved_with_register : (mode : Mode) (image : Image) (v : ℕ → ℕ) (w : Processor) (r x : ℕ) → r < 16 → Saved mode image v w
    → Saved mode image (with_variable (variable_of r) x v) (record w { regs = set w.regs r x })
saved_with_register mode image v w r x h s = record {
  regs = ap (λ (xs : List ℕ). set xs r x) s.regs ∙ register_set x v r h;
  rip = beside 17 (omega arith) (omega arith) ∙ s.rip;
  cs = ap selector (beside 18 (omega arith) (omega arith)) ∙ s.cs;
  flags = beside 19 (omega arith) (omega arith) ∙ s.flags;
  ss = ap selector (beside 21 (omega arith) (omega arith)) ∙ s.ss;
  sti = ap (bit 16) (beside 21 (omega arith) (omega arith)) ∙ s.sti;
  gs = beyond 60 (omega arith) ∙ s.gs;
  chosen = beyond 61 (omega arith) ∙ s.chosen;
  level = beyond 63 (omega arith) ∙ s.level;
}
  where
    beside : (i : ℕ) → i < 30 → (i ≡ 20 → ⊥) → with_variable (variable_of r) x v i ≡ v i
    beside i l d = another_variable (variable_of r) x v i
        (λ e. ⊎_elim (λ q. d (e ∙ q)) (λ q. let z = q.0 in omega arith) (register_range r h))

    beyond : (i : ℕ) → 46 ≤ i → with_variable (variable_of r) x v i ≡ v i
    beyond i l = another_variable (variable_of r) x v i
        (λ e. ⊎_elim (λ q. let z : variable_of r ≡ 20 = q in omega arith) (λ q. let z = q.1 in omega arith) (register_range r h))

pub saved_with_rip : (mode : Mode) (image : Image) (v : ℕ → ℕ) (w : Processor) (a : ℕ) → Saved mode image v w
    → Saved mode image (with_variable rip_variable a v) (record w { rip = a })
saved_with_rip mode image v w a s = record {
  regs = s.regs;
  rip = refl;
  cs = s.cs;
  flags = s.flags;
  ss = s.ss;
  sti = s.sti;
  gs = s.gs;
  chosen = s.chosen;
  level = s.level;
}
