-- Runs of edges: one more, and their end.
use Rattle.std.proofs.Common.{◌≡◌, ℕ, zero, suc, ◌≤◌, Bool, true, false, List, [], ◌∷◌, ◌++◌, append_assoc, ap, refl, sym, ◌∙◌, subst, arith}
use Rattle.ev_event.specs.declared.frame_note.FrameNote.{FrameNote}
use Rattle.ev_concrete.specs.ConcreteRun.{System, Marks, is_visible, concrete_step, edges, with_frames}

append_nil : {X : Type 0} (xs : List X) → xs ++ [] ≡ xs
append_nil [] = refl
append_nil (x ∷ xs) = ap (λ ys. x ∷ ys) (append_nil xs)

module _ (marks : Marks) (n p : ℕ) where
  abbrev pub Ran : Type 0
  Ran = System × List FrameNote

  abbrev on : ℕ → System → Bool → Ran
  on k s b = elim b [ true ↦ (s, []) | false ↦ with_frames (concrete_step n s p).1 (edges k marks n (concrete_step n s p).0 p) ]

  unrolled : (k : ℕ) (s : System) → edges (suc k) marks n s p ≡ on k s (is_visible marks s p)
  unfolding edges
  unrolled k s = refl

  no_edges : (s : System) → edges 0 marks n s p ≡ (s, [])
  unfolding edges
  no_edges s = refl

  at_rest : (k : ℕ) (s : System) → is_visible marks s p ≡ true → edges k marks n s p ≡ (s, [])
  at_rest zero s h = no_edges s
  at_rest (suc k) s h = unrolled k s ∙ ap (on k s) h

  -- one more edge
  pub edges_more : (i : ℕ) (s : System) → is_visible marks (edges i marks n s p).0 p ≡ false
      → edges (suc i) marks n s p ≡ with_frames (edges i marks n s p).1 (concrete_step n (edges i marks n s p).0 p)
  edges_more zero s h =
      let seen : is_visible marks s p ≡ false = subst (λ (r : Ran). is_visible marks r.0 p ≡ false) (no_edges s) h in
      unrolled zero s ∙ ap (on zero s) seen ∙ ap (with_frames (concrete_step n s p).1) (no_edges (concrete_step n s p).0)
      ∙ ap (λ fs. ((concrete_step n s p).0, fs)) (append_nil (concrete_step n s p).1)
      ∙ sym (ap (λ (r : Ran). with_frames r.1 (concrete_step n r.0 p)) (no_edges s))
  edges_more (suc i) s h = pick (is_visible marks s p) refl (edges_more i (concrete_step n s p).0)
    where
      pick : (b : Bool) → is_visible marks s p ≡ b
          → (is_visible marks (edges i marks n (concrete_step n s p).0 p).0 p ≡ false
          → edges (suc i) marks n (concrete_step n s p).0 p ≡ with_frames (edges i marks n (concrete_step n s p).0 p).1
          (concrete_step n (edges i marks n (concrete_step n s p).0 p).0 p))
          → edges (suc (suc i)) marks n s p ≡ with_frames (edges (suc i) marks n s p).1 (concrete_step n (edges (suc i) marks n s p).0 p)
      pick true e next = absurd (let x : is_visible marks s p ≡ false = subst (λ (r : Ran). is_visible marks r.0 p ≡ false) (at_rest (suc i) s e) h in cc)
      pick false e next =
          let here : edges (suc i) marks n s p ≡ with_frames (concrete_step n s p).1 (edges i marks n (concrete_step n s p).0 p) =
          unrolled i s ∙ ap (on i s) e in
          let more = next (subst (λ (r : Ran). is_visible marks r.0 p ≡ false) here h) in
          unrolled (suc i) s ∙ ap (on (suc i) s) e ∙ ap (with_frames (concrete_step n s p).1) more
          ∙ (λ j. (
            (concrete_step n (edges i marks n (concrete_step n s p).0 p).0 p).0,
            sym
                (append_assoc (concrete_step n s p).1 (edges i marks n (concrete_step n s p).0 p).1
                (concrete_step n (edges i marks n (concrete_step n s p).0 p).0 p).1) j,
          ))
          ∙ sym (ap (λ (r : Ran). with_frames r.1 (concrete_step n r.0 p)) here)

  -- no more after a visible step
  pub edges_end : (i k : ℕ) (s : System) → i ≤ k → is_visible marks (edges i marks n s p).0 p ≡ true → edges k marks n s p ≡ edges i marks n s p
  edges_end zero k s l h = at_rest k s (subst (λ (r : Ran). is_visible marks r.0 p ≡ true) (no_edges s) h) ∙ sym (no_edges s)
  edges_end (suc i) zero s l h = absurd (omega arith)
  edges_end (suc i) (suc k) s l h = pick (is_visible marks s p) refl (edges_end i k (concrete_step n s p).0 (omega arith))
    where
      pick : (b : Bool) → is_visible marks s p ≡ b
          → (is_visible marks (edges i marks n (concrete_step n s p).0 p).0 p ≡ true
          → edges k marks n (concrete_step n s p).0 p ≡ edges i marks n (concrete_step n s p).0 p)
          → edges (suc k) marks n s p ≡ edges (suc i) marks n s p
      pick true e next = at_rest (suc k) s e ∙ sym (at_rest (suc i) s e)
      pick false e next =
          let here : edges (suc i) marks n s p ≡ with_frames (concrete_step n s p).1 (edges i marks n (concrete_step n s p).0 p) =
          unrolled i s ∙ ap (on i s) e in
          unrolled k s ∙ ap (on k s) e ∙ ap (with_frames (concrete_step n s p).1) (next (subst (λ (r : Ran). is_visible marks r.0 p ≡ true) here h)) ∙ sym here
