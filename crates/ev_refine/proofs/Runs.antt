-- From single steps to edges, turns and scripts: inductions over the step theorem.
use Rattle.std.proofs.Common.{◌≡◌, ◌≢◌, ℕ, zero, suc, ◌+◌, ◌<◌, ◌≤◌, ◌⊎◌, inl, inr, ⊎_elim, Bool, true, false, ◌&&◌, List, [], ◌∷◌, ◌++◌, length, Some, None, refl, sym, ap, ◌∙◌, subst, arith}
use Rattle.std.specs.Prelude.{if◌then◌else◌, nat_le, nat_lt}
use Rattle.std.specs.List.{list_all}
use Rattle.std.proofs.lemmas.Bool.{ltb-true}
use Rattle.std.proofs.lemmas.Bool.Decides.{eqb_tells, leb_tells}
use Rattle.std.proofs.lemmas.List.{length-append}
use Rattle.ev_isa.specs.Word.{NatMap, numbers_from}
use Rattle.ev_isa.specs.declared.mode.Mode.{Mode}
use Rattle.ev_event.specs.declared.frame_note.FrameNote.{FrameNote}
use Rattle.ev_body.specs.declared.key.Key.{Key}
use Rattle.ev_body.specs.declared.key.Key.TheVariants.{Irq}
use Rattle.ev_body.specs.WellFormed.{is_sendable}
use Rattle.ev_body.specs.declared.image.Image.{Image}
use Rattle.ev_abstract.specs.Machine.{Machine}
use Rattle.ev_abstract.specs.Run.{turn, line_step, after}
use Rattle.ev_abstract.specs.Script.{IsScript, has_body_of, is_line}
use Rattle.ev_abstract.specs.declared.script_line.Line.{Line}
use Rattle.ev_abstract.specs.declared.script_line.Line.TheVariants.{Turn, Edge, Arrive, Accept}
use Rattle.ev_proc.specs.ProcessorStep.{After, step}
use Rattle.ev_proc.specs.declared.stepped.Stepped.{Stepped}
use Rattle.ev_concrete.specs.ConcreteRun.{System, Marks, marks_of, is_visible, acted, after_step, concrete_step, targets, edges, with_frames, settled, all_settled, concrete_line, concrete_lines, arrived_at, accept_mail}
use Rattle.ev_built.specs.Built.{line_is_built}
use Rattle.ev_relation.specs.Relation.{Stands}
use Rattle.ev_relation.proofs.Standing.{posted_keeps}
use Rattle.ev_relation.specs.Step.{EdgeWrites, MakesEdge, MakesTurn, Simulated}
use Rattle.ev_refine.specs.Claims.{Settles, Turns, SettledFirst}

one : (b : Bool) (c : Bool) → (b && c) ≡ true → b ≡ true
one true c h = refl
one false c h = h

two : (b : Bool) (c : Bool) → (b && c) ≡ true → c ≡ true
two true c h = h
two false c h = absurd (cc)

-- ---- frames

-- a step writes at most one frame
act_few : (n : ℕ) (s : System) (p : ℕ) (st : Stepped) → length (acted n s p st).1 ≤ 1
act_few n s p Stepped.Ran = omega arith
act_few n s p Stepped.Shutdown = omega arith
act_few n s p (Stepped.Sent m) = omega arith
act_few n s p (Stepped.Delivered x None) = omega arith
act_few n s p (Stepped.Delivered x (Some a)) = omega arith

step_few : (n : ℕ) (s : System) (p : ℕ) → length (concrete_step n s p).1 ≤ 1
unfolding concrete_step
step_few n s p = let r : After = step (s.cpus p) (s.apics p) s.memory (s.latches p) in act_few n (after_step s p r) p r.step

-- the edges of a processor may still write so many frames, by its NMI latch
abbrev frames_left : Bool → ℕ
frames_left latch = if latch then 1 else 0

one_edge : (latch now : Bool) (fs gs : List FrameNote) → EdgeWrites latch now fs → length gs ≤ frames_left now → length (fs ++ gs) ≤ frames_left latch
one_edge latch now fs gs (inl e) h =
    subst (λ (xs : List FrameNote). length (xs ++ gs) ≤ frames_left latch) (sym e.0) (subst (λ b. length gs ≤ frames_left b) e.1 h)
one_edge latch now fs gs (inr e) h =
    let none : length gs ≤ 0 = subst (λ b. length gs ≤ frames_left b) e.2 h in
    subst (λ b. length (fs ++ gs) ≤ frames_left b) (sym e.1) (let same = length-append fs gs in let w = e.0 in omega arith)

at_most_one : (latch : Bool) (n : ℕ) → n ≤ frames_left latch → n ≤ 1
at_most_one true n h = h
at_most_one false n h = omega arith

-- ---- totals

-- a step counts as one
step_counts : (n : ℕ) (s : System) (p : ℕ) → (concrete_step n s p).0.totals.steps ≡ suc s.totals.steps
unfolding concrete_step
step_counts n s p = let r : After = step (s.cpus p) (s.apics p) s.memory (s.latches p) in by_act (after_step s p r) r.step
  where
    by_act : (t : System) (st : Stepped) → (acted n t p st).0.totals.steps ≡ t.totals.steps
    by_act t Stepped.Ran = refl
    by_act t Stepped.Shutdown = refl
    by_act t (Stepped.Sent m) = ap (λ (x : System). x.totals.steps) (posted_keeps t m.key (targets n p m.target))
    by_act t (Stepped.Delivered x None) = refl
    by_act t (Stepped.Delivered x (Some a)) = refl

module _ (mode : Mode) (image : Image) where
  abbrev Follows : NatMap ℕ → System → Machine → Type 0
  Follows left s m = Stands mode image left s m

  abbrev marks : Marks
  marks = marks_of mode image

  abbrev edges_of : ℕ → System → ℕ → System × List FrameNote
  edges_of k s p = edges k marks image.processors s p

  abbrev step_of : System → ℕ → System × List FrameNote
  step_of s p = concrete_step image.processors s p

  -- ---- edges

  abbrev choose : ℕ → System → ℕ → Bool → System × List FrameNote
  choose k s p b = elim b [ true ↦ (s, []) | false ↦ with_frames (step_of s p).1 (edges_of k (step_of s p).0 p) ]

  unrolled : (k : ℕ) (s : System) (p : ℕ) → edges_of (suc k) s p ≡ choose k s p (is_visible marks s p)
  unfolding edges
  unrolled k s p = refl

  no_edges : (s : System) (p : ℕ) → edges_of 0 s p ≡ (s, [])
  unfolding edges
  no_edges s p = refl

  -- each of them counts at most as one step
  edges_count : (k : ℕ) (s : System) (p : ℕ) → (edges_of k s p).0.totals.steps ≤ s.totals.steps + k
  edges_count zero s p = subst (λ (x : System × List FrameNote). x.0.totals.steps ≤ s.totals.steps + 0) (sym (no_edges s p)) (omega arith)
  edges_count (suc k) s p = subst (λ (x : System × List FrameNote). x.0.totals.steps ≤ s.totals.steps + suc k) (sym (unrolled k s p))
      (chosen (is_visible marks s p) (edges_count k (step_of s p).0 p))
    where
      chosen : (b : Bool) → (edges_of k (step_of s p).0 p).0.totals.steps ≤ (step_of s p).0.totals.steps + k
          → (choose k s p b).0.totals.steps ≤ s.totals.steps + suc k
      chosen true rest = omega arith
      chosen false rest = let one = step_counts image.processors s p in omega (arith, one, rest)

  -- so many edges, counted at most
  record Edges (k : ℕ) (left : NatMap ℕ) (s : System) (m : Machine) (p : ℕ) : Type 0 where
    pub now : NatMap ℕ
    pub stands : Follows now (edges_of k s p).0 m
    pub few : length (edges_of k s p).1 ≤ frames_left (s.latches p)
    pub seen : left p ≤ k → is_visible marks (edges_of k s p).0 p ≡ true
    pub others : (q : ℕ) → q < image.processors → p ≢ q → is_visible marks (edges_of k s p).0 q ≡ is_visible marks s q

  module _ (step : (left : NatMap ℕ) (s : System) (m : Machine) → Stands mode image left s m → (p : ℕ) → p < image.processors
      → Simulated mode image left s m p) (keeps : (left : NatMap ℕ) (s : System) (m : Machine) → Stands mode image left s m → (p q : ℕ)
      → p < image.processors → q < image.processors → p ≢ q
      → is_visible (marks_of mode image) s p ≡ false
      → is_visible (marks_of mode image) (concrete_step image.processors s p).0 q ≡ is_visible (marks_of mode image) s q) where
    make_edges : (k : ℕ) (left : NatMap ℕ) (s : System) (m : Machine) → Follows left s m → (p : ℕ) → p < image.processors → Edges k left s m p
    make_edges zero left s m r p lt = record {
      now = left;
      stands = subst (λ (x : System × List FrameNote). Follows left x.0 m) (sym (no_edges s p)) r;
      few = subst (λ (x : System × List FrameNote). length x.1 ≤ frames_left (s.latches p)) (sym (no_edges s p)) (omega arith);
      seen = λ h. subst (λ (x : System × List FrameNote). is_visible marks x.0 p ≡ true) (sym (no_edges s p))
          (⊎_elim (λ e. absurd (let z : e.now p < left p = e.fewer in omega arith)) (λ t. t.seen) (step left s m r p lt).how);
      others = λ q lt' d. ap (λ (x : System × List FrameNote). is_visible marks x.0 q) (no_edges s p);
    }
    make_edges (suc k) left s m r p lt = go (step left s m r p lt).how (make_edges k)
      where
        go : MakesEdge mode image left s m p ⊎ MakesTurn mode image left s m p
            → ((left : NatMap ℕ) (s : System) (m : Machine) → Follows left s m → (p : ℕ) → p < image.processors → Edges k left s m p)
            → Edges (suc k) left s m p
        go (inl e) next =
            let x = next e.now (step_of s p).0 m e.stands p lt in
            let is : edges_of (suc k) s p ≡ with_frames (step_of s p).1 (edges_of k (step_of s p).0 p) = unrolled k s p ∙ ap (choose k s p) e.hidden in record {
              now = x.now;
              stands = subst (λ (y : System × List FrameNote). Follows x.now y.0 m) (sym is) x.stands;
              few = subst (λ (y : System × List FrameNote). length y.1 ≤ frames_left (s.latches p)) (sym is)
                  (one_edge (s.latches p) ((step_of s p).0.latches p) (step_of s p).1 (edges_of k (step_of s p).0 p).1 e.writes x.few);
              seen = λ h. subst (λ (y : System × List FrameNote). is_visible marks y.0 p ≡ true) (sym is)
                  (x.seen (let z : e.now p < left p = e.fewer in omega arith));
              others = λ q lt' d. ap (λ (y : System × List FrameNote). is_visible marks y.0 q) is ∙ x.others q lt' d
                  ∙ keeps left s m r p q lt lt' d e.hidden;
            }
        go (inr t) next =
            let is : edges_of (suc k) s p ≡ (s, []) = unrolled k s p ∙ ap (choose k s p) t.seen in record {
              now = left;
              stands = subst (λ (y : System × List FrameNote). Follows left y.0 m) (sym is) r;
              few = subst (λ (y : System × List FrameNote). length y.1 ≤ frames_left (s.latches p)) (sym is) (omega arith);
              seen = λ h. subst (λ (y : System × List FrameNote). is_visible marks y.0 p ≡ true) (sym is) t.seen;
              others = λ q lt' d. ap (λ (y : System × List FrameNote). is_visible marks y.0 q) is;
            }

    pub settles : (left : NatMap ℕ) (s : System) (m : Machine) → Follows left s m → (p : ℕ) → p < image.processors → Settles mode image left s m p
    settles left s m r p lt = record {
      after = λ k. let e = make_edges k left s m r p lt in (e.now, e.stands);
      few = λ k. at_most_one (s.latches p) _ (make_edges k left s m r p lt).few;
      safe = λ k. let e = make_edges k left s m r p lt in (step e.now (edges_of k s p).0 m e.stands p lt).safe;
      counts = λ k. let e = make_edges k left s m r p lt in (step e.now (edges_of k s p).0 m e.stands p lt).counts;
      seen = λ k. (make_edges k left s m r p lt).seen;
      others = λ k. (make_edges k left s m r p lt).others;
      bounded = let few : left p ≤ 660 = (r.each p lt).few in omega arith;
    }

    -- ---- turns and scripts

    pub turn_follows : (left : NatMap ℕ) (s : System) (m : Machine) → Follows left s m → (p : ℕ) → p < image.processors → Turns mode image s m p
    turn_follows left s m r p lt = go (step e.now there m e.stands p lt).how
      where
        there : System
        there = (settled marks image.processors s p).0

        e : Edges 1024 left s m p
        e = make_edges 1024 left s m r p lt

        go : MakesEdge mode image e.now there m p ⊎ MakesTurn mode image e.now there m p → Turns mode image s m p
        go (inl x) = absurd (let few : left p ≤ 660 = (r.each p lt).few in let clash : true ≡ false = sym (e.seen (omega arith)) ∙ x.hidden in cc)
        go (inr x) = record {
          now = x.now;
          stands = x.stands;
          entries = λ few. x.entries (let many = edges_count 1024 s p in omega (arith, few, many));
          few = let a = at_most_one (s.latches p) _ e.few in let b = step_few image.processors there p in
              let same = length-append (settled marks image.processors s p).1 (step_of there p).1 in omega arith;
        }

    -- what each arrival of an interrupt keeps
    abbrev pub ArrivalsStand : Type 0
    ArrivalsStand = (left : NatMap ℕ) (s : System) (m : Machine) → Follows left s m → (p v : ℕ) → p < image.processors → v < 256
        → is_line image (Arrive p (Irq v)) ≡ true → Follows left (arrived_at s p (Irq v)) (line_step image m (Arrive p (Irq v))).0

    -- and each acceptance of mail
    abbrev pub AcceptancesStand : Type 0
    AcceptancesStand = (left : NatMap ℕ) (s : System) (m : Machine) → Follows left s m → (p : ℕ) → p < image.processors → is_line image (Accept p) ≡ true
        → Follows left (accept_mail s p) (line_step image m (Accept p)).0

    pub lines_follow : ArrivalsStand → AcceptancesStand → (script : List Line) (left : NatMap ℕ) (s : System) (m : Machine) → Follows left s m
        → IsScript image script
        → list_all line_is_built script ≡ true
        → (now : NatMap ℕ) × Follows now (concrete_lines marks image.processors s script).0 (after image m script)
    unfolding concrete_line line_step is_line line_is_built
    lines_follow arrivals acceptances [] left s m r i b = (left, r)
    lines_follow arrivals acceptances (l ∷ ls) left s m r i b = line l (one (is_line image l) _ i) (one (line_is_built l) _ b) (two (is_line image l) _ i)
        (two (line_is_built l) _ b) (lines_follow arrivals acceptances ls)
      where
        Rest : Type 0
        Rest = (left : NatMap ℕ) (s : System) (m : Machine) → Follows left s m → IsScript image ls → list_all line_is_built ls ≡ true
            → (now : NatMap ℕ) × Follows now (concrete_lines marks image.processors s ls).0 (after image m ls)

        line : (l : Line) → is_line image l ≡ true → line_is_built l ≡ true → IsScript image ls → list_all line_is_built ls ≡ true → Rest
            → (now : NatMap ℕ) × Follows now (concrete_lines marks image.processors s (l ∷ ls)).0 (after image m (l ∷ ls))
        line (Turn p) h g i b next =
            let x = turn_follows left s m r p (ltb-true p image.processors h) in next x.now _ (turn image m p).0 x.stands i b
        line (Edge p n) h g i b next = absurd (cc)
        line (Arrive p (Irq v)) h g i b next =
            let front = one (nat_lt p image.processors && is_sendable (Irq v)) (has_body_of image (Irq v)) h in
            let place = ltb-true p image.processors (one (nat_lt p image.processors) (is_sendable (Irq v)) front) in
            let sendable = two (nat_lt p image.processors) (is_sendable (Irq v)) front in
            next left _ _ (arrivals left s m r p v place (ltb-true v 0x100 (two (nat_le 0x20 v) (nat_lt v 0x100) sendable)) h) i b
        line (Arrive p Key.Sys) h g i b next = absurd (cc)
        line (Arrive p Key.Db) h g i b next = absurd (cc)
        line (Arrive p Key.Nmi) h g i b next = absurd (cc)
        line (Arrive p Key.Bp) h g i b next = absurd (cc)
        line (Arrive p Key.Ud) h g i b next = absurd (cc)
        line (Arrive p Key.Ss) h g i b next = absurd (cc)
        line (Arrive p Key.Gp) h g i b next = absurd (cc)
        line (Arrive p Key.Pf) h g i b next = absurd (cc)
        line (Arrive p Key.Ac) h g i b next = absurd (cc)
        line (Accept p) h g i b next = next left _ _ (acceptances left s m r p (ltb-true p image.processors h) h) i b

    -- ---- settling

    -- so many processors from number a on
    record SettledFrom (a k : ℕ) (s : System) (m : Machine) : Type 0 where
      pub left : NatMap ℕ
      pub stands : Follows left (all_settled marks image.processors s (numbers_from a k)).0 m
      pub others : (p : ℕ) → p < image.processors → p < a
          → is_visible marks (all_settled marks image.processors s (numbers_from a k)).0 p ≡ is_visible marks s p
      pub seen : (p : ℕ) → a ≤ p → p < a + k → is_visible marks (all_settled marks image.processors s (numbers_from a k)).0 p ≡ true

    settled_from : (k a : ℕ) (left : NatMap ℕ) (s : System) (m : Machine) → Follows left s m → a + k ≤ image.processors → SettledFrom a k s m
    settled_from zero a left s m r h = record { left = left; stands = r; others = λ p lt b. refl; seen = λ p b lt. absurd (omega arith) }
    settled_from (suc k) a left s m r h =
        let lt : a < image.processors = omega arith in
        let e : Edges 1024 left s m a = make_edges 1024 left s m r a lt in
        let there : System = (settled marks image.processors s a).0 in
        let rest : SettledFrom (suc a) k there m = settled_from k (suc a) e.now there m e.stands (omega arith) in record {
          left = rest.left;
          stands = rest.stands;
          others = λ p lt' b. rest.others p lt' (omega arith) ∙ e.others p lt' (λ q. omega arith);
          seen = λ p b b'. ⊎_elim
              (λ x. ap (is_visible marks (all_settled marks image.processors there (numbers_from (suc a) k)).0) x.1
              ∙ rest.others a lt (omega arith) ∙ e.seen (let few : left a ≤ 660 = (r.each a lt).few in omega arith))
              (λ x. rest.seen p (let d = x.1 in le_next a p b d) (omega arith)) (eqb_tells p a);
        }
      where
        le_next : (a p : ℕ) → a ≤ p → (p ≡ a → ⊥) → suc a ≤ p
        le_next a p b d = ⊎_elim (λ x. absurd (d (let y = x.1 in omega arith))) (λ x. let y = x.1 in omega arith) (leb_tells p a)

    pub settled_first : (q : ℕ) (left : NatMap ℕ) (s : System) (m : Machine) → Follows left s m → q ≤ image.processors → SettledFirst mode image s m q
    settled_first q left s m r h =
        let e : SettledFrom 0 q s m = settled_from q 0 left s m r (omega arith) in
        record { left = e.left; stands = e.stands; seen = λ p lt. e.seen p (omega arith) (omega arith) }
