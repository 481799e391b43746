-- The opening, runs, and the chains of bodies.
use Rattle.std.specs.Prelude.{Bool, ◌≡◌, refl, ℕ, ◌≤◌, ◌⊎◌, true, nat_lt, List, [], ◌∷◌, length, Option}
use Rattle.std.specs.List.{list_all}
use Rattle.std.proofs.Common.{arith, ap, sym, subst, inl, inr}
use Rattle.std.proofs.lemmas.Bool.{and_parts, and_from, lt-ltb}
use Rattle.std.proofs.lemmas.Option.{slice_get_within}
use Rattle.ev_body.specs.declared.body.Body.{Body}
use Rattle.ev_body.specs.declared.image.Image.{Image}
use Rattle.ev_body.specs.WellFormed.{IsImage}
use Rattle.ev_abstract.specs.Context.{CallId, BodyContext}
use Rattle.ev_abstract.specs.Machine.{Machine, processor, opening}
use Rattle.ev_abstract.specs.Accepted.{IsAccepted, IsAcceptedWith}
use Rattle.ev_abstract.specs.Chain.{IsChain, is_legal, bodies_of, cons_body}
use Rattle.ev_abstract.specs.Claims.{standing_bodies}
use Rattle.ev_abstract.specs.Script.{is_line, IsScript}
use Rattle.ev_abstract.specs.declared.script_line.Line.{Line}
use Rattle.ev_abstract.specs.Run.{line_step, after, run}
use Rattle.ev_law.specs.Legal.{AreLegal, Legal, knows, numbers}
use Rattle.ev_abstract.specs.Claims.{ChainsAreLegal, DepthIsBounded}
use Rattle.ev_law.specs.Laws.{OpeningIsLegal, RunsAreLegal, NestIsEnough}
use Rattle.ev_law.proofs.Lines.{lines_keep_legal}

pub opening_is_legal : OpeningIsLegal
unfolding opening
opening_is_legal image = record {
  each = λ p. record {
    bodies = tt;
    pending = record { each = λ v e. absurd (cc) };
    mail = record { each = λ v e. absurd (cc) };
    nmi = λ e. absurd (cc);
    queue = refl;
  };
}

after_is_legal : (image : Image) (m : Machine) (script : List Line) → IsImage image → IsAccepted image → list_all (is_line image) script ≡ true
    → Legal image m → Legal image (after image m script)
after_is_legal image m [] is accepted s h = h
after_is_legal image m (l ∷ ls) is accepted s h = let k = and_parts (is_line image l) _ s in
    after_is_legal image (line_step image m l).0 ls is accepted k.1 (lines_keep_legal image m l is accepted k.0 h)

pub runs_are_legal : RunsAreLegal
runs_are_legal image script is accepted s = after_is_legal image (opening image) script is accepted s (opening_is_legal image)

-- ---- chains

numbers_fit : (image : Image) (known : CallId → Bool) (cs : List BodyContext) → AreLegal image known cs
    → list_all (λ n. nat_lt n (length image.bodies)) (numbers cs) ≡ true
numbers_fit image known [] h = refl
numbers_fit image known (c ∷ below) h =
    and_from _ _ (lt-ltb c.body (length image.bodies) (slice_get_within image.bodies c.body h.0.body h.0.is_body)) (numbers_fit image known below h.1)

pub are_chain : (image : Image) (known : CallId → Bool) (cs : List BodyContext) → AreLegal image known cs
    → (numbers cs ≡ []) ⊎ IsChain image (numbers cs)
are_chain image known [] h = inl refl
are_chain image known (c ∷ below) h = inr (record {
  bodies = numbers_fit image known (c ∷ below) h;
  legal = subst (λ bs. is_legal bs ≡ true) (sym (ap (λ (o : Option Body). cons_body o (bodies_of image (numbers below))) h.0.is_body)) h.0.over.legal;
})

chain_at : (image : Image) (script : List Line) (p : ℕ) → IsImage image → IsAccepted image → IsScript image script
    → (standing_bodies (processor (run image script) p) ≡ []) ⊎ IsChain image (standing_bodies (processor (run image script) p))
chain_at image script p is accepted s =
    are_chain image (knows image (run image script)) (processor (run image script) p).bodies (((runs_are_legal image script is accepted s).each p).bodies)

pub chains_are_legal : ChainsAreLegal
chains_are_legal image script p is accepted s l = chain_at image script p is accepted s

pub short : (image : Image) (bound : ℕ) (ns : List ℕ) → IsAcceptedWith image bound → (ns ≡ []) ⊎ IsChain image ns → length ns ≤ bound
short image bound ns accepted (inl e) = let k : length ns ≡ 0 = ap length e in omega arith
short image bound ns accepted (inr chain) = accepted.is_bound.greatest ns chain

depth_at : (image : Image) (bound : ℕ) (script : List Line) (p : ℕ) → IsImage image → IsAcceptedWith image bound → IsScript image script
    → length (standing_bodies (processor (run image script) p)) ≤ bound
depth_at image bound script p is accepted s =
    short image bound (standing_bodies (processor (run image script) p)) accepted (chain_at image script p is (bound, accepted) s)

pub depth_is_bounded : DepthIsBounded
depth_is_bounded image bound script p is accepted s l = depth_at image bound script p is accepted s

pub nest_is_enough : NestIsEnough
nest_is_enough image script p is accepted s =
    let l : length (standing_bodies (processor (run image script) p)) ≤ accepted.0 = depth_at image accepted.0 script p is accepted.1 s in
    let n : accepted.0 ≤ image.nest = accepted.1.fits in omega (arith, l, n)
