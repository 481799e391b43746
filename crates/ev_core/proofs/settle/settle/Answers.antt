use Rattle.std.proofs.Common.{◌≡◌, ◌∙◌, sym, ap, refl, subst, arith, length, false, ℕ, List}
use Rattle.ev_concrete.specs.ConcreteRun.{System, is_visible, edges}
use Rattle.ev_event.specs.declared.frame_note.FrameNote.{FrameNote}
use Rattle.ev_layout.specs.Marks.{marks_in}
use Rattle.ev_core.specs.State.{EdgesTell, Shows}
use Rattle.ev_core.proofs.Edges.{edges_end}
use Rattle.ev_core.proofs.Standing.{few_frames, edges_tell, can_step_after, few_edges, more_shows, more_frames}
use Rattle.ev_core.proofs.settle.settle.Goals as goal

pub loop-init : goal.loop-init
unfolding edges
loop-init g c = record {
  few = omega arith;
  shows = λ n s h t. h;
  frames = λ n s h t. c.requires.empty;
  counted = omega arith;
  totals = omega arith;
  same = refl;
}

pub returns-then-is_visible-clause-settled : goal.returns-then-is_visible-clause-settled
returns-then-is_visible-clause-settled g c n s h t =
    let l = c.loop.invariant.few in
    let here = c.loop.invariant.shows n s h t in
    subst (λ (r : System × List FrameNote). Shows n c.loop.state r.0)
    (sym (edges_end (marks_in c.args.places.now) n c.args.p c.loop.counter 1024 s (omega arith)
    (sym (c.is_visible.ensures n _ here) ∙ c.if-is_visible.true))) here

pub returns-then-is_visible-clause-frames : goal.returns-then-is_visible-clause-frames
returns-then-is_visible-clause-frames g c n s h t =
    let l = c.loop.invariant.few in
    let here = c.loop.invariant.shows n s h t in
    c.loop.invariant.frames n s h t
    ∙ ap (λ (r : System × List FrameNote). r.1)
    (sym (edges_end (marks_in c.args.places.now) n c.args.p c.loop.counter 1024 s (omega arith)
    (sym (c.is_visible.ensures n _ here) ∙ c.if-is_visible.true)))

pub returns-then-is_visible-clause-seen : goal.returns-then-is_visible-clause-seen
returns-then-is_visible-clause-seen g c n s h = sym (c.is_visible.ensures n s h) ∙ c.if-is_visible.true

pub step-shown-requires-clause-can : goal.step-shown-requires-clause-can
step-shown-requires-clause-can g c =
    let h = c.requires.stands in
    can_step_after _ h c.args.p c.requires.place c.loop.counter c.loop.state
    (c.loop.invariant.shows _ _ h.so.at.shows (edges_tell _ h c.args.p c.requires.place))

pub keep-requires : goal.keep-requires
keep-requires g c =
    let h = c.requires.stands in
    let e = ap length (c.loop.invariant.frames _ _ h.so.at.shows (edges_tell _ h c.args.p c.requires.place)) in
    let few = few_frames _ h c.args.p c.requires.place c.loop.counter in
    omega arith

pub loop-preserved : goal.loop-preserved
loop-preserved g c =
    let st = c.requires.stands in
    let hidden : (n : ℕ) (s : System) → Shows n c.args.state.now s → EdgesTell (marks_in c.args.places.now) n s c.args.p
    → is_visible (marks_in c.args.places.now) (edges c.loop.counter (marks_in c.args.places.now) n s c.args.p).0 c.args.p ≡ false
    = λ n s h t. sym (c.is_visible.ensures n _ (c.loop.invariant.shows n s h t)) ∙ c.if-is_visible.false in record {
      few = few_edges _ st c.args.p c.requires.place c.loop.counter (hidden _ _ st.so.at.shows (edges_tell _ st c.args.p c.requires.place));
      shows = λ n s h t. more_shows (marks_in c.args.places.now) n c.args.p c.loop.counter _ s (omega arith) (hidden n s h t) _
          (c.step-shown.ensures.shows n _ (c.loop.invariant.shows n s h t) (t c.loop.counter));
      frames = λ n s h t. more_frames (marks_in c.args.places.now) n c.args.p c.loop.counter _ s (omega arith) (hidden n s h t) _ _ _
          (c.loop.invariant.frames n s h t) (c.step-shown.ensures.frame n _ (c.loop.invariant.shows n s h t)) c.keep.ensures;
      counted = omega arith;
      totals = omega arith;
      same = c.step-shown.ensures.same ∙ c.loop.invariant.same;
    }
