use Rattle.std.proofs.Common.{◌∙◌, ap, sym, subst, length, List, ℕ, ◌≤◌}
use Rattle.ev_body.specs.declared.image.Image.{Image}
use Rattle.ev_body.specs.WellFormed.{IsImage}
use Rattle.ev_mem.specs.declared.region.Region.{Region}
use Rattle.ev_mem.specs.Mapped.{memory}
use Rattle.ev_mem.specs.Memory.{Memory}
use Rattle.ev_mem.specs.Conditions.{AreRegions, first_words}
use Rattle.ev_concrete.specs.Opening.{word_there, regions}
use Rattle.ev_layout.specs.declared.fill.Span.{Span}
use Rattle.ev_layout.specs.Filled.{all_filled, all_spans}
use Rattle.ev_layout.specs.Fits.{AreFit}
use Rattle.ev_layout.specs.Placed.{placed}
use Rattle.ev_layout.proofs.Apart.{are_regions}
use Rattle.ev_layout.proofs.Filling.{spans_fit, placed_more}
use Rattle.ev_layout.proofs.Final.{final, filled_same}
use Rattle.ev_layout.proofs.fill.opening_memory.Goals as goal

pub all_spans-requires-clause-placed : goal.all_spans-requires-clause-placed
all_spans-requires-clause-placed c = placed_more (length c.args.image.now.bodies) c.args.blocks.now
    (subst (λ (v : Image). length v.bodies ≤ 64) c.image.view_is c.image.invariant.bodies_given.0) c.requires

pub new-requires : goal.new-requires
new-requires c =
    let i : Image = c.args.image.now in
    let t = c.as_slice.ensures ∙ ap (λ (v : Image). v.text) c.image.view_is in
    let r = c.deref.ensures.value ∙ c.in-Ok.ensures in
    subst (λ (x : List Region). AreRegions x c.as_slice.result.now) (sym r)
    (subst (λ (x : List ℕ). AreRegions (regions i) x) (sym t) (are_regions i (subst IsImage c.image.view_is c.image.invariant)))

pub fill_all-requires : goal.fill_all-requires
unfolding memory
fill_all-requires c =
    let i : Image = c.args.image.now in
    let is = subst IsImage c.image.view_is c.image.invariant in
    let regions_are = ap (λ (m : Memory). m.regions) c.in_ok-mem.ensures ∙ c.deref.ensures.value ∙ c.in-Ok.ensures in
    let processors = c.from.ensures ∙ ap (λ (v : Image). v.processors) c.image.view_is in
    let spans = c.deref-2.ensures.value ∙ c.in-Ok-all_spans.ensures ∙ ap (λ (p : ℕ). all_spans p c.args.blocks.now) processors in
    subst (λ (ss : List Span). AreFit c.in_ok-mem.mem.regions ss) (sym spans)
    (subst (λ (rs : List Region). AreFit rs (all_spans i.processors c.args.blocks.now)) (sym regions_are) (spans_fit i is c.args.blocks.now c.requires))

pub returns : goal.returns
unfolding memory
returns c =
    let i : Image = c.args.image.now in
    let is = subst IsImage c.image.view_is c.image.invariant in
    let bs = c.args.blocks.now in
    let f = word_there (placed bs) c.args.mode i in
    let t = c.as_slice.ensures ∙ ap (λ (v : Image). v.text) c.image.view_is in
    let r = c.deref.ensures.value ∙ c.in-Ok.ensures in
    let processors = c.from.ensures ∙ ap (λ (v : Image). v.processors) c.image.view_is in
    let spans = c.deref-2.ensures.value ∙ c.in-Ok-all_spans.ensures ∙ ap (λ (p : ℕ). all_spans p bs) processors in
    let first = λ (a : ℕ). ap (λ (m : Memory). m.words a) c.in_ok-mem.ensures ∙ ap (λ (x : List Region). first_words x c.as_slice.result.now a) r
    ∙ ap (λ (x : List ℕ). first_words (regions i) x a) t in
    let kept = c.fill_all.ensures.regions ∙ ap (λ (m : Memory). m.regions) c.in_ok-mem.ensures ∙ r in
    let words = λ (a : ℕ).
    c.fill_all.ensures.words a
    ∙ filled_same f (memory c.in_ok-mem.mem).words (first_words (regions i) i.text) c.deref-2.result.now a (first a)
    ∙ ap (λ (ss : List Span). all_filled f ss (first_words (regions i) i.text) a) spans
    ∙ final bs c.args.mode i a is in
    λ j. record { regions = kept j; words = λ a. words a j }
