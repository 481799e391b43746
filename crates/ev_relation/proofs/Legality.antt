-- The abstract machine stays legal, and tasks keep their GS bases: its turns are lines of scripts. And no more bodies stand than an image may nest.
use Rattle.std.proofs.Common.{◌≡◌, ℕ, suc, ◌<◌, ◌≤◌, true, false, List, [], ◌∷◌, length, Some, None, refl, sym, ap, ◌∙◌, subst, arith, length-append}
use Rattle.std.specs.Prelude.{slice_get, if◌then◌else◌, ◌++◌}
use Rattle.std.proofs.lemmas.Bool.{lt-ltb, or_parts}
use Rattle.ev_body.specs.declared.image.Image.{Image}
use Rattle.ev_body.specs.WellFormed.{IsImage}
use Rattle.ev_abstract.specs.Accepted.{IsAccepted}
use Rattle.ev_abstract.specs.Context.{BodyContext}
use Rattle.ev_abstract.specs.Machine.{Machine, processor}
use Rattle.ev_abstract.specs.declared.entry.Entry.{Entry}
use Rattle.ev_body.specs.declared.item.Item.TheVariants.{Sti, Eoi, Ret}
use Rattle.ev_body.specs.Bodies.{body_items}
use Rattle.ev_abstract.specs.CrossCall.{take_place}
use Rattle.ev_abstract.specs.Rules.{breaks_if, if_at, in_function}
use Rattle.ev_abstract.specs.Run.{turn, line_step, item_at}
use Rattle.ev_abstract.specs.Script.{is_line}
use Rattle.ev_abstract.specs.declared.script_line.Line.TheVariants.{Turn}
use Rattle.ev_law.specs.Legal.{Legal, IsLegalOn, AreLegal, numbers, knows}
use Rattle.ev_law.proofs.Follows.{ret_serves_none, eoi_serves, follows}
use Rattle.ev_law.specs.Laws.{is_lower}
use Rattle.ev_law.proofs.Ruled.{body_ruled}
use Rattle.std.specs.List.{list_all}
use Rattle.ev_law.proofs.Runs.{are_chain, short}
use Rattle.ev_law.specs.Bases.{HasBases}
use Rattle.ev_law.proofs.Lines.{lines_keep_legal}
use Rattle.ev_law.proofs.Bases.{lines_keep_bases}
use Rattle.ev_call_law.specs.Calls.{KeepsCallRecords}
use Rattle.ev_call_law.proofs.Runs.{lines_keep_calls, lines_are_short}

-- behind a turn, whose outcome is told
pub turn_legal : (image : Image) → IsImage image → IsAccepted image → (m : Machine) (p : ℕ) → p < image.processors → Legal image m
    → (z : Machine × List Entry) → turn image m p ≡ z → Legal image z.0
unfolding line_step is_line
turn_legal image given accepted m p lt h z is =
    subst (λ (y : Machine × List Entry). Legal image y.0) is (lines_keep_legal image m (Turn p) given accepted (lt-ltb p image.processors lt) h)

-- and its calls are where its entries say
pub turn_calls : (image : Image) → IsImage image → IsAccepted image → (m : Machine) (p : ℕ) → p < image.processors → Legal image m → (told : List Entry)
    → KeepsCallRecords image m told → (z : Machine × List Entry) → turn image m p ≡ z → KeepsCallRecords image z.0 (told ++ z.1)
unfolding line_step is_line
turn_calls image given accepted m p lt legal told h z is = subst (λ (y : Machine × List Entry). KeepsCallRecords image y.0 (told ++ y.1)) is
    (lines_keep_calls image m told (Turn p) given accepted (lt-ltb p image.processors lt) legal h)

-- of which there is one at most
pub turn_few : (image : Image) → IsImage image → IsAccepted image → (m : Machine) (p : ℕ) → p < image.processors → Legal image m → (told : List Entry)
    → KeepsCallRecords image m told → (steps : ℕ) → length told ≤ steps → (z : Machine × List Entry) → turn image m p ≡ z
    → length (told ++ z.1) ≤ suc steps
unfolding line_step is_line
turn_few image given accepted m p lt legal told h steps few z is =
    let one = lines_are_short image m told (Turn p) given accepted (lt-ltb p image.processors lt) legal h in
    let same = ap (λ (y : Machine × List Entry). length y.1) is in
    let all = length-append told z.1 in omega (arith, one, same, all, few)

-- and its tasks have the GS bases of the image
pub turn_bases : (image : Image) (m : Machine) (p : ℕ) → HasBases image m → (z : Machine × List Entry) → turn image m p ≡ z → HasBases image z.0
unfolding line_step
turn_bases image m p h z is = subst (λ (y : Machine × List Entry). HasBases image y.0) is (lines_keep_bases image m (Turn p) h)

-- no more bodies stand than 32
pub legal_few : (image : Image) → IsImage image → IsAccepted image → (m : Machine) (p : ℕ) → Legal image m → length (processor m p).bodies ≤ 32
legal_few image given accepted m p h =
    let l : length (numbers (processor m p).bodies) ≤ accepted.0
    = short image accepted.0 (numbers (processor m p).bodies) accepted.1 (are_chain image (knows image m) (processor m p).bodies (h.each p).bodies) in
    let n : accepted.0 ≤ image.nest = accepted.1.fits in
    let c = given.count.3 in
    let same = as_many (processor m p).bodies in omega (arith, l, n, c, same)
  where
    as_many : (cs : List BodyContext) → length (numbers cs) ≡ length cs
    as_many [] = refl
    as_many (c ∷ cs) = ap suc (as_many cs)

-- A context at its `eoi` has the class of its interrupt in service, and those below it have lower ones.
pub eoi_context : (image : Image) → IsImage image → IsAccepted image → (m : Machine) (p : ℕ) → Legal image m → (b : BodyContext) (below : List BodyContext)
    → (processor m p).bodies ≡ b ∷ below → item_at (slice_get image.bodies b.body) b.place ≡ Some Eoi
    → (class : ℕ) × (b.service ≡ Some class) × (list_all (is_lower class) below ≡ true)
eoi_context image given accepted m p h b below hb hi =
    let l : AreLegal image (knows image m) (b ∷ below) = subst (AreLegal image (knows image m)) hb (h.each p).bodies in
    let k = eoi_serves image given accepted (knows image m) b below l.0 (sym (ap (λ o. item_at o b.place) l.0.is_body) ∙ hi) in
    (k.0, k.1, (follows image (knows image m) (body_ruled image given accepted.1.kept) b below l).falls k.0 k.1)

-- a context at its `ret` has IF off
pub off_at_ret : (image : Image) → IsImage image → IsAccepted image → (m : Machine) (p : ℕ) → Legal image m → (b : BodyContext) (below : List BodyContext)
    → (processor m p).bodies ≡ b ∷ below → item_at (slice_get image.bodies b.body) b.place ≡ Some Ret → b.interrupts ≡ false
unfolding breaks_if
off_at_ret image given accepted m p h b below hb hi =
    let l : IsLegalOn image (knows image m) b below = (subst (AreLegal image (knows image m)) hb (h.each p).bodies).0 in
    let here : slice_get (body_items l.body) b.place ≡ Some Ret = sym (ap (λ o. item_at o b.place) l.is_body) ∙ hi in
    let ruled = body_ruled image given accepted.1.kept b.body l.body l.is_body in
    l.at.interrupts ∙ ap (λ t. if_at l.body (if t then take_place 0 (body_items l.body) else b.place)) (ruled.ret b.place here).0
    ∙ ruled.switch b.place Ret here

-- and so has one at `sti`
pub off_at_sti : (image : Image) → IsImage image → IsAccepted image → (m : Machine) (p : ℕ) → Legal image m → (b : BodyContext) (below : List BodyContext)
    → (processor m p).bodies ≡ b ∷ below → item_at (slice_get image.bodies b.body) b.place ≡ Some Sti → b.interrupts ≡ false
unfolding breaks_if
off_at_sti image given accepted m p h b below hb hi =
    let l : IsLegalOn image (knows image m) b below = (subst (AreLegal image (knows image m)) hb (h.each p).bodies).0 in
    let here : slice_get (body_items l.body) b.place ≡ Some Sti = sym (ap (λ o. item_at o b.place) l.is_body) ∙ hi in
    let rule = or_parts _ (if_at l.body b.place) ((body_ruled image given accepted.1.kept b.body l.body l.is_body).switch b.place Sti here) in
    l.at.interrupts ∙ ap (λ t. if_at l.body (if t then take_place 0 (body_items l.body) else b.place)) (or_parts _ (in_function l.body b.place) rule.0).1
    ∙ rule.1

-- a context at its `ret` has no interrupt in service
pub context_serves : (image : Image) → IsImage image → IsAccepted image → (m : Machine) (p : ℕ) → Legal image m → (b : BodyContext) (below : List BodyContext)
    → (processor m p).bodies ≡ b ∷ below → item_at (slice_get image.bodies b.body) b.place ≡ Some Ret → b.service ≡ None
context_serves image given accepted m p h b below hb hi =
    let l : AreLegal image (knows image m) (b ∷ below) = subst (AreLegal image (knows image m)) hb (h.each p).bodies in
    ret_serves_none image given accepted (knows image m) b below l.0 (sym (ap (λ o. item_at o b.place) l.0.is_body) ∙ hi)
