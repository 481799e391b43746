-- The machine of a run while its processors are settled in turn.
use Rattle.std.proofs.Common.{◌≡◌, ℕ, suc, zero, ◌+◌, ◌-◌, ◌<◌, ◌≤◌, Bool, true, false, List, [], ◌∷◌, ◌++◌, append_assoc, ap, refl, sym, ◌∙◌, arith}
use Rattle.std.specs.Prelude.{flat_map}
use Rattle.ev_isa.specs.Word.{numbers_from}
use Rattle.ev_isa.specs.declared.mode.Mode.{Mode}
use Rattle.ev_body.specs.declared.image.Image.{Image}
use Rattle.ev_abstract.specs.Run.{run}
use Rattle.ev_abstract.specs.EntryText.{Text}
use Rattle.ev_abstract.specs.declared.script_line.Line.{Line}
use Rattle.ev_trace.specs.FrameText.{Noted, mode_text, frame_text}
use Rattle.ev_concrete.specs.ConcreteRun.{System, Marks, marks_of, settled, noted, behind, all_settled, concrete_run}
use Rattle.ev_concrete.specs.RunText.{shown_frames, settling}
use Rattle.ev_refine.proofs.Refine.{runs_follow}
use Rattle.ev_core.specs.Run.{MachineView, IsRun, IsStandingAs}
use Rattle.ev_pair.specs.SideText.{side_at}

-- ---- settling one processor more

one_number_more : (a k : ℕ) → numbers_from a (suc k) ≡ numbers_from a k ++ (a + k) ∷ []
one_number_more a zero = let e : a ≡ a + 0 = omega arith in ap (λ n. n ∷ []) e
one_number_more a (suc k) = let e : suc a + k ≡ a + suc k = omega arith in
    ap (λ ns. a ∷ ns) (one_number_more (suc a) k ∙ ap (λ n. numbers_from (suc a) k ++ n ∷ []) e)

module _ (marks : Marks) (n : ℕ) where
  all_settled_more : (s : System) (ps qs : List ℕ) → all_settled marks n s (ps ++ qs) ≡ behind (all_settled marks n s ps).1
      (all_settled marks n (all_settled marks n s ps).0 qs)
  all_settled_more s [] qs = refl
  all_settled_more s (p ∷ ps) qs =
      let t : System = (settled marks n s p).0 in
      let fs : List Noted = noted p (settled marks n s p).1 in
      ap (behind fs) (all_settled_more t ps qs)
      ∙ (λ i. (
        (all_settled marks n (all_settled marks n t ps).0 qs).0,
        sym
            (append_assoc fs (all_settled marks n t ps).1 (all_settled marks n (all_settled marks n t ps).0 qs).1) i,
      ))

  one_more : (s : System) (k : ℕ) → all_settled marks n s (numbers_from 0 (suc k))
      ≡ behind (all_settled marks n s (numbers_from 0 k)).1 (all_settled marks n (all_settled marks n s (numbers_from 0 k)).0 (k ∷ []))
  one_more s k =
      let e : 0 + k ≡ k = omega arith in
      ap (all_settled marks n s) (one_number_more 0 k ∙ ap (λ q. numbers_from 0 k ++ q ∷ []) e) ∙ all_settled_more s (numbers_from 0 k) (k ∷ [])

  pub state_more : (s : System) (k : ℕ)
      → (all_settled marks n s (numbers_from 0 (suc k))).0 ≡ (settled marks n (all_settled marks n s (numbers_from 0 k)).0 k).0
  state_more s k = ap (λ (r : System × List Noted). r.0) (one_more s k)

  -- the first of more processors is settled before the others
  pub next_settled : (s : System) (k j n' : ℕ) → j ≡ suc k → k < n' → all_settled marks n s (numbers_from k (n' - k)) ≡ behind
      (noted k (settled marks n s k).1) (all_settled marks n (settled marks n s k).0 (numbers_from j (n' - j)))
  next_settled s k j n' e lt =
      let d : n' - k ≡ suc (n' - suc k) = omega arith in
      ap (λ i. all_settled marks n s (numbers_from k i)) d
      ∙ ap (λ i. behind (noted k (settled marks n s k).1) (all_settled marks n (settled marks n s k).0 (numbers_from i (n' - i)))) (sym e)

-- the run of a script, and then its first k processors are settled
abbrev pub settled_first : Mode → Image → List Line → ℕ → System × List Noted
settled_first mode image script k = all_settled (marks_of mode image) image.processors (concrete_run mode image script).0 (numbers_from 0 k)

pub settled_next : (mode : Mode) (image : Image) (script : List Line) (k j : ℕ) → j ≡ suc k
    → (settled_first mode image script j).0 ≡ (settled (marks_of mode image) image.processors (settled_first mode image script k).0 k).0
settled_next mode image script k j e = ap (λ i. (settled_first mode image script i).0) e ∙ state_more (marks_of mode image) image.processors
    (concrete_run mode image script).0 k

-- ---- the frames of settling

-- those of the processors from k on
abbrev pub later_frames : Mode → Image → List Line → ℕ → List Noted
later_frames mode image script k =
    (all_settled (marks_of mode image) image.processors (settled_first mode image script k).0 (numbers_from k (image.processors - k))).1

flat_map_both : {X Y : Type 0} (f : X → List Y) (xs ys : List X) → flat_map f (xs ++ ys) ≡ flat_map f xs ++ flat_map f ys
flat_map_both f [] ys = refl
flat_map_both f (x ∷ xs) ys = ap (λ zs. f x ++ zs) (flat_map_both f xs ys) ∙ sym (append_assoc (f x) (flat_map f xs) (flat_map f ys))

shown_both : (frames : Bool) (mode : Mode) (xs ys : List Noted)
    → shown_frames frames mode (xs ++ ys) ≡ shown_frames frames mode xs ++ shown_frames frames mode ys
shown_both true mode xs ys = flat_map_both (frame_text (mode_text mode)) xs ys
shown_both false mode xs ys = refl

module _ (frames : Bool) (mode : Mode) (image : Image) (script : List Line) where
  abbrev pub later_text : ℕ → Text
  later_text k = shown_frames frames mode (later_frames mode image script k)

  pub all_later : later_text 0 ≡ shown_frames frames mode (settling image (side_at mode image script)).1
  all_later =
      let e : image.processors - 0 ≡ image.processors = omega arith in
      ap (λ n. shown_frames frames mode (all_settled (marks_of mode image) image.processors (concrete_run mode image script).0 (numbers_from 0 n)).1) e

  -- those of processor k before those of the later ones
  pub next_later : (k j : ℕ) → j ≡ suc k → k < image.processors → later_text k
      ≡ shown_frames frames mode (noted k (settled (marks_of mode image) image.processors (settled_first mode image script k).0 k).1) ++ later_text j
  next_later k j e lt =
      ap (λ (r : System × List Noted). shown_frames frames mode r.1)
      (next_settled (marks_of mode image) image.processors (settled_first mode image script k).0 k j image.processors e lt)
      ∙ shown_both frames mode _ _
      ∙ ap (λ s. shown_frames frames mode (noted k (settled (marks_of mode image) image.processors (settled_first mode image script k).0 k).1)
      ++ shown_frames frames mode (all_settled (marks_of mode image) image.processors s (numbers_from j (image.processors - j))).1)
      (sym (settled_next mode image script k j e))

  pub none_later : (k : ℕ) → image.processors ≤ k → later_text k ≡ []
  none_later k h =
      let e : image.processors - k ≡ 0 = omega arith in
      ap (λ n. shown_frames frames mode (all_settled (marks_of mode image) image.processors (settled_first mode image script k).0 (numbers_from k n)).1) e
      ∙ nothing frames
    where
      nothing : (b : Bool) → shown_frames b mode [] ≡ []
      nothing true = refl
      nothing false = refl

-- before settling, the machine stands for the abstract run
pub run_stands : (mode : Mode) (image : Image) (script : List Line) (v : MachineView) → IsRun mode image script v
    → IsStandingAs mode image (settled_first mode image script 0).0 (run image script) v
run_stands mode image script v r =
    let follows = runs_follow mode image r.can.built r.can.image_is script r.script_is r.lines_built in
    record { can = r.can; at = r.at; left = follows.0; stands = follows.1 }
