-- A turn of the machine and settling, from any standing state, and a turn as a line of its script.
use Rattle.std.proofs.Common.{◌≡◌, ℕ, ◌<◌, Bool, true, false, ◌&&◌, List, [], ◌∷◌, ◌++◌, length, ap, refl, sym, ◌∙◌, subst, arith}
use Rattle.std.specs.Prelude.{◌^◌}
use Rattle.std.specs.List.{list_all}
use Rattle.std.proofs.lemmas.Bool.{lt-ltb}
use Rattle.ev_isa.specs.declared.mode.Mode.{Mode}
use Rattle.ev_trace.specs.FrameText.{Totals}
use Rattle.ev_event.specs.declared.frame_note.FrameNote.{FrameNote}
use Rattle.ev_body.specs.declared.image.Image.{Image}
use Rattle.ev_abstract.specs.declared.entry.Entry.{Entry}
use Rattle.ev_abstract.specs.Machine.{Machine}
use Rattle.ev_abstract.specs.Run.{turn, run, line_step, entries_of}
use Rattle.ev_abstract.specs.Script.{is_line}
use Rattle.ev_abstract.specs.declared.script_line.Line.{Line}
use Rattle.ev_abstract.specs.declared.script_line.Line.TheVariants.{Turn}
use Rattle.ev_concrete.specs.ConcreteRun.{System, Marks, marks_of, concrete_turn, concrete_line, concrete_lines, concrete_run, settled}
use Rattle.ev_built.specs.Built.{line_is_built}
use Rattle.ev_concrete.specs.Shown.{shown}
use Rattle.ev_refine.specs.Claims.{Settles, Turns}
use Rattle.ev_refine.proofs.Refine.{turns_follow, runs_follow}
use Rattle.ev_core.specs.Local.{optional}
use Rattle.ev_layout.specs.Marks.{marks_in}
use Rattle.ev_core.specs.State.{Parts, Shows, TellsBodies}
use Rattle.ev_core.specs.Run.{MachineView, IsRun, IsStandingAs}
use Rattle.ev_core.specs.Turns.{IsTurn, IsSettling}
use Rattle.ev_core.specs.declared.machine.Turned.{Turned}
use Rattle.ev_core.proofs.Standing.{settling, tell}

-- ---- from any standing state

module _ (mode : Mode) (image : Image) (s : System) (m : Machine) (v : MachineView) (so : IsStandingAs mode image s m v) (p : ℕ)
    (lt : p < image.processors) where
  abbrev there : System
  there = (settled (marks_of mode image) image.processors s p).0

  settles : Settles mode image so.left s m p
  settles = settling mode image s m v so p lt

  turning : Turns mode image s m p
  turning = turns_follow mode image so.can.built so.can.image_is so.left s m so.stands p lt

  -- the edges of p, as the machine makes them
  pub settled_made : (t : Turned) (w : Parts) → Shows image.processors w (settled (marks_in v.places) image.processors s p).0
      → t.frames.items ≡ (settled (marks_in v.places) image.processors s p).1 → IsSettling mode image s m p t (record { parts = w; places = v.places })
  settled_made t w shows frames = record {
    so = record {
      can = so.can;
      at = record { marks = so.at.marks; shows = subst (λ k. Shows image.processors w (settled k image.processors s p).0) so.at.marks shows };
      left = (settles.after 1024).0;
      stands = (settles.after 1024).1;
    };
    frames = subst (λ k. t.frames.items ≡ (settled k image.processors s p).1) so.at.marks frames;
    seen = settles.seen 1024 (let few = settles.bounded in omega arith);
    others = settles.others 1024;
    safe = settles.safe;
  }

  -- the last step of a turn can be made, and tells how many bodies stand
  pub last_tells : TellsBodies image.processors (settled (marks_in v.places) image.processors s p).0 p
  last_tells = tell mode image s m v so p lt 1024

  -- a turn of p, as the machine makes it while it has counted few enough steps
  pub turn_made : v.parts.totals.steps < 2 ^ 62 → (t : Turned) (w : Parts) → Shows image.processors w (concrete_turn (marks_in v.places) image.processors s p).0
      → optional t.entry ≡ shown (marks_in v.places) (settled (marks_in v.places) image.processors s p).0 p
      → t.frames.items ≡ (concrete_turn (marks_in v.places) image.processors s p).1 → IsTurn mode image s m p t (record { parts = w; places = v.places })
  turn_made few t w shows entry frames = record {
    so = record {
      can = so.can;
      at = record { marks = so.at.marks; shows = subst (λ k. Shows image.processors w (concrete_turn k image.processors s p).0) so.at.marks shows };
      left = turning.now;
      stands = turning.stands;
    };
    entry = subst (λ k. optional t.entry ≡ shown k (settled k image.processors s p).0 p) so.at.marks entry
        ∙ turning.entries (subst (λ (x : Totals). x.steps < 2 ^ 62) so.at.shows.totals few);
    frames = subst (λ k. t.frames.items ≡ (concrete_turn k image.processors s p).1) so.at.marks frames;
    safe = settles.safe;
  }

-- ---- the machine is the run of one line more

pub all_more : {X : Type 0} (f : X → Bool) (xs : List X) (x : X) → list_all f xs ≡ true → f x ≡ true → list_all f (xs ++ x ∷ []) ≡ true
all_more f [] x a b = ap (λ c. c && true) b
all_more f (y ∷ ys) x a b = pick (f y) a (all_more f ys x)
  where
    pick : (c : Bool) → (c && list_all f ys) ≡ true → (list_all f ys ≡ true → f x ≡ true → list_all f (ys ++ x ∷ []) ≡ true)
        → (c && list_all f (ys ++ x ∷ [])) ≡ true
    pick true h next = next h b
    pick false h next = absurd (cc)

pub line_more : (marks : Marks) (n : ℕ) (s : System) (ls : List Line) (l : Line)
    → (concrete_lines marks n s (ls ++ l ∷ [])).0 ≡ (concrete_line marks n (concrete_lines marks n s ls).0 l).0
line_more marks n s [] l = refl
line_more marks n s (k ∷ ls) l = line_more marks n (concrete_line marks n s k).0 ls l

module _ (mode : Mode) (image : Image) (script : List Line) (v : MachineView) (r : IsRun mode image script v) (p : ℕ) (within : p < length v.parts.cpus) where
  abbrev pub marks : Marks
  marks = marks_of mode image

  abbrev pub reached : System
  reached = (concrete_run mode image script).0

  in_image : p < image.processors
  in_image = subst (λ k. p < k) r.at.shows.processors within

  turn_line : is_line image (Turn p) ≡ true
  unfolding is_line
  turn_line = lt-ltb p image.processors in_image

  turn_built : line_is_built (Turn p) ≡ true
  unfolding line_is_built
  turn_built = refl

  line_is_turn : concrete_line marks image.processors reached (Turn p) ≡ concrete_turn marks image.processors reached p
  unfolding concrete_line
  line_is_turn = refl

  pub run_more : (w : Parts) → Shows image.processors w (concrete_turn marks image.processors reached p).0
      → IsRun mode image (script ++ Turn p ∷ []) (record { parts = w; places = v.places })
  run_more w shows = record {
    can = r.can;
    script_is = all_more (is_line image) script (Turn p) r.script_is turn_line;
    lines_built = all_more line_is_built script (Turn p) r.lines_built turn_built;
    at = record {
      marks = r.at.marks;
      shows = subst (λ s. Shows image.processors w s) (sym (line_more marks image.processors _ script (Turn p) ∙ ap (λ x. x.0) line_is_turn)) shows;
    };
  }

  -- what the lines lead to stands for the abstract run
  pub as_run : IsStandingAs mode image reached (run image script) v
  as_run =
      let follows = runs_follow mode image r.can.built r.can.image_is script r.script_is r.lines_built in
      record { can = r.can; at = r.at; left = follows.0; stands = follows.1 }

  abstract_turn : (turn image (run image script) p).1 ≡ entries_of image script (Turn p)
  unfolding line_step
  abstract_turn = refl

  pub turn_entry : (es : List Entry) → es ≡ (turn image (run image script) p).1 → es ≡ entries_of image script (Turn p)
  turn_entry es e = e ∙ abstract_turn

  pub turn_frames : (fs : List FrameNote) → fs ≡ (concrete_turn marks image.processors reached p).1
      → fs ≡ (concrete_line marks image.processors reached (Turn p)).1
  turn_frames fs e = e ∙ ap (λ (x : System × List FrameNote). x.1) (sym line_is_turn)
