-- The frames of a run are safe, and its bodies legal chains: at the end, and behind every prefix of the script.
use Rattle.std.proofs.Common.{◌≡◌, Bool, true, false, ◌&&◌, List, [], ◌∷◌, ◌++◌, ap, refl, sym, ◌∙◌, arith}
use Rattle.std.specs.List.{list_all}
use Rattle.ev_isa.specs.declared.mode.Mode.{Mode}
use Rattle.ev_body.specs.declared.image.Image.{Image}
use Rattle.ev_body.specs.WellFormed.{IsImage}
use Rattle.ev_abstract.specs.Accepted.{IsAccepted}
use Rattle.ev_abstract.specs.Script.{IsScript, is_line}
use Rattle.ev_abstract.specs.declared.script_line.Line.{Line}
use Rattle.ev_built.specs.Built.{IsBuilt, line_is_built}
use Rattle.ev_law.proofs.Runs.{chains_are_legal, depth_is_bounded, nest_is_enough}
use Rattle.ev_refine.proofs.Refine.{runs_are_safe}
use Rattle.ev_pair.specs.Chains.{KeepsChains}
use Rattle.ev_pair.specs.Safety.{RunIsSafe}

first_all : {X : Type 0} (test : X → Bool) (xs ys : List X) → list_all test (xs ++ ys) ≡ true → list_all test xs ≡ true
first_all test [] ys h = refl
first_all test (x ∷ xs) ys h = pick (test x) h (first_all test xs ys)
  where
    pick : (b : Bool) → (b && list_all test (xs ++ ys)) ≡ true → (list_all test (xs ++ ys) ≡ true → list_all test xs ≡ true) → (b && list_all test xs) ≡ true
    pick true k next = next k
    pick false k next = k

-- the lines that are done are a script too
first_lines : (image : Image) (script done rest : List Line) → script ≡ done ++ rest → IsScript image script → IsScript image done
first_lines image script done rest e is = first_all (is_line image) done rest (sym (ap (list_all (is_line image)) e) ∙ is)

pub chains_are_kept : (image : Image) (script : List Line) → IsImage image → IsAccepted image → IsScript image script → KeepsChains image script
chains_are_kept image script given accepted is = record {
  legal = λ done rest e p lt. chains_are_legal image done p given accepted (first_lines image script done rest e is) lt;
  bounded = λ done rest e p lt bound with_bound. depth_is_bounded image bound done p given with_bound (first_lines image script done rest e is) lt;
  nested = λ done rest e p lt. nest_is_enough image done p given accepted (first_lines image script done rest e is);
}

pub run_is_safe : (mode : Mode) (image : Image) (script : List Line) → IsImage image → IsBuilt image → IsScript image script
    → list_all line_is_built script ≡ true → RunIsSafe mode image script
run_is_safe mode image script given built is lines = record {
  lines = λ done rest e p lt k. runs_are_safe mode image built given done
      (first_lines image script done rest e is)
      (first_all line_is_built done rest (sym (ap (list_all line_is_built) e) ∙ lines)) 0 (omega arith) p lt k;
  settling = λ q le p lt k. runs_are_safe mode image built given script is lines q le p lt k;
}
