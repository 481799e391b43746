use Rattle.ev_refine.proofs.Refine.{refines, keeps_settled, opens, all_settle, turns_follow, runs_follow, ends_follow, runs_are_safe}
use Rattle.ev_refine.proofs.refinement.Goals as goal

pub returns : goal.returns
returns c = record {
  step = refines;
  others = keeps_settled;
  opening = opens;
  edges = all_settle;
  turns = turns_follow;
  scripts = runs_follow;
  ends = ends_follow;
  safe = runs_are_safe;
}
