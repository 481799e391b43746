-- Edges fall from spot to spot of the items of cross calls.
use Rattle.std.proofs.Common.{ℕ, zero, suc, ◌≤◌, Bool, true, false, arith}
use Rattle.ev_isa.specs.declared.mode.Mode.{Mode}
use Rattle.ev_isa.specs.declared.mode.Mode.TheVariants.{Idt, Fred}
use Rattle.ev_blocks.specs.Shapes.{Layout}
use Rattle.ev_blocks.specs.Calls.{BehindCall, AtTurn, turn_edges}
use Rattle.ev_blocks.specs.Items.{AtItem, InCall}
use Rattle.ev_blocks.specs.Blocks.{InBody, item_edges, edges_behind, edges_from, AllCallEdgesFall}

-- a list with none left goes on as one with some
from_turn : (mode : Mode) (layout : Layout) (left : ℕ) → edges_from mode (InBody layout (InCall (AtTurn left))) ≤ turn_edges item_edges left
from_turn Idt layout zero = omega arith
from_turn Idt layout (suc n) = omega arith
from_turn Fred layout zero = omega arith
from_turn Fred layout (suc n) = omega arith

answers : (mode : Mode) (layout : Layout) (s : ℕ) (is_first : Bool)
    → edges_from mode (InBody layout AtItem) ≤ edges_behind mode (InBody layout (InCall (BehindCall s is_first)))
answers Idt layout s true = omega arith
answers Idt layout s false = omega arith
answers Fred layout s true = omega arith
answers Fred layout s false = omega arith

pub call_edges : AllCallEdgesFall
call_edges Idt layout = record {
  at_record = λ site. omega arith;
  fill = λ site address func to s. omega arith;
  head = λ address func to s. omega arith;
  link = λ address func to. omega arith;
  failure = λ address func to. omega arith;
  again = λ address func to. omega arith;
  turn = λ left. (let h = from_turn Idt layout left in omega arith);
  turn_again = λ left. (let h = from_turn Idt layout left in omega arith);
  turned = λ left. omega arith;
  taken = λ is_some. omega arith;
  function = omega arith;
  none = omega arith;
  wait = λ is_done. omega arith;
  busy = λ s. omega arith;
  answer = answers Idt layout;
  take = omega arith;
  finish = omega arith;
  next = omega arith;
}
call_edges Fred layout = record {
  at_record = λ site. omega arith;
  fill = λ site address func to s. omega arith;
  head = λ address func to s. omega arith;
  link = λ address func to. omega arith;
  failure = λ address func to. omega arith;
  again = λ address func to. omega arith;
  turn = λ left. (let h = from_turn Fred layout left in omega arith);
  turn_again = λ left. (let h = from_turn Fred layout left in omega arith);
  turned = λ left. omega arith;
  taken = λ is_some. omega arith;
  function = omega arith;
  none = omega arith;
  wait = λ is_done. omega arith;
  busy = λ s. omega arith;
  answer = answers Fred layout;
  take = omega arith;
  finish = omega arith;
  next = omega arith;
}
