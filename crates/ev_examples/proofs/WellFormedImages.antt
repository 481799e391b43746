-- Images and scripts that are as the grammar gives them, and images that aren't: a function that two bodies have, and a jump out of its part.
use Rattle.std.specs.Prelude.{◌≡◌, refl, [], ◌∷◌, false}
use Rattle.std.proofs.Common.{arith}
use Rattle.ev_isa.specs.Spelling.{four_bytes, spelling}
use Rattle.ev_body.specs.Bodies.{covers, key_number}
use Rattle.ev_body.specs.WellFormed.{IsImage, are_distinct, ends_with, functions_of, has_operands, is_body, is_body_cond, is_finish, is_key, is_ret, is_user_only, is_user_side}
use Rattle.ev_body.specs.declared.item.Item.{Item}
use Rattle.ev_abstract.specs.Script.{IsScript, is_line}
use Rattle.ev_examples.proofs.AgreementOfMachines.{varied}
use Rattle.ev_examples.proofs.CrossingCalls.{call_handler, calling, crossing, crossing_script}

unfoldable pub forming : Unit {0}
unfolding four_bytes spelling key_number covers is_body_cond has_operands is_finish is_ret ends_with is_user_only is_user_side is_key is_line
forming = tt

varied_formed : IsImage varied
unfolding forming varied
varied_formed = record {
  count = (omega arith, omega arith, omega arith, omega arith);
  pages_fit = refl;
  cells_fit = refl;
  text_fits = omega arith;
  text_bytes = refl;
  tasks_given = (refl, refl);
  bodies_given = (omega arith, refl, refl);
  functions_once = refl;
}

crossing_formed : IsImage crossing
unfolding forming crossing calling call_handler
crossing_formed = record {
  count = (omega arith, omega arith, omega arith, omega arith);
  pages_fit = refl;
  cells_fit = refl;
  text_fits = omega arith;
  text_bytes = refl;
  tasks_given = (refl, refl);
  bodies_given = (omega arith, refl, refl);
  functions_once = refl;
}

crossing_lines : IsScript crossing crossing_script
unfolding forming crossing calling call_handler crossing_script
crossing_lines = refl

-- function 0 of the call vector's body twice
function_twice : are_distinct (functions_of (call_handler ∷ call_handler ∷ [])) ≡ false
unfolding call_handler
function_twice = refl

-- the jump leads to the function part
jump_astray : is_body 0 (record call_handler { items = Item.Goto 2 ∷ Item.Ret ∷ [] }) ≡ false
unfolding forming call_handler
jump_astray = refl
