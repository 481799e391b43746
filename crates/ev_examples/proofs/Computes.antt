-- What a closed run of the abstract machine computes with, in one line that each worked example names.
use Rattle.std.specs.Fmt.{digits}
use Rattle.ev_isa.specs.Flags.{alu, difference, flags_of, flags_word, holds, shift_left, shift_right, sum}
use Rattle.ev_isa.specs.Instruction.{is_instruction, user_may}
use Rattle.ev_isa.specs.Pages.{fault_at, place_of, text_word, word_at_start}
use Rattle.ev_isa.specs.Reading.{behind, forms, narrow_forms, plain_forms, prefixed_forms, reading, reg_at, rm_at, signed_at, wide_forms}
use Rattle.ev_isa.specs.Spelling.{four_bytes, spelling}
use Rattle.ev_event.specs.Event.{type_number}
use Rattle.ev_body.specs.Bodies.{covers, key_number}
use Rattle.ev_effect.specs.Effect.{access_event, effect}
use Rattle.ev_abstract.specs.Boundary.{choice}
use Rattle.ev_abstract.specs.Delivery.{delivered}
use Rattle.ev_abstract.specs.EntryText.{entry_words, key_text, side_text, state_words}
use Rattle.ev_abstract.specs.ItemMeaning.{item_step}
use Rattle.ev_abstract.specs.Machine.{opening}
use Rattle.ev_abstract.specs.Run.{line_step, turn}
use Rattle.ev_abstract.specs.UserCode.{executed, user_step}

unfoldable pub computing : Unit {0}
unfolding flags_word flags_of sum difference alu shift_left shift_right holds user_may is_instruction place_of fault_at text_word word_at_start signed_at
    reg_at rm_at behind wide_forms prefixed_forms narrow_forms plain_forms forms reading four_bytes spelling type_number key_number covers access_event
    effect choice delivered key_text side_text entry_words state_words item_step opening turn line_step executed user_step digits
computing = tt
