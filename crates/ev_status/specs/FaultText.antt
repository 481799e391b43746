-- What the program says of a fault, and its exit status. Own.
use Rattle.std.specs.Prelude.{ℕ, [], ◌∷◌, ◌++◌, codes, decimal}
use Rattle.ev_io.specs.declared.cause.Cause.{Cause}
use Rattle.ev_abstract.specs.EntryText.{Text, key_text, side_text}
use Rattle.ev_abstract.specs.declared.refusal.Refusal.{Refusal}
use Rattle.ev_abstract.specs.declared.refusal.Refusal.TheVariants.{MissingBody, SlotRule, RegisterRule, FlagRule, IfRule, EoiRule, FaultRule, NmiRule, CallRule, DeepNesting}
use Rattle.ev_status.specs.declared.status.Status.{Status}
use Rattle.ev_status.specs.declared.status.Status.TheVariants.{Done, Usage, ReadFault, WriteFault, BadDocument, Refused, NotBuilt, NoMemory}

-- the name of a cause
abbrev pub cause_text : Cause → Text
cause_text Cause.Word = codes "Word"
cause_text Cause.Count = codes "Count"
cause_text Cause.Number = codes "Number"
cause_text Cause.Name = codes "Name"
cause_text Cause.Double = codes "Double"
cause_text Cause.NoLabel = codes "NoLabel"
cause_text Cause.Limit = codes "Limit"
cause_text Cause.Tasks = codes "Tasks"
cause_text Cause.NoSuchProcessor = codes "NoSuchProcessor"
cause_text Cause.NoBody = codes "NoBody"
cause_text Cause.Script = codes "Script"
cause_text Cause.NoEnd = codes "NoEnd"
cause_text Cause.AfterEnd = codes "AfterEnd"
cause_text Cause.TooLong = codes "TooLong"
cause_text Cause.TooLarge = codes "TooLarge"
cause_text Cause.NotAscii = codes "NotAscii"

-- the name of the rule that an image breaks
abbrev pub rule_text : Refusal → Text
rule_text (MissingBody key side) = codes "MissingBody"
rule_text (SlotRule body item) = codes "SlotRule"
rule_text (RegisterRule body item) = codes "RegisterRule"
rule_text (FlagRule body item) = codes "FlagRule"
rule_text (IfRule body item) = codes "IfRule"
rule_text (EoiRule body item) = codes "EoiRule"
rule_text (FaultRule body item) = codes "FaultRule"
rule_text (NmiRule body item) = codes "NmiRule"
rule_text (CallRule body item) = codes "CallRule"
rule_text (DeepNesting found allowed) = codes "DeepNesting"

-- a word with a space before it
abbrev pub and_word : Text → Text
and_word w = 32 ∷ w

-- the place of an item
abbrev pub item_text : ℕ → ℕ → Text
item_text body item = and_word (codes "body") ++ and_word (decimal body) ++ and_word (codes "item") ++ and_word (decimal item)

-- what stands behind the rule: the place, the key and side without a body, or the found and the allowed depth
abbrev pub detail_text : Refusal → Text
detail_text (MissingBody key side) = and_word (key_text key) ++ and_word (side_text side)
detail_text (SlotRule body item) = item_text body item
detail_text (RegisterRule body item) = item_text body item
detail_text (FlagRule body item) = item_text body item
detail_text (IfRule body item) = item_text body item
detail_text (EoiRule body item) = item_text body item
detail_text (FaultRule body item) = item_text body item
detail_text (NmiRule body item) = item_text body item
detail_text (CallRule body item) = item_text body item
detail_text (DeepNesting found allowed) = and_word (decimal found) ++ and_word (decimal allowed)

abbrev pub refusal_text : Refusal → Text
refusal_text r = and_word (rule_text r) ++ detail_text r

-- the line that the program writes to standard error, without LF; of Done there is none
abbrev pub fault_text : Status → Text
fault_text Done = []
fault_text Usage = codes "fredbox: usage"
fault_text ReadFault = codes "fredbox: read fault"
fault_text WriteFault = codes "fredbox: write fault"
fault_text (BadDocument line cause) = codes "fredbox: line" ++ and_word (decimal line) ++ codes ":" ++ and_word (cause_text cause)
fault_text (Refused r) = codes "fredbox: refused" ++ refusal_text r
fault_text NotBuilt = codes "fredbox: not built"
fault_text NoMemory = codes "fredbox: no memory"

abbrev pub exit_code : Status → ℕ
exit_code Done = 0
exit_code Usage = 1
exit_code ReadFault = 2
exit_code WriteFault = 3
exit_code (BadDocument line cause) = 4
exit_code (Refused r) = 5
exit_code NoMemory = 6
exit_code NotBuilt = 7
