-- Blocks of the items of cross calls. What others write too, the head of a queue and the records of a list, is read and written between blocks, one instruction
-- at a time: a block ends before it, and the next one opens behind it, with a variable for what was read.
use Rattle.std.specs.Prelude.{ℕ, pos, negsuc, zero, suc, ◌+◌, ◌*◌, Bool, true, false, if◌then◌else◌, List, [], ◌∷◌, ◌++◌, set}
use Rattle.ev_isa.specs.declared.instruction.Ins.{Ins}
use Rattle.ev_isa.specs.declared.instruction.Ins.TheVariants.{MovImm, MovReg, Load, Store, AluImm, Jmp, Jcc}
use Rattle.ev_isa.specs.declared.instruction.AluOp.TheVariants.{Add, Cmp}
use Rattle.ev_isa.specs.declared.instruction.Cond.TheVariants.{Z, Nz}
use Rattle.ev_listing.specs.AddressMap.{pcpu, head_offset}
use Rattle.ev_symbolic.specs.Value.{V, K, P, X, Fact}
use Rattle.ev_symbolic.specs.State.{Word, SS, Block}
use Rattle.ev_symbolic.specs.Listed.{lines_at}
use Rattle.ev_symbolic.specs.Openings.{at_base, word}
use Rattle.ev_symbolic.specs.Names.{item_tag, record_tag, says_same, top_less, opens}
use Rattle.ev_distances.specs.Form.{InRecord}
use Rattle.ev_blocks.specs.Shapes.{Layout, Forms, private, body_forms, body_bytes, body_words, item_text, ground_over, over}

-- Of `call` and `wait`: at the sum that gives the address of the site's record, with that of the first one in RBX.
-- Of `wait`: behind its load, which read 0 or 1. Of `call`: behind the load that found the record in use; behind the one that found it free, from where it
-- fills it; at the load of the queue's head; at the store of that into the record, where the head may have changed since; behind an exchange that failed;
-- and behind the jump that follows the one that didn't, where the queue was empty or not.
-- Of `take`: before its exchange, and behind it; at a record of the list that is turned round, of which so many are left; behind a record's new link, where
-- so many are left; and at the first of the calls that were taken, if there is one. Of `finish`: before and behind the load of the next record.
-- And at any instruction that is made by itself, so many bytes behind the item's beginning, from where so many edges come at most.
pub data CallSpot : Type 0 where
  AtRecord : (site : ℕ) → CallSpot
  BehindWait : (is_done : Bool) → CallSpot
  BehindBusy : (s : ℕ) → CallSpot
  AtFill : (address func to s : ℕ) → CallSpot
  AtHead : (address func to : ℕ) → CallSpot
  AtLink : (address func to : ℕ) (is_stale : Bool) → CallSpot
  BehindFailure : (address func to : ℕ) → CallSpot
  BehindCall : (s : ℕ) (is_first : Bool) → CallSpot
  AtTake : CallSpot
  BehindTake AtTurn BehindTurn : (left : ℕ) → CallSpot
  AtTaken : (is_some : Bool) → CallSpot
  AtFinish BehindNext : CallSpot
  AtOffset : (offset edges : ℕ) → CallSpot

-- ---- code, from the first instruction of each block on, with distances as the assembler gives them

-- the site's record, behind the load of the first one's address
abbrev pub record_code : ℕ → List Ins
record_code site = AluImm Add 3 (pos (0x40 * site)) ∷ []

-- `wait` behind its load
abbrev pub wait_code : List Ins
wait_code = AluImm Cmp 0 (pos 0) ∷ Jcc Nz (negsuc 35) ∷ []

-- `call` behind its load: where the record is in use the local gets 0, and the item is done
abbrev pub busy_code : ℕ → List Ins
busy_code s = AluImm Cmp 0 (pos 0) ∷ Jcc Z (pos 15) ∷ MovImm s 0 ∷ Jmp (pos 151) ∷ []

-- else it is filled
abbrev pub record_filling : (address func to s : ℕ) → List Ins
record_filling address func to s =
    MovImm 0 address ∷ Store 3 (pos 8) 0 ∷ MovImm 0 func ∷ Store 3 (pos 0x38) 0 ∷ Store 3 (pos 0x10) s ∷ Load 0 3 (pos 0x28) ∷ AluImm Add 0 (pos 1)
    ∷ Store 3 (pos 0x28) 0 ∷ MovImm 0 1 ∷ Store 3 (pos 0) 0 ∷ MovImm 2 (pcpu to + head_offset) ∷ []

-- both, up to the load of the head
abbrev pub fill_code : (address func to s : ℕ) → List Ins
fill_code address func to s = busy_code s ++ record_filling address func to s

-- the record's link becomes the head that was read
abbrev pub link_code : List Ins
link_code = Store 3 (pos 0x18) 0 ∷ []

-- what `call` leaves in its local: 2 where the queue was empty
abbrev pub answer_code : ℕ → List Ins
answer_code s = MovImm s 2 ∷ AluImm Cmp 0 (pos 0) ∷ Jcc Z (pos 10) ∷ MovImm s 1 ∷ []

-- `take` at a record of the list that it turns round
abbrev pub turn_code : List Ins
turn_code = AluImm Cmp 0 (pos 0) ∷ Jcc Z (pos 25) ∷ []

-- and behind its new link
abbrev pub turned_code : List Ins
turned_code = MovReg 14 0 ∷ MovReg 0 1 ∷ Jmp (negsuc 37) ∷ []

-- the first call, if there is one
abbrev pub taken_code : List Ins
taken_code = AluImm Cmp 14 (pos 0) ∷ Jcc Z (pos 23) ∷ []

-- so many bytes of an item come before: the address of the first record; the load of the state, and what follows it; the load of the head, the store of the
-- link and its exchange; and the answer
abbrev pub behind_first : ℕ
behind_first = 9

-- the load of the state
abbrev pub behind_state : ℕ
behind_state = 23

-- the load of the head, which is at this offset
abbrev pub at_head : ℕ
at_head = 140

-- the store of the link
abbrev pub at_link : ℕ
at_link = 147

-- behind the exchange
abbrev pub behind_exchange : ℕ
behind_exchange = 163

-- the answer
abbrev pub at_answer : ℕ
at_answer = 169

-- the end of `call`
abbrev pub call_end : ℕ
call_end = 202

-- of `take`: behind its exchange; at the list that it turns round; behind the record's link; at the first call; at its function; and its end
abbrev pub behind_take : ℕ
behind_take = 26

-- the list
abbrev pub at_turn : ℕ
at_turn = 36

-- the load of a record's link, and the store of the new one
abbrev pub at_old_link : ℕ
at_old_link = 49

-- behind the store
abbrev pub behind_turn : ℕ
behind_turn = 63

-- the first call
abbrev pub at_taken : ℕ
at_taken = 74

-- the loads of its words
abbrev pub at_function : ℕ
at_function = 87

-- the end of `take`
abbrev pub take_end : ℕ
take_end = 110

-- of `finish`: the load of the next record, and the instruction behind it
abbrev pub at_next : ℕ
at_next = 3

-- see there
abbrev pub behind_next : ℕ
behind_next = 10

-- ---- windows and openings

-- A record that is filled is the activation's own: nobody else writes it.
abbrev pub record_forms : Layout → Forms
record_forms layout = private (InRecord ∷ body_forms layout)

-- of a record: whose it is, and of which site
abbrev pub site_words : List Word
site_words = word (at_base record_tag 0x20) (X 27) ∷ word (at_base record_tag 0x30) (X 28) ∷ []

-- its words once it is filled, but for the link: 25 is its number and 26 its argument
abbrev pub filled_words : (address func : ℕ) → List Word
filled_words address func =
    word (at_base record_tag 0) (K 1) ∷ word (at_base record_tag 8) (K address) ∷ word (at_base record_tag 0x10) (X 26)
    ∷ word (at_base record_tag 0x28) (X 25) ∷ word (at_base record_tag 0x38) (K func) ∷ site_words

-- the opening so many bytes behind the item's beginning
abbrev pub item_opening : Layout → ℕ → SS
item_opening layout offset = record (opens 0 (top_less (body_bytes layout)) (body_words layout)) { rip = at_base item_tag offset }

-- with a value in RAX
abbrev pub with_rax : V → SS → SS
with_rax v s = record s { regs = set s.regs 0 v }

-- with the record in RBX, of which these words are known
abbrev pub with_record : List Word → SS → SS
with_record ws s = record s { regs = set s.regs 3 (P record_tag 0); words = ws ++ s.words }

-- with the address of the queue's head in RDX too
abbrev pub with_head : ℕ → SS → SS
with_head to s = record s { regs = set s.regs 2 (K (pcpu to + head_offset)) }

-- a block over the windows of a body, from an opening on
abbrev pub call_block : Bool → Layout → Forms → List Fact → ℕ → List Ins → SS → ℕ → Block
call_block fred layout forms facts offset code opening steps =
    over (ground_over fred item_text forms facts) (lines_at (at_base item_tag offset) code) opening steps

-- 1 where the record is in use
abbrev pub state_word : (is_free : Bool) → ℕ
state_word true = 0
state_word false = 1

-- a value is 0 or isn't
abbrev pub says_none : V → Bool → Fact
says_none v true = says_same v 0 1
says_none v false = says_same v 0 0

-- no record is left
abbrev pub none_left : ℕ → Bool
none_left zero = true
none_left (suc n) = false

-- whether not
abbrev pub is_none_of : Bool → Bool
is_none_of true = false
is_none_of false = true

-- RAX behind the load of the head: of an empty queue it is 0, else the address of a record
abbrev pub old_head : Bool → V
old_head true = K 0
old_head false = X 0

-- which says that it isn't 0
abbrev pub head_facts : Bool → List Fact
head_facts true = []
head_facts false = says_none (X 0) false ∷ []

-- a queue that wasn't empty takes one step more
abbrev pub answer_steps : Bool → ℕ
answer_steps true = 3
answer_steps false = 4

-- whether the spot's record is the activation's own
abbrev pub fills_record : CallSpot → Bool
fills_record (AtFill address func to s) = true
fills_record (AtHead address func to) = true
fills_record (AtLink address func to is_stale) = true
fills_record (BehindFailure address func to) = true
fills_record s = false

-- the windows of each spot
abbrev pub call_forms : Layout → CallSpot → Forms
call_forms layout s = if fills_record s then record_forms layout else private (body_forms layout)

-- the block of each spot
abbrev pub block_of_call : Bool → Layout → CallSpot → Block
block_of_call fred layout (AtRecord site) =
    call_block fred layout (call_forms layout (AtRecord site)) [] behind_first (record_code site) (item_opening layout behind_first) 1
block_of_call fred layout (BehindWait is_done) =
    call_block fred layout (call_forms layout (BehindWait is_done)) [] behind_state wait_code
    (with_rax (K (state_word is_done)) (item_opening layout behind_state)) 2
block_of_call fred layout (BehindBusy s) =
    call_block fred layout (call_forms layout (BehindBusy s)) [] behind_state (busy_code s) (with_rax (K 1) (item_opening layout behind_state)) 4
block_of_call fred layout (AtFill address func to s) =
    call_block fred layout (call_forms layout (AtFill address func to s)) [] behind_state (fill_code address func to s)
    (with_record (word (at_base record_tag 0x28) (X 25) ∷ site_words) (with_rax (K 0) (item_opening layout behind_state))) 13
block_of_call fred layout (AtHead address func to) =
    call_block fred layout (call_forms layout (AtHead address func to)) [] at_head []
    (with_head to (with_record (filled_words address func) (item_opening layout at_head))) 0
block_of_call fred layout (AtLink address func to is_stale) =
    call_block fred layout (call_forms layout (AtLink address func to is_stale)) [] at_link link_code
    (with_head to (with_record (filled_words address func) (item_opening layout at_link))) 1
block_of_call fred layout (BehindFailure address func to) =
    call_block fred layout (call_forms layout (BehindFailure address func to)) [] behind_exchange []
    (with_head to (with_record (filled_words address func) (item_opening layout behind_exchange))) 0
block_of_call fred layout (BehindCall s is_first) =
    call_block fred layout (call_forms layout (BehindCall s is_first)) (head_facts is_first) at_answer (answer_code s)
    (with_rax (old_head is_first) (item_opening layout at_answer)) (answer_steps is_first)
block_of_call fred layout AtTake =
    call_block fred layout (call_forms layout AtTake) [] behind_first (MovImm 0 0 ∷ []) (item_opening layout behind_first) 1
block_of_call fred layout (BehindTake left) =
    call_block fred layout (call_forms layout (BehindTake left)) [] behind_take (MovImm 14 0 ∷ []) (item_opening layout behind_take) 1
block_of_call fred layout (AtTurn left) =
    call_block fred layout (call_forms layout (AtTurn left)) (says_none (X 0) (none_left left) ∷ []) at_turn turn_code (item_opening layout at_turn) 2
block_of_call fred layout (BehindTurn left) =
    call_block fred layout (call_forms layout (BehindTurn left)) [] behind_turn turned_code (item_opening layout behind_turn) 3
block_of_call fred layout (AtTaken is_some) =
    call_block fred layout (call_forms layout (AtTaken is_some)) (says_none (X 14) (is_none_of is_some) ∷ []) at_taken taken_code
    (item_opening layout at_taken) 2
block_of_call fred layout AtFinish =
    call_block fred layout (call_forms layout AtFinish) [] 0 (MovReg 3 14 ∷ []) (item_opening layout 0) 1
block_of_call fred layout BehindNext =
    call_block fred layout (call_forms layout BehindNext) [] behind_next (MovImm 0 0 ∷ []) (item_opening layout behind_next) 1
block_of_call fred layout (AtOffset offset edges) =
    call_block fred layout (call_forms layout (AtOffset offset edges)) [] offset [] (item_opening layout offset) 0

-- ---- edges

-- How many edges may come behind the end of a spot's block, until a visible step; `item` of them come from an item on. An exchange fails only where the head
-- has changed since it was read, and then not again, unless another processor makes a step.
abbrev pub taken_edges : ℕ → ℕ
taken_edges item = item + 6

-- from a list on that is turned round
abbrev pub turn_edges : (item left : ℕ) → ℕ
turn_edges item left = 7 * left + (2 + taken_edges item)

-- behind each spot
abbrev pub behind_call : (item : ℕ) → CallSpot → ℕ
behind_call item (AtRecord site) = 16
behind_call item (BehindWait is_done) = item
behind_call item (BehindBusy s) = item
behind_call item (AtFill address func to s) = 2
behind_call item (AtHead address func to) = 2
behind_call item (AtLink address func to true) = 4
behind_call item (AtLink address func to false) = 0
behind_call item (BehindFailure address func to) = 3
behind_call item (BehindCall s is_first) = item
behind_call item AtTake = 0
behind_call item (BehindTake left) = turn_edges item left
behind_call item (AtTurn zero) = taken_edges item
behind_call item (AtTurn (suc left)) = turn_edges item left + 5
behind_call item (BehindTurn left) = turn_edges item left
behind_call item (AtTaken is_some) = item + 4
behind_call item AtFinish = 2
behind_call item BehindNext = 0
behind_call item (AtOffset offset edges) = edges
