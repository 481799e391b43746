-- What the blocks of the items of cross calls come to, in any layout and mode. Own.
use Rattle.std.specs.Prelude.{◌≡◌, ℕ, ◌+◌, ◌*◌, ◌<◌, ◌≤◌, Bool, true, false, List, ◌∷◌, map, set, suc, zero, Some}
use Rattle.ev_isa.specs.Word.{numbers_from}
use Rattle.ev_symbolic.specs.Value.{V, K, X, B, OAdd}
use Rattle.ev_symbolic.specs.State.{SS}
use Rattle.ev_symbolic.specs.Run.{brun}
use Rattle.ev_symbolic.specs.Openings.{at_base, word, all_regs}
use Rattle.ev_symbolic.specs.Names.{item_tag, record_tag, top_less}
use Rattle.ev_blocks.specs.Shapes.{Layout, body_bytes}
use Rattle.ev_blocks.specs.Calls.{CallSpot, AtRecord, BehindWait, BehindBusy, AtFill, AtHead, AtLink, BehindCall, AtTake, BehindTake, AtTurn, BehindTurn, AtTaken, AtFinish, BehindNext, block_of_call, state_word, behind_first, call_end, at_turn, at_old_link, at_taken, at_function, take_end, at_next, behind_next}
use Rattle.ev_paths.specs.Ends.{Continues}

-- The block comes to so many bytes behind the item's beginning, with these registers, and else as it opened, flags aside.
pub record CallComes (fred : Bool) (layout : Layout) (s : CallSpot) (offset : ℕ) (regs : List V) : Type 0 where
  pub z : SS
  pub runs : brun (block_of_call fred layout s) (block_of_call fred layout s).steps ≡ Some z
  pub is : record z { flags = (block_of_call fred layout s).opening.flags } ≡ record (block_of_call fred layout s).opening {
    rip = at_base item_tag offset;
    regs = regs;
  }

-- the registers at an opening that says nothing of them
abbrev pub item_regs : Layout → List V
item_regs layout = all_regs (top_less (body_bytes layout))

-- behind the filling the record has the site's next number, of 25, and as its argument, 26, the value of the local
abbrev pub filled_values : V → List V
filled_values argument = set (set (set (map (λ i. X i) (numbers_from 0 64)) 0 (K 1)) 25 (B OAdd (X 25) (K 1))) 26 argument

-- the filling comes to the load of the queue's head
pub record Fills (fred : Bool) (layout : Layout) (address func to s : ℕ) (argument : V) : Type 0 where
  pub z : SS
  pub runs : brun (block_of_call fred layout (AtFill address func to s)) (block_of_call fred layout (AtFill address func to s)).steps ≡ Some z
  pub continues : Continues z (filled_values argument) (block_of_call fred layout (AtHead address func to))

-- The link comes to the exchange: what was known stands, and the link is RAX.
pub record Links (fred : Bool) (layout : Layout) (address func to : ℕ) (is_stale : Bool) : Type 0 where
  pub z : SS
  pub runs : brun (block_of_call fred layout (AtLink address func to is_stale)) (block_of_call fred layout (AtLink address func to is_stale)).steps ≡ Some z
  pub is : z ≡ record (block_of_call fred layout (AtLink address func to is_stale)).opening {
    rip = at_base item_tag 154;
    words = word (at_base record_tag 0x18) (X 0) ∷ (block_of_call fred layout (AtLink address func to is_stale)).opening.words;
  }

-- the registers of `call` behind its answer
abbrev pub answered : Layout → ℕ → Bool → List V
answered layout s true = set (set (item_regs layout) 0 (K 0)) s (K 2)
answered layout s false = set (item_regs layout) s (K 1)

-- the turning of a list goes on at a record's link, or at the first call where none is left
abbrev pub behind_test : ℕ → ℕ
behind_test zero = at_taken
behind_test (suc n) = at_old_link

-- the first call's words are read, or the item is done
abbrev pub behind_taken : Bool → ℕ
behind_taken true = at_function
behind_taken false = take_end

-- `wait` goes on behind its item, or at its beginning
abbrev pub behind_wait : Bool → ℕ
behind_wait true = 36
behind_wait false = 0

-- each of these blocks
pub record CallEnds (fred : Bool) (layout : Layout) : Type 0 where
  pub site : (k : ℕ) → CallComes fred layout (AtRecord k) (behind_first + 7) (set (item_regs layout) 3 (B OAdd (X 3) (K (0x40 * k))))
  pub wait : (is_done : Bool) → CallComes fred layout (BehindWait is_done) (behind_wait is_done) (set (item_regs layout) 0 (K (state_word is_done)))
  pub busy : (s : ℕ) → CallComes fred layout (BehindBusy s) call_end (set (set (item_regs layout) 0 (K 1)) s (K 0))
  -- a local is a register from 6 to 13
  pub fills : (address func to s : ℕ) → 6 ≤ s → s < 14 → Fills fred layout address func to s (X s)
  pub links : (address func to : ℕ) (is_stale : Bool) → Links fred layout address func to is_stale
  pub answers : (s : ℕ) (is_first : Bool) → 6 ≤ s → s < 14 → CallComes fred layout (BehindCall s is_first) call_end (answered layout s is_first)
  pub take : CallComes fred layout AtTake (behind_first + 10) (set (item_regs layout) 0 (K 0))
  pub behind_take : (left : ℕ) → CallComes fred layout (BehindTake left) at_turn (set (item_regs layout) 14 (K 0))
  pub turn : (left : ℕ) → CallComes fred layout (AtTurn left) (behind_test left) (item_regs layout)
  pub behind_turn : (left : ℕ) → CallComes fred layout (BehindTurn left) at_turn (set (set (item_regs layout) 14 (X 0)) 0 (X 1))
  pub taken : (is_some : Bool) → CallComes fred layout (AtTaken is_some) (behind_taken is_some) (item_regs layout)
  pub finish : CallComes fred layout AtFinish at_next (set (item_regs layout) 3 (X 14))
  pub behind_next : CallComes fred layout BehindNext (behind_next + 10) (set (item_regs layout) 0 (K 0))

-- in every layout and mode
abbrev pub AllCallEnds : Type 0
AllCallEnds = (fred : Bool) (layout : Layout) → CallEnds fred layout
