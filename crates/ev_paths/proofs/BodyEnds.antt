-- What the blocks of bodies come to: closed facts, each by computation, with the numbers of items as variables.
use Rattle.std.proofs.Common.{◌≡◌, ℕ, zero, suc, ◌+◌, Bool, true, false, refl}
use Rattle.ev_isa.specs.Spelling.{spelling, four_bytes}
use Rattle.ev_mem.specs.Memory.{page_map}
use Rattle.ev_symbolic.specs.Value.{K, X}
use Rattle.ev_symbolic.specs.Run.{every}
use Rattle.ev_blocks.specs.Shapes.{Layout, FredFrame, IdtFrame, NmiFrame}
use Rattle.ev_blocks.specs.Calls.{CallSpot, AtRecord, BehindWait, BehindBusy, AtFill, AtHead, AtLink, BehindFailure, BehindCall, AtTake, BehindTake, AtTurn, BehindTurn, AtTaken, AtFinish, BehindNext, AtOffset, block_of_call}
use Rattle.ev_blocks.specs.Items.{AtTable, AtJump, AtItem, AtNumber, AtNumbers, AtKick, AtUserWord, AtPageWord, BehindSti, BehindKick, InCall, masked, page_word, behind_move, behind_sti, behind_branch, behind_kick}
use Rattle.ev_paths.specs.Ends.{is_untold}
use Rattle.ev_paths.specs.BodyEnds.{Comes, BodyEnds, BodyTellsNoCr2, ItemOffsets}
use Rattle.ev_paths.proofs.Locals.{from_zero}

number : (fred : Bool) (layout : Layout) (n : ℕ) → Comes fred layout (AtNumber n) 10 (K n) (X 1) (X 2)
unfolding spelling four_bytes
number true FredFrame n = record { z = _; runs = refl; is = refl }
number true IdtFrame n = record { z = _; runs = refl; is = refl }
number true NmiFrame n = record { z = _; runs = refl; is = refl }
number false FredFrame n = record { z = _; runs = refl; is = refl }
number false IdtFrame n = record { z = _; runs = refl; is = refl }
number false NmiFrame n = record { z = _; runs = refl; is = refl }

numbers : (fred : Bool) (layout : Layout) (rcx rax rdx : ℕ) → Comes fred layout (AtNumbers rcx rax rdx) 30 (K rax) (K rcx) (K rdx)
unfolding spelling four_bytes
numbers true FredFrame rcx rax rdx = record { z = _; runs = refl; is = refl }
numbers true IdtFrame rcx rax rdx = record { z = _; runs = refl; is = refl }
numbers true NmiFrame rcx rax rdx = record { z = _; runs = refl; is = refl }
numbers false FredFrame rcx rax rdx = record { z = _; runs = refl; is = refl }
numbers false IdtFrame rcx rax rdx = record { z = _; runs = refl; is = refl }
numbers false NmiFrame rcx rax rdx = record { z = _; runs = refl; is = refl }

kick : (fred : Bool) (layout : Layout) (to : ℕ) → Comes fred layout (AtKick to) (behind_branch + 30) (K 0x40fb) (K 0x830) (K to)
unfolding spelling four_bytes
kick true FredFrame to = record { z = _; runs = refl; is = refl }
kick true IdtFrame to = record { z = _; runs = refl; is = refl }
kick true NmiFrame to = record { z = _; runs = refl; is = refl }
kick false FredFrame to = record { z = _; runs = refl; is = refl }
kick false IdtFrame to = record { z = _; runs = refl; is = refl }
kick false NmiFrame to = record { z = _; runs = refl; is = refl }

user_word : (fred : Bool) (layout : Layout) → Comes fred layout AtUserWord (behind_move + 13) masked (K 0x7ffffffffff8) (X 2)
unfolding spelling four_bytes
user_word true FredFrame = record { z = _; runs = refl; is = refl }
user_word true IdtFrame = record { z = _; runs = refl; is = refl }
user_word true NmiFrame = record { z = _; runs = refl; is = refl }
user_word false FredFrame = record { z = _; runs = refl; is = refl }
user_word false IdtFrame = record { z = _; runs = refl; is = refl }
user_word false NmiFrame = record { z = _; runs = refl; is = refl }

at_page : (fred : Bool) (layout : Layout) (is_page : Bool) → Comes fred layout (AtPageWord is_page) (behind_move + 57) (page_word is_page) (K page_map) (X 2)
unfolding spelling four_bytes
at_page true FredFrame true = record { z = _; runs = refl; is = refl }
at_page true FredFrame false = record { z = _; runs = refl; is = refl }
at_page true IdtFrame true = record { z = _; runs = refl; is = refl }
at_page true IdtFrame false = record { z = _; runs = refl; is = refl }
at_page true NmiFrame true = record { z = _; runs = refl; is = refl }
at_page true NmiFrame false = record { z = _; runs = refl; is = refl }
at_page false FredFrame true = record { z = _; runs = refl; is = refl }
at_page false FredFrame false = record { z = _; runs = refl; is = refl }
at_page false IdtFrame true = record { z = _; runs = refl; is = refl }
at_page false IdtFrame false = record { z = _; runs = refl; is = refl }
at_page false NmiFrame true = record { z = _; runs = refl; is = refl }
at_page false NmiFrame false = record { z = _; runs = refl; is = refl }

at_nop : (fred : Bool) (layout : Layout) → Comes fred layout BehindSti (behind_sti + 1) (X 0) (X 1) (X 2)
unfolding spelling four_bytes
at_nop true FredFrame = record { z = _; runs = refl; is = refl }
at_nop true IdtFrame = record { z = _; runs = refl; is = refl }
at_nop true NmiFrame = record { z = _; runs = refl; is = refl }
at_nop false FredFrame = record { z = _; runs = refl; is = refl }
at_nop false IdtFrame = record { z = _; runs = refl; is = refl }
at_nop false NmiFrame = record { z = _; runs = refl; is = refl }

at_jump : (fred : Bool) (layout : Layout) → Comes fred layout BehindKick (behind_kick + 6) (X 0) (X 1) (X 2)
unfolding spelling four_bytes
at_jump true FredFrame = record { z = _; runs = refl; is = refl }
at_jump true IdtFrame = record { z = _; runs = refl; is = refl }
at_jump true NmiFrame = record { z = _; runs = refl; is = refl }
at_jump false FredFrame = record { z = _; runs = refl; is = refl }
at_jump false IdtFrame = record { z = _; runs = refl; is = refl }
at_jump false NmiFrame = record { z = _; runs = refl; is = refl }

pub body_ends : (fred : Bool) (layout : Layout) → BodyEnds fred layout
body_ends fred layout = record {
  number = number fred layout;
  numbers = numbers fred layout;
  kick = kick fred layout;
  user_word = user_word fred layout;
  page_word = at_page fred layout;
  behind_sti = at_nop fred layout;
  behind_kick = at_jump fred layout;
}

-- ---- CR2

abbrev Untold : Bool → Layout → CallSpot → Type 0
Untold fred layout s = every (λ s. is_untold s.cr2) (block_of_call fred layout s) ≡ true

answer_untold : (fred : Bool) (layout : Layout) (is_first : Bool) (s : ℕ) → Untold fred layout (BehindCall s is_first)
unfolding spelling four_bytes
answer_untold fred layout true = from_zero (λ s. Untold fred layout (BehindCall s true))
    refl refl refl refl refl refl refl refl refl refl refl refl refl refl refl refl (λ n. refl)
answer_untold fred layout false = from_zero (λ s. Untold fred layout (BehindCall s false))
    refl refl refl refl refl refl refl refl refl refl refl refl refl refl refl refl (λ n. refl)

call_untold : (fred : Bool) (layout : Layout) (s : CallSpot) → Untold fred layout s
unfolding spelling four_bytes
call_untold fred layout (AtRecord site) = refl
call_untold fred layout (BehindWait true) = refl
call_untold fred layout (BehindWait false) = refl
call_untold fred layout (BehindBusy r) = refl
call_untold fred layout (AtFill address func to r) = refl
call_untold fred layout (AtHead address func to) = refl
call_untold fred layout (AtLink address func to stale) = refl
call_untold fred layout (BehindFailure address func to) = refl
call_untold fred layout (BehindCall r is_first) = answer_untold fred layout is_first r
call_untold fred layout AtTake = refl
call_untold fred layout (BehindTake n) = refl
call_untold fred layout (AtTurn zero) = refl
call_untold fred layout (AtTurn (suc n)) = refl
call_untold fred layout (BehindTurn n) = refl
call_untold fred layout (AtTaken true) = refl
call_untold fred layout (AtTaken false) = refl
call_untold fred layout AtFinish = refl
call_untold fred layout BehindNext = refl
call_untold fred layout (AtOffset o e) = refl

pub body_untold : BodyTellsNoCr2
unfolding spelling four_bytes
body_untold true FredFrame AtTable = refl
body_untold true FredFrame AtJump = refl
body_untold true FredFrame AtItem = refl
body_untold true FredFrame (AtNumber n) = refl
body_untold true FredFrame (AtNumbers rcx rax rdx) = refl
body_untold true FredFrame (AtKick to) = refl
body_untold true FredFrame AtUserWord = refl
body_untold true FredFrame (AtPageWord true) = refl
body_untold true FredFrame (AtPageWord false) = refl
body_untold true FredFrame BehindSti = refl
body_untold true FredFrame BehindKick = refl
body_untold true FredFrame (InCall c) = call_untold true FredFrame c
body_untold true IdtFrame AtTable = refl
body_untold true IdtFrame AtJump = refl
body_untold true IdtFrame AtItem = refl
body_untold true IdtFrame (AtNumber n) = refl
body_untold true IdtFrame (AtNumbers rcx rax rdx) = refl
body_untold true IdtFrame (AtKick to) = refl
body_untold true IdtFrame AtUserWord = refl
body_untold true IdtFrame (AtPageWord true) = refl
body_untold true IdtFrame (AtPageWord false) = refl
body_untold true IdtFrame BehindSti = refl
body_untold true IdtFrame BehindKick = refl
body_untold true IdtFrame (InCall c) = call_untold true IdtFrame c
body_untold true NmiFrame AtTable = refl
body_untold true NmiFrame AtJump = refl
body_untold true NmiFrame AtItem = refl
body_untold true NmiFrame (AtNumber n) = refl
body_untold true NmiFrame (AtNumbers rcx rax rdx) = refl
body_untold true NmiFrame (AtKick to) = refl
body_untold true NmiFrame AtUserWord = refl
body_untold true NmiFrame (AtPageWord true) = refl
body_untold true NmiFrame (AtPageWord false) = refl
body_untold true NmiFrame BehindSti = refl
body_untold true NmiFrame BehindKick = refl
body_untold true NmiFrame (InCall c) = call_untold true NmiFrame c
body_untold false FredFrame AtTable = refl
body_untold false FredFrame AtJump = refl
body_untold false FredFrame AtItem = refl
body_untold false FredFrame (AtNumber n) = refl
body_untold false FredFrame (AtNumbers rcx rax rdx) = refl
body_untold false FredFrame (AtKick to) = refl
body_untold false FredFrame AtUserWord = refl
body_untold false FredFrame (AtPageWord true) = refl
body_untold false FredFrame (AtPageWord false) = refl
body_untold false FredFrame BehindSti = refl
body_untold false FredFrame BehindKick = refl
body_untold false FredFrame (InCall c) = call_untold false FredFrame c
body_untold false IdtFrame AtTable = refl
body_untold false IdtFrame AtJump = refl
body_untold false IdtFrame AtItem = refl
body_untold false IdtFrame (AtNumber n) = refl
body_untold false IdtFrame (AtNumbers rcx rax rdx) = refl
body_untold false IdtFrame (AtKick to) = refl
body_untold false IdtFrame AtUserWord = refl
body_untold false IdtFrame (AtPageWord true) = refl
body_untold false IdtFrame (AtPageWord false) = refl
body_untold false IdtFrame BehindSti = refl
body_untold false IdtFrame BehindKick = refl
body_untold false IdtFrame (InCall c) = call_untold false IdtFrame c
body_untold false NmiFrame AtTable = refl
body_untold false NmiFrame AtJump = refl
body_untold false NmiFrame AtItem = refl
body_untold false NmiFrame (AtNumber n) = refl
body_untold false NmiFrame (AtNumbers rcx rax rdx) = refl
body_untold false NmiFrame (AtKick to) = refl
body_untold false NmiFrame AtUserWord = refl
body_untold false NmiFrame (AtPageWord true) = refl
body_untold false NmiFrame (AtPageWord false) = refl
body_untold false NmiFrame BehindSti = refl
body_untold false NmiFrame BehindKick = refl
body_untold false NmiFrame (InCall c) = call_untold false NmiFrame c

-- ---- offsets

pub item_offsets : ItemOffsets
unfolding spelling four_bytes
item_offsets = record { move = λ s. refl; branch = λ s d. refl; sti = refl; kick = refl; skipped = refl }
