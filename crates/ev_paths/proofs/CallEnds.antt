-- What the blocks of call items come to: closed facts, each by computation, with the numbers of items as variables.
use Rattle.std.proofs.Common.{◌≡◌, ℕ, zero, suc, ◌<◌, ◌≤◌, Bool, true, false, List, set, get_or, refl, subst}
use Rattle.ev_isa.specs.Spelling.{spelling, four_bytes}
use Rattle.ev_symbolic.specs.Value.{V, K, P, X}
use Rattle.ev_symbolic.specs.Names.{record_tag}
use Rattle.ev_blocks.specs.Shapes.{Layout, FredFrame, IdtFrame, NmiFrame}
use Rattle.ev_blocks.specs.Calls.{BehindWait, BehindCall, AtTurn, AtTaken, state_word, call_end}
use Rattle.ev_paths.specs.CallEnds.{CallComes, AllCallEnds, Fills, Links, item_regs, answered, behind_test, behind_taken, behind_wait}
use Rattle.ev_paths.proofs.Locals.{from_six}

-- the registers when the argument is stored
abbrev at_store : Layout → ℕ → List V
at_store layout func = set (set (item_regs layout) 0 (K func)) 3 (P record_tag 0)

abbrev argument_of : Layout → (func s : ℕ) → V
argument_of layout func s = get_or (at_store layout func) s (K 0)

argument_is : (layout : Layout) (func s : ℕ) → 6 ≤ s → s < 14 → argument_of layout func s ≡ X s
argument_is layout func = from_six (λ s. argument_of layout func s ≡ X s) refl refl refl refl refl refl refl refl

fills : (fred : Bool) (layout : Layout) (address func to s : ℕ) → Fills fred layout address func to s (argument_of layout func s)
unfolding spelling four_bytes
fills fred FredFrame address func to s = record {
  z = _;
  runs = refl;
  continues = record {
    joins = record { regs = refl; gs = refl; kernel_gs = refl; selector = refl; cr2 = tt; rsp0 = refl; words = refl; inside = refl };
    rip = refl;
    blocked = refl;
  };
}
fills fred IdtFrame address func to s = record {
  z = _;
  runs = refl;
  continues = record {
    joins = record { regs = refl; gs = refl; kernel_gs = refl; selector = refl; cr2 = tt; rsp0 = refl; words = refl; inside = refl };
    rip = refl;
    blocked = refl;
  };
}
fills fred NmiFrame address func to s = record {
  z = _;
  runs = refl;
  continues = record {
    joins = record { regs = refl; gs = refl; kernel_gs = refl; selector = refl; cr2 = tt; rsp0 = refl; words = refl; inside = refl };
    rip = refl;
    blocked = refl;
  };
}

wait : (fred : Bool) (layout : Layout) (is_done : Bool)
    → CallComes fred layout (BehindWait is_done) (behind_wait is_done) (set (item_regs layout) 0 (K (state_word is_done)))
unfolding spelling four_bytes
wait fred layout true = record { z = _; runs = refl; is = refl }
wait fred layout false = record { z = _; runs = refl; is = refl }

links : (fred : Bool) (layout : Layout) (address func to : ℕ) (is_stale : Bool) → Links fred layout address func to is_stale
unfolding spelling four_bytes
links fred FredFrame address func to is_stale = record { z = _; runs = refl; is = refl }
links fred IdtFrame address func to is_stale = record { z = _; runs = refl; is = refl }
links fred NmiFrame address func to is_stale = record { z = _; runs = refl; is = refl }

turn : (fred : Bool) (layout : Layout) (left : ℕ) → CallComes fred layout (AtTurn left) (behind_test left) (item_regs layout)
unfolding spelling four_bytes
turn fred layout zero = record { z = _; runs = refl; is = refl }
turn fred layout (suc n) = record { z = _; runs = refl; is = refl }

taken : (fred : Bool) (layout : Layout) (is_some : Bool) → CallComes fred layout (AtTaken is_some) (behind_taken is_some) (item_regs layout)
unfolding spelling four_bytes
taken fred layout true = record { z = _; runs = refl; is = refl }
taken fred layout false = record { z = _; runs = refl; is = refl }

-- the answer goes into a local
abbrev Answers : Bool → Layout → Bool → ℕ → Type 0
Answers fred layout is_first s = CallComes fred layout (BehindCall s is_first) call_end (answered layout s is_first)

answer : (fred : Bool) (layout : Layout) (is_first : Bool) (s : ℕ) → 6 ≤ s → s < 14 → Answers fred layout is_first s
unfolding spelling four_bytes
answer fred layout true = from_six (Answers fred layout true)
    (record { z = _; runs = refl; is = refl })
    (record { z = _; runs = refl; is = refl })
    (record { z = _; runs = refl; is = refl })
    (record { z = _; runs = refl; is = refl })
    (record { z = _; runs = refl; is = refl })
    (record { z = _; runs = refl; is = refl })
    (record { z = _; runs = refl; is = refl })
    (record { z = _; runs = refl; is = refl })
answer fred layout false = from_six (Answers fred layout false)
    (record { z = _; runs = refl; is = refl })
    (record { z = _; runs = refl; is = refl })
    (record { z = _; runs = refl; is = refl })
    (record { z = _; runs = refl; is = refl })
    (record { z = _; runs = refl; is = refl })
    (record { z = _; runs = refl; is = refl })
    (record { z = _; runs = refl; is = refl })
    (record { z = _; runs = refl; is = refl })

pub call_ends : AllCallEnds
unfolding spelling four_bytes
call_ends fred layout = record {
  site = λ k. record { z = _; runs = refl; is = refl };
  wait = wait fred layout;
  busy = λ s. record { z = _; runs = refl; is = refl };
  fills = λ address func to s low high.
      subst (Fills fred layout address func to s) (argument_is layout func s low high) (fills fred layout address func to s);
  links = links fred layout;
  answers = λ s first. answer fred layout first s;
  take = record { z = _; runs = refl; is = refl };
  behind_take = λ left. record { z = _; runs = refl; is = refl };
  turn = turn fred layout;
  behind_turn = λ left. record { z = _; runs = refl; is = refl };
  taken = taken fred layout;
  finish = record { z = _; runs = refl; is = refl };
  behind_next = record { z = _; runs = refl; is = refl };
}
