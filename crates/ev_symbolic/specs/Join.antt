-- From the end of a block to the opening of the next: the next block's variables stand for values of the first.
use Rattle.std.specs.Prelude.{◌≡◌, true, List, get_or, map, Option, Some, None}
use Rattle.ev_isa.specs.Flags.{Flags}
use Rattle.ev_symbolic.specs.Value.{V, K, P, X, B}
use Rattle.ev_symbolic.specs.State.{SS, Win, in_win, find}
use Rattle.ev_symbolic.specs.Agrees.{Env, eval}

-- a value of the next block, in terms of those of the block before
abbrev pub inst : List V → V → V
inst θ (K n) = K n
inst θ (P t o) = P t o
inst θ (X i) = get_or θ i (K 0)
inst θ (B o a b) = B o (inst θ a) (inst θ b)

-- what an opening tells is what the state tells; an opening that doesn't tell it takes any state
abbrev pub JoinsTold : List V → Option V → Option V → Type 0
JoinsTold θ None s = Unit {0}
JoinsTold θ (Some v) s = s ≡ Some (inst θ v)

-- closed: the state s is the opening o of a block with these private windows, under these values
pub record Joins (s : SS) (θ : List V) (W : List Win) (o : SS) : Type 0 where
  pub regs : map (inst θ) o.regs ≡ s.regs
  pub gs : inst θ o.gs ≡ s.gs
  pub kernel_gs : inst θ o.kernel_gs ≡ s.kernel_gs
  pub selector : inst θ o.selector ≡ s.selector
  pub cr2 : JoinsTold θ o.cr2 s.cr2
  pub rsp0 : inst θ o.rsp0 ≡ s.rsp0
  pub words : map (λ w. find w.at s.words) o.words ≡ map (λ w. Some (inst θ w.val)) o.words
  pub inside : map (λ w. in_win W w.at) o.words ≡ map (λ w. true) o.words

-- the environment of the next block
abbrev pub env_after : Env → List V → Flags → Env
env_after e θ f = record e { var = λ i. eval e (get_or θ i (K 0)); flags = f }
