-- What it is for a block to come to the next one, or to a return. Own.
use Rattle.std.specs.Prelude.{◌≡◌, ℕ, Bool, true, false, List, [], ◌∷◌, map, Option, Some, None}
use Rattle.ev_symbolic.specs.Value.{V, K, P}
use Rattle.ev_symbolic.specs.State.{Word, SS, Block, absolute, find}
use Rattle.ev_symbolic.specs.Run.{brun, every}
use Rattle.ev_symbolic.specs.Join.{Joins}
use Rattle.ev_symbolic.specs.Openings.{end_or, word, gs_word}
use Rattle.ev_symbolic.specs.Names.{next_task_tag, next_top_tag}

-- the state that a block comes to
abbrev pub end_of : Block → SS
end_of b = end_or b.opening (brun b b.steps)

-- in no state of a block anything is told of CR2
abbrev pub is_untold : Option V → Bool
is_untold None = true
is_untold (Some v) = false

-- so it holds with any CR2
abbrev pub TellsNoCr2 : Block → Type 0
TellsNoCr2 b = every (λ s. is_untold s.cr2) b ≡ true

-- a state is the opening of the block, under these values of its variables
pub record Continues (s : SS) (θ : List V) (b : Block) : Type 0 where
  pub joins : Joins s θ b.ground.known b.opening
  pub rip : s.rip ≡ b.opening.rip
  pub blocked : s.blocked ≡ b.opening.blocked

-- words that a state knows
abbrev pub HasWords : SS → List Word → Type 0
HasWords s ws = map (λ (w : Word). find w.at s.words) ws ≡ map (λ (w : Word). Some w.val) ws

-- behind a switch, which clears the mark: the top of the next task's stack and its words are the running task's
abbrev pub next_names : List Word
next_names = word (gs_word 0x10) (P next_top_tag 0) ∷ word (gs_word 0x18) (P next_task_tag 0) ∷ word (gs_word 0x20) (K 0) ∷ []

-- an entry comes to the opening of the next block
pub record Enters (b : Block) (z : SS) (θ : List V) (next : Block) : Type 0 where
  pub runs : brun b b.steps ≡ Some z
  pub continues : Continues z θ next

-- An exit comes to its return with these registers and these bases of GS, and the words that the return reads stand.
pub record Returns (b : Block) (z : SS) (place : ℕ) (restored : List V) (base other chosen level : V) (frame : List Word) : Type 0 where
  pub runs : brun b b.steps ≡ Some z
  pub rip : z.rip ≡ absolute place
  pub regs : z.regs ≡ restored
  pub gs : z.gs ≡ base
  pub kernel_gs : z.kernel_gs ≡ other
  pub selector : z.selector ≡ chosen
  pub rsp0 : z.rsp0 ≡ level
  pub blocked : z.blocked ≡ false
  pub words : HasWords z frame
