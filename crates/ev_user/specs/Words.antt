-- Registers and memory of words: numbers below 2^64. Own.
use Rattle.std.specs.Prelude.{◌≡◌, ℕ, ◌^◌, ◌<◌, true, List, get_or, nat_lt}
use Rattle.std.specs.List.{list_all}
use Rattle.ev_isa.specs.Word.{NatMap}
use Rattle.ev_isa.specs.Pages.{UserMemory}
use Rattle.ev_effect.specs.Task.{Task}
use Rattle.ev_abstract.specs.UserCode.{Goes, user_step}

-- each register is one
abbrev pub AreWords : List ℕ → Type 0
AreWords regs = (r : ℕ) → get_or regs r 0 < 2 ^ 64

-- what stands at each address is one
abbrev pub HoldsWords : NatMap ℕ → Type 0
HoldsWords words = (a : ℕ) → words a < 2 ^ 64

-- User code that goes on keeps both: its text has bytes.
abbrev pub UserKeepsWords : Type 0
UserKeepsWords = (u : UserMemory) (t t' : Task) (words : NatMap ℕ)
    → list_all (λ b. nat_lt b 256) u.text ≡ true → AreWords t.regs → HoldsWords u.words
    → user_step u t ≡ Goes t' words → AreWords t'.regs × HoldsWords words
