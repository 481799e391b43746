-- Words that a delivery places one behind the other from a place below the top of the frame on. Own.
use Rattle.std.specs.Prelude.{ℕ, zero, suc, ◌+◌, ◌%◌, Bool, true, ◌&&◌, List, [], ◌∷◌}
use Rattle.ev_mem.specs.declared.region.Region.{Region}
use Rattle.ev_symbolic.specs.Value.{M, V}
use Rattle.ev_symbolic.specs.State.{Loc, Word, Win, in_win, write, top_tag}
use Rattle.ev_symbolic.specs.Agrees.{IsOpen}

-- a place by its offset from the top, modulo 2 ^ 64
abbrev pub at_top : ℕ → Loc
at_top off = record { tag = top_tag; off = off }

-- the known words after values are placed from an offset of the top on
abbrev pub words_placed : ℕ → List V → List Word → List Word
words_placed off [] ws = ws
words_placed off (v ∷ vs) ws = words_placed ((off + 8) % M) vs (write (at_top off) v ws)

-- whether the places of so many words lie in windows
abbrev pub all_in : List Win → ℕ → ℕ → Bool
all_in W off zero = true
all_in W off (suc n) = in_win W (at_top off) && all_in W ((off + 8) % M) n

-- the kernel has access to each of these addresses
abbrev pub AllOpen : List Region → List ℕ → Type 0
AllOpen regions [] = Unit {0}
AllOpen regions (a ∷ as') = IsOpen regions a × AllOpen regions as'
