-- Words for the openings of blocks: the bases of an activation, its frame and its saved area.
use Rattle.std.specs.Prelude.{ℕ, ◌+◌, ◌-◌, false, List, [], ◌∷◌, Option, Some, None}
use Rattle.ev_symbolic.specs.Value.{M, V, P, X, FVar}
use Rattle.ev_symbolic.specs.State.{Loc, Word, Win, SS, absolute}

abbrev pub word : Loc → V → Word
word l v = record { at = l; val = v }

-- the area of the processor
abbrev pub gs_tag : ℕ
gs_tag = 17

-- the address so far below the top of the frame
abbrev pub below : ℕ → Loc
below n = record { tag = 16; off = M - n }

abbrev pub at_base : ℕ → ℕ → Loc
at_base t n = record { tag = t; off = n }

abbrev pub gs_word : ℕ → Loc
gs_word n = at_base gs_tag n

-- windows: the n bytes below the top of a frame, and n bytes from an offset of a base on
abbrev pub win_below : ℕ → ℕ → Win
win_below t n = record { tag = t; lo = M - n; len = n }

abbrev pub win_at : ℕ → ℕ → ℕ → Win
win_at t o n = record { tag = t; lo = o; len = n }

-- the registers at an opening: variable r is register r
abbrev pub all_regs : V → List V
all_regs rsp = X 0 ∷ X 1 ∷ X 2 ∷ X 3 ∷ rsp ∷ X 5 ∷ X 6 ∷ X 7 ∷ X 8 ∷ X 9 ∷ X 10 ∷ X 11 ∷ X 12 ∷ X 13 ∷ X 14 ∷ X 15 ∷ []

-- words from a place up
abbrev pub words_from : ℕ → ℕ → List V → List Word
words_from t o [] = []
words_from t o (v ∷ vs) = word (at_base t o) v ∷ words_from t (o + 8) vs

-- a state with kernel GS: 60 the kernel GS base, 61 the selector; of CR2 nothing is told
abbrev pub opening : ℕ → V → List Word → SS
opening a rsp words = record {
  regs = all_regs rsp;
  rip = absolute a;
  flags = FVar;
  gs = P gs_tag 0;
  kernel_gs = X 60;
  selector = X 61;
  cr2 = None;
  rsp0 = P 16 0;
  blocked = false;
  words = words;
}

-- the state that a run came to, or another where it came to none
abbrev pub end_or : SS → Option SS → SS
end_or s None = s
end_or s (Some t) = t
