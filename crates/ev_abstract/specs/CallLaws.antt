-- What is to hold of the calls of a trace. Own.
use Rattle.std.specs.Prelude.{◌≡◌, ℕ, ◌≤◌, ◌<◌, Bool, true, false, ◌&&◌, ◌==◌, List, ◌∷◌, ◌++◌, count_by}
use Rattle.std.specs.List.{list_any}
use Rattle.ev_abstract.specs.declared.entry.Entry.{Entry}
use Rattle.ev_abstract.specs.declared.entry.Entry.TheVariants.{Call, Ran, Done}

-- whether the entry says that the call of this number, from this processor and site, was queued; that it ran
unfoldable pub is_call : ℕ → ℕ → ℕ → Entry → Bool
is_call from site number (Call p s n to func arg) = (p == from) && (s == site) && (n == number)
is_call from site number _ = false

-- whether the entry says that this call ran
unfoldable pub is_ran : ℕ → ℕ → ℕ → Entry → Bool
is_ran from site number (Ran p f s n) = (f == from) && (s == site) && (n == number)
is_ran from site number _ = false

-- each call runs at most once
abbrev pub RunsAtMostOnce : List Entry → Type 0
RunsAtMostOnce trace = (from site number : ℕ) → count_by (is_ran from site number) trace ≤ 1

-- a call that ran was queued before
abbrev pub IsQueuedBeforeItRuns : List Entry → Type 0
IsQueuedBeforeItRuns trace = (before rest : List Entry) (p from site number : ℕ) → trace ≡ before ++ Ran p from site number ∷ rest
    → list_any (is_call from site number) before ≡ true

-- a call that is reported as done ran before (number 0 names no call)
abbrev pub IsRunBeforeItIsDone : List Entry → Type 0
IsRunBeforeItIsDone trace = (before rest : List Entry) (p site number : ℕ) → 0 < number → trace ≡ before ++ Done p site number ∷ rest
    → list_any (is_ran p site number) before ≡ true

-- what is promised of the calls in a trace
pub record KeepsCalls (trace : List Entry) : Type 0 where
  pub once : RunsAtMostOnce trace
  pub queued : IsQueuedBeforeItRuns trace
  pub reported : IsRunBeforeItIsDone trace
