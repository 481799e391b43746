-- The regions in the order of their addresses, by which an address is searched. Own.
use Rattle.std.specs.Prelude.{◌≡◌, ◌<◌, ◌≤◌, ◌⊎◌, ℕ, ◌+◌, ◌*◌, true, false, nat_lt, if◌then◌else◌, List, [], ◌∷◌, Option, Some, None, length, get_or, All, Contains}
use Rattle.std.specs.List.Sorted.{IsPermutation}
use Rattle.ev_mem.specs.declared.region.Region.{Region}
use Rattle.ev_mem.specs.declared.lookup.Span.{Span}
use Rattle.ev_mem.specs.Mapped.{is_within, AreMapped}

-- the spans of regions whose words begin at number n: a region without words has none
abbrev pub spans_from : ℕ → List Region → List Span
spans_from n [] = []
spans_from n (r ∷ rs) = if nat_lt 0 r.words then record { region = r; start = n } ∷ spans_from (n + r.words) rs else spans_from (n + r.words) rs

-- the first span that holds an address
abbrev pub first_span : List Span → ℕ → Option Span
first_span [] a = None
first_span (s ∷ ss) a = if is_within s.region a then Some s else first_span ss a

-- the span of regions that holds an address
abbrev pub span_in : List Region → ℕ → Option Span
span_in rs a = first_span (spans_from 0 rs) a

-- a span that holds an address, or none where none does
abbrev pub IsHolder : List Span → ℕ → Option Span → Type 0
IsHolder ss a None = All (λ (s : Span). is_within s.region a ≡ false) ss
IsHolder ss a (Some s) = Contains ss s × (is_within s.region a ≡ true)

-- spans in the order of their addresses, of which no two overlap
abbrev pub AreAscending : List Span → Type 0
AreAscending ss =
    (i j : ℕ) (d : Span) → i ≤ j → j < length ss
    → (get_or ss i d ≡ get_or ss j d) ⊎ ((get_or ss i d).region.base + 8 * (get_or ss i d).region.words ≤ (get_or ss j d).region.base)

-- the spans by which the addresses of regions are searched
pub record AreSearched (regions : List Region) (spans : List Span) : Type 0 where
  pub same : IsPermutation (spans_from 0 regions) spans
  pub ascending : AreAscending spans

-- what memory keeps: the words of its regions, and the spans to search
pub record IsKept (regions : List Region) (words : List ℕ) (spans : List Span) : Type 0 where
  pub mapped : AreMapped regions words
  pub searched : AreSearched regions spans
