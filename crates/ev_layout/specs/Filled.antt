-- Spans of memory that are filled with the words of the opening. Own.
use Rattle.std.specs.Prelude.{ℕ, ◌+◌, ◌-◌, ◌*◌, ◌/◌, ◌%◌, Bool, ◌&&◌, ◌||◌, nat_le, if◌then◌else◌, List, [], ◌∷◌, ◌++◌, length, map, flat_map}
use Rattle.std.specs.List.{list_any, list_all}
use Rattle.ev_isa.specs.Word.{NatMap, is_aligned, numbers_from}
use Rattle.ev_mem.specs.Memory.{page_map}
use Rattle.ev_asm.specs.declared.block.Block.{Block}
use Rattle.ev_listing.specs.AddressMap.{pcpu, user_table, kernel_table, idt_base, cells_base, task_words, stack_top, fred_page, code_end, body_code}
use Rattle.ev_concrete.specs.Opening.{within}
use Rattle.ev_layout.specs.declared.fill.Span.{Span}

abbrev pub span : ℕ → ℕ → Span
span base count = record { base = base; count = count }

-- the words of a span, and of some spans, are those of f, and all others as before
abbrev pub is_in : ℕ → Span → Bool
is_in a s = within s.base (8 * s.count) a

abbrev pub is_covered : List Span → ℕ → Bool
is_covered ss a = list_any (is_in a) ss

abbrev pub filled : NatMap ℕ → (base count : ℕ) → NatMap ℕ → NatMap ℕ
filled f base count words a = if is_aligned a && within base (8 * count) a then f a else words a

abbrev pub all_filled : NatMap ℕ → List Span → NatMap ℕ → NatMap ℕ
all_filled f ss words a = if is_aligned a && is_covered ss a then f a else words a

-- the stacks of a processor that hold saved areas of tasks at the opening
abbrev pub stack_spans : ℕ → List Span
stack_spans p = map (λ n. span (stack_top p n - 0x2000) 0x400) (numbers_from 1 3)

-- the areas and words of so many processors, and the tables
abbrev pub table_spans : ℕ → List Span
table_spans p =
    span (pcpu 0) (0x2000 * p) ∷ span (task_words 0 0) (0x20 * p) ∷ span user_table 257 ∷ span kernel_table 257 ∷ span idt_base 512 ∷ span page_map 256
    ∷ span cells_base 256 ∷ []

-- the words in which a block's bytes lie
abbrev pub block_span : Block → Span
block_span b = span (b.address - b.address % 8) ((b.address % 8 + length b.bytes + 7) / 8)

-- all words that may differ from 0 at the opening, but for those of user text
abbrev pub all_spans : ℕ → List Block → List Span
all_spans p bs = flat_map stack_spans (numbers_from 0 p) ++ table_spans p ++ map block_span bs

-- whether a block lies in the code of the kernel or of so many bodies
unfoldable pub is_placed : ℕ → Block → Bool
is_placed n b =
    (nat_le fred_page b.address && nat_le (b.address + length b.bytes) code_end)
    || (nat_le (body_code 0) b.address && nat_le (b.address + length b.bytes) (body_code n))

abbrev pub are_placed : ℕ → List Block → Bool
are_placed n bs = list_all (is_placed n) bs
