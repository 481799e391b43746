-- The generator of scripts, and the checksum of a trace. Own.
use Rattle.std.specs.Prelude.{ℕ, zero, suc, ◌+◌, ◌*◌, ◌/◌, ◌%◌, ◌^◌, nat_lt, ◌==◌, if◌then◌else◌, List, [], ◌∷◌, map, filter, length, get_or}
use Rattle.ev_body.specs.declared.key.Key.{Key}
use Rattle.ev_body.specs.declared.key.Key.TheVariants.{Nmi, Irq}
use Rattle.ev_body.specs.declared.image.Image.{Image}
use Rattle.ev_isa.specs.Word.{numbers_from}
use Rattle.ev_abstract.specs.Script.{has_body_of}
use Rattle.ev_abstract.specs.declared.script_line.Line.{Line}
use Rattle.ev_abstract.specs.declared.script_line.Line.TheVariants.{Turn, Edge, Arrive, Accept}

-- the next state of the generator, a linear congruence modulo 2^64 with Knuth's factor for MMIX
abbrev pub next_seed : ℕ → ℕ
next_seed x = (x * 6364136223846793005 + 1442695040888963407) % 2 ^ 64

-- the keys that can arrive: nmi first, then the interrupts by rising vector
abbrev pub arriving : Image → List Key
arriving image = filter (has_body_of image) (Nmi ∷ map Irq (numbers_from 0x20 0xe0))

-- one of the keys arrives; where none can, a turn is made
abbrev pub arrival : List Key → ℕ → ℕ → Line
arrival keys p u = if length keys == 0 then Turn p else Arrive p (get_or keys (u % length keys) Nmi)

-- the line of a number r, for n processors
abbrev pub made_line : ℕ → List Key → ℕ → Line
made_line n keys r = by (r % n) (r / n % 8) (r / (8 * n))
  where
    by : ℕ → ℕ → ℕ → Line
    by p q u = if nat_lt q 5 then Turn p else (if q == 5 then Edge p (1 + u % 40) else (if q == 6 then arrival keys p u else Accept p))

-- so many lines, after the seed x
unfoldable pub made_lines : ℕ → List Key → ℕ → ℕ → List Line
made_lines n keys x zero = []
made_lines n keys x (suc count) = let x' : ℕ = next_seed x in made_line n keys (x' / 2 ^ 33) ∷ made_lines n keys x' count

-- the script of so many lines for an image, from a seed
abbrev pub made_script : Image → ℕ → ℕ → List Line
made_script image seed count = made_lines image.processors (arriving image) seed count

-- the checksum of bytes, from x on
abbrev pub checksum : ℕ → List ℕ → ℕ
checksum x [] = x
checksum x (b ∷ bs) = checksum ((x * 31 + b) % 2 ^ 64) bs
