-- The local APIC (SDM volume 3, 10.8, after x2APIC).
use Rattle.std.specs.Prelude.{ℕ, ◌≡◌, ◌<◌, ◌≤◌, ◌/◌, ◌%◌, true, false, ◌&&◌, ◌||◌, ◌==◌, length, nat_lt, Option, Some, None, max, List, get_or, set, bit_or}
use Rattle.ev_isa.specs.Word.{NatSet, bit, greatest_below}
use Rattle.ev_apic.specs.declared.apic.Apic.{Apic}
use Rattle.ev_apic.specs.Vectors.{vectors_of, with_vector}

-- the vectors that are requested (IRR)
abbrev pub requested : Apic → NatSet
requested a = vectors_of a.irr

-- the vectors in service (ISR)
abbrev pub in_service : Apic → NatSet
in_service a = vectors_of a.isr

-- the class of a vector (SDM volume 3, 10.8.3)
abbrev pub class_of : Option ℕ → ℕ
class_of None = 0
class_of (Some v) = v / 16

-- the class of the priority: of TPR or of the greatest vector in service
abbrev pub priority_class : Apic → ℕ
priority_class a = max (a.tpr / 16) (class_of (greatest_below 256 (in_service a)))

-- the requested vector that is delivered next: the greatest whose class exceeds that of the priority
unfoldable pub next_vector : Apic → Option ℕ
next_vector a = greatest_below 256 (λ v. requested a v && nat_lt (priority_class a) (v / 16))

-- the bits of a word are requested
abbrev pub accepted : Apic → ℕ → ℕ → Apic
accepted a word bits = record a { irr = set a.irr word (bit_or (get_or a.irr word 0) bits) }

-- a vector goes from IRR to ISR
abbrev pub begun : Apic → ℕ → Apic
begun a v = record a { irr = with_vector a.irr v false; isr = with_vector a.isr v true }

-- the words without a vector
abbrev pub without : List ℕ → Option ℕ → List ℕ
without ws None = ws
without ws (Some v) = with_vector ws v false

-- the end of an interrupt: the greatest vector leaves ISR
abbrev pub ended : Apic → Apic
ended a = record a { isr = without a.isr (greatest_below 256 (in_service a)) }

-- The next vector is the greatest of IRR whose class exceeds that of the priority, and there is none exactly where there is no such vector:
abbrev pub IsNextVector : Apic → Option ℕ → Type 0
IsNextVector a None = (u : ℕ) → u < 256 → requested a u ≡ true → u / 16 ≤ priority_class a
IsNextVector a (Some v) =
    (v < 256) × (requested a v ≡ true) × (priority_class a < v / 16) × ((u : ℕ) → u < 256 → requested a u ≡ true → priority_class a < u / 16 → u ≤ v)

-- the vector that is chosen is the greatest that qualifies
abbrev pub NextIsGreatest : Type 0
NextIsGreatest = (a : Apic) → IsNextVector a (next_vector a)

-- and exactly the given bits of a word are requested besides.
abbrev pub AcceptedSetsBits : Type 0
AcceptedSetsBits =
    (a : Apic) (word bits u : ℕ) → length a.irr ≡ 4 → word < 4 → requested (accepted a word bits) u ≡ (requested a u || ((u / 64 == word) && bit (u % 64) bits))
