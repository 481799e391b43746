-- The mail of a processor. Own.
use Rattle.std.specs.Prelude.{ℕ, ◌≡◌, ◌||◌, true, false, length, List, [], ◌∷◌, bit_or}
use Rattle.ev_apic.specs.declared.inbox.Inbox.{Inbox}
use Rattle.ev_apic.specs.declared.apic.Apic.{Apic}
use Rattle.ev_apic.specs.declared.send.SendKey.{SendKey}
use Rattle.ev_apic.specs.declared.send.SendKey.TheVariants.{Fixed, Nmi}
use Rattle.ev_apic.specs.Vectors.{vectors_of, with_vector}

abbrev pub no_mail : Inbox
no_mail = record { vectors = 0 ∷ 0 ∷ 0 ∷ 0 ∷ []; nmi = false }

-- what is sent goes into the mail
abbrev pub mailed : Inbox → SendKey → Inbox
mailed m (Fixed v) = record m { vectors = with_vector m.vectors v true }
mailed m Nmi = record m { nmi = true }

-- the words of two sets of vectors together
abbrev pub united : List ℕ → List ℕ → List ℕ
united [] ys = []
united (x ∷ xs) [] = x ∷ xs
united (x ∷ xs) (y ∷ ys) = bit_or x y ∷ united xs ys

-- the local APIC after it took the mail's vectors
abbrev pub with_mail : Apic → Inbox → Apic
with_mail a m = record a { irr = united a.irr m.vectors }

-- the law of two sets together
abbrev pub UnitedIsUnion : Type 0
UnitedIsUnion =
    (xs ys : List ℕ) → length xs ≡ length ys → ((v : ℕ) → vectors_of (united xs ys) v ≡ (vectors_of xs v || vectors_of ys v))
    × (length (united xs ys) ≡ length xs)
