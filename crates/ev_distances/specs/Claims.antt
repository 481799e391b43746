-- What is proved of distances, as the contract of this crate states it.
use Rattle.std.specs.Prelude.{◌≡◌, ◌≢◌, ℕ, ◌+◌, ◌≤◌, true, List}
use Rattle.ev_body.specs.declared.image.Image.{Image}
use Rattle.ev_mem.specs.declared.region.Region.{Region}
use Rattle.ev_symbolic.specs.State.{Win}
use Rattle.ev_symbolic.specs.Agrees.{Env, Apart, Far, Open}
use Rattle.ev_concrete.specs.Opening.{regions}
use Rattle.ev_distances.specs.Form.{Form, Where, wins_of, Each, Fitting, depth_of, all_apart, apart_in_one, apart_on_two_stacks, apart_by_depth, apart_at_one_top}
use Rattle.ev_distances.specs.Span.{Span, AllLocated, AllApart, OthersApart, AllCovered, all_aligned}

-- windows of two activations whose intervals are apart share no place
abbrev pub ApartIsFar : Type 0
ApartIsFar = (e f : Env) (W O : List Win) (ss ts : List Span) → AllLocated e W ss → AllLocated f O ts → AllApart ss ts → Far e W f O

-- of one activation, two places are one address only if they are one place
abbrev pub OthersAreApart : Type 0
OthersAreApart = (e : Env) (W O : List Win) (ss ts : List Span) → AllLocated e W ss → AllLocated e O ts → OthersApart W ss O ts → Apart e W O

-- the kernel reads and writes the words of aligned windows whose intervals are the kernel's
abbrev pub CoveredIsOpen : Type 0
CoveredIsOpen = (e : Env) (regions : List Region) (W : List Win) (ss : List Span) → AllLocated e W ss → all_aligned W ss ≡ true → AllCovered regions ss
    → Open e W regions

-- ---- by form

-- the windows of one activation lie apart where a closed test of their forms says so
abbrev pub FormsAreApart : Type 0
FormsAreApart = (n : ℕ) (e : Env) (x : Where) (fs gs : List Form) → Fitting n e x fs → Fitting n e x gs → all_apart apart_in_one fs gs ≡ true
    → Apart e (wins_of fs) (wins_of gs)

-- the kernel has access to their words, in the memory of an image
abbrev pub FormsAreOpen : Type 0
FormsAreOpen = (image : Image) (e : Env) (x : Where) (fs : List Form) → Fitting image.processors e x fs → Open e (wins_of fs) (regions image)

-- Windows of two activations: of two processors; on two stacks; on one stack, the second below all of the first; and at one place of a stack.
abbrev pub OfTwoProcessors : Type 0
OfTwoProcessors = (n : ℕ) (e e' : Env) (x y : Where) (fs gs : List Form) → Fitting n e x fs → Fitting n e' y gs → x.p ≢ y.p
    → Far e (wins_of fs) e' (wins_of gs)

-- on two stacks, where the first may know the next task's too
abbrev pub OnTwoStacks : Type 0
OnTwoStacks = (n : ℕ) (e e' : Env) (x y : Where) (fs gs : List Form) → Fitting n e x fs → Fitting n e' y gs → x.stack ≢ y.stack → x.next ≢ y.stack
    → all_apart apart_on_two_stacks fs gs ≡ true → Far e (wins_of fs) e' (wins_of gs)

-- all of a form of the first is in use above the second
abbrev pub IsAbove : Where → Where → Form → Type 0
IsAbove x y f = x.used + depth_of f ≤ y.used

-- on one stack, the second below all of the first
abbrev pub ByDepth : Type 0
ByDepth = (n : ℕ) (e e' : Env) (x y : Where) (fs gs : List Form) → Fitting n e x fs → Fitting n e' y gs → Each (IsAbove x y) fs
    → all_apart apart_by_depth fs gs ≡ true → Far e (wins_of fs) e' (wins_of gs)

-- at one place of a stack
abbrev pub AtOneTop : Type 0
AtOneTop = (n : ℕ) (e e' : Env) (x y : Where) (fs gs : List Form) → Fitting n e x fs → Fitting n e' y gs → x.used ≡ y.used
    → all_apart apart_at_one_top fs gs ≡ true → Far e (wins_of fs) e' (wins_of gs)
