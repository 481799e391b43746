-- The numbers that bodies have and leave are words, below 2^64: locals, slots, shared cells, and the arguments and callers of calls. Own.
use Rattle.std.specs.Prelude.{◌≡◌, ℕ, ◌^◌, ◌<◌, true, List, [], ◌∷◌}
use Rattle.ev_body.specs.declared.item.Item.{Item}
use Rattle.ev_body.specs.declared.image.Image.{Image}
use Rattle.ev_body.specs.WellFormed.{has_operands}
use Rattle.ev_abstract.specs.Context.{CallId, BodyContext}
use Rattle.ev_abstract.specs.Machine.{Processor, Machine, processor, task, opening}
use Rattle.ev_body.specs.WellFormed.{IsImage}
use Rattle.ev_abstract.specs.ItemMeaning.{item_step}
use Rattle.ev_user.specs.Words.{AreWords, HoldsWords}

-- the callers' numbers
abbrev pub AreCallers : List CallId → Type 0
AreCallers [] = Unit {0}
AreCallers (k ∷ ks) = (k.from < 2 ^ 64) × AreCallers ks

-- a context's locals, and the callers of the calls that it still has to run
pub record IsOfWords (b : BodyContext) : Type 0 where
  pub locals : AreWords b.locals
  pub calls : AreCallers b.calls

-- those of each
abbrev pub AreOfWords : List BodyContext → Type 0
AreOfWords [] = Unit {0}
AreOfWords (b ∷ below) = IsOfWords b × AreOfWords below

-- of a processor, with its slots, its calls and its queue
pub record HasWords (x : Processor) : Type 0 where
  pub bodies : AreOfWords x.bodies
  pub slots : HoldsWords x.slots
  pub arguments : (k : ℕ) → (x.records k).arg < 2 ^ 64
  pub queue : AreCallers x.queue

-- of the machine, with the shared cells
pub record HoldsNumbers (m : Machine) : Type 0 where
  pub each : (p : ℕ) → HasWords (processor m p)
  pub cells : HoldsWords m.cells

-- the opening's are
abbrev pub OpeningHoldsNumbers : Type 0
OpeningHoldsNumbers = (image : Image) → IsImage image → HoldsNumbers (opening image)

-- An item keeps them, where user code's words and the task's registers are words too.
abbrev pub ItemsKeepNumbers : Type 0
ItemsKeepNumbers = (image : Image) (m : Machine) (p : ℕ) (b : BodyContext) (item : Item) (bytes low high : ℕ) → has_operands bytes low high item ≡ true
    → p < 2 ^ 64 → HoldsNumbers m → HoldsWords m.words → AreWords (task (processor m p)).regs → IsOfWords b
    → HoldsNumbers (item_step image m p b item).0
