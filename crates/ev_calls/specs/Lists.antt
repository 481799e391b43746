-- Lists of call records: what a queue, a list that is turned round and a body's list are in memory, and what each write makes of them. Own.
use Rattle.std.specs.Prelude.{◌≡◌, ◌≢◌, ◌⊎◌, ℕ, ◌+◌, ◌<◌, List, [], ◌∷◌, ◌++◌, reverse}
use Rattle.ev_isa.specs.Word.{NatMap, put_at}
use Rattle.ev_abstract.specs.Context.{CallId}
use Rattle.ev_listing.specs.AddressMap.{pcpu, head_offset, record_address}
use Rattle.ev_calls.specs.Records.{Linked}

-- where the record of a call stands, and the word that links it
abbrev pub address_of : CallId → ℕ
address_of k = record_address k.from k.site

-- the word that links it
abbrev pub link_of : CallId → ℕ
link_of k = address_of k + 0x18

-- a call of a processor and site that there may be
abbrev pub IsCall : CallId → Type 0
IsCall k = (k.from < 32) × (k.site < 8)

-- another call
abbrev pub IsOther : CallId → CallId → Type 0
IsOther k j = (k.from ≢ j.from) ⊎ (k.site ≢ j.site)

-- the call isn't one of these
abbrev pub IsNoneOf : CallId → List CallId → Type 0
IsNoneOf k [] = Unit {0}
IsNoneOf k (j ∷ js) = IsOther k j × IsNoneOf k js

-- each of these has its link still
abbrev pub KeepLinks : NatMap ℕ → NatMap ℕ → List CallId → Type 0
KeepLinks m n [] = Unit {0}
KeepLinks m n (k ∷ ks) = (n (link_of k) ≡ m (link_of k)) × KeepLinks m n ks

-- the queue of a processor: the head leads to the last call
abbrev pub QueueIs : NatMap ℕ → ℕ → List CallId → Type 0
QueueIs words p queue = Linked words (words (pcpu p + head_offset)) (reverse queue)

-- A list that `take` turns round, in the order in which its calls run: those that are left are linked the last one first, those that are turned the first one
-- first.
pub record IsTurning (words : NatMap ℕ) (left turned : ℕ) (calls : List CallId) : Type 0 where
  pub ahead : List CallId
  pub behind : List CallId
  pub are : calls ≡ reverse ahead ++ behind
  pub lead : Linked words left ahead
  pub follow : Linked words turned behind

-- ---- laws

-- two calls with one address are one
abbrev pub AddressesDiffer : Type 0
AddressesDiffer = (k j : CallId) → IsCall k → IsCall j → IsOther k j → address_of k ≢ address_of j

-- who leaves the links leaves the list
abbrev pub ListsStay : Type 0
ListsStay = (m n : NatMap ℕ) (a : ℕ) (ks : List CallId) → KeepLinks m n ks → Linked m a ks → Linked n a ks

-- a list that begins at 0 is empty, and no other one does
abbrev pub EmptyAtZero : Type 0
EmptyAtZero = (words : NatMap ℕ) (ks : List CallId) → Linked words 0 ks → ks ≡ []

-- the first call of a list that isn't empty
pub record HasFirst (words : NatMap ℕ) (a : ℕ) (ks : List CallId) : Type 0 where
  pub first : CallId
  pub rest : List CallId
  pub are : ks ≡ first ∷ rest
  pub is_call : IsCall first
  pub at : a ≡ address_of first
  pub linked : Linked words (words (link_of first)) rest

-- so it is elsewhere
abbrev pub FirstElsewhere : Type 0
FirstElsewhere = (words : NatMap ℕ) (a : ℕ) (ks : List CallId) → a ≢ 0 → Linked words a ks → HasFirst words a ks

-- The exchange of `call`, whose record has the old head as its link: the call is the last one of the queue.
abbrev pub QueuesGrow : Type 0
QueuesGrow = (words : NatMap ℕ) (p : ℕ) (k : CallId) (queue : List CallId) → p < 32 → IsCall k → words (link_of k) ≡ words (pcpu p + head_offset)
    → QueueIs words p queue → QueueIs (put_at words (pcpu p + head_offset) (address_of k)) p (queue ++ k ∷ [])

-- the exchange of `take`: the whole queue is left to be turned, and the queue is empty
abbrev pub QueuesAreTaken : Type 0
QueuesAreTaken = (words : NatMap ℕ) (p : ℕ) (queue : List CallId) → p < 32 → QueueIs words p queue
    → IsTurning (put_at words (pcpu p + head_offset) 0) (words (pcpu p + head_offset)) 0 queue × QueueIs (put_at words (pcpu p + head_offset) 0) p []

-- a record that is turned: its link leads to those that were turned before
abbrev pub ListsTurn : Type 0
ListsTurn = (words : NatMap ℕ) (left turned : ℕ) (calls : List CallId) (t : IsTurning words left turned calls) (h : HasFirst words left t.ahead)
    → IsNoneOf h.first h.rest → IsNoneOf h.first t.behind
    → IsTurning (put_at words (link_of h.first) turned) (words (link_of h.first)) left calls

-- where none is left, the calls are those that were turned
abbrev pub ListsAreTurned : Type 0
ListsAreTurned = (words : NatMap ℕ) (turned : ℕ) (calls : List CallId) → IsTurning words 0 turned calls → Linked words turned calls
