-- Call records in memory, and how records are linked to lists. Of a record's eight words 0 says whether it is in use, 8 has the function's address, 10H the
-- argument, 18H the next record of a list, 20H the caller, 28H the number, 30H the site and 38H the function. Own; as `call_single_data` of Linux.
use Rattle.std.specs.Prelude.{◌≡◌, ℕ, ◌+◌, ◌%◌, ◌<◌, ◌^◌, true, false, not, ◌==◌, List, [], ◌∷◌}
use Rattle.ev_isa.specs.Word.{NatMap}
use Rattle.ev_abstract.specs.Context.{CallId}
use Rattle.ev_abstract.specs.Machine.{CallState, Free, Queued, Taken, CallRecord}
use Rattle.ev_listing.specs.AddressMap.{record_address}
use Rattle.ev_calls.specs.declared.record.RecordView.{RecordView}

-- ---- what stands for a record of the abstract machine

-- the words of a call record: whether it is in use, with what is called
abbrev pub RecordIs : NatMap ℕ → ℕ → CallRecord → CallState → Type 0
RecordIs words a r Free = words a ≡ 0
RecordIs words a r Queued = (words a ≡ 1) × (words (a + 0x10) ≡ r.arg) × (words (a + 0x38) ≡ r.func)
RecordIs words a r Taken = (words a ≡ 1) × (words (a + 0x10) ≡ r.arg) × (words (a + 0x38) ≡ r.func)

-- Memory holds the record of site k of processor p: whose it is, how many calls the site has queued, and the last one, if that is under way. So it is of
-- every record but one that its owner fills.
pub record HoldsRecord (words : NatMap ℕ) (p k : ℕ) (r : CallRecord) : Type 0 where
  pub from : words (record_address p k + 0x20) ≡ p
  pub site : words (record_address p k + 0x30) ≡ k
  pub number : words (record_address p k + 0x28) ≡ r.number
  pub call : RecordIs words (record_address p k) r r.state

-- call records linked from an address, in this order
abbrev pub Linked : NatMap ℕ → ℕ → List CallId → Type 0
Linked words a [] = a ≡ 0
Linked words a (k ∷ ks) = (k.from < 32) × (k.site < 8) × (a ≡ record_address k.from k.site) × Linked words (words (a + 0x18)) ks

-- ---- what is read of a record

-- the words, each cut to its field
abbrev pub record_view : NatMap ℕ → (p k : ℕ) → RecordView
record_view words p k = record {
  used = not (words (record_address p k) == 0);
  from = words (record_address p k + 0x20) % 2 ^ 32;
  func = words (record_address p k + 0x38) % 2 ^ 32;
  site = words (record_address p k + 0x30) % 2 ^ 8;
  number = words (record_address p k + 0x28);
  arg = words (record_address p k + 0x10);
}

-- of a call that is under way: that it is, its function and its argument
abbrev pub SaysCall : CallState → CallRecord → RecordView → Type 0
SaysCall Free r v = v.used ≡ false
SaysCall Queued r v = (v.used ≡ true) × (v.func ≡ r.func) × (v.arg ≡ r.arg)
SaysCall Taken r v = (v.used ≡ true) × (v.func ≡ r.func) × (v.arg ≡ r.arg)

-- a view says all that memory has of a record; whether a call is queued or taken, and for whom, stands in no word of it
pub record IsViewOf (p k : ℕ) (r : CallRecord) (v : RecordView) : Type 0 where
  pub from : v.from ≡ p
  pub site : v.site ≡ k
  pub number : v.number ≡ r.number
  pub call : SaysCall r.state r v
