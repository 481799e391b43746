-- The relation after a step of one processor: of that processor, of the others, and of the words that all share.
use Rattle.std.proofs.Common.{◌≡◌, ◌≢◌, suc, get_or, ◌⊎◌, inl, inr, ⊎_elim, ℕ, ◌+◌, ◌*◌, ◌<◌, ◌≤◌, Bool, true, false, not, List, [], ◌∷◌, length, Option, Some, None, refl, sym, ap, ◌∙◌, subst, arith, map}
use Rattle.std.specs.Prelude.{if◌then◌else◌, ◌==◌, nat_le, ◌&&◌, ◌%◌, ◌-◌}
use Rattle.std.specs.List.{list_any}
use Rattle.std.proofs.lemmas.Bool.Decides.{eqb_tells, leb_tells}
use Rattle.ev_isa.specs.Word.{NatMap, NatSet, put_at, numbers_from}
use Rattle.ev_isa.specs.declared.mode.Mode.{Mode}
use Rattle.ev_isa.specs.declared.mode.Mode.TheVariants.{Idt, Fred}
use Rattle.ev_body.specs.declared.image.Image.{Image}
use Rattle.ev_effect.specs.Task.{Task}
use Rattle.ev_mem.specs.declared.region.Region.{Region}
use Rattle.ev_mem.specs.Memory.{Memory, page_map}
use Rattle.ev_state.specs.Processor.{Processor}
use Rattle.ev_apic.specs.declared.apic.Apic.{Apic}
use Rattle.ev_apic.specs.declared.inbox.Inbox.{Inbox}
use Rattle.ev_listing.specs.AddressMap.{pcpu, slot_offset, record_address, cells_base}
use Rattle.ev_abstract.specs.Boundary.{is_nmi_body}
use Rattle.ev_abstract.specs.Context.{BodyContext, CallId}
use Rattle.ev_abstract.specs.Machine.{Machine, processor, CallRecord, CallState, Free, Queued, Taken}
use Rattle.ev_abstract.specs.Machine as abstract
use Rattle.ev_law.specs.Bases.{HasBases}
use Rattle.ev_law.specs.Legal.{Legal}
use Rattle.ev_concrete.specs.Opening.{tasks_of}
use Rattle.ev_concrete.specs.ConcreteRun.{System, Activation}
use Rattle.ev_symbolic.specs.Agrees.{with_words}
use Rattle.ev_activation.specs.Seat.{Seat}
use Rattle.ev_user.specs.Tasks.{IsTask}
use Rattle.ev_abstract.specs.declared.entry.Entry.{Entry}
use Rattle.ev_abstract.specs.CrossCall.{record_of}
use Rattle.ev_calls.specs.Lists.{QueueIs}
use Rattle.ev_call_law.specs.Calls.{is_free, is_taken, one_if, times, to_run, IsInRange, IsPlaced, KeepsCallRecords}
use Rattle.ev_call_law.proofs.Counts.{times_append, is_one}
use Rattle.ev_relation.specs.Filling.{Filling, first_fill, rest_fills, is_filled, AreFree}
use Rattle.ev_relation.specs.Tasks.{IsSaved, TssIs, CurrentIs}
use Rattle.ev_relation.specs.Nmi.{Frame, Held, Layer, Plain, LatchIs, inner_edges}
use Rattle.ev_user.specs.Words.{HoldsWords}
use Rattle.ev_user.specs.Numbers.{HoldsNumbers}
use Rattle.ev_user.specs.Sees.{IsUserWord, IsWrite}
use Rattle.ev_relation.specs.Named.{Named, UserRsp, Top, Current, Mark, Port, Head, TssTop, Slot, RecordWord, CellAt, PageBit, UserWord, address_of, is_task_word, is_call_word, is_slot, is_cell, is_page_bit, is_user_word, have_none, IsWritten, Outside, NotNamed, AreWritten, NoneOf, Changes}
use Rattle.ev_relation.specs.Domain.{IsInDomain}
use Rattle.ev_relation.specs.Relation.{ApicIs, InboxIs, HoldsCall, Chain, Runs, serves, StandsOn, Shares, Stands, body_edges, most_edges}
use Rattle.ev_relation.proofs.Maps.{at_same}
use Rattle.ev_relation.proofs.Words.{area_word, IsOffCalls, IsBeside, on_its_stack, fixed_stays, beside_stays, stacks_stay, offset_stays, area_stays, saved_stays}
use Rattle.ev_relation.proofs.Records.{RecordStays, call_stays, queue_stays}
use Rattle.ev_symbolic.proofs.Values.{and_left, and_right}
use Rattle.ev_relation.proofs.Chains.{chain_plain}
use Rattle.ev_relation.proofs.Legality.{legal_few}
use Rattle.ev_body.specs.WellFormed.{IsImage}
use Rattle.ev_abstract.specs.Accepted.{IsAccepted}
use Rattle.ev_relation.proofs.Standing.{Moves}
use Rattle.ev_relation.proofs.Stays.{IsSmall, AreSmall, FillStays, AreKept, free_small, first_is_small, rest_small, mark_spared, chain_stays, others_spared}

-- SYSCALL's RSP and the port: what blocks and `log` write of the words with a name
abbrev pub kernel_names : ℕ → List Named
kernel_names p = UserRsp p ∷ Port p ∷ []

-- ---- words of areas that it doesn't

-- the offset of a word of an area by which the kernel names tasks, or of the mark
abbrev pub IsTaskOffset : ℕ → Type 0
IsTaskOffset o = ((0x10 ≤ o) × (o < 0x28)) ⊎ ((0x400 ≤ o) × (o < 0x800))

-- and of one of calls
abbrev pub IsCallOffset : ℕ → Type 0
IsCallOffset o = (o < 0x10000) × (0x30 ≤ o) × ((o < 0x200) ⊎ (0x800 ≤ o))

pub record_word : (p i o : ℕ) → record_address p i + o ≡ pcpu p + (0x800 + 0x40 * i + o)
record_word p i o = omega arith

below_all : (o : ℕ) → IsTaskOffset o → o < 0x10000
below_all o (inl h) = let l = h.1 in omega arith
below_all o (inr h) = let l = h.1 in omega arith

beside : (a o : ℕ) → 0x28 ≤ a → a + 8 ≤ 0x400 → IsTaskOffset o → (o < a) ⊎ (a + 8 ≤ o)
beside a o l u (inl h) = let b = h.1 in inl (omega arith)
beside a o l u (inr h) = let b = h.0 in inr (omega arith)

-- addresses that no other component's name has
task_apart : (x : Named) → IsWritten x → not (is_task_word x) ≡ true → (q o : ℕ) → q < 32 → IsTaskOffset o
    → Outside (address_of x) (address_of x + 8) (pcpu q + o)
task_apart (UserRsp p) w s q o hq h = area_word p q 8 o (omega arith) (below_all o h) (inr (above_rsp o h))
  where
    above_rsp : (o : ℕ) → IsTaskOffset o → 8 + 8 ≤ o
    above_rsp o (inl h) = h.0
    above_rsp o (inr h) = let l = h.0 in omega arith
task_apart (Top p) w s q o hq h = let clash : false ≡ true = s in absurd (cc)
task_apart (Current p) w s q o hq h = let clash : false ≡ true = s in absurd (cc)
task_apart (Mark p) w s q o hq h = let clash : false ≡ true = s in absurd (cc)
task_apart (Port p) w s q o hq h = area_word p q 0x28 o (omega arith) (below_all o h) (beside 0x28 o (omega arith) (omega arith) h)
task_apart (Head p) w s q o hq h = area_word p q 0x30 o (omega arith) (below_all o h) (beside 0x30 o (omega arith) (omega arith) h)
task_apart (TssTop p) w s q o hq h = let clash : false ≡ true = s in absurd (cc)
task_apart (Slot p k) w s q o hq h =
    let l = w.1 in area_word p q (0x200 + 8 * k) o (omega arith) (below_all o h) (beside (0x200 + 8 * k) o (omega arith) (omega arith) h)
task_apart (RecordWord p k i) w s q o hq h =
    let a = w.1 in let b = w.2 in
    subst (λ z. Outside z (z + 8) (pcpu q + o)) (sym (record_word p k i))
    (area_word p q (0x800 + 0x40 * k + i) o (omega arith) (below_all o h) (inl (before_records o h)))
  where
    before_records : (o : ℕ) → IsTaskOffset o → o < 0x800 + 0x40 * k + i
    before_records o (inl h) = let l = h.1 in omega arith
    before_records o (inr h) = let l = h.1 in omega arith
task_apart (CellAt k) w s q o hq h = inl (omega arith)
task_apart (PageBit i) w s q o hq h = inl (omega arith)
task_apart (UserWord a) w s q o hq h = let l = w.1 in inr (omega arith)

pub call_apart : (x : Named) → IsWritten x → not (is_call_word x) ≡ true → (q o : ℕ) → q < 32 → IsCallOffset o
    → Outside (address_of x) (address_of x + 8) (pcpu q + o)
call_apart (UserRsp p) w s q o hq h = let l = h.1 in area_word p q 8 o (omega arith) h.0 (inr (omega arith))
call_apart (Top p) w s q o hq h = let l = h.1 in area_word p q 0x10 o (omega arith) h.0 (inr (omega arith))
call_apart (Current p) w s q o hq h = let l = h.1 in area_word p q 0x18 o (omega arith) h.0 (inr (omega arith))
call_apart (Mark p) w s q o hq h = let l = h.1 in area_word p q 0x20 o (omega arith) h.0 (inr (omega arith))
call_apart (Port p) w s q o hq h = let l = h.1 in area_word p q 0x28 o (omega arith) h.0 (inr (omega arith))
call_apart (Head p) w s q o hq h = let clash : false ≡ true = s in absurd (cc)
call_apart (TssTop p) w s q o hq h =
    area_word p q 0x408 o (omega arith) h.0 (⊎_elim (λ (b : o < 0x200). inl (omega arith)) (λ (b : 0x800 ≤ o). inr (omega arith)) h.2)
call_apart (Slot p k) w s q o hq h =
    let l = w.1 in
    area_word p q (0x200 + 8 * k) o (omega arith) h.0
    (⊎_elim (λ (b : o < 0x200). inl (omega arith)) (λ (b : 0x800 ≤ o). inr (omega arith)) h.2)
call_apart (RecordWord p k i) w s q o hq h = let clash : false ≡ true = s in absurd (cc)
call_apart (CellAt k) w s q o hq h = let l = h.0 in inl (omega arith)
call_apart (PageBit i) w s q o hq h = let l = h.0 in inl (omega arith)
call_apart (UserWord a) w s q o hq h = let l = w.1 in inr (omega arith)

slot_apart : (x : Named) → IsWritten x → not (is_slot x) ≡ true → (q k : ℕ) → q < 32 → k < 64
    → Outside (address_of x) (address_of x + 8) (pcpu q + slot_offset k)
slot_apart (UserRsp p) w s q k hq hk = area_word p q 8 (0x200 + 8 * k) (omega arith) (omega arith) (inr (omega arith))
slot_apart (Top p) w s q k hq hk = area_word p q 0x10 (0x200 + 8 * k) (omega arith) (omega arith) (inr (omega arith))
slot_apart (Current p) w s q k hq hk = area_word p q 0x18 (0x200 + 8 * k) (omega arith) (omega arith) (inr (omega arith))
slot_apart (Mark p) w s q k hq hk = area_word p q 0x20 (0x200 + 8 * k) (omega arith) (omega arith) (inr (omega arith))
slot_apart (Port p) w s q k hq hk = area_word p q 0x28 (0x200 + 8 * k) (omega arith) (omega arith) (inr (omega arith))
slot_apart (Head p) w s q k hq hk = area_word p q 0x30 (0x200 + 8 * k) (omega arith) (omega arith) (inr (omega arith))
slot_apart (TssTop p) w s q k hq hk = area_word p q 0x408 (0x200 + 8 * k) (omega arith) (omega arith) (inl (omega arith))
slot_apart (Slot p i) w s q k hq hk = let clash : false ≡ true = s in absurd (cc)
slot_apart (RecordWord p i o) w s q k hq hk =
    let a = w.1 in let b = w.2 in
    subst (λ z. Outside z (z + 8) (pcpu q + slot_offset k)) (sym (record_word p i o))
    (area_word p q (0x800 + 0x40 * i + o) (0x200 + 8 * k) (omega arith) (omega arith) (inl (omega arith)))
slot_apart (CellAt i) w s q k hq hk = inl (omega arith)
slot_apart (PageBit i) w s q k hq hk = inl (omega arith)
slot_apart (UserWord a) w s q k hq hk = let l = w.1 in inr (omega arith)

cell_apart : (x : Named) → IsWritten x → not (is_cell x) ≡ true → (k : ℕ) → k < 256 → Outside (address_of x) (address_of x + 8) (cells_base + 8 * k)
cell_apart (UserRsp p) w s k h = inr (omega arith)
cell_apart (Top p) w s k h = inr (omega arith)
cell_apart (Current p) w s k h = inr (omega arith)
cell_apart (Mark p) w s k h = inr (omega arith)
cell_apart (Port p) w s k h = inr (omega arith)
cell_apart (Head p) w s k h = inr (omega arith)
cell_apart (TssTop p) w s k h = inr (omega arith)
cell_apart (Slot p i) w s k h = let a = w.0 in let b = w.1 in inr (omega arith)
cell_apart (RecordWord p i o) w s k h = let a = w.0 in let b = w.1 in let c = w.2 in inr (omega arith)
cell_apart (CellAt i) w s k h = let clash : false ≡ true = s in absurd (cc)
cell_apart (PageBit i) w s k h = inr (omega arith)
cell_apart (UserWord a) w s k h = let l = w.1 in inr (omega arith)

page_apart : (x : Named) → IsWritten x → not (is_page_bit x) ≡ true → (i : ℕ) → i < 256 → Outside (address_of x) (address_of x + 8) (page_map + 8 * i)
page_apart (UserRsp p) w s i h = inr (omega arith)
page_apart (Top p) w s i h = inr (omega arith)
page_apart (Current p) w s i h = inr (omega arith)
page_apart (Mark p) w s i h = inr (omega arith)
page_apart (Port p) w s i h = inr (omega arith)
page_apart (Head p) w s i h = inr (omega arith)
page_apart (TssTop p) w s i h = inr (omega arith)
page_apart (Slot p k) w s i h = let a = w.0 in let b = w.1 in inr (omega arith)
page_apart (RecordWord p k o) w s i h = let a = w.0 in let b = w.1 in let c = w.2 in inr (omega arith)
page_apart (CellAt k) w s i h = inl (omega arith)
page_apart (PageBit k) w s i h = let clash : false ≡ true = s in absurd (cc)
page_apart (UserWord a) w s i h = let l = w.1 in inr (omega arith)

-- words of user code lie below all others
user_apart : (x : Named) → IsWritten x → not (is_user_word x) ≡ true → (b : ℕ) → b < 0x20000000 → Outside (address_of x) (address_of x + 8) b
user_apart (UserWord a) w s b h = let clash : false ≡ true = s in absurd (cc)
user_apart (UserRsp p) w s b h = inl (omega arith)
user_apart (Top p) w s b h = inl (omega arith)
user_apart (Current p) w s b h = inl (omega arith)
user_apart (Mark p) w s b h = inl (omega arith)
user_apart (Port p) w s b h = inl (omega arith)
user_apart (Head p) w s b h = inl (omega arith)
user_apart (TssTop p) w s b h = inl (omega arith)
user_apart (Slot p k) w s b h = inl (omega arith)
user_apart (RecordWord p k o) w s b h = inl (omega arith)
user_apart (CellAt k) w s b h = inl (omega arith)
user_apart (PageBit i) w s b h = inl (omega arith)

user_low : (b : ℕ) → IsUserWord b → b < 0x20000000
user_low b u = ⊎_elim (λ t. let k = t.1 in omega arith) (λ t. let k = t.1 in omega arith) u.1

-- so no name of a list has it
pub free : (f : Named → Bool) (a : ℕ) → ((x : Named) → IsWritten x → not (f x) ≡ true → Outside (address_of x) (address_of x + 8) a) → (names : List Named)
    → AreWritten names → have_none f names ≡ true → NotNamed names a
free f a apart [] w s = tt
free f a apart (x ∷ xs) w s = (apart x w.0 (and_left (not (f x)) _ s), free f a apart xs w.1 (and_right (not (f x)) _ s))

-- What is asked of the names of a step of p: they are ever written, and no other processor's alone.
pub record AreNames (p : ℕ) (names : List Named) : Type 0 where
  pub written : AreWritten names
  pub own : (q : ℕ) → (q ≡ p → ⊥) → NoneOf q names

-- no word of calls is among them
pub record AreCallFree (p : ℕ) (names : List Named) : Type 0 where
  pub allowed : AreNames p names
  pub calls : have_none is_call_word names ≡ true

-- and no word by which the kernel names tasks, and no slot, cell or page
pub record AreSparing (p : ℕ) (names : List Named) : Type 0 where
  pub free : AreCallFree p names
  pub tasks : have_none is_task_word names ≡ true
  pub slots : have_none is_slot names ≡ true
  pub cells : have_none is_cell names ≡ true
  pub pages : have_none is_page_bit names ≡ true

-- a word of the processor is no other's
pub own_word : (p q : ℕ) → (q ≡ p → ⊥) → Some p ≡ Some q → ⊥
own_word p q d f = d (sym (let same : p ≡ q = cc in same))

pub kernel_spares : (p : ℕ) → p < 32 → AreSparing p (kernel_names p)
kernel_spares p hp = record {
  free = record { allowed = record { written = (hp, (hp, tt)); own = λ q d. (own_word p q d, (own_word p q d, tt)) }; calls = refl };
  tasks = refl;
  slots = refl;
  cells = refl;
  pages = refl;
}

-- a step that writes none
pub none_spares : (p : ℕ) → AreSparing p []
none_spares p = record {
  free = record { allowed = record { written = tt; own = λ q d. tt }; calls = refl };
  tasks = refl;
  slots = refl;
  cells = refl;
  pages = refl;
}

-- a word of a data page, or none
abbrev pub word_names : Option (ℕ × ℕ) → List Named
word_names None = []
word_names (Some w) = UserWord w.0 ∷ []

pub word_spares : (p : ℕ) (present : NatSet) (w : Option (ℕ × ℕ)) → IsWrite present w → AreSparing p (word_names w)
word_spares p present None h = none_spares p
word_spares p present (Some w) h = record {
  free = record { allowed = record { written = (h.1, tt); own = λ q d. ((λ f. let clash : None ≡ Some q = f in cc), tt) }; calls = refl };
  tasks = refl;
  slots = refl;
  cells = refl;
  pages = refl;
}

-- what a step of kernel code leaves of user words
pub kernel_user : (p : ℕ) (σ : Seat) → p < 32 → σ.stack < 7 → (m n user : NatMap ℕ) → Changes p σ (kernel_names p) m n
    → ((b : ℕ) → IsUserWord b → m b ≡ user b) → (b : ℕ) → IsUserWord b → n b ≡ user b
kernel_user p σ hp hs m n user changes same b u =
    let l = user_low b u in changes b (inl (omega arith)) (inl (omega arith), (inl (omega arith), tt)) ∙ same b u

-- ---- records that are filled

-- where the last context fills none, those below it fill as many
pub filled_below : (k : ℕ) (fs : List (Option Filling)) → first_fill fs ≡ None → is_filled k (rest_fills fs) ≡ is_filled k fs
filled_below k [] h = refl
filled_below k (None ∷ fs) h = refl
filled_below k (Some f ∷ fs) h = absurd (cc)

pub free_below : (records : NatMap CallRecord) (fs : List (Option Filling)) → AreFree records fs → AreFree records (rest_fills fs)
free_below records [] h = tt
free_below records (f ∷ fs) h = h.1

-- ---- what a step of p says of memory

module _ (p : ℕ) (σ : Seat) (names : List Named) (hp : p < 32) (hs : σ.stack < 7) (m n : NatMap ℕ) (written : AreWritten names)
    (changes : Changes p σ names m n) where
  pub slot_same : have_none is_slot names ≡ true → (q k : ℕ) → q < 32 → k < 64 → n (pcpu q + slot_offset k) ≡ m (pcpu q + slot_offset k)
  slot_same s q k hq hk = changes (pcpu q + slot_offset k) (inl (omega arith))
      (free is_slot (pcpu q + slot_offset k) (λ x w s. slot_apart x w s q k hq hk) names written s)

  pub cell_same : have_none is_cell names ≡ true → (k : ℕ) → k < 256 → n (cells_base + 8 * k) ≡ m (cells_base + 8 * k)
  cell_same s k hk = changes (cells_base + 8 * k) (inl (omega arith)) (free is_cell (cells_base + 8 * k) (λ x w s. cell_apart x w s k hk) names written s)

  pub page_same : have_none is_page_bit names ≡ true → (i : ℕ) → i < 256 → n (page_map + 8 * i) ≡ m (page_map + 8 * i)
  page_same s i hi = changes (page_map + 8 * i) (inl (omega arith)) (free is_page_bit (page_map + 8 * i) (λ x w s. page_apart x w s i hi) names written s)

  pub user_same : have_none is_user_word names ≡ true → (b : ℕ) → IsUserWord b → n b ≡ m b
  user_same s b u = let l = user_low b u in changes b (inl (omega arith)) (free is_user_word b (λ x w s. user_apart x w s b l) names written s)

  module _ (spared : have_none is_call_word names ≡ true) where
    area_same : (q o : ℕ) → q < 32 → IsCallOffset o → n (pcpu q + o) ≡ m (pcpu q + o)
    area_same q o hq h = let small = h.0 in changes (pcpu q + o) (inl (omega arith))
        (free is_call_word (pcpu q + o) (λ x w s. call_apart x w s q o hq h) names written spared)

    record_same : (q k o : ℕ) → q < 32 → k < 8 → o < 0x40 → n (record_address q k + o) ≡ m (record_address q k + o)
    record_same q k o hq hk ho =
        let e : record_address q k + o ≡ pcpu q + (0x800 + 0x40 * k + o) = record_word q k o in
        ap n e ∙ area_same q (0x800 + 0x40 * k + o) hq (omega arith, omega arith, inr (omega arith)) ∙ sym (ap m e)

    -- ---- call records

    record_stays : (k : CallId) → (k.from < 32) × (k.site < 8) → RecordStays k m n
    record_stays k small o ho = record_same k.from k.site o small.0 small.1 ho

    holds_call : (mode : Mode) (image : Image) (q k : ℕ) (r : CallRecord) → q < 32 → k < 8 → HoldsCall mode image m q k r → HoldsCall mode image n q k r
    holds_call mode image q k r hq hk h = call_stays mode image m n q k r (record_stays (record { from = q; site = k }) (hq, hk)) h

    queue_is : (q : ℕ) (ks : List CallId) → q < 32 → QueueIs m q ks → QueueIs n q ks
    queue_is q ks hq h = queue_stays m n q ks (area_same q 0x30 hq (omega arith, omega arith, inl (omega arith)))
        (λ k bounds. record_stays k bounds) h

    -- those of each context's calls, and the record that it fills
    pub all_kept : (q : ℕ) → q < 32 → (fs : List (Option Filling)) → AreSmall fs → (bs : List BodyContext)
        → ((k : CallId) → 0 < times k (to_run bs) → (k.from < 32) × (k.site < 8)) → AreKept q fs bs m n
    all_kept q hq fs small [] bounds = tt
    all_kept q hq fs small (b ∷ below) bounds = (
      (
        (λ k h. record_stays k (bounds k (let e = times_append k b.calls (to_run below) in omega (arith, e, h)))),
        fill_kept (first_fill fs) (first_is_small fs small),
      ),
      all_kept q hq (rest_fills fs) (rest_small fs small) below (λ k h. bounds k (let e = times_append k b.calls (to_run below) in omega (arith, e, h))),
    )
      where
        fill_kept : (g : Option Filling) → IsSmall g → FillStays q g m n
        fill_kept None l = tt
        fill_kept (Some f) l = record_stays (record { from = q; site = f.site }) (hq, l)

  -- ---- the running task's words, of a processor whose they are not, or where none is among the names

  -- these words of the processor's area are as they were
  abbrev pub AreSameWords : ℕ → Type 0
  AreSameWords q = (o : ℕ) → IsTaskOffset o → n (pcpu q + o) ≡ m (pcpu q + o)

  pub tasks_same : have_none is_task_word names ≡ true → (q : ℕ) → q < 32 → AreSameWords q
  tasks_same spared q hq o h = let small = below_all o h in changes (pcpu q + o) (inl (omega arith))
      (free is_task_word (pcpu q + o) (λ x w s. task_apart x w s q o hq h) names written spared)

  pub others_same : (q : ℕ) → q < 32 → NoneOf q names → AreSameWords q
  others_same q hq none o h = offset_stays p σ names m n hp hs written changes q hq none o (below_all o h) (off_calls o h)
    where
      off_calls : (o : ℕ) → IsTaskOffset o → IsOffCalls o
      off_calls o (inl h) = let l = h.1 in inl (omega arith)
      off_calls o (inr h) = let l = h.0 in let l' = h.1 in inr (omega arith, omega arith)

  module _ (q : ℕ) (same : AreSameWords q) where
    tss_is : (mode : Mode) (r : ℕ) → TssIs mode q r m → TssIs mode q r n
    tss_is Fred r h = h
    tss_is Idt r h = same 0x408 (inr (omega arith, omega arith)) ∙ h

    pub current_is : (mode : Mode) (r : ℕ) → CurrentIs mode q r m → CurrentIs mode q r n
    current_is mode r h = record {
      top = same 0x10 (inl (omega arith, omega arith)) ∙ h.top;
      current = same 0x18 (inl (omega arith, omega arith)) ∙ h.current;
      tss = tss_is mode r h.tss;
    }

    pub mark_is : n (pcpu q + 0x20) ≡ m (pcpu q + 0x20)
    mark_is = same 0x20 (inl (omega arith, omega arith))

-- ---- the processor that made it

pub latch_again : (layer : Layer) (f : Frame) (nmi nmi' latch latch' blocked blocked' x : Bool) → latch' ≡ latch → blocked' ≡ nmi'
    → LatchIs layer f nmi latch blocked x → LatchIs layer f nmi' latch' blocked' x
latch_again Plain Held nmi nmi' latch latch' blocked blocked' x l b h = (h.0 ∙ sym l, b)

pub latch_parts : (layer : Layer) (f : Frame) (nmi latch blocked x : Bool) → LatchIs layer f nmi latch blocked x → (x ≡ latch) × (blocked ≡ nmi)
latch_parts Plain Held nmi latch blocked x h = h

module _ (mode : Mode) (image : Image) where
  pub as_runs : (layer : Layer) (p left more r to : ℕ) (t : Task) (f : Frame) (sw : Bool) (fs : List (Option Filling)) (bs : List BodyContext)
      (as' : List Activation) (c : Processor)
      (m : Memory) → Chain mode image p left r to t f sw fs bs as' c m → Runs mode image p left more r to t layer f sw fs bs as' c m
  as_runs Plain p left more r to t f sw fs bs as' c m h = h

  pub as_chain : (layer : Layer) (p left more r to : ℕ) (t : Task) (f : Frame) (sw : Bool) (fs : List (Option Filling)) (bs : List BodyContext)
      (as' : List Activation) (c : Processor)
      (m : Memory) → Runs mode image p left more r to t layer f sw fs bs as' c m → Chain mode image p left r to t f sw fs bs as' c m
  as_chain Plain p left more r to t f sw fs bs as' c m h = h

  pub few_inner : (latch : Bool) → inner_edges latch ≤ 31
  few_inner true = omega arith
  few_inner false = omega arith

  -- the local APIC by contexts that have the same classes in service
  pub apic_again : (a b : Apic) (set : NatSet) (bs ds : List BodyContext) → b ≡ a
      → ((class : ℕ) → list_any (λ (d : BodyContext). serves mode image class d.service) ds
      ≡ list_any (λ (d : BodyContext). serves mode image class d.service) bs)
      → ApicIs mode image a set bs → ApicIs mode image b set ds
  apic_again a b set bs ds same serving h = subst (λ y. ApicIs mode image y set ds) (sym same) (record {
    tpr = h.tpr;
    irr = h.irr;
    isr = h.isr;
    pending = h.pending;
    service = λ class. h.service class ∙ sym (serving class);
    single = h.single;
  })

  -- What a step gives of its own processor, which becomes x: its activations run on this processor over these words, at most `own` edges before a visible step.
  pub record OwnBecomes (p own : ℕ) (s : System) (y x : abstract.Processor) (layer : Layer) (frame : Frame) (cpu : Processor) (a : Apic)
      (as' : List Activation) (words : NatMap ℕ) : Type 0 where
    pub running : x.running < length (tasks_of image p)
    pub waiting : x.waiting ≡ map (λ n. n % length (tasks_of image p)) (numbers_from (suc x.running) (length (tasks_of image p) - 1))
    pub switching : Bool
    pub marked : switching ≡ true → x.resched ≡ true
    pub returning : ℕ
    pub is_returning : returning ≡ (if switching then get_or x.waiting 0 x.running else x.running)
    pub current : switching ≡ false → CurrentIs mode p x.running words
    pub mark : switching ≡ false → words (pcpu p + 0x20) ≡ (if x.resched then 1 else 0)
    pub saved : (i : ℕ) → i < length (tasks_of image p) → i ≢ returning → IsSaved mode p i (x.tasks i) words
    pub tasks : (i : ℕ) → i < length (tasks_of image p) → IsTask (x.tasks i)
    pub latch : x.nmi ≡ y.nmi
    pub blocked : cpu.nmi_blocked ≡ list_any (is_nmi_body image) x.bodies
    pub apic : ApicIs mode image a x.pending x.bodies
    pub slots : (k : ℕ) → k < 64 → words (pcpu p + slot_offset k) ≡ x.slots k
    pub fills : List (Option Filling)
    pub free : AreFree x.records fills
    pub records : (k : ℕ) → k < 8 → is_filled k fills ≡ false → HoldsCall mode image words p k (x.records k)
    pub short : own ≤ body_edges mode image
    pub chain : Chain mode image p own x.running returning (x.tasks returning) frame switching fills x.bodies as' cpu (with_words s.memory words)

  -- so it stands for x behind it
  pub own_stands : (p left own : ℕ) (s s' : System) (y x : abstract.Processor) (cpu : Processor) (as' : List Activation) (words : NatMap ℕ)
      (on : StandsOn mode image p left s y) → Moves p s s' cpu as' words → OwnBecomes p own s y x on.layer on.frame cpu (s'.apics p) as' words
      → StandsOn mode image p (own + inner_edges (s.latches p)) s' x
  own_stands p left own s s' y x cpu as' words on mv b = record {
    few = let i = few_inner (s.latches p) in let l = b.short in omega (arith, i, l);
    own = own;
    short = b.short;
    more = 0;
    enough = subst (λ l. own + 0 + inner_edges l ≤ own + inner_edges (s.latches p)) (sym mv.latch) (omega arith);
    running = b.running;
    waiting = b.waiting;
    layer = on.layer;
    frame = on.frame;
    switching = b.switching;
    marked = b.marked;
    returning = b.returning;
    is_returning = b.is_returning;
    current = λ e. in_words (CurrentIs mode p x.running) (b.current e);
    mark = λ e. ap (λ w. w (pcpu p + 0x20)) mv.words_are ∙ b.mark e;
    saved = λ i lt d. in_words (IsSaved mode p i (x.tasks i)) (b.saved i lt d);
    tasks = b.tasks;
    latch = subst (LatchIs on.layer on.frame (list_any (is_nmi_body image) x.bodies) (s'.latches p) (s'.cpus p).nmi_blocked) (sym b.latch)
        (latch_again on.layer on.frame (list_any (is_nmi_body image) y.bodies) (list_any (is_nmi_body image) x.bodies) (s.latches p) (s'.latches p)
        (s.cpus p).nmi_blocked (s'.cpus p).nmi_blocked y.nmi mv.latch (ap (λ (c : Processor). c.nmi_blocked) mv.cpu_is ∙ b.blocked) on.latch);
    apic = b.apic;
    slots = λ k lt. ap (λ w. w (pcpu p + slot_offset k)) mv.words_are ∙ b.slots k lt;
    fills = b.fills;
    free = b.free;
    records = λ k lt unfilled. in_words (λ w. HoldsCall mode image w p k (x.records k)) (b.records k lt unfilled);
    runs = as_runs on.layer p own 0 x.running b.returning (x.tasks b.returning) on.frame b.switching b.fills x.bodies (s'.activations p) (s'.cpus p) s'.memory
        (moved (λ a c w r. Chain mode image p own x.running b.returning (x.tasks b.returning) on.frame b.switching b.fills x.bodies a c
        (record { regions = r; words = w })) b.chain);
  }
    where
      in_words : (P : NatMap ℕ → Type 0) → P words → P s'.memory.words
      in_words P h = subst P (sym mv.words_are) h

      moved : (P : List Activation → Processor → NatMap ℕ → List Region → Type 0) → P as' cpu words s.memory.regions
          → P (s'.activations p) (s'.cpus p) s'.memory.words s'.memory.regions
      moved P h = subst (λ a. P a (s'.cpus p) s'.memory.words s'.memory.regions) (sym mv.activations_are)
          (subst (λ c. P as' c s'.memory.words s'.memory.regions) (sym mv.cpu_is)
          (subst (λ w. P as' cpu w s'.memory.regions) (sym mv.words_are) (subst (λ r. P as' cpu words r) (sym mv.regions) h)))

  -- Its tasks, slots, bodies and pending vectors may be others; the running task, and that to which the bodies return, are the same.
  pub own_becomes : (p left : ℕ) (s s' : System) (x : abstract.Processor) (σ : Seat) (cpu : Processor) (as' : List Activation) (words : NatMap ℕ)
      (ts : NatMap Task) (slots : NatMap ℕ) (asks : Bool) (fs : List (Option Filling)) (bs : List BodyContext) (own : ℕ) (on : StandsOn mode image p left s x)
      → p < 32 → length (tasks_of image p) ≤ 4 → Moves p s s' cpu as' words → ((i : ℕ) → (i ≡ on.returning → ⊥) → IsBeside mode σ i) → σ.stack < 7
      → (names : List Named) → AreNames p names → Changes p σ names s.memory.words words
      → (on.switching ≡ true → asks ≡ true)
      → (on.switching ≡ false → CurrentIs mode p x.running words) → (on.switching ≡ false → words (pcpu p + 0x20) ≡ (if asks then 1 else 0))
      → ((k : ℕ) → k < 64 → words (pcpu p + slot_offset k) ≡ slots k)
      → ((i : ℕ) → (i ≡ on.returning → ⊥) → ts i ≡ x.tasks i) → ((i : ℕ) → i < length (tasks_of image p) → IsTask (ts i))
      → cpu.nmi_blocked ≡ list_any (is_nmi_body image) bs
      → (set : NatSet) → ApicIs mode image (s'.apics p) set bs
      → AreFree x.records fs → ((k : ℕ) → k < 8 → is_filled k fs ≡ false → HoldsCall mode image words p k (x.records k))
      → own ≤ body_edges mode image
      → Chain mode image p own x.running on.returning (ts on.returning) on.frame on.switching fs bs as' cpu (with_words s.memory words)
      → StandsOn mode image p (own + inner_edges (s.latches p)) s' (record x { tasks = ts; slots = slots; resched = asks; bodies = bs; pending = set })
  own_becomes p left s s' x σ cpu as' words ts slots asks fs bs own on hp four mv beside hs names good_names changes marked current mark slots_are same good
      blocked set apic free records short chain =
      own_stands p left own s s' x (record x { tasks = ts; slots = slots; resched = asks; bodies = bs; pending = set }) cpu as' words on mv (record {
        running = on.running;
        waiting = on.waiting;
        switching = on.switching;
        marked = marked;
        returning = on.returning;
        is_returning = on.is_returning;
        current = current;
        mark = mark;
        saved = λ i lt d. subst (λ t. IsSaved mode p i t words) (sym (same i d)) (saved_stays mode p i (x.tasks i) s.memory.words words hp (omega arith)
            (beside_stays p σ names s.memory.words words hp hs good_names.written changes mode i (omega arith) (beside i d))
            (on.saved i lt d));
        tasks = good;
        latch = refl;
        blocked = blocked;
        apic = apic;
        slots = slots_are;
        fills = fs;
        free = free;
        records = records;
        short = short;
        chain = chain;
      })

  -- where a step writes no word of calls, and fills what was filled, the records are as they were
  pub records_after : (p left : ℕ) (s : System) (x : abstract.Processor) (σ : Seat) (words : NatMap ℕ) (on : StandsOn mode image p left s x) → p < 32
      → σ.stack < 7 → (names : List Named) → AreCallFree p names → Changes p σ names s.memory.words words → (fs : List (Option Filling))
      → ((k : ℕ) → is_filled k fs ≡ is_filled k on.fills) → (k : ℕ) → k < 8 → is_filled k fs ≡ false → HoldsCall mode image words p k (x.records k)
  records_after p left s x σ words on hp hs names free changes fs same k lt unfilled =
      holds_call p σ names hp hs s.memory.words words free.allowed.written changes free.calls mode image p k (x.records k) hp lt
      (on.records k lt (sym (same k) ∙ unfilled))

  -- its slots are as they were
  pub own_after : (p left : ℕ) (s s' : System) (x : abstract.Processor) (σ : Seat) (cpu : Processor) (as' : List Activation) (words : NatMap ℕ)
      (ts : NatMap Task) (fs : List (Option Filling)) (bs : List BodyContext) (own : ℕ) (on : StandsOn mode image p left s x) → p < 32
      → length (tasks_of image p) ≤ 4 → Moves p s s' cpu as' words → ((i : ℕ) → (i ≡ on.returning → ⊥) → IsBeside mode σ i) → σ.stack < 7 →
      (names : List Named) → AreSparing p names
      → Changes p σ names s.memory.words words
      → ((i : ℕ) → (i ≡ on.returning → ⊥) → ts i ≡ x.tasks i) → ((i : ℕ) → i < length (tasks_of image p) → IsTask (ts i))
      → cpu.nmi_blocked ≡ list_any (is_nmi_body image) bs
      → (set : NatSet) → ApicIs mode image (s'.apics p) set bs
      → AreFree x.records fs → ((k : ℕ) → is_filled k fs ≡ is_filled k on.fills)
      → own ≤ body_edges mode image
      → Chain mode image p own x.running on.returning (ts on.returning) on.frame on.switching fs bs as' cpu (with_words s.memory words)
      → StandsOn mode image p (own + inner_edges (s.latches p)) s' (record x { tasks = ts; bodies = bs; pending = set })
  own_after p left s s' x σ cpu as' words ts fs bs own on hp four mv beside hs names sparing changes same good blocked set apic free filled short chain =
      let words_same : AreSameWords p σ names hp hs s.memory.words words sparing.free.allowed.written changes p
      = tasks_same p σ names hp hs s.memory.words words sparing.free.allowed.written changes sparing.tasks p hp in
      own_becomes p left s s' x σ cpu as' words ts x.slots x.resched fs bs own on hp four mv beside hs names sparing.free.allowed changes
      on.marked
      (λ e. current_is p σ names hp hs s.memory.words words sparing.free.allowed.written changes p words_same mode x.running (on.current e))
      (λ e. mark_is p σ names hp hs s.memory.words words sparing.free.allowed.written changes p words_same ∙ on.mark e)
      (λ k lt. slot_same p σ names hp hs s.memory.words words sparing.free.allowed.written changes sparing.slots p k hp lt ∙ on.slots k lt)
      same good blocked set apic free (records_after p left s x σ words on hp hs names sparing.free changes fs filled) short chain

  -- ---- another processor

  -- What is asked of a step for another processor's calls, which has these records and this queue behind it: the records of its contexts' calls, and those that
  -- they fill, are as they were, and memory holds the others.
  pub record KeepsCalls (q left : ℕ) (s : System) (x : abstract.Processor) (on : StandsOn mode image q left s x) (rs : NatMap CallRecord) (words : NatMap ℕ)
      : Type 0 where
    pub kept : AreKept q on.fills x.bodies s.memory.words words
    pub free : AreFree rs on.fills
    pub records : (k : ℕ) → k < 8 → is_filled k on.fills ≡ false → HoldsCall mode image words q k (rs k)

  other_at : (p q left own : ℕ) (s s' : System) (x : abstract.Processor) (σ : Seat) (cpu : Processor) (as' : List Activation) (words : NatMap ℕ)
      → p < 32 → q < image.processors → image.processors ≤ 8 → length x.bodies ≤ 32 → length (tasks_of image q) ≤ 4 → (q ≡ p → ⊥) → (q == p) ≡ false
      → Moves p s s' cpu as' words → σ.stack < 7 → (names : List Named) → AreNames p names
      → Changes p σ names s.memory.words words → (on : StandsOn mode image q left s x) → (rs : NatMap CallRecord) (queue : List CallId)
      → KeepsCalls q left s x on rs words → on.own ≤ own → 8 ≤ own → own ≤ body_edges mode image
      → StandsOn mode image q (most_edges mode image) s' (record x { records = rs; queue = queue })
  other_at p q left own s s' x σ cpu as' words hp lq eight deep four d e mv hs names good_names changes on rs queue calls l more short =
      record {
        few = omega arith;
        own = own;
        short = short;
        more = 0;
        enough = subst (λ b. own + 0 + inner_edges b ≤ most_edges mode image) (sym (mv.other_latch q e))
            (let i = few_inner (s.latches q) in omega (arith, short, i));
        running = on.running;
        waiting = on.waiting;
        layer = on.layer;
        frame = on.frame;
        switching = on.switching;
        marked = on.marked;
        returning = on.returning;
        is_returning = on.is_returning;
        current = λ f. in_words (CurrentIs mode q x.running)
            (current_is p σ names hp hs s.memory.words words good_names.written changes q words_same mode x.running (on.current f));
        mark = λ f. ap (λ w. w (pcpu q + 0x20)) mv.words_are ∙ mark_is p σ names hp hs s.memory.words words good_names.written changes q words_same ∙ on.mark f;
        saved = λ i lt f. in_words (IsSaved mode q i (x.tasks i)) (saved_stays mode q i (x.tasks i) s.memory.words words hq (omega arith)
            (λ a h k. let b = on_its_stack mode q i a h in stacks_stay p σ names s.memory.words words hp hs good_names.written changes q d a (omega arith)
            (omega arith))
            (on.saved i lt f));
        tasks = on.tasks;
        latch = subst (λ b. LatchIs on.layer on.frame (list_any (is_nmi_body image) x.bodies) (s'.latches q) b x.nmi)
            (sym (ap (λ (c : Processor). c.nmi_blocked) (mv.other_cpu q e)))
            (subst (λ b. LatchIs on.layer on.frame (list_any (is_nmi_body image) x.bodies) b (s.cpus q).nmi_blocked x.nmi) (sym (mv.other_latch q e)) on.latch);
        apic = subst (λ a. ApicIs mode image a x.pending x.bodies) (sym (mv.other_apic q e)) on.apic;
        slots = λ k lt. ap (λ w. w (pcpu q + slot_offset k)) mv.words_are
            ∙ offset_stays p σ names s.memory.words words hp hs good_names.written changes q hq (good_names.own q d) (slot_offset k) (omega arith)
            (inr (omega arith, omega arith))
            ∙ on.slots k lt;
        fills = on.fills;
        free = calls.free;
        records = λ k lt unfilled. in_words (λ w. HoldsCall mode image w q k (rs k)) (calls.records k lt unfilled);
        runs = as_runs on.layer q own 0 x.running on.returning (x.tasks on.returning) on.frame on.switching on.fills x.bodies (s'.activations q)
            (s'.cpus q) s'.memory
            (moved (λ a c w r. Chain mode image q own x.running on.returning (x.tasks on.returning) on.frame on.switching on.fills x.bodies a c
            (record { regions = r; words = w }))
            (chain_stays mode image q on.own own x.running on.returning (x.tasks on.returning) on.frame on.switching on.fills x.bodies (s.activations q)
            (s.cpus q) s.memory words lq
            eight
            (others_spared mode image p q x.running σ names s.memory.words words x.bodies hp hs hq d good_names.written (good_names.own q d) changes
            (chain_plain mode image q on.own x.running on.returning (x.tasks on.returning) on.frame on.switching on.fills x.bodies (s.activations q)
            (s.cpus q) s.memory chain)
            running_small deep)
            calls.kept (free_small x.records on.fills on.free)
            (mark_spared q x.bodies (s.cpus q) s.memory.words words
            (λ a h k. area_stays p σ names s.memory.words words hp hs good_names.written changes q hq (good_names.own q d) a (omega arith) (omega arith)
            (inl (omega arith))))
            l more chain));
      }
    where
      hq : q < 32
      hq = omega arith

      words_same : AreSameWords p σ names hp hs s.memory.words words good_names.written changes q
      words_same = others_same p σ names hp hs s.memory.words words good_names.written changes q hq (good_names.own q d)

      chain : Chain mode image q on.own x.running on.returning (x.tasks on.returning) on.frame on.switching on.fills x.bodies (s.activations q)
          (s.cpus q) s.memory
      chain = as_chain on.layer q on.own on.more x.running on.returning (x.tasks on.returning) on.frame on.switching on.fills x.bodies (s.activations q)
          (s.cpus q) s.memory
          on.runs

      in_words : (P : NatMap ℕ → Type 0) → P words → P s'.memory.words
      in_words P h = subst P (sym mv.words_are) h

      running_small : x.running < 7
      running_small = let l = on.running in omega arith

      moved : (P : List Activation → Processor → NatMap ℕ → List Region → Type 0) → P (s.activations q) (s.cpus q) words s.memory.regions
          → P (s'.activations q) (s'.cpus q) s'.memory.words s'.memory.regions
      moved P h = subst (λ a. P a (s'.cpus q) s'.memory.words s'.memory.regions) (sym (mv.other_activations q e))
          (subst (λ c. P (s.activations q) c s'.memory.words s'.memory.regions) (sym (mv.other_cpu q e))
          (subst (λ w. P (s.activations q) (s.cpus q) w s'.memory.regions) (sym mv.words_are)
          (subst (λ r. P (s.activations q) (s.cpus q) words r) (sym mv.regions) h)))

  -- so it stands as before; what it knew of the head of a queue may no longer be so, which costs it some edges
  pub other_stays : (p q left : ℕ) (s s' : System) (x : abstract.Processor) (σ : Seat) (cpu : Processor) (as' : List Activation) (words : NatMap ℕ)
      → p < 32 → q < image.processors → image.processors ≤ 8 → length x.bodies ≤ 32 → length (tasks_of image q) ≤ 4 → (q ≡ p → ⊥) → (q == p) ≡ false
      → Moves p s s' cpu as' words → σ.stack < 7 → (names : List Named) → AreNames p names
      → Changes p σ names s.memory.words words → (on : StandsOn mode image q left s x) → (rs : NatMap CallRecord) (queue : List CallId)
      → KeepsCalls q left s x on rs words → StandsOn mode image q (most_edges mode image) s' (record x { records = rs; queue = queue })
  other_stays p q left s s' x σ cpu as' words hp lq eight deep four d e mv hs names good_names changes on rs queue calls =
      let short = on.short in
      ⊎_elim
      (λ (l : (nat_le 8 on.own ≡ true) × (8 ≤ on.own)). other_at p q left on.own s s' x σ cpu as' words hp lq eight deep four d e mv hs names good_names
      changes on rs queue calls (omega arith) l.1 short)
      (λ l. other_at p q left 8 s s' x σ cpu as' words hp lq eight deep four d e mv hs names good_names changes on rs queue calls
      (let k = l.1 in omega (arith, k)) (omega arith) (omega arith))
      (leb_tells 8 on.own)

  -- ---- what all share

  -- Of the processors the machines m and m' differ in p, which is x in m', in nothing of its mail, and of others in calls alone;
  -- and the words are those of what m' has of user memory, pages, cells and queues.
  pub record Becomes (p : ℕ) (m m' : Machine) (x : abstract.Processor) (words : NatMap ℕ) : Type 0 where
    pub own : processor m' p ≡ x
    pub others : (q : ℕ) → (q == p) ≡ false
        → processor m' q ≡ record (processor m q) { records = (processor m' q).records; queue = (processor m' q).queue }
    pub mail : x.mail ≡ (processor m p).mail
    pub mail_nmi : x.mail_nmi ≡ (processor m p).mail_nmi
    pub queues : (q : ℕ) → q < image.processors → QueueIs words q (processor m' q).queue
    pub user : (b : ℕ) → IsUserWord b → words b ≡ m'.words b
    pub held : HoldsWords m'.words
    pub pages : (i : ℕ) → i < 256 → words (page_map + 8 * i) ≡ (if m'.present i then 1 else 0)
    pub cells : (k : ℕ) → k < 256 → words (cells_base + 8 * k) ≡ m'.cells k

  mail_as : (p q : ℕ) (m m' : Machine) (x : abstract.Processor) (words : NatMap ℕ) → Becomes p m m' x words
      → ((processor m' q).mail ≡ (processor m q).mail) × ((processor m' q).mail_nmi ≡ (processor m q).mail_nmi)
  mail_as p q m m' x words a = ⊎_elim
      (λ e. (
        ap (λ r. (processor m' r).mail) e.1 ∙ ap (λ (y : abstract.Processor). y.mail) a.own ∙ a.mail ∙ sym (ap (λ r. (processor m r).mail) e.1),
        ap (λ r. (processor m' r).mail_nmi) e.1 ∙ ap (λ (y : abstract.Processor). y.mail_nmi) a.own ∙ a.mail_nmi
            ∙ sym (ap (λ r. (processor m r).mail_nmi) e.1),
      ))
      (λ e. (ap (λ (y : abstract.Processor). y.mail) (a.others q e.0), ap (λ (y : abstract.Processor). y.mail_nmi) (a.others q e.0)))
      (eqb_tells q p)

  shares_become : (p : ℕ) (s s' : System) (m m' : Machine) (x : abstract.Processor) (cpu : Processor) (as' : List Activation) (words : NatMap ℕ)
      → Moves p s s' cpu as' words → Becomes p m m' x words → Shares mode image s m → Shares mode image s' m'
  shares_become p s s' m m' x cpu as' words mv a h = record {
    user = λ b u. at b ∙ a.user b u;
    held = a.held;
    pages = λ i lt. at (page_map + 8 * i) ∙ a.pages i lt;
    cells = λ k lt. at (cells_base + 8 * k) ∙ a.cells k lt;
    mail = λ q lt. let same = mail_as p q m m' x words a in
        subst (λ (z : NatMap Inbox × NatSet × Bool). InboxIs mode image (z.0 q) z.1 z.2) (λ i. (sym mv.inboxes i, sym same.0 i, sym same.1 i)) (h.mail q lt);
    queues = λ q lt. subst (λ w. QueueIs w q (processor m' q).queue) (sym mv.words_are) (a.queues q lt);
  }
    where
      at : (b : ℕ) → s'.memory.words b ≡ words b
      at b = ap (λ w. w b) mv.words_are

  -- ---- the whole

  -- how many edges may come behind it: as many as there may be at all, of the others
  abbrev pub left_behind : (p now : ℕ) → NatMap ℕ
  left_behind p now = put_at (λ q. most_edges mode image) p now

  pub stands_become : (left : NatMap ℕ) (s s' : System) (m m' : Machine) (p now : ℕ) (x : abstract.Processor) (σ : Seat) (cpu : Processor)
      (as' : List Activation) (words : NatMap ℕ) → IsImage image → IsAccepted image
      → ((q : ℕ) → q < image.processors → length (tasks_of image q) ≤ 4)
      → (h : Stands mode image left s m) → p < image.processors → Moves p s s' cpu as' words → σ.stack < 7 → (names : List Named) → AreNames p names
      → Changes p σ names s.memory.words words → Becomes p m m' x words
      → ((q : ℕ) (lq : q < image.processors) → (q == p) ≡ false → KeepsCalls q (left q) s (processor m q) (h.each q lq) (processor m' q).records words)
      → Legal image m' → HasBases image m' → HoldsNumbers m' → (told : List Entry) → length told ≤ suc s.totals.steps
      → KeepsCallRecords image m' told → IsInDomain x → StandsOn mode image p now s' x
      → Stands mode image (left_behind p now) s' m'
  stands_become left s s' m m' p now x σ cpu as' words good accepted four h lt mv hs names good_names changes a others legal bases numbers told few
      calls domain on = record {
        regions_are = mv.regions ∙ h.regions_are;
        fixed = λ b f. ap (λ w. w b) mv.words_are ∙ fixed_stays p σ names s.memory.words words hp hs good_names.written changes b f ∙ h.fixed b f;
        shares = shares_become p s s' m m' x cpu as' words mv a h.shares;
        legal = legal;
        bases = bases;
        numbers = numbers;
        told = told;
        few = let next = mv.steps in omega (arith, few, next);
        calls = calls;
        domain = λ q lq. ⊎_elim (λ e. subst (λ r. IsInDomain (processor m' r)) (sym e.1) (subst IsInDomain (sym a.own) domain))
            (λ e. subst IsInDomain (sym (a.others q e.0)) (let d = h.domain q lq in record { nmi = d.nmi; mail_nmi = d.mail_nmi }))
            (eqb_tells q p);
        each = λ q lq. ⊎_elim
            (λ e. subst (λ r. StandsOn mode image r (left_behind p now r) s' (processor m' r)) (sym e.1)
            (subst (λ n. StandsOn mode image p n s' (processor m' p)) (sym (at_same (λ q. most_edges mode image) p p now refl))
            (subst (StandsOn mode image p now s') (sym a.own) on)))
            (λ e. subst (λ n. StandsOn mode image q n s' (processor m' q))
            (sym (ap (λ b. elim b [ true ↦ now | false ↦ most_edges mode image ]) e.0))
            (subst (StandsOn mode image q (most_edges mode image) s') (sym (a.others q e.0))
            (other_stays p q (left q) s s' (processor m q) σ cpu as' words hp lq good.count.1 (legal_few image good accepted m q h.legal)
            (four q lq) e.1 e.0 mv hs
            names good_names changes (h.each q lq) (processor m' q).records (processor m' q).queue (others q lq e.0))))
            (eqb_tells q p);
      }
    where
      hp : p < 32
      hp = let n = good.count.1 in omega arith

  -- ---- steps that leave calls as they are

  -- each call of a context of a processor is one of a processor and a site
  pub calls_bounded : (m : Machine) (told : List Entry) → KeepsCallRecords image m told → image.processors ≤ 8 → (q : ℕ) (k : CallId)
      → 0 < times k (to_run (processor m q).bodies) → (k.from < 32) × (k.site < 8)
  calls_bounded m told calls eight q k some =
      let placed : IsPlaced image m k = calls.placed k in
      let is : times k (to_run (processor m q).bodies) ≡ one_if (is_taken (record_of m k).state && ((record_of m k).to == q)) = placed.list q in
      let taken : is_taken (record_of m k).state ≡ true
      = and_left (is_taken (record_of m k).state) ((record_of m k).to == q)
      (is_one (is_taken (record_of m k).state && ((record_of m k).to == q)) (omega (arith, is, some))) in
      let fits : IsInRange image k (record_of m k) = placed.fits (taken_not_free (record_of m k).state taken) in
      let from = fits.from in (omega (arith, from, eight), fits.site)
    where
      taken_not_free : (st : CallState) → is_taken st ≡ true → is_free st ≡ false
      taken_not_free Free t = let clash : false ≡ true = t in absurd (cc)
      taken_not_free Queued t = refl
      taken_not_free Taken t = refl

  module _ (left : NatMap ℕ) (s : System) (m : Machine) (h : Stands mode image left s m) (p : ℕ) (σ : Seat) (words : NatMap ℕ) (names : List Named)
      (hp : p < 32) (hs : σ.stack < 7) (eight : image.processors ≤ 8) (free : AreCallFree p names) (changes : Changes p σ names s.memory.words words) where
    -- so it leaves the records of all contexts of a processor
    pub contexts_kept : (q : ℕ) (lq : q < image.processors) → AreKept q (h.each q lq).fills (processor m q).bodies s.memory.words words
    contexts_kept q lq =
        let on = h.each q lq in
        all_kept p σ names hp hs s.memory.words words free.allowed.written changes free.calls q (omega (arith, lq, eight)) on.fills
        (free_small (processor m q).records on.fills on.free) (processor m q).bodies (calls_bounded m h.told h.calls eight q)

    pub calls_kept : (q : ℕ) (lq : q < image.processors) → KeepsCalls q (left q) s (processor m q) (h.each q lq) (processor m q).records words
    calls_kept q lq =
        let on = h.each q lq in record {
          kept = contexts_kept q lq;
          free = on.free;
          records = λ k lt unfilled. holds_call p σ names hp hs s.memory.words words free.allowed.written changes free.calls mode image q k
              ((processor m q).records k) (omega (arith, lq, eight)) lt (on.records k lt unfilled);
        }

    pub queues_kept : (q : ℕ) → q < image.processors → QueueIs words q (processor m q).queue
    queues_kept q lq = queue_is p σ names hp hs s.memory.words words free.allowed.written changes free.calls q (processor m q).queue (omega (arith, lq, eight))
        (h.shares.queues q lq)

  -- The machines differ in p alone, which has the same calls and mail.
  pub record CallsAlike (p : ℕ) (m m' : Machine) (x : abstract.Processor) (words : NatMap ℕ) : Type 0 where
    pub own : processor m' p ≡ x
    pub others : (q : ℕ) → (q == p) ≡ false → processor m' q ≡ processor m q
    pub mail : x.mail ≡ (processor m p).mail
    pub mail_nmi : x.mail_nmi ≡ (processor m p).mail_nmi
    pub records : x.records ≡ (processor m p).records
    pub queue : x.queue ≡ (processor m p).queue
    pub user : (b : ℕ) → IsUserWord b → words b ≡ m'.words b
    pub held : HoldsWords m'.words
    pub pages : (i : ℕ) → i < 256 → words (page_map + 8 * i) ≡ (if m'.present i then 1 else 0)
    pub cells : (k : ℕ) → k < 256 → words (cells_base + 8 * k) ≡ m'.cells k

  pub stands_alike : (left : NatMap ℕ) (s s' : System) (m m' : Machine) (p now : ℕ) (x : abstract.Processor) (σ : Seat) (cpu : Processor)
      (as' : List Activation) (words : NatMap ℕ) → IsImage image → IsAccepted image
      → ((q : ℕ) → q < image.processors → length (tasks_of image q) ≤ 4)
      → (h : Stands mode image left s m) → p < image.processors → Moves p s s' cpu as' words → σ.stack < 7 → (names : List Named) → AreCallFree p names
      → Changes p σ names s.memory.words words → CallsAlike p m m' x words
      → Legal image m' → HasBases image m' → HoldsNumbers m' → (told : List Entry) → length told ≤ suc s.totals.steps
      → KeepsCallRecords image m' told → IsInDomain x → StandsOn mode image p now s' x
      → Stands mode image (left_behind p now) s' m'
  stands_alike left s s' m m' p now x σ cpu as' words good accepted four h lt mv hs names free changes a legal bases numbers told few calls domain on =
      stands_become left s s' m m' p now x σ cpu as' words good accepted four h lt mv hs names free.allowed changes
      (record {
        own = a.own;
        others = λ q e. a.others q e ∙ ap (λ (y : abstract.Processor). record (processor m q) { records = y.records; queue = y.queue }) (sym (a.others q e));
        mail = a.mail;
        mail_nmi = a.mail_nmi;
        queues = λ q lq. subst (QueueIs words q) (sym (queue_as q)) (queues_kept left s m h p σ words names hp hs good.count.1 free changes q lq);
        user = a.user;
        held = a.held;
        pages = a.pages;
        cells = a.cells;
      })
      (λ q lq e. subst (λ (y : abstract.Processor). KeepsCalls q (left q) s (processor m q) (h.each q lq) y.records words) (sym (a.others q e))
      (calls_kept left s m h p σ words names hp hs good.count.1 free changes q lq))
      legal bases numbers told few calls domain on
    where
      hp : p < 32
      hp = let n = good.count.1 in omega arith

      queue_as : (q : ℕ) → (processor m' q).queue ≡ (processor m q).queue
      queue_as q = ⊎_elim
          (λ e. ap (λ r. (processor m' r).queue) e.1 ∙ ap (λ (y : abstract.Processor). y.queue) a.own ∙ a.queue ∙ sym (ap (λ r. (processor m r).queue) e.1))
          (λ e. ap (λ (y : abstract.Processor). y.queue) (a.others q e.0)) (eqb_tells q p)

  -- cells and pages are as they were
  pub record Alike (p : ℕ) (m m' : Machine) (x : abstract.Processor) : Type 0 where
    pub own : processor m' p ≡ x
    pub others : (q : ℕ) → (q == p) ≡ false → processor m' q ≡ processor m q
    pub present : m'.present ≡ m.present
    pub cells : m'.cells ≡ m.cells
    pub mail : x.mail ≡ (processor m p).mail
    pub mail_nmi : x.mail_nmi ≡ (processor m p).mail_nmi
    pub records : x.records ≡ (processor m p).records
    pub queue : x.queue ≡ (processor m p).queue

  pub stands_after : (left : NatMap ℕ) (s s' : System) (m m' : Machine) (p now : ℕ) (x : abstract.Processor) (σ : Seat) (cpu : Processor)
      (as' : List Activation) (words : NatMap ℕ) → IsImage image → IsAccepted image
      → ((q : ℕ) → q < image.processors → length (tasks_of image q) ≤ 4)
      → (h : Stands mode image left s m) → p < image.processors → Moves p s s' cpu as' words → σ.stack < 7 → (names : List Named) → AreSparing p names
      → Changes p σ names s.memory.words words → ((b : ℕ) → IsUserWord b → words b ≡ m'.words b) → HoldsWords m'.words → Alike p m m' x
      → Legal image m' → HasBases image m' → HoldsNumbers m' → (told : List Entry) → length told ≤ suc s.totals.steps
      → KeepsCallRecords image m' told → IsInDomain x → StandsOn mode image p now s' x
      → Stands mode image (left_behind p now) s' m'
  stands_after left s s' m m' p now x σ cpu as' words good accepted four h lt mv hs names sparing changes user held a legal bases numbers told few calls domain
      on =
      stands_alike left s s' m m' p now x σ cpu as' words good accepted four h lt mv hs names sparing.free changes
      (record {
        own = a.own;
        others = a.others;
        mail = a.mail;
        mail_nmi = a.mail_nmi;
        records = a.records;
        queue = a.queue;
        user = user;
        held = held;
        pages = λ i l. page_same p σ names hp hs s.memory.words words sparing.free.allowed.written changes sparing.pages i l ∙ h.shares.pages i l
            ∙ sym (ap (λ w. if w i then 1 else 0) a.present);
        cells = λ k l. cell_same p σ names hp hs s.memory.words words sparing.free.allowed.written changes sparing.cells k l ∙ h.shares.cells k l
            ∙ sym (ap (λ w. w k) a.cells);
      }) legal bases numbers told few calls domain on
    where
      hp : p < 32
      hp = let n = good.count.1 in omega arith
