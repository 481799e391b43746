-- What is said of call records and of lists of calls stays where the records' words do; and which names of words leave a record alone.
use Rattle.std.proofs.Common.{◌≡◌, ℕ, suc, ◌+◌, ◌<◌, Bool, true, false, List, [], ◌∷◌, length, Option, refl, sym, ap, ◌∙◌, subst, arith}
use Rattle.std.specs.Prelude.{reverse}
use Rattle.std.proofs.lemmas.List.{reverse-append}
use Rattle.ev_isa.specs.Word.{NatMap}
use Rattle.ev_isa.specs.declared.mode.Mode.{Mode}
use Rattle.ev_body.specs.declared.image.Image.{Image}
use Rattle.ev_state.specs.Processor.{Processor}
use Rattle.ev_listing.specs.AddressMap.{pcpu, record_address, head_offset}
use Rattle.ev_abstract.specs.Context.{CallId, BodyContext}
use Rattle.ev_abstract.specs.Machine.{CallState, Free, Queued, Taken, CallRecord}
use Rattle.ev_law.specs.Legal.{runs_calls}
use Rattle.ev_symbolic.specs.Agrees.{Env}
use Rattle.ev_blocks.specs.Shapes.{Origin}
use Rattle.ev_blocks.specs.Calls.{CallSpot, AtRecord, BehindWait, BehindBusy, AtFill, AtHead, AtLink, BehindFailure, BehindCall, AtTake, BehindTake, AtTurn, BehindTurn, AtTaken, AtFinish, BehindNext, AtOffset}
use Rattle.ev_blocks.specs.Items.{BodySpot, InCall, AtTable, AtJump, AtItem, AtNumber, AtNumbers, AtKick, AtUserWord, AtPageWord, BehindSti, BehindKick}
use Rattle.ev_blocks.specs.Blocks.{Spot, InBody}
use Rattle.ev_calls.specs.Records.{Linked}
use Rattle.ev_calls.specs.Lists.{KeepLinks, IsTurning, QueueIs}
use Rattle.ev_calls.proofs.Lists.{lists_stay}
use Rattle.ev_call_law.specs.Calls.{times, is_id}
use Rattle.ev_call_law.proofs.Counts.{times_same, times_other, times_append}
use Rattle.ev_relation.specs.Filling.{Filling}
use Rattle.ev_relation.specs.Active.{SavedOf, HoldsCalls, InCode, InItem, Kicking, Answering, Taking, BeginsCall, Finishing, Turns, IsByHand, BehindExchange, BehindOldLink, AtFunction, BehindArgument, BehindCaller, BehindAddress, BehindFinish, BehindComparison, AtQuiet, InCallSpot, InSpot}
use Rattle.ev_relation.specs.Relation.{CallIs, HoldsCall}

-- ---- the words of records

-- the words of a call's record are as they were
abbrev pub RecordStays : CallId → (m n : NatMap ℕ) → Type 0
RecordStays k m n = (o : ℕ) → o < 0x40 → n (record_address k.from k.site + o) ≡ m (record_address k.from k.site + o)

-- those of each of these calls
abbrev pub RecordsStay : List CallId → (m n : NatMap ℕ) → Type 0
RecordsStay ks m n = (k : CallId) → 0 < times k ks → RecordStays k m n

-- each of the calls is one of the others
abbrev AreAmong : (ks js : List CallId) → Type 0
AreAmong ks js = (k : CallId) → 0 < times k ks → 0 < times k js

-- the first call of a list stands there, and so do those behind it
first_among : (k : CallId) (ks : List CallId) → 0 < times k (k ∷ ks)
first_among k ks = let e = times_same k ks in omega (arith, e)

rest_among : (j k : CallId) (ks : List CallId) → 0 < times j ks → 0 < times j (k ∷ ks)
rest_among j k ks h = pick (is_id j k) refl
  where
    pick : (t : Bool) → is_id j k ≡ t → 0 < times j (k ∷ ks)
    pick true q = let e = times_append j (k ∷ []) ks in omega (arith, e, h)
    pick false q = let e = times_other j k ks q in omega (arith, e, h)

-- the order doesn't matter
pub times_reverse : (k : CallId) (ks : List CallId) → times k (reverse ks) ≡ times k ks
times_reverse k [] = refl
times_reverse k (j ∷ ks) =
    ap (times k) (reverse-append (j ∷ []) ks)
    ∙ (let a = times_append k (reverse ks) (j ∷ []) in let b = times_append k (j ∷ []) ks in let c = times_reverse k ks in omega (arith, a, b, c))

links_keep : (m n : NatMap ℕ) (ks js : List CallId) → AreAmong ks js → RecordsStay js m n → KeepLinks m n ks
links_keep m n [] js among h = tt
links_keep m n (k ∷ ks) js among h =
    (h k (among k (first_among k ks)) 0x18 (omega arith), links_keep m n ks js (λ j l. among j (rest_among j k ks l)) h)

module _ (m n : NatMap ℕ) where
  pub linked_again : (a : ℕ) (ks : List CallId) → RecordsStay ks m n → Linked m a ks → Linked n a ks
  linked_again a ks h l = lists_stay m n a ks (links_keep m n ks ks (λ k i. i) h) l

  pub turning_again : (left turned : ℕ) (calls : List CallId) → RecordsStay calls m n → (t : IsTurning m left turned calls) → IsTurning n left turned calls
  turning_again left turned calls h t =
      let counted : (k : CallId) → times k calls ≡ times k t.ahead + times k t.behind
      = λ k. ap (times k) t.are ∙ times_append k (reverse t.ahead) t.behind ∙ ap (λ i. i + times k t.behind) (times_reverse k t.ahead) in record {
        ahead = t.ahead;
        behind = t.behind;
        are = t.are;
        lead = lists_stay m n left t.ahead (links_keep m n t.ahead calls (λ k i. let e = counted k in omega (arith, e, i)) h) t.lead;
        follow = lists_stay m n turned t.behind (links_keep m n t.behind calls (λ k i. let e = counted k in omega (arith, e, i)) h) t.follow;
      }

  -- the word behind a record that a list begins with
  first_word : (a o : ℕ) (ks : List CallId) → o < 0x40 → RecordsStay ks m n → (k : CallId) (rest : List CallId) → ks ≡ k ∷ rest
      → a ≡ record_address k.from k.site → n (a + o) ≡ m (a + o)
  first_word a o ks ho h k rest is at =
      let l : 0 < times k ks = subst (λ js. 0 < times k js) (sym is) (first_among k rest) in
      ap (λ x. n (x + o)) at ∙ h k l o ho ∙ sym (ap (λ x. m (x + o)) at)

-- ---- what belongs to a processor

-- what memory holds of a call
pub call_stays : (mode : Mode) (image : Image) (m n : NatMap ℕ) (q k : ℕ) (r : CallRecord) → RecordStays (record { from = q; site = k }) m n
    → HoldsCall mode image m q k r → HoldsCall mode image n q k r
call_stays mode image m n q k r stay h = record {
  from = stay 0x20 (omega arith) ∙ h.from;
  site = stay 0x30 (omega arith) ∙ h.site;
  number = stay 0x28 (omega arith) ∙ h.number;
  call = by_state r.state h.call;
}
  where
    first : n (record_address q k) ≡ m (record_address q k)
    first = let e : record_address q k + 0 ≡ record_address q k = omega arith in sym (ap n e) ∙ stay 0 (omega arith) ∙ ap m e

    by_state : (st : CallState) → CallIs mode image m (record_address q k) r st → CallIs mode image n (record_address q k) r st
    by_state Free c = first ∙ c
    by_state Queued c = (first ∙ c.0, stay 8 (omega arith) ∙ c.1, stay 0x10 (omega arith) ∙ c.2, stay 0x38 (omega arith) ∙ c.3)
    by_state Taken c = (first ∙ c.0, stay 8 (omega arith) ∙ c.1, stay 0x10 (omega arith) ∙ c.2, stay 0x38 (omega arith) ∙ c.3)

-- a queue, whose head stays
pub queue_stays : (m n : NatMap ℕ) (q : ℕ) (ks : List CallId) → n (pcpu q + head_offset) ≡ m (pcpu q + head_offset)
    → ((k : CallId) → (k.from < 32) × (k.site < 8) → RecordStays k m n) → QueueIs m q ks → QueueIs n q ks
queue_stays m n q ks head stay h = subst (λ a. Linked n a (reverse ks)) (sym head) (lists_stay m n (m (pcpu q + head_offset)) (reverse ks)
    (keep (m (pcpu q + head_offset)) (reverse ks) h) h)
  where
    keep : (a : ℕ) (ks : List CallId) → Linked m a ks → KeepLinks m n ks
    keep a [] l = tt
    keep a (k ∷ ks) l = (stay k (l.0, l.1) 0x18 (omega arith), keep (m (a + 0x18)) ks l.3)

-- ---- what an activation in an item of calls says

-- an old head may no longer be one
abbrev pub weaker : CallSpot → CallSpot
weaker (AtLink address func to is_stale) = AtLink address func to true
weaker s = s

-- the same of the spots of bodies, and of any
abbrev pub weaker_body : BodySpot → BodySpot
weaker_body (InCall s) = InCall (weaker s)
weaker_body s = s

-- any
abbrev pub weaken : Spot → Spot
weaken (InBody layout s) = InBody layout (weaker_body s)
weaken spot = spot

module _ (mode : Mode) (image : Image) (m n : NatMap ℕ) (o : Origin) (e : Env) (w : Processor) (b : BodyContext) (stay : RecordsStay b.calls m n) where
  pub holds_again : (a : ℕ) → HoldsCalls mode image m a b.calls → HoldsCalls mode image n a b.calls
  holds_again a h = by_list b.calls stay h
    where
      by_list : (ks : List CallId) → RecordsStay ks m n → HoldsCalls mode image m a ks → HoldsCalls mode image n a ks
      by_list [] s h = tt
      by_list (k ∷ ks) s h = linked_again m n a (k ∷ ks) s h

  pub item_again : InItem mode image o e w b m → InItem mode image o e w b n
  item_again h = record { saved = h.saved; locals = h.locals; flags = h.flags; calls = holds_again (e.var 14) h.calls }

  pub code_again : InCode mode image o e w b m → InCode mode image o e w b n
  code_again h = record { range = h.range; saved = h.saved; locals = h.locals; calls = holds_again (e.var 14) h.calls }

  answering_again : (s v : ℕ) → Answering mode image o e w b s v m → Answering mode image o e w b s v n
  answering_again s v h = record {
    range = h.range;
    saved = h.saved;
    is_local = h.is_local;
    locals = h.locals;
    flags = h.flags;
    calls = holds_again (e.var 14) h.calls;
    site = h.site;
    to = h.to;
    func = h.func;
    n = h.n;
    code = h.code;
    next = h.next;
  }

  begins_again : BeginsCall mode image m b b.calls → BeginsCall mode image n b b.calls
  begins_again h = by_list b.calls stay h
    where
      by_list : (ks : List CallId) → RecordsStay ks m n → BeginsCall mode image m b ks → BeginsCall mode image n b ks
      by_list [] s h = tt
      by_list (k ∷ ks) s h =
          let l = first_among k ks in (s k l 8 (omega arith) ∙ h.0, s k l 0x10 (omega arith) ∙ h.1, s k l 0x20 (omega arith) ∙ h.2)

  taking_again : (nine ten : Bool) → Taking mode image o e w b nine ten m → Taking mode image o e w b nine ten n
  taking_again nine ten h = record { range = h.range; saved = h.saved; locals = h.locals; flags = h.flags; begins = begins_again h.begins }

  turns_again : (left turned many : ℕ) → Turns mode image m left turned b.calls many → Turns mode image n left turned b.calls many
  unfolding turning_again
  turns_again left turned many h = record { list = turning_again m n left turned b.calls stay h.list; many = h.many }

  list_again : (a : ℕ) → Linked m a b.calls → Linked n a b.calls
  list_again a h = linked_again m n a b.calls stay h

  -- a word of the record at which a list that isn't empty begins
  begun_again : (a o : ℕ) → o < 0x40 → (ks : List CallId) → RecordsStay ks m n → Linked m a ks → (ks ≡ [] → ⊥) → n (a + o) ≡ m (a + o)
  begun_again a o ho [] s l some = absurd (some refl)
  begun_again a o ho (k ∷ ks) s l some = first_word m n a o (k ∷ ks) ho s k ks refl l.2

  -- that of the calls that are left to be turned
  ahead_begun : (a left turned : ℕ) (t : IsTurning m a turned b.calls) → length t.ahead ≡ suc left → n (a + 0x18) ≡ m (a + 0x18)
  ahead_begun a left turned t many = by_list t.ahead many t.lead (λ k i. stay k (let e = counted k in omega (arith, e, i)))
    where
      counted : (k : CallId) → times k b.calls ≡ times k t.ahead + times k t.behind
      counted k = ap (times k) t.are ∙ times_append k (reverse t.ahead) t.behind ∙ ap (λ i. i + times k t.behind) (times_reverse k t.ahead)

      by_list : (ks : List CallId) → length ks ≡ suc left → Linked m a ks → RecordsStay ks m n → n (a + 0x18) ≡ m (a + 0x18)
      by_list [] q l s = let clash : 0 ≡ suc left = q in absurd (omega arith)
      by_list (k ∷ ks) q l s = first_word m n a 0x18 (k ∷ ks) (omega arith) s k ks refl l.2

  kicking_again : (to : ℕ) (sends : Bool) → Kicking mode image o e w b to sends m → Kicking mode image o e w b to sends n
  kicking_again to sends h = record { code = code_again h.code; place = h.place; s = h.s; item = h.item; answer = h.answer }

  by_hand_again : (offset edges : ℕ) → IsByHand mode image o e w b m offset edges → IsByHand mode image o e w b n offset edges
  by_hand_again offset edges (BehindExchange q x s is_first y z t) = BehindExchange q x s is_first (answering_again s _ y) z t
  by_hand_again offset edges (BehindOldLink k q x y z t u) =
      BehindOldLink k q x (taking_again false false y) z (turns_again (e.var 0) (e.var 14) (suc k) t)
      (u ∙ sym (ahead_begun (e.var 0) k (e.var 14) t.list t.many))
  by_hand_again offset edges (AtFunction q x y z t u) = AtFunction q x (taking_again false false y) z t (list_again (e.var 14) u)
  by_hand_again offset edges (BehindArgument q x y z t u) = BehindArgument q x (taking_again true false y) z t (list_again (e.var 14) u)
  by_hand_again offset edges (BehindCaller q x y z t u) = BehindCaller q x (taking_again true true y) z t (list_again (e.var 14) u)
  by_hand_again offset edges (BehindAddress q x y z t u v) = BehindAddress q x (taking_again true true y) z t (list_again (e.var 14) u) v
  by_hand_again offset edges (BehindFinish q x y z t) = BehindFinish q x (taking_again false false y) z (list_again (e.var 14) t)
  by_hand_again offset edges (BehindComparison q x to sends y z) = BehindComparison q x to sends (kicking_again to sends y) z
  by_hand_again offset edges (AtQuiet q x to y) = AtQuiet q x to (kicking_again to false y)

  finishing_again : Finishing mode image o e w b m → Finishing mode image o e w b n
  finishing_again h = record {
    range = h.range;
    saved = h.saved;
    locals = h.locals;
    place = h.place;
    item = h.item;
    some = h.some;
    list = list_again (e.var 3) h.list;
    next = h.next ∙ sym (begun_again (e.var 3) 0x18 (omega arith) b.calls stay h.list
        (λ q. let clash : false ≡ true = sym (ap runs_calls q) ∙ h.some in cc));
  }

  pub call_spot_again : (s : CallSpot) (f : Option Filling) → InCallSpot mode image o s e w b f m → InCallSpot mode image o (weaker s) e w b f n
  call_spot_again (AtRecord site) f h = (code_again h.0, h.1, h.2, h.3)
  call_spot_again (BehindWait true) f h = (code_again h.0, h.1, h.2)
  call_spot_again (BehindWait false) f h = (code_again h.0, h.1, h.2, h.3, h.4)
  call_spot_again (BehindBusy s) f h = answering_again s 0 h
  call_spot_again (AtFill address func to s) f h = (code_again h.0, h.1, h.2, h.3)
  call_spot_again (AtHead address func to) f h = (code_again h.0, h.1, h.2)
  call_spot_again (AtLink address func to is_stale) f h = (code_again h.0, h.1, h.2, tt, h.4)
  call_spot_again (BehindFailure address func to) f h = (code_again h.0, h.1, h.2, h.3)
  call_spot_again (BehindCall s is_first) f h = (answering_again s _ h.0, h.1)
  call_spot_again AtTake f h = (code_again h.0, h.1, h.2, h.3)
  call_spot_again (BehindTake left) f h = (taking_again false false h.0, h.1, turns_again (e.var 0) 0 left h.2)
  call_spot_again (AtTurn left) f h = (taking_again false false h.0, h.1, turns_again (e.var 0) (e.var 14) left h.2)
  call_spot_again (BehindTurn left) f h = (taking_again false false h.0, h.1, turns_again (e.var 1) (e.var 0) left h.2)
  call_spot_again (AtTaken is_some) f h = (taking_again false false h.0, h.1, list_again (e.var 14) h.2, h.3)
  call_spot_again AtFinish f h = (code_again h.0, h.1, h.2)
  call_spot_again BehindNext f h = finishing_again h
  call_spot_again (AtOffset offset edges) f h = by_hand_again offset edges h

  pub spot_again : (s : BodySpot) (f : Option Filling) → InSpot mode image o s e w b f m → InSpot mode image o (weaker_body s) e w b f n
  spot_again AtTable f h = h
  spot_again AtJump f h = h
  spot_again AtItem f h = (item_again h.0, h.1)
  spot_again (AtNumber k) f h = (item_again h.0, h.1, h.2)
  spot_again (AtNumbers rcx rax rdx) f h = (item_again h.0, h.1, h.2)
  spot_again AtUserWord f h = (item_again h.0, h.1, h.2)
  spot_again (AtPageWord is_page) f h = (item_again h.0, h.1, h.2)
  spot_again BehindSti f h = (item_again h.0, h.1, h.2)
  spot_again (InCall s) f h = call_spot_again s f h
  spot_again (AtKick to) f h = kicking_again to true h
  spot_again BehindKick f h = (code_again h.0, h.1, h.2)

-- ---- what gives back the processor to which it returns

by_hand_saved : (mode : Mode) (image : Image) (o : Origin) (e : Env) (w : Processor) (b : BodyContext) (words : NatMap ℕ) (offset edges : ℕ)
    → IsByHand mode image o e w b words offset edges → SavedOf mode image o e w
by_hand_saved mode image o e w b words offset edges (BehindExchange q x s is_first y z t) = y.saved
by_hand_saved mode image o e w b words offset edges (BehindOldLink n q x y z t u) = y.saved
by_hand_saved mode image o e w b words offset edges (AtFunction q x y z t u) = y.saved
by_hand_saved mode image o e w b words offset edges (BehindArgument q x y z t u) = y.saved
by_hand_saved mode image o e w b words offset edges (BehindCaller q x y z t u) = y.saved
by_hand_saved mode image o e w b words offset edges (BehindAddress q x y z t u v) = y.saved
by_hand_saved mode image o e w b words offset edges (BehindFinish q x y z t) = y.saved
by_hand_saved mode image o e w b words offset edges (BehindComparison q x to sends y z) = y.code.saved
by_hand_saved mode image o e w b words offset edges (AtQuiet q x to y) = y.code.saved

call_saved : (mode : Mode) (image : Image) (o : Origin) (s : CallSpot) (e : Env) (w : Processor) (b : BodyContext) (f : Option Filling) (words : NatMap ℕ)
    → InCallSpot mode image o s e w b f words → SavedOf mode image o e w
call_saved mode image o (AtRecord site) e w b f words h = h.0.saved
call_saved mode image o (BehindWait true) e w b f words h = h.0.saved
call_saved mode image o (BehindWait false) e w b f words h = h.0.saved
call_saved mode image o (BehindBusy s) e w b f words h = h.saved
call_saved mode image o (AtFill address func to s) e w b f words h = h.0.saved
call_saved mode image o (AtHead address func to) e w b f words h = h.0.saved
call_saved mode image o (AtLink address func to is_stale) e w b f words h = h.0.saved
call_saved mode image o (BehindFailure address func to) e w b f words h = h.0.saved
call_saved mode image o (BehindCall s is_first) e w b f words h = h.0.saved
call_saved mode image o AtTake e w b f words h = h.0.saved
call_saved mode image o (BehindTake left) e w b f words h = h.0.saved
call_saved mode image o (AtTurn left) e w b f words h = h.0.saved
call_saved mode image o (BehindTurn left) e w b f words h = h.0.saved
call_saved mode image o (AtTaken is_some) e w b f words h = h.0.saved
call_saved mode image o AtFinish e w b f words h = h.0.saved
call_saved mode image o BehindNext e w b f words h = h.saved
call_saved mode image o (AtOffset offset edges) e w b f words h = by_hand_saved mode image o e w b words offset edges h

-- at each spot of a body
pub spot_saved : (mode : Mode) (image : Image) (o : Origin) (s : BodySpot) (e : Env) (w : Processor) (b : BodyContext) (f : Option Filling) (words : NatMap ℕ)
    → InSpot mode image o s e w b f words → SavedOf mode image o e w
spot_saved mode image o AtTable e w b f words h = h.0.saved
spot_saved mode image o AtJump e w b f words h = h.0.saved
spot_saved mode image o AtItem e w b f words h = h.0.saved
spot_saved mode image o (AtNumber n) e w b f words h = h.0.saved
spot_saved mode image o (AtNumbers rcx rax rdx) e w b f words h = h.0.saved
spot_saved mode image o AtUserWord e w b f words h = h.0.saved
spot_saved mode image o (AtPageWord is_page) e w b f words h = h.0.saved
spot_saved mode image o BehindSti e w b f words h = h.0.saved
spot_saved mode image o (InCall s) e w b f words h = call_saved mode image o s e w b f words h
spot_saved mode image o (AtKick to) e w b f words h = h.code.saved
spot_saved mode image o BehindKick e w b f words h = h.0.saved
