-- Items keep the numbers of bodies words.
use Rattle.std.proofs.Common.{◌≡◌, ℕ, zero, suc, ◌+◌, ◌-◌, ◌/◌, ◌%◌, ◌^◌, ◌<◌, ◌≤◌, Bool, true, false, ◌&&◌, List, [], ◌∷◌, ◌++◌, Option, Some, None, refl, sym, subst, arith}
use Rattle.std.specs.Prelude.{◌==◌, ◌||◌, if◌then◌else◌, nat_lt, slice_get, not}
use Rattle.std.specs.List.{list_all}
use Rattle.std.proofs.lemmas.Bool.{ltb-true, eqb-true}
use Rattle.std.proofs.lemmas.Nat.{and_le_r}
use Rattle.ev_isa.specs.Word.{put_at, is_canonical, wrap, bit_if, values}
use Rattle.ev_isa.specs.Flags.{Status, alu}
use Rattle.ev_isa.specs.Pages.{Place, Text, Page, KernelWord, Lower, Upper, Access, fault_code, fault_if, fault_at, place_of}
use Rattle.ev_event.specs.declared.event.Event.{Event}
use Rattle.ev_event.specs.declared.event.EventType.TheVariants.{Int3}
use Rattle.ev_event.specs.Event.{pf, software}
use Rattle.ev_body.specs.declared.key.Key.{Key}
use Rattle.ev_body.specs.declared.key.Side.{Side}
use Rattle.ev_body.specs.declared.body.Body.{Body}
use Rattle.ev_body.specs.declared.image.Image.{Image}
use Rattle.ev_body.specs.Bodies.{first_body}
use Rattle.ev_body.specs.WellFormed.{is_local, is_word, has_operands}
use Rattle.ev_body.specs.declared.item.Item.{Item}
use Rattle.ev_body.specs.declared.item.Item.TheVariants.{Set, Copy, Jcc, Goto, Nop, Log, Cpu, Slot, Put, Cell, SetCell, AddCell, SwapCell, Uget, Uput, GetReg, SetReg, SetRip, Map, Unmap, Resched, Sti, Cli, Eoi, Send, Call, Kick, Wait, Take, Finish, Ret}
use Rattle.ev_effect.specs.Task.{reg, with_reg}
use Rattle.ev_symbolic.proofs.Values.{and_left, and_right}
use Rattle.ev_abstract.specs.Context.{CallId, BodyContext, local, with_local, onward, at_place}
use Rattle.ev_abstract.specs.declared.entry.Entry.{Entry}
use Rattle.ev_abstract.specs.Boundary.{is_nmi_body}
use Rattle.ev_abstract.specs.Machine.{CallState, Free, Queued, Taken, CallRecord, Processor, Machine, processor, with_processor, task, with_task, opening}
use Rattle.ev_abstract.specs.Delivery.{event_key, body_at_start, side_of, entered, delivered, switched, rescheduled, dropped}
use Rattle.ev_abstract.specs.CrossCall.{record_of, with_record, in_state, with_queue, queued, new_record, queue_answer, all_taken, at_first_call}
use Rattle.ev_abstract.specs.ItemMeaning.{replace_last, below_last, with_context, unknown_flags, arithmetic, taken, with_cell, user_address, with_page, mailed, with_mail, raised, kernel_access, kernel_fault, guarded, called, waited, finished, item_step}
use Rattle.ev_user.specs.Causes.{Fault, Undefined, Stack, Protection, Alignment, Cause, Faulted, Debug, Breakpoint, Three, Refused, Arrived, IsCause, raised_event}
use Rattle.ev_user.specs.Words.{AreWords, HoldsWords}
use Rattle.ev_user.specs.Numbers.{AreCallers, IsOfWords, AreOfWords, HasWords, HoldsNumbers, OpeningHoldsNumbers, ItemsKeepNumbers}
use Rattle.ev_user.proofs.Words.{alu_small, put_words, set_words}

-- ---- lists, and parts of the machine

-- the locals of a body at its start
pub start_words : (error key info : ℕ) → error < 2 ^ 64 → key < 2 ^ 64 → info < 2 ^ 64 → AreWords (error ∷ key ∷ info ∷ 0 ∷ 0 ∷ 0 ∷ 0 ∷ 0 ∷ [])
start_words error key info e k i zero = e
start_words error key info e k i (suc zero) = k
start_words error key info e k i (suc (suc zero)) = i
start_words error key info e k i (suc (suc (suc zero))) = omega arith
start_words error key info e k i (suc (suc (suc (suc zero)))) = omega arith
start_words error key info e k i (suc (suc (suc (suc (suc zero))))) = omega arith
start_words error key info e k i (suc (suc (suc (suc (suc (suc zero)))))) = omega arith
start_words error key info e k i (suc (suc (suc (suc (suc (suc (suc zero))))))) = omega arith
start_words error key info e k i (suc (suc (suc (suc (suc (suc (suc (suc r)))))))) = omega arith

-- another processor
pub put_numbers : (m : Machine) (p : ℕ) (x : Processor) → HoldsNumbers m → HasWords x → HoldsNumbers (with_processor m p x)
put_numbers m p x h k = record { each = λ q. pick q (q == p); cells = h.cells }
  where
    pick : (q : ℕ) (b : Bool) → HasWords (elim b as (λ y. Processor) [ true ↦ x | false ↦ m.processors q ])
    pick q true = k
    pick q false = h.each q

put_callers : (ks ls : List CallId) → AreCallers ks → AreCallers ls → AreCallers (ks ++ ls)
put_callers [] ls h k = k
put_callers (x ∷ ks) ls h k = (h.0, put_callers ks ls h.1 k)

replaced : (b : BodyContext) (bs : List BodyContext) → IsOfWords b → AreOfWords bs → AreOfWords (replace_last b bs)
replaced b [] h k = (h, tt)
replaced b (d ∷ below) h k = (h, k.1)

-- with another last context
context_numbers : (m : Machine) (p : ℕ) (b : BodyContext) → HoldsNumbers m → IsOfWords b → HoldsNumbers (with_context m p b)
context_numbers m p b h k =
    let x = h.each p in
    put_numbers m p (record (processor m p) { bodies = replace_last b (processor m p).bodies }) h
    (record { bodies = replaced b (processor m p).bodies k x.bodies; slots = x.slots; arguments = x.arguments; queue = x.queue })

-- with another local
local_words : (b : BodyContext) (d v : ℕ) → IsOfWords b → v < 2 ^ 64 → IsOfWords (with_local b d v)
local_words b d v h k = record { locals = set_words b.locals (d - 6) v h.locals k; calls = h.calls }

-- the same locals and calls
same_words : (b c : BodyContext) → c.locals ≡ b.locals → c.calls ≡ b.calls → IsOfWords b → IsOfWords c
same_words b c e f h = record { locals = subst AreWords (sym e) h.locals; calls = subst AreCallers (sym f) h.calls }

-- ---- events of a body

fault_small : (x : Access) (b : Bool) → fault_code x b < 2 ^ 64
fault_small x b = sum (bit_if 0 b) (bit_if 1 x.write) (bit_if 2 x.user) (bit_if 4 x.fetch) (small 0 b) (small 1 x.write) (small 2 x.user) (small 4 x.fetch)
  where
    small : (k : ℕ) (b : Bool) → bit_if k b ≤ 2 ^ k
    small k true = let h : 2 ^ k ≤ 2 ^ k = omega arith in h
    small k false = omega arith

    sum : (i j k l : ℕ) → i ≤ 2 ^ 0 → j ≤ 2 ^ 1 → k ≤ 2 ^ 2 → l ≤ 2 ^ 4 → i + j + k + l < 2 ^ 64
    sum i j k l a b c d = omega arith

-- the error code of a page fault
abbrev SmallCode : Option ℕ → Type 0
SmallCode None = Unit {0}
SmallCode (Some code) = code < 2 ^ 64

fault_codes : (present : ℕ → Bool) (x : Access) (z : Place) → SmallCode (fault_at present x z)
unfolding fault_at
fault_codes present x Text = one x.write
  where
    one : (b : Bool) → SmallCode (fault_if b (fault_code x true))
    one true = fault_small x true
    one false = tt
fault_codes present x (Page i) = one (present i) x.fetch
  where
    one : (b c : Bool) → SmallCode (if b then fault_if c (fault_code x true) else Some (fault_code x false))
    one true true = fault_small x true
    one true false = tt
    one false c = fault_small x false
fault_codes present x KernelWord = one x.user
  where
    one : (b : Bool) → SmallCode (fault_if b (fault_code x true))
    one true = fault_small x true
    one false = tt
fault_codes present x Lower = fault_small x false
fault_codes present x Upper = fault_small x x.user

-- a body begins with words where its event has some
pub record IsSmallEvent (e : Event) : Type 0 where
  pub error : e.error < 2 ^ 64
  pub key : event_key e.kind e.vector < 2 ^ 64
  pub info : e.info < 2 ^ 64

pub starts_with_words : (n : ℕ) (side : Side) (e : Event) → IsSmallEvent e → IsOfWords (body_at_start n side e)
starts_with_words n side e h =
    record { locals = start_words e.error (event_key e.kind e.vector) e.info h.error h.key h.info; calls = tt }

-- a canonical address is a word
pub word_of_canonical : (a : ℕ) → is_canonical a ≡ true → a < 2 ^ 64
word_of_canonical a h = pick (a / 2 ^ 47 == 0) refl h
  where
    low : (a : ℕ) → a / 140737488355328 ≡ 0 → a < 2 ^ 64
    low a e = omega arith

    high : (a : ℕ) → a / 140737488355328 ≡ 131071 → a < 2 ^ 64
    high a e = omega arith

    pick : (t : Bool) → (a / 2 ^ 47 == 0) ≡ t → (t || (a / 2 ^ 47 == 2 ^ 17 - 1)) ≡ true → a < 2 ^ 64
    pick true q k = low a (eqb-true (a / 2 ^ 47) 0 q)
    pick false q k = high a (eqb-true (a / 2 ^ 47) (2 ^ 17 - 1) k)

-- what user code raises has such words
pub causes_small : (cause : Cause) → IsCause cause → IsSmallEvent (raised_event cause)
causes_small (Faulted Undefined) h = record { error = omega arith; key = omega arith; info = omega arith }
causes_small (Faulted Stack) h = record { error = omega arith; key = omega arith; info = omega arith }
causes_small (Faulted Protection) h = record { error = omega arith; key = omega arith; info = omega arith }
causes_small (Faulted (Fault.Page code address)) h =
    let c = h.0 in record { error = omega arith; key = omega arith; info = word_of_canonical address h.1 }
causes_small (Faulted Alignment) h = record { error = omega arith; key = omega arith; info = omega arith }
causes_small Debug h = record { error = omega arith; key = omega arith; info = omega arith }
causes_small Breakpoint h = record { error = omega arith; key = omega arith; info = omega arith }
causes_small Three h = record { error = omega arith; key = omega arith; info = omega arith }
causes_small (Refused n) h = let c = h.0 in record { error = omega arith; key = omega arith; info = omega arith }
causes_small Cause.Call h = record { error = omega arith; key = omega arith; info = omega arith }
causes_small (Arrived v) h = let l = h.1 in record { error = omega arith; key = omega arith; info = omega arith }

entered_words : (p : ℕ) (x : Processor) (e : Event) (side : Side) (o : Option ℕ) (bodies : List Body) → IsSmallEvent e → HasWords x
    → HasWords (entered p x e side o bodies).0
entered_words p x e side None bodies h k = k
entered_words p x e side (Some n) bodies h k = with (slice_get bodies n) refl
  where
    with : (o : Option Body) → slice_get bodies n ≡ o → HasWords (entered p x e side (Some n) bodies).0
    with None q = rw q k
    with (Some b) q =
        rw q (record { bodies = (starts_with_words n side e h, k.bodies); slots = k.slots; arguments = k.arguments; queue = k.queue })

pub delivered_words : (image : Image) (p : ℕ) (x : Processor) (e : Event) → IsSmallEvent e → HasWords x → HasWords (delivered image p x e).0
unfolding delivered
delivered_words image p x e h k =
    entered_words p x e (side_of x.bodies) (first_body 0 image.bodies (event_key e.kind e.vector) (side_of x.bodies)) image.bodies h k

raised_numbers : (image : Image) (m : Machine) (p : ℕ) (e : Event) → IsSmallEvent e → HoldsNumbers m → HoldsNumbers (raised image m p e).0
raised_numbers image m p e h k =
    put_numbers m p (delivered image p (processor m p) e).0 k (delivered_words image p (processor m p) e h (k.each p))

guarded_numbers : (image : Image) (m : Machine) (p a : ℕ) (o : Option ℕ) (s : Machine × List Entry) → a < 2 ^ 64 → SmallCode o → HoldsNumbers m
    → HoldsNumbers s.0 → HoldsNumbers (guarded image m p a o s).0
guarded_numbers image m p a None s l c h k = k
guarded_numbers image m p a (Some code) s l c h k = raised_numbers image m p (pf code a) (record { error = c; key = omega arith; info = l }) h

address_small : (n : ℕ) → user_address n < 2 ^ 64
address_small n = let l : user_address n ≤ 0x7ffffffffff8 = and_le_r n 0x7ffffffffff8 in omega arith

-- ---- calls

record_numbers : (m : Machine) (k : CallId) (r : CallRecord) → HoldsNumbers m → r.arg < 2 ^ 64 → HoldsNumbers (with_record m k r)
record_numbers m k r h l =
    let x = h.each k.from in
    put_numbers m k.from (record (processor m k.from) { records = put_at (processor m k.from).records k.site r }) h
    (record { bodies = x.bodies; slots = x.slots; arguments = λ i. pick i (i == k.site); queue = x.queue })
  where
    pick : (i : ℕ) (b : Bool) → (elim b as (λ y. CallRecord) [ true ↦ r | false ↦ (processor m k.from).records i ]).arg < 2 ^ 64
    pick i true = l
    pick i false = (h.each k.from).arguments i

queue_numbers : (m : Machine) (p : ℕ) (ks : List CallId) → HoldsNumbers m → AreCallers ks → HoldsNumbers (with_queue m p ks)
queue_numbers m p ks h c =
    let x = h.each p in
    put_numbers m p (record (processor m p) { queue = ks }) h
    (record { bodies = x.bodies; slots = x.slots; arguments = x.arguments; queue = c })

taken_numbers : (m : Machine) (ks : List CallId) → HoldsNumbers m → HoldsNumbers (all_taken m ks)
taken_numbers m [] h = h
taken_numbers m (k ∷ ks) h =
    taken_numbers (with_record m k (in_state (record_of m k) Taken)) ks
    (record_numbers m k (in_state (record_of m k) Taken) h ((h.each k.from).arguments k.site))

first_call_words : (image : Image) (m : Machine) (b : BodyContext) (ks : List CallId) → HoldsNumbers m → AreWords b.locals → AreCallers ks
    → IsOfWords (at_first_call image m b ks)
first_call_words image m b [] h l c = record { locals = l; calls = tt }
first_call_words image m b (k ∷ ks) h l c =
    record { locals = set_words _ 4 k.from (set_words b.locals 3 (record_of m k).arg l ((h.each k.from).arguments k.site)) c.0; calls = c }

answer_small : (ks : List CallId) → queue_answer ks < 2 ^ 64
answer_small [] = omega arith
answer_small (k ∷ ks) = omega arith

called_numbers : (m : Machine) (p : ℕ) (b : BodyContext) (k : CallId) (st : CallState) (to func s : ℕ) → HoldsNumbers m → IsOfWords b → k.from < 2 ^ 64
    → HoldsNumbers (called m p b k st to func s).0
called_numbers m p b k Free to func s h w l =
    let r : CallRecord = new_record (record_of m k) to func (local b s) in
    let made : HoldsNumbers (with_record m k r) = record_numbers m k r h (w.locals (s - 6)) in
    let m' : Machine = with_record m k r in
    context_numbers (queued m k r) p (onward (with_local (unknown_flags b) s (queue_answer (processor m to).queue)))
    (queue_numbers m' r.to ((processor m' r.to).queue ++ k ∷ []) made (put_callers (processor m' r.to).queue (k ∷ []) (made.each r.to).queue (l, tt)))
    (record { locals = set_words b.locals (s - 6) (queue_answer (processor m to).queue) w.locals (answer_small (processor m to).queue); calls = w.calls })
called_numbers m p b k Queued to func s h w l =
    context_numbers m p (onward (with_local (unknown_flags b) s 0)) h (record { locals = set_words b.locals (s - 6) 0 w.locals (omega arith); calls = w.calls })
called_numbers m p b k Taken to func s h w l =
    context_numbers m p (onward (with_local (unknown_flags b) s 0)) h (record { locals = set_words b.locals (s - 6) 0 w.locals (omega arith); calls = w.calls })

waited_numbers : (m : Machine) (p : ℕ) (b : BodyContext) (k : CallId) (st : CallState) → HoldsNumbers m → IsOfWords b
    → HoldsNumbers (waited m p b k st).0
waited_numbers m p b k Free h w = context_numbers m p (onward (unknown_flags b)) h (record { locals = w.locals; calls = w.calls })
waited_numbers m p b k Queued h w = context_numbers m p (unknown_flags b) h (record { locals = w.locals; calls = w.calls })
waited_numbers m p b k Taken h w = context_numbers m p (unknown_flags b) h (record { locals = w.locals; calls = w.calls })

finished_numbers : (image : Image) (m : Machine) (p : ℕ) (b : BodyContext) (ks : List CallId) → HoldsNumbers m → IsOfWords b → AreCallers ks
    → HoldsNumbers (finished image m p b ks).0
finished_numbers image m p b [] h w c = h
finished_numbers image m p b (k ∷ ks) h w c =
    let m' : Machine = with_record m k (in_state (record_of m k) Free) in
    let h' : HoldsNumbers m' = record_numbers m k (in_state (record_of m k) Free) h ((h.each k.from).arguments k.site) in
    context_numbers m' p (at_first_call image m' (unknown_flags b) ks) h' (first_call_words image m' (unknown_flags b) ks h' w.locals c.1)

-- ---- mail, pages, cells, and returns

mail_numbers : (m : Machine) (p : ℕ) (key : Key) → HoldsNumbers m → HoldsNumbers (with_mail m p key)
mail_numbers m p key h = put_numbers m p (mailed (processor m p) key) h (one key)
  where
    one : (key : Key) → HasWords (mailed (processor m p) key)
    one Key.Nmi = let x = h.each p in record { bodies = x.bodies; slots = x.slots; arguments = x.arguments; queue = x.queue }
    one _ = let x = h.each p in record { bodies = x.bodies; slots = x.slots; arguments = x.arguments; queue = x.queue }

page_numbers : (m : Machine) (z : Place) (b : Bool) → HoldsNumbers m → HoldsNumbers (with_page m z b)
page_numbers m (Page i) b h = record { each = h.each; cells = h.cells }
page_numbers m Text b h = h
page_numbers m KernelWord b h = h
page_numbers m Lower b h = h
page_numbers m Upper b h = h

cell_numbers : (m : Machine) (k v : ℕ) → HoldsNumbers m → v < 2 ^ 64 → HoldsNumbers (with_cell m k v)
cell_numbers m k v h l = record { each = h.each; cells = put_words m.cells k v h.cells l }

switched_words : (x : Processor) (ts : List ℕ) → HasWords x → HasWords (switched x ts)
switched_words x [] h = h
switched_words x (t ∷ ts) h = record { bodies = h.bodies; slots = h.slots; arguments = h.arguments; queue = h.queue }

dropped_words : (image : Image) (b : BodyContext) (x : Processor) (bs : List BodyContext) → HasWords x → AreOfWords bs → HasWords (dropped image b x bs)
dropped_words image b x [] h w = pick (x.resched && not (is_nmi_body image b))
  where
    none : HasWords (record x { bodies = [] })
    none = record { bodies = tt; slots = h.slots; arguments = h.arguments; queue = h.queue }

    again : HasWords (record (record x { bodies = [] }) { resched = false })
    again = record { bodies = tt; slots = h.slots; arguments = h.arguments; queue = h.queue }

    pick : (t : Bool) → HasWords (if t then rescheduled (record x { bodies = [] }) else record x { bodies = [] })
    pick true = switched_words (record (record x { bodies = [] }) { resched = false }) (x.waiting ++ x.running ∷ []) again
    pick false = none
dropped_words image b x (c ∷ bs) h w = record { bodies = w; slots = h.slots; arguments = h.arguments; queue = h.queue }

below_words : (bs : List BodyContext) → AreOfWords bs → AreOfWords (below_last bs)
below_words [] h = tt
below_words (b ∷ bs) h = h.1

-- ---- items

-- a context that goes on, with the locals and calls that it has
on_words : (b c : BodyContext) → IsOfWords b → c.locals ≡ b.locals → c.calls ≡ b.calls → IsOfWords (onward c)
on_words b c h e f = same_words b (onward c) e f h

pub items_keep_numbers : ItemsKeepNumbers
unfolding item_step has_operands
items_keep_numbers image m p b (Set d n) bytes low high o hp h w t s =
    context_numbers m p (onward (with_local b d n)) h (same_words (with_local b d n) _ refl refl
    (local_words b d n s (ltb-true n (2 ^ 64) (and_right (is_local d) _ o))))
items_keep_numbers image m p b (Copy d r) bytes low high o hp h w t s =
    context_numbers m p (onward (with_local b d (local b r))) h (same_words (with_local b d (local b r)) _ refl refl
    (local_words b d (local b r) s (s.locals (r - 6))))
items_keep_numbers image m p b (Item.Alu op d r) bytes low high o hp h w t s =
    let z : ℕ × Status = alu op (local b d) (local b r) in
    context_numbers m p (onward (arithmetic b d z)) h (same_words (with_local b d z.0) _ refl refl
    (local_words b d z.0 s (alu_small op (local b d) (local b r) (s.locals (d - 6)) (s.locals (r - 6)))))
items_keep_numbers image m p b (Jcc c i) bytes low high o hp h w t s =
    context_numbers m p (if taken c b.flags then at_place b i else onward b) h (one (taken c b.flags))
  where
    one : (q : Bool) → IsOfWords (if q then at_place b i else onward b)
    one true = same_words b (at_place b i) refl refl s
    one false = same_words b (onward b) refl refl s
items_keep_numbers image m p b (Goto i) bytes low high o hp h w t s = context_numbers m p (at_place b i) h (same_words b _ refl refl s)
items_keep_numbers image m p b Nop bytes low high o hp h w t s = context_numbers m p (onward b) h (same_words b _ refl refl s)
items_keep_numbers image m p b (Log r) bytes low high o hp h w t s = context_numbers m p (onward b) h (same_words b _ refl refl s)
items_keep_numbers image m p b (Cpu d) bytes low high o hp h w t s =
    context_numbers m p (onward (with_local b d p)) h (same_words (with_local b d p) _ refl refl (local_words b d p s hp))
items_keep_numbers image m p b (Slot d k) bytes low high o hp h w t s =
    let v : ℕ = (processor m p).slots k in
    context_numbers m p (onward (with_local b d v)) h (same_words (with_local b d v) _ refl refl (local_words b d v s ((h.each p).slots k)))
items_keep_numbers image m p b (Put k r) bytes low high o hp h w t s =
    let x = h.each p in
    let m' : Machine = with_processor m p (record (processor m p) { slots = put_at (processor m p).slots k (local b r) }) in
    context_numbers m' p (onward b)
    (put_numbers m p (record (processor m p) { slots = put_at (processor m p).slots k (local b r) }) h
    (record { bodies = x.bodies; slots = put_words (processor m p).slots k (local b r) x.slots (s.locals (r - 6)); arguments = x.arguments; queue = x.queue }))
    (same_words b _ refl refl s)
items_keep_numbers image m p b (Cell d k) bytes low high o hp h w t s =
    context_numbers m p (onward (with_local b d (m.cells k))) h (same_words (with_local b d (m.cells k)) _ refl refl
    (local_words b d (m.cells k) s (h.cells k)))
items_keep_numbers image m p b (SetCell k r) bytes low high o hp h w t s =
    context_numbers (with_cell m k (local b r)) p (onward b) (cell_numbers m k (local b r) h (s.locals (r - 6))) (same_words b _ refl refl s)
items_keep_numbers image m p b (AddCell k d) bytes low high o hp h w t s =
    context_numbers (with_cell m k (wrap (m.cells k + local b d))) p (onward (with_local (unknown_flags b) d (m.cells k)))
    (cell_numbers m k (wrap (m.cells k + local b d)) h (small (m.cells k + local b d)))
    (same_words (with_local b d (m.cells k)) _ refl refl (local_words b d (m.cells k) s (h.cells k)))
  where
    small : (n : ℕ) → n % 18446744073709551616 < 2 ^ 64
    small n = omega arith
items_keep_numbers image m p b (SwapCell k d) bytes low high o hp h w t s =
    context_numbers (with_cell m k (local b d)) p (onward (with_local b d (m.cells k))) (cell_numbers m k (local b d) h (s.locals (d - 6)))
    (same_words (with_local b d (m.cells k)) _ refl refl (local_words b d (m.cells k) s (h.cells k)))
items_keep_numbers image m p b (Uget d r) bytes low high o hp h w t s =
    let a : ℕ = user_address (local b r) in
    guarded_numbers image m p a (kernel_fault m false a) _ (address_small (local b r)) (fault_codes m.present (kernel_access false) (place_of a)) h
    (context_numbers m p (onward (with_local (unknown_flags b) d (m.words a))) h
    (same_words (with_local b d (m.words a)) _ refl refl (local_words b d (m.words a) s (w a))))
items_keep_numbers image m p b (Uput r v) bytes low high o hp h w t s =
    let a : ℕ = user_address (local b r) in
    let m' : Machine = record m { words = put_at m.words a (local b v) } in
    guarded_numbers image m p a (kernel_fault m true a) _ (address_small (local b r)) (fault_codes m.present (kernel_access true) (place_of a)) h
    (context_numbers m' p (onward (unknown_flags b)) (record { each = h.each; cells = h.cells }) (same_words b _ refl refl s))
items_keep_numbers image m p b (GetReg d r) bytes low high o hp h w t s =
    let v : ℕ = reg (task (processor m p)) r in
    context_numbers m p (onward (with_local b d v)) h (same_words (with_local b d v) _ refl refl (local_words b d v s (t r)))
items_keep_numbers image m p b (SetReg r v) bytes low high o hp h w t s =
    let x = h.each p in
    let y : Processor = with_task (processor m p) (with_reg (task (processor m p)) r (local b v)) in
    context_numbers (with_processor m p y) p (onward b)
    (put_numbers m p y h (record { bodies = x.bodies; slots = x.slots; arguments = x.arguments; queue = x.queue })) (same_words b _ refl refl s)
items_keep_numbers image m p b (SetRip a) bytes low high o hp h w t s =
    let x = h.each p in
    let y : Processor = with_task (processor m p) (record (task (processor m p)) { rip = a }) in
    context_numbers (with_processor m p y) p (onward b)
    (put_numbers m p y h (record { bodies = x.bodies; slots = x.slots; arguments = x.arguments; queue = x.queue })) (same_words b _ refl refl s)
items_keep_numbers image m p b (Map r) bytes low high o hp h w t s =
    context_numbers (with_page m (place_of (local b r)) true) p (onward (unknown_flags b)) (page_numbers m (place_of (local b r)) true h)
    (same_words b _ refl refl s)
items_keep_numbers image m p b (Unmap r) bytes low high o hp h w t s =
    context_numbers (with_page m (place_of (local b r)) false) p (onward (unknown_flags b)) (page_numbers m (place_of (local b r)) false h)
    (same_words b _ refl refl s)
items_keep_numbers image m p b Resched bytes low high o hp h w t s =
    let x = h.each p in
    context_numbers (with_processor m p (record (processor m p) { resched = true })) p (onward b)
    (put_numbers m p (record (processor m p) { resched = true }) h
    (record { bodies = x.bodies; slots = x.slots; arguments = x.arguments; queue = x.queue })) (same_words b _ refl refl s)
items_keep_numbers image m p b Sti bytes low high o hp h w t s =
    context_numbers m p (onward (record b { interrupts = true })) h (same_words b _ refl refl s)
items_keep_numbers image m p b Cli bytes low high o hp h w t s =
    context_numbers m p (onward (record b { interrupts = false })) h (same_words b _ refl refl s)
items_keep_numbers image m p b Eoi bytes low high o hp h w t s =
    context_numbers m p (onward (record b { service = None })) h (same_words b _ refl refl s)
items_keep_numbers image m p b (Send to key) bytes low high o hp h w t s =
    context_numbers (with_mail m to key) p (onward b) (mail_numbers m to key h) (same_words b _ refl refl s)
items_keep_numbers image m p b Item.Bp bytes low high o hp h w t s =
    raised_numbers image (with_context m p (onward b)) p (software Int3 3 1) (record { error = omega arith; key = omega arith; info = omega arith })
    (context_numbers m p (onward b) h (same_words b _ refl refl s))
items_keep_numbers image m p b (Call site to func r) bytes low high o hp h w t s =
    let k : CallId = record { from = p; site = site } in
    called_numbers m p b k (record_of m k).state to func r h s hp
items_keep_numbers image m p b (Kick to r) bytes low high o hp h w t s = one (local b r == 2)
  where
    one : (q : Bool) → HoldsNumbers (with_context (if q then with_mail m to (Key.Irq 0xfb) else m) p (onward (unknown_flags b)))
    one true = context_numbers (with_mail m to (Key.Irq 0xfb)) p (onward (unknown_flags b)) (mail_numbers m to (Key.Irq 0xfb) h) (same_words b _ refl refl s)
    one false = context_numbers m p (onward (unknown_flags b)) h (same_words b _ refl refl s)
items_keep_numbers image m p b (Wait site) bytes low high o hp h w t s =
    let k : CallId = record { from = p; site = site } in
    waited_numbers m p b k (record_of m k).state h s
items_keep_numbers image m p b Take bytes low high o hp h w t s =
    let ks : List CallId = (processor m p).queue in
    let m' : Machine = with_queue (all_taken m ks) p [] in
    let h' : HoldsNumbers m' = queue_numbers (all_taken m ks) p [] (taken_numbers m ks h) tt in
    context_numbers m' p (at_first_call image m' (unknown_flags b) ks) h' (first_call_words image m' (unknown_flags b) ks h' s.locals (h.each p).queue)
items_keep_numbers image m p b Finish bytes low high o hp h w t s = finished_numbers image m p b b.calls h s s.calls
items_keep_numbers image m p b Ret bytes low high o hp h w t s =
    let x = h.each p in
    put_numbers m p (dropped image b (processor m p) (below_last (processor m p).bodies)) h
    (dropped_words image b (processor m p) (below_last (processor m p).bodies) x (below_words (processor m p).bodies x.bodies))

-- listed numbers, and 0 where there is none
values_small : (es : List (ℕ × ℕ)) → list_all (λ (e : ℕ × ℕ). nat_lt e.0 256 && is_word e.1) es ≡ true → HoldsWords (values es)
values_small [] h a = omega arith
values_small (e ∷ es) h a =
    pick (a == e.0) (ltb-true e.1 (2 ^ 64) (and_right (nat_lt e.0 256) _ (and_left (nat_lt e.0 256 && is_word e.1) _ h)))
    (values_small es (and_right (nat_lt e.0 256 && is_word e.1) _ h) a)
  where
    pick : (b : Bool) → e.1 < 2 ^ 64 → values es a < 2 ^ 64 → (if b then e.1 else values es a) < 2 ^ 64
    pick true l k = l
    pick false l k = k

pub opening_holds_numbers : OpeningHoldsNumbers
unfolding opening
opening_holds_numbers image is = record {
  each = λ p. record { bodies = tt; slots = λ k. omega arith; arguments = λ k. omega arith; queue = tt };
  cells = values_small image.cells (and_left _ _ is.cells_fit);
}
