-- No line of a script changes the GS base of a task.
use Rattle.std.specs.Prelude.{◌≡◌, refl, ℕ, ◌+◌, ◌-◌, ◌^◌, Bool, true, false, not, ◌&&◌, ◌==◌, if◌then◌else◌, List, [], ◌∷◌, ◌++◌, length, Option, Some, None, Result, Ok, Err, slice_get}
use Rattle.std.proofs.Common.{ap, sym, ◌∙◌}
use Rattle.std.proofs.lemmas.Bool.{eqb-true}
use Rattle.ev_isa.specs.Word.{NatMap, put_at, wrap, sign_extend, displaced, is_canonical}
use Rattle.ev_isa.specs.Flags.{Status, sum, difference, holds}
use Rattle.ev_isa.specs.Spelling.{spelling}
use Rattle.ev_isa.specs.Reading.{reading}
use Rattle.ev_isa.specs.Pages.{Place, Page, View, UserMemory, fault_at, place_of}
use Rattle.ev_isa.specs.Instruction.{user_may}
use Rattle.ev_isa.specs.declared.instruction.Ins.{Ins}
use Rattle.ev_isa.specs.declared.instruction.Ins.TheVariants.{Load, Store, StoreImm, GsLoad, GsStore, GsPush, Xchg, CmpXchg, Xadd, Jmp, JmpReg, Push, PushImm, Pop, IntN, Int3, Int1, Syscall, Ud2}
use Rattle.ev_isa.specs.declared.instruction.Ins.TheVariants as instruction
use Rattle.ev_event.specs.declared.event.Event.{Event}
use Rattle.ev_event.specs.declared.event.EventType.{EventType}
use Rattle.ev_event.specs.declared.event.EventType.TheVariants.{Other}
use Rattle.ev_event.specs.Event.{ss, gp, ud, pf, software, nmi_event, interrupt_event}
use Rattle.ev_body.specs.declared.key.Key.{Key}
use Rattle.ev_body.specs.declared.key.Key.TheVariants.{Nmi}
use Rattle.ev_body.specs.declared.item.Item.{Item}
use Rattle.ev_body.specs.declared.item.Item.TheVariants.{Set, Copy, Alu, Jcc, Goto, Nop, Log, Cpu, Slot, Put, Cell, SetCell, AddCell, SwapCell, Uget, Uput, GetReg, SetReg, SetRip, Map, Unmap, Resched, Sti, Cli, Eoi, Send, Call, Kick, Wait, Take, Finish, Ret}
use Rattle.ev_body.specs.declared.key.Side.{Side}
use Rattle.ev_body.specs.declared.body.Body.{Body}
use Rattle.ev_body.specs.declared.image.Image.{Image}
use Rattle.ev_body.specs.Bodies.{first_body}
use Rattle.ev_effect.specs.Task.{Task, reg, with_reg}
use Rattle.ev_effect.specs.Effect.{Changed, effect, ◌>>=◌, in_flags, read_word, write_word, bad_address, jumped, pushed, compared}
use Rattle.ev_abstract.specs.Context.{BodyContext, CallId, local, onward}
use Rattle.ev_abstract.specs.Machine.{Machine, Processor, CallRecord, opening, CallState, Free, Queued, Taken, processor, with_processor, task, with_task, user_memory}
use Rattle.ev_abstract.specs.Boundary.{Choice, Interrupt, Next, choice, is_nmi_body}
use Rattle.ev_abstract.specs.CrossCall.{record_of, with_record, in_state, with_queue, queued, new_record, all_taken}
use Rattle.ev_abstract.specs.Delivery.{event_key, side_of, entered, delivered, saved_by, switched, rescheduled, dropped}
use Rattle.ev_abstract.specs.ItemMeaning.{Step, with_context, with_slot, with_cell, with_task_at, with_page, mailed, with_mail, user_address, kernel_fault, guarded, gives, done, unknown_flags, called, waited, finished, item_step, below_last}
use Rattle.ev_abstract.specs.UserCode.{UserStep, Goes, Raises, step_of, executed, read_step, text_bytes, user_view, fetch_step, user_step}
use Rattle.ev_abstract.specs.Run.{task_step, item_at, item_or_nothing, next_step, chosen_step, turn, arrived, line_step}
use Rattle.ev_abstract.specs.declared.script_line.Line.{Line}
use Rattle.ev_abstract.specs.declared.script_line.Line.TheVariants.{Turn, Edge, Arrive, Accept}
use Rattle.ev_law.specs.Bases.{OpeningHasBases, LinesKeepBases}

-- ---- user code

abbrev KeepsBase : Task → Result Changed Event → Type 0
KeepsBase t (Ok u) = u.0.gs ≡ t.gs
KeepsBase t (Err e) = Unit {0}

bind_keeps : {A : Type 0} (t : Task) (r : Result A Event) (f : A → Result Changed Event) → ((x : A) → KeepsBase t (f x)) → KeepsBase t (r >>= f)
bind_keeps t (Ok x) f k = k x
bind_keeps t (Err e) f k = tt

jump_keeps : (t : Task) (a : ℕ) (ws : NatMap ℕ) → KeepsBase t (jumped t a >>= (λ u. Ok (u, ws)))
jump_keeps t a ws = pick (is_canonical a)
  where
    pick : (b : Bool) → KeepsBase t ((if b then Ok (record t { rip = a }) else Err (gp 0)) >>= (λ u. Ok (u, ws)))
    pick true = refl
    pick false = tt

branch_keeps : (b : Bool) (t : Task) (a : ℕ) (ws : NatMap ℕ) → KeepsBase t ((if b then jumped t a else Ok t) >>= (λ u. Ok (u, ws)))
branch_keeps true t a ws = jump_keeps t a ws
branch_keeps false t a ws = refl

push_keeps : (m : View) (t : Task) (v : ℕ) → KeepsBase t (pushed m t v)
push_keeps m t v = bind_keeps t (write_word m (ss 0) (wrap (reg t 4 + 2 ^ 64 - 8)) v) _ (λ ws. refl)

compare_keeps : (t : Task) (w s : ℕ) → (compared t w s).0.gs ≡ t.gs
compare_keeps t w s = pick (reg t 0 == w)
  where
    pick : (b : Bool) → let u : Task = in_flags t (difference (reg t 0) w).1 in
        let r : Task × ℕ = (if b then (u, reg t s) else (with_reg u 0 w, w)) in r.0.gs ≡ t.gs
    pick true = refl
    pick false = refl

effect_keeps : (m : View) (t : Task) (i : Ins) → KeepsBase t (effect m t i)
unfolding effect
effect_keeps m t (Load d b n) = bind_keeps t (read_word m (bad_address b) (displaced (reg t b) n)) _ (λ v. refl)
effect_keeps m t (Store b n s) = bind_keeps t (write_word m (bad_address b) (displaced (reg t b) n) (reg t s)) _ (λ ws. refl)
effect_keeps m t (StoreImm b n i) = bind_keeps t (write_word m (bad_address b) (displaced (reg t b) n) (sign_extend i)) _ (λ ws. refl)
effect_keeps m t (GsLoad d n) = bind_keeps t (read_word m (gp 0) (displaced t.gs n)) _ (λ v. refl)
effect_keeps m t (GsStore n s) = bind_keeps t (write_word m (gp 0) (displaced t.gs n) (reg t s)) _ (λ ws. refl)
effect_keeps m t (GsPush n) = bind_keeps t (read_word m (gp 0) (displaced t.gs n)) _ (λ v. push_keeps m t v)
effect_keeps m t (Xchg b n s) = bind_keeps t (write_word m (bad_address b) (displaced (reg t b) n) (reg t s)) _ (λ ws. refl)
effect_keeps m t (Xadd b n s) = let r : ℕ × Status = sum (m.words (displaced (reg t b) n)) (reg t s) in
    bind_keeps t (write_word m (bad_address b) (displaced (reg t b) n) r.0) _ (λ ws. refl)
effect_keeps m t (CmpXchg b n s) = let r : Task × ℕ = compared t (m.words (displaced (reg t b) n)) s in
    bind_keeps t (write_word m (bad_address b) (displaced (reg t b) n) r.1) _ (λ ws. compare_keeps t (m.words (displaced (reg t b) n)) s)
effect_keeps m t (Jmp n) = jump_keeps t (displaced t.rip n) m.words
effect_keeps m t (instruction.Jcc c n) = branch_keeps (holds c t.flags.status) t (displaced t.rip n) m.words
effect_keeps m t (JmpReg s) = jump_keeps t (reg t s) m.words
effect_keeps m t (Push s) = push_keeps m t (reg t s)
effect_keeps m t (PushImm i) = push_keeps m t (sign_extend i)
effect_keeps m t (Pop d) = bind_keeps t (read_word m (ss 0) (reg t 4)) _ (λ v. refl)
effect_keeps m t _ = refl

-- a step of user code
abbrev StepKeeps : Task → UserStep → Type 0
StepKeeps t (Goes u words) = u.gs ≡ t.gs
StepKeeps t (Raises saved e) = Unit {0}

step_keeps : (t u : Task) (r : Result Changed Event) → u.gs ≡ t.gs → KeepsBase u r → StepKeeps t (step_of t r)
step_keeps t u (Ok x) e h = h ∙ e
step_keeps t u (Err x) e h = tt

may_keep : (m : View) (t u : Task) (i : Ins) (b : Bool) → u.gs ≡ t.gs → StepKeeps t (if b then step_of t (effect m u i) else Raises t.rip ud)
may_keep m t u i true e = step_keeps t u (effect m u i) e (effect_keeps m u i)
may_keep m t u i false e = tt

int_keeps : (t : Task) (next n : ℕ) (b : Bool) (e f : Event) → StepKeeps t (if b then Raises next e else Raises t.rip f)
int_keeps t next n true e f = tt
int_keeps t next n false e f = tt

executed_keeps : (m : View) (t : Task) (next : ℕ) (i : Ins) → StepKeeps t (executed m t next i)
unfolding executed
executed_keeps m t next Int1 = tt
executed_keeps m t next Int3 = tt
executed_keeps m t next Syscall = tt
executed_keeps m t next (IntN n) = int_keeps t next n (n == 3) _ _
executed_keeps m t next instruction.Sti = tt
executed_keeps m t next instruction.Cli = tt
executed_keeps m t next Ud2 = tt
executed_keeps m t next i = may_keep m t (record t { rip = next }) i (user_may i) refl

read_keeps : (m : View) (t : Task) (o : Option Ins) → StepKeeps t (read_step m t o)
read_keeps m t None = tt
read_keeps m t (Some i) = executed_keeps m t (t.rip + length (spelling i)) i

fetch_keeps : (m : UserMemory) (t : Task) (o : Option ℕ) → StepKeeps t (fetch_step m t o)
fetch_keeps m t None = read_keeps (user_view m) t (reading (text_bytes m.text t.rip))
fetch_keeps m t (Some code) = tt

user_keeps : (m : UserMemory) (t : Task) → StepKeeps t (user_step m t)
unfolding user_step
user_keeps m t = fetch_keeps m t (fault_at m.present (record { user = true; write = false; fetch = true }) (place_of t.rip))

-- ---- machines with the same bases

abbrev SameBases : Machine → Machine → Type 0
SameBases m n = (p i : ℕ) → ((processor n p).tasks i).gs ≡ ((processor m p).tasks i).gs

also : (a b c : Machine) → SameBases a b → SameBases b c → SameBases a c
also a b c f g p i = g p i ∙ f p i

put_keeps : (m : Machine) (p : ℕ) (x : Processor) → ((i : ℕ) → (x.tasks i).gs ≡ ((processor m p).tasks i).gs) → SameBases m (with_processor m p x)
put_keeps m p x h q i = pick (q == p) refl
  where
    pick : (b : Bool) → (q == p) ≡ b
        → ((elim b as (λ y. Processor) [ true ↦ x | false ↦ m.processors q ]).tasks i).gs ≡ ((m.processors q).tasks i).gs
    pick true e = h i ∙ ap (λ n. ((m.processors n).tasks i).gs) (sym (eqb-true q p e))
    pick false e = refl

-- another running task with the same base
task_keeps : (x : Processor) (t : Task) → t.gs ≡ (task x).gs → (i : ℕ) → ((with_task x t).tasks i).gs ≡ (x.tasks i).gs
task_keeps x t h i = pick (i == x.running) refl
  where
    pick : (b : Bool) → (i == x.running) ≡ b → (elim b as (λ y. Task) [ true ↦ t | false ↦ x.tasks i ]).gs ≡ (x.tasks i).gs
    pick true e = h ∙ ap (λ n. (x.tasks n).gs) (sym (eqb-true i x.running e))
    pick false e = refl

context : (m : Machine) (p : ℕ) (c : BodyContext) → SameBases m (with_context m p c)
context m p c = put_keeps m p _ (λ i. refl)

-- a step whose machine has another context behind another change
then_context : (m n : Machine) (p : ℕ) (c : BodyContext) → SameBases m n → SameBases m (with_context n p c)
then_context m n p c h = also m n (with_context n p c) h (context n p c)

-- ---- deliveries and returns

entered_tasks : (p : ℕ) (x : Processor) (e : Event) (side : Side) (o : Option ℕ) (bodies : List Body) → (entered p x e side o bodies).0.tasks ≡ x.tasks
entered_tasks p x e side None bodies = refl
entered_tasks p x e side (Some n) bodies = pick (slice_get bodies n) refl
  where
    pick : (o : Option Body) → slice_get bodies n ≡ o → (entered p x e side (Some n) bodies).0.tasks ≡ x.tasks
    pick None h = rw h refl
    pick (Some b) h = rw h refl

delivered_tasks : (image : Image) (p : ℕ) (x : Processor) (e : Event) → (delivered image p x e).0.tasks ≡ x.tasks
unfolding delivered
delivered_tasks image p x e =
    let side : Side = side_of x.bodies in entered_tasks p x e side (first_body 0 image.bodies (event_key e.kind e.vector) side) image.bodies

delivery_keeps : (image : Image) (m : Machine) (p : ℕ) (x : Processor) (e : Event) → ((i : ℕ) → (x.tasks i).gs ≡ ((processor m p).tasks i).gs)
    → SameBases m (with_processor m p (delivered image p x e).0)
delivery_keeps image m p x e h =
    put_keeps m p (delivered image p x e).0 (λ i. ap (λ (ts : NatMap Task). (ts i).gs) (delivered_tasks image p x e) ∙ h i)

switched_tasks : (x : Processor) (ns : List ℕ) → (switched x ns).tasks ≡ x.tasks
switched_tasks x [] = refl
switched_tasks x (n ∷ ns) = refl

dropped_tasks : (image : Image) (c : BodyContext) (x : Processor) (below : List BodyContext) → (dropped image c x below).tasks ≡ x.tasks
dropped_tasks image c x (b ∷ below) = refl
dropped_tasks image c x [] = pick (x.resched && not (is_nmi_body image c))
  where
    pick : (b : Bool) → (if b then rescheduled (record x { bodies = [] }) else record x { bodies = [] }).tasks ≡ x.tasks
    pick true = switched_tasks (record x { bodies = []; resched = false }) (x.waiting ++ x.running ∷ [])
    pick false = refl

saved_keeps : (kind : EventType) (t : Task) → (saved_by kind t).gs ≡ t.gs
saved_keeps Other t = refl
saved_keeps _ t = refl

-- ---- calls

record_keeps : (m : Machine) (k : CallId) (r : CallRecord) → SameBases m (with_record m k r)
record_keeps m k r = put_keeps m k.from _ (λ i. refl)

queue_keeps : (m : Machine) (p : ℕ) (ks : List CallId) → SameBases m (with_queue m p ks)
queue_keeps m p ks = put_keeps m p _ (λ i. refl)

taken_keeps : (ks : List CallId) (m : Machine) → SameBases m (all_taken m ks)
taken_keeps [] m = λ p i. refl
taken_keeps (k ∷ ks) m = let n : Machine = with_record m k (in_state (record_of m k) Taken) in
    also m n (all_taken n ks) (record_keeps m k (in_state (record_of m k) Taken)) (taken_keeps ks n)

call_keeps : (m : Machine) (p : ℕ) (c : BodyContext) (k : CallId) (state : CallState) (to func s : ℕ) → SameBases m (called m p c k state to func s).0
call_keeps m p c k Free to func s =
    let r : CallRecord = new_record (record_of m k) to func (local c s) in
    let n : Machine = with_record m k r in
    then_context m (queued m k r) p _ (also m n (queued m k r) (record_keeps m k r) (queue_keeps n r.to ((processor n r.to).queue ++ k ∷ [])))
call_keeps m p c k Queued to func s = context m p _
call_keeps m p c k Taken to func s = context m p _

wait_keeps : (m : Machine) (p : ℕ) (c : BodyContext) (k : CallId) (state : CallState) → SameBases m (waited m p c k state).0
wait_keeps m p c k Free = context m p _
wait_keeps m p c k Queued = context m p _
wait_keeps m p c k Taken = context m p _

finish_keeps : (image : Image) (m : Machine) (p : ℕ) (c : BodyContext) (ks : List CallId) → SameBases m (finished image m p c ks).0
finish_keeps image m p c [] = λ q i. refl
finish_keeps image m p c (k ∷ ks) =
    then_context m (with_record m k (in_state (record_of m k) Free)) p _ (record_keeps m k (in_state (record_of m k) Free))

-- ---- items

page_keeps : (m : Machine) (place : Place) (b : Bool) → SameBases m (with_page m place b)
page_keeps m (Page i) b = λ p i. refl
page_keeps m _ b = λ p i. refl

mailed_tasks : (x : Processor) (key : Key) → (mailed x key).tasks ≡ x.tasks
mailed_tasks x Nmi = refl
mailed_tasks x _ = refl

mail_keeps : (m : Machine) (p : ℕ) (key : Key) → SameBases m (with_mail m p key)
mail_keeps m p key = put_keeps m p (mailed (processor m p) key) (λ i. ap (λ (ts : NatMap Task). (ts i).gs) (mailed_tasks (processor m p) key))

kick_keeps : (m : Machine) (to : ℕ) (key : Key) (b : Bool) → SameBases m (if b then with_mail m to key else m)
kick_keeps m to key true = mail_keeps m to key
kick_keeps m to key false = λ p i. refl

guard_keeps : (image : Image) (m : Machine) (p a : ℕ) (o : Option ℕ) (s : Step) → SameBases m s.0 → SameBases m (guarded image m p a o s).0
guard_keeps image m p a None s h = h
guard_keeps image m p a (Some code) s h = delivery_keeps image m p (processor m p) (pf code a) (λ i. refl)

item_keeps : (image : Image) (m : Machine) (p : ℕ) (c : BodyContext) (item : Item) → SameBases m (item_step image m p c item).0
unfolding item_step
item_keeps image m p c (Set d n) = context m p _
item_keeps image m p c (Copy d s) = context m p _
item_keeps image m p c (Alu op d s) = context m p _
item_keeps image m p c (Jcc cond n) = context m p _
item_keeps image m p c (Goto n) = context m p _
item_keeps image m p c Nop = context m p _
item_keeps image m p c (Log s) = context m p _
item_keeps image m p c (Cpu d) = context m p _
item_keeps image m p c (Slot d k) = context m p _
item_keeps image m p c (Put k s) = then_context m (with_slot m p k (local c s)) p _ (put_keeps m p _ (λ i. refl))
item_keeps image m p c (Cell d k) = context m p _
item_keeps image m p c (SetCell k s) = context (with_cell m k (local c s)) p _
item_keeps image m p c (AddCell k d) = context (with_cell m k (wrap (m.cells k + local c d))) p _
item_keeps image m p c (SwapCell k d) = context (with_cell m k (local c d)) p _
item_keeps image m p c (Uget d s) = let a : ℕ = user_address (local c s) in
    guard_keeps image m p a (kernel_fault m false a) (gives m p (unknown_flags c) d (m.words a)) (context m p _)
item_keeps image m p c (Uput s t) = let a : ℕ = user_address (local c s) in
    let n : Machine = record m { words = put_at m.words a (local c t) } in
    guard_keeps image m p a (kernel_fault m true a) (done n p (unknown_flags c)) (context n p _)
item_keeps image m p c (GetReg d r) = context m p _
item_keeps image m p c (SetReg r s) = let t : Task = with_reg (task (processor m p)) r (local c s) in
    then_context m (with_task_at m p t) p _ (put_keeps m p _ (task_keeps (processor m p) t refl))
item_keeps image m p c (SetRip a) = let t : Task = record (task (processor m p)) { rip = a } in
    then_context m (with_task_at m p t) p _ (put_keeps m p _ (task_keeps (processor m p) t refl))
item_keeps image m p c (Map s) = then_context m (with_page m (place_of (local c s)) true) p _ (page_keeps m (place_of (local c s)) true)
item_keeps image m p c (Unmap s) = then_context m (with_page m (place_of (local c s)) false) p _ (page_keeps m (place_of (local c s)) false)
item_keeps image m p c Resched =
    then_context m (with_processor m p (record (processor m p) { resched = true })) p _ (put_keeps m p _ (λ i. refl))
item_keeps image m p c Sti = context m p _
item_keeps image m p c Cli = context m p _
item_keeps image m p c Eoi = context m p _
item_keeps image m p c (Send to key) = then_context m (with_mail m to key) p _ (mail_keeps m to key)
item_keeps image m p c Item.Bp = let n : Machine = with_context m p (onward c) in
    let e : Event = software EventType.Int3 3 1 in
    also m n (with_processor n p (delivered image p (processor n p) e).0) (context m p (onward c)) (delivery_keeps image n p (processor n p) e (λ i. refl))
item_keeps image m p c (Call site to func s) = let k : CallId = record { from = p; site = site } in call_keeps m p c k (record_of m k).state to func s
item_keeps image m p c (Kick to s) = then_context m (if local c s == 2 then with_mail m to (Key.Irq 0xfb) else m) p _
    (kick_keeps m to (Key.Irq 0xfb) (local c s == 2))
item_keeps image m p c (Wait site) = let k : CallId = record { from = p; site = site } in wait_keeps m p c k (record_of m k).state
item_keeps image m p c Take = let ks : List CallId = (processor m p).queue in
    let n : Machine = all_taken m ks in
    then_context m (with_queue n p []) p _ (also m n (with_queue n p []) (taken_keeps ks m) (queue_keeps n p []))
item_keeps image m p c Finish = finish_keeps image m p c c.calls
item_keeps image m p c Ret = put_keeps m p _
    (λ i. ap (λ (ts : NatMap Task). (ts i).gs) (dropped_tasks image c (processor m p) (below_last (processor m p).bodies)))

-- ---- turns and lines

task_step_keeps : (image : Image) (m : Machine) (p : ℕ) (s : UserStep) → StepKeeps (task (processor m p)) s → SameBases m (task_step image m p s).0
task_step_keeps image m p (Goes t words) h = put_keeps (record m { words = words }) p _ (task_keeps (processor m p) t h)
task_step_keeps image m p (Raises saved e) h = let t : Task = saved_by e.kind (record (task (processor m p)) { rip = saved }) in
    delivery_keeps image m p (with_task (processor m p) t) e
    (task_keeps (processor m p) t (saved_keeps e.kind (record (task (processor m p)) { rip = saved })))

nothing_or : (image : Image) (m : Machine) (p : ℕ) (c : BodyContext) (o : Option Item) → SameBases m (item_or_nothing image m p c o).0
nothing_or image m p c None = λ q i. refl
nothing_or image m p c (Some item) = item_keeps image m p c item

next_keeps : (image : Image) (m : Machine) (p : ℕ) (bodies : List BodyContext) → SameBases m (next_step image m p bodies).0
next_keeps image m p [] =
    task_step_keeps image m p (user_step (user_memory image m) (task (processor m p))) (user_keeps (user_memory image m) (task (processor m p)))
next_keeps image m p (c ∷ below) = nothing_or image m p c (item_at (slice_get image.bodies c.body) c.place)

chosen_keeps : (image : Image) (m : Machine) (p : ℕ) (choice : Choice) → SameBases m (chosen_step image m p choice).0
chosen_keeps image m p Choice.Nmi = delivery_keeps image m p (record (processor m p) { nmi = false }) nmi_event (λ i. refl)
chosen_keeps image m p (Interrupt v) =
    delivery_keeps image m p (record (processor m p) { pending = put_at (processor m p).pending v false }) (interrupt_event v) (λ i. refl)
chosen_keeps image m p Next = next_keeps image m p (processor m p).bodies

arrived_tasks : (x : Processor) (key : Key) → (arrived x key).tasks ≡ x.tasks
arrived_tasks x Nmi = refl
arrived_tasks x _ = refl

line_keeps : (image : Image) (m : Machine) (l : Line) → SameBases m (line_step image m l).0
unfolding line_step turn
line_keeps image m (Turn p) = chosen_keeps image m p (choice image (processor m p))
line_keeps image m (Edge p n) = λ q i. refl
line_keeps image m (Arrive p key) =
    put_keeps m p (arrived (processor m p) key) (λ i. ap (λ (ts : NatMap Task). (ts i).gs) (arrived_tasks (processor m p) key))
line_keeps image m (Accept p) = put_keeps m p _ (λ i. refl)

pub lines_keep_bases : LinesKeepBases
lines_keep_bases image m l h p i = line_keeps image m l p i ∙ h p i

pub opening_has_bases : OpeningHasBases
unfolding opening
opening_has_bases image p i = refl
