-- A step of one processor leaves what is the others' own.
use Rattle.std.specs.Prelude.{◌≡◌, ◌≢◌, refl, ℕ, ◌==◌, Bool, true, false, not, ◌&&◌, List, [], ◌∷◌, Option, Some, None, if◌then◌else◌}
use Rattle.std.specs.List.{list_all}
use Rattle.std.proofs.Common.{arith, sym, ◌∙◌, ap}
use Rattle.std.proofs.lemmas.Bool.{eqb-true}
use Rattle.ev_isa.specs.Word.{NatMap, put_at}
use Rattle.ev_isa.specs.Pages.{Place, Page}
use Rattle.ev_body.specs.declared.key.Key.{Key}
use Rattle.ev_body.specs.declared.key.Key.TheVariants.{Nmi}
use Rattle.ev_body.specs.declared.item.Item.{Item}
use Rattle.ev_body.specs.declared.image.Image.{Image}
use Rattle.ev_abstract.specs.Context.{BodyContext, CallId}
use Rattle.ev_abstract.specs.Machine.{Machine, Processor, CallRecord, CallState, Free, Taken, processor, with_processor}
use Rattle.ev_abstract.specs.CrossCall.{with_record, record_of, in_state, all_taken, with_queue}
use Rattle.ev_abstract.specs.ItemMeaning.{Step, item_step, with_cell, with_page, mailed, with_mail, called, waited, finished, guarded}
use Rattle.ev_abstract.specs.UserCode.{UserStep, Goes, Raises}
use Rattle.ev_abstract.specs.Boundary.{Choice, Interrupt, Next, choice}
use Rattle.ev_abstract.specs.declared.script_line.Line.{Line}
use Rattle.ev_abstract.specs.declared.script_line.Line.TheVariants.{Turn, Edge, Arrive, Accept}
use Rattle.ev_abstract.specs.Run.{turn, line_step, after, task_step, item_or_nothing, next_step, chosen_step}
use Rattle.ev_abstract.specs.Laws.{private_part, is_of_another, ItemLeavesOthers, StepLeavesOthers, ScriptLeavesOthers}

own : Machine → ℕ → Processor
own m q = private_part (processor m q)

-- another processor p, and one that keeps its own part
put_other : (m : Machine) (p q : ℕ) (x : Processor) → q ≢ p → own (with_processor m p x) q ≡ own m q
unfolding own
put_other m p q x h = grind arith

put_same : (m : Machine) (p q : ℕ) (x : Processor) → private_part x ≡ private_part (processor m p) → own (with_processor m p x) q ≡ own m q
unfolding own
put_same m p q x h = by (q == p) refl
  where
    by : (b : Bool) → q == p ≡ b → private_part (elim b as (λ y. Processor) [ true ↦ x | false ↦ m.processors q ]) ≡ private_part (m.processors q)
    by true e = h ∙ ap (λ n. private_part (m.processors n)) (sym (eqb-true q p e))
    by false e = refl

record_own : (m : Machine) (k : CallId) (r : CallRecord) (q : ℕ) → own (with_record m k r) q ≡ own m q
record_own m k r q = put_same m k.from q (record (processor m k.from) { records = put_at (processor m k.from).records k.site r }) refl

taken_own : (m : Machine) (ks : List CallId) (q : ℕ) → own (all_taken m ks) q ≡ own m q
taken_own m [] q = refl
taken_own m (k ∷ ks) q = taken_own (with_record m k (in_state (record_of m k) Taken)) ks q ∙ record_own m k (in_state (record_of m k) Taken) q

cell_own : (m : Machine) (k v q : ℕ) → own (with_cell m k v) q ≡ own m q
unfolding own
cell_own m k v q = refl

words_own : (m : Machine) (words : NatMap ℕ) (q : ℕ) → own (record m { words = words }) q ≡ own m q
unfolding own
words_own m words q = refl

page_own : (m : Machine) (place : Place) (b : Bool) (q : ℕ) → own (with_page m place b) q ≡ own m q
unfolding own
page_own m (Page i) b q = refl
page_own m _ b q = refl

mailed_own : (x : Processor) (key : Key) → private_part (mailed x key) ≡ private_part x
mailed_own x Nmi = refl
mailed_own x _ = refl

mail_own : (m : Machine) (to : ℕ) (key : Key) (q : ℕ) → own (with_mail m to key) q ≡ own m q
mail_own m to key q = put_same m to q (mailed (processor m to) key) (mailed_own (processor m to) key)

kick_own : (m : Machine) (to : ℕ) (b : Bool) (q : ℕ) → own (if b then with_mail m to (Key.Irq 0xfb) else m) q ≡ own m q
kick_own m to true q = mail_own m to (Key.Irq 0xfb) q
kick_own m to false q = refl

queue_own : (m : Machine) (p q : ℕ) (queue : List CallId) → own (with_queue m p queue) q ≡ own m q
queue_own m p q queue = put_same m p q (record (processor m p) { queue = queue }) refl

guarded_own : (image : Image) (m : Machine) (p q a : ℕ) (code : Option ℕ) (s : Step) → q ≢ p → own s.0 q ≡ own m q
    → own (guarded image m p a code s).0 q ≡ own m q
guarded_own image m p q a None s h k = k
guarded_own image m p q a (Some code) s h k = simp (put_other, h)

called_own : (m : Machine) (p q : ℕ) (c : BodyContext) (k : CallId) (state : CallState) (to func s : ℕ) → q ≢ p
    → own (called m p c k state to func s).0 q ≡ own m q
called_own m p q c k Free to func s h = simp (put_other, queue_own, record_own, h)
called_own m p q c k _ to func s h = simp (put_other, h)

waited_own : (m : Machine) (p q : ℕ) (c : BodyContext) (k : CallId) (state : CallState) → q ≢ p → own (waited m p c k state).0 q ≡ own m q
waited_own m p q c k Free h = simp (put_other, h)
waited_own m p q c k _ h = simp (put_other, h)

finished_own : (image : Image) (m : Machine) (p q : ℕ) (c : BodyContext) (ks : List CallId) → q ≢ p → own (finished image m p c ks).0 q ≡ own m q
finished_own image m p q c [] h = refl
finished_own image m p q c (k ∷ ks) h = simp (put_other, record_own, h)

item_own : (image : Image) (m : Machine) (p q : ℕ) (c : BodyContext) (item : Item) → q ≢ p → own (item_step image m p c item).0 q ≡ own m q
unfolding item_step
item_own image m p q c (Item.Uget d s) h = search (guarded_own, put_other)
item_own image m p q c (Item.Uput s t) h = search (guarded_own, put_other, words_own, ◌∙◌)
item_own image m p q c (Item.Kick to s) h = simp (put_other, kick_own, h)
item_own image m p q c (Item.Call site to func s) h = called_own m p q c _ _ to func s h
item_own image m p q c (Item.Wait site) h = waited_own m p q c _ _ h
item_own image m p q c Item.Take h = simp (put_other, taken_own, h)
item_own image m p q c Item.Finish h = finished_own image m p q c c.calls h
item_own image m p q c item h = simp (put_other, cell_own, page_own, mail_own, h)

pub item_leaves_others : ItemLeavesOthers
unfolding own
item_leaves_others image m p q c item h = item_own image m p q c item h

-- ---- a step

task_own : (image : Image) (m : Machine) (p q : ℕ) (s : UserStep) → q ≢ p → own (task_step image m p s).0 q ≡ own m q
task_own image m p q (Goes t words) h = simp (put_other, words_own, h)
task_own image m p q (Raises saved e) h = simp (put_other, h)

possible_item_own : (image : Image) (m : Machine) (p q : ℕ) (c : BodyContext) (item : Option Item) → q ≢ p
    → own (item_or_nothing image m p c item).0 q ≡ own m q
possible_item_own image m p q c None h = refl
possible_item_own image m p q c (Some item) h = item_own image m p q c item h

next_own : (image : Image) (m : Machine) (p q : ℕ) (bodies : List BodyContext) → q ≢ p → own (next_step image m p bodies).0 q ≡ own m q
next_own image m p q [] h = task_own image m p q _ h
next_own image m p q (c ∷ below) h = possible_item_own image m p q c _ h

chosen_own : (image : Image) (m : Machine) (p q : ℕ) (next : Choice) → q ≢ p → own (chosen_step image m p next).0 q ≡ own m q
chosen_own image m p q Choice.Nmi h = simp (put_other, h)
chosen_own image m p q (Interrupt v) h = simp (put_other, h)
chosen_own image m p q Next h = next_own image m p q _ h

pub step_leaves_others : StepLeavesOthers
unfolding own turn
step_leaves_others image m p q h = chosen_own image m p q (choice image (processor m p)) h

-- ---- a script

differs : (p q : ℕ) → not (q == p) ≡ true → q ≢ p
differs p q h = grind arith

and_split : (a b : Bool) → (a && b) ≡ true → (a ≡ true) × (b ≡ true)
and_split true b h = (refl, h)
and_split false b h = grind arith

line_own : (image : Image) (m : Machine) (q : ℕ) (l : Line) → is_of_another q l ≡ true → own (line_step image m l).0 q ≡ own m q
unfolding line_step own
line_own image m q (Turn p) h = step_leaves_others image m p q (differs p q h)
line_own image m q (Edge p n) h = refl
line_own image m q (Arrive p key) h = put_other m p q _ (differs p q h)
line_own image m q (Accept p) h = put_other m p q _ (differs p q h)

script_own : (image : Image) (m : Machine) (q : ℕ) (script : List Line) → list_all (is_of_another q) script ≡ true → own (after image m script) q ≡ own m q
script_own image m q [] h = refl
script_own image m q (l ∷ ls) h = let both : (is_of_another q l ≡ true) × (list_all (is_of_another q) ls ≡ true) = and_split _ _ h in
    script_own image (line_step image m l).0 q ls both.1 ∙ line_own image m q l both.0

pub script_leaves_others : ScriptLeavesOthers
unfolding own
script_leaves_others image m q script h = script_own image m q script h
