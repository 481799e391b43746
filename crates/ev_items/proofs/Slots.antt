-- Items whose numbers are below the bounds of an image are below those of the largest image.
use Rattle.std.proofs.Common.{◌≡◌, ℕ, zero, suc, ◌<◌, ◌≤◌, Bool, true, false, not, ◌&&◌, List, [], ◌∷◌, length, get_or, refl, sym, ap, ◌∙◌, arith}
use Rattle.std.specs.Prelude.{nat_lt}
use Rattle.std.specs.List.{list_all}
use Rattle.std.proofs.lemmas.Bool.{lt-ltb, ltb-true}
use Rattle.ev_body.specs.declared.item.Item.{Item}
use Rattle.ev_body.specs.declared.item.Item.TheVariants.{Set, Copy, Alu, Jcc, Goto, Nop, Log, Cpu, Slot, Put, Cell, SetCell, AddCell, SwapCell, Uget, Uput, GetReg, SetReg, SetRip, Map, Unmap, Resched, Sti, Cli, Eoi, Send, Call, Kick, Wait, Take, Finish, Ret}
use Rattle.ev_body.specs.declared.body.Body.{Body}
use Rattle.ev_body.specs.Bodies.{body_items}
use Rattle.ev_abstract.specs.Rules.{breaks_slots}
use Rattle.std.specs.Prelude.{slice_get, Some, Option, take, nat_le, IfOk, Result, Ok, Err}
use Rattle.std.proofs.lemmas.Bool.{leb-true}
use Rattle.ev_isa.specs.declared.mode.Mode.{Mode}
use Rattle.ev_body.specs.declared.key.Side.TheVariants.{User}
use Rattle.ev_body.specs.declared.image.Image.{Image}
use Rattle.ev_body.specs.Bodies.{first_body, function_start}
use Rattle.ev_body.specs.WellFormed.{is_body}
use Rattle.ev_listing.specs.Expansion.{item_address, address_in, function_address}
use Rattle.ev_items.specs.Lines.{keeps_slots, AreAddresses}

abbrev pub AllKept : ℕ → List Item → Type 0
AllKept p items = list_all (λ item. not (breaks_slots p item)) items ≡ true

both : (a b : Bool) → (a && b) ≡ true → (a ≡ true) × (b ≡ true)
both true b h = (refl, h)
both false b h = absurd cc

pub kept : (b : Bool) → not b ≡ true → b ≡ false
kept true h = absurd cc
kept false h = refl

below : (to p : ℕ) → p ≤ 8 → not (nat_lt to p) ≡ false → not (nat_lt to 8) ≡ false
below to p l h = ap not (lt-ltb to 8 (let lt = ltb-true to p (unnot (nat_lt to p) h) in omega arith))
  where
    unnot : (b : Bool) → not b ≡ false → b ≡ true
    unnot true h = refl
    unnot false h = absurd cc

call_below : (x z : Bool) (to p : ℕ) → p ≤ 8 → not (x && nat_lt to p && z) ≡ false → not (x && nat_lt to 8 && z) ≡ false
call_below true true to p l h = pick (nat_lt to p) refl h
  where
    pick : (b : Bool) → nat_lt to p ≡ b → not (true && b && true) ≡ false → not (true && nat_lt to 8 && true) ≡ false
    pick true q k = ap (λ b. not (true && b && true)) (lt-ltb to 8 (let lt = ltb-true to p q in omega arith))
    pick false q k = absurd cc
call_below true false to p l h = pick (nat_lt to p) h
  where
    pick : (b : Bool) → not (true && b && false) ≡ false → not (true && nat_lt to 8 && false) ≡ false
    pick true k = absurd cc
    pick false k = absurd cc
call_below false z to p l h = absurd cc

slots_more : (p : ℕ) (item : Item) → p ≤ 8 → breaks_slots p item ≡ false → breaks_slots 8 item ≡ false
unfolding breaks_slots
slots_more p (Set d v) l h = h
slots_more p (Copy d s) l h = h
slots_more p (Alu o d s) l h = h
slots_more p (Jcc c i) l h = h
slots_more p (Goto i) l h = h
slots_more p Nop l h = h
slots_more p (Log s) l h = h
slots_more p (Cpu d) l h = h
slots_more p (Slot d k) l h = h
slots_more p (Put k s) l h = h
slots_more p (Cell d k) l h = h
slots_more p (SetCell k s) l h = h
slots_more p (AddCell k d) l h = h
slots_more p (SwapCell k d) l h = h
slots_more p (Uget d s) l h = h
slots_more p (Uput s t) l h = h
slots_more p (GetReg d r) l h = h
slots_more p (SetReg r s) l h = h
slots_more p (SetRip a) l h = h
slots_more p (Map s) l h = h
slots_more p (Unmap s) l h = h
slots_more p Resched l h = h
slots_more p Sti l h = h
slots_more p Cli l h = h
slots_more p Eoi l h = h
slots_more p (Send to k) l h = below to p l h
slots_more p Item.Bp l h = h
slots_more p (Kick to s) l h = below to p l h
slots_more p (Wait site) l h = h
slots_more p (Call site to func s) l h = call_below (nat_lt site 8) (nat_lt func 8) to p l h
slots_more p Take l h = h
slots_more p Finish l h = h
slots_more p Ret l h = h

all_more : (p : ℕ) (items : List Item) → p ≤ 8 → AllKept p items → AllKept 8 items
all_more p [] l h = refl
all_more p (item ∷ items) l h =
    let s = both (not (breaks_slots p item)) _ h in
    let e = slots_more p item l (kept (breaks_slots p item) s.0) in
    rw e (all_more p items l s.1)

-- one item, and one body
pub slots_at : (items : List Item) (n : ℕ) (item : Item) → AllKept 8 items → n < length items → item ≡ get_or items n item → breaks_slots 8 item ≡ false
slots_at [] n item h lt e = absurd (omega arith)
slots_at (x ∷ xs) zero item h lt e = ap (breaks_slots 8) e ∙ kept (breaks_slots 8 x) ((both (not (breaks_slots 8 x)) _ h).0)
slots_at (x ∷ xs) (suc n) item h lt e = slots_at xs n item ((both (not (breaks_slots 8 x)) _ h).1) (omega arith) e

pub body_slots : (p : ℕ) (bs : List Body) (n : ℕ) (b : Body) → p ≤ 8 → list_all (keeps_slots p) bs ≡ true → n < length bs → b ≡ get_or bs n b
    → AllKept 8 (body_items b)
body_slots p [] n b l h lt e = absurd (omega arith)
body_slots p (x ∷ xs) zero b l h lt e =
    ap (λ (y : Body). list_all (λ item. not (breaks_slots 8 item)) (body_items y)) e ∙ all_more p (body_items x) l ((both (keeps_slots p x) _ h).0)
body_slots p (x ∷ xs) (suc n) b l h lt e = body_slots p xs n b l ((both (keeps_slots p x) _ h).1) (omega arith) e

-- a call's function is one of eight
pub call_small : (site to func s : ℕ) → breaks_slots 8 (Call site to func s) ≡ false → func < 8
unfolding breaks_slots
call_small site to func s h = pick (nat_lt site 8 && nat_lt to 8) (nat_lt func 8) refl h
  where
    pick : (x y : Bool) → nat_lt func 8 ≡ y → not (x && y) ≡ false → func < 8
    pick true true q k = ltb-true func 8 q
    pick true false q k = absurd cc
    pick false y q k = absurd cc

pub take_kept : (n : ℕ) (items : List Item) → AllKept 8 items → AllKept 8 (take n items)
take_kept zero items h = refl
take_kept (suc n) [] h = refl
take_kept (suc n) (item ∷ items) h = let s = both (not (breaks_slots 8 item)) _ h in let e = s.0 in rw e (take_kept n items s.1)

-- a body has at most 256 items
pub few_at : (bytes : ℕ) (bs : List Body) (n : ℕ) (b : Body) → list_all (is_body bytes) bs ≡ true → n < length bs → b ≡ get_or bs n b
    → length (body_items b) ≤ 256
few_at bytes [] n b h lt e = absurd (omega arith)
few_at bytes (x ∷ xs) zero b h lt e =
    let s = (both (is_body bytes x) _ h).0 in
    leb-true (length (body_items b)) 256 (ap (λ (y : Body). nat_le (length (body_items y)) 256) e ∙ (both _ (nat_le (length (body_items x)) 256) s).1)
few_at bytes (x ∷ xs) (suc n) b h lt e = few_at bytes xs n b ((both (is_body bytes x) _ h).1) (omega arith) e

-- ---- functions

pub got : {X : Type 0} (xs : List X) (n : ℕ) (x : X) → n < length xs → x ≡ get_or xs n x → slice_get xs n ≡ Some x
got [] n x lt e = absurd (omega arith)
got (y ∷ ys) zero x lt e = ap (λ z. Some z) (sym e)
got (y ∷ ys) (suc n) x lt e = got ys n x (omega arith) e

function_is : (mode : Mode) (image : Image) (n : ℕ) (b : Body) (f : ℕ) → first_body 0 image.bodies 0xfb User ≡ Some n → slice_get image.bodies n ≡ Some b
    → function_address mode image f ≡ item_address mode n b (function_start b f)
function_is mode image n b f h k = ap (λ (o : Option ℕ). address_in mode image o f) h ∙ rw k refl

pub if_ok : {A E : Type 0} (r : Result A E) (P Q : A → Type 0) → ((x : A) → P x → Q x) → IfOk r P → IfOk r Q
if_ok (Ok x) P Q f h = f x h
if_ok (Err e) P Q f h = tt

pub functions_are : (mode : Mode) (image : Image) (n : ℕ) (b : Body) (as' : List ℕ) → first_body 0 image.bodies 0xfb User ≡ Some n
    → slice_get image.bodies n ≡ Some b → AreAddresses (λ f. item_address mode n b (function_start b f)) as' → AreAddresses (function_address mode image) as'
functions_are mode image n b as' h k e = λ f l. e f l ∙ sym (function_is mode image n b f h k)
