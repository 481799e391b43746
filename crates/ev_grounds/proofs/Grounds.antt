-- Grounds of blocks: their windows by form, and that an activation which is where a spot says is grounded in its block.
use Rattle.std.proofs.Common.{◌≡◌, ℕ, ◌+◌, ◌-◌, ◌≤◌, Bool, true, false, ◌&&◌, List, [], ◌∷◌, refl, sym, ap, ◌∙◌, subst, arith}
use Rattle.std.specs.Prelude.{if◌then◌else◌}
use Rattle.ev_isa.specs.Word.{is_canonical}
use Rattle.ev_isa.specs.declared.mode.Mode.{Mode}
use Rattle.ev_isa.specs.declared.mode.Mode.TheVariants.{Idt, Fred}
use Rattle.ev_symbolic.specs.Value.{M}
use Rattle.ev_symbolic.specs.State.{Loc, Win, in_text}
use Rattle.ev_symbolic.specs.Agrees.{Env, addr, Apart, Far, Grounded}
use Rattle.ev_symbolic.specs.Names.{item_tag}
use Rattle.ev_distances.specs.Span.{Codes}
use Rattle.ev_symbolic.proofs.Values.{and_left, and_right}
use Rattle.ev_distances.specs.Form as form
use Rattle.ev_distances.specs.Form.{Form, OnStack, Stretch, InArea, OnTask, OnNextTask, OnNextStack, InRecord, Where, wins_of, Fitting, is_own, all_apart, apart_from_all, apart_off_stack, apart_in_one, apart_on_two_stacks, apart_by_depth, apart_at_one_top}
use Rattle.ev_distances.proofs.ByForm.{forms_apart}
use Rattle.ev_distances.proofs.Windows.{text_ok, in_code}
use Rattle.ev_blocks.specs.Shapes.{Layout, Forms, FredFrame, IdtFrame, NmiFrame, kernel_text, item_text, body_forms}
use Rattle.ev_blocks.specs.Fred.{ByCall, ByInt3, ByIntN, ByOther, FredToKernel, FredToTask, FredToNext, FromUser, FromKernel, LeavesNmi}
use Rattle.ev_blocks.specs.Fred as fred
use Rattle.ev_blocks.specs.Idt.{BySysret, ByOtherRip, ByOtherFlags, IdtToKernel, IdtToTask, IdtToNext, Stub, Sys, Common}
use Rattle.ev_blocks.specs.Idt as idt
use Rattle.ev_blocks.specs.Nmi.{Choice, FirstFromTask, FirstLow, FirstHigh, InnerLow, InnerHigh, InnerAtLast, InnerInRepeat, TaskGs, KernelGs, FromTask, FromKernel as Kernel, FromKernelInTaskGs, Exchanging, Staying, Choosing, Repeats, Begins, is_first, choice_forms, repeat_forms}
use Rattle.ev_blocks.specs.Nmi as nmi
use Rattle.ev_blocks.specs.Calls.{AtRecord, BehindWait, BehindBusy, AtFill, AtHead, AtLink, BehindFailure, BehindCall, AtTake, BehindTake, AtTurn, BehindTurn, AtTaken, AtFinish, BehindNext, AtOffset, record_forms}
use Rattle.ev_blocks.specs.Items.{AtTable, AtJump, AtItem, AtNumber, AtNumbers, AtKick, AtUserWord, AtPageWord, BehindSti, BehindKick, InCall, fills, forms_of}
use Rattle.ev_blocks.specs.Blocks.{Spot, InFred, InIdt, InNmi, InBody, block, forms}
use Rattle.ev_grounds.specs.Grounds.{HasForms, AreForms, WindowsFit, InnerIsApart, WritesItsStack, OthersAreApart, DeeperAreApart, HasItem, IsHere, AllGrounded}

both : (a b : Bool) → a ≡ true → b ≡ true → (a && b) ≡ true
both true b h k = k
both false b h k = h

-- ---- forms

-- a body's windows, with a call record of its own or without
abbrev body_windows : Layout → Bool → Forms
body_windows layout own_record = if own_record then record_forms layout else forms_of layout

has_forms : (mode : Mode) (s : Spot) → HasForms mode s
has_forms mode (InFred (FromUser w)) = record { known = refl; own = refl; shared = refl }
has_forms mode (InFred FromKernel) = record { known = refl; own = refl; shared = refl }
has_forms mode (InFred (fred.Leaves FredToKernel)) = record { known = refl; own = refl; shared = refl }
has_forms mode (InFred (fred.Leaves FredToTask)) = record { known = refl; own = refl; shared = refl }
has_forms mode (InFred (fred.Leaves FredToNext)) = record { known = refl; own = refl; shared = refl }
has_forms mode (InFred (LeavesNmi o)) = record { known = refl; own = refl; shared = refl }
has_forms mode (InIdt (Stub o has_error v)) = record { known = refl; own = refl; shared = refl }
has_forms mode (InIdt Sys) = record { known = refl; own = refl; shared = refl }
has_forms mode (InIdt (Common o true)) = record { known = refl; own = refl; shared = refl }
has_forms mode (InIdt (Common o false)) = record { known = refl; own = refl; shared = refl }
has_forms mode (InIdt (idt.Leaves IdtToKernel)) = record { known = refl; own = refl; shared = refl }
has_forms mode (InIdt (idt.Leaves (IdtToTask r))) = record { known = refl; own = refl; shared = refl }
has_forms mode (InIdt (idt.Leaves (IdtToNext r))) = record { known = refl; own = refl; shared = refl }
has_forms mode (InNmi (Choosing c g)) = record { known = refl; own = refl; shared = refl }
has_forms mode (InNmi (Repeats g)) = record { known = refl; own = refl; shared = refl }
has_forms mode (InNmi (Begins b)) = record { known = refl; own = refl; shared = refl }
has_forms mode (InNmi (nmi.Leaves x)) = record { known = refl; own = refl; shared = refl }
has_forms Idt (InBody layout AtTable) = record { known = refl; own = refl; shared = refl }
has_forms Idt (InBody layout AtJump) = record { known = refl; own = refl; shared = refl }
has_forms Idt (InBody layout AtItem) = record { known = refl; own = refl; shared = refl }
has_forms Idt (InBody layout (AtNumber n)) = record { known = refl; own = refl; shared = refl }
has_forms Idt (InBody layout (AtNumbers rcx rax rdx)) = record { known = refl; own = refl; shared = refl }
has_forms Idt (InBody layout (AtKick to)) = record { known = refl; own = refl; shared = refl }
has_forms Idt (InBody layout AtUserWord) = record { known = refl; own = refl; shared = refl }
has_forms Idt (InBody layout (AtPageWord is_page)) = record { known = refl; own = refl; shared = refl }
has_forms Idt (InBody layout BehindSti) = record { known = refl; own = refl; shared = refl }
has_forms Idt (InBody layout BehindKick) = record { known = refl; own = refl; shared = refl }
has_forms Idt (InBody layout (InCall (AtRecord site))) = record { known = refl; own = refl; shared = refl }
has_forms Idt (InBody layout (InCall (BehindWait d))) = record { known = refl; own = refl; shared = refl }
has_forms Idt (InBody layout (InCall (BehindBusy r))) = record { known = refl; own = refl; shared = refl }
has_forms Idt (InBody layout (InCall (AtFill address func to r))) = record { known = refl; own = refl; shared = refl }
has_forms Idt (InBody layout (InCall (AtHead address func to))) = record { known = refl; own = refl; shared = refl }
has_forms Idt (InBody layout (InCall (AtLink address func to stale))) = record { known = refl; own = refl; shared = refl }
has_forms Idt (InBody layout (InCall (BehindFailure address func to))) = record { known = refl; own = refl; shared = refl }
has_forms Idt (InBody layout (InCall (BehindCall r first))) = record { known = refl; own = refl; shared = refl }
has_forms Idt (InBody layout (InCall AtTake)) = record { known = refl; own = refl; shared = refl }
has_forms Idt (InBody layout (InCall (BehindTake n))) = record { known = refl; own = refl; shared = refl }
has_forms Idt (InBody layout (InCall (AtTurn n))) = record { known = refl; own = refl; shared = refl }
has_forms Idt (InBody layout (InCall (BehindTurn n))) = record { known = refl; own = refl; shared = refl }
has_forms Idt (InBody layout (InCall (AtTaken some))) = record { known = refl; own = refl; shared = refl }
has_forms Idt (InBody layout (InCall AtFinish)) = record { known = refl; own = refl; shared = refl }
has_forms Idt (InBody layout (InCall BehindNext)) = record { known = refl; own = refl; shared = refl }
has_forms Idt (InBody layout (InCall (AtOffset o e))) = record { known = refl; own = refl; shared = refl }
has_forms Fred (InBody layout AtTable) = record { known = refl; own = refl; shared = refl }
has_forms Fred (InBody layout AtJump) = record { known = refl; own = refl; shared = refl }
has_forms Fred (InBody layout AtItem) = record { known = refl; own = refl; shared = refl }
has_forms Fred (InBody layout (AtNumber n)) = record { known = refl; own = refl; shared = refl }
has_forms Fred (InBody layout (AtNumbers rcx rax rdx)) = record { known = refl; own = refl; shared = refl }
has_forms Fred (InBody layout (AtKick to)) = record { known = refl; own = refl; shared = refl }
has_forms Fred (InBody layout AtUserWord) = record { known = refl; own = refl; shared = refl }
has_forms Fred (InBody layout (AtPageWord is_page)) = record { known = refl; own = refl; shared = refl }
has_forms Fred (InBody layout BehindSti) = record { known = refl; own = refl; shared = refl }
has_forms Fred (InBody layout BehindKick) = record { known = refl; own = refl; shared = refl }
has_forms Fred (InBody layout (InCall (AtRecord site))) = record { known = refl; own = refl; shared = refl }
has_forms Fred (InBody layout (InCall (BehindWait d))) = record { known = refl; own = refl; shared = refl }
has_forms Fred (InBody layout (InCall (BehindBusy r))) = record { known = refl; own = refl; shared = refl }
has_forms Fred (InBody layout (InCall (AtFill address func to r))) = record { known = refl; own = refl; shared = refl }
has_forms Fred (InBody layout (InCall (AtHead address func to))) = record { known = refl; own = refl; shared = refl }
has_forms Fred (InBody layout (InCall (AtLink address func to stale))) = record { known = refl; own = refl; shared = refl }
has_forms Fred (InBody layout (InCall (BehindFailure address func to))) = record { known = refl; own = refl; shared = refl }
has_forms Fred (InBody layout (InCall (BehindCall r first))) = record { known = refl; own = refl; shared = refl }
has_forms Fred (InBody layout (InCall AtTake)) = record { known = refl; own = refl; shared = refl }
has_forms Fred (InBody layout (InCall (BehindTake n))) = record { known = refl; own = refl; shared = refl }
has_forms Fred (InBody layout (InCall (AtTurn n))) = record { known = refl; own = refl; shared = refl }
has_forms Fred (InBody layout (InCall (BehindTurn n))) = record { known = refl; own = refl; shared = refl }
has_forms Fred (InBody layout (InCall (AtTaken some))) = record { known = refl; own = refl; shared = refl }
has_forms Fred (InBody layout (InCall AtFinish)) = record { known = refl; own = refl; shared = refl }
has_forms Fred (InBody layout (InCall BehindNext)) = record { known = refl; own = refl; shared = refl }
has_forms Fred (InBody layout (InCall (AtOffset o e))) = record { known = refl; own = refl; shared = refl }

are_forms : (s : Spot) → AreForms s
are_forms (InFred (FromUser w)) = record { known = refl; own = refl; apart = refl }
are_forms (InFred FromKernel) = record { known = refl; own = refl; apart = refl }
are_forms (InFred (fred.Leaves FredToKernel)) = record { known = refl; own = refl; apart = refl }
are_forms (InFred (fred.Leaves FredToTask)) = record { known = refl; own = refl; apart = refl }
are_forms (InFred (fred.Leaves FredToNext)) = record { known = refl; own = refl; apart = refl }
are_forms (InFred (LeavesNmi o)) = record { known = refl; own = refl; apart = refl }
are_forms (InIdt (Stub o has_error v)) = record { known = refl; own = refl; apart = refl }
are_forms (InIdt Sys) = record { known = refl; own = refl; apart = refl }
are_forms (InIdt (Common o page_fault)) = record { known = refl; own = refl; apart = refl }
are_forms (InIdt (idt.Leaves IdtToKernel)) = record { known = refl; own = refl; apart = refl }
are_forms (InIdt (idt.Leaves (IdtToTask r))) = record { known = refl; own = refl; apart = refl }
are_forms (InIdt (idt.Leaves (IdtToNext r))) = record { known = refl; own = refl; apart = refl }
are_forms (InNmi (Choosing FirstFromTask g)) = record { known = refl; own = refl; apart = refl }
are_forms (InNmi (Choosing FirstLow g)) = record { known = refl; own = refl; apart = refl }
are_forms (InNmi (Choosing FirstHigh g)) = record { known = refl; own = refl; apart = refl }
are_forms (InNmi (Choosing InnerLow g)) = record { known = refl; own = refl; apart = refl }
are_forms (InNmi (Choosing InnerHigh g)) = record { known = refl; own = refl; apart = refl }
are_forms (InNmi (Choosing InnerAtLast g)) = record { known = refl; own = refl; apart = refl }
are_forms (InNmi (Choosing InnerInRepeat g)) = record { known = refl; own = refl; apart = refl }
are_forms (InNmi (Repeats g)) = record { known = refl; own = refl; apart = refl }
are_forms (InNmi (Begins b)) = record { known = refl; own = refl; apart = refl }
are_forms (InNmi (nmi.Leaves x)) = record { known = refl; own = refl; apart = refl }
are_forms (InBody layout s) = let t = both_layouts layout (fills s) in record { known = t.0; own = t.1; apart = t.2 }
  where
    both_layouts : (layout : Layout) (own_record : Bool) → (form.are_forms (body_windows layout own_record).known ≡ true)
        × (form.are_forms (body_windows layout own_record).own ≡ true)
        × (all_apart apart_in_one (body_windows layout own_record).known (body_windows layout own_record).own ≡ true)
    both_layouts FredFrame true = (refl, refl, refl)
    both_layouts FredFrame false = (refl, refl, refl)
    both_layouts IdtFrame true = (refl, refl, refl)
    both_layouts IdtFrame false = (refl, refl, refl)
    both_layouts NmiFrame true = (refl, refl, refl)
    both_layouts NmiFrame false = (refl, refl, refl)

pub windows_fit : WindowsFit
windows_fit mode s = (has_forms mode s, are_forms s)

-- ---- inner NMIs

inner_apart : (c : Choice) → is_first c ≡ false → all_apart apart_at_one_top (body_forms NmiFrame) (choice_forms c).own ≡ true
inner_apart FirstFromTask h = absurd (cc)
inner_apart FirstLow h = absurd (cc)
inner_apart FirstHigh h = absurd (cc)
inner_apart InnerLow h = refl
inner_apart InnerHigh h = refl
inner_apart InnerAtLast h = refl
inner_apart InnerInRepeat h = refl

pub inner_is_apart : InnerIsApart
inner_is_apart = (inner_apart, refl)

-- ---- what writes its own stack alone

abbrev all_own : List Form → Bool
all_own [] = true
all_own (f ∷ fs) = is_own f && all_own fs

two_stacks_pair : (f g : Form) → is_own g ≡ true → apart_on_two_stacks f g ≡ true
two_stacks_pair (OnStack n) (OnStack k) h = refl
two_stacks_pair (OnStack n) (Stretch i k) h = refl
two_stacks_pair (Stretch d n) (OnStack k) h = refl
two_stacks_pair (Stretch d n) (Stretch i k) h = refl
two_stacks_pair (InArea lo n) (OnStack k) h = refl
two_stacks_pair (InArea lo n) (Stretch i k) h = refl
two_stacks_pair (OnTask n) (OnStack k) h = refl
two_stacks_pair (OnTask n) (Stretch i k) h = refl
two_stacks_pair (OnNextTask n) (OnStack k) h = refl
two_stacks_pair (OnNextTask n) (Stretch i k) h = refl
two_stacks_pair (OnNextStack n) (OnStack k) h = refl
two_stacks_pair (OnNextStack n) (Stretch i k) h = refl
two_stacks_pair InRecord (OnStack k) h = refl
two_stacks_pair InRecord (Stretch i k) h = refl
two_stacks_pair f (InArea lo k) h = absurd (cc)
two_stacks_pair f (OnTask k) h = absurd (cc)
two_stacks_pair f (OnNextTask k) h = absurd (cc)
two_stacks_pair f (OnNextStack k) h = absurd (cc)
two_stacks_pair f InRecord h = absurd (cc)

two_stacks_from : (f : Form) (gs : List Form) → all_own gs ≡ true → apart_from_all apart_on_two_stacks f gs ≡ true
two_stacks_from f [] h = refl
two_stacks_from f (g ∷ gs) h = both _ _ (two_stacks_pair f g (and_left (is_own g) _ h)) (two_stacks_from f gs (and_right (is_own g) _ h))

two_stacks_all : (fs gs : List Form) → all_own gs ≡ true → all_apart apart_on_two_stacks fs gs ≡ true
two_stacks_all [] gs h = refl
two_stacks_all (f ∷ fs) gs h = both _ _ (two_stacks_from f gs h) (two_stacks_all fs gs h)

depth_pair : (f g : Form) → is_own f ≡ true → is_own g ≡ true → apart_by_depth f g ≡ true
depth_pair f g h k = ap (λ b. if b && is_own f then true else apart_off_stack f g) k ∙ ap (λ b. if b then true else apart_off_stack f g) h

depth_from : (f : Form) (gs : List Form) → is_own f ≡ true → all_own gs ≡ true → apart_from_all apart_by_depth f gs ≡ true
depth_from f [] k h = refl
depth_from f (g ∷ gs) k h = both _ _ (depth_pair f g k (and_left (is_own g) _ h)) (depth_from f gs k (and_right (is_own g) _ h))

depth_all : (fs gs : List Form) → all_own fs ≡ true → all_own gs ≡ true → all_apart apart_by_depth fs gs ≡ true
depth_all [] gs k h = refl
depth_all (f ∷ fs) gs k h = both _ _ (depth_from f gs (and_left (is_own f) _ k) h) (depth_all fs gs (and_right (is_own f) _ k) h)

body_own : (layout : Layout) → all_own (body_forms layout) ≡ true
body_own FredFrame = refl
body_own IdtFrame = refl
body_own NmiFrame = refl

writes_own : (s : Spot) → WritesItsStack s → all_own (forms s).own ≡ true
writes_own (InFred (FromUser w)) h = refl
writes_own (InFred FromKernel) h = refl
writes_own (InFred (fred.Leaves FredToKernel)) h = refl
writes_own (InFred (fred.Leaves FredToTask)) h = refl
writes_own (InFred (fred.Leaves FredToNext)) h = absurd h
writes_own (InFred (LeavesNmi o)) h = refl
writes_own (InIdt (Stub o has_error v)) h = refl
writes_own (InIdt Sys) h = absurd h
writes_own (InIdt (Common o page_fault)) h = refl
writes_own (InIdt (idt.Leaves IdtToKernel)) h = refl
writes_own (InIdt (idt.Leaves (IdtToTask r))) h = refl
writes_own (InIdt (idt.Leaves (IdtToNext r))) h = absurd h
writes_own (InNmi (Choosing FirstFromTask g)) h = refl
writes_own (InNmi (Choosing FirstLow g)) h = refl
writes_own (InNmi (Choosing FirstHigh g)) h = refl
writes_own (InNmi (Choosing InnerLow g)) h = refl
writes_own (InNmi (Choosing InnerHigh g)) h = refl
writes_own (InNmi (Choosing InnerAtLast g)) h = refl
writes_own (InNmi (Choosing InnerInRepeat g)) h = refl
writes_own (InNmi (Repeats g)) h = refl
writes_own (InNmi (Begins b)) h = refl
writes_own (InNmi (nmi.Leaves x)) h = refl
writes_own (InBody layout s) h = ap (λ t. all_own (body_windows layout t).own) h ∙ body_own layout

pub others_apart : OthersAreApart
others_apart s t h = two_stacks_all (forms s).known (forms t).own (writes_own t h)

pub deeper_apart : DeeperAreApart
deeper_apart layout t h = depth_all (body_forms layout) (forms t).own (body_own layout) (writes_own t h)

-- ---- what is written fits where what is known does

module _ (n : ℕ) (e : Env) (x : Where) where
  own_fitting : (s : Spot) → Fitting n e x (forms s).known → Fitting n e x (forms s).own
  own_fitting (InFred (FromUser w)) f = f
  own_fitting (InFred FromKernel) f = f
  own_fitting (InFred (fred.Leaves FredToKernel)) f = f
  own_fitting (InFred (fred.Leaves FredToTask)) f = record { at = f.at; forms = refl; bases = (f.bases.0, tt); room = (f.room.0, tt) }
  own_fitting (InFred (fred.Leaves FredToNext)) f = record { at = f.at; forms = refl; bases = (f.bases.1.0, tt); room = (f.room.1.0, tt) }
  own_fitting (InFred (LeavesNmi o)) f = f
  own_fitting (InIdt (Stub o has_error v)) f = f
  own_fitting (InIdt Sys) f = record { at = f.at; forms = refl; bases = (f.bases.0, (f.bases.1.0, tt)); room = (f.room.0, (f.room.1.0, tt)) }
  own_fitting (InIdt (Common o page_fault)) f = f
  own_fitting (InIdt (idt.Leaves IdtToKernel)) f = f
  own_fitting (InIdt (idt.Leaves (IdtToTask r))) f = record { at = f.at; forms = refl; bases = (f.bases.0, tt); room = (f.room.0, tt) }
  own_fitting (InIdt (idt.Leaves (IdtToNext r))) f =
      record { at = f.at; forms = refl; bases = (f.bases.1.0, (f.bases.1.1.0, tt)); room = (f.room.1.0, (f.room.1.1.0, tt)) }
  own_fitting (InNmi (Choosing FirstFromTask g)) f = f
  own_fitting (InNmi (Choosing FirstLow g)) f = f
  own_fitting (InNmi (Choosing FirstHigh g)) f = f
  own_fitting (InNmi (Choosing InnerLow g)) f =
      record { at = f.at; forms = refl; bases = (f.bases.0, (f.bases.1.0, tt)); room = (f.room.0, (f.room.1.0, tt)) }
  own_fitting (InNmi (Choosing InnerHigh g)) f =
      record { at = f.at; forms = refl; bases = (f.bases.0, (f.bases.1.0, tt)); room = (f.room.0, (f.room.1.0, tt)) }
  own_fitting (InNmi (Choosing InnerAtLast g)) f =
      record { at = f.at; forms = refl; bases = (f.bases.0, (f.bases.1.0, tt)); room = (f.room.0, (f.room.1.0, tt)) }
  own_fitting (InNmi (Choosing InnerInRepeat g)) f = f
  own_fitting (InNmi (Repeats g)) f = f
  own_fitting (InNmi (Begins b)) f = f
  own_fitting (InNmi (nmi.Leaves x)) f = f
  own_fitting (InBody layout s) f = same (fills s) f
    where
      same : (own_record : Bool) → Fitting n e x (body_windows layout own_record).known → Fitting n e x (body_windows layout own_record).own
      same true f = f
      same false f = f

  -- ---- code

  abbrev CodeIs : List Win → Type 0
  CodeIs W = (l : Loc) → in_text W l ≡ true → is_canonical (addr e l) ≡ true

  kernel_code : e.base 1000 ≡ 0 → CodeIs kernel_text
  kernel_code z l h = text_ok e kernel_text (record { part = Codes; p = 0; n = 0; lo = 0; len = 0x6000 } ∷ []) (
    in_code e 1000 0xffffffff81000000 0x6000 0xffffffff81000000 (let q : e.base 1000 + 0xffffffff81000000 ≡ 0xffffffff81000000 = omega (arith, z) in q)
        (omega arith) (omega arith) (omega arith) (omega arith),
    tt,
  ) l h

  item_code : 0xffffffff82000000 ≤ e.base item_tag → e.base item_tag + 0x100 ≤ M → CodeIs item_text
  item_code a b l h = text_ok e item_text (record { part = Codes; p = 0; n = 0; lo = e.base item_tag - 0xffffffff81000000; len = 0x100 } ∷ []) (
    in_code e item_tag 0 0x100 (e.base item_tag) (let q : e.base item_tag + 0 ≡ e.base item_tag = omega arith in q) (omega arith) (omega arith) b
        (omega arith),
    tt,
  ) l h

  text_is : (mode : Mode) (s : Spot) → e.base 1000 ≡ 0 → HasItem s e → CodeIs (block mode s).ground.text
  text_is mode (InFred (FromUser w)) z i = kernel_code z
  text_is mode (InFred FromKernel) z i = kernel_code z
  text_is mode (InFred (fred.Leaves FredToKernel)) z i = kernel_code z
  text_is mode (InFred (fred.Leaves FredToTask)) z i = kernel_code z
  text_is mode (InFred (fred.Leaves FredToNext)) z i = kernel_code z
  text_is mode (InFred (LeavesNmi o)) z i = kernel_code z
  text_is mode (InIdt (Stub o has_error v)) z i = kernel_code z
  text_is mode (InIdt Sys) z i = kernel_code z
  text_is mode (InIdt (Common o true)) z i = kernel_code z
  text_is mode (InIdt (Common o false)) z i = kernel_code z
  text_is mode (InIdt (idt.Leaves IdtToKernel)) z i = kernel_code z
  text_is mode (InIdt (idt.Leaves (IdtToTask r))) z i = kernel_code z
  text_is mode (InIdt (idt.Leaves (IdtToNext r))) z i = kernel_code z
  text_is mode (InNmi (Choosing c g)) z i = kernel_code z
  text_is mode (InNmi (Repeats g)) z i = kernel_code z
  text_is mode (InNmi (Begins b)) z i = kernel_code z
  text_is mode (InNmi (nmi.Leaves x)) z i = kernel_code z
  text_is Idt (InBody layout AtTable) z i = kernel_code z
  text_is Idt (InBody layout AtJump) z i = kernel_code z
  text_is Idt (InBody layout AtItem) z i = item_code i.0 i.1
  text_is Idt (InBody layout (AtNumber n)) z i = item_code i.0 i.1
  text_is Idt (InBody layout (AtNumbers rcx rax rdx)) z i = item_code i.0 i.1
  text_is Idt (InBody layout (AtKick to)) z i = item_code i.0 i.1
  text_is Idt (InBody layout AtUserWord) z i = item_code i.0 i.1
  text_is Idt (InBody layout (AtPageWord is_page)) z i = item_code i.0 i.1
  text_is Idt (InBody layout BehindSti) z i = item_code i.0 i.1
  text_is Idt (InBody layout BehindKick) z i = item_code i.0 i.1
  text_is Idt (InBody layout (InCall (AtRecord site))) z i = item_code i.0 i.1
  text_is Idt (InBody layout (InCall (BehindWait d))) z i = item_code i.0 i.1
  text_is Idt (InBody layout (InCall (BehindBusy r))) z i = item_code i.0 i.1
  text_is Idt (InBody layout (InCall (AtFill address func to r))) z i = item_code i.0 i.1
  text_is Idt (InBody layout (InCall (AtHead address func to))) z i = item_code i.0 i.1
  text_is Idt (InBody layout (InCall (AtLink address func to stale))) z i = item_code i.0 i.1
  text_is Idt (InBody layout (InCall (BehindFailure address func to))) z i = item_code i.0 i.1
  text_is Idt (InBody layout (InCall (BehindCall r first))) z i = item_code i.0 i.1
  text_is Idt (InBody layout (InCall AtTake)) z i = item_code i.0 i.1
  text_is Idt (InBody layout (InCall (BehindTake n))) z i = item_code i.0 i.1
  text_is Idt (InBody layout (InCall (AtTurn n))) z i = item_code i.0 i.1
  text_is Idt (InBody layout (InCall (BehindTurn n))) z i = item_code i.0 i.1
  text_is Idt (InBody layout (InCall (AtTaken some))) z i = item_code i.0 i.1
  text_is Idt (InBody layout (InCall AtFinish)) z i = item_code i.0 i.1
  text_is Idt (InBody layout (InCall BehindNext)) z i = item_code i.0 i.1
  text_is Idt (InBody layout (InCall (AtOffset o e))) z i = item_code i.0 i.1
  text_is Fred (InBody layout AtTable) z i = kernel_code z
  text_is Fred (InBody layout AtJump) z i = kernel_code z
  text_is Fred (InBody layout AtItem) z i = item_code i.0 i.1
  text_is Fred (InBody layout (AtNumber n)) z i = item_code i.0 i.1
  text_is Fred (InBody layout (AtNumbers rcx rax rdx)) z i = item_code i.0 i.1
  text_is Fred (InBody layout (AtKick to)) z i = item_code i.0 i.1
  text_is Fred (InBody layout AtUserWord) z i = item_code i.0 i.1
  text_is Fred (InBody layout (AtPageWord is_page)) z i = item_code i.0 i.1
  text_is Fred (InBody layout BehindSti) z i = item_code i.0 i.1
  text_is Fred (InBody layout BehindKick) z i = item_code i.0 i.1
  text_is Fred (InBody layout (InCall (AtRecord site))) z i = item_code i.0 i.1
  text_is Fred (InBody layout (InCall (BehindWait d))) z i = item_code i.0 i.1
  text_is Fred (InBody layout (InCall (BehindBusy r))) z i = item_code i.0 i.1
  text_is Fred (InBody layout (InCall (AtFill address func to r))) z i = item_code i.0 i.1
  text_is Fred (InBody layout (InCall (AtHead address func to))) z i = item_code i.0 i.1
  text_is Fred (InBody layout (InCall (AtLink address func to stale))) z i = item_code i.0 i.1
  text_is Fred (InBody layout (InCall (BehindFailure address func to))) z i = item_code i.0 i.1
  text_is Fred (InBody layout (InCall (BehindCall r first))) z i = item_code i.0 i.1
  text_is Fred (InBody layout (InCall AtTake)) z i = item_code i.0 i.1
  text_is Fred (InBody layout (InCall (BehindTake n))) z i = item_code i.0 i.1
  text_is Fred (InBody layout (InCall (AtTurn n))) z i = item_code i.0 i.1
  text_is Fred (InBody layout (InCall (BehindTurn n))) z i = item_code i.0 i.1
  text_is Fred (InBody layout (InCall (AtTaken some))) z i = item_code i.0 i.1
  text_is Fred (InBody layout (InCall AtFinish)) z i = item_code i.0 i.1
  text_is Fred (InBody layout (InCall BehindNext)) z i = item_code i.0 i.1
  text_is Fred (InBody layout (InCall (AtOffset o e))) z i = item_code i.0 i.1

  -- ---- grounded

  apart_is : (mode : Mode) (s : Spot) → Fitting n e x (forms s).known → Apart e (block mode s).ground.known (block mode s).ground.own
  apart_is mode s f =
      let h = has_forms mode s in
      subst (λ W. Apart e W (block mode s).ground.own) (sym h.known)
      (subst (λ W. Apart e (wins_of (forms s).known) W) (sym h.own)
      (forms_apart n e x (forms s).known (forms s).own f (own_fitting s f) (are_forms s).apart))

  nothing_shared : (mode : Mode) (s : Spot) → Far e (block mode s).ground.known e (block mode s).ground.shared
  nothing_shared mode s =
      subst (λ W. Far e (block mode s).ground.known e W) (sym (has_forms mode s).shared) (λ k l i j q. let clash : false ≡ true = j in absurd (cc))

  grounded : (mode : Mode) (s : Spot) → IsHere n mode e x s → Grounded e (block mode s).ground
  grounded mode s h = record {
    zero_base = h.zero_base;
    kernel = h.kernel;
    fred = h.fred;
    sep = apart_is mode s h.fitting;
    across = nothing_shared mode s;
    facts = h.facts;
    descriptors = h.descriptors;
    tops = h.tops;
    text = text_is mode s h.zero_base h.item;
  }

pub all_grounded : AllGrounded
all_grounded n mode e x s h = grounded n e x mode s h
