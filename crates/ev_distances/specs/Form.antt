-- Windows by form: what a block's window is, told without the processor, the stack or the task, and the interval that it is for an activation. Own.
use Rattle.std.specs.Prelude.{◌≡◌, ℕ, ◌+◌, ◌-◌, ◌*◌, ◌%◌, ◌<◌, ◌≤◌, Bool, true, false, not, ◌&&◌, ◌||◌, ◌==◌, nat_le, if◌then◌else◌, List, [], ◌∷◌, map}
use Rattle.ev_listing.specs.AddressMap.{pcpu, record_address, task_words, stack_top}
use Rattle.ev_symbolic.specs.Value.{M}
use Rattle.ev_symbolic.specs.State.{Win, top_tag}
use Rattle.ev_symbolic.specs.Agrees.{Env}
use Rattle.ev_symbolic.specs.Openings.{gs_tag, win_below, win_at}
use Rattle.ev_symbolic.specs.Names.{task_tag, next_task_tag, next_top_tag, record_tag}
use Rattle.ev_distances.specs.Span.{Part, Areas, Tasks, Stacks, Span, part_eq}

-- The n bytes below the top of the frame; n bytes from so far below it; n bytes from an offset of the processor's area; the words of the current task and of
-- the next one; the n bytes below the top of the next task's stack; and a call record of the processor.
pub data Form : Type 0 where
  OnStack : (bytes : ℕ) → Form
  Stretch : (depth bytes : ℕ) → Form
  InArea : (lo bytes : ℕ) → Form
  OnTask : (bytes : ℕ) → Form
  OnNextTask : (bytes : ℕ) → Form
  OnNextStack : (bytes : ℕ) → Form
  InRecord : Form

-- a call record has eight words
abbrev pub record_bytes : ℕ
record_bytes = 0x40

-- the window of a form
abbrev pub win_of : Form → Win
win_of (OnStack n) = win_below top_tag n
win_of (Stretch d n) = win_at top_tag (M - d) n
win_of (InArea lo n) = win_at gs_tag lo n
win_of (OnTask n) = win_at task_tag 0 n
win_of (OnNextTask n) = win_at next_task_tag 0 n
win_of (OnNextStack n) = win_below next_top_tag n
win_of InRecord = win_at record_tag 0 record_bytes

-- where an activation stands: its processor and stack, how many bytes of that are in use above its top, the current task and the next one, and a record's site
pub record Where : Type 0 where
  pub p : ℕ
  pub stack : ℕ
  pub used : ℕ
  pub task : ℕ
  pub next : ℕ
  pub site : ℕ

-- the interval that it is there
abbrev pub span_of : Where → Form → Span
span_of x (OnStack n) = record { part = Stacks; p = x.p; n = x.stack; lo = 0x4000 - x.used - n; len = n }
span_of x (Stretch d n) = record { part = Stacks; p = x.p; n = x.stack; lo = 0x4000 - x.used - d; len = n }
span_of x (InArea lo n) = record { part = Areas; p = x.p; n = 0; lo = lo; len = n }
span_of x (OnTask n) = record { part = Tasks; p = x.p; n = x.task; lo = 0; len = n }
span_of x (OnNextTask n) = record { part = Tasks; p = x.p; n = x.next; lo = 0; len = n }
span_of x (OnNextStack n) = record { part = Stacks; p = x.p; n = x.next; lo = 0x4000 - n; len = n }
span_of x InRecord = record { part = Areas; p = x.p; n = 0; lo = 0x800 + record_bytes * x.site; len = record_bytes }

-- the windows of forms
abbrev pub wins_of : List Form → List Win
wins_of fs = map win_of fs

-- their intervals
abbrev pub spans_of : Where → List Form → List Span
spans_of x fs = map (span_of x) fs

-- ---- what a form asks of an environment

-- the base of its windows, which is an address that is known
abbrev pub HasBase : Env → Where → Form → Type 0
HasBase e x (OnStack n) = e.base top_tag + x.used ≡ stack_top x.p x.stack
HasBase e x (Stretch d n) = e.base top_tag + x.used ≡ stack_top x.p x.stack
HasBase e x (InArea lo n) = e.base gs_tag ≡ pcpu x.p
HasBase e x (OnTask n) = e.base task_tag ≡ task_words x.p x.task
HasBase e x (OnNextTask n) = e.base next_task_tag ≡ task_words x.p x.next
HasBase e x (OnNextStack n) = e.base next_top_tag ≡ stack_top x.p x.next
HasBase e x InRecord = e.base record_tag ≡ record_address x.p x.site

-- the numbers of an activation of so many processors
pub record IsWhere (processors : ℕ) (x : Where) : Type 0 where
  pub processor : x.p < processors
  pub few : processors ≤ 8
  pub stack : x.stack < 7
  pub task : x.task < 4
  pub next : x.next < 4
  pub site : x.site < 8
  pub aligned : x.used % 8 ≡ 0

-- closed: how far below its top a form on the activation's own stack reaches, and the size and alignment of each
abbrev pub depth_of : Form → ℕ
depth_of (OnStack n) = n
depth_of (Stretch d n) = d
depth_of f = 0

-- whether a form has a size and alignment that it may have
abbrev pub is_form : Form → Bool
is_form (OnStack n) = not (n == 0) && (nat_le n 0x2000 && (n % 8 == 0))
is_form (Stretch d n) = not (n == 0) && (nat_le n d && (nat_le d 0x2000 && ((n % 8 == 0) && (d % 8 == 0))))
is_form (InArea lo n) = nat_le (lo + n) 0x10000 && (lo % 8 == 0)
is_form (OnTask n) = nat_le n 0x40
is_form (OnNextTask n) = nat_le n 0x40
is_form (OnNextStack n) = not (n == 0) && (nat_le n 0x2000 && (n % 8 == 0))
is_form InRecord = true

-- whether all have
abbrev pub are_forms : List Form → Bool
are_forms [] = true
are_forms (f ∷ fs) = is_form f && are_forms fs

-- what holds of each form of a list
abbrev pub Each : (Form → Type 0) → List Form → Type 0
Each Q [] = Unit {0}
Each Q (f ∷ fs) = Q f × Each Q fs

-- the stack has room for it, below what is in use
abbrev pub HasRoom : Where → Form → Type 0
HasRoom x f = x.used + depth_of f ≤ 0x2000

-- all that is asked of the forms of an activation's windows
pub record Fitting (processors : ℕ) (e : Env) (x : Where) (fs : List Form) : Type 0 where
  pub at : IsWhere processors x
  pub forms : are_forms fs ≡ true
  pub bases : Each (HasBase e x) fs
  pub room : Each (HasRoom x) fs

-- ---- closed tests of two forms

-- how many bytes a form has
abbrev pub bytes_of : Form → ℕ
bytes_of (OnStack n) = n
bytes_of (Stretch d n) = n
bytes_of (InArea lo n) = n
bytes_of (OnTask n) = n
bytes_of (OnNextTask n) = n
bytes_of (OnNextStack n) = n
bytes_of InRecord = record_bytes

-- the part of the address map that it lies in
abbrev pub part_of : Form → Part
part_of (InArea lo n) = Areas
part_of InRecord = Areas
part_of (OnTask n) = Tasks
part_of (OnNextTask n) = Tasks
part_of f = Stacks

-- on the activation's own stack
abbrev pub is_own : Form → Bool
is_own (OnStack n) = true
is_own (Stretch d n) = true
is_own f = false

-- Two forms that aren't both on a stack are apart: by their parts, or by numbers in the processor's area, where the records stand from 800H to A00H.
abbrev pub apart_off_stack : Form → Form → Bool
apart_off_stack (InArea lo n) (InArea lo' n') = nat_le (lo + n) lo' || nat_le (lo' + n') lo
apart_off_stack (InArea lo n) InRecord = nat_le (lo + n) 0x800 || nat_le 0xa00 lo
apart_off_stack InRecord (InArea lo n) = nat_le (lo + n) 0x800 || nat_le 0xa00 lo
apart_off_stack f g = not (part_eq (part_of f) (part_of g))

-- two windows of one activation: those of one base need no test
abbrev pub apart_in_one : Form → Form → Bool
apart_in_one f g = if (win_of f).tag == (win_of g).tag then true else apart_off_stack f g

-- windows of two activations on two stacks, where the first may also know the next task's
abbrev pub apart_on_two_stacks : Form → Form → Bool
apart_on_two_stacks f g = if is_own g && part_eq (part_of f) Stacks then true else apart_off_stack f g

-- windows of two activations on one stack, of which the second is the deeper
abbrev pub apart_by_depth : Form → Form → Bool
apart_by_depth f g = if is_own g && is_own f then true else apart_off_stack f g

-- windows of two activations at one place of a stack, as an inner NMI's and that of what it interrupted
abbrev pub apart_at_one_top : Form → Form → Bool
apart_at_one_top f g =
    if is_own g && is_own f then (nat_le (depth_of g + bytes_of f) (depth_of f) || nat_le (depth_of f + bytes_of g) (depth_of g))
    else apart_off_stack f g

-- whether a test holds of a form and each of a list
abbrev pub apart_from_all : (Form → Form → Bool) → Form → List Form → Bool
apart_from_all t f [] = true
apart_from_all t f (g ∷ gs) = t f g && apart_from_all t f gs

-- whether it holds of each form of one list and each of another
abbrev pub all_apart : (Form → Form → Bool) → List Form → List Form → Bool
all_apart t [] gs = true
all_apart t (f ∷ fs) gs = apart_from_all t f gs && all_apart t fs gs
