-- The spots at which activations stand that are no NMI's: their windows, where their blocks end, and that none lies in REPEAT.
use Rattle.std.proofs.Common.{◌≡◌, ℕ, ◌+◌, ◌%◌, ◌<◌, ◌≤◌, arith, Bool, true, false, not, ◌&&◌, List, [], ◌∷◌, Option, Some, refl, ap, ◌∙◌}
use Rattle.std.proofs.lemmas.Bool.{eqb-true, ltb-true, leb-true, le-leb, lt-ltb}
use Rattle.std.specs.Prelude.{◌==◌, nat_lt, nat_le, if◌then◌else◌, ◌-◌, zero, suc}
use Rattle.ev_isa.specs.Spelling.{spelling, four_bytes}
use Rattle.ev_isa.specs.Word.{NatMap}
use Rattle.ev_isa.specs.declared.mode.Mode.{Mode}
use Rattle.ev_isa.specs.declared.mode.Mode.TheVariants.{Idt, Fred}
use Rattle.ev_asm.specs.Assembly.{size, places, distance}
use Rattle.ev_body.specs.declared.image.Image.{Image}
use Rattle.ev_listing.specs.AddressMap.{code_end}
use Rattle.ev_listing.specs.FredCode.{fred_listings}
use Rattle.ev_state.specs.Processor.{Processor}
use Rattle.ev_mem.specs.Memory.{Memory}
use Rattle.ev_abstract.specs.Context.{BodyContext}
use Rattle.ev_concrete.specs.Depth.{is_in_repeat}
use Rattle.ev_symbolic.specs.Value.{M}
use Rattle.ev_symbolic.specs.State.{SS, Block, absolute_tag}
use Rattle.ev_symbolic.specs.Names.{item_tag, stub_tag}
use Rattle.ev_symbolic.specs.Run.{brun, every}
use Rattle.ev_symbolic.specs.Agrees.{Env, Code, addr, Stands, At}
use Rattle.ev_symbolic.proofs.Blocks.{every_ok}
use Rattle.ev_symbolic.proofs.Values.{and_left, and_right}
use Rattle.ev_distances.specs.Form.{Form, OnStack, Stretch, InArea}
use Rattle.ev_blocks.specs.Shapes.{Layout, Origin, UserCode, KernelCode, FredFrame, IdtFrame, NmiFrame, Forms}
use Rattle.ev_blocks.specs.Fred.{FredWay, ByCall, ByInt3, ByIntN, ByOther, FromUser, FromKernel, FredToKernel, FredToTask, FredToNext, fred_block, fred_lines}
use Rattle.ev_blocks.specs.Fred as fred
use Rattle.ev_blocks.specs.Idt.{IdtReturn, BySysret, ByOtherRip, ByOtherFlags, Stub, Sys, Common, IdtToKernel, IdtToTask, IdtToNext, idt_block, idt_places, sys_lines, common_lines, exit_lines}
use Rattle.ev_blocks.specs.Idt as idt
use Rattle.ev_blocks.specs.Calls.{CallSpot, AtRecord, BehindWait, BehindBusy, AtFill, AtHead, AtLink, BehindFailure, BehindCall, AtTake, BehindTake, AtTurn, BehindTurn, AtTaken, AtFinish, BehindNext, AtOffset, record_forms, block_of_call}
use Rattle.ev_blocks.specs.Calls as calls
use Rattle.ev_blocks.specs.Items.{BodySpot, AtTable, AtJump, AtItem, AtNumber, AtNumbers, AtKick, AtUserWord, AtPageWord, BehindSti, BehindKick, InCall, fills, forms_of, body_spot_forms, body_block}
use Rattle.ev_blocks.specs.Blocks.{Spot, InFred, InIdt, InBody, block, forms, edges, behind_body}
use Rattle.ev_blocks.specs.Blocks as blocks
use Rattle.ev_paths.specs.Lines.{HasKernel, IsAtStub}
use Rattle.ev_paths.proofs.Lines.{fred_stand, idt_stand}
use Rattle.ev_paths.proofs.BodyEnds.{body_ends}
use Rattle.ev_paths.proofs.CallEnds.{call_ends}
use Rattle.ev_paths.proofs.Locals.{from_zero}
use Rattle.ev_paths.proofs.FredEnds.{fred_enters, fred_returns}
use Rattle.ev_paths.proofs.IdtEnds.{idt_enters, idt_returns}
use Rattle.ev_concrete.specs.LiveWords.{area_bytes}
use Rattle.ev_relation.specs.Named.{Named, UserRsp}
use Rattle.ev_relation.specs.Relation.{body_edges}
use Rattle.ev_activation.specs.Seat.{plain_room, Kind, SystemCall, FromTask, FromBody, NmiFromTask, NmiFromBody}
use Rattle.ev_relation.specs.Filling.{Filling}
use Rattle.ev_relation.specs.Active.{IsByHand, BehindExchange, BehindOldLink, AtFunction, BehindArgument, BehindCaller, BehindAddress, BehindFinish, BehindComparison, AtQuiet, InSpot, fills_record, OverTask, OverBody, Means}
use Rattle.ev_relation.proofs.ModeFacts.{is_fred}

-- ---- spots of bodies

-- whether a body of the mode stands in this layout, but for those of NMIs
abbrev pub is_layout : Mode → Layout → Bool
is_layout Fred FredFrame = true
is_layout Idt IdtFrame = true
is_layout mode layout = false

-- that layout
abbrev pub layout_of : Mode → Layout
layout_of Fred = FredFrame
layout_of Idt = IdtFrame

-- a spot of a body in it
abbrev pub body : Mode → BodySpot → Spot
body mode s = InBody (layout_of mode) s

-- the spots of bodies where activations stand that fill no call record
abbrev pub is_body_spot : BodySpot → Bool
is_body_spot (InCall (BehindBusy s)) = nat_le 6 s && nat_lt s 14
is_body_spot (InCall (BehindCall s is_first)) = nat_le 6 s && nat_lt s 14
is_body_spot (InCall (AtOffset offset edges)) = nat_lt offset 0x100
is_body_spot (InCall s) = not (calls.fills_record s)
is_body_spot s = true

-- those that are in the code of an item, and no more
abbrev pub is_in_code : BodySpot → Bool
is_in_code AtTable = false
is_in_code AtJump = false
is_in_code s = true

pub fills_none : (s : BodySpot) → is_body_spot s ≡ true → fills s ≡ false
fills_none (AtKick to) h = refl
fills_none BehindKick h = refl
fills_none (InCall (AtFill address func to s)) h = let clash : false ≡ true = h in absurd (cc)
fills_none (InCall (AtHead address func to)) h = let clash : false ≡ true = h in absurd (cc)
fills_none (InCall (AtLink address func to is_stale)) h = let clash : false ≡ true = h in absurd (cc)
fills_none (InCall (BehindFailure address func to)) h = let clash : false ≡ true = h in absurd (cc)
fills_none (InCall s) h = refl
fills_none AtTable h = refl
fills_none AtJump h = refl
fills_none AtItem h = refl
fills_none (AtNumber n) h = refl
fills_none (AtNumbers rcx rax rdx) h = refl
fills_none AtUserWord h = refl
fills_none (AtPageWord is_page) h = refl
fills_none BehindSti h = refl

-- their windows are those of a body
pub body_forms_are : (layout : Layout) (s : BodySpot) → is_body_spot s ≡ true → body_spot_forms layout s ≡ forms_of layout
body_forms_are layout s h = ap (λ t. if t then record_forms layout else forms_of layout) (fills_none s h)

-- ---- which they are

abbrev pub is_spot : Mode → Spot → Bool
is_spot Fred (InFred (FromUser way)) = true
is_spot Fred (InFred (fred.Leaves FredToTask)) = true
is_spot Fred (InFred FromKernel) = true
is_spot Fred (InFred (fred.Leaves FredToKernel)) = true
is_spot Fred (InBody FredFrame s) = is_body_spot s
is_spot Idt (InIdt Sys) = true
is_spot Idt (InIdt (Stub UserCode has v)) = true
is_spot Idt (InIdt (Common UserCode pf)) = true
is_spot Idt (InIdt (idt.Leaves (IdtToTask by))) = true
is_spot Idt (InIdt (Stub KernelCode has v)) = true
is_spot Idt (InIdt (Common KernelCode pf)) = true
is_spot Idt (InIdt (idt.Leaves IdtToKernel)) = true
is_spot Idt (InBody IdtFrame s) = is_body_spot s
is_spot mode spot = false

-- SYSCALL's entry alone writes the word for RSP
abbrev pub keeps_rsp : Spot → Bool
keeps_rsp (InIdt Sys) = true
keeps_rsp spot = false

-- what an activation means says where it is: in a body at a spot of bodies, unless it fills a record
pub body_spot_is : (mode : Mode) (image : Image) (o : Origin) (s : BodySpot) (e : Env) (w : Processor) (b : BodyContext) (f : Option Filling) (m : NatMap ℕ)
    → InSpot mode image o s e w b f m → fills s ≡ false → is_body_spot s ≡ true
body_spot_is mode image o (InCall (BehindBusy s)) e w b f m h off =
    ap (λ t. t && nat_lt s 14) (le-leb 6 s h.is_local.0) ∙ lt-ltb s 14 h.is_local.1
body_spot_is mode image o (InCall (BehindCall s is_first)) e w b f m h off =
    ap (λ t. t && nat_lt s 14) (le-leb 6 s h.0.is_local.0) ∙ lt-ltb s 14 h.0.is_local.1
body_spot_is mode image o (InCall (AtFill address func to s)) e w b f m h off = let clash : true ≡ false = off in absurd (cc)
body_spot_is mode image o (InCall (AtHead address func to)) e w b f m h off = let clash : true ≡ false = off in absurd (cc)
body_spot_is mode image o (InCall (AtLink address func to is_stale)) e w b f m h off = let clash : true ≡ false = off in absurd (cc)
body_spot_is mode image o (InCall (BehindFailure address func to)) e w b f m h off = let clash : true ≡ false = off in absurd (cc)
body_spot_is mode image o (InCall (AtOffset offset edges)) e w b f m h off = by_offset h
  where
    near : (n : ℕ) → n < 0x100 → offset ≡ n → nat_lt offset 0x100 ≡ true
    near n l q = ap (λ k. nat_lt k 0x100) q ∙ lt-ltb n 0x100 l

    by_offset : IsByHand mode image o e w b m offset edges → nat_lt offset 0x100 ≡ true
    by_offset (BehindExchange q x s is_first y z t) = near _ (omega arith) q
    by_offset (BehindOldLink n q x y z t u) = near _ (omega arith) q
    by_offset (AtFunction q x y z t u) = near _ (omega arith) q
    by_offset (BehindArgument q x y z t u) = near _ (omega arith) q
    by_offset (BehindCaller q x y z t u) = near _ (omega arith) q
    by_offset (BehindAddress q x y z t u v) = near _ (omega arith) q
    by_offset (BehindFinish q x y z t) = near _ (omega arith) q
    by_offset (BehindComparison q x to sends y z) = near _ (omega arith) q
    by_offset (AtQuiet q x to y) = near _ (omega arith) q
body_spot_is mode image o _ e w b f m h off = refl

-- where the exit switches to no other task
over_task : (mode : Mode) (image : Image) (m : Mode) (spot : Spot) (e : Env) (w : Processor) (b : BodyContext) (f : Option Filling) (words : NatMap ℕ)
    → OverTask mode image m spot e w b f words → blocks.switches spot ≡ false → fills_record spot ≡ false → is_spot m spot ≡ true
over_task mode image Fred (InFred (FromUser way)) e w b f words h off none = refl
over_task mode image Fred (InFred (fred.Leaves FredToTask)) e w b f words h off none = refl
over_task mode image Fred (InBody FredFrame s) e w b f words h off none = body_spot_is mode image UserCode s e w b f words h none
over_task mode image Idt (InIdt Sys) e w b f words h off none = refl
over_task mode image Idt (InIdt (Stub UserCode has v)) e w b f words h off none = refl
over_task mode image Idt (InIdt (Common UserCode pf)) e w b f words h off none = refl
over_task mode image Idt (InIdt (idt.Leaves (IdtToTask by))) e w b f words h off none = refl
over_task mode image Idt (InBody IdtFrame s) e w b f words h off none = body_spot_is mode image UserCode s e w b f words h none
over_task mode image Fred (InFred (fred.Leaves FredToNext)) e w b f words h off none = absurd (cc)
over_task mode image Idt (InIdt (idt.Leaves (IdtToNext by))) e w b f words h off none = absurd (cc)
over_task mode image m _ e w b f words h off none = absurd h

-- none of those over a body is SYSCALL's entry
over_body : (mode : Mode) (image : Image) (m : Mode) (spot : Spot) (e : Env) (w : Processor) (b : BodyContext) (f : Option Filling) (words : NatMap ℕ)
    → OverBody mode image m spot e w b f words → fills_record spot ≡ false → is_spot m spot ≡ true
over_body mode image Fred (InFred FromKernel) e w b f words h none = refl
over_body mode image Fred (InFred (fred.Leaves FredToKernel)) e w b f words h none = refl
over_body mode image Fred (InBody FredFrame s) e w b f words h none = body_spot_is mode image KernelCode s e w b f words h none
over_body mode image Idt (InIdt (Stub KernelCode has v)) e w b f words h none = refl
over_body mode image Idt (InIdt (Common KernelCode pf)) e w b f words h none = refl
over_body mode image Idt (InIdt (idt.Leaves IdtToKernel)) e w b f words h none = refl
over_body mode image Idt (InBody IdtFrame s) e w b f words h none = body_spot_is mode image KernelCode s e w b f words h none
over_body mode image m _ e w b f words h none = absurd h

pub means_over : (mode : Mode) (image : Image) (κ : Kind) (spot : Spot) (e : Env) (w : Processor) (b : BodyContext) (f : Option Filling) (m : NatMap ℕ)
    → Means mode image κ spot e w b f m → blocks.switches spot ≡ false → fills_record spot ≡ false → is_spot mode spot ≡ true
means_over mode image SystemCall spot e w b f m h off none = over_task mode image mode spot e w b f m h off none
means_over mode image FromTask spot e w b f m h off none = over_task mode image mode spot e w b f m h off none
means_over mode image FromBody spot e w b f m h off none = over_body mode image mode spot e w b f m h none
means_over mode image NmiFromTask spot e w b f m h off none = absurd h
means_over mode image NmiFromBody spot e w b f m h off none = absurd h

-- none of them fills a record
pub spot_unfilled : (mode : Mode) (spot : Spot) → is_spot mode spot ≡ true → fills_record spot ≡ false
spot_unfilled Fred (InBody FredFrame s) h = fills_none s h
spot_unfilled Idt (InBody IdtFrame s) h = fills_none s h
spot_unfilled Fred (InBody IdtFrame s) h = let clash : false ≡ true = h in absurd (cc)
spot_unfilled Fred (InBody NmiFrame s) h = let clash : false ≡ true = h in absurd (cc)
spot_unfilled Idt (InBody FredFrame s) h = let clash : false ≡ true = h in absurd (cc)
spot_unfilled Idt (InBody NmiFrame s) h = let clash : false ≡ true = h in absurd (cc)
spot_unfilled mode _ h = refl

pub body_writes : (mode : Mode) (image : Image) (spot : Spot) (e : Env) (w : Processor) (b : BodyContext) (f : Option Filling) (m : NatMap ℕ)
    → OverBody mode image mode spot e w b f m → keeps_rsp spot ≡ false
body_writes mode image (InIdt Sys) e w b f m h = absurd (no_call mode h)
  where
    no_call : (mode : Mode) → OverBody mode image mode (InIdt Sys) e w b f m → ⊥
    no_call Fred h = h
    no_call Idt h = h
body_writes mode image _ e w b f m h = refl

-- ---- their windows: on the activation's stack or in the processor's area; it writes its stack, and the word for RSP

abbrev pub names_if : Bool → ℕ → List Named
names_if true p = UserRsp p ∷ []
names_if false p = []

abbrev pub names_at : ℕ → Spot → List Named
names_at p spot = names_if (keeps_rsp spot) p

abbrev pub is_plain : Mode → Form → Bool
is_plain mode (OnStack n) = nat_le n (area_bytes mode)
is_plain mode (Stretch d n) = nat_le d (area_bytes mode) && nat_le n d
is_plain mode (InArea lo n) = nat_le (lo + n) 0x28
is_plain mode f = false

abbrev pub are_plain : Mode → List Form → Bool
are_plain mode [] = true
are_plain mode (f ∷ fs) = is_plain mode f && are_plain mode fs

abbrev pub is_written : (rsp : Bool) → Form → Bool
is_written rsp (OnStack n) = true
is_written rsp (Stretch d n) = true
is_written rsp (InArea lo n) = rsp && ((lo == 8) && (n == 8))
is_written rsp f = false

abbrev pub are_written : Bool → List Form → Bool
are_written rsp [] = true
are_written rsp (f ∷ fs) = is_written rsp f && are_written rsp fs

-- the bytes of an activation
pub area_small : (mode : Mode) → (area_bytes mode ≤ 0xc0) × (area_bytes mode ≤ plain_room mode)
area_small Fred = (omega arith, omega arith)
area_small Idt = (omega arith, omega arith)

pub record HasWindows (mode : Mode) (spot : Spot) : Type 0 where
  pub known : are_plain mode (forms spot).known ≡ true
  pub own : are_plain mode (forms spot).own ≡ true
  pub written : are_written (keeps_rsp spot) (forms spot).own ≡ true

body_windows : (mode : Mode) (layout : Layout) → is_layout mode layout ≡ true → (s : BodySpot) → is_body_spot s ≡ true → HasWindows mode (InBody layout s)
body_windows Fred FredFrame l s h = let same = body_forms_are FredFrame s h in record {
  known = ap (λ (f : Forms). are_plain Fred f.known) same;
  own = ap (λ (f : Forms). are_plain Fred f.own) same;
  written = ap (λ (f : Forms). are_written false f.own) same;
}
body_windows Idt IdtFrame l s h = let same = body_forms_are IdtFrame s h in record {
  known = ap (λ (f : Forms). are_plain Idt f.known) same;
  own = ap (λ (f : Forms). are_plain Idt f.own) same;
  written = ap (λ (f : Forms). are_written false f.own) same;
}
body_windows Fred IdtFrame l s h = let clash : false ≡ true = l in absurd (cc)
body_windows Fred NmiFrame l s h = let clash : false ≡ true = l in absurd (cc)
body_windows Idt FredFrame l s h = let clash : false ≡ true = l in absurd (cc)
body_windows Idt NmiFrame l s h = let clash : false ≡ true = l in absurd (cc)

pub has_windows : (mode : Mode) (spot : Spot) → is_spot mode spot ≡ true → HasWindows mode spot
has_windows Fred (InFred (FromUser way)) h = record { known = refl; own = refl; written = refl }
has_windows Fred (InFred (fred.Leaves FredToTask)) h = record { known = refl; own = refl; written = refl }
has_windows Fred (InFred FromKernel) h = record { known = refl; own = refl; written = refl }
has_windows Fred (InFred (fred.Leaves FredToKernel)) h = record { known = refl; own = refl; written = refl }
has_windows Idt (InIdt Sys) h = record { known = refl; own = refl; written = refl }
has_windows Idt (InIdt (Stub UserCode has v)) h = record { known = refl; own = refl; written = refl }
has_windows Idt (InIdt (Common UserCode pf)) h = record { known = refl; own = refl; written = refl }
has_windows Idt (InIdt (idt.Leaves (IdtToTask by))) h = record { known = refl; own = refl; written = refl }
has_windows Idt (InIdt (Stub KernelCode has v)) h = record { known = refl; own = refl; written = refl }
has_windows Idt (InIdt (Common KernelCode pf)) h = record { known = refl; own = refl; written = refl }
has_windows Idt (InIdt (idt.Leaves IdtToKernel)) h = record { known = refl; own = refl; written = refl }
has_windows Fred (InBody FredFrame s) h = body_windows Fred FredFrame refl s h
has_windows Idt (InBody IdtFrame s) h = body_windows Idt IdtFrame refl s h
has_windows mode _ h = let clash : false ≡ true = h in absurd (cc)

-- the exits to a task know the mark
abbrev pub knows_mark : Spot → Bool
knows_mark (InFred (fred.Leaves FredToTask)) = true
knows_mark (InIdt (idt.Leaves (IdtToTask by))) = true
knows_mark spot = false

-- whether a form is in the words of the area that blocks know, and off the mark where that isn't known
abbrev pub is_low : (marked : Bool) → Form → Bool
is_low marked (InArea lo n) = nat_le (lo + n) (if marked then 0x28 else 0x20)
is_low marked f = true

abbrev pub are_low : Bool → List Form → Bool
are_low marked [] = true
are_low marked (f ∷ fs) = is_low marked f && are_low marked fs

pub low_windows : (mode : Mode) (spot : Spot) → is_spot mode spot ≡ true → are_low (knows_mark spot) (forms spot).known ≡ true
low_windows Fred (InFred (FromUser way)) h = refl
low_windows Fred (InFred FromKernel) h = refl
low_windows Fred (InFred (fred.Leaves FredToTask)) h = refl
low_windows Fred (InFred (fred.Leaves FredToKernel)) h = refl
low_windows Idt (InIdt Sys) h = refl
low_windows Idt (InIdt (Stub o has v)) h = refl
low_windows Idt (InIdt (Common o pf)) h = refl
low_windows Idt (InIdt (idt.Leaves (IdtToTask by))) h = refl
low_windows Idt (InIdt (idt.Leaves IdtToKernel)) h = refl
low_windows Fred (InBody FredFrame s) h = ap (λ (f : Forms). are_low false f.known) (body_forms_are FredFrame s h)
low_windows Idt (InBody IdtFrame s) h = ap (λ (f : Forms). are_low false f.known) (body_forms_are IdtFrame s h)
low_windows mode _ h = let clash : false ≡ true = h in absurd (cc)

-- few edges are left at each, but for those of calls, where a list may be turned round
abbrev pub is_few : Spot → Bool
is_few (InBody layout (InCall s)) = false
is_few spot = true

body_few : (fred : Bool) (layout : Layout) (s : BodySpot) → is_few (InBody layout s) ≡ true → (k : ℕ)
    → ((body_block fred layout s).steps - k) + behind_body s ≤ 560
body_few fred layout AtTable h k = omega arith
body_few fred layout AtJump h k = omega arith
body_few fred layout AtItem h k = omega arith
body_few fred layout (AtNumber n) h k = omega arith
body_few fred layout (AtNumbers rcx rax rdx) h k = omega arith
body_few fred layout (AtKick to) h k = omega arith
body_few fred layout AtUserWord h k = omega arith
body_few fred layout (AtPageWord true) h k = omega arith
body_few fred layout (AtPageWord false) h k = omega arith
body_few fred layout BehindSti h k = omega arith
body_few fred layout BehindKick h k = omega arith
body_few fred layout (InCall s) h k = let clash : false ≡ true = h in absurd (cc)

pub few_edges : (mode : Mode) (image : Image) (spot : Spot) → is_spot mode spot ≡ true → is_few spot ≡ true → (k : ℕ)
    → edges mode spot k ≤ body_edges mode image
few_edges Fred image (InFred (FromUser ByCall)) h few k = omega arith
few_edges Fred image (InFred (FromUser ByInt3)) h few k = omega arith
few_edges Fred image (InFred (FromUser ByIntN)) h few k = omega arith
few_edges Fred image (InFred (FromUser ByOther)) h few k = omega arith
few_edges Fred image (InFred (fred.Leaves FredToTask)) h few k = omega arith
few_edges Fred image (InFred FromKernel) h few k = omega arith
few_edges Fred image (InFred (fred.Leaves FredToKernel)) h few k = omega arith
few_edges Idt image (InIdt Sys) h few k = omega arith
few_edges Idt image (InIdt (Stub UserCode true v)) h few k = omega arith
few_edges Idt image (InIdt (Stub UserCode false v)) h few k = omega arith
few_edges Idt image (InIdt (Common UserCode true)) h few k = omega arith
few_edges Idt image (InIdt (Common UserCode false)) h few k = omega arith
few_edges Idt image (InIdt (idt.Leaves (IdtToTask BySysret))) h few k = omega arith
few_edges Idt image (InIdt (idt.Leaves (IdtToTask ByOtherRip))) h few k = omega arith
few_edges Idt image (InIdt (idt.Leaves (IdtToTask ByOtherFlags))) h few k = omega arith
few_edges Idt image (InIdt (Stub KernelCode true v)) h few k = omega arith
few_edges Idt image (InIdt (Stub KernelCode false v)) h few k = omega arith
few_edges Idt image (InIdt (Common KernelCode true)) h few k = omega arith
few_edges Idt image (InIdt (Common KernelCode false)) h few k = omega arith
few_edges Idt image (InIdt (idt.Leaves IdtToKernel)) h few k = omega arith
few_edges Fred image (InBody FredFrame s) h few k = body_few true FredFrame s few k
few_edges Idt image (InBody IdtFrame s) h few k = body_few false IdtFrame s few k
few_edges mode image _ h few k = let clash : false ≡ true = h in absurd (cc)

-- ---- their grounds and lines

pub record HasGround (mode : Mode) (spot : Spot) : Type 0 where
  pub fred : (block mode spot).ground.fred ≡ is_fred mode
  pub descriptors : (block mode spot).ground.descriptors ≡ []
  pub tops : (block mode spot).ground.tops ≡ []

-- the ground of a body's block is over its mode, and has neither descriptors nor tops
pub record BodyGround (fred : Bool) (layout : Layout) (s : BodySpot) : Type 0 where
  pub setting : (body_block fred layout s).ground.fred ≡ fred
  pub descriptors : (body_block fred layout s).ground.descriptors ≡ []
  pub tops : (body_block fred layout s).ground.tops ≡ []

call_ground : (fred : Bool) (layout : Layout) (s : CallSpot) → BodyGround fred layout (InCall s)
call_ground fred layout (AtRecord site) = record { setting = refl; descriptors = refl; tops = refl }
call_ground fred layout (BehindWait is_done) = record { setting = refl; descriptors = refl; tops = refl }
call_ground fred layout (BehindBusy r) = record { setting = refl; descriptors = refl; tops = refl }
call_ground fred layout (AtFill address func to r) = record { setting = refl; descriptors = refl; tops = refl }
call_ground fred layout (AtHead address func to) = record { setting = refl; descriptors = refl; tops = refl }
call_ground fred layout (AtLink address func to stale) = record { setting = refl; descriptors = refl; tops = refl }
call_ground fred layout (BehindFailure address func to) = record { setting = refl; descriptors = refl; tops = refl }
call_ground fred layout (BehindCall r is_first) = record { setting = refl; descriptors = refl; tops = refl }
call_ground fred layout AtTake = record { setting = refl; descriptors = refl; tops = refl }
call_ground fred layout (BehindTake n) = record { setting = refl; descriptors = refl; tops = refl }
call_ground fred layout (AtTurn n) = record { setting = refl; descriptors = refl; tops = refl }
call_ground fred layout (BehindTurn n) = record { setting = refl; descriptors = refl; tops = refl }
call_ground fred layout (AtTaken is_some) = record { setting = refl; descriptors = refl; tops = refl }
call_ground fred layout AtFinish = record { setting = refl; descriptors = refl; tops = refl }
call_ground fred layout BehindNext = record { setting = refl; descriptors = refl; tops = refl }
call_ground fred layout (AtOffset o e) = record { setting = refl; descriptors = refl; tops = refl }

pub body_ground : (fred : Bool) (layout : Layout) (s : BodySpot) → BodyGround fred layout s
body_ground fred layout AtTable = record { setting = refl; descriptors = refl; tops = refl }
body_ground fred layout AtJump = record { setting = refl; descriptors = refl; tops = refl }
body_ground fred layout AtItem = record { setting = refl; descriptors = refl; tops = refl }
body_ground fred layout (AtNumber n) = record { setting = refl; descriptors = refl; tops = refl }
body_ground fred layout (AtNumbers rcx rax rdx) = record { setting = refl; descriptors = refl; tops = refl }
body_ground fred layout (AtKick to) = record { setting = refl; descriptors = refl; tops = refl }
body_ground fred layout AtUserWord = record { setting = refl; descriptors = refl; tops = refl }
body_ground fred layout (AtPageWord is_page) = record { setting = refl; descriptors = refl; tops = refl }
body_ground fred layout BehindSti = record { setting = refl; descriptors = refl; tops = refl }
body_ground fred layout BehindKick = record { setting = refl; descriptors = refl; tops = refl }
body_ground fred layout (InCall s) = call_ground fred layout s

pub has_ground : (mode : Mode) (spot : Spot) → is_spot mode spot ≡ true → HasGround mode spot
has_ground Fred (InFred (FromUser way)) h = record { fred = refl; descriptors = refl; tops = refl }
has_ground Fred (InFred (fred.Leaves FredToTask)) h = record { fred = refl; descriptors = refl; tops = refl }
has_ground Fred (InFred FromKernel) h = record { fred = refl; descriptors = refl; tops = refl }
has_ground Fred (InFred (fred.Leaves FredToKernel)) h = record { fred = refl; descriptors = refl; tops = refl }
has_ground Idt (InIdt Sys) h = record { fred = refl; descriptors = refl; tops = refl }
has_ground Idt (InIdt (Stub UserCode has v)) h = record { fred = refl; descriptors = refl; tops = refl }
has_ground Idt (InIdt (Common UserCode pf)) h = record { fred = refl; descriptors = refl; tops = refl }
has_ground Idt (InIdt (idt.Leaves (IdtToTask by))) h = record { fred = refl; descriptors = refl; tops = refl }
has_ground Idt (InIdt (Stub KernelCode has v)) h = record { fred = refl; descriptors = refl; tops = refl }
has_ground Idt (InIdt (Common KernelCode pf)) h = record { fred = refl; descriptors = refl; tops = refl }
has_ground Idt (InIdt (idt.Leaves IdtToKernel)) h = record { fred = refl; descriptors = refl; tops = refl }
has_ground Fred (InBody FredFrame s) h = let g = body_ground true FredFrame s in record { fred = g.setting; descriptors = g.descriptors; tops = g.tops }
has_ground Idt (InBody IdtFrame s) h = let g = body_ground false IdtFrame s in record { fred = g.setting; descriptors = g.descriptors; tops = g.tops }
has_ground mode _ h = let clash : false ≡ true = h in absurd (cc)

-- at the entry of a vector its base is that entry's address; inside an item, whose lines the image says, nothing begins
abbrev pub IsAtEntry : Spot → Env → Type 0
IsAtEntry (InIdt s) e = IsAtStub e s
IsAtEntry (InBody layout AtTable) e = Unit {0}
IsAtEntry (InBody layout AtJump) e = Unit {0}
IsAtEntry (InBody layout AtItem) e = Unit {0}
IsAtEntry (InBody layout s) e = ⊥
IsAtEntry s e = Unit {0}

body_lines : (code : Code) (e : Env) (fred : Bool) (layout : Layout) (s : BodySpot) → IsAtEntry (InBody layout s) e
    → Stands code e (body_block fred layout s).lines
body_lines code e fred layout AtTable at = tt
body_lines code e fred layout AtJump at = tt
body_lines code e fred layout AtItem at = tt
body_lines code e fred layout _ at = absurd at

pub lines_stand : (mode : Mode) (code : Code) (e : Env) → e.base 1000 ≡ 0 → HasKernel mode code → (spot : Spot) → is_spot mode spot ≡ true
    → IsAtEntry spot e → Stands code e (block mode spot).lines
lines_stand Fred code e z k (InFred s) h at = fred_stand code e z k s
lines_stand Idt code e z k (InIdt s) h at = idt_stand code e z k s at
lines_stand Fred code e z k (InBody FredFrame s) h at = body_lines code e true FredFrame s at
lines_stand Idt code e z k (InBody IdtFrame s) h at = body_lines code e false IdtFrame s at
lines_stand mode code e z k _ h at = let clash : false ≡ true = h in absurd (cc)

-- ---- where their blocks end

pub exit_end : (by : IdtReturn) → (z : SS) × (brun (idt_block (idt.Leaves (IdtToTask by))) (idt_block (idt.Leaves (IdtToTask by))).steps ≡ Some z)
exit_end BySysret = (_, idt_returns.to_task.runs)
exit_end ByOtherRip = (_, idt_returns.to_task_by_rip.runs)
exit_end ByOtherFlags = (_, idt_returns.to_task_by_flags.runs)

-- a local is a register from 6 to 13
call_end_of : (fred : Bool) (layout : Layout) (s : CallSpot) → is_body_spot (InCall s) ≡ true
    → (z : SS) × (brun (block_of_call fred layout s) (block_of_call fred layout s).steps ≡ Some z)
call_end_of fred layout (AtRecord site) h = (_, ((call_ends fred layout).site site).runs)
call_end_of fred layout (BehindWait is_done) h = (_, ((call_ends fred layout).wait is_done).runs)
call_end_of fred layout (BehindBusy r) h = (_, ((call_ends fred layout).busy r).runs)
call_end_of fred layout (BehindCall r is_first) h =
    (_, ((call_ends fred layout).answers r is_first (leb-true 6 r (and_left (nat_le 6 r) _ h)) (ltb-true r 14 (and_right (nat_le 6 r) _ h))).runs)
call_end_of fred layout AtTake h = (_, (call_ends fred layout).take.runs)
call_end_of fred layout (BehindTake n) h = (_, ((call_ends fred layout).behind_take n).runs)
call_end_of fred layout (AtTurn n) h = (_, ((call_ends fred layout).turn n).runs)
call_end_of fred layout (BehindTurn n) h = (_, ((call_ends fred layout).behind_turn n).runs)
call_end_of fred layout (AtTaken is_some) h = (_, ((call_ends fred layout).taken is_some).runs)
call_end_of fred layout AtFinish h = (_, (call_ends fred layout).finish.runs)
call_end_of fred layout BehindNext h = (_, (call_ends fred layout).behind_next.runs)
call_end_of fred layout (AtOffset o e) h = (_, refl)
call_end_of fred layout _ h = let clash : false ≡ true = h in absurd (cc)

body_end : (fred : Bool) (layout : Layout) (s : BodySpot) → is_body_spot s ≡ true
    → (z : SS) × (brun (body_block fred layout s) (body_block fred layout s).steps ≡ Some z)
body_end fred layout AtTable h = (_, refl)
body_end fred layout AtJump h = (_, refl)
body_end fred layout AtItem h = (_, refl)
body_end fred layout (AtNumber n) h = (_, ((body_ends fred layout).number n).runs)
body_end fred layout (AtNumbers rcx rax rdx) h = (_, ((body_ends fred layout).numbers rcx rax rdx).runs)
body_end fred layout (AtKick to) h = (_, ((body_ends fred layout).kick to).runs)
body_end fred layout AtUserWord h = (_, (body_ends fred layout).user_word.runs)
body_end fred layout (AtPageWord is_page) h = (_, ((body_ends fred layout).page_word is_page).runs)
body_end fred layout BehindSti h = (_, (body_ends fred layout).behind_sti.runs)
body_end fred layout BehindKick h = (_, (body_ends fred layout).behind_kick.runs)
body_end fred layout (InCall s) h = call_end_of fred layout s h

pub runs_to_end : (mode : Mode) (spot : Spot) → is_spot mode spot ≡ true → (z : SS) × (brun (block mode spot) (block mode spot).steps ≡ Some z)
runs_to_end Fred (InFred (FromUser way)) h = (_, (fred_enters.0 way).runs)
runs_to_end Fred (InFred (fred.Leaves FredToTask)) h = (_, fred_returns.to_task.runs)
runs_to_end Fred (InFred FromKernel) h = (_, fred_enters.1.runs)
runs_to_end Fred (InFred (fred.Leaves FredToKernel)) h = (_, fred_returns.to_kernel.runs)
runs_to_end Idt (InIdt Sys) h = (_, idt_enters.call.runs)
runs_to_end Idt (InIdt (Stub UserCode has v)) h = (_, (idt_enters.stub UserCode has v (v == 14) refl).runs)
runs_to_end Idt (InIdt (Common UserCode pf)) h = (_, (idt_enters.common UserCode pf).runs)
runs_to_end Idt (InIdt (idt.Leaves (IdtToTask by))) h = exit_end by
runs_to_end Idt (InIdt (Stub KernelCode has v)) h = (_, (idt_enters.stub KernelCode has v (v == 14) refl).runs)
runs_to_end Idt (InIdt (Common KernelCode pf)) h = (_, (idt_enters.common KernelCode pf).runs)
runs_to_end Idt (InIdt (idt.Leaves IdtToKernel)) h = (_, idt_returns.to_kernel.runs)
runs_to_end Fred (InBody FredFrame s) h = body_end true FredFrame s h
runs_to_end Idt (InBody IdtFrame s) h = body_end false IdtFrame s h
runs_to_end mode _ h = let clash : false ≡ true = h in absurd (cc)

-- ---- no instruction of theirs lies in REPEAT, nor in the bodies' code

-- a state at an absolute address that is in neither
abbrev pub is_elsewhere : SS → Bool
is_elsewhere s = (s.rip.tag == absolute_tag) && (nat_lt s.rip.off code_end && not (is_in_repeat s.rip.off))

-- so it lies below the bodies' code
pub below_bodies : (e : Env) → e.base 1000 ≡ 0 → (s : SS) → is_elsewhere s ≡ true → addr e s.rip < code_end
below_bodies e z s h =
    let tag : s.rip.tag ≡ 1000 = eqb-true s.rip.tag 1000 (and_left _ _ h) in
    let small : s.rip.off < code_end = ltb-true s.rip.off code_end (and_left _ _ (and_right (s.rip.tag == 1000) _ h)) in
    let is : addr e s.rip ≡ s.rip.off = ap (λ t. (e.base t + s.rip.off) % M) tag
    ∙ (let q : (e.base 1000 + s.rip.off) % M ≡ s.rip.off = omega arith in q) in
    omega arith

-- no activation in a block of such states is in the bodies' code
pub not_in_bodies : (code : Code) (b : Block) (k : ℕ) (e : Env) (c : Processor) (m : Memory) → At code b k e c m → e.base 1000 ≡ 0 → k ≤ b.steps
    → every is_elsewhere b ≡ true → code_end ≤ c.rip → ⊥
not_in_bodies code b k e c m at z l h inside =
    let low = below_bodies e z at.state (every_ok is_elsewhere b h k l at.state at.is) in let rip = at.agrees.rip in omega arith

pub entry_elsewhere : (way : FredWay) → every is_elsewhere (fred_block (FromUser way)) ≡ true
unfolding fred_lines fred_listings spelling four_bytes size places distance
entry_elsewhere ByCall = refl
entry_elsewhere ByInt3 = refl
entry_elsewhere ByIntN = refl
entry_elsewhere ByOther = refl

pub kernel_entry_elsewhere : every is_elsewhere (fred_block FromKernel) ≡ true
unfolding fred_lines fred_listings spelling four_bytes size places distance
kernel_entry_elsewhere = refl

pub kernel_exit_elsewhere : every is_elsewhere (fred_block (fred.Leaves FredToKernel)) ≡ true
unfolding fred_lines fred_listings spelling four_bytes size places distance
kernel_exit_elsewhere = refl

pub fred_exit_elsewhere : every is_elsewhere (fred_block (fred.Leaves FredToTask)) ≡ true
unfolding fred_lines fred_listings spelling four_bytes size places distance
fred_exit_elsewhere = refl

pub sys_elsewhere : every is_elsewhere (idt_block Sys) ≡ true
unfolding sys_lines idt_places spelling four_bytes size places distance
sys_elsewhere = refl

pub idt_exit_elsewhere : (by : IdtReturn) → every is_elsewhere (idt_block (idt.Leaves (IdtToTask by))) ≡ true
unfolding exit_lines idt_places spelling four_bytes size places distance
idt_exit_elsewhere BySysret = refl
idt_exit_elsewhere ByOtherRip = refl
idt_exit_elsewhere ByOtherFlags = refl

pub fred_switch_elsewhere : every is_elsewhere (fred_block (fred.Leaves FredToNext)) ≡ true
unfolding fred_lines fred_listings spelling four_bytes size places distance
fred_switch_elsewhere = refl

pub idt_switch_elsewhere : (by : IdtReturn) → every is_elsewhere (idt_block (idt.Leaves (IdtToNext by))) ≡ true
unfolding exit_lines idt_places spelling four_bytes size places distance
idt_switch_elsewhere BySysret = refl
idt_switch_elsewhere ByOtherRip = refl
idt_switch_elsewhere ByOtherFlags = refl

-- those that know the mark are exits
pub mark_elsewhere : (mode : Mode) (spot : Spot) → is_spot mode spot ≡ true → knows_mark spot ≡ true → every is_elsewhere (block mode spot) ≡ true
mark_elsewhere Fred (InFred (fred.Leaves FredToTask)) h k = fred_exit_elsewhere
mark_elsewhere Idt (InIdt (idt.Leaves (IdtToTask by))) h k = idt_exit_elsewhere by
mark_elsewhere Idt (InFred (fred.Leaves FredToTask)) h k = let clash : false ≡ true = h in absurd (cc)
mark_elsewhere Fred (InIdt (idt.Leaves (IdtToTask by))) h k = let clash : false ≡ true = h in absurd (cc)
mark_elsewhere mode _ h k = let clash : false ≡ true = k in absurd (cc)

pub idt_kernel_exit_elsewhere : every is_elsewhere (idt_block (idt.Leaves IdtToKernel)) ≡ true
unfolding exit_lines idt_places spelling four_bytes size places distance
idt_kernel_exit_elsewhere = refl

pub common_elsewhere : (o : Origin) (pf : Bool) → every is_elsewhere (idt_block (Common o pf)) ≡ true
unfolding common_lines idt_places spelling four_bytes size places distance
common_elsewhere UserCode true = refl
common_elsewhere UserCode false = refl
common_elsewhere KernelCode true = refl
common_elsewhere KernelCode false = refl

-- those of a vector's entry lie in its sixteen bytes
abbrev pub is_in_stub : SS → Bool
is_in_stub s = (s.rip.tag == stub_tag) && nat_lt s.rip.off 0x10

pub stub_inside : (o : Origin) (has : Bool) (v : ℕ) → every is_in_stub (idt_block (Stub o has v)) ≡ true
unfolding spelling four_bytes
stub_inside UserCode true v = refl
stub_inside UserCode false v = refl
stub_inside KernelCode true v = refl
stub_inside KernelCode false v = refl

-- those inside an item lie in its bytes
abbrev pub is_in_item : SS → Bool
is_in_item s = (s.rip.tag == item_tag) && nat_lt s.rip.off 0x100

answer_inside : (fred : Bool) (layout : Layout) (is_first : Bool) (s : ℕ) → every is_in_item (block_of_call fred layout (BehindCall s is_first)) ≡ true
unfolding spelling four_bytes
answer_inside fred layout true = from_zero (λ s. every is_in_item (block_of_call fred layout (BehindCall s true)) ≡ true)
    refl refl refl refl refl refl refl refl refl refl refl refl refl refl refl refl (λ n. refl)
answer_inside fred layout false = from_zero (λ s. every is_in_item (block_of_call fred layout (BehindCall s false)) ≡ true)
    refl refl refl refl refl refl refl refl refl refl refl refl refl refl refl refl (λ n. refl)

call_inside : (fred : Bool) (layout : Layout) (s : CallSpot) → is_body_spot (InCall s) ≡ true → every is_in_item (block_of_call fred layout s) ≡ true
unfolding spelling four_bytes
call_inside fred layout (AtRecord site) h = refl
call_inside fred layout (BehindWait true) h = refl
call_inside fred layout (BehindWait false) h = refl
call_inside fred layout (BehindBusy r) h = refl
call_inside fred layout (BehindCall r is_first) h = answer_inside fred layout is_first r
call_inside fred layout AtTake h = refl
call_inside fred layout (BehindTake n) h = refl
call_inside fred layout (AtTurn zero) h = refl
call_inside fred layout (AtTurn (suc n)) h = refl
call_inside fred layout (BehindTurn n) h = refl
call_inside fred layout (AtTaken true) h = refl
call_inside fred layout (AtTaken false) h = refl
call_inside fred layout AtFinish h = refl
call_inside fred layout BehindNext h = refl
call_inside fred layout (AtOffset o e) h = h
call_inside fred layout _ h = let clash : false ≡ true = h in absurd (cc)

pub body_inside : (fred : Bool) (layout : Layout) (s : BodySpot) → is_body_spot s ≡ true → is_in_code s ≡ true → every is_in_item
    (body_block fred layout s) ≡ true
unfolding spelling four_bytes
body_inside fred layout AtItem h i = refl
body_inside fred layout (AtNumber n) h i = refl
body_inside fred layout (AtNumbers rcx rax rdx) h i = refl
body_inside fred layout (AtKick to) h i = refl
body_inside fred layout AtUserWord h i = refl
body_inside fred layout (AtPageWord true) h i = refl
body_inside fred layout (AtPageWord false) h i = refl
body_inside fred layout BehindSti h i = refl
body_inside fred layout BehindKick h i = refl
body_inside fred layout (InCall s) h i = call_inside fred layout s h
body_inside fred layout AtTable h i = let clash : false ≡ true = i in absurd (cc)
body_inside fred layout AtJump h i = let clash : false ≡ true = i in absurd (cc)
