-- The boundary at which a body runs: an instruction comes next, or where IF is on an interrupt, at any instruction of an item. Both machines choose the same.
use Rattle.std.proofs.Common.{◌≡◌, ℕ, suc, ◌+◌, ◌-◌, ◌%◌, ◌<◌, ◌≤◌, Bool, true, false, not, ◌&&◌, List, [], ◌∷◌, get_or, map, length, Option, Some, None, refl, sym, ap, ◌∙◌, subst, arith}
use Rattle.std.specs.Prelude.{◌==◌, if◌then◌else◌, is_some, nat_le, nat_lt, zero}
use Rattle.std.specs.List.{list_all}
use Rattle.std.proofs.lemmas.Bool.{eqb-true, ltb-true, leb-true}
use Rattle.std.proofs.Math.ListN.{get_or-map}
use Rattle.ev_isa.specs.Word.{NatMap, NatSet, put_at, is_canonical}
use Rattle.ev_isa.specs.Flags.{Flags}
use Rattle.ev_isa.specs.Spelling.{spelling, four_bytes}
use Rattle.ev_isa.specs.declared.mode.Mode.{Mode}
use Rattle.ev_isa.specs.declared.mode.Mode.TheVariants.{Idt, Fred}
use Rattle.ev_event.specs.declared.boundary.Next.{Next}
use Rattle.ev_event.specs.declared.event.Event.{Event}
use Rattle.ev_event.specs.Event.{interrupt_event}
use Rattle.ev_event.specs.Boundary.{interrupt_or_instruction}
use Rattle.ev_body.specs.declared.key.Side.TheVariants.{Kernel}
use Rattle.ev_body.specs.declared.image.Image.{Image}
use Rattle.ev_body.specs.Bodies.{first_body}
use Rattle.ev_body.specs.WellFormed.{IsImage}
use Rattle.ev_listing.specs.AddressMap.{pcpu, code_end}
use Rattle.ev_state.specs.Processor.{Processor, is_user, rsp, interrupts_on}
use Rattle.ev_state.proofs.FlagLaws.{kept}
use Rattle.ev_apic.specs.Apic.{next_vector, begun}
use Rattle.ev_apic.specs.Vectors.{IsGreatestBelow}
use Rattle.ev_apic.proofs.Greatest.{greatest_law}
use Rattle.ev_tables.proofs.Gates.{upper_canonical}
use Rattle.ev_proc.specs.ProcessorStep.{step, step_by, next_of}
use Rattle.ev_abstract.specs.Boundary.{Choice, choice, interrupt_or_next, deliverable, outranks}
use Rattle.ev_abstract.specs.Context.{BodyContext}
use Rattle.ev_abstract.specs.declared.entry.Entry.{Entry}
use Rattle.ev_abstract.specs.Delivery.{body_at_start, delivered}
use Rattle.ev_abstract.specs.Machine.{Machine, processor, with_processor}
use Rattle.ev_abstract.specs.Machine as abstract
use Rattle.ev_abstract.specs.Run.{turn, chosen_step}
use Rattle.ev_law.specs.Legal.{IsInterrupt}
use Rattle.ev_law.proofs.Required.{interrupt_has_bodies}
use Rattle.ev_concrete.specs.ConcreteRun.{System, Activation, marks_of, is_visible, is_visible_by, starts_inner}
use Rattle.ev_concrete.specs.LiveWords.{area_bytes}
use Rattle.ev_built.specs.Built.{IsBuilt}
use Rattle.ev_symbolic.specs.Value.{M, K, P, v_eq}
use Rattle.ev_symbolic.specs.State.{SS, sreg}
use Rattle.ev_symbolic.specs.Run.{every}
use Rattle.ev_symbolic.specs.Agrees.{Env, eval, eval_flags, Agrees}
use Rattle.ev_symbolic.specs.Names.{item_tag, top_less}
use Rattle.ev_symbolic.specs.Openings.{gs_tag}
use Rattle.ev_symbolic.proofs.Values.{v_same, and_left, and_right}
use Rattle.ev_symbolic.proofs.Blocks.{every_ok}
use Rattle.ev_blocks.specs.Shapes.{Origin, UserCode, KernelCode, FredFrame, IdtFrame, body_bytes}
use Rattle.ev_blocks.specs.Fred.{FromUser, FromKernel, FredToKernel, FredToTask, FredToNext}
use Rattle.ev_blocks.specs.Fred as fred
use Rattle.ev_blocks.specs.Idt.{Stub, Sys, Common, IdtToKernel, IdtToTask, IdtToNext}
use Rattle.ev_blocks.specs.Idt as idt
use Rattle.ev_blocks.specs.Calls.{CallSpot, AtRecord, BehindWait, BehindBusy, AtFill, AtHead, AtLink, BehindFailure, BehindCall, AtTake, BehindTake, AtTurn, BehindTurn, AtTaken, AtFinish, BehindNext, AtOffset}
use Rattle.ev_blocks.specs.Items.{BodySpot, AtTable, AtJump, AtNumber, AtNumbers, AtKick, AtUserWord, AtPageWord, BehindSti, BehindKick, InCall}
use Rattle.ev_blocks.specs.Items as items
use Rattle.ev_blocks.specs.Blocks.{Spot, InFred, InIdt, InBody, block}
use Rattle.ev_paths.specs.Ends.{TellsNoCr2}
use Rattle.ev_paths.proofs.BodyEnds.{body_untold}
use Rattle.ev_activation.specs.Seat.{Kind, SystemCall, FromTask, FromBody, NmiFromTask, NmiFromBody, Seat, kind_of, seat_of, top_at}
use Rattle.ev_user.specs.Causes.{Arrived}
use Rattle.ev_user.specs.Numbers.{HoldsNumbers}
use Rattle.ev_user.proofs.KeepsNumbers.{put_numbers, causes_small, delivered_words}
use Rattle.ev_relation.specs.Filling.{Filling, first_fill, rest_fills}
use Rattle.ev_relation.specs.Active.{here, IsKernelSs, HasRange, InSpot, OverTask, OverBody, Means, Active}
use Rattle.ev_relation.specs.Relation.{IsContext, Chain, StandsOn, Stands, ApicIs, chained, body_edges, switches_at}
use Rattle.ev_relation.specs.Step.{Simulated}
use Rattle.ev_relation.proofs.Facts.{Facts}
use Rattle.ev_relation.proofs.Maps.{at_same, at_other}
use Rattle.ev_paths.proofs.Locals.{from_six}
use Rattle.ev_call_law.specs.Calls.{to_run}
use Rattle.ev_relation.proofs.Spots.{is_in_item, is_in_code, is_body_spot, body_spot_is}
use Rattle.ev_relation.proofs.Fills.{is_fill_spot, spot_fills}
use Rattle.ev_relation.proofs.Chains.{Kept, chain_kept, chain_masked}
use Rattle.ev_relation.proofs.CallKinds.{ArePlain, over_any, seat_under, plain_seat}
use Rattle.ev_body_steps.proofs.Bodies.{body, layout_of}
use Rattle.ev_relation.proofs.Depth.{spot_range}
use Rattle.ev_relation.proofs.Legality.{legal_few}
use Rattle.ev_relation.proofs.Standing.{masked_first, open_first, vector_first}
use Rattle.ev_relation.proofs.Vectors.{next_is, begun_is}
use Rattle.ev_relation.proofs.UserBody.{HasBody, has_body}
use Rattle.ev_body_steps.proofs.BodyRaising.{AtItem, interrupt_is}
use Rattle.ev_body_steps.proofs.BodyTurn.{delivered_is, entry_of, rsp_below, stands_any}
use Rattle.ev_body_steps.proofs.BodyTurn as turns
use Rattle.ev_body_steps.proofs.KernelStep as step

-- ---- where IF may be on: in items

-- a state in an item, with RSP and the base of GS as the body has them
abbrev is_open : Mode → SS → Bool
is_open mode s = is_in_item s && (v_eq (sreg s 4) (top_less (body_bytes (layout_of mode))) && v_eq s.gs (P gs_tag 0))

-- what holds of each local's register
local_open : (Q : ℕ → Type 0) → Q 6 → Q 7 → Q 8 → Q 9 → Q 10 → Q 11 → Q 12 → Q 13 → (r : ℕ) → (nat_le 6 r && nat_lt r 14) ≡ true → Q r
local_open Q a b c d e f g i r h = from_six Q a b c d e f g i r (leb-true 6 r (and_left (nat_le 6 r) _ h)) (ltb-true r 14 (and_right (nat_le 6 r) _ h))

-- so are all states in the code of items
call_open : (mode : Mode) (s : CallSpot) → is_body_spot (InCall s) ≡ true → every (is_open mode) (block mode (body mode (InCall s))) ≡ true
unfolding spelling four_bytes
call_open Fred (AtRecord site) h = refl
call_open Fred (BehindWait true) h = refl
call_open Fred (BehindWait false) h = refl
call_open Fred (BehindBusy r) h = local_open (λ r. every (is_open Fred) (block Fred (body Fred (InCall (BehindBusy r)))) ≡ true)
    refl refl refl refl refl refl refl refl r h
call_open Fred (BehindCall r true) h = local_open (λ r. every (is_open Fred) (block Fred (body Fred (InCall (BehindCall r true)))) ≡ true)
    refl refl refl refl refl refl refl refl r h
call_open Fred (BehindCall r false) h = local_open (λ r. every (is_open Fred) (block Fred (body Fred (InCall (BehindCall r false)))) ≡ true)
    refl refl refl refl refl refl refl refl r h
call_open Fred AtTake h = refl
call_open Fred (BehindTake n) h = refl
call_open Fred (AtTurn zero) h = refl
call_open Fred (AtTurn (suc n)) h = refl
call_open Fred (BehindTurn n) h = refl
call_open Fred (AtTaken true) h = refl
call_open Fred (AtTaken false) h = refl
call_open Fred AtFinish h = refl
call_open Fred BehindNext h = refl
call_open Fred (AtOffset o e) h = ap (λ t. t && true) h
call_open Idt (AtRecord site) h = refl
call_open Idt (BehindWait true) h = refl
call_open Idt (BehindWait false) h = refl
call_open Idt (BehindBusy r) h = local_open (λ r. every (is_open Idt) (block Idt (body Idt (InCall (BehindBusy r)))) ≡ true)
    refl refl refl refl refl refl refl refl r h
call_open Idt (BehindCall r true) h = local_open (λ r. every (is_open Idt) (block Idt (body Idt (InCall (BehindCall r true)))) ≡ true)
    refl refl refl refl refl refl refl refl r h
call_open Idt (BehindCall r false) h = local_open (λ r. every (is_open Idt) (block Idt (body Idt (InCall (BehindCall r false)))) ≡ true)
    refl refl refl refl refl refl refl refl r h
call_open Idt AtTake h = refl
call_open Idt (BehindTake n) h = refl
call_open Idt (AtTurn zero) h = refl
call_open Idt (AtTurn (suc n)) h = refl
call_open Idt (BehindTurn n) h = refl
call_open Idt (AtTaken true) h = refl
call_open Idt (AtTaken false) h = refl
call_open Idt AtFinish h = refl
call_open Idt BehindNext h = refl
call_open Idt (AtOffset o e) h = ap (λ t. t && true) h
call_open mode _ h = let clash : false ≡ true = h in absurd (cc)

stays_open : (mode : Mode) (s : BodySpot) → is_body_spot s ≡ true → is_in_code s ≡ true → every (is_open mode) (block mode (body mode s)) ≡ true
unfolding spelling four_bytes
stays_open Fred items.AtItem h i = refl
stays_open Fred (AtNumber n) h i = refl
stays_open Fred (AtNumbers rcx rax rdx) h i = refl
stays_open Fred (AtKick to) h i = refl
stays_open Fred AtUserWord h i = refl
stays_open Fred (AtPageWord true) h i = refl
stays_open Fred (AtPageWord false) h i = refl
stays_open Fred BehindSti h i = refl
stays_open Fred BehindKick h i = refl
stays_open Fred (InCall s) h i = call_open Fred s h
stays_open Idt items.AtItem h i = refl
stays_open Idt (AtNumber n) h i = refl
stays_open Idt (AtNumbers rcx rax rdx) h i = refl
stays_open Idt (AtKick to) h i = refl
stays_open Idt AtUserWord h i = refl
stays_open Idt (AtPageWord true) h i = refl
stays_open Idt (AtPageWord false) h i = refl
stays_open Idt BehindSti h i = refl
stays_open Idt BehindKick h i = refl
stays_open Idt (InCall s) h i = call_open Idt s h
stays_open mode AtTable h i = let clash : false ≡ true = i in absurd (cc)
stays_open mode AtJump h i = let clash : false ≡ true = i in absurd (cc)

-- those of a record that is filled too
fill_open : (mode : Mode) (s : BodySpot) → is_fill_spot s ≡ true → every (is_open mode) (block mode (body mode s)) ≡ true
unfolding spelling four_bytes
fill_open Fred (InCall (AtFill address func to s)) h = refl
fill_open Fred (InCall (AtHead address func to)) h = refl
fill_open Fred (InCall (AtLink address func to is_stale)) h = refl
fill_open Fred (InCall (BehindFailure address func to)) h = refl
fill_open Idt (InCall (AtFill address func to s)) h = refl
fill_open Idt (InCall (AtHead address func to)) h = refl
fill_open Idt (InCall (AtLink address func to is_stale)) h = refl
fill_open Idt (InCall (BehindFailure address func to)) h = refl
fill_open mode _ h = let clash : false ≡ true = h in absurd (cc)

-- where a body is open to interrupts it is in the code of an item, at an address of the bodies' code
record IsOpen (mode : Mode) (image : Image) (m : Mode) (spot : Spot) (e : Env) : Type 0 where
  stays : every (is_open m) (block m spot) ≡ true
  range : HasRange mode image e
  untold : TellsNoCr2 (block m spot)

-- IF is off in an entry and in an exit
never_off : {X : Type 0} (b : BodyContext) → b.interrupts ≡ false → b.interrupts ≡ true → X
never_off b off on = let clash : true ≡ false = sym on ∙ off in absurd (cc)

module _ (mode : Mode) (image : Image) (facts : Facts mode image) where
  -- on the way to its first item it is off
  in_code : (o : Origin) (s : BodySpot) (e : Env) (w : Processor) (b : BodyContext) (g : Option Filling) (words : NatMap ℕ)
      → InSpot mode image o s e w b g words → b.interrupts ≡ true → is_in_code s ≡ true
  in_code o AtTable e w b g words h on = never_off b h.0.off on
  in_code o AtJump e w b g words h on = never_off b h.0.off on
  in_code o _ e w b g words h on = refl

  code_stays : (m : Mode) (o : Origin) (s : BodySpot) (e : Env) (w : Processor) (b : BodyContext) (g : Option Filling) (words : NatMap ℕ)
      → InSpot mode image o s e w b g words → is_in_code s ≡ true → (t : Bool) → items.fills s ≡ t → every (is_open m) (block m (body m s)) ≡ true
  code_stays m o s e w b g words h i true q = fill_open m s (spot_fills mode image o s e w b g words h q).0
  code_stays m o s e w b g words h i false q = stays_open m s (body_spot_is mode image o s e w b g words h q) i

  in_body : (o : Origin) (m : Mode) (s : BodySpot) (e : Env) (w : Processor) (b : BodyContext) (g : Option Filling) (words : NatMap ℕ)
      → IsContext mode image b → InSpot mode image o s e w b g words → b.interrupts ≡ true → IsOpen mode image m (body m s) e
  in_body o m s e w b g words ctx h on =
      let i = in_code o s e w b g words h on in record {
        stays = code_stays m o s e w b g words h i (items.fills s) refl;
        range = spot_range mode image facts o s e w b g words ctx h i;
        untold = untold m s;
      }
    where
      untold : (m : Mode) (s : BodySpot) → TellsNoCr2 (block m (body m s))
      untold Fred s = body_untold true FredFrame s
      untold Idt s = body_untold false IdtFrame s

  task_open : (m : Mode) (spot : Spot) (e : Env) (w : Processor) (b : BodyContext) (g : Option Filling) (words : NatMap ℕ) → IsContext mode image b
      → OverTask mode image m spot e w b g words → b.interrupts ≡ true → IsOpen mode image m spot e
  task_open Fred (InFred (FromUser way)) e w b g words ctx h on = never_off b h.0.off on
  task_open Fred (InFred (fred.Leaves FredToTask)) e w b g words ctx h on = never_off b h.off on
  task_open Fred (InFred (fred.Leaves FredToNext)) e w b g words ctx h on = never_off b h.off on
  task_open Fred (InBody FredFrame s) e w b g words ctx h on = in_body UserCode Fred s e w b g words ctx h on
  task_open Idt (InIdt Sys) e w b g words ctx h on = never_off b h.0.off on
  task_open Idt (InIdt (Stub UserCode has v)) e w b g words ctx h on = never_off b h.1.off on
  task_open Idt (InIdt (Common UserCode pf)) e w b g words ctx h on = never_off b h.0.off on
  task_open Idt (InIdt (idt.Leaves (IdtToTask by))) e w b g words ctx h on = never_off b h.0.off on
  task_open Idt (InIdt (idt.Leaves (IdtToNext by))) e w b g words ctx h on = never_off b h.0.off on
  task_open Idt (InBody IdtFrame s) e w b g words ctx h on = in_body UserCode Idt s e w b g words ctx h on
  task_open m _ e w b g words ctx h on = absurd h

  body_open : (m : Mode) (spot : Spot) (e : Env) (w : Processor) (b : BodyContext) (g : Option Filling) (words : NatMap ℕ) → IsContext mode image b
      → OverBody mode image m spot e w b g words → b.interrupts ≡ true → IsOpen mode image m spot e
  body_open Fred (InFred FromKernel) e w b g words ctx h on = never_off b h.0.off on
  body_open Fred (InFred (fred.Leaves FredToKernel)) e w b g words ctx h on = never_off b h.off on
  body_open Fred (InBody FredFrame s) e w b g words ctx h on = in_body KernelCode Fred s e w b g words ctx h on
  body_open Idt (InIdt (Stub KernelCode has v)) e w b g words ctx h on = never_off b h.1.off on
  body_open Idt (InIdt (Common KernelCode pf)) e w b g words ctx h on = never_off b h.0.off on
  body_open Idt (InIdt (idt.Leaves IdtToKernel)) e w b g words ctx h on = never_off b h.off on
  body_open Idt (InBody IdtFrame s) e w b g words ctx h on = in_body KernelCode Idt s e w b g words ctx h on
  body_open m _ e w b g words ctx h on = absurd h

  means_open : (κ : Kind) (spot : Spot) (e : Env) (w : Processor) (b : BodyContext) (g : Option Filling) (words : NatMap ℕ) → IsContext mode image b
      → Means mode image κ spot e w b g words → b.interrupts ≡ true → IsOpen mode image mode spot e
  means_open SystemCall spot e w b g words ctx h on = task_open mode spot e w b g words ctx h on
  means_open FromTask spot e w b g words ctx h on = task_open mode spot e w b g words ctx h on
  means_open FromBody spot e w b g words ctx h on = body_open mode spot e w b g words ctx h on
  means_open NmiFromTask spot e w b g words ctx h on = absurd h
  means_open NmiFromBody spot e w b g words ctx h on = absurd h

-- where RSP is there
body_rsp : (mode : Mode) (e : Env) → eval e (top_less (body_bytes (layout_of mode))) ≡ (e.base 16 + (M - area_bytes mode)) % M
unfolding eval
body_rsp Fred e = refl
body_rsp Idt e = refl

register_at : (e : Env) (s : SS) (c : Processor) (r : ℕ) → c.regs ≡ map (eval e) s.regs → get_or c.regs r 0 ≡ eval e (sreg s r)
unfolding eval
register_at e s c r h = ap (λ xs. get_or xs r 0) h ∙ get_or-map (eval e) s.regs r (K 0)

body_gs : (mode : Mode) (p : ℕ) (κ : Kind) (σ : Seat) (ss : ℕ) (w : Processor) (extra v : ℕ → ℕ) (f : Flags)
    → eval (here mode p κ σ ss w extra v f) (P gs_tag 0) ≡ (pcpu p + 0) % M
unfolding eval
body_gs mode p κ σ ss w extra v f = refl

the_some : {X : Type 0} (o : Option X) → is_some o ≡ true → (x : X) × (o ≡ Some x)
the_some None h = absurd (cc)
the_some (Some x) h = (x, refl)

module _ (mode : Mode) (image : Image) (built : IsBuilt image) (good : IsImage image) (facts : Facts mode image)
    (left : NatMap ℕ) (s : System) (m : Machine) (h : Stands mode image left s m) (p : ℕ) (hp : p < image.processors) where
  abbrev c : Processor
  c = s.cpus p

  abbrev x : abstract.Processor
  x = processor m p

  abbrev on : StandsOn mode image p (left p) s x
  on = step.on mode image built good facts left s m h p hp

  abbrev r : ℕ
  r = x.running

  small : p < 32
  small = step.small mode image built good facts left s m h p hp

  -- the contexts, of which the last one is b
  module _ (b : BodyContext) (below : List BodyContext) (hb : x.bodies ≡ b ∷ below) (last : Activation) (others : List Activation)
      (acts : s.activations p ≡ last ∷ others)
      (k : Chain mode image p on.own r on.returning (x.tasks on.returning) on.frame on.switching on.fills (b ∷ below) (last ∷ others) c s.memory) where
    abbrev n : ℕ
    n = length below

    abbrev w : Processor
    w = k.0

    abbrev κ : Kind
    κ = kind_of image b below

    abbrev σ : Seat
    σ = seat_of mode image r (b ∷ below)

    abbrev act : Active mode image p on.own κ σ on.frame (switches_at mode image on.switching below) (first_fill on.fills) w b c s.memory
    act = k.6

    -- IF is the context's
    masked : interrupts_on c ≡ b.interrupts
    masked = chain_masked mode image p on.own r on.returning (x.tasks on.returning) on.frame on.switching on.fills b below (last ∷ others) c s.memory k

    plain : ArePlain image (b ∷ below)
    plain = subst (ArePlain image) hb (step.plain mode image built good facts left s m h p hp)

    -- what the abstract machine chooses, by IF and the next vector
    chooses : choice image x ≡ (if b.interrupts then interrupt_or_next (next_vector (s.apics p)) else Choice.Next)
    chooses =
        step.context_choice mode image built good facts left s m h p hp b below hb
        ∙ ap (λ z. if b.interrupts then interrupt_or_next z else Choice.Next)
        (sym (next_is mode image (s.apics p) x on.apic (λ v e. ((h.legal.each p).pending.each v e).from)))

    -- ---- an interrupt

    module _ (opened : b.interrupts ≡ true) (unblocked : c.sti_blocked ≡ false) (v : ℕ) (is : next_vector (s.apics p) ≡ Some v) where
      abbrev e : Env
      e = here mode p κ σ act.stands.ss w act.stands.extra act.stands.var act.stands.flags

      -- what the processor agrees with
      abbrev state : SS
      state = act.stands.at.state

      abbrev agrees : Agrees e (block mode act.stands.spot).ground state c s.memory
      agrees = act.stands.at.agrees

      in_it : IsOpen mode image mode act.stands.spot e
      in_it = means_open mode image facts κ act.stands.spot e w b (first_fill on.fills) s.memory.words k.1 act.means opened

      open_state : is_open mode state ≡ true
      open_state = every_ok (is_open mode) (block mode act.stands.spot) in_it.stays act.stands.k act.stands.within state act.stands.at.is

      rsp_and_gs : (v_eq (sreg state 4) (top_less (body_bytes (layout_of mode))) && v_eq state.gs (P gs_tag 0)) ≡ true
      rsp_and_gs = and_right (is_in_item state) _ open_state

      seat_is : σ ≡ seat_under mode r n
      seat_is = plain_seat mode image r b below plain

      shallow : n < 32
      shallow = let few = legal_few image good built.accepted m p h.legal in let l = ap length hb in omega arith

      rsp_is : rsp c ≡ (top_at p (seat_under mode r n) + (M - area_bytes mode)) % M
      rsp_is =
          register_at e state c 4 agrees.regs
          ∙ ap (eval e) (v_same (sreg state 4) (top_less (body_bytes (layout_of mode))) (and_left _ _ rsp_and_gs))
          ∙ body_rsp mode e ∙ ap (λ σ. (top_at p σ + (M - area_bytes mode)) % M) seat_is

      gs_is : c.msrs.gs_base ≡ pcpu p
      gs_is =
          agrees.gs
          ∙ ap (eval e) (v_same state.gs (P gs_tag 0) (and_right (v_eq (sreg state 4) (top_less (body_bytes (layout_of mode)))) _ rsp_and_gs))
          ∙ body_gs mode p κ σ act.stands.ss w act.stands.extra act.stands.var act.stands.flags
          ∙ (let l = small in let q : (pcpu p + 0) % M ≡ pcpu p = omega arith in q)

      -- in the bodies' code
      upper : (code_end ≤ c.rip) × (c.rip < M)
      upper =
          let inside = and_left (is_in_item state) _ open_state in
          let tag : state.rip.tag ≡ item_tag = eqb-true state.rip.tag item_tag (and_left _ _ inside) in
          let near : state.rip.off < 0x100 = ltb-true state.rip.off 0x100 (and_right (state.rip.tag == item_tag) _ inside) in
          let rip : c.rip ≡ (e.base item_tag + state.rip.off) % M = agrees.rip ∙ ap (λ t. (e.base t + state.rip.off) % M) tag in
          let low = in_it.range.0 in let high = in_it.range.1 in
          (omega arith, omega arith)

      canonical : is_canonical c.rip ≡ true
      canonical = let low = upper.0 in upper_canonical c.rip (omega arith) upper.1

      at_item : AtItem mode p r n c
      at_item =
          let now : Kept mode image p c = step.kept_now mode image built good facts left s m h p hp in
          let under : Kept mode image p w = chain_kept mode image p (body_edges mode image) r on.returning (x.tasks on.returning) on.frame
          (chained mode image on.switching below) (rest_fills on.fills) below others w s.memory (over_any mode image
          (λ q. Chain mode image p (body_edges mode image) r on.returning (x.tasks on.returning) on.frame (chained mode image on.switching below)
          (rest_fills on.fills) below others q
          s.memory) _ w k.4) in
          record {
            kernel = ap is_user agrees.rest;
            ring = (ap (λ (y : Processor). y.cpl) agrees.rest, ap (λ (y : Processor). y.cs) agrees.rest);
            ss = subst (IsKernelSs mode) (sym (ap (λ (y : Processor). y.ss) agrees.rest)) act.stands.ss_is;
            level = now.level;
            flags = sym (kept c.flags (eval_flags e state.flags) agrees.flags);
            unblocked = unblocked;
            open_to = step.blocked mode image built good facts left s m h p hp;
            base = gs_is;
            levels = ap length agrees.levels ∙ ap suc under.stacks;
            config = now.config;
            stack_levels = now.levels;
            fred = now.fred;
            idt = now.idt;
            long = act.stands.long;
            at_top = rsp_below mode p r n (rsp c) small (turns.narrow mode image built good facts left s m h p hp) shallow rsp_is;
          }

      -- it will be found there again
      abbrev on_it : turns.Under mode image built good facts left s m h p hp c.rip
      on_it = record {
        b = b;
        below = below;
        count = ap length hb;
        last = last;
        others = others;
        acts = acts;
        plain = plain;
        calls = ap to_run (sym hb);
        outside = refl;
        inside = upper.0;
        chain = λ a. (
          k.0,
          k.1,
          k.2,
          k.3,
          k.4,
          k.5,
          stands_any mode image p on.own κ σ on.frame (switches_at mode image on.switching below)
              (first_fill on.fills) w b c s.memory act in_it.untold a on.short,
        );
      }

      -- the greatest vector that may come
      greatest : IsGreatestBelow 256 (deliverable x) (Some v)
      greatest = subst (IsGreatestBelow 256 (deliverable x))
          (sym (next_is mode image (s.apics p) x on.apic (λ v e. ((h.legal.each p).pending.each v e).from)) ∙ is) (greatest_law 256 (deliverable x))

      comes : IsInterrupt image v
      comes = (h.legal.each p).pending.each v (and_left (x.pending v) _ greatest.1)

      abbrev event : Event
      event = interrupt_event v

      abbrev found : (body : ℕ) × (first_body 0 image.bodies v Kernel ≡ Some body)
      found = the_some (first_body 0 image.bodies v Kernel) (interrupt_has_bodies image v built.accepted.1.kept comes).1

      abbrev set : NatSet
      set = put_at x.pending v false

      abbrev entered : BodyContext
      entered = body_at_start found.0 Kernel event

      abbrev z : abstract.Processor
      z = record x { bodies = entered ∷ b ∷ below; pending = set }

      delivers : delivered image p (record x { pending = set }) event ≡ (z, entry_of p event (suc (suc n)) ∷ [])
      delivers =
          let holder : HasBody image v found.0 = has_body image good v found.0 Kernel found.1 in
          ap (λ (bs : List BodyContext). delivered image p (record x { bodies = bs; pending = set }) event) hb
          ∙ delivered_is image p (record x { pending = set }) b below event found.0 holder found.1 (holder.key_is ∙ (interrupt_is v comes.from comes.to).name)

      turned : turn image m p ≡ (with_processor m p z, entry_of p event (suc (suc n)) ∷ [])
      unfolding turn
      turned =
          ap (chosen_step image m p)
          (chooses ∙ ap (λ t. if t then interrupt_or_next (next_vector (s.apics p)) else Choice.Next) opened ∙ ap interrupt_or_next is)
          ∙ ap (λ (q : abstract.Processor × List Entry). (with_processor m p q.0, q.1)) delivers

      first_is : next_of c (s.apics p) (s.latches p) ≡ Next.Interrupt v
      first_is = vector_first c (s.apics p) (s.latches p) (step.latch mode image built good facts left s m h p hp) unblocked (masked ∙ opened)
          ∙ ap interrupt_or_instruction is

      numbers : HoldsNumbers (with_processor m p z)
      numbers =
          let was = h.numbers.each p in
          subst (λ (q : abstract.Processor × List Entry). HoldsNumbers (with_processor m p q.0)) delivers
          (put_numbers m p (delivered image p (record x { pending = set }) event).0 h.numbers
          (delivered_words image p (record x { pending = set }) event (causes_small (Arrived v) (comes.from, comes.to))
          (record { bodies = was.bodies; slots = was.slots; arguments = was.arguments; queue = was.queue })))

      pub interrupt_step : Simulated mode image left s m p
      unfolding step is_visible
      interrupt_step = turns.comes_step mode image built good facts left s m h p hp c.rip on_it event found.0 (record {
        event = interrupt_is v comes.from comes.to;
        found = found.1;
        canonical = canonical;
        at = at_item;
        steps = (begun (s.apics p) v, ap (step_by c (s.apics p) s.memory (s.latches p)) first_is);
        seen = ap (is_visible_by (marks_of mode image) s p c) first_is;
        outer = ap (starts_inner s p) first_is;
        set = set;
        apic_is = begun_is mode image (s.apics p) x.pending (b ∷ below) v entered (subst (ApicIs mode image (s.apics p) x.pending) hb on.apic) comes.to refl
            (subst (λ bs. list_all (λ (d : BodyContext). outranks v d.service) bs ≡ true) hb (and_right (x.pending v) _ greatest.1));
        machine = with_processor m p z;
        own = at_same m.processors p p z refl;
        others = λ q d. at_other m.processors p q z d;
        words = refl;
        present = refl;
        cells = refl;
        turns = turned;
        numbers = numbers;
      })

    -- ---- the boundary

    -- an interrupt comes, or an instruction of the processor and, unless STI holds interrupts back, the item
    pub data Boundary : Type 0 where
      Delivers : Simulated mode image left s m p → Boundary
      Executes : next_of c (s.apics p) (s.latches p) ≡ Next.Instruction
          → (step.Unblocked mode image built good facts left s m h p hp b → choice image x ≡ Choice.Next) → Boundary

    pub boundary : Boundary
    boundary = by_if b.interrupts refl c.sti_blocked refl (next_vector (s.apics p)) refl
      where
        no_latch : s.latches p ≡ false
        no_latch = step.latch mode image built good facts left s m h p hp

        by_if : (t : Bool) → b.interrupts ≡ t → (q : Bool) → c.sti_blocked ≡ q → (o : Option ℕ) → next_vector (s.apics p) ≡ o → Boundary
        by_if false off q blocked o is = Executes (masked_first c (s.apics p) (s.latches p) no_latch (masked ∙ off))
            (λ unblocked. chooses ∙ ap (λ t. if t then interrupt_or_next (next_vector (s.apics p)) else Choice.Next) off)
        by_if true opened true blocked o is = Executes
            (open_first c (s.apics p) (s.latches p) no_latch
            ∙ ap (λ t. if interrupts_on c && not t then interrupt_or_instruction (next_vector (s.apics p)) else Next.Instruction) blocked
            ∙ ap (λ t. if t && false then interrupt_or_instruction (next_vector (s.apics p)) else Next.Instruction) (masked ∙ opened))
            (λ unblocked. let clash : true ≡ false = sym blocked ∙ unblocked opened in absurd (cc))
        by_if true opened false unblocked None none = Executes
            (vector_first c (s.apics p) (s.latches p) no_latch unblocked (masked ∙ opened) ∙ ap interrupt_or_instruction none)
            (λ same. chooses ∙ ap (λ t. if t then interrupt_or_next (next_vector (s.apics p)) else Choice.Next) opened ∙ ap interrupt_or_next none)
        by_if true opened false unblocked (Some v) is = Delivers (interrupt_step opened unblocked v is)
