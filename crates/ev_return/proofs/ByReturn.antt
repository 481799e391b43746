-- What the returns come to.
use Rattle.std.proofs.Common.{◌≡◌, ℕ, ◌+◌, ◌/◌, ◌%◌, ◌^◌, true, false, ◌&&◌, List, [], ◌∷◌, get_or, set, map, None, refl, sym, ap, ◌∙◌, arith}
use Rattle.std.specs.Prelude.{◌==◌, nat_le, if◌then◌else◌}
use Rattle.ev_isa.specs.Word.{wrap, is_canonical}
use Rattle.ev_isa.specs.Flags.{modelled}
use Rattle.ev_isa.specs.declared.instruction.Ins.TheVariants.{Sysretq, Iretq, Eretu, Erets}
use Rattle.ev_event.specs.Event.{ss as ss_event, gp, ud}
use Rattle.ev_effect.specs.Frame.{addresses, or_else, first_event}
use Rattle.ev_state.specs.Processor.{Processor, is_user, rsp, register, selector, gs_exchanged}
use Rattle.ev_state.specs.Outcome.{Went, Met}
use Rattle.ev_mem.specs.Memory.{Memory, view}
use Rattle.ev_exec.specs.Exec.{Special, exec}
use Rattle.ev_idt.specs.IdtDelivery.{is_return, returned, iret_words, iret_after, iretq, sysretq}
use Rattle.ev_fred.specs.FredDelivery.{fred_returned, eretu_words, erets_words, frame_read, return_addresses, eretu, erets}
use Rattle.ev_proc.specs.ProcessorStep.{has_fred, ran, fault, special, after_return}
use Rattle.ev_symbolic.specs.Value.{M, V, P}
use Rattle.ev_symbolic.specs.State.{SS, Win, Ground, Block}
use Rattle.ev_symbolic.specs.Agrees.{Env, eval, untracked, Known, Open, Agrees}
use Rattle.ev_symbolic.specs.Openings.{at_base, words_from}
use Rattle.ev_symbolic.proofs.Words.{accessible}
use Rattle.ev_symbolic.proofs.Sound.{executes}
use Rattle.ev_symbolic.proofs.Blocks.{all_found}
use Rattle.ev_blocks.specs.Shapes.{registers_of}
use Rattle.ev_paths.specs.Ends.{Returns}
use Rattle.ev_return.specs.Returns.{LeadsBack, Restores, IretWords, IretReturns, IretReturnsByWords, SysretReturns, EretuWords, EretsWords, blocked_after, EretuReturns, EretsReturns}

-- ---- five words one behind the other

step : (b o : ℕ) → wrap ((b + o) % M + 8) ≡ (b + (o + 8)) % M
step b o = omega arith

module _ (env : Env) (K : List Win) (m : Memory) (t o : ℕ) (v1 v2 v3 v4 v5 : V) (open_words : Open env K m.regions)
    (known : Known env K m.words (words_from t o (v1 ∷ v2 ∷ v3 ∷ v4 ∷ v5 ∷ []))) (s : ℕ) (at : s ≡ (env.base t + o) % M) where
  abbrev places : List ℕ
  places =
      (env.base t + o) % M ∷ (env.base t + (o + 8)) % M ∷ (env.base t + ((o + 8) + 8)) % M ∷ (env.base t + (((o + 8) + 8) + 8)) % M
      ∷ (env.base t + ((((o + 8) + 8) + 8) + 8)) % M ∷ []

  places_are : addresses s 5 ≡ places
  places_are =
      ap (λ a. addresses a 5) at
      ∙ ap (λ a. (env.base t + o) % M ∷ addresses a 4) (step (env.base t) o)
      ∙ ap (λ a. (env.base t + o) % M ∷ (env.base t + (o + 8)) % M ∷ addresses a 3) (step (env.base t) (o + 8))
      ∙ ap (λ a. (env.base t + o) % M ∷ (env.base t + (o + 8)) % M ∷ (env.base t + ((o + 8) + 8)) % M ∷ addresses a 2) (step (env.base t) ((o + 8) + 8))
      ∙ ap (λ a. (env.base t + o) % M ∷ (env.base t + (o + 8)) % M ∷ (env.base t + ((o + 8) + 8)) % M ∷ (env.base t + (((o + 8) + 8) + 8)) % M ∷ a ∷ [])
      (step (env.base t) (((o + 8) + 8) + 8))

  abbrev readable_at : ℕ → List ℕ → Type 0
  readable_at a rest = first_event (view m false) false (a ∷ rest) ≡ first_event (view m false) false rest

  five_read : first_event (view m false) false (addresses s 5) ≡ None
  five_read =
      ap (first_event (view m false) false) places_are
      ∙ ap (λ x. or_else x (first_event (view m false) false ((env.base t + (o + 8)) % M ∷ (env.base t + ((o + 8) + 8)) % M
      ∷ (env.base t + (((o + 8) + 8) + 8)) % M ∷ (env.base t + ((((o + 8) + 8) + 8) + 8)) % M ∷ [])))
      (accessible m false refl false (ss_event 0) _ (open_words (at_base t o) known.0))
      ∙ ap (λ x. or_else x (first_event (view m false) false ((env.base t + ((o + 8) + 8)) % M
      ∷ (env.base t + (((o + 8) + 8) + 8)) % M ∷ (env.base t + ((((o + 8) + 8) + 8) + 8)) % M ∷ [])))
      (accessible m false refl false (ss_event 0) _ (open_words (at_base t (o + 8)) known.2.0))
      ∙ ap (λ x. or_else x (first_event (view m false) false ((env.base t + (((o + 8) + 8) + 8)) % M ∷ (env.base t + ((((o + 8) + 8) + 8) + 8)) % M ∷ [])))
      (accessible m false refl false (ss_event 0) _ (open_words (at_base t ((o + 8) + 8)) known.2.2.0))
      ∙ ap (λ x. or_else x (first_event (view m false) false ((env.base t + ((((o + 8) + 8) + 8) + 8)) % M ∷ [])))
      (accessible m false refl false (ss_event 0) _ (open_words (at_base t (((o + 8) + 8) + 8)) known.2.2.2.0))
      ∙ ap (λ x. or_else x None) (accessible m false refl false (ss_event 0) _ (open_words (at_base t ((((o + 8) + 8) + 8) + 8)) known.2.2.2.2.0))

  five_words : map m.words (addresses s 5) ≡ eval env v1 ∷ eval env v2 ∷ eval env v3 ∷ eval env v4 ∷ eval env v5 ∷ []
  five_words =
      ap (map m.words) places_are
      ∙ (λ i. known.1 i ∷ known.2.1 i ∷ known.2.2.1 i ∷ known.2.2.2.1 i ∷ known.2.2.2.2.1 i ∷ [])

-- ---- a processor, by all that a symbolic state tells of it and by the rest

whole : (d w : Processor) → untracked d ≡ untracked w → d.regs ≡ w.regs → d.rip ≡ w.rip → d.flags ≡ w.flags → d.gs ≡ w.gs
    → d.sti_blocked ≡ w.sti_blocked → d.msrs.gs_base ≡ w.msrs.gs_base → d.msrs.kernel_gs_base ≡ w.msrs.kernel_gs_base → d.msrs.rsp ≡ w.msrs.rsp
    → d ≡ record w { cr2 = d.cr2; nmi_blocked = d.nmi_blocked }
whole d w hu regs rip flags gs sti base kernel rsp = λ i. record (hu i) {
  regs = regs i;
  rip = rip i;
  flags = flags i;
  cr2 = d.cr2;
  gs = gs i;
  nmi_blocked = d.nmi_blocked;
  sti_blocked = sti i;
  msrs = record ((hu i).msrs) { gs_base = base i; kernel_gs_base = kernel i; rsp = rsp i };
}

-- the registers of an exit's end with another RSP
set_rsp : (env : Env) (area : ℕ → V) (r sp : V) → set (map (eval env) (registers_of area r)) 4 (eval env sp) ≡ map (eval env) (registers_of area sp)
set_rsp env area r sp = refl

module _ (env : Env) (G : Ground) (z : SS) (c : Processor) (m : Memory) (w : Processor) (area : ℕ → V) (r base other chosen level : V)
    (regs : z.regs ≡ registers_of area r) (gs : z.gs ≡ base) (kernel_gs : z.kernel_gs ≡ other) (select : z.selector ≡ chosen) (rsp0 : z.rsp0 ≡ level)
    (g : Agrees env G z c m) (kernel : is_user env.rest ≡ false) where
  regs_are : c.regs ≡ map (eval env) (registers_of area r)
  regs_are = g.regs ∙ ap (map (eval env)) regs

  user_is : is_user c ≡ false
  user_is = ap is_user g.rest ∙ kernel

  levels_are : c.msrs.rsp ≡ eval env level ∷ env.rest.msrs.rsp
  levels_are = g.levels ∙ ap (λ x. eval env x ∷ env.rest.msrs.rsp) rsp0

  -- ---- IRETQ

  iret_back : (rip cs flags sp ss : V) → first_event (view m false) false (addresses (rsp c) 5) ≡ None
      → map m.words (addresses (rsp c) 5) ≡ eval env rip ∷ eval env cs ∷ eval env flags ∷ eval env sp ∷ eval env ss ∷ []
      → Restores env w (registers_of area sp) rip flags base other chosen level → IretWords env w cs ss → LeadsBack c m Iretq w false
  unfolding exec special iretq
  iret_back rip cs flags sp ss reads words q i a nmi =
      let b : Processor = record c { nmi_blocked = false } in
      let d : Processor = returned b (eval env rip) (selector (eval env cs)) (eval env flags) (eval env sp) (selector (eval env ss)) in
      let taken : is_canonical (eval env rip) && is_return (selector (eval env cs)) (selector (eval env ss)) ≡ true =
      ap (λ x. is_canonical x && is_return (selector (eval env cs)) (selector (eval env ss))) q.rip_is
      ∙ ap (λ t. t && is_return (selector (eval env cs)) (selector (eval env ss))) q.canonical
      ∙ ap (λ x. is_return x (selector (eval env ss))) i.cs_is ∙ ap (is_return w.cs) i.ss_is ∙ i.taken in
      let ring : (if selector (eval env cs) == 0x33 then 3 else 0) ≡ w.cpl = ap (λ x. if x == 0x33 then 3 else 0) i.cs_is ∙ sym i.ring in
      let rest : untracked d ≡ untracked w =
      (λ j. record (g.rest j) { cpl = ring j; cs = i.cs_is j; ss = i.ss_is j }) ∙ i.rest in
      let same : d ≡ record w { cr2 = c.cr2; nmi_blocked = false } =
      whole d w rest (ap (λ xs. set xs 4 (eval env sp)) regs_are ∙ q.regs_are) q.rip_is q.flags_are
      (g.selector ∙ ap (eval env) select ∙ q.chosen_is) (sym i.unblocked) (g.gs ∙ ap (eval env) gs ∙ q.base_is)
      (g.kernel_gs ∙ ap (eval env) kernel_gs ∙ q.other_is) (levels_are ∙ q.levels_are) in
      executes c m Iretq (c.rip + _) Special user_is refl refl a nmi
      ∙ ap (λ e. after_return a m nmi (iret_after b m.words (addresses (rsp c) 5) e)) reads
      ∙ ap (λ ws. after_return a m nmi (iret_words b m.words ws)) words
      ∙ ap (λ t. after_return a m nmi (if t then Went d m.words 0 else Met b (gp 0))) taken
      ∙ ap (λ x. ran x a m.words nmi) same

  -- ---- SYSRETQ

  sysret_back : has_fred env.rest ≡ false → (sp : V) → r ≡ sp → Restores env w (registers_of area sp) (area 1) (area 11) base other chosen level
      → w.sti_blocked ≡ false → record env.rest { cpl = 3; cs = 0x33; ss = 0x2b } ≡ untracked w → LeadsBack c m Sysretq w c.nmi_blocked
  unfolding exec special sysretq
  sysret_back fred sp same_sp q sti rest a nmi =
      let rcx : register c 1 ≡ eval env (area 1) = ap (λ xs. get_or xs 1 0) regs_are in
      let r11 : register c 11 ≡ eval env (area 11) = ap (λ xs. get_or xs 11 0) regs_are in
      let d : Processor = record c { rip = register c 1; flags = modelled (register c 11); cs = 0x33; ss = 0x2b; cpl = 3; sti_blocked = false } in
      let canonical : is_canonical (register c 1) ≡ true = ap is_canonical (rcx ∙ q.rip_is) ∙ q.canonical in
      let rest_is : untracked d ≡ untracked w = (λ j. record (g.rest j) { cpl = 3; cs = 0x33; ss = 0x2b }) ∙ rest in
      let same : d ≡ record w { cr2 = c.cr2; nmi_blocked = c.nmi_blocked } =
      whole d w rest_is (regs_are ∙ ap (λ x. map (eval env) (registers_of area x)) same_sp ∙ q.regs_are) (rcx ∙ q.rip_is) (ap modelled r11 ∙ q.flags_are)
      (g.selector ∙ ap (eval env) select ∙ q.chosen_is) (sym sti) (g.gs ∙ ap (eval env) gs ∙ q.base_is)
      (g.kernel_gs ∙ ap (eval env) kernel_gs ∙ q.other_is) (levels_are ∙ q.levels_are) in
      executes c m Sysretq (c.rip + _) Special user_is refl refl a nmi
      ∙ ap (λ t. if t then fault c a m nmi ud else after_return a m nmi (sysretq c m.words)) (ap has_fred g.rest ∙ fred)
      ∙ ap (λ t. after_return a m nmi (if t then Went d m.words 0 else Met c (gp 0))) canonical
      ∙ ap (λ x. ran x a m.words nmi) same

  -- ---- ERETU and ERETS, by the five words

  eretu_back : has_fred env.rest ≡ true → (rip cs flags sp ss : V) → first_event (view m false) false (return_addresses c) ≡ None
      → map m.words (return_addresses c) ≡ eval env rip ∷ eval env cs ∷ eval env flags ∷ eval env sp ∷ eval env ss ∷ []
      → Restores env w (registers_of area sp) rip flags other base chosen level → EretuWords env w cs ss
      → LeadsBack c m Eretu w (blocked_after c (eval env ss))
  unfolding exec special eretu
  eretu_back fred rip cs flags sp ss reads words q i a nmi =
      let d : Processor =
      record (gs_exchanged (fred_returned c (eval env rip) (eval env flags) (eval env sp) (eval env ss))) { cs = 0x33; ss = 0x2b; cpl = 3 } in
      let taken : (c.level == 0) && is_canonical (eval env rip) && (selector (eval env cs) == 0x33) && (selector (eval env ss) == 0x2b) ≡ true =
      ap (λ (y : Processor). (y.level == 0) && is_canonical (eval env rip) && (selector (eval env cs) == 0x33) && (selector (eval env ss) == 0x2b)) g.rest
      ∙ ap (λ x. (x == 0) && is_canonical (eval env rip) && (selector (eval env cs) == 0x33) && (selector (eval env ss) == 0x2b)) i.level
      ∙ ap (λ x. is_canonical x && (selector (eval env cs) == 0x33) && (selector (eval env ss) == 0x2b)) q.rip_is
      ∙ ap (λ t. t && (selector (eval env cs) == 0x33) && (selector (eval env ss) == 0x2b)) q.canonical
      ∙ ap (λ x. (x == 0x33) && (selector (eval env ss) == 0x2b)) i.cs_is ∙ ap (λ x. x == 0x2b) i.ss_is in
      let rest : untracked d ≡ untracked w = (λ j. record (g.rest j) { cpl = 3; cs = 0x33; ss = 0x2b }) ∙ i.rest in
      let same : d ≡ record w { cr2 = c.cr2; nmi_blocked = blocked_after c (eval env ss) } =
      whole d w rest (ap (λ xs. set xs 4 (eval env sp)) regs_are ∙ q.regs_are) q.rip_is q.flags_are
      (g.selector ∙ ap (eval env) select ∙ q.chosen_is) i.blocked (g.kernel_gs ∙ ap (eval env) kernel_gs ∙ q.base_is)
      (g.gs ∙ ap (eval env) gs ∙ q.other_is) (levels_are ∙ q.levels_are) in
      executes c m Eretu (c.rip + _) Special user_is refl refl a nmi
      ∙ ap (λ t. if t then after_return a m nmi (eretu c m) else fault c a m nmi ud) (ap has_fred g.rest ∙ fred)
      ∙ ap (λ e. after_return a m nmi (frame_read c (eretu_words c m.words) m.words (return_addresses c) e)) reads
      ∙ ap (λ ws. after_return a m nmi (eretu_words c m.words ws)) words
      ∙ ap (λ t. after_return a m nmi (if t then Went d m.words 0 else Met c (gp 0))) taken
      ∙ ap (λ x. ran x a m.words nmi) same

  erets_back : has_fred env.rest ≡ true → (rip cs flags sp ss : V) → first_event (view m false) false (return_addresses c) ≡ None
      → map m.words (return_addresses c) ≡ eval env rip ∷ eval env cs ∷ eval env flags ∷ eval env sp ∷ eval env ss ∷ []
      → Restores env w (registers_of area sp) rip flags base other chosen level → EretsWords env w cs ss
      → LeadsBack c m Erets w (blocked_after c (eval env ss))
  unfolding exec special erets
  erets_back fred rip cs flags sp ss reads words q i a nmi =
      let d : Processor = record (fred_returned c (eval env rip) (eval env flags) (eval env sp) (eval env ss)) { level = eval env cs / 2 ^ 16 % 4 } in
      let taken : nat_le (eval env cs / 2 ^ 16 % 4) c.level && is_canonical (eval env rip) && (selector (eval env cs) == 0x10) ≡ true =
      ap (λ (y : Processor). nat_le (eval env cs / 2 ^ 16 % 4) y.level && is_canonical (eval env rip) && (selector (eval env cs) == 0x10)) g.rest
      ∙ ap (λ x. nat_le x env.rest.level && is_canonical (eval env rip) && (selector (eval env cs) == 0x10)) i.level_is
      ∙ ap (λ t. t && is_canonical (eval env rip) && (selector (eval env cs) == 0x10)) i.lower
      ∙ ap (λ x. is_canonical x && (selector (eval env cs) == 0x10)) q.rip_is ∙ ap (λ t. t && (selector (eval env cs) == 0x10)) q.canonical
      ∙ ap (λ x. x == 0x10) i.cs_is in
      let rest : untracked d ≡ untracked w = (λ j. record (g.rest j) { level = i.level_is j }) ∙ i.rest in
      let same : d ≡ record w { cr2 = c.cr2; nmi_blocked = blocked_after c (eval env ss) } =
      whole d w rest (ap (λ xs. set xs 4 (eval env sp)) regs_are ∙ q.regs_are) q.rip_is q.flags_are
      (g.selector ∙ ap (eval env) select ∙ q.chosen_is) i.blocked (g.gs ∙ ap (eval env) gs ∙ q.base_is)
      (g.kernel_gs ∙ ap (eval env) kernel_gs ∙ q.other_is) (levels_are ∙ q.levels_are) in
      executes c m Erets (c.rip + _) Special user_is refl refl a nmi
      ∙ ap (λ t. if t then after_return a m nmi (erets c m) else fault c a m nmi ud) (ap has_fred g.rest ∙ fred)
      ∙ ap (λ e. after_return a m nmi (frame_read c (erets_words c m.words) m.words (return_addresses c) e)) reads
      ∙ ap (λ ws. after_return a m nmi (erets_words c m.words ws)) words
      ∙ ap (λ t. after_return a m nmi (if t then Went d m.words 0 else Met c (gp 0))) taken
      ∙ ap (λ x. ran x a m.words nmi) same

-- ---- with the words that a block knows

known_frame : (env : Env) (G : Ground) (b : Block) (z : SS) (place : ℕ) (c : Processor) (m : Memory) (regs : List V) (base other chosen level : V)
    (t o : ℕ) (rip cs flags sp ss : V) → Returns b z place regs base other chosen level (words_from t o (rip ∷ cs ∷ flags ∷ sp ∷ ss ∷ []))
    → Agrees env G z c m → Known env G.known m.words (words_from t o (rip ∷ cs ∷ flags ∷ sp ∷ ss ∷ []))
known_frame env G b z place c m regs base other chosen level t o rip cs flags sp ss x g =
    all_found env G.known m.words z.words g.words (words_from t o (rip ∷ cs ∷ flags ∷ sp ∷ ss ∷ [])) x.words

-- RSP at an exit's end
rsp_is : (env : Env) (G : Ground) (z : SS) (c : Processor) (m : Memory) (area : ℕ → V) (t o : ℕ) → z.regs ≡ registers_of area (P t o)
    → Agrees env G z c m → rsp c ≡ (env.base t + o) % M
unfolding eval
rsp_is env G z c m area t o h g = ap (λ xs. get_or xs 4 0) (g.regs ∙ ap (map (eval env)) h)

pub iret_returns : IretReturns
iret_returns env G b z place c m w area t o rip cs flags sp ss base other chosen level x g k q i =
    let known = known_frame env G b z place c m (registers_of area (P t o)) base other chosen level t o rip cs flags sp ss x g in
    let at = rsp_is env G z c m area t o x.regs g in
    iret_back env G z c m w area (P t o) base other chosen level x.regs x.gs x.kernel_gs x.selector x.rsp0 g k rip cs flags sp ss
    (five_read env G.known m t o rip cs flags sp ss g.known_open known (rsp c) at)
    (five_words env G.known m t o rip cs flags sp ss g.known_open known (rsp c) at) q i

pub iret_returns_by_words : IretReturnsByWords
iret_returns_by_words env G z c m w area r base other chosen level rip cs flags sp ss regs gs kernel_gs select rsp0 g k reads words q i =
    iret_back env G z c m w area r base other chosen level regs gs kernel_gs select rsp0 g k rip cs flags sp ss reads words q i

pub sysret_returns : SysretReturns
sysret_returns env G b z place c m w area sp base other chosen level frame x g k fred q sti rest =
    sysret_back env G z c m w area sp base other chosen level x.regs x.gs x.kernel_gs x.selector x.rsp0 g k fred sp refl q sti rest

pub eretu_returns : EretuReturns
eretu_returns env G b z place c m w area t o rip cs flags sp ss base other chosen level x g k fred q i =
    let known = known_frame env G b z place c m (registers_of area (P t o)) base other chosen level t (o + 8) rip cs flags sp ss x g in
    let at : wrap (rsp c + 8) ≡ (env.base t + (o + 8)) % M = ap (λ y. wrap (y + 8)) (rsp_is env G z c m area t o x.regs g) ∙ step (env.base t) o in
    eretu_back env G z c m w area (P t o) base other chosen level x.regs x.gs x.kernel_gs x.selector x.rsp0 g k fred rip cs flags sp ss
    (five_read env G.known m t (o + 8) rip cs flags sp ss g.known_open known (wrap (rsp c + 8)) at)
    (five_words env G.known m t (o + 8) rip cs flags sp ss g.known_open known (wrap (rsp c + 8)) at) q i

pub erets_returns : EretsReturns
erets_returns env G b z place c m w area t o rip cs flags sp ss base other chosen level x g k fred q i =
    let known = known_frame env G b z place c m (registers_of area (P t o)) base other chosen level t (o + 8) rip cs flags sp ss x g in
    let at : wrap (rsp c + 8) ≡ (env.base t + (o + 8)) % M = ap (λ y. wrap (y + 8)) (rsp_is env G z c m area t o x.regs g) ∙ step (env.base t) o in
    erets_back env G z c m w area (P t o) base other chosen level x.regs x.gs x.kernel_gs x.selector x.rsp0 g k fred rip cs flags sp ss
    (five_read env G.known m t (o + 8) rip cs flags sp ss g.known_open known (wrap (rsp c + 8)) at)
    (five_words env G.known m t (o + 8) rip cs flags sp ss g.known_open known (wrap (rsp c + 8)) at) q i
