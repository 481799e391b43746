-- The return of an activation to the task: ERETU, SYSRETQ and IRETQ give exactly the processor that the activation stands over.
use Rattle.std.proofs.Common.{◌≡◌, inl, inr, ℕ, ◌+◌, ◌-◌, ◌%◌, ◌<◌, true, false, not, ◌&&◌, List, [], ◌∷◌, drop, map, length, Some, refl, sym, ap, ◌∙◌, subst, arith}
use Rattle.std.specs.Prelude.{◌==◌, nat_le, nat_lt, if◌then◌else◌}
use Rattle.ev_isa.specs.Word.{NatMap, bit, is_canonical}
use Rattle.ev_isa.specs.Flags.{Flags, modelled}
use Rattle.ev_isa.specs.Spelling.{spelling, four_bytes}
use Rattle.ev_isa.specs.declared.instruction.Ins.{Ins}
use Rattle.ev_isa.specs.declared.instruction.Ins.TheVariants.{Sysretq, Iretq, Eretu, Erets}
use Rattle.ev_isa.specs.declared.mode.Mode.{Mode}
use Rattle.ev_isa.specs.declared.mode.Mode.TheVariants.{Idt, Fred}
use Rattle.ev_body.specs.declared.image.Image.{Image}
use Rattle.ev_effect.specs.Task.{Task}
use Rattle.ev_asm.specs.Assembly.{size, places, distance}
use Rattle.ev_listing.specs.FredCode.{fred_listings}
use Rattle.ev_listing.specs.AddressMap.{pcpu, nmi_entry, repeat_entry, nlast_entry}
use Rattle.ev_state.specs.Processor.{Processor}
use Rattle.ev_state.proofs.FlagLaws.{kept}
use Rattle.ev_mem.specs.Memory.{Memory}
use Rattle.ev_proc.specs.ProcessorStep.{has_fred}
use Rattle.std.proofs.lemmas.Bool.{le-leb}
use Rattle.ev_listing.specs.Marks.{Always}
use Rattle.ev_abstract.specs.Context.{BodyContext}
use Rattle.ev_concrete.specs.ConcreteRun.{is_return}
use Rattle.ev_concrete.specs.Shown.{shown_always}
use Rattle.ev_idt.specs.IdtDelivery as idt_delivery
use Rattle.ev_symbolic.specs.Value.{M, V, K, P}
use Rattle.ev_symbolic.specs.State.{Loc, Word, SS, Block, top_tag, find}
use Rattle.ev_symbolic.specs.Run.{brun}
use Rattle.ev_symbolic.specs.Openings.{gs_tag, gs_word, words_from}
use Rattle.ev_symbolic.specs.Names.{next_top_tag, frame_rip, frame_cs, frame_flags, frame_rsp, frame_ss, saved, next_rip, next_cs, next_flags, next_rsp, next_ss, next_gs, next_selector, next_saved, other_gs, gs_selector, level_rsp}
use Rattle.ev_symbolic.specs.Agrees.{Env, Code, untracked, eval, addr, Agrees, At}
use Rattle.ev_symbolic.proofs.Blocks.{at_end, levels_split}
use Rattle.ev_symbolic.proofs.Words.{Found, found_ok}
use Rattle.ev_blocks.specs.Shapes.{registers_of, interrupted_words, IdtFrame}
use Rattle.ev_blocks.specs.Fred.{FredToKernel, FredToTask, FredToNext, fred_lines, fred_block, eretu_place, erets_place}
use Rattle.ev_blocks.specs.Fred as fred
use Rattle.ev_blocks.specs.Idt.{IdtReturn, BySysret, ByOtherRip, ByOtherFlags, IdtToKernel, IdtToTask, IdtToNext, idt_places, exit_lines, idt_block, next_interrupted, sysretq_place, iretq_place}
use Rattle.ev_blocks.specs.Idt as idt
use Rattle.ev_paths.specs.Ends.{Returns}
use Rattle.ev_paths.specs.FredEnds.{fred_end}
use Rattle.ev_paths.specs.IdtEnds.{idt_end}
use Rattle.ev_paths.specs.Lines.{HasKernel}
use Rattle.ev_paths.proofs.Cells.{fred_cells, idt_cells}
use Rattle.ev_paths.proofs.FredEnds.{fred_returns}
use Rattle.ev_paths.proofs.IdtEnds.{idt_returns}
use Rattle.ev_return.specs.Returns.{LeadsBack, Restores, IretWords, EretuWords, EretsWords}
use Rattle.ev_return.proofs.ByReturn.{iret_returns, sysret_returns, eretu_returns, erets_returns}
use Rattle.ev_activation.specs.Seat.{Kind, Seat}
use Rattle.ev_user.specs.Tasks.{RunsTask}
use Rattle.ev_body_steps.proofs.Bodies.{at_code}
use Rattle.ev_relation.specs.Active.{IsKernelSs, GivesBack, Saved, SavedBody, Matches, ToNext, here, level_in}
use Rattle.ev_relation.proofs.Switch.{NamesTasks}

-- the processor c stands at a visible return that is no NMI's, and that leads back to w
pub record Exits (code : Code) (c : Processor) (m : Memory) (w : Processor) : Type 0 where
  pub ins : Ins
  pub next : ℕ
  pub place : ℕ
  pub rip : c.rip ≡ place
  pub cell : code place ≡ Some (record { ins = ins; next = next; mark = Always })
  pub is : is_return (Some ins) ≡ true
  pub outside : (nat_le nmi_entry place && nat_lt place repeat_entry) ≡ false
  pub unlike : (place == nlast_entry + 12) ≡ false
  pub silent : (p depth : ℕ) (d : Processor) (words : NatMap ℕ) → shown_always p depth d words (Some ins) ≡ []
  pub back : LeadsBack c m ins w false

-- to a task, which the values of a saved area, a frame, a GS base, a selector and RSP of level 0 give back
module _ (image : Image) (mode : Mode) (p : ℕ) (hp : p < 32) (κ : Kind) (σ : Seat) (q : ℕ) (t : Task) (w : Processor) (r : RunsTask mode image p q t w)
    (level : level_in mode κ w ≡ w.level) (kss : ℕ) (extra v : ℕ → ℕ) (f : Flags) (area : ℕ → V) (rip cs flags sp ss gs chosen top : V) where
  abbrev e : Env
  e = here mode p κ σ kss w extra v f

  module _ (saved_is : GivesBack mode image (λ n. eval e (area n)) (eval e rip) (eval e cs) (eval e flags) (eval e sp) (eval e ss) (eval e gs) (eval e chosen)
      (eval e top) w) where
    -- at the task's privilege the rest is the task's
    rest : record e.rest { cpl = 3; cs = 0x33; ss = 0x2b } ≡ untracked w
    rest =
        let s : w ≡ _ = r.is in
        let h_cpl : 3 ≡ w.cpl = sym (ap (λ (y : Processor). y.cpl) s) in
        let h_cs : 0x33 ≡ w.cs = sym (ap (λ (y : Processor). y.cs) s) in
        let h_ss : 0x2b ≡ w.ss = sym (ap (λ (y : Processor). y.ss) s) in
        λ i. record (untracked w) { cpl = h_cpl i; cs = h_cs i; ss = h_ss i; level = level i }

    kernel_gs : eval e (P gs_tag 0) ≡ w.msrs.kernel_gs_base
    unfolding eval
    kernel_gs = (let h : (pcpu p + 0) % M ≡ pcpu p = omega arith in h) ∙ sym (ap (λ (y : Processor). y.msrs.kernel_gs_base) r.is)

    restores_with : (at word : V) → eval e at ≡ w.rip → eval e word ≡ w.flags → Restores e w (registers_of area sp) at word gs (P gs_tag 0) chosen top
    restores_with at word hi hf = record {
      regs_are = sym saved_is.regs;
      rip_is = hi;
      canonical = ap is_canonical (ap (λ (y : Processor). y.rip) r.is) ∙ r.task.canonical;
      flags_are = ap modelled hf ∙ sym (kept w.flags t.flags (ap (λ (y : Processor). y.flags) r.is));
      base_is = saved_is.gs;
      other_is = kernel_gs;
      chosen_is = saved_is.chosen;
      levels_are = ap (λ n. n ∷ drop 1 w.msrs.rsp) saved_is.level ∙ sym (levels_split w.msrs.rsp (ap (λ (y : Processor). length y.msrs.rsp) r.is));
    }

    unblocked : w.sti_blocked ≡ false
    unblocked = ap (λ (y : Processor). y.sti_blocked) r.is

    iret_words : IretWords e w cs ss
    iret_words = record {
      cs_is = saved_is.cs;
      ss_is = saved_is.ss;
      taken = ap (λ (y : Processor). idt_delivery.is_return y.cs y.ss) r.is;
      ring = ap (λ (y : Processor). y.cpl) r.is ∙ sym (ap (λ (y : Processor). if y.cs == 0x33 then 3 else 0) r.is);
      unblocked = unblocked;
      rest = (λ i. record (e.rest) {
        cpl = ap (λ (y : Processor). y.cpl) r.is i;
        cs = ap (λ (y : Processor). y.cs) r.is i;
        ss = ap (λ (y : Processor). y.ss) r.is i;
      }) ∙ rest;
    }

    eretu_words : EretuWords e w cs ss
    eretu_words = record {
      cs_is = saved_is.cs ∙ ap (λ (y : Processor). y.cs) r.is;
      ss_is = saved_is.ss ∙ ap (λ (y : Processor). y.ss) r.is;
      level = level ∙ ap (λ (y : Processor). y.level) r.is;
      blocked = saved_is.sti;
      rest = rest;
    }

    -- ---- by each return, from the end of a block

    module _ (code : Code) (c : Processor) (m : Memory) (open_to : c.nmi_blocked ≡ false) (b : Block) (z : SS) (at : At code b b.steps e c m) where
      pub by_eretu : HasKernel Fred code → has_fred w ≡ true → (n o : ℕ)
          → Returns b z eretu_place (registers_of area (P n o)) (P gs_tag 0) gs chosen top (words_from n (o + 8) (rip ∷ cs ∷ flags ∷ sp ∷ ss ∷ []))
          → Exits code c m w
      unfolding is_return shown_always
      by_eretu k fred_on n o x =
          let a : Agrees e b.ground z c m = at_end code b b.steps z x.runs e c m at in
          let back = eretu_returns e b.ground b z eretu_place c m w area n o rip cs flags sp ss (P gs_tag 0) gs chosen top x a refl fred_on
          (restores_with rip flags saved_is.rip saved_is.flags) eretu_words in
          record {
            ins = Eretu;
            next = eretu_place + 4;
            place = eretu_place;
            rip = a.rip ∙ ap (addr e) x.rip ∙ at_code e eretu_place refl refl;
            cell = (fred_cells code k).eretu;
            is = refl;
            outside = refl;
            unlike = refl;
            silent = λ n depth d words. refl;
            back = subst (λ b. LeadsBack c m Eretu w (b && not (bit 18 (eval e ss)))) open_to back;
          }

      pub by_sysretq : HasKernel Idt code → has_fred w ≡ false → eval e (area 1) ≡ eval e rip → eval e (area 11) ≡ eval e flags → (frame : List Word)
          → Returns b z sysretq_place (registers_of area sp) gs (P gs_tag 0) chosen top frame → Exits code c m w
      unfolding is_return shown_always
      by_sysretq k fred_off same_rip same_flags frame x =
          let a : Agrees e b.ground z c m = at_end code b b.steps z x.runs e c m at in
          let back = sysret_returns e b.ground b z sysretq_place c m w area sp gs (P gs_tag 0) chosen top frame x a refl fred_off
          (restores_with (area 1) (area 11) (same_rip ∙ saved_is.rip) (same_flags ∙ saved_is.flags)) unblocked rest in
          record {
            ins = Sysretq;
            next = sysretq_place + 3;
            place = sysretq_place;
            rip = a.rip ∙ ap (addr e) x.rip ∙ at_code e sysretq_place refl refl;
            cell = (idt_cells code k).sysretq;
            is = refl;
            outside = refl;
            unlike = refl;
            silent = λ n depth d words. refl;
            back = subst (λ b. LeadsBack c m Sysretq w b) open_to back;
          }

      pub by_iretq : HasKernel Idt code → (n o : ℕ)
          → Returns b z iretq_place (registers_of area (P n o)) gs (P gs_tag 0) chosen top (words_from n o (rip ∷ cs ∷ flags ∷ sp ∷ ss ∷ []))
          → Exits code c m w
      unfolding is_return shown_always
      by_iretq k n o x =
          let a : Agrees e b.ground z c m = at_end code b b.steps z x.runs e c m at in
          record {
            ins = Iretq;
            next = iretq_place + 2;
            place = iretq_place;
            rip = a.rip ∙ ap (addr e) x.rip ∙ at_code e iretq_place refl refl;
            cell = (idt_cells code k).iretq;
            is = refl;
            outside = refl;
            unlike = refl;
            silent = λ n depth d words. refl;
            back = iret_returns e b.ground b z iretq_place c m w area n o rip cs flags sp ss gs (P gs_tag 0) chosen top x a refl
                (restores_with rip flags saved_is.rip saved_is.flags) iret_words;
          }

-- ---- words that a block tells at its end

pub tells_word : (code : Code) (b : Block) (z : SS) (e : Env) (c : Processor) (m : Memory) → At code b b.steps e c m
    → brun b b.steps ≡ Some z → (l : Loc) (v : V)
    → find l z.words ≡ Some v → m.words (addr e l) ≡ eval e v
tells_word code b z e c m at runs l v h =
    let a : Agrees e b.ground z c m = at_end code b b.steps z runs e c m at in
    (subst (Found e b.ground.known m.words l) h (found_ok e b.ground.known m.words l z.words a.words)).1

-- the exits to the task found the mark off
abbrev mark_off : SS → Type 0
mark_off z = find (gs_word 0x20) z.words ≡ Some (K 0)

fred_unmarked : mark_off (fred_end (fred.Leaves FredToTask))
unfolding fred_end fred_lines fred_listings spelling four_bytes size places distance
fred_unmarked = refl

idt_unmarked : (by : IdtReturn) → mark_off (idt_end (idt.Leaves (IdtToTask by)))
unfolding idt_end exit_lines idt_places spelling four_bytes size places distance
idt_unmarked BySysret = refl
idt_unmarked ByOtherRip = refl
idt_unmarked ByOtherFlags = refl

module _ (mode : Mode) (p : ℕ) (hp : p < 32) (κ : Kind) (σ : Seat) (w : Processor) (kss : ℕ) (extra v : ℕ → ℕ) (f : Flags) (code : Code) (c : Processor)
    (m : Memory) where
  abbrev ue : Env
  ue = here mode p κ σ kss w extra v f

  mark_place : m.words (addr ue (gs_word 0x20)) ≡ m.words (pcpu p + 0x20)
  mark_place = ap m.words (let q : (pcpu p + 0x20) % M ≡ pcpu p + 0x20 = omega arith in q)

  pub fred_mark : At code (fred_block (fred.Leaves FredToTask)) (fred_block (fred.Leaves FredToTask)).steps ue c m → m.words (pcpu p + 0x20) ≡ 0
  unfolding eval
  fred_mark at = sym mark_place ∙ tells_word code (fred_block (fred.Leaves FredToTask)) (fred_end (fred.Leaves FredToTask)) ue c m at fred_returns.to_task.runs
      (gs_word 0x20) (K 0) fred_unmarked

  pub idt_mark : (by : IdtReturn) → At code (idt_block (idt.Leaves (IdtToTask by))) (idt_block (idt.Leaves (IdtToTask by))).steps ue c m
      → m.words (pcpu p + 0x20) ≡ 0
  unfolding eval
  idt_mark by at = sym mark_place ∙ tells_word code (idt_block (idt.Leaves (IdtToTask by))) (idt_end (idt.Leaves (IdtToTask by))) ue c m at
      (runs by) (gs_word 0x20) (K 0) (idt_unmarked by)
    where
      runs : (by : IdtReturn) → brun (idt_block (idt.Leaves (IdtToTask by))) (idt_block (idt.Leaves (IdtToTask by))).steps
          ≡ Some (idt_end (idt.Leaves (IdtToTask by)))
      runs BySysret = idt_returns.to_task.runs
      runs ByOtherRip = idt_returns.to_task_by_rip.runs
      runs ByOtherFlags = idt_returns.to_task_by_flags.runs

-- ---- each exit

module _ (image : Image) (p : ℕ) (hp : p < 32) (κ : Kind) (σ : Seat) (q : ℕ) (t : Task) (w : Processor)
    (kss : ℕ) (extra v : ℕ → ℕ) (f : Flags) (code : Code) (c : Processor) (m : Memory) (open_to : c.nmi_blocked ≡ false) where
  pub fred_exits : HasKernel Fred code → RunsTask Fred image p q t w → level_in Fred κ w ≡ w.level → Saved Fred image v w
      → At code (fred_block (fred.Leaves FredToTask)) (fred_block (fred.Leaves FredToTask)).steps (here Fred p κ σ kss w extra v f) c m → Exits code c m w
  unfolding eval
  fred_exits k r level saved_is at =
      by_eretu image Fred p hp κ σ q t w r level kss extra v f saved frame_rip frame_cs frame_flags frame_rsp frame_ss other_gs gs_selector level_rsp saved_is
      code c m open_to (fred_block (fred.Leaves FredToTask)) _ at k (ap (λ (y : Processor). bit 32 y.cr4) r.is) top_tag (M - 0x40) fred_returns.to_task

  pub idt_exits : (by : IdtReturn) → HasKernel Idt code → RunsTask Idt image p q t w → level_in Idt κ w ≡ w.level → Saved Idt image v w
      → Matches Idt image by (v 31) (v 17) (v 41) (v 19)
      → At code (idt_block (idt.Leaves (IdtToTask by))) (idt_block (idt.Leaves (IdtToTask by))).steps (here Idt p κ σ kss w extra v f) c m → Exits code c m w
  unfolding eval
  idt_exits BySysret k r level saved_is same at =
      by_sysretq image Idt p hp κ σ q t w r level kss extra v f saved frame_rip frame_cs frame_flags frame_rsp frame_ss other_gs gs_selector level_rsp saved_is
      code c m open_to (idt_block (idt.Leaves (IdtToTask BySysret))) _ at k (ap (λ (y : Processor). bit 32 y.cr4) r.is) same.0 same.1
      (interrupted_words IdtFrame) idt_returns.to_task
  idt_exits ByOtherRip k r level saved_is same at =
      by_iretq image Idt p hp κ σ q t w r level kss extra v f saved frame_rip frame_cs frame_flags frame_rsp frame_ss other_gs gs_selector level_rsp saved_is
      code c m open_to (idt_block (idt.Leaves (IdtToTask ByOtherRip))) _ at k top_tag (M - 0x28) idt_returns.to_task_by_rip
  idt_exits ByOtherFlags k r level saved_is same at =
      by_iretq image Idt p hp κ σ q t w r level kss extra v f saved frame_rip frame_cs frame_flags frame_rsp frame_ss other_gs gs_selector level_rsp saved_is
      code c m open_to (idt_block (idt.Leaves (IdtToTask ByOtherFlags))) _ at k top_tag (M - 0x28) idt_returns.to_task_by_flags

-- ---- to another task

module _ (image : Image) (p : ℕ) (hp : p < 32) (κ : Kind) (σ : Seat) (q : ℕ) (t : Task) (w : Processor) (kss : ℕ) (extra v : ℕ → ℕ) (f : Flags)
    (b : BodyContext) (code : Code) (c : Processor) (m : Memory) (open_to : c.nmi_blocked ≡ false) where
  pub fred_exits_to_next : HasKernel Fred code → RunsTask Fred image p q t w → level_in Fred κ w ≡ w.level
      → ToNext Fred image (extra next_top_tag) (here Fred p κ σ kss w extra v f) w b → (task next : ℕ) → NamesTasks p extra task next
      → At code (fred_block (fred.Leaves FredToNext)) (fred_block (fred.Leaves FredToNext)).steps (here Fred p κ σ kss w extra v f) c m → Exits code c m w
  unfolding eval
  fred_exits_to_next k r level to_next task next names at =
      let top_is = names.next_top in let few = names.few.1 in
      let same : extra next_top_tag ≡ (extra next_top_tag + 0) % M = omega arith in
      by_eretu image Fred p hp κ σ q t w r level kss extra v f next_saved next_rip next_cs next_flags next_rsp next_ss next_gs next_selector (P next_top_tag 0)
      (subst (λ n. GivesBack Fred image (λ r. v (70 + r)) (v 54) (v 55) (v 56) (v 57) (v 58) (v 51) (v 50) n w) same to_next.gives)
      code c m open_to (fred_block (fred.Leaves FredToNext)) _ at k (ap (λ (y : Processor). bit 32 y.cr4) r.is) next_top_tag (M - 0x40) fred_returns.to_next

  pub idt_exits_to_next : (by : IdtReturn) → HasKernel Idt code → RunsTask Idt image p q t w → level_in Idt κ w ≡ w.level
      → ToNext Idt image (v 63) (here Idt p κ σ kss w extra v f) w b → Matches Idt image by (v 71) (v 54) (v 81) (v 56)
      → At code (idt_block (idt.Leaves (IdtToNext by))) (idt_block (idt.Leaves (IdtToNext by))).steps (here Idt p κ σ kss w extra v f) c m → Exits code c m w
  unfolding eval
  idt_exits_to_next BySysret k r level to_next same at =
      by_sysretq image Idt p hp κ σ q t w r level kss extra v f next_saved next_rip next_cs next_flags next_rsp next_ss next_gs next_selector level_rsp
      to_next.gives code c m open_to (idt_block (idt.Leaves (IdtToNext BySysret))) _ at k (ap (λ (y : Processor). bit 32 y.cr4) r.is) same.0 same.1
      (words_from next_top_tag (M - 0x28) next_interrupted) idt_returns.to_next
  idt_exits_to_next ByOtherRip k r level to_next same at =
      by_iretq image Idt p hp κ σ q t w r level kss extra v f next_saved next_rip next_cs next_flags next_rsp next_ss next_gs next_selector level_rsp
      to_next.gives code c m open_to (idt_block (idt.Leaves (IdtToNext ByOtherRip))) _ at k next_top_tag (M - 0x28) idt_returns.to_next_by_rip
  idt_exits_to_next ByOtherFlags k r level to_next same at =
      by_iretq image Idt p hp κ σ q t w r level kss extra v f next_saved next_rip next_cs next_flags next_rsp next_ss next_gs next_selector level_rsp
      to_next.gives code c m open_to (idt_block (idt.Leaves (IdtToNext ByOtherFlags))) _ at k next_top_tag (M - 0x28) idt_returns.to_next_by_flags

-- ---- to a body

module _ (p : ℕ) (hp : p < 32) (κ : Kind) (σ : Seat) (w : Processor) (kss : ℕ) (extra v : ℕ → ℕ) (f : Flags) (mode : Mode) (image : Image)
    (saved_is : SavedBody mode image (here mode p κ σ kss w extra v f) w) where
  abbrev be : Env
  be = here mode p κ σ kss w extra v f

  body_regs : map (eval be) (registers_of saved frame_rsp) ≡ w.regs
  unfolding eval
  body_regs = sym saved_is.regs

  body_restores : Restores be w (registers_of saved frame_rsp) frame_rip frame_flags (P gs_tag 0) other_gs gs_selector level_rsp
  unfolding eval
  body_restores = record {
    regs_are = body_regs;
    rip_is = saved_is.rip;
    canonical = saved_is.canonical;
    flags_are = ap modelled saved_is.flags ∙ saved_is.whole;
    base_is = (let h : (pcpu p + 0) % M ≡ pcpu p = omega arith in h) ∙ sym saved_is.base;
    other_is = saved_is.gs;
    chosen_is = saved_is.chosen;
    levels_are = ap (λ n. n ∷ drop 1 w.msrs.rsp) saved_is.level ∙ sym (levels_split w.msrs.rsp saved_is.levels);
  }

  -- the kernel's own ring, and the stack segment that stands
  body_rest : level_in mode κ w ≡ w.level → record (be.rest) { cpl = w.cpl; cs = w.cs; ss = w.ss } ≡ untracked w
  body_rest level = λ i. record (untracked w) { level = level i }

  taken : IsKernelSs Idt w.ss → idt_delivery.is_return w.cs w.ss ≡ true
  taken ss_is = ap (λ n. idt_delivery.is_return n w.ss) saved_is.ring.1 ∙ by_ss ss_is
    where
      by_ss : IsKernelSs Idt w.ss → idt_delivery.is_return 0x10 w.ss ≡ true
      by_ss (inl h) = ap (idt_delivery.is_return 0x10) h
      by_ss (inr h) = ap (idt_delivery.is_return 0x10) h

  body_iret : level_in mode κ w ≡ w.level → IsKernelSs Idt w.ss → IretWords be w frame_cs frame_ss
  unfolding eval
  body_iret level ss_is = record {
    cs_is = saved_is.cs ∙ sym saved_is.ring.1;
    ss_is = saved_is.ss;
    taken = taken ss_is;
    ring = saved_is.ring.0 ∙ sym (ap (λ n. if n == 0x33 then 3 else 0) saved_is.ring.1);
    unblocked = saved_is.unblocked;
    rest = body_rest level;
  }

  body_erets : nat_le w.level (level_in mode κ w) ≡ true → EretsWords be w frame_cs frame_ss
  unfolding eval
  body_erets lower = record {
    cs_is = saved_is.cs;
    level_is = saved_is.stack_level;
    lower = lower;
    blocked = saved_is.sti ∙ sym saved_is.unblocked;
    rest = (λ i. record (untracked w) { cpl = sym saved_is.ring.0 i; cs = sym saved_is.ring.1 i; ss = saved_is.same_ss i; level = w.level });
  }

module _ (p : ℕ) (hp : p < 32) (κ : Kind) (σ : Seat) (w : Processor) (kss : ℕ) (extra v : ℕ → ℕ) (f : Flags) (code : Code) (c : Processor) (m : Memory)
    (open_to : c.nmi_blocked ≡ false) (image : Image) where
  pub fred_exits_to_body : HasKernel Fred code → has_fred w ≡ true → level_in Fred κ w ≡ w.level
      → SavedBody Fred image (here Fred p κ σ kss w extra v f) w
      → At code (fred_block (fred.Leaves FredToKernel)) (fred_block (fred.Leaves FredToKernel)).steps (here Fred p κ σ kss w extra v f) c m → Exits code c m w
  unfolding eval is_return shown_always
  fred_exits_to_body k fred_on level saved_is at =
      let e : Env = here Fred p κ σ kss w extra v f in
      let b : Block = fred_block (fred.Leaves FredToKernel) in
      let z = fred_returns.to_kernel in
      let a : Agrees e b.ground _ c m = at_end code b b.steps _ z.runs e c m at in
      let back = erets_returns e b.ground b _ erets_place c m w saved top_tag (M - 0x40) frame_rip frame_cs frame_flags frame_rsp frame_ss (P gs_tag 0)
      other_gs gs_selector level_rsp z a refl fred_on
      (body_restores p hp κ σ w kss extra v f Fred image saved_is)
      (body_erets p hp κ σ w kss extra v f Fred image saved_is (ap (nat_le w.level) level ∙ le-leb w.level w.level (omega arith))) in
      record {
        ins = Erets;
        next = erets_place + 4;
        place = erets_place;
        rip = a.rip ∙ ap (addr e) z.rip ∙ at_code e erets_place refl refl;
        cell = (fred_cells code k).erets;
        is = refl;
        outside = refl;
        unlike = refl;
        silent = λ n depth d words. refl;
        back = subst (λ b. LeadsBack c m Erets w (b && not (bit 18 (v 21)))) open_to back;
      }

  pub idt_exits_to_body : HasKernel Idt code → IsKernelSs Idt w.ss → level_in Idt κ w ≡ w.level → SavedBody Idt image (here Idt p κ σ kss w extra v f) w
      → At code (idt_block (idt.Leaves IdtToKernel)) (idt_block (idt.Leaves IdtToKernel)).steps (here Idt p κ σ kss w extra v f) c m → Exits code c m w
  unfolding eval is_return shown_always
  idt_exits_to_body k ss_is level saved_is at =
      let e : Env = here Idt p κ σ kss w extra v f in
      let b : Block = idt_block (idt.Leaves IdtToKernel) in
      let z = idt_returns.to_kernel in
      let a : Agrees e b.ground _ c m = at_end code b b.steps _ z.runs e c m at in
      record {
        ins = Iretq;
        next = iretq_place + 2;
        place = iretq_place;
        rip = a.rip ∙ ap (addr e) z.rip ∙ at_code e iretq_place refl refl;
        cell = (idt_cells code k).iretq;
        is = refl;
        outside = refl;
        unlike = refl;
        silent = λ n depth d words. refl;
        back = iret_returns e b.ground b _ iretq_place c m w saved top_tag (M - 0x28) frame_rip frame_cs frame_flags frame_rsp frame_ss (P gs_tag 0) other_gs
            gs_selector level_rsp z a refl (body_restores p hp κ σ w kss extra v f Idt image saved_is)
            (body_iret p hp κ σ w kss extra v f Idt image saved_is level ss_is);
      }
