-- Exits that switch to another task: their windows, what their steps write, and where their blocks end.
use Rattle.std.proofs.Common.{◌≡◌, ◌⊎◌, inl, inr, ⊎_elim, ℕ, ◌+◌, ◌<◌, ◌≤◌, Bool, true, false, List, [], ◌∷◌, Option, Some, refl, sym, ap, ◌∙◌, subst, arith}
use Rattle.ev_isa.specs.Word.{NatMap}
use Rattle.ev_isa.specs.Flags.{Flags}
use Rattle.ev_isa.specs.declared.mode.Mode.{Mode}
use Rattle.ev_isa.specs.declared.mode.Mode.TheVariants.{Idt, Fred}
use Rattle.ev_body.specs.declared.image.Image.{Image}
use Rattle.ev_listing.specs.AddressMap.{pcpu, task_words, stack_top}
use Rattle.ev_state.specs.Processor.{Processor}
use Rattle.ev_mem.specs.Memory.{Memory}
use Rattle.ev_proc.specs.ProcessorStep.{has_fred}
use Rattle.ev_abstract.specs.Context.{BodyContext}
use Rattle.ev_concrete.specs.Opening.{regions}
use Rattle.ev_symbolic.specs.State.{SS, Loc, in_win}
use Rattle.ev_symbolic.specs.Run.{brun, every}
use Rattle.ev_symbolic.specs.Agrees.{Env, addr, FactsHold, Described, AreTops, Open, Within, Stands, Fits}
use Rattle.ev_symbolic.specs.Names.{next_top_tag}
use Rattle.ev_distances.specs.Span.{IsSpan, InSpan}
use Rattle.ev_distances.specs.Form.{Form, InArea, Where, span_of, IsWhere, Fitting}
use Rattle.ev_distances.proofs.ByForm.{located, forms_open}
use Rattle.ev_blocks.specs.Fred.{FredToNext}
use Rattle.ev_blocks.specs.Fred as fred
use Rattle.ev_blocks.specs.Idt.{IdtReturn, BySysret, ByOtherRip, ByOtherFlags, IdtToNext}
use Rattle.ev_blocks.specs.Idt as idt
use Rattle.ev_blocks.specs.Blocks.{Spot, InFred, InIdt, InBody, block, forms, edges}
use Rattle.ev_blocks.specs.Blocks as blocks
use Rattle.ev_grounds.specs.Grounds.{HasItem}
use Rattle.ev_grounds.proofs.Grounds.{windows_fit, all_grounded}
use Rattle.ev_paths.proofs.FredEnds.{fred_returns}
use Rattle.ev_paths.proofs.IdtEnds.{idt_returns}
use Rattle.ev_paths.proofs.Lines.{fred_stand, idt_stand}
use Rattle.ev_paths.specs.Lines.{HasKernel}
use Rattle.ev_activation.specs.Seat.{Kind, SystemCall, FromTask, FromBody, NmiFromTask, NmiFromBody, Seat, top_at}
use Rattle.ev_table.specs.Table.{code_table}
use Rattle.ev_relation.specs.Named.{Named, Top, Current, Mark, TssTop, Outside, NotNamed, Changes}
use Rattle.ev_relation.specs.Filling.{Filling}
use Rattle.ev_relation.specs.Active.{here, fills_record, ToNext, OverTask, OverBody, Means}
use Rattle.ev_relation.proofs.Facts.{Facts}
use Rattle.ev_relation.proofs.ModeFacts.{is_fred}
use Rattle.ev_relation.proofs.Spots.{is_elsewhere, fred_switch_elsewhere, idt_switch_elsewhere}
use Rattle.ev_relation.proofs.Fits.{IsSeat, InSome, which_form}

-- ---- which they are, and what their variables mean

abbrev pub is_switch : Mode → Spot → Bool
is_switch Fred (InFred (fred.Leaves FredToNext)) = true
is_switch Idt (InIdt (idt.Leaves (IdtToNext by))) = true
is_switch mode spot = false

-- RSP of level 0 behind the switch
abbrev pub next_level : Mode → Env → ℕ
next_level Fred e = e.base next_top_tag
next_level Idt e = e.var 63

over_switch : (mode : Mode) (image : Image) (m : Mode) (spot : Spot) (e : Env) (w : Processor) (b : BodyContext) (g : Option Filling) (words : NatMap ℕ)
    → OverTask mode image m spot e w b g words
    → blocks.switches spot ≡ true → (is_switch m spot ≡ true) × ToNext mode image (next_level m e) e w b
over_switch mode image Fred (InFred (fred.Leaves FredToNext)) e w b g words h on = (refl, h)
over_switch mode image Idt (InIdt (idt.Leaves (IdtToNext by))) e w b g words h on = (refl, h.0)
over_switch mode image Idt (InFred (fred.Leaves FredToNext)) e w b g words h on = absurd h
over_switch mode image Fred (InIdt (idt.Leaves (IdtToNext by))) e w b g words h on = absurd h
over_switch mode image m _ e w b g words h on = absurd (cc)

-- none stands over a body
body_stays : (mode : Mode) (image : Image) (m : Mode) (spot : Spot) (e : Env) (w : Processor) (b : BodyContext) (g : Option Filling) (words : NatMap ℕ)
    → OverBody mode image m spot e w b g words
    → blocks.switches spot ≡ true → ⊥
body_stays mode image Idt (InFred (fred.Leaves FredToNext)) e w b g words h on = h
body_stays mode image Fred (InFred (fred.Leaves FredToNext)) e w b g words h on = h
body_stays mode image Idt (InIdt (idt.Leaves (IdtToNext by))) e w b g words h on = h
body_stays mode image Fred (InIdt (idt.Leaves (IdtToNext by))) e w b g words h on = h
body_stays mode image m _ e w b g words h on = (cc)

pub means_switch : (mode : Mode) (image : Image) (κ : Kind) (spot : Spot) (e : Env) (w : Processor) (b : BodyContext) (g : Option Filling) (m : NatMap ℕ)
    → Means mode image κ spot e w b g m → blocks.switches spot ≡ true → (is_switch mode spot ≡ true) × ToNext mode image (next_level mode e) e w b
means_switch mode image SystemCall spot e w b g m h on = over_switch mode image mode spot e w b g m h on
means_switch mode image FromTask spot e w b g m h on = over_switch mode image mode spot e w b g m h on
means_switch mode image FromBody spot e w b g m h on = absurd (body_stays mode image mode spot e w b g m h on)
means_switch mode image NmiFromTask spot e w b g m h on = absurd h
means_switch mode image NmiFromBody spot e w b g m h on = absurd h

-- what holds of the two of them holds of each
pub each_switch : (P : Mode → Spot → Type 0) → P Fred (InFred (fred.Leaves FredToNext))
    → ((by : IdtReturn) → P Idt (InIdt (idt.Leaves (IdtToNext by)))) → (mode : Mode) (spot : Spot) → is_switch mode spot ≡ true → P mode spot
each_switch P a b Fred (InFred (fred.Leaves FredToNext)) h = a
each_switch P a b Idt (InIdt (idt.Leaves (IdtToNext by))) h = b by
each_switch P a b mode _ h = let clash : false ≡ true = h in absurd (cc)

-- none fills a call record
pub switch_unfilled : (mode : Mode) (spot : Spot) → is_switch mode spot ≡ true → fills_record spot ≡ false
switch_unfilled = each_switch (λ m spot. fills_record spot ≡ false) refl (λ by. refl)

-- ---- closed facts of their blocks

abbrev RunsToEnd : Mode → Spot → Type 0
RunsToEnd mode spot = (z : SS) × (brun (block mode spot) (block mode spot).steps ≡ Some z)

exit_end : (by : IdtReturn) → RunsToEnd Idt (InIdt (idt.Leaves (IdtToNext by)))
exit_end BySysret = (_, idt_returns.to_next.runs)
exit_end ByOtherRip = (_, idt_returns.to_next_by_rip.runs)
exit_end ByOtherFlags = (_, idt_returns.to_next_by_flags.runs)

pub switch_ends : (mode : Mode) (spot : Spot) → is_switch mode spot ≡ true → RunsToEnd mode spot
switch_ends = each_switch RunsToEnd (_, fred_returns.to_next.runs) exit_end

pub switch_elsewhere : (mode : Mode) (spot : Spot) → is_switch mode spot ≡ true → every is_elsewhere (block mode spot) ≡ true
switch_elsewhere = each_switch (λ mode spot. every is_elsewhere (block mode spot) ≡ true) fred_switch_elsewhere idt_switch_elsewhere

-- ---- where an activation stands in one

-- the bases of the words of a task and of the next one, and of the top of its stack
pub record NamesTasks (p : ℕ) (extra : ℕ → ℕ) (task next : ℕ) : Type 0 where
  pub few : (task < 4) × (next < 4)
  pub words : extra 18 ≡ task_words p task
  pub next_words : extra 19 ≡ task_words p next
  pub next_top : extra 21 ≡ stack_top p next

pub names_tasks : (mode : Mode) (image : Image) (p : ℕ) (κ : Kind) (σ : Seat) (ss : ℕ) (u : Processor) (extra v : ℕ → ℕ) (f : Flags) (top : ℕ)
    (w : Processor) (b : BodyContext) (t : ToNext mode image top (here mode p κ σ ss u extra v f) w b) → (t.p ≡ p) × NamesTasks p extra t.task t.next
names_tasks mode image p κ σ ss u extra v f top w b t =
    let area = t.area in
    let same : t.p ≡ p = omega arith in (
      same,
      record {
        few = t.few;
        words = t.words ∙ ap (λ q. task_words q t.task) same;
        next_words = t.next_words ∙ ap (λ q. task_words q t.next) same;
        next_top = t.next_top ∙ ap (λ q. stack_top q t.next) same;
      },
    )

-- the words that it writes: those that name the running task, and the mark
abbrev pub switch_names : ℕ → List Named
switch_names p = Top p ∷ Current p ∷ Mark p ∷ TssTop p ∷ []

abbrev pub where_next : ℕ → Seat → (task next : ℕ) → Where
where_next p σ task next = record { p = p; stack = σ.stack; used = σ.used; task = task; next = next; site = 0 }

module _ (mode : Mode) (image : Image) (p : ℕ) (σ : Seat) (hs : IsSeat σ) (hp : p < image.processors) (few : image.processors ≤ 8)
    (κ : Kind) (ss : ℕ) (w : Processor) (extra v : ℕ → ℕ) (f : Flags) (task next : ℕ) (names : NamesTasks p extra task next) where
  abbrev env : Env
  env = here mode p κ σ ss w extra v f

  abbrev at : Where
  at = where_next p σ task next

  -- its stack, the processor's area, the words of both tasks, and the next one's saved area
  is_at : IsWhere image.processors at
  is_at = record {
    processor = hp;
    few = few;
    stack = hs.stack;
    task = names.few.0;
    next = names.few.1;
    site = omega arith;
    aligned = hs.aligned;
  }

  top_is : top_at p σ + σ.used ≡ stack_top p σ.stack
  top_is = let r = hs.room in omega arith

  abbrev KnownFits : Mode → Spot → Type 0
  KnownFits m spot = Fitting image.processors env at (forms spot).known

  known_fits : (m : Mode) (spot : Spot) → is_switch m spot ≡ true → KnownFits m spot
  known_fits = each_switch KnownFits
      (let r = hs.room in record {
        at = is_at;
        forms = refl;
        bases = (top_is, (refl, (names.words, (names.next_words, (names.next_top, tt)))));
        room = (omega arith, (omega arith, (omega arith, (omega arith, (omega arith, tt)))));
      })
      (λ by. let r = hs.room in record {
        at = is_at;
        forms = refl;
        bases = (top_is, (refl, (refl, (names.words, (names.next_words, (names.next_top, tt))))));
        room = (omega arith, (omega arith, (omega arith, (omega arith, (omega arith, (omega arith, tt))))));
      })

  abbrev OwnFits : Mode → Spot → Type 0
  OwnFits m spot = Fitting image.processors env at (forms spot).own

  own_fits : (m : Mode) (spot : Spot) → is_switch m spot ≡ true → OwnFits m spot
  own_fits = each_switch OwnFits
      (let r = hs.room in record { at = is_at; forms = refl; bases = (refl, tt); room = (omega arith, tt) })
      (λ by. let r = hs.room in record { at = is_at; forms = refl; bases = (refl, (refl, tt)); room = (omega arith, (omega arith, tt)) })

  -- ---- it fits its block, and the kernel has access to its windows

  abbrev HasItsLines : Mode → Spot → Type 0
  HasItsLines m spot = HasKernel m (code_table mode image) → Stands (code_table mode image) env (block m spot).lines

  has_lines : (m : Mode) (spot : Spot) → is_switch m spot ≡ true → HasItsLines m spot
  has_lines = each_switch HasItsLines
      (λ k. fred_stand (code_table mode image) env refl k (fred.Leaves FredToNext))
      (λ by k. idt_stand (code_table mode image) env refl k (idt.Leaves (IdtToNext by)) tt)

  pub switch_fits : Facts mode image → (spot : Spot) → is_switch mode spot ≡ true → has_fred w ≡ is_fred mode
      → FactsHold env (block mode spot).ground.facts → Described env (block mode spot).ground.descriptors → AreTops env (block mode spot).ground.tops
      → Fits (code_table mode image) env (block mode spot)
  switch_fits facts spot h hf told descriptors tops = record {
    ground = all_grounded image.processors mode env at spot (record {
      fitting = known_fits mode spot h;
      zero_base = refl;
      item = each_switch (λ m spot. HasItem spot env) tt (λ by. tt) mode spot h;
      kernel = refl;
      fred = hf ∙ each_switch (λ m spot. is_fred m ≡ (block m spot).ground.fred) refl (λ by. refl) mode spot h;
      facts = told;
      descriptors = descriptors;
      tops = tops;
    });
    spaced = facts.spaced;
    stands = has_lines mode spot h facts.kernel;
  }

  pub switch_opens : (spot : Spot) → is_switch mode spot ≡ true → (m : Memory) → m.regions ≡ regions image → Open env (block mode spot).ground.known m.regions
  switch_opens spot h m hr = subst (Open env (block mode spot).ground.known) (sym hr)
      (subst (λ W. Open env W (regions image)) (sym (windows_fit mode spot).0.known)
      (forms_open image env at (forms spot).known (known_fits mode spot h)))

  -- ---- where its windows lie

  abbrev pub IsIn : List Form → ℕ → Type 0
  IsIn fs a = InSome (λ f. IsSpan (span_of at f) × InSpan (span_of at f) a) fs

  pub switch_known : (spot : Spot) → is_switch mode spot ≡ true → (l : Loc) → in_win (block mode spot).ground.known l ≡ true
      → IsIn (forms spot).known (addr env l)
  switch_known spot h l i = which_form env at l (forms spot).known (located image.processors env at (forms spot).known (known_fits mode spot h))
      (ap (λ W. in_win W l) (sym (windows_fit mode spot).0.known) ∙ i)

  own_in : (spot : Spot) → is_switch mode spot ≡ true → (a : ℕ) (l : Loc) → in_win (block mode spot).ground.own l ≡ true → a ≡ addr env l
      → IsIn (forms spot).own a
  own_in spot h a l i q = subst (IsIn (forms spot).own) (sym q)
      (which_form env at l (forms spot).own (located image.processors env at (forms spot).own (own_fits mode spot h))
      (ap (λ W. in_win W l) (sym (windows_fit mode spot).0.own) ∙ i))

  -- ---- what it writes

  -- three words of the area, and one of the TSS
  off_names : (a lo n : ℕ) → NotNamed (switch_names p) a → ((lo ≡ 0x10) × (n ≡ 0x18)) ⊎ ((lo ≡ 0x408) × (n ≡ 8))
      → IsSpan (span_of at (InArea lo n)) → InSpan (span_of at (InArea lo n)) a → ⊥
  off_names a lo n d which is there =
      let from = there.from in let to = there.to in
      ⊎_elim (λ (z : (lo ≡ 0x10) × (n ≡ 0x18)). let x = z.0 in let y = z.1 in three (omega arith) (omega arith) d.0 d.1.0 d.1.1.0)
      (λ (z : (lo ≡ 0x408) × (n ≡ 8)). let x = z.0 in let y = z.1 in one (omega arith) (omega arith) d.1.1.1.0) which
    where
      one : pcpu p + 0x408 ≤ a → a < pcpu p + 0x410 → Outside (pcpu p + 0x408) (pcpu p + 0x408 + 8) a → ⊥
      one l h (inl o) = omega arith
      one l h (inr o) = omega arith

      three : pcpu p + 0x10 ≤ a → a < pcpu p + 0x28 → Outside (pcpu p + 0x10) (pcpu p + 0x10 + 8) a → Outside (pcpu p + 0x18) (pcpu p + 0x18 + 8) a
          → Outside (pcpu p + 0x20) (pcpu p + 0x20 + 8) a → ⊥
      three l h (inl o) y z = omega arith
      three l h (inr o) (inl y) z = omega arith
      three l h (inr o) (inr y) (inl z) = omega arith
      three l h (inr o) (inr y) (inr z) = omega arith

  abbrev OffNames : Mode → Spot → Type 0
  OffNames m spot = (a : ℕ) → NotNamed (switch_names p) a → IsIn (forms spot).own a → ⊥

  all_named : (m : Mode) (spot : Spot) → is_switch m spot ≡ true → OffNames m spot
  unfolding InSome
  all_named = each_switch OffNames
      (λ a d i. ⊎_elim (λ t. off_names a 0x10 0x18 d (inl (refl, refl)) t.0 t.1) (λ t. t) i)
      (λ by a d i. ⊎_elim (λ t. off_names a 0x10 0x18 d (inl (refl, refl)) t.0 t.1)
      (λ u. ⊎_elim (λ t. off_names a 0x408 8 d (inr (refl, refl)) t.0 t.1) (λ t. t) u) i)

  -- and none of a stack, whatever the seat
  pub switch_changes : (spot : Spot) → is_switch mode spot ≡ true → (τ : Seat) (m n : NatMap ℕ)
      → Within env (block mode spot).ground.own (block mode spot).ground.shared m n → Changes p τ (switch_names p) m n
  switch_changes spot h τ m n wrote a off d =
      wrote a (λ l i q. all_named mode spot h a d (own_in spot h a l i q))
      (λ l i q. let clash : false ≡ true = sym (ap (λ W. in_win W l) (windows_fit mode spot).0.shared) ∙ i in absurd (cc))
