-- The law of others for whole chains: who leaves the windows of a processor's activations and its words alone leaves its contexts standing. So do other
-- processors, and the activation that stands on them.
use Rattle.std.proofs.Common.{◌≡◌, ◌⊎◌, inl, inr, ⊎_elim, ℕ, suc, ◌+◌, ◌*◌, ◌<◌, ◌≤◌, Bool, true, false, not, List, [], ◌∷◌, length, Option, Some, None, refl, sym, ap, ◌∙◌, subst, arith}
use Rattle.std.proofs.lemmas.Bool.{leb-true}
use Rattle.std.proofs.lemmas.Bool.Decides.{leb_tells}
use Rattle.std.specs.Prelude.{◌-◌, nat_le, if◌then◌else◌}
use Rattle.ev_isa.specs.Word.{NatMap}
use Rattle.ev_isa.specs.Flags.{Flags}
use Rattle.ev_isa.specs.declared.mode.Mode.{Mode}
use Rattle.ev_isa.specs.declared.mode.Mode.TheVariants.{Idt, Fred}
use Rattle.ev_body.specs.declared.image.Image.{Image}
use Rattle.ev_effect.specs.Task.{Task}
use Rattle.ev_state.specs.Processor.{Processor}
use Rattle.ev_mem.specs.Memory.{Memory}
use Rattle.ev_listing.specs.AddressMap.{pcpu, record_address, task_words, stack_top, code_end}
use Rattle.ev_abstract.specs.Context.{BodyContext}
use Rattle.ev_abstract.specs.Machine.{CallRecord}
use Rattle.ev_concrete.specs.ConcreteRun.{Activation}
use Rattle.ev_concrete.specs.LiveWords.{area_bytes}
use Rattle.ev_symbolic.specs.State.{Block}
use Rattle.ev_symbolic.specs.Run.{every}
use Rattle.ev_symbolic.specs.Agrees.{Env, addr, with_words, At}
use Rattle.ev_symbolic.proofs.Blocks.{stays}
use Rattle.ev_symbolic.proofs.Values.{and_left, and_right}
use Rattle.ev_distances.specs.Span.{IsSpan, InSpan}
use Rattle.ev_distances.specs.Form.{Form, OnStack, Stretch, InArea, OnTask, OnNextTask, OnNextStack, Where, span_of}
use Rattle.ev_blocks.specs.Shapes.{UserCode, KernelCode, FredFrame, IdtFrame, body_bytes}
use Rattle.ev_blocks.specs.Fred.{FromUser, FromKernel, FredToKernel, FredToTask, FredToNext}
use Rattle.ev_blocks.specs.Fred as fred
use Rattle.ev_blocks.specs.Idt.{Stub, Sys, Common, IdtToKernel, IdtToTask, IdtToNext}
use Rattle.ev_blocks.specs.Idt as idt
use Rattle.ev_blocks.specs.Calls.{AtLink}
use Rattle.ev_blocks.specs.Items.{BodySpot, InCall, fills}
use Rattle.ev_blocks.specs.Blocks.{Spot, InFred, InIdt, InNmi, InBody, block, forms, edges}
use Rattle.ev_blocks.specs.Blocks as blocks
use Rattle.ev_activation.specs.Seat.{Kind, SystemCall, FromTask, FromBody, NmiFromTask, NmiFromBody, Seat, kind_of, seat_of, top_at}
use Rattle.ev_table.specs.Table.{code_table}
use Rattle.ev_relation.specs.Nmi.{Frame, Held, IfIdt, FrameIs, Knows, Leads}
use Rattle.ev_relation.specs.Named.{Named, UserRsp, Top, Current, Mark, Port, Head, TssTop, Slot, RecordWord, CellAt, PageBit, UserWord, address_of, is_private, have_none, IsWritten, AreWritten, NoneOf, Outside, NotNamed, UnknownTo, Changes}
use Rattle.ev_relation.specs.Filling.{Filling, first_fill, rest_fills, AreFree}
use Rattle.ev_relation.specs.Active.{here, fills_record, OverTask, OverBody, Means, Active}
use Rattle.ev_relation.specs.Relation.{InTasks, body_edges, keeps_cr2, chained, switches_at, Interrupted, Chain}
use Rattle.ev_relation.proofs.Spots.{layout_of, is_spot, means_over, is_plain, are_plain, knows_mark, is_low, are_low, low_windows, area_small, has_windows, is_elsewhere, not_in_bodies, mark_elsewhere}
use Rattle.ev_relation.proofs.Fits.{IsSeat, where_at, InSome, known_in}
use Rattle.ev_relation.proofs.Switch.{is_switch, each_switch, means_switch, switch_elsewhere, NamesTasks, names_tasks, where_next, switch_known}
use Rattle.ev_relation.proofs.Records.{RecordStays, RecordsStay, weaker_body, weaken, spot_again}
use Rattle.ev_relation.proofs.Fills.{is_fill, means_fills, where_fill, InOne, fill_known}
use Rattle.ev_relation.proofs.Words.{area_word, on_its_stack, fixed_stays, beside_stays, area_stays, stacks_stay, stack_unnamed}
use Rattle.ev_relation.proofs.CallKinds.{beneath_as, ArePlain, seat_under, area_under, plain_seat}

-- The words of an activation in this seat are as they were: those of its stretch of the stack, those of the processor's area and the TSS that blocks know,
-- the tasks' words, and the saved areas at the tops of the tasks' stacks.
pub record Spares (mode : Mode) (q : ℕ) (σ : Seat) (m n : NatMap ℕ) : Type 0 where
  pub stretch : (a : ℕ) → top_at q σ ≤ a + area_bytes mode → a < top_at q σ → n a ≡ m a
  pub area : (a : ℕ) → pcpu q ≤ a → a < pcpu q + 0x20 → n a ≡ m a
  pub tss : (a : ℕ) → pcpu q + 0x408 ≤ a → a < pcpu q + 0x410 → n a ≡ m a
  pub tasks : (a : ℕ) → task_words 0 0 ≤ a → a < task_words 0 0 + 0x100 * 32 → n a ≡ m a
  pub tops : (i : ℕ) → i < 4 → (a : ℕ) → stack_top q i - area_bytes mode ≤ a → a < stack_top q i → n a ≡ m a

-- and the mark is
abbrev pub MarkStays : ℕ → (m n : NatMap ℕ) → Type 0
MarkStays q m n = (a : ℕ) → pcpu q + 0x20 ≤ a → a < pcpu q + 0x28 → n a ≡ m a

-- nobody in the bodies' code knows it
abbrev pub MarkSpared : ℕ → List BodyContext → Processor → (m n : NatMap ℕ) → Type 0
MarkSpared q [] c m n = Unit {0}
MarkSpared q (b ∷ below) c m n = (code_end ≤ c.rip) ⊎ MarkStays q m n

pub mark_spared : (q : ℕ) (bs : List BodyContext) (c : Processor) (m n : NatMap ℕ) → MarkStays q m n → MarkSpared q bs c m n
mark_spared q [] c m n h = tt
mark_spared q (b ∷ below) c m n h = inr h

module _ (mode : Mode) (q : ℕ) (σ : Seat) (hs : IsSeat σ) (m n : NatMap ℕ) (spares : Spares mode q σ m n) (marked : Bool)
    (mark : marked ≡ true → MarkStays q m n) (a : ℕ) where
  -- a word of the area
  spared_area : (known : Bool) → marked ≡ known → pcpu q ≤ a → a < pcpu q + (if known then 0x28 else 0x20) → n a ≡ m a
  spared_area true k from to =
      ⊎_elim (λ (l : (nat_le (pcpu q + 0x20) a ≡ true) × (pcpu q + 0x20 ≤ a)). mark k a l.1 to) (λ l. spares.area a from l.1) (leb_tells (pcpu q + 0x20) a)
  spared_area false k from to = spares.area a from to

  spared_form : (f : Form) → is_plain mode f ≡ true → is_low marked f ≡ true → IsSpan (span_of (where_at q σ) f) → InSpan (span_of (where_at q σ) f) a
      → n a ≡ m a
  spared_form (OnStack k) h low i at =
      let l = leb-true k (area_bytes mode) h in let s = (area_small mode).0 in let r = hs.room in let from = at.from in let to = at.to in
      spares.stretch a (omega arith) (omega arith)
  spared_form (Stretch d k) h low i at =
      let l = leb-true d (area_bytes mode) (and_left (nat_le d (area_bytes mode)) _ h) in
      let l' = leb-true k d (and_right (nat_le d (area_bytes mode)) _ h) in
      let s = (area_small mode).0 in let r = hs.room in let from = at.from in let to = at.to in
      spares.stretch a (omega arith) (omega arith)
  spared_form (InArea lo k) h low i at =
      let l = leb-true (lo + k) (if marked then 0x28 else 0x20) low in let from = at.from in let to = at.to in
      spared_area marked refl (omega arith) (omega arith)
  spared_form _ h low i at = let clash : false ≡ true = h in absurd (cc)

  spared_forms : (fs : List Form) → are_plain mode fs ≡ true → are_low marked fs ≡ true
      → InSome (λ f. IsSpan (span_of (where_at q σ) f) × InSpan (span_of (where_at q σ) f) a) fs → n a ≡ m a
  unfolding InSome
  spared_forms [] h low s = absurd s
  spared_forms (f ∷ fs) h low s =
      ⊎_elim (λ t. spared_form f (and_left (is_plain mode f) _ h) (and_left (is_low marked f) _ low) t.0 t.1)
      (λ t. spared_forms fs (and_right (is_plain mode f) _ h) (and_right (is_low marked f) _ low) t) s

-- of an exit to another task, which knows the mark
module _ (q : ℕ) (σ : Seat) (hs : IsSeat σ) (hq : q < 32) (m n : NatMap ℕ) (mark : MarkStays q m n) (a task next : ℕ)
    (few : (task < 4) × (next < 4)) where
  abbrev there : Where
  there = where_next q σ task next

  abbrev IsThere : Form → Type 0
  IsThere f = IsSpan (span_of there f) × InSpan (span_of there f) a

  in_area : (mode : Mode) → Spares mode q σ m n → IsThere (InArea 0x10 0x18) → n a ≡ m a
  in_area mode spares t =
      let from = t.1.from in let to = t.1.to in
      ⊎_elim (λ (l : (nat_le (pcpu q + 0x20) a ≡ true) × (pcpu q + 0x20 ≤ a)). mark a l.1 (omega arith))
      (λ l. spares.area a (omega arith) l.1) (leb_tells (pcpu q + 0x20) a)

  on_task : (mode : Mode) → Spares mode q σ m n → IsThere (OnTask 0x18) → n a ≡ m a
  on_task mode spares t = let from = t.1.from in let to = t.1.to in let l = few.0 in spares.tasks a (omega arith) (omega arith)

  on_next_task : (mode : Mode) → Spares mode q σ m n → IsThere (OnNextTask 0x18) → n a ≡ m a
  on_next_task mode spares t = let from = t.1.from in let to = t.1.to in let l = few.1 in spares.tasks a (omega arith) (omega arith)

  abbrev SwitchSpared : Mode → Spot → Type 0
  SwitchSpared mode spot = Spares mode q σ m n → InSome IsThere (forms spot).known → n a ≡ m a

  switch_spared : (mode : Mode) (spot : Spot) → is_switch mode spot ≡ true → SwitchSpared mode spot
  unfolding InSome
  switch_spared = each_switch SwitchSpared
      (λ k i. ⊎_elim (λ (t : IsThere (OnStack 0xc0)). let from = t.1.from in let to = t.1.to in let r = hs.room in k.stretch a (omega arith) (omega arith))
      (λ i. ⊎_elim (in_area Fred k)
      (λ i. ⊎_elim (on_task Fred k)
      (λ i. ⊎_elim (on_next_task Fred k)
      (λ i. ⊎_elim (λ (t : IsThere (OnNextStack 0xc0)). let from = t.1.from in let to = t.1.to in k.tops next few.1 a (omega arith) (omega arith))
      (λ i. absurd i) i) i) i) i) i)
      (λ by k i. ⊎_elim (λ (t : IsThere (OnStack 0xb0)). let from = t.1.from in let to = t.1.to in let r = hs.room in k.stretch a (omega arith) (omega arith))
      (λ i. ⊎_elim (in_area Idt k)
      (λ i. ⊎_elim (λ (t : IsThere (InArea 0x408 8)). let from = t.1.from in let to = t.1.to in k.tss a (omega arith) (omega arith))
      (λ i. ⊎_elim (on_task Idt k)
      (λ i. ⊎_elim (on_next_task Idt k)
      (λ i. ⊎_elim (λ (t : IsThere (OnNextStack 0xb0)). let from = t.1.from in let to = t.1.to in k.tops next few.1 a (omega arith) (omega arith))
      (λ i. absurd i) i) i) i) i) i) i)

-- the record that an activation of q fills is as it was
abbrev pub FillStays : ℕ → Option Filling → (m n : NatMap ℕ) → Type 0
FillStays q None m n = Unit {0}
FillStays q (Some f) m n = RecordStays (record { from = q; site = f.site }) m n

-- So are the records of each context's calls, and that which it fills.
abbrev pub AreKept : ℕ → List (Option Filling) → List BodyContext → (m n : NatMap ℕ) → Type 0
AreKept q fs [] m n = Unit {0}
AreKept q fs (b ∷ below) m n = (RecordsStay b.calls m n × FillStays q (first_fill fs) m n) × AreKept q (rest_fills fs) below m n

-- the sites of records that are filled are those of a processor
abbrev pub IsSmall : Option Filling → Type 0
IsSmall None = Unit {0}
IsSmall (Some f) = f.site < 8

-- of each
abbrev pub AreSmall : List (Option Filling) → Type 0
AreSmall [] = Unit {0}
AreSmall (f ∷ fs) = IsSmall f × AreSmall fs

pub free_small : (records : NatMap CallRecord) (fs : List (Option Filling)) → AreFree records fs → AreSmall fs
free_small records [] h = tt
free_small records (None ∷ fs) h = (tt, free_small records fs h.1)
free_small records (Some f ∷ fs) h = (h.0.small, free_small records fs h.1)

pub first_is_small : (fs : List (Option Filling)) → AreSmall fs → IsSmall (first_fill fs)
first_is_small [] s = tt
first_is_small (f ∷ fs) s = s.0

first_small : (fs : List (Option Filling)) → AreSmall fs → (h : Filling) → first_fill fs ≡ Some h → h.site < 8
first_small [] s h q = absurd (cc)
first_small (f ∷ fs) s h q = subst IsSmall q s.0

pub rest_small : (fs : List (Option Filling)) → AreSmall fs → AreSmall (rest_fills fs)
rest_small [] s = tt
rest_small (f ∷ fs) s = s.1

module _ (mode : Mode) (image : Image) where
  -- so are those of each of these contexts
  abbrev pub AreSpared : (q r : ℕ) → List BodyContext → (m n : NatMap ℕ) → Type 0
  AreSpared q r [] m n = Unit {0}
  AreSpared q r (b ∷ below) m n = (IsSeat (seat_of mode image r (b ∷ below)) × Spares mode q (seat_of mode image r (b ∷ below)) m n) × AreSpared q r below m n

  -- Of what a block's variables say only the lists of calls, and whether a head is one still, speak of words that others write.
  task_again : (mode' : Mode) (spot : Spot) (e : Env) (w : Processor) (b : BodyContext) (f : Option Filling) (m n : NatMap ℕ) → RecordsStay b.calls m n
      → OverTask mode image mode' spot e w b f m → OverTask mode image mode' (weaken spot) e w b f n
  task_again Fred (InFred (FromUser way)) e w b f m n k h = h
  task_again Fred (InFred (fred.Leaves FredToTask)) e w b f m n k h = h
  task_again Fred (InFred (fred.Leaves FredToNext)) e w b f m n k h = h
  task_again Fred (InBody FredFrame s) e w b f m n k h = spot_again mode image m n UserCode e w b k s f h
  task_again Idt (InIdt Sys) e w b f m n k h = h
  task_again Idt (InIdt (Stub UserCode has v)) e w b f m n k h = h
  task_again Idt (InIdt (Common UserCode pf)) e w b f m n k h = h
  task_again Idt (InIdt (idt.Leaves (IdtToTask by))) e w b f m n k h = h
  task_again Idt (InIdt (idt.Leaves (IdtToNext by))) e w b f m n k h = h
  task_again Idt (InBody IdtFrame s) e w b f m n k h = spot_again mode image m n UserCode e w b k s f h
  task_again m' _ e w b f m n k h = absurd h

  body_again : (mode' : Mode) (spot : Spot) (e : Env) (w : Processor) (b : BodyContext) (f : Option Filling) (m n : NatMap ℕ) → RecordsStay b.calls m n
      → OverBody mode image mode' spot e w b f m → OverBody mode image mode' (weaken spot) e w b f n
  body_again Fred (InFred FromKernel) e w b f m n k h = h
  body_again Fred (InFred (fred.Leaves FredToKernel)) e w b f m n k h = h
  body_again Fred (InBody FredFrame s) e w b f m n k h = spot_again mode image m n KernelCode e w b k s f h
  body_again Idt (InIdt (Stub KernelCode has v)) e w b f m n k h = h
  body_again Idt (InIdt (Common KernelCode pf)) e w b f m n k h = h
  body_again Idt (InIdt (idt.Leaves IdtToKernel)) e w b f m n k h = h
  body_again Idt (InBody IdtFrame s) e w b f m n k h = spot_again mode image m n KernelCode e w b k s f h
  body_again m' _ e w b f m n k h = absurd h

  pub means_again : (κ : Kind) (spot : Spot) (e : Env) (w : Processor) (b : BodyContext) (f : Option Filling) (m n : NatMap ℕ) → RecordsStay b.calls m n
      → Means mode image κ spot e w b f m → Means mode image κ (weaken spot) e w b f n
  means_again SystemCall spot e w b f m n k h = task_again mode spot e w b f m n k h
  means_again FromTask spot e w b f m n k h = task_again mode spot e w b f m n k h
  means_again FromBody spot e w b f m n k h = body_again mode spot e w b f m n k h
  means_again NmiFromTask spot e w b f m n k h = absurd h
  means_again NmiFromBody spot e w b f m n k h = absurd h

  -- one that fills no record is at the same spot
  weaken_body : (s : BodySpot) → fills s ≡ false → weaker_body s ≡ s
  weaken_body (InCall (AtLink address func to is_stale)) off = let clash : true ≡ false = off in absurd (cc)
  weaken_body _ off = refl

  weaken_spot : (spot : Spot) → fills_record spot ≡ false → weaken spot ≡ spot
  weaken_spot (InBody layout s) off = ap (InBody layout) (weaken_body s off)
  weaken_spot _ off = refl

  pub means_stay : (κ : Kind) (spot : Spot) (e : Env) (w : Processor) (b : BodyContext) (f : Option Filling) (m n : NatMap ℕ) → fills_record spot ≡ false
      → RecordsStay b.calls m n → Means mode image κ spot e w b f m → Means mode image κ spot e w b f n
  means_stay κ spot e w b f m n off k h = subst (λ y. Means mode image κ y e w b f n) (weaken_spot spot off) (means_again κ spot e w b f m n k h)

  frame_again : (p : ℕ) (f : Frame) (w : Processor) (m n : NatMap ℕ) → FrameIs p f w m → FrameIs p f w n
  frame_again p Held w m n h = h

  if_again : (mode : Mode) (P Q : Type 0) → (P → Q) → IfIdt mode P → IfIdt mode Q
  if_again Idt P Q k h = k h
  if_again Fred P Q k h = h

  pub leads_again : (p : ℕ) (κ : Kind) (f : Frame) (w : Processor) (m n : NatMap ℕ) → Leads mode p κ f w m → Leads mode p κ f w n
  leads_again p SystemCall f w m n h = h
  leads_again p FromTask f w m n h = h
  leads_again p FromBody f w m n h = h
  leads_again p NmiFromTask f w m n h = if_again mode _ _ (frame_again p f w m n) h
  leads_again p NmiFromBody f w m n h = if_again mode _ _ (frame_again p f w m n) h

  -- an activation in a seat, whose block knows the mark only where that stays
  at_stays : (q : ℕ) (κ : Kind) (σ : Seat) (ss : ℕ) (w : Processor) (extra v : ℕ → ℕ) (f : Flags) (spot : Spot) (k : ℕ) (c : Processor) (m : Memory)
      (words : NatMap ℕ) → q < image.processors → image.processors ≤ 8 → IsSeat σ → is_spot mode spot ≡ true → Spares mode q σ m.words words
      → (knows_mark spot ≡ true → MarkStays q m.words words)
      → At (code_table mode image) (block mode spot) k (here mode q κ σ ss w extra v f) c m
      → At (code_table mode image) (block mode spot) k (here mode q κ σ ss w extra v f) c (with_words m words)
  at_stays q κ σ ss w extra v f spot k c m words hq few hs over spares mark a =
      let e : Env = here mode q κ σ ss w extra v f in
      stays (code_table mode image) (block mode spot) k e c m (with_words m words) a refl
      (λ l i. spared_forms mode q σ hs m.words words spares (knows_mark spot) mark (addr e l) (forms spot).known (has_windows mode spot over).known
      (low_windows mode spot over) (known_in mode image q σ hs hq few κ ss w extra v f spot over l i))

  -- and one in an exit to another task
  switch_stays : (q : ℕ) (κ : Kind) (σ : Seat) (ss : ℕ) (w : Processor) (extra v : ℕ → ℕ) (f : Flags) (spot : Spot) (k : ℕ) (c : Processor) (m : Memory)
      (words : NatMap ℕ) → q < image.processors → image.processors ≤ 8 → IsSeat σ → is_switch mode spot ≡ true → (task next : ℕ)
      → NamesTasks q extra task next → Spares mode q σ m.words words → MarkStays q m.words words
      → At (code_table mode image) (block mode spot) k (here mode q κ σ ss w extra v f) c m
      → At (code_table mode image) (block mode spot) k (here mode q κ σ ss w extra v f) c (with_words m words)
  switch_stays q κ σ ss w extra v f spot k c m words hq few hs over task next names spares mark a =
      let e : Env = here mode q κ σ ss w extra v f in
      stays (code_table mode image) (block mode spot) k e c m (with_words m words) a refl
      (λ l i. switch_spared q σ hs (omega arith) m.words words mark (addr e l) task next names.few mode spot over spares
      (switch_known mode image q σ hs hq few κ ss w extra v f task next names spot over l i))

  -- and one that fills a record
  fill_stays : (q : ℕ) (κ : Kind) (σ : Seat) (ss : ℕ) (w : Processor) (extra v : ℕ → ℕ) (f : Flags) (spot : Spot) (k : ℕ) (c : Processor) (m : Memory)
      (words : NatMap ℕ) → q < image.processors → image.processors ≤ 8 → IsSeat σ → is_fill mode spot ≡ true → (site : ℕ) → site < 8
      → extra 22 ≡ record_address q site → Spares mode q σ m.words words → RecordStays (record { from = q; site = site }) m.words words
      → At (code_table mode image) (block mode spot) k (here mode q κ σ ss w extra v f) c m
      → At (code_table mode image) (block mode spot) k (here mode q κ σ ss w extra v f) c (with_words m words)
  fill_stays q κ σ ss w extra v f spot k c m words hq few hs over site small base spares record_stays a =
      let e : Env = here mode q κ σ ss w extra v f in
      stays (code_table mode image) (block mode spot) k e c m (with_words m words) a refl
      (λ l i. in_one mode (addr e l) spares record_stays (fill_known mode image q σ hs hq few κ ss w extra v f site small base spot over l i))
    where
      in_one : (m' : Mode) (a : ℕ) → Spares mode q σ m.words words → RecordStays (record { from = q; site = site }) m.words words
          → InOne mode image q σ hs hq few κ ss w extra v f site small base mode a → words a ≡ m.words a
      in_one m' a sp rs (inl t) =
          let from = t.1.from in let to = t.1.to in
          let e : record_address q site + (a - record_address q site) ≡ a = omega arith in
          sym (ap words e) ∙ rs (a - record_address q site) (omega arith) ∙ ap m.words e
      in_one m' a sp rs (inr t) = on_stack mode sp t
        where
          on_stack : (m' : Mode) → Spares m' q σ m.words words
              → IsSpan (span_of (where_fill q σ site) (OnStack (body_bytes (layout_of m'))))
              × InSpan (span_of (where_fill q σ site) (OnStack (body_bytes (layout_of m')))) a → words a ≡ m.words a
          on_stack Fred sp t = let from = t.1.from in let to = t.1.to in let r = hs.room in sp.stretch a (omega arith) (omega arith)
          on_stack Idt sp t = let from = t.1.from in let to = t.1.to in let r = hs.room in sp.stretch a (omega arith) (omega arith)

  -- The blocks of a spot and of the weaker one are one, and it is the same that they write and know; of edges there are few more.
  weaken_block : (mode' : Mode) (spot : Spot) → block mode' (weaken spot) ≡ block mode' spot
  weaken_block Fred (InBody layout (InCall (AtLink address func to is_stale))) = refl
  weaken_block Idt (InBody layout (InCall (AtLink address func to is_stale))) = refl
  weaken_block mode' _ = refl

  weaken_switches : (spot : Spot) → blocks.switches (weaken spot) ≡ blocks.switches spot
  weaken_switches (InFred s) = refl
  weaken_switches (InIdt s) = refl
  weaken_switches (InNmi s) = refl
  weaken_switches (InBody layout s) = refl

  weaken_holds : (spot : Spot) → blocks.holds (weaken spot) ≡ blocks.holds spot
  weaken_holds (InFred s) = refl
  weaken_holds (InIdt s) = refl
  weaken_holds (InNmi s) = refl
  weaken_holds (InBody layout s) = refl

  weaken_fills : (spot : Spot) → fills_record (weaken spot) ≡ fills_record spot
  weaken_fills (InBody layout (InCall (AtLink address func to is_stale))) = refl
  weaken_fills _ = refl

  weaken_edges : (mode' : Mode) (spot : Spot) (k left left' : ℕ) → left ≤ left' → 8 ≤ left' → edges mode' spot k ≤ left → edges mode' (weaken spot) k ≤ left'
  weaken_edges Fred (InBody layout (InCall (AtLink address func to true))) k left left' l few h = omega arith
  weaken_edges Fred (InBody layout (InCall (AtLink address func to false))) k left left' l few h = omega arith
  weaken_edges Idt (InBody layout (InCall (AtLink address func to true))) k left left' l few h = omega arith
  weaken_edges Idt (InBody layout (InCall (AtLink address func to false))) k left left' l few h = omega arith
  weaken_edges mode' _ k left left' l few h = omega (arith, l, h)

  pub active_stays : (κ : Kind) (q left left' : ℕ) (σ : Seat) (f : Frame) (sw : Bool) (g : Option Filling) (w : Processor) (b : BodyContext) (c : Processor)
      (m : Memory) (words : NatMap ℕ) → q < image.processors → image.processors ≤ 8 → IsSeat σ → Spares mode q σ m.words words
      → RecordsStay b.calls m.words words → FillStays q g m.words words → ((h : Filling) → g ≡ Some h → h.site < 8)
      → (code_end ≤ c.rip) ⊎ MarkStays q m.words words → left ≤ left' → 8 ≤ left'
      → Active mode image q left κ σ f sw g w b c m → Active mode image q left' κ σ f sw g w b c (with_words m words)
  active_stays κ q left left' σ f sw g w b c m words hq few hs spares calls filled small mark l more a = record {
    stands = record {
      spot = weaken a.stands.spot;
      k = a.stands.k;
      extra = a.stands.extra;
      var = a.stands.var;
      flags = a.stands.flags;
      ss = a.stands.ss;
      ss_is = a.stands.ss_is;
      masked = a.stands.masked;
      within = subst (λ (B : Block). a.stands.k ≤ B.steps) (sym (weaken_block mode a.stands.spot)) a.stands.within;
      enough = weaken_edges mode a.stands.spot a.stands.k left left' l more a.stands.enough;
      at = subst (λ B. At (code_table mode image) B a.stands.k (here mode q κ σ a.stands.ss w a.stands.extra a.stands.var a.stands.flags) c
          (with_words m words))
          (sym (weaken_block mode a.stands.spot)) (by_switch (blocks.switches a.stands.spot) refl (fills_record a.stands.spot) refl);
      long = a.stands.long;
    };
    switches = weaken_switches a.stands.spot ∙ a.switches;
    fills = weaken_fills a.stands.spot ∙ a.fills;
    knows = subst (λ t. Knows mode κ t f) (sym (weaken_holds a.stands.spot)) a.knows;
    means = means_again κ a.stands.spot _ w b g m.words words calls a.means;
  }
    where
      -- no exit is in the bodies' code
      exits_stay : every is_elsewhere (block mode a.stands.spot) ≡ true → MarkStays q m.words words
      exits_stay h = ⊎_elim
          (λ l. absurd (not_in_bodies (code_table mode image) (block mode a.stands.spot) a.stands.k _ c m a.stands.at refl a.stands.within h l)) (λ k. k) mark

      by_switch : (t : Bool) → blocks.switches a.stands.spot ≡ t → (u : Bool) → fills_record a.stands.spot ≡ u
          → At (code_table mode image) (block mode a.stands.spot) a.stands.k (here mode q κ σ a.stands.ss w a.stands.extra a.stands.var a.stands.flags) c
          (with_words m words)
      by_switch true on u r =
          let t = means_switch mode image κ a.stands.spot _ w b g m.words a.means on in
          let names = names_tasks mode image q κ σ a.stands.ss w a.stands.extra a.stands.var a.stands.flags _ w b t.1 in
          switch_stays q κ σ a.stands.ss w a.stands.extra a.stands.var a.stands.flags a.stands.spot a.stands.k c m words hq few hs t.0
          t.1.task t.1.next names.1 spares
          (exits_stay (switch_elsewhere mode a.stands.spot t.0)) a.stands.at
      by_switch false off true on =
          let t = means_fills mode image κ a.stands.spot _ w b g m.words a.means on in
          let z = t.1.fills in
          let site : ℕ = z.site in
          fill_stays q κ σ a.stands.ss w a.stands.extra a.stands.var a.stands.flags a.stands.spot a.stands.k c m words hq few hs t.0 site
          (small (record { site = site; number = z.number }) z.is) z.at spares (subst (λ y. FillStays q y m.words words) z.is filled) a.stands.at
      by_switch false off false none =
          let over = means_over mode image κ a.stands.spot _ w b g m.words a.means off none in
          at_stays q κ σ a.stands.ss w a.stands.extra a.stands.var a.stands.flags a.stands.spot a.stands.k c m words hq few hs over spares
          (λ k. exits_stay (mark_elsewhere mode a.stands.spot over k)) a.stands.at

  -- what is interrupted stands in the bodies' code
  pub marks_under : (q : ℕ) (below : List BodyContext) (w v : Processor) (as' : List Activation) (m n : NatMap ℕ) → Interrupted mode image below w as'
      → v.rip ≡ w.rip → MarkSpared q below v m n
  marks_under q [] w v as' m n h e = tt
  marks_under q (b ∷ below) w v [] m n h e = absurd h
  marks_under q (b ∷ below) w v (a ∷ as') m n h e = inl (subst (λ y. code_end ≤ y) (sym e) h.2)

  -- and every context below it
  pub chain_stays : (q left left' r to : ℕ) (t : Task) (f : Frame) (sw : Bool) (fs : List (Option Filling)) (bs : List BodyContext) (as' : List Activation)
      (c : Processor) (m : Memory) (words : NatMap ℕ) → q < image.processors → image.processors ≤ 8 → AreSpared q r bs m.words words
      → AreKept q fs bs m.words words → AreSmall fs → MarkSpared q bs c m.words words → left ≤ left' → 8 ≤ left'
      → Chain mode image q left r to t f sw fs bs as' c m → Chain mode image q left' r to t f sw fs bs as' c (with_words m words)
  chain_stays q left left' r to t f sw fs [] as' c m words hq few spares kept small mark l more h = h
  chain_stays q left left' r to t f sw fs (b ∷ below) [] c m words hq few spares kept small mark l more h = h
  chain_stays q left left' r to t f sw fs (b ∷ below) (a ∷ as') c m words hq few spares kept small mark l more h = (
    h.0,
    h.1,
    h.2,
    h.3,
    beneath_as mode image (keeps_cr2 mode image (kind_of image b below)) _ _ h.0
        (λ v e k. chain_stays q (body_edges mode image) (body_edges mode image) r to t f (chained mode image sw below)
        (rest_fills fs) below as' v m words hq few
        spares.1 kept.1 (rest_small fs small) (marks_under q below h.0 v as' m.words words h.3 e) (omega arith) (omega arith) k) h.4,
    leads_again q (kind_of image b below) f h.0 m.words words h.5,
    active_stays (kind_of image b below) q left left' (seat_of mode image r (b ∷ below)) f (switches_at mode image sw below) (first_fill fs) h.0 b c m words
        hq few spares.0.0 spares.0.1 kept.0.0 kept.0.1 (first_small fs small) mark l more h.6,
  )

-- ---- who spares them

-- no more than 32 activations find room on a stack
pub seat_under_fits : (mode : Mode) (r n : ℕ) → r < 7 → n < 32 → IsSeat (seat_under mode r n)
seat_under_fits Fred r n hr hn = record { stack = hr; room = omega arith; aligned = omega arith }
seat_under_fits Idt r n hr hn = record { stack = hr; room = omega arith; aligned = omega arith }

pub seat_fits : (mode : Mode) (image : Image) (r : ℕ) (b : BodyContext) (below : List BodyContext) → ArePlain image (b ∷ below) → r < 7 → length below < 32
    → IsSeat (seat_of mode image r (b ∷ below))
seat_fits mode image r b below plain hr hn = subst IsSeat (sym (plain_seat mode image r b below plain)) (seat_under_fits mode r (length below) hr hn)

-- each seat of a chain
each_spared : (mode : Mode) (image : Image) (q r : ℕ) (m n : NatMap ℕ) (bs : List BodyContext) (k : ℕ) → ArePlain image bs → r < 7 → k ≤ 32 → length bs ≤ k
    → ((i : ℕ) → i < k → Spares mode q (seat_under mode r i) m n) → AreSpared mode image q r bs m n
each_spared mode image q r m n [] k plain hr few l spares = tt
each_spared mode image q r m n (b ∷ below) k plain hr few l spares = (
  (
    seat_fits mode image r b below plain hr (omega arith),
    subst (λ σ. Spares mode q σ m n) (sym (plain_seat mode image r b below plain)) (spares (length below) (omega arith)),
  ),
  each_spared mode image q r m n below k plain.1 hr few (omega arith) spares,
)

-- a step of another processor
pub others_spared : (mode : Mode) (image : Image) (p q r : ℕ) (σ : Seat) (names : List Named) (m n : NatMap ℕ) (bs : List BodyContext) → p < 32
    → σ.stack < 7 → q < 32 → (q ≡ p → ⊥) → AreWritten names → NoneOf q names → Changes p σ names m n → ArePlain image bs → r < 7 → length bs ≤ 32
    → AreSpared mode image q r bs m n
others_spared mode image p q r σ names m n bs hp hs hq d written none changes plain hr few =
    each_spared mode image q r m n bs 32 plain hr (omega arith) few (λ i l. record {
      stretch = stretches i l;
      area = λ a h k. area_stays p σ names m n hp hs written changes q hq none a h (omega arith) (inl (omega arith));
      tss = λ a h k. area_stays p σ names m n hp hs written changes q hq none a (omega arith) (omega arith) (inr (omega arith, omega arith));
      tasks = λ a h k. fixed_stays p σ names m n hp hs written changes a (InTasks h k);
      tops = λ j l a h k. let b = on_its_stack mode q j a h in stacks_stay p σ names m n hp hs written changes q d a (omega arith) (omega arith);
    })
  where
    stretches : (i : ℕ) → i < 32 → (a : ℕ) → top_at q (seat_under mode r i) ≤ a + area_bytes mode → a < top_at q (seat_under mode r i) → n a ≡ m a
    stretches i l a h k =
        let s = (area_small mode).0 in let room = (seat_under_fits mode r i hr l).room in
        stacks_stay p σ names m n hp hs written changes q d a (omega arith) (omega arith)

-- the offsets of private words have no other name
abbrev IsPrivateOffset : ℕ → Type 0
IsPrivateOffset o = (o < 0x20) ⊎ ((0x408 ≤ o) × (o < 0x410))

private_low : (o : ℕ) → IsPrivateOffset o → o < 0x10000
private_low o (inl h) = omega arith
private_low o (inr h) = let l = h.1 in omega arith

beside_private : (a o : ℕ) → 0x20 ≤ a → a + 8 ≤ 0x408 → IsPrivateOffset o → (o < a) ⊎ (a + 8 ≤ o)
beside_private a o l u (inl h) = inl (omega arith)
beside_private a o l u (inr h) = let b = h.0 in inr (omega arith)

private_apart : (x : Named) → IsWritten x → not (is_private x) ≡ true → (q o : ℕ) → q < 32 → IsPrivateOffset o
    → Outside (address_of x) (address_of x + 8) (pcpu q + o)
private_apart (UserRsp p) w s q o hq h = let clash : false ≡ true = s in absurd (cc)
private_apart (Top p) w s q o hq h = let clash : false ≡ true = s in absurd (cc)
private_apart (Current p) w s q o hq h = let clash : false ≡ true = s in absurd (cc)
private_apart (Mark p) w s q o hq h = area_word p q 0x20 o (omega arith) (private_low o h) (beside_private 0x20 o (omega arith) (omega arith) h)
private_apart (Port p) w s q o hq h = area_word p q 0x28 o (omega arith) (private_low o h) (beside_private 0x28 o (omega arith) (omega arith) h)
private_apart (Head p) w s q o hq h = area_word p q 0x30 o (omega arith) (private_low o h) (beside_private 0x30 o (omega arith) (omega arith) h)
private_apart (TssTop p) w s q o hq h = let clash : false ≡ true = s in absurd (cc)
private_apart (Slot p i) w s q o hq h =
    let l = w.1 in area_word p q (0x200 + 8 * i) o (omega arith) (private_low o h) (beside_private (0x200 + 8 * i) o (omega arith) (omega arith) h)
private_apart (RecordWord p i j) w s q o hq h =
    let l = w.1 in let b = w.2 in
    subst (λ z. Outside z (z + 8) (pcpu q + o)) (let e : pcpu p + (0x800 + 0x40 * i + j) ≡ record_address p i + j = omega arith in e)
    (area_word p q (0x800 + 0x40 * i + j) o (omega arith) (private_low o h) (inl (before_records o h)))
  where
    before_records : (o : ℕ) → IsPrivateOffset o → o < 0x800 + 0x40 * i + j
    before_records o (inl h) = omega arith
    before_records o (inr h) = let l = h.1 in omega arith
private_apart (CellAt i) w s q o hq h = let l = private_low o h in inl (omega arith)
private_apart (PageBit i) w s q o hq h = let l = private_low o h in inl (omega arith)
private_apart (UserWord b) w s q o hq h = let c = w.1 in inr (omega arith)

private_free : (names : List Named) → AreWritten names → have_none is_private names ≡ true → (p o : ℕ) → p < 32 → IsPrivateOffset o
    → NotNamed names (pcpu p + o)
private_free [] w s p o hp h = tt
private_free (x ∷ xs) w s p o hp h =
    (private_apart x w.0 (and_left (not (is_private x)) _ s) p o hp h, private_free xs w.1 (and_right (not (is_private x)) _ s) p o hp h)

-- a step of the activation that stands on them
pub below_spared : (mode : Mode) (image : Image) (p r : ℕ) (names : List Named) (m n : NatMap ℕ) (b : BodyContext) (below : List BodyContext) → p < 32 → r < 7
    → length below < 32 → AreWritten names → UnknownTo below names → Changes p (seat_of mode image r (b ∷ below)) names m n → ArePlain image (b ∷ below)
    → AreSpared mode image p r below m n
below_spared mode image p r names m n b below hp hr few written unknown changes plain =
    go below plain.1 unknown few (subst (λ σ. Changes p σ names m n) (plain_seat mode image r b below plain) changes)
  where
    go : (ds : List BodyContext) → ArePlain image ds → UnknownTo ds names → length ds < 32 → Changes p (seat_under mode r (length ds)) names m n
        → AreSpared mode image p r ds m n
    go [] pl un l ch = tt
    go (d ∷ ds) pl un l ch = each_spared mode image p r m n (d ∷ ds) (length (d ∷ ds)) pl hr (omega arith) (omega arith) (λ i li. record {
      stretch = λ a h k. ch a (inr (above mode i (suc (length ds)) a li h)) (stack_unnamed names written a (on_stack mode i a (omega arith) h));
      area = λ a h k. ch a (inl (omega arith)) (in_area a (a - pcpu p) (omega arith) (inl (omega arith)));
      tss = λ a h k. ch a (inl (omega arith)) (in_area a (a - pcpu p) (omega arith) (inr (omega arith, omega arith)));
      tasks = λ a h k. fixed_stays p (seat_under mode r (suc (length ds))) names m n hp hr written ch a (InTasks h k);
      tops = λ j l a h k. beside_stays p (seat_under mode r (suc (length ds))) names m n hp hr written ch mode j (omega arith)
          (inr (area_under mode r (length ds))) a h k;
    })
      where
        in_area : (a o : ℕ) → pcpu p + o ≡ a → IsPrivateOffset o → NotNamed names a
        in_area a o e h = subst (NotNamed names) e (private_free names written un p o hp h)

        above : (mode : Mode) (i l a : ℕ) → i < l → top_at p (seat_under mode r i) ≤ a + area_bytes mode → top_at p (seat_under mode r l) ≤ a
        above Fred i l a li h = omega arith
        above Idt i l a li h = omega arith

        on_stack : (mode : Mode) (i a : ℕ) → i < 32 → top_at p (seat_under mode r i) ≤ a + area_bytes mode → 0xffffc90000000000 ≤ a
        on_stack Fred i a li h = omega arith
        on_stack Idt i a li h = omega arith
