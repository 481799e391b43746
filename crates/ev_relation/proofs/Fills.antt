-- Activations that fill a call record: their windows, of which one is the record, what their steps write, and where their blocks end.
use Rattle.std.proofs.Common.{◌≡◌, ◌⊎◌, inl, inr, ⊎_elim, ℕ, ◌+◌, ◌-◌, ◌<◌, ◌≤◌, Bool, true, false, ◌&&◌, List, Option, Some, refl, sym, ap, ◌∙◌, subst, arith}
use Rattle.std.specs.Prelude.{nat_le, nat_lt, if◌then◌else◌}
use Rattle.std.proofs.lemmas.Bool.{leb-true, ltb-true, le-leb, lt-ltb}
use Rattle.ev_isa.specs.Spelling.{spelling, four_bytes}
use Rattle.ev_isa.specs.Word.{NatMap}
use Rattle.ev_isa.specs.Flags.{Flags}
use Rattle.ev_isa.specs.declared.mode.Mode.{Mode}
use Rattle.ev_isa.specs.declared.mode.Mode.TheVariants.{Idt, Fred}
use Rattle.ev_body.specs.declared.image.Image.{Image}
use Rattle.ev_listing.specs.AddressMap.{record_address, stack_top, stack_bytes}
use Rattle.ev_state.specs.Processor.{Processor}
use Rattle.ev_mem.specs.Memory.{Memory}
use Rattle.ev_proc.specs.ProcessorStep.{has_fred}
use Rattle.ev_abstract.specs.Context.{BodyContext}
use Rattle.ev_concrete.specs.Opening.{regions}
use Rattle.ev_symbolic.specs.State.{SS, Block, Loc, in_win}
use Rattle.ev_symbolic.specs.Run.{brun, every}
use Rattle.ev_symbolic.specs.Agrees.{Env, addr, FactsHold, Described, AreTops, Open, Within, Stands, Fits}
use Rattle.ev_symbolic.proofs.Values.{and_left, and_right}
use Rattle.ev_distances.specs.Span.{IsSpan, InSpan}
use Rattle.ev_distances.specs.Form.{Form, OnStack, InRecord, Where, span_of, IsWhere, Fitting}
use Rattle.ev_distances.proofs.ByForm.{located, forms_open}
use Rattle.ev_blocks.specs.Shapes.{Layout, Origin, FredFrame, IdtFrame, Forms, body_bytes}
use Rattle.ev_blocks.specs.Calls.{AtFill, AtHead, AtLink, BehindFailure, record_forms}
use Rattle.ev_blocks.specs.Items.{BodySpot, InCall, fills, body_block, body_spot_forms, forms_of}
use Rattle.ev_blocks.specs.Blocks.{Spot, InBody, block, forms}
use Rattle.ev_paths.proofs.CallEnds.{call_ends}
use Rattle.ev_grounds.proofs.Grounds.{windows_fit, all_grounded}
use Rattle.ev_activation.specs.Seat.{Kind, SystemCall, FromTask, FromBody, NmiFromTask, NmiFromBody, Seat, top_at}
use Rattle.ev_table.specs.Table.{code_table}
use Rattle.ev_relation.specs.Filling.{Filling}
use Rattle.ev_relation.specs.Named.{record_names, Outside, NotNamed, Changes}
use Rattle.ev_relation.specs.Active.{here, InSpot, OverTask, OverBody, Means, Fills, fills_record}
use Rattle.ev_relation.proofs.Facts.{Facts}
use Rattle.ev_relation.proofs.ModeFacts.{is_fred}
use Rattle.ev_relation.proofs.Spots.{layout_of, is_in_item, BodyGround, body_ground}
use Rattle.ev_relation.proofs.Fits.{IsSeat, InBodies, InSome, which_form}

-- ---- which they are, and what their variables mean

-- the spots of `call` from where it has found its record free
abbrev pub is_fill_spot : BodySpot → Bool
is_fill_spot (InCall (AtFill address func to s)) = nat_le 6 s && nat_lt s 14
is_fill_spot (InCall (AtHead address func to)) = true
is_fill_spot (InCall (AtLink address func to is_stale)) = true
is_fill_spot (InCall (BehindFailure address func to)) = true
is_fill_spot s = false

-- in a body of the mode
abbrev pub is_fill : Mode → Spot → Bool
is_fill Fred (InBody FredFrame s) = is_fill_spot s
is_fill Idt (InBody IdtFrame s) = is_fill_spot s
is_fill mode spot = false

-- the record that an activation fills, by the numbers of its item
pub record FillsOne (mode : Mode) (image : Image) (e : Env) (b : BodyContext) (f : Option Filling) : Type 0 where
  pub address : ℕ
  pub func : ℕ
  pub to : ℕ
  pub s : ℕ
  pub fills : Fills mode image e b f address func to s

-- what it means says so
pub spot_fills : (mode : Mode) (image : Image) (o : Origin) (s : BodySpot) (e : Env) (w : Processor) (b : BodyContext) (f : Option Filling) (m : NatMap ℕ)
    → InSpot mode image o s e w b f m → fills s ≡ true → (is_fill_spot s ≡ true) × FillsOne mode image e b f
spot_fills mode image o (InCall (AtFill address func to s)) e w b f m h on =
    let l = h.2.is_local in (
      ap (λ t. t && nat_lt s 14) (le-leb 6 s l.0) ∙ lt-ltb s 14 l.1,
      record { address = address; func = func; to = to; s = s; fills = h.2 },
    )
spot_fills mode image o (InCall (AtHead address func to)) e w b f m h on =
    (refl, record { address = address; func = func; to = to; s = h.2.s; fills = h.2.fills })
spot_fills mode image o (InCall (AtLink address func to is_stale)) e w b f m h on =
    (refl, record { address = address; func = func; to = to; s = h.2.s; fills = h.2.fills })
spot_fills mode image o (InCall (BehindFailure address func to)) e w b f m h on =
    (refl, record { address = address; func = func; to = to; s = h.2.s; fills = h.2.fills })
spot_fills mode image o _ e w b f m h on = let clash : false ≡ true = on in absurd (cc)

task_fills : (mode : Mode) (image : Image) (m : Mode) (spot : Spot) (e : Env) (w : Processor) (b : BodyContext) (f : Option Filling) (words : NatMap ℕ)
    → OverTask mode image m spot e w b f words → fills_record spot ≡ true → (is_fill m spot ≡ true) × FillsOne mode image e b f
task_fills mode image Fred (InBody FredFrame s) e w b f words h on = spot_fills mode image _ s e w b f words h on
task_fills mode image Idt (InBody IdtFrame s) e w b f words h on = spot_fills mode image _ s e w b f words h on
task_fills mode image m (InBody layout s) e w b f words h on = absurd h
task_fills mode image m _ e w b f words h on = let clash : false ≡ true = on in absurd (cc)

body_fills : (mode : Mode) (image : Image) (m : Mode) (spot : Spot) (e : Env) (w : Processor) (b : BodyContext) (f : Option Filling) (words : NatMap ℕ)
    → OverBody mode image m spot e w b f words → fills_record spot ≡ true → (is_fill m spot ≡ true) × FillsOne mode image e b f
body_fills mode image Fred (InBody FredFrame s) e w b f words h on = spot_fills mode image _ s e w b f words h on
body_fills mode image Idt (InBody IdtFrame s) e w b f words h on = spot_fills mode image _ s e w b f words h on
body_fills mode image m (InBody layout s) e w b f words h on = absurd h
body_fills mode image m _ e w b f words h on = let clash : false ≡ true = on in absurd (cc)

pub means_fills : (mode : Mode) (image : Image) (κ : Kind) (spot : Spot) (e : Env) (w : Processor) (b : BodyContext) (f : Option Filling) (m : NatMap ℕ)
    → Means mode image κ spot e w b f m → fills_record spot ≡ true → (is_fill mode spot ≡ true) × FillsOne mode image e b f
means_fills mode image SystemCall spot e w b f m h on = task_fills mode image mode spot e w b f m h on
means_fills mode image FromTask spot e w b f m h on = task_fills mode image mode spot e w b f m h on
means_fills mode image FromBody spot e w b f m h on = body_fills mode image mode spot e w b f m h on
means_fills mode image NmiFromTask spot e w b f m h on = absurd h
means_fills mode image NmiFromBody spot e w b f m h on = absurd h

-- what holds of those of either mode holds of each
pub each_fill : (P : Mode → Spot → Type 0) → ((s : BodySpot) → is_fill_spot s ≡ true → P Fred (InBody FredFrame s))
    → ((s : BodySpot) → is_fill_spot s ≡ true → P Idt (InBody IdtFrame s)) → (mode : Mode) (spot : Spot) → is_fill mode spot ≡ true → P mode spot
each_fill P a b Fred (InBody FredFrame s) h = a s h
each_fill P a b Idt (InBody IdtFrame s) h = b s h
each_fill P a b mode _ h = let clash : false ≡ true = h in absurd (cc)

-- ---- closed facts of their blocks

fill_is : (s : BodySpot) → is_fill_spot s ≡ true → fills s ≡ true
fill_is (InCall (AtFill address func to s)) h = refl
fill_is (InCall (AtHead address func to)) h = refl
fill_is (InCall (AtLink address func to is_stale)) h = refl
fill_is (InCall (BehindFailure address func to)) h = refl
fill_is _ h = let clash : false ≡ true = h in absurd (cc)

fill_forms : (layout : Layout) (s : BodySpot) → is_fill_spot s ≡ true → body_spot_forms layout s ≡ record_forms layout
fill_forms layout s h = ap (λ t. if t then record_forms layout else forms_of layout) (fill_is s h)

abbrev RunsToEnd : Mode → Spot → Type 0
RunsToEnd mode spot = (z : SS) × (brun (block mode spot) (block mode spot).steps ≡ Some z)

ends : (fred : Bool) (layout : Layout) (s : BodySpot) → is_fill_spot s ≡ true
    → (z : SS) × (brun (body_block fred layout s) (body_block fred layout s).steps ≡ Some z)
ends fred layout (InCall (AtFill address func to s)) h =
    (_, ((call_ends fred layout).fills address func to s (leb-true 6 s (and_left (nat_le 6 s) _ h)) (ltb-true s 14 (and_right (nat_le 6 s) _ h))).runs)
ends fred layout (InCall (AtHead address func to)) h = (_, refl)
ends fred layout (InCall (AtLink address func to is_stale)) h = (_, ((call_ends fred layout).links address func to is_stale).runs)
ends fred layout (InCall (BehindFailure address func to)) h = (_, refl)
ends fred layout _ h = let clash : false ≡ true = h in absurd (cc)

pub fill_ends : (mode : Mode) (spot : Spot) → is_fill mode spot ≡ true → RunsToEnd mode spot
fill_ends = each_fill RunsToEnd (ends true FredFrame) (ends false IdtFrame)

pub fill_inside : (fred : Bool) (layout : Layout) (s : BodySpot) → is_fill_spot s ≡ true → every is_in_item (body_block fred layout s) ≡ true
unfolding spelling four_bytes
fill_inside fred layout (InCall (AtFill address func to s)) h = refl
fill_inside fred layout (InCall (AtHead address func to)) h = refl
fill_inside fred layout (InCall (AtLink address func to is_stale)) h = refl
fill_inside fred layout (InCall (BehindFailure address func to)) h = refl
fill_inside fred layout _ h = let clash : false ≡ true = h in absurd (cc)

no_facts : (fred : Bool) (layout : Layout) (s : BodySpot) → is_fill_spot s ≡ true → (e : Env) → FactsHold e (body_block fred layout s).ground.facts
no_facts fred layout (InCall (AtFill address func to s)) h e = tt
no_facts fred layout (InCall (AtHead address func to)) h e = tt
no_facts fred layout (InCall (AtLink address func to is_stale)) h e = tt
no_facts fred layout (InCall (BehindFailure address func to)) h e = tt
no_facts fred layout _ h e = let clash : false ≡ true = h in absurd (cc)

-- ---- where an activation stands that fills the record of a site

abbrev pub where_fill : ℕ → Seat → ℕ → Where
where_fill p σ site = record { p = p; stack = σ.stack; used = σ.used; task = 0; next = 0; site = site }

module _ (mode : Mode) (image : Image) (p : ℕ) (σ : Seat) (hs : IsSeat σ) (hp : p < image.processors) (few : image.processors ≤ 8)
    (κ : Kind) (ss : ℕ) (w : Processor) (extra v : ℕ → ℕ) (f : Flags) (site : ℕ) (small : site < 8) (base : extra 22 ≡ record_address p site) where
  abbrev env : Env
  env = here mode p κ σ ss w extra v f

  abbrev at : Where
  at = where_fill p σ site

  -- its stack and the record
  is_at : IsWhere image.processors at
  is_at = record {
    processor = hp;
    few = few;
    stack = hs.stack;
    task = omega arith;
    next = omega arith;
    site = small;
    aligned = hs.aligned;
  }

  top_is : top_at p σ + σ.used ≡ stack_top p σ.stack
  top_is = let r = hs.room in omega arith

  fitting : (m : Mode) → Fitting image.processors env at (record_forms (layout_of m)).known
  fitting Fred = let r = hs.room in record { at = is_at; forms = refl; bases = (base, (top_is, tt)); room = (omega arith, (omega arith, tt)) }
  fitting Idt = let r = hs.room in record { at = is_at; forms = refl; bases = (base, (top_is, tt)); room = (omega arith, (omega arith, tt)) }

  abbrev KnownFits : Mode → Spot → Type 0
  KnownFits m spot = Fitting image.processors env at (forms spot).known

  known_fits : (m : Mode) (spot : Spot) → is_fill m spot ≡ true → KnownFits m spot
  known_fits = each_fill KnownFits
      (λ s h. subst (λ (g : Forms). Fitting image.processors env at g.known) (sym (fill_forms FredFrame s h)) (fitting Fred))
      (λ s h. subst (λ (g : Forms). Fitting image.processors env at g.known) (sym (fill_forms IdtFrame s h)) (fitting Idt))

  abbrev OwnFits : Mode → Spot → Type 0
  OwnFits m spot = Fitting image.processors env at (forms spot).own

  own_fits : (m : Mode) (spot : Spot) → is_fill m spot ≡ true → OwnFits m spot
  own_fits = each_fill OwnFits
      (λ s h. subst (λ (g : Forms). Fitting image.processors env at g.own) (sym (fill_forms FredFrame s h)) (fitting Fred))
      (λ s h. subst (λ (g : Forms). Fitting image.processors env at g.own) (sym (fill_forms IdtFrame s h)) (fitting Idt))

  -- ---- it fits its block, where the block's lines stand, and the kernel has access to its windows

  fits_in : Facts mode image → (m : Mode) (fred : Bool) (layout : Layout) (s : BodySpot) → is_fill_spot s ≡ true
      → Fitting image.processors env at (forms (InBody layout s)).known → (same : block m (InBody layout s) ≡ body_block fred layout s)
      → has_fred w ≡ fred → InBodies extra → Stands (code_table mode image) env (block m (InBody layout s)).lines
      → Fits (code_table mode image) env (block m (InBody layout s))
  fits_in facts m fred layout s h fits same hf i lines =
      let g : BodyGround fred layout s = body_ground fred layout s in record {
        ground = all_grounded image.processors m env at (InBody layout s) (record {
          fitting = fits;
          zero_base = refl;
          item = i;
          kernel = refl;
          fred = hf ∙ sym (ap (λ (b : Block). b.ground.fred) same ∙ g.setting);
          facts = subst (λ (b : Block). FactsHold env b.ground.facts) (sym same) (no_facts fred layout s h env);
          descriptors = subst (λ (b : Block). Described env b.ground.descriptors) (sym same) (subst (Described env) (sym g.descriptors) tt);
          tops = subst (λ (b : Block). AreTops env b.ground.tops) (sym same) (subst (AreTops env) (sym g.tops) tt);
        });
        spaced = facts.spaced;
        stands = lines;
      }

  pub fill_fits : Facts mode image → (m : Mode) (spot : Spot) → is_fill m spot ≡ true → has_fred w ≡ is_fred m → InBodies extra
      → Stands (code_table mode image) env (block m spot).lines → Fits (code_table mode image) env (block m spot)
  fill_fits facts Fred (InBody FredFrame s) h hf i lines =
      fits_in facts Fred true FredFrame s h (known_fits Fred (InBody FredFrame s) h) refl hf i lines
  fill_fits facts Idt (InBody IdtFrame s) h hf i lines =
      fits_in facts Idt false IdtFrame s h (known_fits Idt (InBody IdtFrame s) h) refl hf i lines
  fill_fits facts m _ h hf i lines = let clash : false ≡ true = h in absurd (cc)

  pub fill_opens : (spot : Spot) → is_fill mode spot ≡ true → (m : Memory) → m.regions ≡ regions image → Open env (block mode spot).ground.known m.regions
  fill_opens spot h m hr = subst (Open env (block mode spot).ground.known) (sym hr)
      (subst (λ W. Open env W (regions image)) (sym (windows_fit mode spot).0.known)
      (forms_open image env at (forms spot).known (known_fits mode spot h)))

  -- ---- where its windows lie

  abbrev pub IsThere : Form → ℕ → Type 0
  IsThere g a = IsSpan (span_of at g) × InSpan (span_of at g) a

  abbrev IsIn : List Form → ℕ → Type 0
  IsIn fs a = InSome (λ g. IsThere g a) fs

  -- in the record or on the stack
  abbrev pub InOne : Mode → ℕ → Type 0
  InOne m a = IsThere InRecord a ⊎ IsThere (OnStack (body_bytes (layout_of m))) a

  in_one : (m : Mode) (a : ℕ) → IsIn (record_forms (layout_of m)).known a → InOne m a
  unfolding InSome
  in_one Fred a i = ⊎_elim (λ t. inl t) (λ u. ⊎_elim (λ t. inr t) (λ t. absurd t) u) i
  in_one Idt a i = ⊎_elim (λ t. inl t) (λ u. ⊎_elim (λ t. inr t) (λ t. absurd t) u) i

  abbrev KnownIn : Mode → Spot → Type 0
  KnownIn m spot = (a : ℕ) → IsIn (forms spot).known a → InOne m a

  known_in : (m : Mode) (spot : Spot) → is_fill m spot ≡ true → KnownIn m spot
  known_in = each_fill KnownIn
      (λ s h a i. in_one Fred a (subst (λ (g : Forms). IsIn g.known a) (fill_forms FredFrame s h) i))
      (λ s h a i. in_one Idt a (subst (λ (g : Forms). IsIn g.known a) (fill_forms IdtFrame s h) i))

  abbrev OwnIn : Mode → Spot → Type 0
  OwnIn m spot = (a : ℕ) → IsIn (forms spot).own a → InOne m a

  own_in : (m : Mode) (spot : Spot) → is_fill m spot ≡ true → OwnIn m spot
  own_in = each_fill OwnIn
      (λ s h a i. in_one Fred a (subst (λ (g : Forms). IsIn g.own a) (fill_forms FredFrame s h) i))
      (λ s h a i. in_one Idt a (subst (λ (g : Forms). IsIn g.own a) (fill_forms IdtFrame s h) i))

  -- an address of its known words
  pub fill_known : (spot : Spot) → is_fill mode spot ≡ true → (l : Loc) → in_win (block mode spot).ground.known l ≡ true → InOne mode (addr env l)
  fill_known spot h l i = known_in mode spot h (addr env l)
      (which_form env at l (forms spot).known (located image.processors env at (forms spot).known (known_fits mode spot h))
      (ap (λ W. in_win W l) (sym (windows_fit mode spot).0.known) ∙ i))

  own_there : (spot : Spot) → is_fill mode spot ≡ true → (a : ℕ) (l : Loc) → in_win (block mode spot).ground.own l ≡ true → a ≡ addr env l
      → InOne mode a
  own_there spot h a l i q = own_in mode spot h a (subst (IsIn (forms spot).own) (sym q)
      (which_form env at l (forms spot).own (located image.processors env at (forms spot).own (own_fits mode spot h))
      (ap (λ W. in_win W l) (sym (windows_fit mode spot).0.own) ∙ i)))

  -- ---- what it writes: its stack and the record

  word_off : (a lo : ℕ) → lo ≤ a → Outside lo (lo + 8) a → lo + 8 ≤ a
  word_off a lo l (inl o) = absurd (omega arith)
  word_off a lo l (inr o) = o

  off_record : (a : ℕ) → record_address p site ≤ a → a < record_address p site + 0x40 → NotNamed (record_names p site) a → ⊥
  off_record a from to d =
      let b : ℕ = record_address p site in
      let h0 : b + 0 + 8 ≤ a = word_off a (b + 0) (omega arith) d.0 in
      let h1 : b + 8 + 8 ≤ a = word_off a (b + 8) (omega arith) d.1.0 in
      let h2 : b + 0x10 + 8 ≤ a = word_off a (b + 0x10) (omega arith) d.1.1.0 in
      let h3 : b + 0x18 + 8 ≤ a = word_off a (b + 0x18) (omega arith) d.1.1.1.0 in
      let h4 : b + 0x20 + 8 ≤ a = word_off a (b + 0x20) (omega arith) d.1.1.1.1.0 in
      let h5 : b + 0x28 + 8 ≤ a = word_off a (b + 0x28) (omega arith) d.1.1.1.1.1.0 in
      let h6 : b + 0x30 + 8 ≤ a = word_off a (b + 0x30) (omega arith) d.1.1.1.1.1.1.0 in
      let h7 : b + 0x38 + 8 ≤ a = word_off a (b + 0x38) (omega arith) d.1.1.1.1.1.1.1.0 in
      omega arith

  off_one : (m : Mode) → body_bytes (layout_of m) ≤ 0xc0 → (a : ℕ) → Outside (stack_top p σ.stack - stack_bytes) (top_at p σ) a
      → NotNamed (record_names p site) a → InOne m a → ⊥
  off_one m l a off d (inl t) = let from = t.1.from in let to = t.1.to in off_record a (omega arith) (omega arith) d
  off_one m l a (inl o) d (inr t) = let from = t.1.from in let r = hs.room in omega arith
  off_one m l a (inr o) d (inr t) = let to = t.1.to in let r = hs.room in omega arith

  bytes_small : (m : Mode) → body_bytes (layout_of m) ≤ 0xc0
  bytes_small Fred = omega arith
  bytes_small Idt = omega arith

  pub fill_changes : (spot : Spot) → is_fill mode spot ≡ true → (m n : NatMap ℕ)
      → Within env (block mode spot).ground.own (block mode spot).ground.shared m n → Changes p σ (record_names p site) m n
  fill_changes spot h m n wrote a off d =
      wrote a (λ l i q. off_one mode (bytes_small mode) a off d (own_there spot h a l i q))
      (λ l i q. let clash : false ≡ true = sym (ap (λ W. in_win W l) (windows_fit mode spot).0.shared) ∙ i in absurd (cc))
