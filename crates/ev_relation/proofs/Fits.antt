-- Activations fit the blocks of their spots: their windows lie apart, the kernel has access to them, and what a step writes there has names.
use Rattle.std.proofs.Common.{◌≡◌, ◌⊎◌, inl, inr, ℕ, ◌+◌, ◌-◌, ◌%◌, ◌<◌, ◌≤◌, Bool, true, false, ◌&&◌, List, [], ◌∷◌, refl, sym, ap, ◌∙◌, subst, arith, ⊎_elim}
use Rattle.std.specs.Prelude.{◌==◌, nat_le}
use Rattle.std.proofs.lemmas.Bool.{eqb-true, leb-true}
use Rattle.ev_isa.specs.Word.{NatMap}
use Rattle.ev_isa.specs.Flags.{Flags}
use Rattle.ev_isa.specs.declared.mode.Mode.{Mode}
use Rattle.ev_body.specs.declared.image.Image.{Image}
use Rattle.ev_listing.specs.AddressMap.{pcpu, stack_top, stack_bytes}
use Rattle.ev_state.specs.Processor.{Processor}
use Rattle.ev_mem.specs.Memory.{Memory}
use Rattle.ev_proc.specs.ProcessorStep.{has_fred}
use Rattle.ev_concrete.specs.Opening.{regions}
use Rattle.ev_symbolic.specs.Value.{M}
use Rattle.ev_symbolic.specs.State.{Loc, top_tag, in_win}
use Rattle.ev_symbolic.specs.Openings.{gs_tag}
use Rattle.ev_symbolic.specs.Agrees.{Stands, Env, addr, FactsHold, Described, AreTops, Open, Within, Fits}
use Rattle.ev_symbolic.proofs.Values.{and_left, and_right}
use Rattle.ev_distances.specs.Span.{IsSpan, InSpan, AllLocated}
use Rattle.ev_distances.specs.Form.{Form, OnStack, Stretch, InArea, Where, span_of, spans_of, wins_of, HasBase, IsWhere, are_forms, Each, HasRoom, Fitting}
use Rattle.ev_distances.proofs.ByForm.{located, forms_open}
use Rattle.ev_distances.proofs.Places.{InWord, cases}
use Rattle.ev_distances.proofs.Spans.{located_in}
use Rattle.ev_blocks.specs.Blocks.{Spot, InFred, InIdt, InNmi, InBody, block, forms}
use Rattle.ev_grounds.specs.Grounds.{HasItem}
use Rattle.ev_grounds.proofs.Grounds.{windows_fit, all_grounded}
use Rattle.ev_activation.specs.Seat.{Kind, Seat, top_at}
use Rattle.ev_table.specs.Table.{code_table}
use Rattle.ev_relation.specs.Active.{here}
use Rattle.ev_concrete.specs.LiveWords.{area_bytes}
use Rattle.ev_relation.specs.Named.{Outside, NotNamed, Changes}
use Rattle.ev_relation.proofs.Facts.{Facts}
use Rattle.ev_relation.proofs.ModeFacts.{is_fred}
use Rattle.ev_relation.proofs.Spots.{is_spot, keeps_rsp, names_if, names_at, is_plain, are_plain, is_written, are_written, area_small, has_windows, HasGround, has_ground, IsAtEntry, lines_stand}

-- in a seat, of which the frame and the saved area lie on the stack
pub record IsSeat (σ : Seat) : Type 0 where
  pub stack : σ.stack < 7
  pub room : σ.used + 0xc0 ≤ 0x2000
  pub aligned : σ.used % 8 ≡ 0

-- where an activation stands that switches to no other task and fills no record
abbrev pub where_at : ℕ → Seat → Where
where_at p σ = record { p = p; stack = σ.stack; used = σ.used; task = 0; next = 0; site = 0 }

-- ---- forms on the stack and in the area

module _ (mode : Mode) (n : ℕ) (e : Env) (x : Where) (at : IsWhere n x) (top : e.base top_tag + x.used ≡ stack_top x.p x.stack)
    (area : e.base gs_tag ≡ pcpu x.p) (room : x.used + 0xc0 ≤ 0x2000) where
  based : (f : Form) → is_plain mode f ≡ true → HasBase e x f × HasRoom x f
  based (OnStack k) h = let l = leb-true k (area_bytes mode) h in let s = (area_small mode).0 in (top, omega arith)
  based (Stretch d k) h = let l = leb-true d (area_bytes mode) (and_left (nat_le d (area_bytes mode)) _ h) in let s = (area_small mode).0 in (top, omega arith)
  based (InArea lo k) h = (area, omega arith)
  based _ h = let clash : false ≡ true = h in absurd (cc)

  all_based : (fs : List Form) → are_plain mode fs ≡ true → Each (HasBase e x) fs × Each (HasRoom x) fs
  all_based [] h = (tt, tt)
  all_based (f ∷ fs) h =
      let one = based f (and_left (is_plain mode f) _ h) in
      let rest = all_based fs (and_right (is_plain mode f) _ h) in
      ((one.0, rest.0), (one.1, rest.1))

  pub fitting : (fs : List Form) → are_forms fs ≡ true → are_plain mode fs ≡ true → Fitting n e x fs
  fitting fs forms plain = let b = all_based fs plain in record { at = at; forms = forms; bases = b.0; room = b.1 }

-- ---- which form's interval an address is in

unfoldable pub InSome : (Form → Type 0) → List Form → Type 0
InSome Q [] = ⊥
InSome Q (f ∷ fs) = Q f ⊎ InSome Q fs

module _ (e : Env) (x : Where) (l : Loc) where
  abbrev pub IsThere : Form → Type 0
  IsThere f = IsSpan (span_of x f) × InSpan (span_of x f) (addr e l)

  pub which_form : (fs : List Form) → AllLocated e (wins_of fs) (spans_of x fs) → in_win (wins_of fs) l ≡ true → InSome IsThere fs
  unfolding InSome
  which_form [] h i = let clash : false ≡ true = i in absurd (cc)
  which_form (f ∷ fs) h i = ⊎_elim (λ (y : InWord _ l). inl (h.0.is, located_in e _ (span_of x f) l h.0 y.place)) (λ z. inr (which_form fs h.1 z))
      (cases _ (wins_of fs) l i)

-- an address of a form of the stack, or of the word for RSP
module _ (mode : Mode) (p : ℕ) (σ : Seat) (hs : IsSeat σ) (rsp : Bool) (a : ℕ) where
  off_area : (rsp : Bool) (lo k : ℕ) → NotNamed (names_if rsp p) a → (rsp && ((lo == 8) && (k == 8))) ≡ true → pcpu p + lo ≤ a → a < pcpu p + lo + k → ⊥
  off_area true lo k d h from to =
      let lo_is : lo ≡ 8 = eqb-true lo 8 (and_left (lo == 8) _ h) in
      let k_is : k ≡ 8 = eqb-true k 8 (and_right (lo == 8) _ h) in
      ⊎_elim (λ (o : a < pcpu p + 8). absurd (omega arith)) (λ (o : pcpu p + 8 + 8 ≤ a). absurd (omega arith)) d.0
  off_area false lo k d h from to = let clash : false ≡ true = h in absurd (cc)

  off_form : Outside (stack_top p σ.stack - stack_bytes) (top_at p σ) a → NotNamed (names_if rsp p) a → (f : Form) → is_plain mode f ≡ true
      → is_written rsp f ≡ true → IsSpan (span_of (where_at p σ) f) → InSpan (span_of (where_at p σ) f) a → ⊥
  off_form off d (OnStack k) h i is at = on_stack off
    where
      on_stack : Outside (stack_top p σ.stack - stack_bytes) (top_at p σ) a → ⊥
      on_stack (inl o) =
          let l = leb-true k (area_bytes mode) h in let s = (area_small mode).0 in let from = at.from in let r = hs.room in omega arith
      on_stack (inr o) =
          let l = leb-true k (area_bytes mode) h in let s = (area_small mode).0 in let to = at.to in let r = hs.room in omega arith
  off_form off d (Stretch e k) h i is at = on_stack off
    where
      on_stack : Outside (stack_top p σ.stack - stack_bytes) (top_at p σ) a → ⊥
      on_stack (inl o) =
          let l = leb-true e (area_bytes mode) (and_left (nat_le e (area_bytes mode)) _ h) in
          let s = (area_small mode).0 in let from = at.from in let r = hs.room in omega arith
      on_stack (inr o) =
          let l = leb-true e (area_bytes mode) (and_left (nat_le e (area_bytes mode)) _ h) in
          let l' = leb-true k e (and_right (nat_le e (area_bytes mode)) _ h) in
          let s = (area_small mode).0 in let to = at.to in let r = hs.room in omega arith
  off_form off d (InArea lo k) h i is at = let from = at.from in let to = at.to in off_area rsp lo k d i (omega arith) (omega arith)
  off_form off d _ h i is at = let clash : false ≡ true = h in absurd (cc)

  off_forms : Outside (stack_top p σ.stack - stack_bytes) (top_at p σ) a → NotNamed (names_if rsp p) a → (fs : List Form) → are_plain mode fs ≡ true
      → are_written rsp fs ≡ true → InSome (λ f. IsSpan (span_of (where_at p σ) f) × InSpan (span_of (where_at p σ) f) a) fs → ⊥
  unfolding InSome
  off_forms off d [] h i s = s
  off_forms off d (f ∷ fs) h i s =
      ⊎_elim (λ t. off_form off d f (and_left (is_plain mode f) _ h) (and_left (is_written rsp f) _ i) t.0 t.1)
      (λ t. off_forms off d fs (and_right (is_plain mode f) _ h) (and_right (is_written rsp f) _ i) t) s

-- ---- activations over a task

-- the item's base is an address of the bodies' code
abbrev pub InBodies : (ℕ → ℕ) → Type 0
InBodies extra = (0xffffffff82000000 ≤ extra 20) × (extra 20 + 0x100 ≤ M)

module _ (mode : Mode) (image : Image) (p : ℕ) (σ : Seat) (hs : IsSeat σ) (hp : p < image.processors) (few : image.processors ≤ 8)
    (κ : Kind) (ss : ℕ) (w : Processor) (extra v : ℕ → ℕ) (f : Flags) where
  abbrev pub env : Env
  env = here mode p κ σ ss w extra v f

  fits_forms : (fs : List Form) → are_forms fs ≡ true → are_plain mode fs ≡ true → Fitting image.processors env (where_at p σ) fs
  fits_forms fs forms plain =
      let r = hs.room in
      fitting mode image.processors env (where_at p σ)
      (record { processor = hp; few = few; stack = hs.stack; task = omega arith; next = omega arith; site = omega arith; aligned = hs.aligned })
      (let e : top_at p σ + σ.used ≡ stack_top p σ.stack = omega arith in e) refl hs.room fs forms plain

  known_fits : (spot : Spot) → is_spot mode spot ≡ true → Fitting image.processors env (where_at p σ) (forms spot).known
  known_fits spot h = fits_forms (forms spot).known (windows_fit mode spot).1.known (has_windows mode spot h).known

  own_fits : (spot : Spot) → is_spot mode spot ≡ true → Fitting image.processors env (where_at p σ) (forms spot).own
  own_fits spot h = fits_forms (forms spot).own (windows_fit mode spot).1.own (has_windows mode spot h).own

  has_item : InBodies extra → (spot : Spot) → HasItem spot env
  has_item i (InBody layout s) = i
  has_item i (InFred s) = tt
  has_item i (InIdt s) = tt
  has_item i (InNmi s) = tt

  -- where the block's lines stand
  pub fits_with : Facts mode image → (spot : Spot) → is_spot mode spot ≡ true → has_fred w ≡ is_fred mode → InBodies extra
      → FactsHold env (block mode spot).ground.facts → Stands (code_table mode image) env (block mode spot).lines
      → Fits (code_table mode image) env (block mode spot)
  fits_with facts spot h hf i told lines =
      let g : HasGround mode spot = has_ground mode spot h in
      record {
        ground = all_grounded image.processors mode env (where_at p σ) spot (record {
          fitting = known_fits spot h;
          zero_base = refl;
          item = has_item i spot;
          kernel = refl;
          fred = hf ∙ sym g.fred;
          facts = told;
          descriptors = subst (Described env) (sym g.descriptors) tt;
          tops = subst (AreTops env) (sym g.tops) tt;
        });
        spaced = facts.spaced;
        stands = lines;
      }

  -- as they do outside of items, and at their beginnings
  pub fits_at : Facts mode image → (spot : Spot) → is_spot mode spot ≡ true → has_fred w ≡ is_fred mode → InBodies extra
      → IsAtEntry spot env → FactsHold env (block mode spot).ground.facts → Fits (code_table mode image) env (block mode spot)
  fits_at facts spot h hf i at told =
      fits_with facts spot h hf i told (lines_stand mode (code_table mode image) env refl facts.kernel spot h at)

  pub opens_at : (spot : Spot) → is_spot mode spot ≡ true → (m : Memory) → m.regions ≡ regions image → Open env (block mode spot).ground.known m.regions
  opens_at spot h m hr = subst (Open env (block mode spot).ground.known) (sym hr)
      (subst (λ W. Open env W (regions image)) (sym (windows_fit mode spot).0.known)
      (forms_open image env (where_at p σ) (forms spot).known (known_fits spot h)))

  -- what an activation writes in a block: words of its stack below its top, and the word for RSP
  pub kernel_changes : (spot : Spot) → is_spot mode spot ≡ true → (m n : NatMap ℕ)
      → Within env (block mode spot).ground.own (block mode spot).ground.shared m n → Changes p σ (names_at p spot) m n
  kernel_changes spot h m n wrote a off d =
      wrote a (λ l i q. off_forms mode p σ hs (keeps_rsp spot) a off d (forms spot).own (has_windows mode spot h).own
      (has_windows mode spot h).written (there l i q))
      (λ l i q. let clash : false ≡ true = sym (ap (λ W. in_win W l) (windows_fit mode spot).0.shared) ∙ i in absurd (cc))
    where
      there : (l : Loc) → in_win (block mode spot).ground.own l ≡ true → a ≡ addr env l
          → InSome (λ g. IsSpan (span_of (where_at p σ) g) × InSpan (span_of (where_at p σ) g) a) (forms spot).own
      there l i q = subst (λ b. InSome (λ g. IsSpan (span_of (where_at p σ) g) × InSpan (span_of (where_at p σ) g) b) (forms spot).own) (sym q)
          (which_form env (where_at p σ) l (forms spot).own (located image.processors env (where_at p σ) (forms spot).own (own_fits spot h))
          (ap (λ W. in_win W l) (sym (windows_fit mode spot).0.own) ∙ i))

  -- where known words lie: on a stack of the processor, or in its area
  pub known_in : (spot : Spot) → is_spot mode spot ≡ true → (l : Loc) → in_win (block mode spot).ground.known l ≡ true
      → InSome (IsThere env (where_at p σ) l) (forms spot).known
  known_in spot h l i = which_form env (where_at p σ) l (forms spot).known
      (located image.processors env (where_at p σ) (forms spot).known (known_fits spot h))
      (ap (λ W. in_win W l) (sym (windows_fit mode spot).0.known) ∙ i)

  -- the kernel has access to the port of `log`
  pub port_open : (m : Memory) → m.regions ≡ regions image → Open env (wins_of (InArea 0x28 8 ∷ [])) m.regions
  port_open m hr = subst (Open env (wins_of (InArea 0x28 8 ∷ []))) (sym hr)
      (forms_open image env (where_at p σ) (InArea 0x28 8 ∷ []) (record {
        at = (fits_forms [] refl refl).at;
        forms = refl;
        bases = (refl, tt);
        room = (omega arith, tt);
      }))
