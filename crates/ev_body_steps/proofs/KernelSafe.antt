-- A frame that lies on a stack below all activations that stand there writes over no live word.
use Rattle.std.proofs.Common.{◌≡◌, ◌⊎◌, inl, inr, ⊎_elim, ℕ, zero, suc, ◌+◌, ◌-◌, ◌*◌, ◌<◌, ◌≤◌, Bool, true, false, ◌&&◌, not, List, [], ◌∷◌, length, map, Some, refl, sym, ap, ◌∙◌, subst, arith, Option}
use Rattle.std.specs.Prelude.{◌==◌, ◌||◌, nat_lt, nat_le, filter, min, if◌then◌else◌}
use Rattle.std.specs.List.{list_any}
use Rattle.std.proofs.lemmas.Bool.{leb-true, le-ltb, lt-leb}
use Rattle.std.proofs.Math.Nat.{le-min}
use Rattle.std.proofs.lemmas.Bool.Decides.{eqb_tells, leb_tells}
use Rattle.ev_isa.specs.Word.{NatMap, numbers_from, wrap}
use Rattle.ev_isa.specs.declared.mode.Mode.{Mode}
use Rattle.ev_body.specs.declared.image.Image.{Image}
use Rattle.ev_event.specs.declared.event.Event.{Event}
use Rattle.ev_effect.specs.Frame.{addresses}
use Rattle.ev_listing.specs.AddressMap.{stack_top, stack_bytes}
use Rattle.ev_proc.specs.declared.stepped.Stepped.{Stepped}
use Rattle.ev_concrete.specs.Opening.{tasks_of}
use Rattle.ev_concrete.specs.ConcreteRun.{System, Activation, interrupted, frame_size, acted}
use Rattle.ev_concrete.specs.LiveWords.{stands_on, standing, lowest, is_homeless, is_from, is_open, is_in_use, area_bytes, is_kept, runs_task, is_live_on, is_live, overwrites}
use Rattle.ev_symbolic.proofs.Values.{and_left, and_right}
use Rattle.ev_isa.specs.declared.mode.Mode.TheVariants.{Idt, Fred}
use Rattle.ev_effect.specs.Task.{Task}
use Rattle.ev_state.specs.Processor.{Processor, rsp}
use Rattle.ev_mem.specs.Memory.{Memory}
use Rattle.ev_abstract.specs.Context.{BodyContext}
use Rattle.ev_symbolic.specs.State.{top_tag}
use Rattle.ev_symbolic.specs.Agrees.{Env}
use Rattle.ev_blocks.specs.Shapes.{KernelCode, FredFrame, IdtFrame}
use Rattle.ev_blocks.specs.Fred.{FromKernel, FredToKernel}
use Rattle.ev_blocks.specs.Fred as fred
use Rattle.ev_blocks.specs.Idt.{Stub, Common, IdtToKernel}
use Rattle.ev_blocks.specs.Idt as idt
use Rattle.ev_blocks.specs.Blocks.{Spot, InFred, InIdt, InBody}
use Rattle.ev_activation.specs.Seat.{Kind, SystemCall, FromTask, FromBody, NmiFromTask, NmiFromBody, kind_of, seat_of, top_at}
use Rattle.ev_relation.specs.Nmi.{Frame}
use Rattle.ev_relation.specs.Filling.{rest_fills, Filling, first_fill}
use Rattle.ev_relation.specs.Active.{here, OverBody, Means}
use Rattle.ev_relation.specs.Relation.{body_edges, chained, Chain}
use Rattle.ev_relation.proofs.Records.{spot_saved}
use Rattle.ev_relation.proofs.CallKinds.{is_over_task, over_any, stands_alone, ArePlain, seat_under, plain_seat}
use Rattle.ev_relation.proofs.Spots.{area_small}

-- ---- lists

none_from : (test : ℕ → Bool) (a k : ℕ) → ((i : ℕ) → a ≤ i → i < a + k → test i ≡ false) → list_any test (numbers_from a k) ≡ false
none_from test a zero h = refl
none_from test a (suc k) h =
    ap (λ b. b || list_any test (numbers_from (suc a) k)) (h a (omega arith) (omega arith))
    ∙ none_from test (suc a) k (λ i l m. h i (omega arith) (omega arith))

-- each activation's RSP is at least this
abbrev pub AllAbove : ℕ → List Activation → Type 0
AllAbove bound [] = Unit {0}
AllAbove bound (a ∷ as') = (bound ≤ a.rsp) × AllAbove bound as'

above_filter : (bound : ℕ) (f : Activation → Bool) (xs : List Activation) → AllAbove bound xs → AllAbove bound (filter f xs)
above_filter bound f [] h = tt
above_filter bound f (x ∷ xs) h = by (f x) (above_filter bound f xs h.1)
  where
    by : (b : Bool) → AllAbove bound (filter f xs) → AllAbove bound (if b then x ∷ filter f xs else filter f xs)
    by true k = (h.0, k)
    by false k = k

-- nothing is in use below the lowest of them
not_from : (bound a : ℕ) → a < bound → (xs : List Activation) → AllAbove bound xs → is_from (lowest (map (λ (x : Activation). x.rsp) xs)) a ≡ false
not_from bound a l [] h = refl
not_from bound a l (x ∷ xs) h = from x.rsp xs h.0 h.1
  where
    from : (y : ℕ) (ys : List Activation) → bound ≤ y → AllAbove bound ys → is_from (lowest (y ∷ map (λ (x : Activation). x.rsp) ys)) a ≡ false
    from y [] h k = lt-leb y a (omega arith)
    from y (z ∷ zs) h k = from (min y z.rsp) zs (le-min h k.0) k.1

-- those that stand on a stack have RSP in it
standing_above : (mode : Mode) (words : NatMap ℕ) (q n : ℕ) (xs : List Activation)
    → AllAbove (stack_top q n - stack_bytes) (filter (stands_on mode words q n) xs)
standing_above mode words q n [] = tt
standing_above mode words q n (x ∷ xs) = by (standing_above mode words q n xs) (stands_on mode words q n x) refl
  where
    by : AllAbove (stack_top q n - stack_bytes) (filter (stands_on mode words q n) xs) → (b : Bool) → stands_on mode words q n x ≡ b
        → AllAbove (stack_top q n - stack_bytes) (if b then x ∷ filter (stands_on mode words q n) xs else filter (stands_on mode words q n) xs)
    by under true k = (
      leb-true (stack_top q n - stack_bytes) x.rsp (and_right (not (is_homeless mode words x.rip)) _ (and_left _ (nat_le x.rsp (stack_top q n)) k)),
      under,
    )
    by under false k = under

never : (a : Bool) → (a && false) ≡ false
never true = refl
never false = refl

-- ---- an address of a stack, below all that stand there

module _ (mode : Mode) (image : Image) (s : System) (p r top a : ℕ) (hp : p < 32) (hr : r < 7) (lower : stack_top p r - stack_bytes ≤ a) (upper : a < top)
    (room : top + area_bytes mode ≤ stack_top p r) (above : AllAbove top (interrupted (s.cpus p) (s.activations p))) where
  -- whether it is outside another stack
  abbrev Beyond : (q n : ℕ) → Type 0
  Beyond q n = (stack_top q n ≤ a) ⊎ (a < stack_top q n - stack_bytes)

  -- it is in no other one
  other_stack : (q n : ℕ) → n < 7 → ((q ≡ p) × (n ≡ r)) ⊎ Beyond q n
  other_stack q n hn = by_processor (eqb_tells q p)
    where
      by_stack : q ≡ p → ((q ≡ p) × (n ≡ r)) ⊎ Beyond q n
      by_stack e = ⊎_elim (λ h. inl (e, h.1))
          (λ h. ⊎_elim (λ l. inr (inl (differ h.1 l.1))) (λ l. inr (inr (let z = l.1 in omega arith))) (leb_tells n r)) (eqb_tells n r)
        where
          differ : (n ≡ r → ⊥) → n ≤ r → stack_top q n ≤ a
          differ d l = ⊎_elim (λ g. absurd (d (let z = g.1 in omega arith))) (λ g. let z = g.1 in omega arith) (leb_tells r n)

      by_processor : ((q == p) ≡ true) × (q ≡ p) ⊎ ((q == p) ≡ false) × (q ≡ p → ⊥) → ((q ≡ p) × (n ≡ r)) ⊎ Beyond q n
      by_processor (inl h) = by_stack h.1
      by_processor (inr h) = ⊎_elim (λ l. inr (inl (differ h.1 l.1))) (λ l. inr (inr (let z = l.1 in omega arith))) (leb_tells q p)
        where
          differ : (q ≡ p → ⊥) → q ≤ p → stack_top q n ≤ a
          differ d l = ⊎_elim (λ g. absurd (d (let z = g.1 in omega arith))) (λ g. let z = g.1 in omega arith) (leb_tells p q)

  -- no stack has it in use
  unused : (q n : ℕ) → n < 7 → is_in_use mode s q n a ≡ false
  unused q n hn = ⊎_elim here beyond (other_stack q n hn)
    where
      by_from : is_from (lowest (map (λ (x : Activation). x.rsp) (standing mode s q n))) a ≡ false → is_in_use mode s q n a ≡ false
      by_from h = ap (λ b. nat_lt a (stack_top q n) && b && is_open mode s q n (standing mode s q n) a) h
          ∙ ap (λ b. b && is_open mode s q n (standing mode s q n) a) (never (nat_lt a (stack_top q n)))

      here : (q ≡ p) × (n ≡ r) → is_in_use mode s q n a ≡ false
      here e = by_from (not_from top a upper (standing mode s q n)
          (above_filter top (stands_on mode s.memory.words q n) (interrupted (s.cpus q) (s.activations q))
          (subst (λ k. AllAbove top (interrupted (s.cpus k) (s.activations k))) (sym e.0) above)))

      beyond : Beyond q n → is_in_use mode s q n a ≡ false
      beyond (inl l) = ap (λ b. b && is_from (lowest (map (λ (x : Activation). x.rsp) (standing mode s q n))) a
          && is_open mode s q n (standing mode s q n) a) (le-ltb a (stack_top q n) l)
      beyond (inr l) = by_from (not_from (stack_top q n - stack_bytes) a l (standing mode s q n)
          (standing_above mode s.memory.words q n (interrupted (s.cpus q) (s.activations q))))

  -- what else is asked of a saved area
  abbrev within_area : (q i : ℕ) → Bool → Bool
  within_area q i b = b && not (list_any (λ (x : Activation). nat_lt x.rsp (stack_top q i)) (standing mode s q i)) && not (runs_task s q i)

  -- and no saved area
  unkept : (q i : ℕ) → i < 7 → is_kept mode s q i a ≡ false
  unkept q i hi = ⊎_elim here beyond (other_stack q i hi)
    where
      below_area : a < stack_top q i - area_bytes mode → is_kept mode s q i a ≡ false
      below_area l = ap (λ b. within_area q i (b && nat_lt a (stack_top q i))) (lt-leb (stack_top q i - area_bytes mode) a l)

      here : (q ≡ p) × (i ≡ r) → is_kept mode s q i a ≡ false
      here e = below_area (let x = e.0 in let y = e.1 in let z = (area_small mode).0 in omega arith)

      beyond : Beyond q i → is_kept mode s q i a ≡ false
      beyond (inl l) = ap (λ b. within_area q i (nat_le (stack_top q i - area_bytes mode) a && b)) (le-ltb a (stack_top q i) l)
          ∙ ap (within_area q i) (never (nat_le (stack_top q i - area_bytes mode) a))
      beyond (inr l) = below_area (let z = (area_small mode).0 in omega arith)

  pub not_live : ((q : ℕ) → q < image.processors → length (tasks_of image q) ≤ 4) → is_live mode image s a ≡ false
  unfolding is_live
  not_live four = none_from (λ q. is_live_on mode s a (length (tasks_of image q)) q) 0 image.processors (λ q l k.
      ap (λ b. b || list_any (λ i. is_kept mode s q i a) (numbers_from 0 (length (tasks_of image q))))
      (none_from (λ n. is_in_use mode s q n a) 0 7 (λ n l' k'. unused q n (omega arith)))
      ∙ none_from (λ i. is_kept mode s q i a) 0 (length (tasks_of image q)) (λ i l' k'. unkept q i (let f = four q (omega arith) in omega arith)))

-- so no word of a frame there is live
pub frame_safe : (mode : Mode) (image : Image) (s : System) (p r top : ℕ) → p < 32 → r < 7 → top + area_bytes mode ≤ stack_top p r
    → AllAbove top (interrupted (s.cpus p) (s.activations p)) → ((q : ℕ) → q < image.processors → length (tasks_of image q) ≤ 4)
    → (k a : ℕ) → stack_top p r - stack_bytes ≤ a → a + 8 * k ≤ top → list_any (is_live mode image s) (addresses a k) ≡ false
frame_safe mode image s p r top hp hr room above four zero a lower upper = refl
frame_safe mode image s p r top hp hr room above four (suc k) a lower upper =
    let next : wrap (a + 8) ≡ a + 8 = omega arith in
    ap (λ b. b || list_any (is_live mode image s) (addresses (wrap (a + 8)) k))
    (not_live mode image s p r top a hp hr lower (omega arith) room above four)
    ∙ ap (λ z. list_any (is_live mode image s) (addresses z k)) next
    ∙ frame_safe mode image s p r top hp hr room above four k (a + 8) (omega arith) (omega arith)

-- and the delivery that writes it is safe; its words are counted before it
pub delivery_safe : (mode : Mode) (image : Image) (s z : System) (p r top frame n : ℕ) (e : Event) → p < 32 → r < 7 → top + area_bytes mode ≤ stack_top p r
    → AllAbove top (interrupted (s.cpus p) (s.activations p)) → ((q : ℕ) → q < image.processors → length (tasks_of image q) ≤ 4)
    → stack_top p r - stack_bytes ≤ frame → frame + 8 * frame_size (z.cpus p) e ≤ top
    → list_any (overwrites mode image s) (acted n z p (Stepped.Delivered e (Some frame))).1 ≡ false
delivery_safe mode image s z p r top frame n e hp hr room above four lower upper =
    ap (λ b. b || false) (ap (λ k. list_any (is_live mode image s) (addresses frame k)) (as_long (addresses frame (frame_size (z.cpus p) e)))
    ∙ ap (λ k. list_any (is_live mode image s) (addresses frame k)) (count frame (frame_size (z.cpus p) e))
    ∙ frame_safe mode image s p r top hp hr room above four (frame_size (z.cpus p) e) frame lower upper)
  where
    as_long : (xs : List ℕ) → length (map z.memory.words xs) ≡ length xs
    as_long [] = refl
    as_long (x ∷ xs) = ap suc (as_long xs)

    count : (a k : ℕ) → length (addresses a k) ≡ k
    count a zero = refl
    count a (suc k) = ap suc (count (wrap (a + 8)) k)

-- ---- the activations of a chain stand above the frame of the last one

-- RSP of the processor to which an activation over a body returns is above its frame
body_above : (mode : Mode) (image : Image) (m : Mode) (spot : Spot) (e : Env) (w : Processor) (b : BodyContext) (g : Option Filling) (words : NatMap ℕ)
    → OverBody mode image m spot e w b g words → e.base top_tag ≤ rsp w
body_above mode image Fred (InFred FromKernel) e w b g words h = h.0.saved.above
body_above mode image Fred (InFred (fred.Leaves FredToKernel)) e w b g words h = h.saved.above
body_above mode image Fred (InBody FredFrame spot) e w b g words h = (spot_saved mode image KernelCode spot e w b g words h).above
body_above mode image Idt (InIdt (Stub KernelCode has v)) e w b g words h = h.1.saved.above
body_above mode image Idt (InIdt (Common KernelCode pf)) e w b g words h = h.0.saved.above
body_above mode image Idt (InIdt (idt.Leaves IdtToKernel)) e w b g words h = h.saved.above
body_above mode image Idt (InBody IdtFrame spot) e w b g words h = (spot_saved mode image KernelCode spot e w b g words h).above
body_above mode image m _ e w b g words h = absurd h

pub above_less : (low high : ℕ) → low ≤ high → (xs : List Activation) → AllAbove high xs → AllAbove low xs
above_less low high l [] h = tt
above_less low high l (x ∷ xs) h = (let z = h.0 in omega arith, above_less low high l xs h.1)

pub deeper : (mode : Mode) (p r n : ℕ) → top_at p (seat_under mode r (suc n)) ≤ top_at p (seat_under mode r n)
deeper Fred p r n = omega arith
deeper Idt p r n = omega arith

pub chain_above : (mode : Mode) (image : Image) (p left r to : ℕ) (t : Task) (f : Frame) (sw : Bool) (fs : List (Option Filling)) (b : BodyContext)
    (below : List BodyContext) (a : Activation)
    (as' : List Activation) (c : Processor) (m : Memory) → ArePlain image (b ∷ below) → Chain mode image p left r to t f sw fs (b ∷ below) (a ∷ as') c m
    → AllAbove (top_at p (seat_under mode r (length below))) as'
chain_above mode image p left r to t f sw fs b [] a as' c m plain h =
    let under : Chain mode image p (body_edges mode image) r to t f (chained mode image sw []) (rest_fills fs) [] as' h.0 m
    = over_any mode image (λ v. Chain mode image p (body_edges mode image) r to t f (chained mode image sw []) (rest_fills fs) [] as' v m) _ h.0 h.4 in
    subst (AllAbove (top_at p (seat_under mode r 0))) (sym under.2) tt
chain_above mode image p left r to t f sw fs b (d ∷ ds) a [] c m plain h = tt
chain_above mode image p left r to t f sw fs b (d ∷ ds) a (y ∷ ys) c m plain h =
    let w : Processor = h.0 in
    let under : Chain mode image p (body_edges mode image) r to t f (chained mode image sw (d ∷ ds)) (rest_fills fs) (d ∷ ds) (y ∷ ys) w m
    = over_any mode image (λ v. Chain mode image p (body_edges mode image) r to t f (chained mode image sw (d ∷ ds)) (rest_fills fs) (d ∷ ds)
    (y ∷ ys) v m) _ w h.4 in
    let seat : seat_of mode image r (b ∷ d ∷ ds) ≡ seat_under mode r (suc (length ds)) = plain_seat mode image r b (d ∷ ds) plain in
    let this : top_at p (seat_of mode image r (b ∷ d ∷ ds)) ≤ rsp w
    = frame_under (kind_of image b (d ∷ ds)) refl h.6.stands.spot (here mode p (kind_of image b (d ∷ ds)) (seat_of mode image r (b ∷ d ∷ ds)) h.6.stands.ss w
    h.6.stands.extra h.6.stands.var h.6.stands.flags) refl h.6.means in
    let low : top_at p (seat_under mode r (suc (length ds))) ≤ rsp w = subst (λ σ. top_at p σ ≤ rsp w) seat this in (
      subst (λ n. top_at p (seat_under mode r (suc (length ds))) ≤ n) (sym h.3.0) low,
      above_less (top_at p (seat_under mode r (suc (length ds)))) (top_at p (seat_under mode r (length ds))) (deeper mode p r (length ds)) ys
          (chain_above mode image p (body_edges mode image) r to t f (chained mode image sw (d ∷ ds)) (rest_fills fs) d ds y ys w m plain.1 under),
    )
  where
    frame_under : (κ : Kind) → kind_of image b (d ∷ ds) ≡ κ → (spot : Spot) (e : Env) → e.base top_tag ≡ top_at p (seat_of mode image r (b ∷ d ∷ ds))
        → Means mode image κ spot e h.0 b (first_fill fs) m.words → top_at p (seat_of mode image r (b ∷ d ∷ ds)) ≤ rsp h.0
    frame_under SystemCall q spot e at means = let z = ap length (stands_alone image b (d ∷ ds) (ap is_over_task q)) in absurd (omega arith)
    frame_under FromTask q spot e at means = let z = ap length (stands_alone image b (d ∷ ds) (ap is_over_task q)) in absurd (omega arith)
    frame_under FromBody q spot e at means = subst (λ n. n ≤ rsp h.0) at (body_above mode image mode spot e h.0 b (first_fill fs) m.words means)
    frame_under NmiFromTask q spot e at means = absurd means
    frame_under NmiFromBody q spot e at means = absurd means
