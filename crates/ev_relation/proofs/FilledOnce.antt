-- A record is filled by one context at most: what fills it stands at a `call` of its site, and of contexts that stand on each other one at most does.
use Rattle.std.proofs.Common.{◌≡◌, ⊎_elim, ℕ, Bool, true, false, List, [], ◌∷◌, Option, Some, None, refl, sym, ap, ◌∙◌, subst}
use Rattle.std.specs.List.{list_any}
use Rattle.std.proofs.lemmas.Bool.{eqb-true, eq-eqb, false_from_ne_true, or_left, or_right, or_cases}
use Rattle.ev_isa.specs.declared.mode.Mode.{Mode}
use Rattle.ev_body.specs.declared.item.Item.{Item}
use Rattle.ev_body.specs.declared.item.Item.TheVariants.{Call, Wait}
use Rattle.ev_body.specs.declared.body.Body.{Body}
use Rattle.ev_body.specs.declared.image.Image.{Image}
use Rattle.ev_body.specs.WellFormed.{IsImage}
use Rattle.ev_effect.specs.Task.{Task}
use Rattle.ev_mem.specs.Memory.{Memory}
use Rattle.ev_state.specs.Processor.{Processor}
use Rattle.ev_abstract.specs.Accepted.{IsAccepted}
use Rattle.ev_abstract.specs.Context.{BodyContext}
use Rattle.ev_abstract.specs.Machine.{Machine, processor}
use Rattle.ev_abstract.specs.Rules.{is_call_at}
use Rattle.ev_abstract.specs.Run.{item_at}
use Rattle.ev_concrete.specs.ConcreteRun.{System, Activation}
use Rattle.ev_law.specs.Legal.{AreLegal, Legal, knows}
use Rattle.ev_law.proofs.Sites.{some_call_at, stands_at_call, none_calls_beneath, none_calls_below_wait}
use Rattle.ev_activation.specs.Seat.{Kind, kind_of, Seat, seat_of}
use Rattle.ev_relation.specs.Nmi.{Frame}
use Rattle.ev_relation.specs.Filling.{Filling, rest_fills, is_of_site, is_filled}
use Rattle.ev_relation.specs.Active.{item_of, Active}
use Rattle.ev_relation.specs.Relation.{body_edges, keeps_cr2, chained, switches_at, Beneath, Chain, StandsOn}
use Rattle.ev_relation.proofs.Fills.{means_fills}
use Rattle.ev_relation.proofs.After.{as_chain}

module _ (mode : Mode) (image : Image) where
  at_its_call : (site : ℕ) (item : Item) → (to func s : ℕ) → item ≡ Call site to func s → is_call_at site item ≡ true
  unfolding is_call_at
  at_its_call site item to func s e = ap (is_call_at site) e ∙ eq-eqb site site refl

  -- what fills the record of a site stands at a call of it
  active_stands : (p left : ℕ) (κ : Kind) (σ : Seat) (f : Frame) (sw : Bool) (g : Option Filling) (w : Processor) (b : BodyContext) (c : Processor) (m : Memory)
      (site : ℕ) → is_of_site site g ≡ true → Active mode image p left κ σ f sw g w b c m → stands_at_call image site b ≡ true
  active_stands p left κ σ f sw None w b c m site e a = absurd (cc)
  active_stands p left κ σ f sw (Some g) w b c m site e a =
      let t = means_fills mode image κ a.stands.spot _ w b (Some g) m.words a.means a.fills in
      let z = t.1.fills in
      let same : z.site ≡ site = ap (λ (o : Option Filling). site_in o) (sym z.is) ∙ eqb-true g.site site e in
      ap (some_call_at site) z.item ∙ at_its_call site (Call z.site t.1.to t.1.func t.1.s) t.1.to t.1.func t.1.s
      (ap (λ k. Call k t.1.to t.1.func t.1.s) same)
    where
      site_in : Option Filling → ℕ
      site_in None = 0
      site_in (Some f) = f.site

  -- what stands beneath an activation stands with some CR2
  some_beneath : (t : Bool) (C : Processor → Type 0) (w : Processor) → Beneath mode image t C w → (v : Processor) × C v
  some_beneath true C w h = (w, h)
  some_beneath false C w h = (record w { cr2 = 0 }, h 0)

  filled_stands : (p left r to : ℕ) (t : Task) (f : Frame) (sw : Bool) (fs : List (Option Filling)) (bs : List BodyContext) (as' : List Activation)
      (c : Processor) (m : Memory) (site : ℕ) → Chain mode image p left r to t f sw fs bs as' c m → is_filled site fs ≡ true
      → list_any (stands_at_call image site) bs ≡ true
  filled_stands p left r to t f sw [] bs as' c m site h e = absurd (cc)
  filled_stands p left r to t f sw (g ∷ fs) [] as' c m site h e = absurd (let none : g ∷ fs ≡ [] = h.3 in cc)
  filled_stands p left r to t f sw (g ∷ fs) (b ∷ below) [] c m site h e = absurd h
  filled_stands p left r to t f sw (g ∷ fs) (b ∷ below) (a ∷ as') c m site h e =
      let z = some_beneath (keeps_cr2 mode image (kind_of image b below)) _ h.0 h.4 in
      ⊎_elim
      (λ k. or_left (stands_at_call image site b) (list_any (stands_at_call image site) below)
      (active_stands p left (kind_of image b below) (seat_of mode image r (b ∷ below)) f (switches_at mode image sw below) g h.0 b c m site k h.6))
      (λ k. or_right (stands_at_call image site b) (list_any (stands_at_call image site) below)
      (filled_stands p (body_edges mode image) r to t f (chained mode image sw below) fs below as' z.0 m site z.1 k))
      (or_cases (is_of_site site g) (is_filled site fs) e)

  -- so where none of the contexts below stands at a call of it, none of them fills its record
  none_filled : (p left : ℕ) (s : System) (m : Machine) (on : StandsOn mode image p left s (processor m p)) (b : BodyContext) (below : List BodyContext)
      → (processor m p).bodies ≡ b ∷ below → (site : ℕ) → list_any (stands_at_call image site) below ≡ false → is_filled site (rest_fills on.fills) ≡ false
  none_filled p left s m on b below hb site none =
      false_from_ne_true (is_filled site (rest_fills on.fills)) (λ e.
      let chain = subst (λ bs. Chain mode image p on.own (processor m p).running on.returning ((processor m p).tasks on.returning) on.frame on.switching
      on.fills bs (s.activations p) (s.cpus p) s.memory) hb
      (as_chain mode image on.layer p on.own on.more (processor m p).running on.returning ((processor m p).tasks on.returning) on.frame on.switching on.fills
      (processor m p).bodies (s.activations p) (s.cpus p) s.memory on.runs) in
      let clash : true ≡ false = sym (below_stands on.fills (s.activations p) on.own on.switching (s.cpus p) chain e) ∙ none in cc)
    where
      below_stands : (fs : List (Option Filling)) (as' : List Activation) (own : ℕ) (sw : Bool) (c : Processor)
          → Chain mode image p own (processor m p).running on.returning ((processor m p).tasks on.returning) on.frame sw fs (b ∷ below) as' c s.memory
          → is_filled site (rest_fills fs) ≡ true → list_any (stands_at_call image site) below ≡ true
      below_stands fs [] own sw c h e = absurd h
      below_stands fs (a ∷ as') own sw c h e =
          let z = some_beneath (keeps_cr2 mode image (kind_of image b below)) _ h.0 h.4 in
          filled_stands p (body_edges mode image) (processor m p).running on.returning ((processor m p).tasks on.returning) on.frame
          (chained mode image sw below) (rest_fills fs) below as' z.0 s.memory site z.1 e

  -- So none below a context at a `call` fills the record of its site.
  pub never_filled_twice : IsImage image → IsAccepted image → (p left : ℕ) (s : System) (m : Machine) → Legal image m
      → (on : StandsOn mode image p left s (processor m p)) → (b : BodyContext) (below : List BodyContext) → (processor m p).bodies ≡ b ∷ below
      → (site to func s' : ℕ) → item_of mode image b ≡ Some (Call site to func s') → is_filled site (rest_fills on.fills) ≡ false
  never_filled_twice given accepted p left s m legal on b below hb site to func s' item =
      let l : AreLegal image (knows image m) (b ∷ below) = subst (AreLegal image (knows image m)) hb (legal.each p).bodies in
      none_filled p left s m on b below hb site (none_calls_beneath image given accepted.1.kept (knows image m) b below l site
      (ap (some_call_at site) item ∙ at_its_call site (Call site to func s') to func s' refl))

  -- And none below one at a `wait` for the site.
  pub never_filled_at_wait : IsImage image → IsAccepted image → (p left : ℕ) (s : System) (m : Machine) → Legal image m
      → (on : StandsOn mode image p left s (processor m p)) → (b : BodyContext) (below : List BodyContext) → (processor m p).bodies ≡ b ∷ below
      → (site : ℕ) → item_of mode image b ≡ Some (Wait site) → is_filled site (rest_fills on.fills) ≡ false
  never_filled_at_wait given accepted p left s m legal on b below hb site item =
      let l : AreLegal image (knows image m) (b ∷ below) = subst (AreLegal image (knows image m)) hb (legal.each p).bodies in
      none_filled p left s m on b below hb site (none_calls_below_wait image given accepted.1.kept (knows image m) b below l site
      (ap (λ (o : Option Body). item_at o b.place) (sym l.0.is_body) ∙ item))
