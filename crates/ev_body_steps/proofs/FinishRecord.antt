-- What the store of `finish` makes of the abstract machine and of memory: the record of a call is free, and the context is at its next call.
use Rattle.std.proofs.Common.{◌≡◌, ℕ, ◌+◌, ◌≤◌, Bool, true, false, ◌&&◌, List, [], ◌∷◌, Option, None, Some, refl, sym, ap, ◌∙◌, arith}
use Rattle.std.specs.Prelude.{◌==◌, ◌||◌}
use Rattle.std.proofs.lemmas.Bool.{eqb-true, eq-eqb, or_right}
use Rattle.ev_isa.specs.Word.{NatMap, put_at}
use Rattle.ev_isa.specs.declared.mode.Mode.{Mode}
use Rattle.ev_isa.specs.declared.mode.Mode.TheVariants.{Idt, Fred}
use Rattle.ev_body.specs.declared.item.Item.TheVariants.{Finish}
use Rattle.ev_body.specs.declared.image.Image.{Image}
use Rattle.ev_abstract.specs.Context.{BodyContext, CallId}
use Rattle.ev_abstract.specs.CrossCall.{record_of, with_record, in_state, at_first_call}
use Rattle.ev_abstract.specs.ItemMeaning.{with_context, replace_last}
use Rattle.ev_abstract.specs.Machine.{CallState, Free, Queued, Taken, CallRecord, Machine, processor}
use Rattle.ev_abstract.specs.Machine as abstract
use Rattle.ev_calls.specs.Lists.{address_of as state_at}
use Rattle.ev_call_law.specs.Calls.{is_free, is_id, is_taken, one_if}
use Rattle.ev_activation.specs.Seat.{kind_of}
use Rattle.ev_symbolic.specs.Agrees.{Env}
use Rattle.ev_symbolic.proofs.Words.{put_same, put_other}
use Rattle.ev_blocks.specs.Calls.{AtOffset, taken_edges}
use Rattle.ev_blocks.specs.Items.{InCall}
use Rattle.ev_blocks.specs.Blocks.{edges, item_edges}
use Rattle.ev_relation.specs.Filling.{Filling, is_filled, AreFree}
use Rattle.ev_relation.specs.Active.{InCodeOf, InFinish}
use Rattle.ev_relation.specs.Relation.{HoldsCall}
use Rattle.ev_relation.proofs.Maps.{at_same, at_other}
use Rattle.ev_body_steps.proofs.Bodies.{body}

-- ---- the abstract machine in which a record is another

module _ (m : Machine) (k : CallId) (r : CallRecord) where
  abbrev n : Machine
  n = with_record m k r

  -- of each processor the records alone may be others
  pub records_alone : (q : ℕ) → processor n q ≡ record (processor m q) { records = (processor n q).records }
  records_alone q = pick (q == k.from) refl
    where
      changed : q ≡ k.from → processor n q ≡ record (processor m q) { records = put_at (processor m k.from).records k.site r }
      changed e = at_same m.processors k.from q _ e
          ∙ ap (λ i. record (processor m i) { records = put_at (processor m k.from).records k.site r }) (sym e)

      pick : (t : Bool) → (q == k.from) ≡ t → processor n q ≡ record (processor m q) { records = (processor n q).records }
      pick true t = let c = changed (eqb-true q k.from t) in
          c ∙ sym (ap (λ (y : abstract.Processor). record (processor m q) { records = y.records }) c)
      pick false t = let c : processor n q ≡ processor m q = at_other m.processors k.from q _ t in
          c ∙ sym (ap (λ (y : abstract.Processor). record (processor m q) { records = y.records }) c)

  -- the call has it
  pub record_is : record_of n k ≡ r
  record_is = ap (λ (y : abstract.Processor). y.records k.site) (at_same m.processors k.from k.from _ refl)
      ∙ at_same (processor m k.from).records k.site k.site r refl

  -- no other one
  pub record_kept : (j : CallId) → is_id j k ≡ false → record_of n j ≡ record_of m j
  record_kept j off = pick (j.from == k.from) refl
    where
      pick : (t : Bool) → (j.from == k.from) ≡ t → record_of n j ≡ record_of m j
      pick true t =
          let e : j.from ≡ k.from = eqb-true j.from k.from t in
          ap (λ (y : abstract.Processor). y.records j.site) (at_same m.processors k.from j.from _ e)
          ∙ at_other (processor m k.from).records k.site j.site r (sym (ap (λ (u : Bool). u && (j.site == k.site)) t) ∙ off)
          ∙ ap (λ i. (processor m i).records j.site) (sym e)
      pick false t = ap (λ (y : abstract.Processor). y.records j.site) (at_other m.processors k.from j.from _ t)

  -- the same where a context of a processor is another
  module _ (p : ℕ) (b' : BodyContext) where
    abbrev n' : Machine
    n' = with_context n p b'

    -- What asks for no context of a processor is what it was.
    but_bodies : (A : Type 0) (f : abstract.Processor → A) → ((x : abstract.Processor) (bs : List BodyContext) → f (record x { bodies = bs }) ≡ f x)
        → (q : ℕ) → f (processor n' q) ≡ f (processor n q)
    but_bodies A f same q = pick (q == p) refl
      where
        pick : (t : Bool) → (q == p) ≡ t → f (processor n' q) ≡ f (processor n q)
        pick true t = let e : q ≡ p = eqb-true q p t in
            ap f (at_same n.processors p q _ e) ∙ same (processor n p) _ ∙ ap (λ i. f (processor n i)) (sym e)
        pick false t = ap f (at_other n.processors p q _ t)

    -- records don't
    pub records_are : (q : ℕ) → (processor n' q).records ≡ (processor n q).records
    records_are = but_bodies _ (λ (y : abstract.Processor). y.records) (λ x bs. refl)

    -- nor for records
    pub queue_is : (q : ℕ) → (processor n' q).queue ≡ (processor m q).queue
    queue_is q = but_bodies _ (λ (y : abstract.Processor). y.queue) (λ x bs. refl) q ∙ ap (λ (y : abstract.Processor). y.queue) (records_alone q)

    -- what the turn makes of the processor itself
    pub own_is : (b : BodyContext) (below : List BodyContext) → (processor m p).bodies ≡ b ∷ below
        → processor n' p ≡ record (processor m p) { records = (processor n' p).records; queue = (processor n' p).queue; bodies = b' ∷ below }
    own_is b below bodies =
        let c : processor n' p ≡ record (processor m p) { records = (processor n p).records; bodies = b' ∷ below }
        = at_same n.processors p p _ refl
        ∙ ap (λ bs. record (processor n p) { bodies = replace_last b' bs }) (ap (λ (y : abstract.Processor). y.bodies) (records_alone p) ∙ bodies)
        ∙ ap (λ (y : abstract.Processor). record y { bodies = b' ∷ below }) (records_alone p) in
        c ∙ sym (ap (λ (y : abstract.Processor). record (processor m p) { records = y.records; queue = y.queue; bodies = b' ∷ below }) c)

    -- and of others
    pub others_are : (q : ℕ) → (q == p) ≡ false
        → processor n' q ≡ record (processor m q) { records = (processor n' q).records; queue = (processor n' q).queue }
    others_are q e =
        let c : processor n' q ≡ record (processor m q) { records = (processor n q).records } = at_other n.processors p q _ e ∙ records_alone q in
        c ∙ sym (ap (λ (y : abstract.Processor). record (processor m q) { records = y.records; queue = y.queue }) c)

-- records that are filled are free still, where they are what they were
pub free_still : (xs rs : NatMap CallRecord) (fs : List (Option Filling)) → ((site : ℕ) → is_filled site fs ≡ true → rs site ≡ xs site) → AreFree xs fs
    → AreFree rs fs
free_still xs rs [] same h = tt
free_still xs rs (None ∷ fs) same h = (tt, free_still xs rs fs same h.1)
free_still xs rs (Some f ∷ fs) same h =
    let is : rs f.site ≡ xs f.site = same f.site (ap (λ (t : Bool). t || is_filled f.site fs) (eq-eqb f.site f.site refl)) in (
      record {
        small = h.0.small;
        free = ap (λ (r : CallRecord). r.state) is ∙ h.0.free;
        number = ap (λ (r : CallRecord). r.number) is ∙ h.0.number;
        alone = h.0.alone;
      },
      free_still xs rs fs (λ site e. same site (or_right (f.site == site) (is_filled site fs) e)) h.1,
    )

-- ---- the context at its first call

-- is what it was, but for its place, its calls and two locals
pub record IsAtFirst (c d : BodyContext) (ks : List CallId) : Type 0 where
  pub calls : d.calls ≡ ks
  pub service : d.service ≡ c.service
  pub interrupts : d.interrupts ≡ c.interrupts
  pub flags : d.flags ≡ c.flags

-- so it is whether there is a call or not
pub first_is : (image : Image) (m : Machine) (c : BodyContext) (ks : List CallId) → IsAtFirst c (at_first_call image m c ks) ks
first_is image m c [] = record { calls = refl; service = refl; interrupts = refl; flags = refl }
first_is image m c (k ∷ ks) = record { calls = refl; service = refl; interrupts = refl; flags = refl }

-- and its activation is of the same kind
pub kind_kept : (image : Image) (m : Machine) (c : BodyContext) (ks : List CallId) (below : List BodyContext)
    → kind_of image (at_first_call image m c ks) below ≡ kind_of image c below
kind_kept image m c [] below = refl
kind_kept image m c (k ∷ ks) below = refl

-- it is in the code of the `finish` where it was
pub in_finish : (mode : Mode) (image : Image) (u : Env) (m : Machine) (c : BodyContext) (n : ℕ) (ks : List CallId) → InCodeOf mode image u c n Finish
    → InFinish mode image u (at_first_call image m c ks)
in_finish mode image u m c n [] code = record { n = n; code = code; none = λ e. refl }
in_finish mode image u m c n (k ∷ ks) code = record { n = n; code = code; none = λ (e : k ∷ ks ≡ []). absurd (cc) }

-- ---- the record

-- the store to its first word frees it
pub freed : (mode : Mode) (image : Image) (words : NatMap ℕ) (k : CallId) (r : CallRecord) → HoldsCall mode image words k.from k.site r
    → HoldsCall mode image (put_at words (state_at k) 0) k.from k.site (in_state r Free)
freed mode image words k r h = record {
  from = put_other words (state_at k) 0 (state_at k + 0x20) (λ e. omega (arith, e)) ∙ h.from;
  site = put_other words (state_at k) 0 (state_at k + 0x30) (λ e. omega (arith, e)) ∙ h.site;
  number = put_other words (state_at k) 0 (state_at k + 0x28) (λ e. omega (arith, e)) ∙ h.number;
  call = put_same words (state_at k) 0;
}

-- a taken call is under way
pub taken_busy : (st : CallState) → is_taken st ≡ true → is_free st ≡ false
taken_busy Free t = let clash : false ≡ true = t in absurd (cc)
taken_busy Queued t = refl
taken_busy Taken t = refl

-- what holds or doesn't is counted once at most
pub one_at_most : (t : Bool) → one_if t ≤ 1
one_at_most true = omega arith
one_at_most false = omega arith

-- ---- the jump behind it

-- so many edges come from there at most
abbrev pub hand : ℕ
hand = taken_edges item_edges + 1

-- which are few
pub jump_few : (mode : Mode) → edges mode (body mode (InCall (AtOffset 27 hand))) 0 ≤ 100
jump_few Fred = omega arith
jump_few Idt = omega arith
