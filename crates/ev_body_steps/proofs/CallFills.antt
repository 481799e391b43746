-- Inside a block that fills a call record: each instruction is an edge, which writes the record alone, beside its own stack.
use Rattle.std.proofs.Common.{◌≡◌, ℕ, suc, ◌+◌, ◌-◌, ◌<◌, ◌≤◌, true, false, List, [], ◌∷◌, Option, Some, None, refl, sym, ap, ◌∙◌, subst, arith, ltb-true}
use Rattle.std.specs.Prelude.{slice_get, ◌==◌, ◌||◌, nat_lt}
use Rattle.std.proofs.lemmas.Bool.{not-false, false_from_ne_true}
use Rattle.ev_isa.specs.Word.{NatMap}
use Rattle.ev_isa.specs.declared.mode.Mode.{Mode}
use Rattle.ev_isa.specs.declared.mode.Mode.TheVariants.{Idt, Fred}
use Rattle.ev_body.specs.declared.image.Image.{Image}
use Rattle.ev_body.specs.declared.item.Item.TheVariants.{Call}
use Rattle.ev_body.specs.WellFormed.{IsImage}
use Rattle.ev_listing.specs.AddressMap.{pcpu, head_offset}
use Rattle.ev_state.specs.Processor.{Processor, is_user}
use Rattle.ev_abstract.specs.Context.{BodyContext, CallId}
use Rattle.ev_abstract.specs.Machine.{Machine, CallRecord, processor}
use Rattle.ev_concrete.specs.ConcreteRun.{System}
use Rattle.ev_built.specs.Built.{IsBuilt}
use Rattle.ev_call_law.specs.Calls.{is_id, times, to_run}
use Rattle.ev_call_law.proofs.Counts.{id_self, same_call, times_append}
use Rattle.ev_symbolic.specs.Agrees.{Env, edge_cell}
use Rattle.ev_symbolic.specs.Run.{brun}
use Rattle.ev_symbolic.specs.Machine.{Inside}
use Rattle.ev_symbolic.proofs.Blocks.{earlier, goes_on}
use Rattle.ev_blocks.specs.Blocks.{Spot, InFred, InIdt, InBody, block, edges}
use Rattle.ev_blocks.specs.Blocks as blocks
use Rattle.ev_blocks.specs.Calls.{AtFill, AtHead, AtLink, BehindFailure}
use Rattle.ev_blocks.specs.Items.{BodySpot, InCall}
use Rattle.ev_table.specs.Table.{code_table}
use Rattle.ev_law.proofs.Ruled.{body_ruled}
use Rattle.std.proofs.Common.{eq-eqb}
use Rattle.std.proofs.lemmas.Bool.{or_left}
use Rattle.std.specs.Prelude.{◌&&◌}
use Rattle.ev_abstract.specs.Machine as abstract
use Rattle.ev_abstract.specs.Machine.{Free}
use Rattle.ev_abstract.specs.Rules.{breaks_slots}
use Rattle.ev_mem.specs.Memory.{Memory}
use Rattle.ev_symbolic.proofs.Values.{and_left, and_right}
use Rattle.ev_activation.specs.Seat.{Kind, SystemCall, FromTask, FromBody, NmiFromTask, NmiFromBody}
use Rattle.ev_blocks.specs.Shapes.{Origin, UserCode, KernelCode, FredFrame, IdtFrame}
use Rattle.ev_abstract.specs.CrossCall.{record_of}
use Rattle.ev_relation.specs.Filling.{Filling, IsFree, first_fill, rest_fills, is_of_site, is_filled}
use Rattle.ev_relation.specs.Named.{record_names, UnknownTo, Changes}
use Rattle.ev_relation.specs.Active.{here, item_of, fills_record, InSpot, OverTask, OverBody, Means, Active}
use Rattle.ev_relation.proofs.Records.{RecordsStay, code_again}
use Rattle.ev_relation.proofs.CallNames.{contexts_spared, head_spared}
use Rattle.ev_relation.proofs.Depth.{body_at}
use Rattle.ev_relation.proofs.Fills.{is_fill_spot}
use Rattle.ev_relation.proofs.After.{calls_bounded}
use Rattle.ev_relation.specs.Relation.{StandsOn, Stands, switches_at}
use Rattle.ev_relation.specs.Step.{Simulated}
use Rattle.ev_relation.proofs.Facts.{Facts}
use Rattle.ev_relation.proofs.Fills.{is_fill, means_fills, fill_ends, fill_changes}
use Rattle.ev_relation.proofs.CallHolders.{is_of, AreAlone, first_free, filled_alone, free_nowhere}
use Rattle.ev_body_steps.proofs.Instructions.{stays_inside}
use Rattle.ev_body_steps.proofs.CallSteps.{AreOfCalls}
use Rattle.ev_body_steps.proofs.CallSteps as calls
use Rattle.ev_body_steps.proofs.KernelStep as step

-- ---- the meaning stands where the calls of the context and the queue's head stay

-- the heads that a block reads stay
abbrev StaysHead : ℕ → NatMap ℕ → NatMap ℕ → Type 0
StaysHead to m n = n (pcpu to + head_offset) ≡ m (pcpu to + head_offset)

module _ (mode : Mode) (image : Image) where
  -- a processor that the item at which a context stands calls
  abbrev Calls : BodyContext → ℕ → Type 0
  Calls b to = (site : ℕ) × (func : ℕ) × (s : ℕ) × (item_of mode image b ≡ Some (Call site to func s))

  spot_again : (o : Origin) (s : BodySpot) (e : Env) (w : Processor) (b : BodyContext) (f : Option Filling) (m n : NatMap ℕ)
      → RecordsStay b.calls m n → ((to : ℕ) → Calls b to → StaysHead to m n) → is_fill_spot s ≡ true
      → InSpot mode image o s e w b f m → InSpot mode image o s e w b f n
  spot_again o (InCall (AtFill address func to s)) e w b f m n stay heads is h = (code_again mode image m n o e w b stay h.0, h.1, h.2, h.3)
  spot_again o (InCall (AtHead address func to)) e w b f m n stay heads is h = (code_again mode image m n o e w b stay h.0, h.1, h.2)
  spot_again o (InCall (AtLink address func to true)) e w b f m n stay heads is h = (code_again mode image m n o e w b stay h.0, h.1, h.2, tt, h.4)
  spot_again o (InCall (AtLink address func to false)) e w b f m n stay heads is h =
      (code_again mode image m n o e w b stay h.0, h.1, h.2, heads to (h.2.fills.site, func, h.2.s, h.2.fills.item) ∙ h.3, h.4)
  spot_again o (InCall (BehindFailure address func to)) e w b f m n stay heads is h = (code_again mode image m n o e w b stay h.0, h.1, h.2, h.3)
  spot_again o _ e w b f m n stay heads is h = let clash : false ≡ true = is in absurd (cc)

  fill_again : (κ : Kind) (spot : Spot) (e : Env) (w : Processor) (b : BodyContext) (f : Option Filling) (m n : NatMap ℕ)
      → RecordsStay b.calls m n → ((to : ℕ) → Calls b to → StaysHead to m n) → is_fill mode spot ≡ true
      → Means mode image κ spot e w b f m → Means mode image κ spot e w b f n
  fill_again κ spot e w b f m n stay heads is h = by_mode mode refl κ spot is h
    where
      by_mode : (k : Mode) → k ≡ mode → (κ : Kind) (spot : Spot) → is_fill k spot ≡ true → Means mode image κ spot e w b f m → Means mode image κ spot e w b f n
      by_mode Fred q SystemCall (InBody FredFrame s) is h = subst (λ k. OverTask mode image k (InBody FredFrame s) e w b f n) q
          (spot_again UserCode s e w b f m n stay heads is (subst (λ k. OverTask mode image k (InBody FredFrame s) e w b f m) (sym q) h))
      by_mode Fred q FromTask (InBody FredFrame s) is h = subst (λ k. OverTask mode image k (InBody FredFrame s) e w b f n) q
          (spot_again UserCode s e w b f m n stay heads is (subst (λ k. OverTask mode image k (InBody FredFrame s) e w b f m) (sym q) h))
      by_mode Fred q FromBody (InBody FredFrame s) is h = subst (λ k. OverBody mode image k (InBody FredFrame s) e w b f n) q
          (spot_again KernelCode s e w b f m n stay heads is (subst (λ k. OverBody mode image k (InBody FredFrame s) e w b f m) (sym q) h))
      by_mode Idt q SystemCall (InBody IdtFrame s) is h = subst (λ k. OverTask mode image k (InBody IdtFrame s) e w b f n) q
          (spot_again UserCode s e w b f m n stay heads is (subst (λ k. OverTask mode image k (InBody IdtFrame s) e w b f m) (sym q) h))
      by_mode Idt q FromTask (InBody IdtFrame s) is h = subst (λ k. OverTask mode image k (InBody IdtFrame s) e w b f n) q
          (spot_again UserCode s e w b f m n stay heads is (subst (λ k. OverTask mode image k (InBody IdtFrame s) e w b f m) (sym q) h))
      by_mode Idt q FromBody (InBody IdtFrame s) is h = subst (λ k. OverBody mode image k (InBody IdtFrame s) e w b f n) q
          (spot_again KernelCode s e w b f m n stay heads is (subst (λ k. OverBody mode image k (InBody IdtFrame s) e w b f m) (sym q) h))
      by_mode k q NmiFromTask spot is h = absurd h
      by_mode k q NmiFromBody spot is h = absurd h
      by_mode k q κ _ is h = let clash : false ≡ true = is in absurd (cc)

-- ---- the step

module _ (mode : Mode) (image : Image) (built : IsBuilt image) (good : IsImage image) (facts : Facts mode image)
    (left : NatMap ℕ) (s : System) (m : Machine) (h : Stands mode image left s m) (p : ℕ) (hp : p < image.processors)
    (o : step.Top mode image built good facts left s m h p hp) where
  abbrev c : Processor
  c = s.cpus p

  abbrev b : BodyContext
  b = o.b

  abbrev x : abstract.Processor
  x = processor m p

  abbrev on : StandsOn mode image p (left p) s x
  on = step.on mode image built good facts left s m h p hp

  abbrev Stood : ℕ → BodyContext → Processor → Memory → Type 0
  Stood now b cpu mem = Active mode image p now o.κ o.σ on.frame (switches_at mode image on.switching o.below) (first_fill on.fills) o.w b cpu mem

  small : p < 32
  small = step.small mode image built good facts left s m h p hp

  narrow : o.σ.stack < 7
  narrow = step.narrow mode image built good facts left s m h p hp o

  -- the record that it fills, and no other word of calls
  module _ (f : Filling) (first : first_fill on.fills ≡ Some f) where
    is_first : first_fill (h.each p hp).fills ≡ Some f
    is_first = subst (λ (y : StandsOn mode image p (left p) s x). first_fill y.fills ≡ Some f)
        (step.on_is mode image built good facts left s m h p hp) first

    pub alone : AreAlone mode image left s m h p hp b o.below o.bodies (is_of mode image left s m h p hp b o.below o.bodies f.site)
    alone = filled_alone mode image left s m h p hp b o.below o.bodies f is_first

    free : IsFree x.records f (rest_fills on.fills)
    free = first_free x.records on.fills f on.free first

    pub record_is : AreOfCalls p (is_of mode image left s m h p hp b o.below o.bodies f.site) o.below (record_names p f.site)
    record_is =
        let is : is_id (record { from = p; site = f.site }) (record { from = p; site = f.site }) ≡ true = id_self (record { from = p; site = f.site }) in
        let l = free.small in record {
          allowed = record {
            written = (
              (small, l, omega arith, refl),
              (
                (small, l, omega arith, refl),
                (
                  (small, l, omega arith, refl),
                  (
                    (small, l, omega arith, refl),
                    ((small, l, omega arith, refl), ((small, l, omega arith, refl), ((small, l, omega arith, refl), ((small, l, omega arith, refl), tt)))),
                  ),
                ),
              ),
            );
            own = λ q d. (none q, (none q, (none q, (none q, (none q, (none q, (none q, (none q, tt))))))));
          };
          of = (is, (is, (is, (is, (is, (is, (is, (is, tt))))))));
          unknown = by_depth o.below;
          tasks = refl;
          slots = refl;
          cells = refl;
          pages = refl;
          user = refl;
        }
      where
        none : (q : ℕ) → None ≡ Some q → ⊥
        none q e = absurd (cc)

        by_depth : (ds : List BodyContext) → UnknownTo ds (record_names p f.site)
        by_depth [] = tt
        by_depth (d ∷ ds) = refl

    -- the calls that it has taken are others
    calls_stay : (words : NatMap ℕ) → Changes p o.σ (record_names p f.site) s.memory.words words → RecordsStay b.calls s.memory.words words
    calls_stay words changes =
        (contexts_spared p o.σ (record_names p f.site) small narrow s.memory.words words record_is.allowed.written changes
        (is_of mode image left s m h p hp b o.below o.bodies f.site) record_is.of p small (None ∷ []) (tt, tt) (b ∷ [])
        (λ k some. let l = calls_bounded mode image m h.told h.calls good.count.1 p k (at_top k some) in (apart k some, l.0, l.1))
        (λ site e. let clash : false ≡ true = e in absurd (cc))).0.0
      where
        at_top : (k : CallId) → 0 < times k (to_run (b ∷ [])) → 0 < times k (to_run x.bodies)
        at_top k some = let e = times_append k b.calls (to_run []) in let e' = times_append k b.calls (to_run o.below) in
            let q = ap (λ bs. times k (to_run bs)) o.bodies in let z : times k (to_run []) ≡ 0 = refl in omega arith

        apart : (k : CallId) → 0 < times k (to_run (b ∷ [])) → is_of mode image left s m h p hp b o.below o.bodies f.site k ≡ false
        apart k some = false_from_ne_true _ (λ t.
            let none = (free_nowhere mode image left s m h p hp b o.below o.bodies k
            (subst (λ (i : CallId). (record_of m i).state ≡ Free) (sym (same_call k (record { from = p; site = f.site }) t)) free.free) p).0 in
            let some' = at_top k some in omega arith)

  -- what the last context fills is filled
  first_is_filled : (fs : List (Option Filling)) (f : Filling) → first_fill fs ≡ Some f → is_filled f.site fs ≡ true
  first_is_filled [] f e = absurd (cc)
  first_is_filled (g ∷ fs) f e = ap (λ t. is_of_site f.site t || is_filled f.site fs) e ∙ or_left (f.site == f.site) _ (eq-eqb f.site f.site refl)

  -- the target of a call is a processor
  pub called_processor : (to : ℕ) → Calls mode image b to → to < image.processors
  unfolding breaks_slots
  called_processor to called =
      let found = body_at (slice_get image.bodies b.body) b.place (Call called.0 to called.1 called.2) called.3 in
      let ruled = body_ruled image good built.accepted.1.kept b.body found.0 found.1 in
      let ok : nat_lt called.0 8 && nat_lt to image.processors && nat_lt called.1 8 ≡ true = not-false _ (ruled.slots b.place _ found.2) in
      ltb-true to image.processors (and_right (nat_lt called.0 8) _ (and_left (nat_lt called.0 8 && nat_lt to image.processors) _ ok))

  called_small : (to : ℕ) → Calls mode image b to → to < 32
  called_small to called = let l = called_processor to called in let few = good.count.1 in omega arith

  -- at an instruction of such a block
  pub inside : (act : Stood on.own b c s.memory) → fills_record act.stands.spot ≡ true → act.stands.k < (block mode act.stands.spot).steps
      → Simulated mode image left s m p
  inside act fills lt =
      let a = act.stands in
      let e : Env = here mode p o.κ o.σ a.ss o.w a.extra a.var a.flags in
      let z = means_fills mode image o.κ a.spot e o.w b (first_fill on.fills) s.memory.words act.means fills in
      let one = z.1.fills in
      let f : Filling = record { site = one.site; number = one.number } in
      let S : ℕ = (block mode a.spot).steps in
      let end = fill_ends mode a.spot z.0 in
      let i : Inside (code_table mode image) (block mode a.spot) (suc a.k) e c s.memory
      = goes_on (code_table mode image) (block mode a.spot) S end.0 end.1 a.k e c s.memory a.at lt in
      let next = earlier (block mode a.spot) (suc a.k) (S - suc a.k) end.0
      (ap (brun (block mode a.spot)) (let q : (S - suc a.k) + suc a.k ≡ S = omega arith in q) ∙ end.1) in
      let seat = step.in_seat mode image built good facts left s m h p hp o in
      let site_small = (first_free x.records on.fills f on.free one.is).small in
      let changes : Changes p o.σ (record_names p one.site) s.memory.words i.words = fill_changes mode image p o.σ seat hp good.count.1 o.κ a.ss o.w a.extra
      a.var a.flags one.site site_small one.at a.spot z.0 s.memory.words i.words i.within in
      let few = a.enough in
      calls.edge mode image built good facts left s m h p hp o (is_of mode image left s m h p hp b o.below o.bodies one.site) (alone f one.is) i.words
      (record_names p one.site) (record_is f one.is) changes on.fills refl (λ k off e. e) (edge_cell i.ins i.next) i.stands refl
      (stays_inside (code_table mode image) (block mode a.spot) a.k e c s.memory a.at next.0 next.1 i.ins i.next i.stands)
      (ap is_user a.at.agrees.rest) (step.outside mode image built good facts left s m h p hp o act) i.cpu i.runs
      (i.blocking ∙ step.blocked mode image built good facts left s m h p hp) (λ q. refl) on.free
      (λ q k lq lk mine unfilled. absurd (its_own f one.is q k mine unfilled))
      (edges mode a.spot (suc a.k)) (one_less S a.k (blocks.behind a.spot) on.own lt few)
      (record {
        stands = record {
          spot = a.spot;
          k = suc a.k;
          extra = a.extra;
          var = a.var;
          flags = a.flags;
          ss = a.ss;
          ss_is = a.ss_is;
          masked = a.masked;
          within = lt;
          enough = omega arith;
          at = i.there;
          long = i.long ∙ a.long;
        };
        switches = act.switches;
        fills = act.fills;
        knows = act.knows;
        means = fill_again mode image o.κ a.spot e o.w b (first_fill on.fills) s.memory.words i.words (calls_stay f one.is i.words changes)
            (λ to called. head_stays f one.is to (called_small to called) i.words changes) z.0 act.means;
      })
    where
      one_less : (n k behind own : ℕ) → k < n → (n - k) + behind ≤ own → (n - suc k) + behind < own
      one_less n k behind own h l = omega arith

      -- of these calls the record is filled
      its_own : (f : Filling) → first_fill on.fills ≡ Some f → (q k : ℕ) → is_of mode image left s m h p hp b o.below o.bodies f.site
          (record { from = q; site = k }) ≡ true → (q ≡ p → is_filled k on.fills ≡ false) → ⊥
      its_own f first q k mine unfilled =
          let here : CallId = record { from = q; site = k } in
          let own : CallId = record { from = p; site = f.site } in
          let same : here ≡ own = same_call here own mine in
          let there : k ≡ f.site = ap (λ (i : CallId). i.site) same in
          let filled : is_filled k on.fills ≡ true = subst (λ i. is_filled i on.fills ≡ true) (sym there) (first_is_filled on.fills f first) in
          let clash : true ≡ false = sym filled ∙ unfilled (ap (λ (i : CallId). i.from) same) in cc

      head_stays : (f : Filling) → first_fill on.fills ≡ Some f → (to : ℕ) → to < 32 → (words : NatMap ℕ)
          → Changes p o.σ (record_names p f.site) s.memory.words words → StaysHead to s.memory.words words
      head_stays f first to l words changes = head_spared p o.σ (record_names p f.site) small narrow s.memory.words words
          (record_is f first).allowed.written changes to l refl
