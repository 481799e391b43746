-- Each item keeps the records of calls.
use Rattle.std.specs.Prelude.{◌≡◌, refl, ℕ, suc, ◌<◌, ◌≤◌, length, Bool, true, false, not, ◌&&◌, ◌||◌, ◌==◌, ◌+◌, if◌then◌else◌, List, [], ◌∷◌, ◌++◌, Option, Some, None, slice_get, nat_lt, nat_le}
use Rattle.std.specs.List.{list_any, list_all}
use Rattle.std.proofs.Common.{arith, ap, sym, ◌∙◌, subst, append-nil}
use Rattle.std.proofs.lemmas.Bool.{and_parts, and_from, not-false, ltb-true, lt-leb, le-leb, or_right}
use Rattle.ev_isa.specs.Word.{put_at, wrap}
use Rattle.ev_isa.specs.Flags.{alu}
use Rattle.ev_isa.specs.Pages.{place_of}
use Rattle.ev_isa.specs.declared.instruction.Cond.{Cond}
use Rattle.ev_event.specs.declared.event.Event.{Event}
use Rattle.ev_event.specs.declared.event.EventType.TheVariants.{Int3}
use Rattle.ev_event.specs.Event.{pf, software}
use Rattle.ev_body.specs.declared.key.Key.{Key}
use Rattle.ev_body.specs.declared.item.Item.{Item}
use Rattle.ev_body.specs.declared.item.Item.TheVariants.{Set, Copy, Alu, Jcc, Goto, Nop, Log, Cpu, Slot, Put, Cell, SetCell, AddCell, SwapCell, Uget, Uput, GetReg, SetReg, SetRip, Map, Unmap, Resched, Sti, Cli, Eoi, Send, Call, Kick, Wait, Take, Finish, Ret}
use Rattle.ev_body.specs.declared.body.Body.{Body}
use Rattle.ev_body.specs.declared.image.Image.{Image}
use Rattle.ev_body.specs.Bodies.{body_items, first_body}
use Rattle.ev_body.specs.WellFormed.{is_ret, is_finish}
use Rattle.ev_effect.specs.Task.{reg, with_reg}
use Rattle.ev_abstract.specs.Context.{BodyContext, CallId, local, with_local, onward, at_place}
use Rattle.ev_abstract.specs.Machine.{Processor, Machine, CallState, Free, processor, with_processor, task, with_task}
use Rattle.ev_abstract.specs.Boundary.{is_nmi_body}
use Rattle.ev_abstract.specs.CallLaws.{is_call, is_ran}
use Rattle.ev_abstract.specs.CrossCall.{record_of, with_record, in_state, with_queue, queued, new_record, queue_answer, all_taken, take_place, after_take, start_of, at_first_call}
use Rattle.ev_abstract.specs.Delivery.{delivered, dropped, event_key, side_of, entered, rescheduled, switched}
use Rattle.ev_abstract.specs.declared.entry.Entry.{Entry}
use Rattle.ev_abstract.specs.ItemMeaning.{Step, item_step, with_context, with_cell, with_page, with_slot, with_task_at, with_mail, unknown_flags, arithmetic, taken, raised, guarded, kernel_fault, user_address, gives, done, called, waited, finished, below_last}
use Rattle.ev_abstract.specs.Rules.{breaks_slots, in_function, is_call_handler, jump_target}
use Rattle.ev_law.specs.Legal.{AreLegal, Legal, declares, knows, runs_calls}
use Rattle.ev_call_law.specs.Calls.{one_if, to_run, is_free, was_queued, first_function, function_at, RunsItsCall, RunTheirCalls, KeepsCallRecords}
use Rattle.ev_law.proofs.Ruled.{IsRuled}
use Rattle.ev_law.proofs.Delivery.{delivered_records}
use Rattle.ev_law.proofs.Items.{declared_at, dropped_records}
use Rattle.ev_call_law.proofs.Functions.{IsParted, no_function}
use Rattle.ev_call_law.proofs.Counts.{any_counted}
use Rattle.ev_call_law.proofs.Records.{AllFit, ArePlain, IsPlain, Same, KeptStep, same_self, put_same, same_cell, same_words, same_page, same_mail, same_kick, same_calls, put_calls, same_kept, goes_on}
use Rattle.ev_call_law.proofs.Steps.{emptied_func, freed_func, call_kept, take_kept, finish_kept}

-- ---- entries of no call

log_plain : (p v : ℕ) → IsPlain (Entry.Log p v)
unfolding is_call is_ran
log_plain p v = record { call = λ f s n. refl; ran = λ f s n. refl; made = λ k. refl }

busy_plain : (p s : ℕ) → IsPlain (Entry.Busy p s)
unfolding is_call is_ran
busy_plain p s = record { call = λ f s n. refl; ran = λ f s n. refl; made = λ k. refl }

done_plain : (p s x : ℕ) → IsPlain (Entry.Done p s x)
unfolding is_call is_ran
done_plain p s x = record { call = λ f s n. refl; ran = λ f s n. refl; made = λ k. refl }

-- ---- a delivery

delivered_queue : (image : Image) (p : ℕ) (x : Processor) (e : Event) → (delivered image p x e).0.queue ≡ x.queue
unfolding delivered
delivered_queue image p x e = pick (first_body 0 image.bodies (event_key e.kind e.vector) (side_of x.bodies))
  where
    with : (n : ℕ) (o : Option Body) → slice_get image.bodies n ≡ o → (entered p x e (side_of x.bodies) (Some n) image.bodies).0.queue ≡ x.queue
    with n None q = rw q refl
    with n (Some b) q = rw q refl

    pick : (o : Option ℕ) → (entered p x e (side_of x.bodies) o image.bodies).0.queue ≡ x.queue
    pick None = refl
    pick (Some n) = with n (slice_get image.bodies n) refl

delivered_lists : (image : Image) (p : ℕ) (x : Processor) (e : Event) → to_run (delivered image p x e).0.bodies ≡ to_run x.bodies
unfolding delivered
delivered_lists image p x e = pick (first_body 0 image.bodies (event_key e.kind e.vector) (side_of x.bodies))
  where
    with : (n : ℕ) (o : Option Body) → slice_get image.bodies n ≡ o
        → to_run (entered p x e (side_of x.bodies) (Some n) image.bodies).0.bodies ≡ to_run x.bodies
    with n None q = rw q refl
    with n (Some b) q = rw q refl

    pick : (o : Option ℕ) → to_run (entered p x e (side_of x.bodies) o image.bodies).0.bodies ≡ to_run x.bodies
    pick None = refl
    pick (Some n) = with n (slice_get image.bodies n) refl

-- entries that move no call, at most one
abbrev IsQuiet : List Entry → List Entry → Type 0
IsQuiet past es = ArePlain es × AllFit past es × (length es ≤ 1)

enter_plain : (image : Image) (p : ℕ) (x : Processor) (e : Event) (past : List Entry) → IsQuiet past (delivered image p x e).1
unfolding delivered is_call is_ran
enter_plain image p x e past = pick (first_body 0 image.bodies (event_key e.kind e.vector) (side_of x.bodies))
  where
    with : (n : ℕ) (o : Option Body) → slice_get image.bodies n ≡ o → IsQuiet past (entered p x e (side_of x.bodies) (Some n) image.bodies).1
    with n None q = rw q (tt, tt, omega arith)
    with n (Some b) q = rw q ((record { call = λ f s n. refl; ran = λ f s n. refl; made = λ k. refl }, tt), (tt, tt), omega arith)

    pick : (o : Option ℕ) → IsQuiet past (entered p x e (side_of x.bodies) o image.bodies).1
    pick None = (tt, tt, omega arith)
    pick (Some n) = with n (slice_get image.bodies n) refl

-- ---- a return

dropped_rest : (image : Image) (c : BodyContext) (x : Processor) (below : List BodyContext)
    → ((dropped image c x below).queue ≡ x.queue) × ((dropped image c x below).bodies ≡ below)
dropped_rest image c x [] = pick (x.resched && not (is_nmi_body image c))
  where
    switch : (y : Processor) (ts : List ℕ) → ((switched y ts).queue ≡ y.queue) × ((switched y ts).bodies ≡ y.bodies)
    switch y [] = (refl, refl)
    switch y (t ∷ ts) = (refl, refl)

    pick : (b : Bool) → ((if b then rescheduled (record x { bodies = [] }) else record x { bodies = [] }).queue ≡ x.queue)
        × ((if b then rescheduled (record x { bodies = [] }) else record x { bodies = [] }).bodies ≡ [])
    pick true = switch (record x { bodies = []; resched = false }) (x.waiting ++ x.running ∷ [])
    pick false = (refl, refl)
dropped_rest image c x (b ∷ bs) = (refl, refl)

no_calls : (ks : List CallId) → runs_calls ks ≡ false → ks ≡ []
no_calls [] h = refl
no_calls (k ∷ ks) h = absurd (cc)

first_calls : (image : Image) (n : Machine) (c : BodyContext) (ks : List CallId) → (at_first_call image n c ks).calls ≡ ks
first_calls image n c [] = refl
first_calls image n c (k ∷ ks) = refl

call_in_range : (processors site to func s : ℕ) → breaks_slots processors (Call site to func s) ≡ false
    → (site < 8) × (to < processors) × (func < 8)
unfolding breaks_slots
call_in_range processors site to func s h =
    let k = not-false _ h in
    let a = and_parts (nat_lt site 8 && nat_lt to processors) (nat_lt func 8) k in
    let b = and_parts (nat_lt site 8) (nat_lt to processors) a.0 in (ltb-true site 8 b.0, ltb-true to processors b.1, ltb-true func 8 a.1)

module _ (image : Image) (ruled : (n : ℕ) (b : Body) → slice_get image.bodies n ≡ Some b → IsRuled image b)
    (parted : (n : ℕ) (b : Body) → slice_get image.bodies n ≡ Some b → IsParted b) where
  delivered_runs : (m : Machine) (p : ℕ) (x : Processor) (e : Event) → RunTheirCalls image m x.bodies
      → RunTheirCalls image m (delivered image p x e).0.bodies
  unfolding delivered
  delivered_runs m p x e h = pick (first_body 0 image.bodies (event_key e.kind e.vector) (side_of x.bodies))
    where
      with : (n : ℕ) (o : Option Body) → slice_get image.bodies n ≡ o
          → RunTheirCalls image m (entered p x e (side_of x.bodies) (Some n) image.bodies).0.bodies
      with n None q = rw q h
      with n (Some b) q = rw q (
        record { body = b; is_body = q; function = no_function b 0 (lt-leb _ 0 (ruled n b q).starts) },
        h,
      )

      pick : (o : Option ℕ) → RunTheirCalls image m (entered p x e (side_of x.bodies) o image.bodies).0.bodies
      pick None = h
      pick (Some n) = with n (slice_get image.bodies n) refl

  -- an event at p, whose processor is x up to what no call is in
  pub delivered_kept : (m n : Machine) (p : ℕ) (x : Processor) (e : Event) (past : List Entry) → KeepsCallRecords image m past → Same m n
      → x.records ≡ (processor n p).records → x.queue ≡ (processor n p).queue → x.bodies ≡ (processor m p).bodies
      → KeptStep image past (with_processor n p (delivered image p x e).0, (delivered image p x e).1)
  delivered_kept m n p x e past keeps same r u b =
      let plain = enter_plain image p x e past in
      same_kept image m (with_processor n p (delivered image p x e).0) past (delivered image p x e).1 keeps
      (put_calls image m n p (delivered image p x e).0 same (delivered_records image p x e ∙ r) (delivered_queue image p x e ∙ u)
      (delivered_lists image p x e ∙ ap to_run b) (λ h. delivered_runs m p x e (subst (RunTheirCalls image m) (sym b) h)))
      plain.0 plain.1 plain.2

  pub raised_kept : (m : Machine) (p : ℕ) (e : Event) (past : List Entry) → KeepsCallRecords image m past → KeptStep image past (raised image m p e)
  raised_kept m p e past keeps = delivered_kept m m p (processor m p) e past keeps (same_self m) refl refl refl

  module _ (m : Machine) (p : ℕ) (c : BodyContext) (below : List BodyContext) (past : List Entry) (legal : Legal image m)
      (keeps : KeepsCallRecords image m past) (here : (processor m p).bodies ≡ c ∷ below) (within : p < image.processors)
      (top : AreLegal image (knows image m) (c ∷ below)) where
    is_ruled : IsRuled image top.0.body
    is_ruled = ruled c.body top.0.body top.0.is_body

    is_parted : IsParted top.0.body
    is_parted = parted c.body top.0.body top.0.is_body

    runs_here : RunsItsCall image m c
    runs_here = (subst (RunTheirCalls image m) here (keeps.runs p)).0

    function_here : function_at top.0.body c.place ≡ first_function m c.calls
    function_here =
        let e : Some runs_here.body ≡ Some top.0.body = sym runs_here.is_body ∙ top.0.is_body in let same : top.0.body ≡ runs_here.body = cc in
        ap (λ b. function_at b c.place) same ∙ runs_here.function

    -- no calls in the main part
    nothing_here : in_function top.0.body c.place ≡ false → c.calls ≡ []
    nothing_here e = no_calls c.calls (top.0.at.runs ∙ e)

    -- another context in the same function
    stands : (d : BodyContext) → d.body ≡ c.body → d.calls ≡ c.calls → function_at top.0.body d.place ≡ function_at top.0.body c.place
        → RunsItsCall image m d
    stands d body calls e = record {
      body = top.0.body;
      is_body = ap (slice_get image.bodies) body ∙ top.0.is_body;
      function = e ∙ function_here ∙ ap (first_function m) (sym calls);
    }

    shows : (n : Machine) (d : BodyContext) (es : List Entry) → Same m n → d.body ≡ c.body → d.calls ≡ c.calls
        → function_at top.0.body d.place ≡ function_at top.0.body c.place → ArePlain es → AllFit past es → length es ≤ 1
        → KeptStep image past (with_context n p d, es)
    shows n d es same body calls e plain fit short =
        same_kept image m (with_context n p d) past es keeps (goes_on image m n p c d below same here calls (λ h. stands d body calls e)) plain fit
        short

    next : (n : Machine) (d : BodyContext) (item : Item) → Same m n → slice_get (body_items top.0.body) c.place ≡ Some item
        → is_ret item ≡ false → is_finish item ≡ false → d.body ≡ c.body → d.calls ≡ c.calls → d.place ≡ suc c.place
        → KeptStep image past (with_context n p d, [])
    next n d item same e r f body calls q =
        shows n d [] same body calls (ap (function_at top.0.body) q ∙ is_parted.next c.place item e r f) tt tt (omega arith)

    jumps : (d : BodyContext) (item : Item) (n : ℕ) → slice_get (body_items top.0.body) c.place ≡ Some item → jump_target item ≡ Some n
        → d.body ≡ c.body → d.calls ≡ c.calls → d.place ≡ n → KeptStep image past (with_context m p d, [])
    jumps d item n e j body calls q =
        shows m d [] (same_self m) body calls (ap (function_at top.0.body) q ∙ is_parted.leads c.place item n e j) tt tt (omega arith)

    -- ---- `call` and `wait`

    called_kept : (k : CallId) (state : CallState) (site to func s : ℕ) → k.from ≡ p → k.site ≡ site → (record_of m k).state ≡ state
        → slice_get (body_items top.0.body) c.place ≡ Some (Call site to func s)
        → is_ret (Call site to func s) ≡ false → is_finish (Call site to func s) ≡ false → KeptStep image past (called m p c k state to func s)
    called_kept k Free site to func s from at free e r f =
        let arg : ℕ = local c s in
        let d : BodyContext = onward (with_local (unknown_flags c) s (queue_answer (processor m to).queue)) in
        let range = call_in_range image.processors site to func s (is_ruled.slots c.place (Call site to func s) e) in
        let l : k.from < image.processors = subst (λ i. i < image.processors) (sym from) within in
        let t : k.site < 8 = subst (λ i. i < 8) (sym at) range.0 in
        subst (λ i. KeptStep image past (
          with_context (queued m k (new_record (record_of m k) to func arg)) p d,
          Entry.Call i k.site (suc (record_of m k).number) to func arg ∷ [],
        )) from
        (call_kept image m past keeps p c d below here k to func arg free refl (stands d refl refl (is_parted.next c.place (Call site to func s) e r f))
        (record { from = l; site = t; to = range.1; func = range.2; number = omega arith }))
    called_kept k _ site to func s from at busy e r f =
        shows m (onward (with_local (unknown_flags c) s 0)) (Entry.Busy p k.site ∷ []) (same_self m) refl refl
        (is_parted.next c.place (Call site to func s) e r f) (busy_plain p k.site, tt) (tt, tt) (omega arith)

    waited_kept : (k : CallId) (state : CallState) (site : ℕ) → k.from ≡ p → (record_of m k).state ≡ state
        → slice_get (body_items top.0.body) c.place ≡ Some (Wait site) → is_ret (Wait site) ≡ false → is_finish (Wait site) ≡ false
        → KeptStep image past (waited m p c k state)
    waited_kept k Free site from free e r f =
        let number : ℕ = (record_of m k).number in
        shows m (onward (unknown_flags c)) (Entry.Done p k.site number ∷ []) (same_self m) refl refl (is_parted.next c.place (Wait site) e r f)
        (done_plain p k.site number, tt) (
          λ pos. subst (λ i. list_any (is_ran i k.site number) past ≡ true) from (any_counted (is_ran k.from k.site number) past
              (let l = (keeps.told k).runs number in
              let o : one_if (was_queued (record_of m k) number && (nat_lt number number || is_free (record_of m k).state)) ≡ 1 =
              ap one_if (and_from (was_queued (record_of m k) number) (nat_lt number number || is_free (record_of m k).state)
              (and_from (nat_le 1 number) (nat_le number number) (le-leb 1 number (omega (arith, pos))) (le-leb number number (omega arith)))
              (or_right (nat_lt number number) (is_free (record_of m k).state) (ap is_free free))) in
              omega (arith, l, o))),
          tt,
        ) (omega arith)
    waited_kept k _ site from busy e r f = shows m (unknown_flags c) [] (same_self m) refl refl refl tt tt (omega arith)

    -- ---- `take` and `finish`

    -- at the function of the first call, or behind the `take`
    first_runs : (n : Machine) (ks : List CallId) → ((j : CallId) → (record_of n j).func ≡ (record_of m j).func) → list_all (knows image m) ks ≡ true
        → is_call_handler top.0.body ≡ true → slice_get (body_items top.0.body) (take_place 0 (body_items top.0.body)) ≡ Some Take
        → is_ret Take ≡ false → is_finish Take ≡ false → RunsItsCall image m (at_first_call image n (unknown_flags c) ks)
    first_runs n [] same known handler take r f = let t : ℕ = take_place 0 (body_items top.0.body) in record {
      body = top.0.body;
      is_body = top.0.is_body;
      function = ap (λ (o : Option Body). function_at top.0.body (after_take o)) top.0.is_body ∙ is_parted.next t Take take r f
          ∙ no_function top.0.body t (is_ruled.take t take).1;
    }
    first_runs n (k ∷ ks) same known handler take r f = let func : ℕ = (record_of n k).func in record {
      body = top.0.body;
      is_body = top.0.is_body;
      function = ap (λ (o : Option Body). function_at top.0.body (start_of o func)) top.0.is_body
          ∙ is_parted.start func (declared_at image c.body top.0.body func top.0.is_body handler
          (subst (λ func. declares image func ≡ true) (sym (same k)) (and_parts (knows image m k) _ known).0))
          ∙ ap Some (same k);
    }

    take_item : slice_get (body_items top.0.body) c.place ≡ Some Take → is_ret Take ≡ false → is_finish Take ≡ false
        → KeptStep image past (
          with_context (with_queue (all_taken m (processor m p).queue) p []) p
              (at_first_call image (with_queue (all_taken m (processor m p).queue) p []) (unknown_flags c) (processor m p).queue),
          [],
        )
    take_item e r f =
        let queue : List CallId = (processor m p).queue in
        let n : Machine = with_queue (all_taken m queue) p [] in
        let t = is_ruled.take c.place e in
        take_kept image m past keeps p c (at_first_call image n (unknown_flags c) queue) below here (first_calls image n (unknown_flags c) queue)
        (nothing_here t.1) (first_runs n queue (emptied_func m queue p) (legal.each p).queue t.2
        (subst (λ i. slice_get (body_items top.0.body) i ≡ Some Take) (sym t.0) e) r f)

    finish_item : (cs : List CallId) → c.calls ≡ cs → list_all (knows image m) cs ≡ true → slice_get (body_items top.0.body) c.place ≡ Some Finish
        → is_ret Take ≡ false → is_finish Take ≡ false → KeptStep image past (finished image m p c cs)
    finish_item [] q known e r f = same_kept image m m past [] keeps (same_calls image m m (same_self m)) tt tt (omega arith)
    finish_item (k ∷ ks) q known e r f =
        let n : Machine = with_record m k (in_state (record_of m k) Free) in
        let t = (is_ruled.part c.place top.0.at.place (is_ruled.finish c.place e)).1 in
        finish_kept image m past keeps p c (at_first_call image n (unknown_flags c) ks) below here k ks q (first_calls image n (unknown_flags c) ks)
        (first_runs n ks (freed_func m k) (and_parts (knows image m k) _ known).1 (is_ruled.take (take_place 0 (body_items top.0.body)) t).2 t r f)

    -- ---- faults and returns

    guarded_kept : (a : ℕ) (code : Option ℕ) (s : Step) → KeptStep image past s → KeptStep image past (guarded image m p a code s)
    guarded_kept a None s h = h
    guarded_kept a (Some code) s h = raised_kept m p (pf code a) past keeps

    breakpoint_kept : (n : Machine) → KeptStep image past (n, []) → (e : Event) → KeptStep image past (raised image n p e)
    breakpoint_kept n h e = raised_kept n p e past (subst (KeepsCallRecords image n) (append-nil past) h.kept)

    return_kept : slice_get (body_items top.0.body) c.place ≡ Some Ret
        → KeptStep image past (with_processor m p (dropped image c (processor m p) (below_last (processor m p).bodies)), [])
    return_kept e =
        let x : Processor = dropped image c (processor m p) (below_last (processor m p).bodies) in
        let d = dropped_rest image c (processor m p) (below_last (processor m p).bodies) in
        let b : x.bodies ≡ below = d.1 ∙ ap below_last here in
        let nothing : c.calls ≡ [] = nothing_here (is_parted.ret c.place e) in
        same_kept image m (with_processor m p x) past [] keeps
        (put_calls image m m p x (same_self m) (dropped_records image c (processor m p) (below_last (processor m p).bodies)) d.0
        (ap to_run b ∙ sym (ap to_run here ∙ ap (λ ks. ks ++ to_run below) nothing))
        (λ h. subst (RunTheirCalls image m) (sym b) (subst (RunTheirCalls image m) here h).1))
        tt tt (omega arith)

    jcc_kept : (cond : Cond) (n : ℕ) (t : Bool) → slice_get (body_items top.0.body) c.place ≡ Some (Jcc cond n) → jump_target (Jcc cond n) ≡ Some n
        → is_ret (Jcc cond n) ≡ false → is_finish (Jcc cond n) ≡ false → KeptStep image past (with_context m p (if t then at_place c n else onward c), [])
    jcc_kept cond n true e j r f = jumps (at_place c n) (Jcc cond n) n e j refl refl refl
    jcc_kept cond n false e j r f = next m (onward c) (Jcc cond n) (same_self m) e r f refl refl refl

    pub item_kept : (item : Item) → slice_get (body_items top.0.body) c.place ≡ Some item → KeptStep image past (item_step image m p c item)
    unfolding item_step is_ret is_finish jump_target
    item_kept (Set d n) e = next m (onward (with_local c d n)) (Set d n) (same_self m) e refl refl refl refl refl
    item_kept (Copy d s) e = next m (onward (with_local c d (local c s))) (Copy d s) (same_self m) e refl refl refl refl refl
    item_kept (Alu op d s) e =
        next m (onward (arithmetic c d (alu op (local c d) (local c s)))) (Alu op d s) (same_self m) e refl refl refl refl refl
    item_kept (Jcc cond n) e = jcc_kept cond n (taken cond c.flags) e refl refl refl
    item_kept (Goto n) e = jumps (at_place c n) (Goto n) n e refl refl refl refl
    item_kept Nop e = next m (onward c) Nop (same_self m) e refl refl refl refl refl
    item_kept (Log s) e = shows m (onward c) (Entry.Log p (local c s) ∷ []) (same_self m) refl refl (is_parted.next c.place (Log s) e refl refl)
        (log_plain p (local c s), tt) (tt, tt) (omega arith)
    item_kept (Cpu d) e = next m (onward (with_local c d p)) (Cpu d) (same_self m) e refl refl refl refl refl
    item_kept (Slot d k) e = next m (onward (with_local c d ((processor m p).slots k))) (Slot d k) (same_self m) e refl refl refl refl refl
    item_kept (Put k s) e = next (with_slot m p k (local c s)) (onward c) (Put k s)
        (put_same m p (record (processor m p) { slots = put_at (processor m p).slots k (local c s) }) refl refl refl) e refl refl refl refl refl
    item_kept (Cell d k) e = next m (onward (with_local c d (m.cells k))) (Cell d k) (same_self m) e refl refl refl refl refl
    item_kept (SetCell k s) e = next (with_cell m k (local c s)) (onward c) (SetCell k s) (same_cell m k (local c s)) e refl refl refl refl refl
    item_kept (AddCell k d) e = let v : ℕ = wrap (m.cells k + local c d) in
        next (with_cell m k v) (onward (with_local (unknown_flags c) d (m.cells k))) (AddCell k d) (same_cell m k v) e refl refl refl refl refl
    item_kept (SwapCell k d) e =
        next (with_cell m k (local c d)) (onward (with_local c d (m.cells k))) (SwapCell k d) (same_cell m k (local c d)) e refl refl refl refl refl
    item_kept (Uget d s) e = let a : ℕ = user_address (local c s) in
        guarded_kept a (kernel_fault m false a) (gives m p (unknown_flags c) d (m.words a))
        (next m (onward (with_local (unknown_flags c) d (m.words a))) (Uget d s) (same_self m) e refl refl refl refl refl)
    item_kept (Uput s t) e = let a : ℕ = user_address (local c s) in let n : Machine = record m { words = put_at m.words a (local c t) } in
        guarded_kept a (kernel_fault m true a) (done n p (unknown_flags c))
        (next n (onward (unknown_flags c)) (Uput s t) (same_words m (put_at m.words a (local c t))) e refl refl refl refl refl)
    item_kept (GetReg d r) e = next m (onward (with_local c d (reg (task (processor m p)) r))) (GetReg d r) (same_self m) e refl refl refl refl refl
    item_kept (SetReg r s) e = let t = with_reg (task (processor m p)) r (local c s) in
        next (with_task_at m p t) (onward c) (SetReg r s) (put_same m p (with_task (processor m p) t) refl refl refl) e refl refl refl refl refl
    item_kept (SetRip a) e = let t = record (task (processor m p)) { rip = a } in
        next (with_task_at m p t) (onward c) (SetRip a) (put_same m p (with_task (processor m p) t) refl refl refl) e refl refl refl refl refl
    item_kept (Map s) e =
        next (with_page m (place_of (local c s)) true) (onward (unknown_flags c)) (Map s) (same_page m (place_of (local c s)) true) e refl refl refl refl refl
    item_kept (Unmap s) e =
        next (with_page m (place_of (local c s)) false) (onward (unknown_flags c)) (Unmap s) (same_page m (place_of (local c s)) false) e refl refl refl refl
        refl
    item_kept Resched e = next (with_processor m p (record (processor m p) { resched = true })) (onward c) Resched
        (put_same m p (record (processor m p) { resched = true }) refl refl refl) e refl refl refl refl refl
    item_kept Sti e = next m (onward (record c { interrupts = true })) Sti (same_self m) e refl refl refl refl refl
    item_kept Cli e = next m (onward (record c { interrupts = false })) Cli (same_self m) e refl refl refl refl refl
    item_kept Eoi e = next m (onward (record c { service = None })) Eoi (same_self m) e refl refl refl refl refl
    item_kept (Send to key) e = next (with_mail m to key) (onward c) (Send to key) (same_mail image m to key) e refl refl refl refl refl
    item_kept Item.Bp e = breakpoint_kept (with_context m p (onward c)) (next m (onward c) Item.Bp (same_self m) e refl refl refl refl refl)
        (software Int3 3 1)
    item_kept (Call site to func s) e = let k : CallId = record { from = p; site = site } in
        called_kept k (record_of m k).state site to func s refl refl refl e refl refl
    item_kept (Kick to s) e = next (if local c s == 2 then with_mail m to (Key.Irq 0xfb) else m) (onward (unknown_flags c)) (Kick to s)
        (same_kick image m to (local c s == 2)) e refl refl refl refl refl
    item_kept (Wait site) e = let k : CallId = record { from = p; site = site } in waited_kept k (record_of m k).state site refl refl e refl refl
    item_kept Take e = take_item e refl refl
    item_kept Finish e = finish_item c.calls refl top.0.calls e refl refl
    item_kept Ret e = return_kept e
