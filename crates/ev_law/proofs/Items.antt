-- Each item keeps the machine legal.
use Rattle.std.specs.Prelude.{◌≡◌, refl, ℕ, suc, ◌⊎◌, Bool, true, false, not, ◌&&◌, ◌||◌, ◌==◌, ◌+◌, if◌then◌else◌, List, [], ◌∷◌, ◌++◌, Option, Some, None, is_some, slice_get}
use Rattle.std.specs.List.{list_all}
use Rattle.std.proofs.Common.{ap, sym, ◌∙◌, subst, inl, inr}
use Rattle.std.proofs.lemmas.Bool.{and_parts}
use Rattle.ev_isa.specs.Word.{put_at, wrap}
use Rattle.ev_isa.specs.Flags.{alu}
use Rattle.ev_isa.specs.Pages.{place_of}
use Rattle.ev_isa.specs.declared.instruction.Cond.{Cond}
use Rattle.ev_event.specs.declared.event.Event.{Event}
use Rattle.ev_event.specs.declared.event.EventType.TheVariants.{Int3}
use Rattle.ev_event.specs.Event.{pf, software}
use Rattle.ev_body.specs.declared.key.Key.{Key}
use Rattle.ev_body.specs.declared.item.Item.{Item}
use Rattle.ev_body.specs.declared.item.Item.TheVariants.{Set, Copy, Alu, Jcc, Goto, Nop, Log, Cpu, Slot, Put, Cell, SetCell, AddCell, SwapCell, Uget, Uput, GetReg, SetReg, SetRip, Map, Unmap, Resched, Sti, Cli, Eoi, Send, Call, Kick, Wait, Take, Finish, Ret}
use Rattle.ev_body.specs.declared.body.Body.{Body}
use Rattle.ev_body.specs.declared.image.Image.{Image}
use Rattle.ev_body.specs.Bodies.{body_items}
use Rattle.ev_body.specs.WellFormed.{is_ret, is_finish}
use Rattle.ev_effect.specs.Task.{reg, with_reg}
use Rattle.ev_abstract.specs.Context.{BodyContext, CallId, local, with_local, onward, at_place}
use Rattle.ev_abstract.specs.Machine.{Processor, Machine, CallState, CallRecord, Free, processor, with_processor, task, with_task}
use Rattle.ev_abstract.specs.Boundary.{is_nmi_body}
use Rattle.ev_abstract.specs.Chain.{has_item, is_breakpoint, is_user_access}
use Rattle.ev_abstract.specs.CrossCall.{record_of, with_record, in_state, with_queue, queued, new_record, queue_answer, all_taken, take_place, after_take, start_of, at_first_call}
use Rattle.ev_abstract.specs.Delivery.{delivered, dropped, rescheduled, switched}
use Rattle.ev_abstract.specs.ItemMeaning.{Step, item_step, with_context, with_cell, with_page, with_slot, with_task_at, with_mail, unknown_flags, arithmetic, taken, raised, guarded, kernel_fault, user_address, gives, done, called, waited, finished, below_last}
use Rattle.ev_abstract.specs.Rules.{if_after, leaves_flags, is_eoi, is_call_handler, jump_target}
use Rattle.ev_law.specs.Legal.{IsAt, IsLegalOn, AreLegal, IsLegalProcessor, Legal, has_flags_for, has_function, declares, knows}
use Rattle.ev_law.proofs.Lists.{all_at}
use Rattle.ev_law.proofs.Ruled.{IsRuled}
use Rattle.ev_law.proofs.Places.{onward_at, jump_at, function_at, behind_take_at, flags_are_known}
use Rattle.ev_law.proofs.Delivery.{CanCome, delivered_legal, delivered_records, breakpoint_can_come, page_fault_can_come, any_whole}
use Rattle.ev_law.proofs.Machines.{put_legal, legal_grown, calls_grown, Alike, alike_self, alike_then, put_alike, alike_cell, alike_words, alike_page, alike_record, alike_queue, alike_queued, alike_taken, alike_mail, alike_kick, used_by_item, send_sends, kick_sends, moved, moved_bodies}

-- ---- tests of items

access_get : (d s : ℕ) → is_user_access (Uget d s) ≡ true
unfolding is_user_access
access_get d s = refl

access_put : (s t : ℕ) → is_user_access (Uput s t) ≡ true
unfolding is_user_access
access_put s t = refl

is_bp : is_breakpoint Item.Bp ≡ true
unfolding is_breakpoint
is_bp = refl

jcc_target : (cond : Cond) (n : ℕ) → jump_target (Jcc cond n) ≡ Some n
unfolding jump_target
jcc_target cond n = refl

goto_target : (n : ℕ) → jump_target (Goto n) ≡ Some n
unfolding jump_target
goto_target n = refl

jcc_plain : (cond : Cond) (n : ℕ) (on : Bool) (o : Option ℕ)
    → (is_ret (Jcc cond n) ≡ false) × (on ≡ if_after on (Jcc cond n)) × (o ≡ (if is_eoi (Jcc cond n) then None else o)) × (is_finish (Jcc cond n) ≡ false)
unfolding is_ret is_finish if_after is_eoi
jcc_plain cond n on o = (refl, refl, refl, refl)

pub dropped_records : (image : Image) (c : BodyContext) (x : Processor) (below : List BodyContext) → (dropped image c x below).records ≡ x.records
dropped_records image c x [] = pick (x.resched && not (is_nmi_body image c))
  where
    switch : (y : Processor) (ts : List ℕ) → (switched y ts).records ≡ y.records
    switch y [] = refl
    switch y (t ∷ ts) = refl

    pick : (b : Bool) → (if b then rescheduled (record x { bodies = [] }) else record x { bodies = [] }).records ≡ x.records
    pick true = switch (record x { bodies = []; resched = false }) (x.waiting ++ x.running ∷ [])
    pick false = refl
dropped_records image c x (b ∷ bs) = refl

wait_flags : (site : ℕ) → has_flags_for (Some (Wait site)) None ≡ true
unfolding has_flags_for
wait_flags site = refl

-- a declared function is one of the body that takes calls
pub declared_at : (image : Image) (n : ℕ) (b : Body) (func : ℕ) → slice_get image.bodies n ≡ Some b → is_call_handler b ≡ true
    → declares image func ≡ true → has_function func b ≡ true
unfolding declares
declared_at image n b func e handler h =
    second (is_call_handler b) (has_function func b) handler (all_at (λ (b : Body). not (is_call_handler b) || has_function func b) image.bodies n b h e)
  where
    second : (x y : Bool) → x ≡ true → (not x || y) ≡ true → y ≡ true
    second true y e h = h
    second false y e h = absurd (cc)

module _ (image : Image) (ruled : (n : ℕ) (b : Body) → slice_get image.bodies n ≡ Some b → IsRuled image b) where
  -- ---- the return

  switched_legal : (known : CallId → Bool) (x : Processor) (ts : List ℕ) → IsLegalProcessor image known x
      → IsLegalProcessor image known (switched x ts)
  switched_legal known x [] h = h
  switched_legal known x (t ∷ ts) h = record { bodies = h.bodies; pending = h.pending; mail = h.mail; nmi = h.nmi; queue = h.queue }

  pub dropped_legal : (known : CallId → Bool) (c : BodyContext) (x : Processor) (below : List BodyContext) → IsLegalProcessor image known x
      → AreLegal image known below → IsLegalProcessor image known (dropped image c x below)
  dropped_legal known c x [] h k = pick (x.resched && not (is_nmi_body image c))
    where
      pick : (b : Bool) → IsLegalProcessor image known (if b then rescheduled (record x { bodies = [] }) else record x { bodies = [] })
      pick true =
          switched_legal known (record x { bodies = []; resched = false }) (x.waiting ++ x.running ∷ [])
          (record { bodies = k; pending = h.pending; mail = h.mail; nmi = h.nmi; queue = h.queue })
      pick false = record { bodies = k; pending = h.pending; mail = h.mail; nmi = h.nmi; queue = h.queue }
  dropped_legal known c x (b ∷ bs) h k = record { bodies = k; pending = h.pending; mail = h.mail; nmi = h.nmi; queue = h.queue }

  -- ---- a delivery

  pub raised_legal : (m : Machine) (p : ℕ) (e : Event) → Legal image m → CanCome image (processor m p).bodies e → Legal image (raised image m p e).0
  raised_legal m p e h can =
      put_legal image m p (delivered image p (processor m p) e).0 (delivered_records image p (processor m p) e) h
      (delivered_legal image (knows image m) ruled p (processor m p) e (h.each p) can)

  -- ---- the last context goes on

  module _ (m : Machine) (p : ℕ) (c : BodyContext) (below : List BodyContext) (legal : Legal image m) (here : (processor m p).bodies ≡ c ∷ below)
      (top : AreLegal image (knows image m) (c ∷ below)) where
    is_ruled : IsRuled image top.0.body
    is_ruled = ruled c.body top.0.body top.0.is_body

    -- the same body in another context
    with_calls : (n : Machine) (d : BodyContext) → Alike image m n → d.body ≡ c.body → list_all (knows image n) d.calls ≡ true → IsAt top.0.body d
        → Legal image (with_context n p d)
    with_calls n d a same calls at = moved image n p c d below (a.legal legal) (a.bodies p ∙ here) (
      record { body = top.0.body; is_body = ap (slice_get image.bodies) same ∙ top.0.is_body; at = at; over = top.0.over; calls = calls },
      legal_grown image (knows image m) (knows image n) a.grows.known below top.1,
    )

    with_last : (n : Machine) (d : BodyContext) → Alike image m n → d.body ≡ c.body → d.calls ≡ c.calls → IsAt top.0.body d
        → Legal image (with_context n p d)
    with_last n d a same calls at =
        with_calls n d a same (calls_grown image m n a.grows d.calls (subst (λ ks. list_all (knows image m) ks ≡ true) (sym calls) top.0.calls)) at

    goes_on : (n : Machine) (d : BodyContext) (item : Item) → Alike image m n → slice_get (body_items top.0.body) c.place ≡ Some item
        → is_ret item ≡ false → is_finish item ≡ false
        → d.body ≡ c.body → d.calls ≡ c.calls → d.place ≡ suc c.place → d.interrupts ≡ if_after c.interrupts item
        → (leaves_flags (Some item) ≡ true → is_some d.flags ≡ true)
        → d.service ≡ (if is_eoi item then None else c.service) → Legal image (with_context n p d)
    goes_on n d item a e r f same calls q on fl sv =
        with_last n d a same calls (onward_at image top.0.body is_ruled c d item top.0.at e r f calls q on fl sv)

    jumps : (d : BodyContext) (item : Item) (n : ℕ) → slice_get (body_items top.0.body) c.place ≡ Some item → jump_target item ≡ Some n
        → d.body ≡ c.body → d.calls ≡ c.calls → d.place ≡ n → d.interrupts ≡ c.interrupts → d.service ≡ c.service → Legal image (with_context m p d)
    jumps d item n e j same calls q on sv =
        with_last m d (alike_self image m) same calls (jump_at image top.0.body is_ruled c d item n top.0.at e j calls q on sv)

    -- at the function of the first call, or behind the `take`
    first_call : (n : Machine) (ks : List CallId) → Alike image m n → list_all (knows image n) ks ≡ true → is_call_handler top.0.body ≡ true
        → (slice_get (body_items top.0.body) c.place ≡ Some Take) ⊎ (slice_get (body_items top.0.body) c.place ≡ Some Finish)
        → Legal image (with_context n p (at_first_call image n (unknown_flags c) ks))
    first_call n [] a known handler from = with_calls n (at_first_call image n (unknown_flags c) []) a refl refl
        (behind_take_at image top.0.body is_ruled c (at_first_call image n (unknown_flags c) []) top.0.at from refl (ap after_take top.0.is_body) refl refl)
    first_call n (k ∷ ks) a known handler from = with_calls n (at_first_call image n (unknown_flags c) (k ∷ ks)) a refl known
        (function_at image top.0.body is_ruled c (at_first_call image n (unknown_flags c) (k ∷ ks)) (record_of n k).func top.0.at from
        (declared_at image c.body top.0.body (record_of n k).func top.0.is_body handler (and_parts (knows image n k) _ known).0) refl
        (ap (λ o. start_of o (record_of n k).func) top.0.is_body) refl refl)

    take_legal : slice_get (body_items top.0.body) c.place ≡ Some Take
        → Legal image (with_context (with_queue (all_taken m (processor m p).queue) p []) p
        (at_first_call image (with_queue (all_taken m (processor m p).queue) p []) (unknown_flags c) (processor m p).queue))
    take_legal e =
        let queue : List CallId = (processor m p).queue in
        let t : Machine = all_taken m queue in
        let n : Machine = with_queue t p [] in
        let a : Alike image m n = alike_then image m t n (alike_taken image m queue) (alike_queue image t p [] (λ h. refl)) in
        first_call n queue a (calls_grown image m n a.grows queue (legal.each p).queue) (is_ruled.take c.place e).2 (inl e)

    finish_legal : (cs : List CallId) → list_all (knows image m) cs ≡ true → slice_get (body_items top.0.body) c.place ≡ Some Finish
        → Legal image (finished image m p c cs).0
    finish_legal [] known e = legal
    finish_legal (k ∷ ks) known e =
        let r : CallRecord = in_state (record_of m k) Free in
        let n : Machine = with_record m k r in
        let a : Alike image m n = alike_record image m k r (λ h. h) in
        let f = is_ruled.finish c.place e in
        let t = (is_ruled.part c.place top.0.at.place f).1 in
        first_call n ks a (calls_grown image m n a.grows ks (and_parts (knows image m k) _ known).1)
        (is_ruled.take (take_place 0 (body_items top.0.body)) t).2 (inr e)

    here_can : (e : Event) → CanCome image (c ∷ below) e → Legal image (raised image m p e).0
    here_can e can = raised_legal m p e legal (subst (λ bs. CanCome image bs e) (sym here) can)

    guarded_legal : (a : ℕ) (code : Option ℕ) (s : Step) → has_item is_user_access top.0.body ≡ true → Legal image s.0
        → Legal image (guarded image m p a code s).0
    guarded_legal a None s has h = h
    guarded_legal a (Some code) s has h = here_can (pf code a) (page_fault_can_come image (knows image m) ruled c below top.0 code a has)

    jcc_legal : (cond : Cond) (n : ℕ) (t : Bool) → slice_get (body_items top.0.body) c.place ≡ Some (Jcc cond n)
        → Legal image (with_context m p (if t then at_place c n else onward c))
    jcc_legal cond n true e = jumps (at_place c n) (Jcc cond n) n e (jcc_target cond n) refl refl refl refl refl
    jcc_legal cond n false e = let k = jcc_plain cond n c.interrupts c.service in
        goes_on m (onward c) (Jcc cond n) (alike_self image m) e k.0 k.3 refl refl refl k.1
        (λ h. flags_are_known cond n c.flags (subst (λ o. has_flags_for o c.flags ≡ true) e top.0.at.flags)) k.2

    called_legal : (k : CallId) (state : CallState) (site to func s : ℕ) → slice_get (body_items top.0.body) c.place ≡ Some (Call site to func s)
        → Legal image (called m p c k state to func s).0
    unfolding is_ret is_finish if_after is_eoi leaves_flags
    called_legal k Free site to func s e =
        let r : CallRecord = new_record (record_of m k) to func (local c s) in
        let answer : ℕ = queue_answer (processor m to).queue in
        goes_on (queued m k r) (onward (with_local (unknown_flags c) s answer)) (Call site to func s)
        (alike_queued image m k r (is_ruled.calls c.place site to func s e)) e refl refl refl refl refl refl (λ h. absurd (cc)) refl
    called_legal k _ site to func s e =
        goes_on m (onward (with_local (unknown_flags c) s 0)) (Call site to func s) (alike_self image m) e refl refl refl refl refl refl (λ h. absurd (cc))
        refl

    waited_legal : (k : CallId) (state : CallState) (site : ℕ) → slice_get (body_items top.0.body) c.place ≡ Some (Wait site)
        → Legal image (waited m p c k state).0
    unfolding is_ret is_finish if_after is_eoi leaves_flags
    waited_legal k Free site e =
        goes_on m (onward (unknown_flags c)) (Wait site) (alike_self image m) e refl refl refl refl refl refl (λ h. absurd (cc)) refl
    waited_legal k _ site e = with_last m (unknown_flags c) (alike_self image m) refl refl (record {
      place = top.0.at.place;
      interrupts = top.0.at.interrupts;
      flags = subst (λ o. has_flags_for o None ≡ true) (sym e) (wait_flags site);
      service = top.0.at.service;
      runs = top.0.at.runs;
    })

    pub item_legal : (item : Item) → slice_get (body_items top.0.body) c.place ≡ Some item → Legal image (item_step image m p c item).0
    unfolding item_step is_ret is_finish if_after is_eoi leaves_flags
    item_legal (Set d n) e = goes_on m (onward (with_local c d n)) (Set d n) (alike_self image m) e refl refl refl refl refl refl (λ h. absurd (cc)) refl
    item_legal (Copy d s) e =
        goes_on m (onward (with_local c d (local c s))) (Copy d s) (alike_self image m) e refl refl refl refl refl refl (λ h. absurd (cc)) refl
    item_legal (Alu op d s) e =
        goes_on m (onward (arithmetic c d (alu op (local c d) (local c s)))) (Alu op d s) (alike_self image m) e refl refl refl refl refl refl
        (λ h. refl) refl
    item_legal (Jcc cond n) e = jcc_legal cond n (taken cond c.flags) e
    item_legal (Goto n) e = jumps (at_place c n) (Goto n) n e (goto_target n) refl refl refl refl refl
    item_legal Nop e = goes_on m (onward c) Nop (alike_self image m) e refl refl refl refl refl refl (λ h. absurd (cc)) refl
    item_legal (Log s) e = goes_on m (onward c) (Log s) (alike_self image m) e refl refl refl refl refl refl (λ h. absurd (cc)) refl
    item_legal (Cpu d) e = goes_on m (onward (with_local c d p)) (Cpu d) (alike_self image m) e refl refl refl refl refl refl (λ h. absurd (cc)) refl
    item_legal (Slot d k) e =
        goes_on m (onward (with_local c d ((processor m p).slots k))) (Slot d k) (alike_self image m) e refl refl refl refl refl refl (λ h. absurd (cc)) refl
    item_legal (Put k s) e = goes_on (with_slot m p k (local c s)) (onward c) (Put k s)
        (put_alike image m p (record (processor m p) { slots = put_at (processor m p).slots k (local c s) }) refl refl refl (λ v. v) (λ h. (h.each p).nmi)
        (λ h. (h.each p).queue))
        e refl refl refl refl refl refl (λ h. absurd (cc)) refl
    item_legal (Cell d k) e =
        goes_on m (onward (with_local c d (m.cells k))) (Cell d k) (alike_self image m) e refl refl refl refl refl refl (λ h. absurd (cc)) refl
    item_legal (SetCell k s) e =
        goes_on (with_cell m k (local c s)) (onward c) (SetCell k s) (alike_cell image m k (local c s)) e refl refl refl refl refl refl (λ h. absurd (cc))
        refl
    item_legal (AddCell k d) e = let v : ℕ = wrap (m.cells k + local c d) in
        goes_on (with_cell m k v) (onward (with_local (unknown_flags c) d (m.cells k))) (AddCell k d) (alike_cell image m k v) e refl refl refl refl refl refl
        (λ h. absurd (cc)) refl
    item_legal (SwapCell k d) e =
        goes_on (with_cell m k (local c d)) (onward (with_local c d (m.cells k))) (SwapCell k d) (alike_cell image m k (local c d)) e refl refl refl refl refl
        refl (λ h. absurd (cc)) refl
    item_legal (Uget d s) e = let a : ℕ = user_address (local c s) in
        guarded_legal a (kernel_fault m false a) (gives m p (unknown_flags c) d (m.words a))
        (any_whole is_user_access (body_items top.0.body) c.place (Uget d s) e (access_get d s))
        (goes_on m (onward (with_local (unknown_flags c) d (m.words a))) (Uget d s) (alike_self image m) e refl refl refl refl refl refl (λ h. absurd (cc))
        refl)
    item_legal (Uput s t) e = let a : ℕ = user_address (local c s) in let n : Machine = record m { words = put_at m.words a (local c t) } in
        guarded_legal a (kernel_fault m true a) (done n p (unknown_flags c))
        (any_whole is_user_access (body_items top.0.body) c.place (Uput s t) e (access_put s t))
        (goes_on n (onward (unknown_flags c)) (Uput s t) (alike_words image m (put_at m.words a (local c t))) e refl refl refl refl refl refl
        (λ h. absurd (cc)) refl)
    item_legal (GetReg d r) e =
        goes_on m (onward (with_local c d (reg (task (processor m p)) r))) (GetReg d r) (alike_self image m) e refl refl refl refl refl refl
        (λ h. absurd (cc)) refl
    item_legal (SetReg r s) e = let t = with_reg (task (processor m p)) r (local c s) in
        goes_on (with_task_at m p t) (onward c) (SetReg r s) (put_alike image m p (with_task (processor m p) t) refl refl refl (λ v. v)
        (λ h. (h.each p).nmi) (λ h. (h.each p).queue)) e refl refl refl refl refl refl (λ h. absurd (cc)) refl
    item_legal (SetRip a) e = let t = record (task (processor m p)) { rip = a } in
        goes_on (with_task_at m p t) (onward c) (SetRip a) (put_alike image m p (with_task (processor m p) t) refl refl refl (λ v. v) (λ h. (h.each p).nmi)
        (λ h. (h.each p).queue))
        e refl refl refl refl refl refl (λ h. absurd (cc)) refl
    item_legal (Map s) e =
        goes_on (with_page m (place_of (local c s)) true) (onward (unknown_flags c)) (Map s) (alike_page image m (place_of (local c s)) true) e refl refl refl
        refl refl refl (λ h. absurd (cc)) refl
    item_legal (Unmap s) e =
        goes_on (with_page m (place_of (local c s)) false) (onward (unknown_flags c)) (Unmap s) (alike_page image m (place_of (local c s)) false) e refl refl
        refl refl refl refl (λ h. absurd (cc)) refl
    item_legal Resched e = goes_on (with_processor m p (record (processor m p) { resched = true })) (onward c) Resched
        (put_alike image m p (record (processor m p) { resched = true }) refl refl refl (λ v. v) (λ h. (h.each p).nmi) (λ h. (h.each p).queue)) e refl refl
        refl refl refl refl
        (λ h. absurd (cc)) refl
    item_legal Sti e = goes_on m (onward (record c { interrupts = true })) Sti (alike_self image m) e refl refl refl refl refl refl (λ h. absurd (cc)) refl
    item_legal Cli e =
        goes_on m (onward (record c { interrupts = false })) Cli (alike_self image m) e refl refl refl refl refl refl (λ h. absurd (cc)) refl
    item_legal Eoi e = goes_on m (onward (record c { service = None })) Eoi (alike_self image m) e refl refl refl refl refl refl (λ h. absurd (cc)) refl
    item_legal (Send to key) e = goes_on (with_mail m to key) (onward c) (Send to key)
        (alike_mail image m to key (is_ruled.sends c.place to key e) (used_by_item image key c.body c.place top.0.body (Send to key) top.0.is_body e
        (send_sends image to key))) e refl refl refl refl refl refl (λ h. absurd (cc)) refl
    item_legal Item.Bp e = let n : Machine = with_context m p (onward c) in
        let l : Legal image n = goes_on m (onward c) Item.Bp (alike_self image m) e refl refl refl refl refl refl (λ h. absurd (cc)) refl in
        let q : (processor n p).bodies ≡ onward c ∷ below = moved_bodies image m p c (onward c) below here in
        let at : IsAt top.0.body (onward c) = onward_at image top.0.body is_ruled c (onward c) Item.Bp top.0.at e refl refl refl refl refl (λ h. absurd (cc))
        refl in
        let t : IsLegalOn image (knows image m) (onward c) below =
        record { body = top.0.body; is_body = top.0.is_body; at = at; over = top.0.over; calls = top.0.calls } in
        let can = breakpoint_can_come image (knows image m) ruled (onward c) below t
        (any_whole is_breakpoint (body_items top.0.body) c.place Item.Bp e is_bp) in
        raised_legal n p (software Int3 3 1) l (subst (λ bs. CanCome image bs (software Int3 3 1)) (sym q) can)
    item_legal (Call site to func s) e = let k : CallId = record { from = p; site = site } in called_legal k (record_of m k).state site to func s e
    item_legal (Kick to s) e = goes_on (if local c s == 2 then with_mail m to (Key.Irq 0xfb) else m) (onward (unknown_flags c)) (Kick to s)
        (alike_kick image m to (local c s == 2) (used_by_item image (Key.Irq 0xfb) c.body c.place top.0.body (Kick to s) top.0.is_body e
        (kick_sends image to s))) e refl refl refl refl refl refl (λ h. absurd (cc)) refl
    item_legal (Wait site) e = let k : CallId = record { from = p; site = site } in waited_legal k (record_of m k).state site e
    item_legal Take e = take_legal e
    item_legal Finish e = finish_legal c.calls top.0.calls e
    item_legal Ret e =
        put_legal image m p (dropped image c (processor m p) (below_last (processor m p).bodies))
        (dropped_records image c (processor m p) (below_last (processor m p).bodies)) legal
        (dropped_legal (knows image m) c (processor m p) (below_last (processor m p).bodies) (legal.each p)
        (subst (λ bs. AreLegal image (knows image m) (below_last bs)) (sym here) top.1))
