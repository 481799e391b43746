-- Where only the task runs on a processor, no word of its stack is live: no activation stands there, and the task's own area is in no use. So a frame there
-- writes over no live word, whatever other tasks and processors have.
use Rattle.std.proofs.Common.{◌≡◌, ℕ, zero, suc, ◌+◌, ◌-◌, ◌*◌, ◌<◌, ◌≤◌, Bool, true, false, ◌&&◌, not, [], length, map, Some, refl, ap, ◌∙◌, arith}
use Rattle.std.specs.Prelude.{◌==◌, ◌||◌, nat_lt, nat_le, filter}
use Rattle.std.specs.List.{list_any}
use Rattle.std.proofs.lemmas.Bool.{eq-eqb}
use Rattle.std.proofs.lemmas.List.{length-map}
use Rattle.ev_isa.specs.Word.{wrap}
use Rattle.ev_isa.specs.declared.mode.Mode.{Mode}
use Rattle.ev_event.specs.declared.event.Event.{Event}
use Rattle.ev_body.specs.declared.image.Image.{Image}
use Rattle.ev_effect.specs.Frame.{addresses}
use Rattle.ev_state.specs.Processor.{is_user}
use Rattle.ev_proc.specs.declared.stepped.Stepped.{Stepped}
use Rattle.ev_listing.specs.AddressMap.{pcpu, stack_top, stack_bytes, task_words}
use Rattle.ev_concrete.specs.Opening.{tasks_of}
use Rattle.ev_concrete.specs.ConcreteRun.{System, Activation, interrupted, frame_size, acted}
use Rattle.ev_concrete.specs.LiveWords.{stands_on, standing, lowest, is_from, is_open, is_in_use, area_bytes, is_kept, is_live, overwrites}
use Rattle.ev_task_steps.proofs.Live.{not_live}

never : (a : Bool) → (a && false) ≡ false
never true = refl
never false = refl

-- only task n of p runs there
pub record OnlyTask (s : System) (p n : ℕ) : Type 0 where
  pub none : s.activations p ≡ []
  pub user : is_user (s.cpus p) ≡ true
  pub task_is : s.memory.words (pcpu p + 0x18) ≡ task_words p n

module _ (mode : Mode) (s : System) (p n : ℕ) (o : OnlyTask s p n) where
  unused : (address : ℕ) → is_in_use mode s p n address ≡ false
  unused address =
      ap (λ as'. nat_lt address (stack_top p n) && is_from
      (lowest (map (λ (a : Activation). a.rsp) (filter (stands_on mode s.memory.words p n) (interrupted (s.cpus p) as')))) address
      && is_open mode s p n (filter (stands_on mode s.memory.words p n) (interrupted (s.cpus p) as')) address) o.none
      ∙ ap (λ b. b && is_open mode s p n [] address) (never (nat_lt address (stack_top p n)))

  in_no_area : (address : ℕ) → is_kept mode s p n address ≡ false
  in_no_area address =
      let front : Bool = nat_le (stack_top p n - area_bytes mode) address && nat_lt address (stack_top p n) && not
      (list_any (λ (a : Activation). nat_lt a.rsp (stack_top p n)) (standing mode s p n)) in
      ap (λ b. front && not (b && (s.memory.words (pcpu p + 0x18) == task_words p n))) o.user
      ∙ ap (λ b. front && not b) (eq-eqb (s.memory.words (pcpu p + 0x18)) (task_words p n) o.task_is) ∙ never front

  module _ (image : Image) (few : (q : ℕ) → q < image.processors → length (tasks_of image q) ≤ 4) (hp : p < 32) (hn : n < 4) where
    words_free : (a k : ℕ) → stack_top p n ≤ a + stack_bytes → a + 8 * k ≤ stack_top p n → list_any (is_live mode image s) (addresses a k) ≡ false
    words_free a zero from to = refl
    words_free a (suc k) from to =
        let next : wrap (a + 8) ≡ a + 8 = omega arith in
        ap (λ b. b || list_any (is_live mode image s) (addresses (wrap (a + 8)) k))
        (not_live mode image s p n a few (omega arith) (record { from = from; to = omega arith }) (unused a) (in_no_area a))
        ∙ ap (λ b. list_any (is_live mode image s) (addresses b k)) next ∙ words_free (a + 8) k (omega arith) (omega arith)

    -- a delivery's frame there, of so many words
    pub frame_is_safe : (a k j : ℕ) (z : System) (e : Event) → frame_size (z.cpus p) e ≡ k → stack_top p n ≤ a + stack_bytes → a + 8 * k ≤ stack_top p n
        → list_any (overwrites mode image s) (acted j z p (Stepped.Delivered e (Some a))).1 ≡ false
    frame_is_safe a k j z e size from to =
        ap (λ b. b || false) (ap (λ i. list_any (is_live mode image s) (addresses a i))
        (length-map (addresses a (frame_size (z.cpus p) e)) z.memory.words ∙ count a (frame_size (z.cpus p) e) ∙ size)
        ∙ words_free a k from to)
      where
        count : (a k : ℕ) → length (addresses a k) ≡ k
        count a zero = refl
        count a (suc k) = ap suc (count (wrap (a + 8)) k)
