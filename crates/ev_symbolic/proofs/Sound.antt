-- A symbolic step that gives an answer is a step of the processor, whatever the instruction.
use Rattle.std.proofs.Common.{◌≡◌, ℕ, ◌+◌, ◌%◌, true, false, get_or, set, length, Option, Some, None, refl, sym, ap, ◌∙◌, subst, length-set}
use Rattle.std.specs.Prelude.{nat_lt}
use Rattle.ev_isa.specs.Word.{sign_extend, displaced}
use Rattle.ev_isa.specs.Flags.{flags_of, alu, shift_left, shift_right, holds}
use Rattle.ev_isa.specs.Spelling.{spelling}
use Rattle.ev_isa.specs.declared.instruction.Ins.{Ins}
use Rattle.ev_isa.specs.declared.instruction.Ins.TheVariants.{MovImm, MovReg, Load, Store, StoreImm, GsLoad, GsStore, GsPush, Alu, AluImm, Shl, Shr, Jmp, Jcc, JmpReg, Push, PushImm, Pop, Lkgs, MovGs, ReadCr2, WriteCr2, Nop, Swapgs, Rdmsr, Wrmsr}
use Rattle.ev_event.specs.Event.{ss, gp}
use Rattle.ev_effect.specs.Effect.{◌>>=◌, unless, bad_address, pushed, effect}
use Rattle.ev_state.specs.Processor.{Processor, is_user}
use Rattle.ev_mem.specs.Memory.{Memory, view}
use Rattle.ev_exec.specs.Exec.{changed, exec}
use Rattle.ev_symbolic.specs.Value.{M, OAdd, OShl, OShr, V, K, norm, number, sop, op_of, left_by, sholds}
use Rattle.ev_symbolic.specs.State.{Loc, SS, Ground, shift, find, sreg, descriptor_of}
use Rattle.ev_symbolic.specs.Run.{spush, spush_at, sat, sstep}
use Rattle.ev_symbolic.specs.Agrees.{Env, eval, addr, status, IsOpen, Grounded, Agrees, StepsIf}
use Rattle.ev_symbolic.proofs.Values.{nop_ok, left_shift_value, left_shift_status, right_shift_value, right_shift_status, TellsBool, holds_ok}
use Rattle.ev_symbolic.proofs.Words.{win_below, Names, names_ok, shift_ok, Found, found_ok, accessible, set_ok}
use Rattle.ev_symbolic.proofs.Effects.{selected_ok}
use Rattle.ev_symbolic.proofs.Plain.{kernel_ok, flags_ok, sat_ok, plain, set_steps, load_ok, store_ok, push_ok, jump_ok, jump_to_ok, branch_ok, alu_ok, told, told_flags}
use Rattle.ev_symbolic.proofs.System.{quiet, swapgs_ok, lkgs_ok, mov_gs_ok, rdmsr_ok, wrmsr_ok, read_cr2_ok}
pub use Rattle.ev_symbolic.proofs.Effects.{task, executes}
pub use Rattle.ev_symbolic.proofs.Plain.{reg_ok}

module _ (e : Env) (G : Ground) (h : Grounded e G) where
  -- ---- every instruction

  pub step_ok : (i : Ins) (next : ℕ) (nl : Loc) (s : SS) (c : Processor) (m : Memory) → Agrees e G s c m → c.rip + length (spelling i) ≡ next
      → next ≡ addr e nl → StepsIf e G i (sstep G i nl s) c m
  unfolding exec effect eval
  step_ok (MovImm d n) next nl s c m g hn hl = set_steps e G h (MovImm d n) next nl d n (K n) s c m g hn hl refl refl
  step_ok (MovReg d r) next nl s c m g hn hl = set_steps e G h (MovReg d r) next nl d (get_or c.regs r 0) (sreg s r) s c m g hn hl (reg_ok e G h s c m g r) refl
  step_ok (Load d b n) next nl s c m g hn hl = load_ok e G h (Load d b n) next nl d (displaced (get_or c.regs b 0) n) (sop OAdd (sreg s b) (K (sign_extend n)))
      (bad_address b) s c m c.regs s.regs refl g hn hl g.regs (sat_ok e G h s (sreg s b) _ (sign_extend n) (reg_ok e G h s c m g b)) refl
  step_ok (Store b n r) next nl s c m g hn hl = store_ok e G h (Store b n r) next nl (displaced (get_or c.regs b 0) n) (get_or c.regs r 0)
      (sop OAdd (sreg s b) (K (sign_extend n))) (sreg s r) (bad_address b) s c m c.regs s.regs refl g hn hl g.regs
      (sat_ok e G h s (sreg s b) _ (sign_extend n) (reg_ok e G h s c m g b)) (reg_ok e G h s c m g r) refl
  step_ok (StoreImm b n i) next nl s c m g hn hl = store_ok e G h (StoreImm b n i) next nl (displaced (get_or c.regs b 0) n) (sign_extend i)
      (sop OAdd (sreg s b) (K (sign_extend n))) (K (sign_extend i)) (bad_address b) s c m c.regs s.regs refl g hn hl g.regs
      (sat_ok e G h s (sreg s b) _ (sign_extend n) (reg_ok e G h s c m g b)) refl refl
  step_ok (GsLoad d n) next nl s c m g hn hl = load_ok e G h (GsLoad d n) next nl d (displaced c.msrs.gs_base n) (sop OAdd s.gs (K (sign_extend n)))
      (gp 0) s c m c.regs s.regs refl g hn hl g.regs (sat_ok e G h s s.gs _ (sign_extend n) g.gs) refl
  step_ok (GsStore n r) next nl s c m g hn hl = store_ok e G h (GsStore n r) next nl (displaced c.msrs.gs_base n) (get_or c.regs r 0)
      (sop OAdd s.gs (K (sign_extend n))) (sreg s r) (gp 0) s c m c.regs s.regs refl g hn hl g.regs (sat_ok e G h s s.gs _ (sign_extend n) g.gs)
      (reg_ok e G h s c m g r) refl
  step_ok (GsPush n) next nl s c m g hn hl = outer (sat s.gs (sign_extend n)) (names_ok e h.zero_base (sop OAdd s.gs (K (sign_extend n))))
    where
      a : ℕ
      a = displaced c.msrs.gs_base n

      go : (l : Loc) → (nat_lt l.off M ≡ true → addr e l ≡ eval e (sop OAdd s.gs (K (sign_extend n)))) → (o : Option V) → Found e G.known m.words l o
          → StepsIf e G (GsPush n) (elim o [ None ↦ None | Some v ↦ spush G nl s v ]) c m
      go l q None f = tt
      go l q (Some v) f =
          let same : addr e l ≡ displaced c.msrs.gs_base n = q (win_below G.known l f.0) ∙ sym (sat_ok e G h s s.gs _ (sign_extend n) g.gs) in
          push_ok e G h (GsPush n) next nl (m.words (displaced c.msrs.gs_base n)) v s c m g hn hl (ap m.words (sym same) ∙ f.1)
          (ap (λ o. changed c ((unless o (m.words (displaced c.msrs.gs_base n))) >>= (λ x. pushed (view m (is_user c)) (task c next) x)))
          (accessible m (is_user c) (kernel_ok e G h s c m g) false (gp 0) (displaced c.msrs.gs_base n) (subst (IsOpen m.regions) same (g.known_open l f.0))))

      outer : (o : Option Loc) → Names e (sop OAdd s.gs (K (sign_extend n))) o → StepsIf e G (GsPush n) (spush_at G nl s o) c m
      outer None q = tt
      outer (Some l) q = go l q (find l s.words) (found_ok e G.known m.words l s.words g.words)
  step_ok (Alu op d r) next nl s c m g hn hl = alu_ok e G h (Alu op d r) next nl d (alu op (get_or c.regs d 0) (get_or c.regs r 0))
      (left_by G.facts op (sreg s d) (sreg s r)) (op_of op) (sreg s d) (sreg s r) s c m g hn hl
      (told e G h op _ _ (sreg s d) (sreg s r) (reg_ok e G h s c m g d) (reg_ok e G h s c m g r))
      (told_flags e G h op _ _ (sreg s d) (sreg s r) (reg_ok e G h s c m g d) (reg_ok e G h s c m g r)) refl
  step_ok (AluImm op d i) next nl s c m g hn hl = alu_ok e G h (AluImm op d i) next nl d (alu op (get_or c.regs d 0) (sign_extend i))
      (left_by G.facts op (sreg s d) (K (sign_extend i))) (op_of op) (sreg s d) (K (sign_extend i)) s c m g hn hl
      (told e G h op _ _ (sreg s d) (K (sign_extend i)) (reg_ok e G h s c m g d) refl)
      (told_flags e G h op _ _ (sreg s d) (K (sign_extend i)) (reg_ok e G h s c m g d) refl) refl
  step_ok (Shl d n) next nl s c m g hn hl = alu_ok e G h (Shl d n) next nl d (shift_left (get_or c.regs d 0) n) (norm G.facts (sop OShl (sreg s d) (K n))) OShl
      (sreg s d) (K n) s c m g hn hl (left_shift_value (get_or c.regs d 0) n ∙ ap (λ x. number OShl x n) (reg_ok e G h s c m g d)
      ∙ sym (nop_ok e G.facts h.facts OShl (sreg s d) (K n)))
      (left_shift_status (get_or c.regs d 0) n ∙ ap (λ x. status OShl x n) (reg_ok e G h s c m g d)) refl
  step_ok (Shr d n) next nl s c m g hn hl = alu_ok e G h (Shr d n) next nl d (shift_right (get_or c.regs d 0) n) (norm G.facts (sop OShr (sreg s d) (K n))) OShr
      (sreg s d) (K n) s c m g hn hl (right_shift_value (get_or c.regs d 0) n ∙ ap (λ x. number OShr x n) (reg_ok e G h s c m g d)
      ∙ sym (nop_ok e G.facts h.facts OShr (sreg s d) (K n)))
      (right_shift_status (get_or c.regs d 0) n ∙ ap (λ x. status OShr x n) (reg_ok e G h s c m g d)) refl
  step_ok (Jmp n) next nl s c m g hn hl = jump_ok e G h (Jmp n) next (displaced next n) (shift nl (sign_extend n)) s c m g hn
      (λ x. shift_ok e nl next (sign_extend n) hl) refl
  step_ok (Jcc k n) next nl s c m g hn hl = branch_ok e G h (Jcc k n) next nl (sign_extend n) (holds k (flags_of c.flags).status) s c m g hn hl refl
      (sholds G.facts k s.flags) (subst (λ f. TellsBool (holds k f.status) (sholds G.facts k s.flags)) (sym (flags_ok e G h s c m g))
      (holds_ok e G.facts h.facts k s.flags))
  step_ok (JmpReg r) next nl s c m g hn hl = jump_to_ok e G h (JmpReg r) next (get_or c.regs r 0) (sreg s r) s c m g hn (reg_ok e G h s c m g r) refl
  step_ok (Push r) next nl s c m g hn hl = push_ok e G h (Push r) next nl (get_or c.regs r 0) (sreg s r) s c m g hn hl (reg_ok e G h s c m g r) refl
  step_ok (PushImm i) next nl s c m g hn hl = push_ok e G h (PushImm i) next nl (sign_extend i) (K (sign_extend i)) s c m g hn hl refl refl
  step_ok (Pop d) next nl s c m g hn hl = load_ok e G h (Pop d) next nl d (get_or c.regs 4 0) (sreg s 4) (ss 0) s c m
      (set c.regs 4 ((get_or c.regs 4 0 + 8) % M))
      (set s.regs 4 (sop OAdd (sreg s 4) (K 8))) (length-set c.regs 4 _) g hn hl
      (set_ok e c.regs s.regs 4 _ (sop OAdd (sreg s 4) (K 8)) g.regs (sat_ok e G h s (sreg s 4) _ 8 (reg_ok e G h s c m g 4))) (reg_ok e G h s c m g 4) refl
  step_ok (ReadCr2 d) next nl s c m g hn hl = read_cr2_ok e G h d next nl s c m g hn hl s.cr2 g.cr2
  step_ok (WriteCr2 r) next nl s c m g hn hl = quiet e G h (WriteCr2 r) next nl s c m g hl c.regs s.regs refl g.regs (get_or c.regs r 0) (Some (sreg s r))
      (reg_ok e G h s c m g r) c.gs s.selector g.selector c.msrs.gs_base s.gs g.gs c.msrs.kernel_gs_base s.kernel_gs g.kernel_gs
      (executes c m (WriteCr2 r) next _ (kernel_ok e G h s c m g) hn refl)
  step_ok Nop next nl s c m g hn hl = plain e G h Nop next s c m g hn (task c next) m.words refl s.regs nl s.flags s.words g.regs refl hl
      (flags_ok e G h s c m g) g.words (λ x far far'. refl)
  step_ok Swapgs next nl s c m g hn hl = swapgs_ok e G h next nl s c m g hn hl G.fred refl
  step_ok (Lkgs r) next nl s c m g hn hl = lkgs_ok e G h r next nl s c m g hn hl (descriptor_of (sreg s r) G.descriptors)
      (selected_ok e (sreg s r) G.descriptors h.descriptors)
  step_ok (MovGs r) next nl s c m g hn hl = mov_gs_ok e G h r next nl s c m g hn hl (descriptor_of (sreg s r) G.descriptors)
      (selected_ok e (sreg s r) G.descriptors h.descriptors)
  step_ok Rdmsr next nl s c m g hn hl = rdmsr_ok e G h next nl s c m g hn hl
  step_ok Wrmsr next nl s c m g hn hl = wrmsr_ok e G h next nl s c m g hn hl
  step_ok _ next nl s c m g hn hl = tt
