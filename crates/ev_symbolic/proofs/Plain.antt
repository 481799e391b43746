-- Symbolic steps of plain instructions: moves, loads and stores, jumps, arithmetic.
use Rattle.std.proofs.Common.{◌≡◌, ℕ, ◌+◌, ◌-◌, ◌%◌, ◌^◌, Bool, true, false, List, get_or, set, map, length, Option, Some, None, refl, sym, ap, ◌∙◌, subst, length-set}
use Rattle.std.specs.Prelude.{nat_lt, if◌then◌else◌}
use Rattle.std.proofs.Math.ListN.{get_or-map}
use Rattle.ev_isa.specs.Word.{NatMap, put_at, wrap, is_canonical}
use Rattle.ev_isa.specs.Flags.{Status, flags_word, flags_of, alu}
use Rattle.ev_isa.specs.Spelling.{spelling}
use Rattle.ev_isa.specs.declared.instruction.AluOp.{AluOp}
use Rattle.ev_isa.specs.declared.instruction.Ins.{Ins}
use Rattle.ev_event.specs.declared.event.Event.{Event}
use Rattle.ev_event.specs.Event.{ss}
use Rattle.ev_effect.specs.Task.{Task, with_reg}
use Rattle.ev_effect.specs.Effect.{access_event, pushed, in_flags}
use Rattle.ev_state.specs.Processor.{Processor, is_user, with_effect}
use Rattle.ev_mem.specs.Memory.{Memory, view}
use Rattle.ev_exec.specs.Exec.{Done, completed, changed, exec}
use Rattle.ev_symbolic.specs.Value.{M, Op, OAdd, OSub, V, K, F, FVar, FOp, sop, op_of, left_by}
use Rattle.ev_symbolic.specs.State.{Loc, Word, SS, Ground, in_win, in_text, loc_of, shift, find, write, sreg}
use Rattle.ev_symbolic.specs.Run.{moved, sload, sstore, pushed_rsp, spush, salu, sjump, sjump_to, sjcc}
use Rattle.ev_symbolic.specs.Agrees.{Env, eval, addr, status, eval_flags, Known, IsOpen, Grounded, Agrees, Within, Steps, StepsIf}
use Rattle.ev_symbolic.proofs.FlagBits.{flags_back}
use Rattle.ev_symbolic.proofs.Values.{sop_ok, left_ok, status_ok, TellsBool}
use Rattle.ev_symbolic.proofs.Words.{win_below, text_below, Names, names_ok, shift_ok, Found, found_ok, put_same, without_ok, shared_ok, within_put, within_put_shared, accessible, set_ok}
use Rattle.ev_symbolic.proofs.Effects.{task, after, loaded, stored, jumped_if, branched, executes, with_status}

module _ (e : Env) (G : Ground) (h : Grounded e G) where
  -- ---- what a state that agrees tells

  pub reg_ok : (s : SS) (c : Processor) (m : Memory) → Agrees e G s c m → (r : ℕ) → get_or c.regs r 0 ≡ eval e (sreg s r)
  unfolding eval
  reg_ok s c m g r = ap (λ xs. get_or xs r 0) g.regs ∙ get_or-map (eval e) s.regs r (K 0)

  pub kernel_ok : (s : SS) (c : Processor) (m : Memory) → Agrees e G s c m → is_user c ≡ false
  kernel_ok s c m g = ap is_user g.rest ∙ h.kernel

  pub flags_ok : (s : SS) (c : Processor) (m : Memory) → Agrees e G s c m → flags_of c.flags ≡ eval_flags e s.flags
  flags_ok s c m g = ap flags_of g.flags ∙ flags_back (eval_flags e s.flags)

  -- an operation's flags: only the status changes
  pub status_as : (s : SS) (c : Processor) (m : Memory) → Agrees e G s c m → (o : Op) (a b : V) (st : Status) → st ≡ status o (eval e a) (eval e b)
      → with_status st (flags_of c.flags) ≡ eval_flags e (FOp o a b)
  unfolding eval_flags
  status_as s c m g o a b st hs = ap (λ x. with_status x (flags_of c.flags)) hs ∙ ap (with_status (status o (eval e a) (eval e b))) (flags_ok s c m g)
      ∙ others s.flags
    where
      others : (x : F) → with_status (status o (eval e a) (eval e b)) (eval_flags e x) ≡ with_status (status o (eval e a) (eval e b)) e.flags
      others FVar = refl
      others (FOp q y z) = refl

  pub sat_ok : (s : SS) (b : V) (x n : ℕ) → x ≡ eval e b → (x + n) % M ≡ eval e (sop OAdd b (K n))
  unfolding eval
  sat_ok s b x n q = ap (λ y. (y + n) % M) q ∙ sym (sop_ok e OAdd b (K n))

  -- ---- the common end of plain instructions

  pub plain : (i : Ins) (next : ℕ) (s : SS) (c : Processor) (m : Memory) → Agrees e G s c m → c.rip + length (spelling i) ≡ next → (t : Task) (words : NatMap ℕ)
      → exec c m i next ≡ Done (with_effect (completed c) t) words → (regs : List V) (l : Loc) (f : F) (ws : List Word) → t.regs ≡ map (eval e) regs
      → length t.regs ≡ length c.regs → t.rip ≡ addr e l → t.flags ≡ eval_flags e f → Known e G.known words ws → Within e G.own G.shared m.words words
      → Steps e G i (after s regs l f ws) c m
  plain i next s c m g hn t words hx regs l f ws hr hl hp hf hw hi = record {
    cpu = with_effect (completed c) t;
    words = words;
    runs = executes c m i next (Done (with_effect (completed c) t) words) (kernel_ok s c m g) hn hx;
    long = hl;
    blocking = refl;
    agrees = record {
      regs = hr;
      rip = hp;
      flags = ap flags_word hf;
      gs = g.gs;
      kernel_gs = g.kernel_gs;
      selector = g.selector;
      cr2 = g.cr2;
      levels = g.levels;
      blocked = refl;
      rest = g.rest;
      words = hw;
      known_open = g.known_open;
      shared_open = g.shared_open;
    };
    within = hi;
  }

  pub set_steps : (i : Ins) (next : ℕ) (nl : Loc) (d x : ℕ) (v : V) (s : SS) (c : Processor) (m : Memory) → Agrees e G s c m
      → c.rip + length (spelling i) ≡ next → next ≡ addr e nl → x ≡ eval e v
      → exec c m i next ≡ Done (with_effect (completed c) (with_reg (task c next) d x)) m.words → Steps e G i (moved s (set s.regs d v) nl) c m
  set_steps i next nl d x v s c m g hn hl hv hx = plain i next s c m g hn (with_reg (task c next) d x) m.words hx (set s.regs d v) nl s.flags s.words
      (set_ok e c.regs s.regs d x v g.regs hv) (length-set c.regs d x) hl (flags_ok s c m g) g.words (λ x far far'. refl)

  -- ---- memory

  pub load_ok : (i : Ins) (next : ℕ) (nl : Loc) (d a : ℕ) (va : V) (bad : Event) (s : SS) (c : Processor) (m : Memory) (regs : List ℕ) (sregs : List V)
      → length regs ≡ length c.regs → Agrees e G s c m → c.rip + length (spelling i) ≡ next → next ≡ addr e nl → regs ≡ map (eval e) sregs → a ≡ eval e va
      → exec c m i next ≡ loaded c next m.words regs d a (access_event (view m (is_user c)) false bad a) → StepsIf e G i (sload nl s sregs d (loc_of va)) c m
  load_ok i next nl d a va bad s c m regs sregs hlen g hn hl hr ha hx = outer (loc_of va) (names_ok e h.zero_base va)
    where
      go : (l : Loc) → (nat_lt l.off M ≡ true → addr e l ≡ eval e va) → (o : Option V) → Found e G.known m.words l o
          → StepsIf e G i (elim o [ None ↦ None | Some v ↦ Some (moved s (set sregs d v) nl) ]) c m
      go l n None f = tt
      go l n (Some v) f =
          let same : addr e l ≡ a = n (win_below G.known l f.0) ∙ sym ha in
          let is_open : IsOpen m.regions a = subst (IsOpen m.regions) same (g.known_open l f.0) in
          plain i next s c m g hn (record (task c next) { regs = set regs d (m.words a) }) m.words
          (hx ∙ ap (loaded c next m.words regs d a) (accessible m (is_user c) (kernel_ok s c m g) false bad a is_open))
          (set sregs d v) nl s.flags s.words
          (set_ok e regs sregs d (m.words a) v hr (ap m.words (sym same) ∙ f.1)) (length-set regs d (m.words a) ∙ hlen) hl (flags_ok s c m g) g.words
          (λ x far far'. refl)

      outer : (o : Option Loc) → Names e va o → StepsIf e G i (sload nl s sregs d o) c m
      outer None n = tt
      outer (Some l) n = go l n (find l s.words) (found_ok e G.known m.words l s.words g.words)

  pub store_ok : (i : Ins) (next : ℕ) (nl : Loc) (a x : ℕ) (va v : V) (bad : Event) (s : SS) (c : Processor) (m : Memory) (regs : List ℕ) (sregs : List V)
      → length regs ≡ length c.regs → Agrees e G s c m → c.rip + length (spelling i) ≡ next → next ≡ addr e nl → regs ≡ map (eval e) sregs → a ≡ eval e va
      → x ≡ eval e v → exec c m i next ≡ stored c next m.words regs a x (access_event (view m (is_user c)) true bad a)
      → StepsIf e G i (sstore G nl s sregs v (loc_of va)) c m
  store_ok i next nl a x va v bad s c m regs sregs hlen g hn hl hr ha hv hx = outer (loc_of va) (names_ok e h.zero_base va)
    where
      finish : (l : Loc) → addr e l ≡ a → IsOpen m.regions (addr e l) → (ws : List Word) → Known e G.known (put_at m.words (addr e l) x) ws
          → Within e G.own G.shared m.words (put_at m.words (addr e l) x) → Steps e G i (after s sregs nl s.flags ws) c m
      finish l same is_open ws hw hi =
          plain i next s c m g hn (record (task c next) { regs = regs }) (put_at m.words a x)
          (hx ∙ ap (stored c next m.words regs a x) (accessible m (is_user c) (kernel_ok s c m g) true bad a (subst (IsOpen m.regions) same is_open)))
          sregs nl s.flags ws hr hlen hl (flags_ok s c m g)
          (subst (λ y. Known e G.known (put_at m.words y x) ws) same hw) (subst (λ y. Within e G.own G.shared m.words (put_at m.words y x)) same hi)

      go_shared : (l : Loc) → (nat_lt l.off M ≡ true → addr e l ≡ eval e va) → (b : Bool) → in_win G.shared l ≡ b
          → StepsIf e G i (if b then Some (moved s sregs nl) else None) c m
      go_shared l n false q = tt
      go_shared l n true q = finish l (n (win_below G.shared l q) ∙ sym ha) (g.shared_open l q) s.words
          (shared_ok e G.known G.shared h.across m.words l x q s.words g.words) (within_put_shared e G.own G.shared m.words l x q)

      go_own : (l : Loc) → (nat_lt l.off M ≡ true → addr e l ≡ eval e va) → in_win G.own l ≡ true → (b : Bool) → in_win G.known l ≡ b
          → StepsIf e G i (if b then Some (record (moved s sregs nl) { words = write l v s.words }) else None) c m
      go_own l n q false r = tt
      go_own l n q true r = finish l (n (win_below G.own l q) ∙ sym ha) (g.known_open l r) (write l v s.words)
          (r, put_same m.words (addr e l) x ∙ hv, without_ok e G.known G.own h.sep m.words l x q s.words g.words) (within_put e G.own G.shared m.words l x q)

      go : (l : Loc) → (nat_lt l.off M ≡ true → addr e l ≡ eval e va) → (b : Bool) → in_win G.own l ≡ b
          → StepsIf e G i (if b then (if in_win G.known l then Some (record (moved s sregs nl) { words = write l v s.words }) else None) else
          (if in_win G.shared l then Some (moved s sregs nl) else None)) c m
      go l n false q = go_shared l n (in_win G.shared l) refl
      go l n true q = go_own l n q (in_win G.known l) refl

      outer : (o : Option Loc) → Names e va o → StepsIf e G i (sstore G nl s sregs v o) c m
      outer None n = tt
      outer (Some l) n = go l n (in_win G.own l) refl

  pub push_ok : (i : Ins) (next : ℕ) (nl : Loc) (x : ℕ) (v : V) (s : SS) (c : Processor) (m : Memory) → Agrees e G s c m → c.rip + length (spelling i) ≡ next
      → next ≡ addr e nl → x ≡ eval e v → exec c m i next ≡ changed c (pushed (view m (is_user c)) (task c next) x) → StepsIf e G i (spush G nl s v) c m
  unfolding eval
  push_ok i next nl x v s c m g hn hl hv hx =
      let a : ℕ = wrap (get_or c.regs 4 0 + 2 ^ 64 - 8) in
      let ha : a ≡ eval e (pushed_rsp s) = ap (λ y. (y + M - 8) % M) (reg_ok s c m g 4) ∙ sym (sop_ok e OSub (sreg s 4) (K 8)) in
      store_ok i next nl a x (pushed_rsp s) v (ss 0) s c m (set c.regs 4 a) (set s.regs 4 (pushed_rsp s)) (length-set c.regs 4 a) g hn hl
      (set_ok e c.regs s.regs 4 a (pushed_rsp s) g.regs ha) ha hv hx

  -- ---- jumps

  pub jump_ok : (i : Ins) (next a : ℕ) (l : Loc) (s : SS) (c : Processor) (m : Memory) → Agrees e G s c m → c.rip + length (spelling i) ≡ next
      → (nat_lt l.off M ≡ true → a ≡ addr e l) → exec c m i next ≡ jumped_if c next m.words a (is_canonical a) → StepsIf e G i (sjump G s l) c m
  jump_ok i next a l s c m g hn ha hx = pick (in_text G.text l) refl
    where
      pick : (b : Bool) → in_text G.text l ≡ b → StepsIf e G i (if b then Some (moved s s.regs l) else None) c m
      pick false q = tt
      pick true q =
          let same : a ≡ addr e l = ha (text_below G.text l q) in
          plain i next s c m g hn (record (task c next) { rip = a }) m.words (hx ∙ ap (jumped_if c next m.words a) (ap is_canonical same ∙ h.text l q))
          s.regs l s.flags s.words g.regs refl same (flags_ok s c m g) g.words (λ x far far'. refl)

  pub jump_to_ok : (i : Ins) (next a : ℕ) (v : V) (s : SS) (c : Processor) (m : Memory) → Agrees e G s c m → c.rip + length (spelling i) ≡ next → a ≡ eval e v
      → exec c m i next ≡ jumped_if c next m.words a (is_canonical a) → StepsIf e G i (sjump_to G s (loc_of v)) c m
  jump_to_ok i next a v s c m g hn ha hx = outer (loc_of v) (names_ok e h.zero_base v)
    where
      outer : (o : Option Loc) → Names e v o → StepsIf e G i (sjump_to G s o) c m
      outer None n = tt
      outer (Some l) n = jump_ok i next a l s c m g hn (λ b. ha ∙ sym (n b)) hx

  pub branch_ok : (i : Ins) (next : ℕ) (nl : Loc) (d : ℕ) (b : Bool) (s : SS) (c : Processor) (m : Memory) → Agrees e G s c m
      → c.rip + length (spelling i) ≡ next → next ≡ addr e nl → exec c m i next ≡ branched c next m.words ((next + d) % M) b → (o : Option Bool)
      → TellsBool b o → StepsIf e G i (sjcc G nl s d o) c m
  branch_ok i next nl d b s c m g hn hl hx None q = tt
  branch_ok i next nl d b s c m g hn hl hx (Some true) q = jump_ok i next ((next + d) % M) (shift nl d) s c m g hn (λ x. shift_ok e nl next d hl)
      (hx ∙ ap (branched c next m.words ((next + d) % M)) q)
  branch_ok i next nl d b s c m g hn hl hx (Some false) q =
      plain i next s c m g hn (task c next) m.words (hx ∙ ap (branched c next m.words ((next + d) % M)) q) s.regs nl s.flags s.words g.regs refl hl
      (flags_ok s c m g) g.words (λ x far far'. refl)

  -- ---- arithmetic

  pub alu_ok : (i : Ins) (next : ℕ) (nl : Loc) (d : ℕ) (r : ℕ × Status) (v : V) (o : Op) (a b : V) (s : SS) (c : Processor) (m : Memory) → Agrees e G s c m
      → c.rip + length (spelling i) ≡ next → next ≡ addr e nl → r.0 ≡ eval e v → r.1 ≡ status o (eval e a) (eval e b)
      → exec c m i next ≡ Done (with_effect (completed c) (in_flags (with_reg (task c next) d r.0) r.1)) m.words → Steps e G i (salu nl s d v o a b) c m
  alu_ok i next nl d r v o a b s c m g hn hl hv hs hx =
      plain i next s c m g hn (in_flags (with_reg (task c next) d r.0) r.1) m.words hx (set s.regs d v) nl (FOp o a b) s.words
      (set_ok e c.regs s.regs d r.0 v g.regs hv) (length-set c.regs d r.0) hl (status_as s c m g o a b r.1 hs) g.words (λ x far far'. refl)

  -- the result of an operation on values that are told
  pub told : (op : AluOp) (x y : ℕ) (a b : V) → x ≡ eval e a → y ≡ eval e b → (alu op x y).0 ≡ eval e (left_by G.facts op a b)
  told op x y a b p q = ap (λ z. (alu op z y).0) p ∙ ap (λ z. (alu op (eval e a) z).0) q ∙ left_ok e G.facts h.facts op a b

  pub told_flags : (op : AluOp) (x y : ℕ) (a b : V) → x ≡ eval e a → y ≡ eval e b → (alu op x y).1 ≡ status (op_of op) (eval e a) (eval e b)
  told_flags op x y a b p q = ap (λ z. (alu op z y).1) p ∙ ap (λ z. (alu op (eval e a) z).1) q ∙ status_ok op (eval e a) (eval e b)
