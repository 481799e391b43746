-- Steps inside a block, joins of blocks, and what others leave alone: once for all blocks.
use Rattle.std.proofs.Common.{◌≡◌, ℕ, zero, suc, ◌+◌, ◌<◌, ◌-◌, ◌≤◌, Bool, true, false, List, [], ◌∷◌, get_or, drop, map, length, Option, Some, None, refl, sym, ap, ◌∙◌, subst, arith}
use Rattle.std.specs.Prelude.{if◌then◌else◌}
use Rattle.ev_isa.specs.Word.{NatMap}
use Rattle.ev_isa.specs.Flags.{Flags, flags_word}
use Rattle.ev_isa.specs.Spelling.{spelling}
use Rattle.ev_isa.specs.declared.instruction.Ins.{Ins}
use Rattle.ev_event.specs.declared.boundary.Next.{Next}
use Rattle.ev_state.specs.Processor.{Processor, is_user}
use Rattle.ev_mem.specs.Memory.{Memory, page_fault}
use Rattle.ev_apic.specs.declared.apic.Apic.{Apic}
use Rattle.ev_proc.specs.ProcessorStep.{executed, ran, fetched, step_by, next_of, step, instruction_at}
use Rattle.ev_symbolic.specs.Value.{V, K, P, X, B, FVar, number}
use Rattle.ev_symbolic.specs.State.{Loc, Word, SS, Win, Line, Ground, Block, in_win, loc_eq, find}
use Rattle.ev_symbolic.specs.Run.{line_at, sstep, bstep, bnext, brun, every_from, every}
use Rattle.ev_symbolic.specs.Agrees.{Env, untracked, eval, addr, eval_flags, Known, Open, Cell, Code, edge_cell, Stands, IsTold, Agrees, with_words, Far, Within, Foreign, FactsHold, Described, AreTops, Fits, StepsIf, At}
use Rattle.ev_symbolic.specs.Join.{inst, JoinsTold, Joins, env_after}
use Rattle.ev_symbolic.specs.Machine.{Fetches, Inside}
use Rattle.ev_symbolic.proofs.Values.{and_left, and_right}
use Rattle.ev_symbolic.proofs.Words.{loc_same, Found, found_ok}
use Rattle.ev_symbolic.proofs.Sound.{step_ok}

pub unsome : {A : Type 0} (x y : A) → Some x ≡ Some y → x ≡ y
unsome x y h = cc

-- ---- inside a block

-- what the code has where a line is found
abbrev pub LineOk : Code → Env → Loc → Option Line → Type 0
LineOk code e l None = Unit {0}
LineOk code e l (Some x) = code (addr e l) ≡ Some (edge_cell x.ins (addr e x.next))

pub line_ok : (code : Code) (e : Env) (l : Loc) (xs : List Line) → Stands code e xs → LineOk code e l (line_at l xs)
line_ok code e l [] h = tt
line_ok code e l (x ∷ xs) h = pick (loc_eq x.at l) refl (line_ok code e l xs h.1)
  where
    pick : (b : Bool) → loc_eq x.at l ≡ b → LineOk code e l (line_at l xs) → LineOk code e l (if b then Some x else line_at l xs)
    pick true q r = subst (λ y. code (addr e y) ≡ Some (edge_cell x.ins (addr e x.next))) (loc_same x.at l q) h.0
    pick false q r = r

-- from a state in a block to the next state of that block
pub inside : (code : Code) (b : Block) (k : ℕ) (e : Env) (c : Processor) (m : Memory) → At code b k e c m → (s : SS) → brun b (suc k) ≡ Some s
    → Inside code b (suc k) e c m
inside code b k e c m at s h = with_line (line_at at.state.rip b.lines) (line_ok code e at.state.rip b.lines at.fits.stands) (ap (bnext b) (sym at.is) ∙ h)
  where
    finish : (x : Line) → code c.rip ≡ Some (edge_cell x.ins (addr e x.next)) → (o : Option SS) → StepsIf e b.ground x.ins o c m → o ≡ Some s
        → Inside code b (suc k) e c m
    finish x q None r t = absurd (cc)
    finish x q (Some y) r t = record {
      ins = x.ins;
      next = addr e x.next;
      stands = q;
      cpu = r.cpu;
      words = r.words;
      runs = r.runs;
      there = record {
        fits = at.fits;
        state = s;
        is = h;
        agrees = subst (λ z. Agrees e b.ground z r.cpu (with_words m r.words)) (unsome y s t) r.agrees;
      };
      long = r.long;
      same = r.agrees.rest ∙ sym at.agrees.rest;
      blocking = r.blocking;
      within = r.within;
    }

    with_line : (o : Option Line) → LineOk code e at.state.rip o → bstep b o at.state ≡ Some s → Inside code b (suc k) e c m
    with_line None q t = absurd (cc)
    with_line (Some x) q t =
        let here : code c.rip ≡ Some (edge_cell x.ins (addr e x.next)) = ap code at.agrees.rip ∙ q in
        let length_is : c.rip + length (spelling x.ins) ≡ addr e x.next = sym (at.fits.spaced c.rip (edge_cell x.ins (addr e x.next)) here) in
        finish x here (sstep b.ground x.ins x.next at.state)
        (step_ok e b.ground at.fits.ground x.ins (addr e x.next) x.next at.state c m at.agrees length_is refl) t

-- the choice of an instruction at the boundary, and what is read there
pub steps_as : (c : Processor) (a : Apic) (m : Memory) (nmi : Bool) (i : Ins) → next_of c a nmi ≡ Next.Instruction → is_user c ≡ false
    → page_fault m (record { user = false; write = false; fetch = true }) c.rip ≡ None → instruction_at m.words c.rip ≡ Some i
    → step c a m nmi ≡ executed c a m nmi (Some i)
unfolding step
steps_as c a m nmi i hn hu hp hi =
    ap (step_by c a m nmi) hn ∙ ap (λ b. fetched c a m nmi (page_fault m (record { user = b; write = false; fetch = true }) c.rip)) hu
    ∙ ap (fetched c a m nmi) hp ∙ ap (executed c a m nmi) hi

-- an instruction of the code at RIP, marked or not: so an exit that is proved by hand begins
pub cell_step : (code : Code) (c : Processor) (a : Apic) (m : Memory) (nmi : Bool) (x : Cell) → Fetches code m → code c.rip ≡ Some x
    → next_of c a nmi ≡ Next.Instruction → is_user c ≡ false → step c a m nmi ≡ executed c a m nmi (Some x.ins)
cell_step code c a m nmi x f q hn hu = let r = f c.rip x q in steps_as c a m nmi x.ins hn hu r.0 r.1

-- a step inside a block is the processor's, where an instruction comes first at the boundary
pub inside_step : (code : Code) (b : Block) (k : ℕ) (e : Env) (c : Processor) (m : Memory) (at : At code b k e c m) (s : SS) (h : brun b (suc k) ≡ Some s)
    → Fetches code m → (a : Apic) (nmi : Bool) → next_of c a nmi ≡ Next.Instruction
    → let n : Inside code b (suc k) e c m = inside code b k e c m at s h in step c a m nmi ≡ ran n.cpu a n.words nmi
inside_step code b k e c m at s h f a nmi hn =
    let n = inside code b k e c m at s h in
    cell_step code c a m nmi (edge_cell n.ins n.next) f n.stands hn (ap is_user at.agrees.rest ∙ at.fits.ground.kernel) ∙ n.runs a nmi

-- a block that runs to its end has each state before it
pub earlier : (b : Block) (k j : ℕ) (s : SS) → brun b (j + k) ≡ Some s → (t : SS) × (brun b k ≡ Some t)
earlier b k zero s h = (s, ap (brun b) (let e : k ≡ 0 + k = omega arith in e) ∙ h)
earlier b k (suc j) s h = back (brun b (j + k)) refl (ap (brun b) (let e : suc (j + k) ≡ suc j + k = omega arith in e) ∙ h) (earlier b k j)
  where
    back : (o : Option SS) → brun b (j + k) ≡ o → bnext b (brun b (j + k)) ≡ Some s → ((t : SS) → brun b (j + k) ≡ Some t → (t : SS) × (brun b k ≡ Some t))
        → (t : SS) × (brun b k ≡ Some t)
    back None q r f = let n : bnext b None ≡ Some s = ap (bnext b) (sym q) ∙ r in absurd (cc)
    back (Some t) q r f = f t q

-- a block from its opening, through each instruction before its end, to its end
pub begins : (code : Code) (b : Block) (e : Env) (c : Processor) (m : Memory) → Fits code e b → Agrees e b.ground b.opening c m → At code b 0 e c m
begins code b e c m f g = record { fits = f; state = b.opening; is = refl; agrees = g }

pub goes_on : (code : Code) (b : Block) (n : ℕ) (z : SS) → brun b n ≡ Some z → (k : ℕ) (e : Env) (c : Processor) (m : Memory) → At code b k e c m → k < n
    → Inside code b (suc k) e c m
goes_on code b n z r k e c m at lt = let t = earlier b (suc k) (n - suc k) z (ap (brun b) (let q : (n - suc k) + suc k ≡ n = omega arith in q) ∙ r) in
    inside code b k e c m at t.0 t.1

pub at_end : (code : Code) (b : Block) (n : ℕ) (z : SS) → brun b n ≡ Some z → (e : Env) (c : Processor) (m : Memory) → At code b n e c m
    → Agrees e b.ground z c m
at_end code b n z r e c m at = subst (λ s. Agrees e b.ground s c m) (unsome at.state z (sym at.is ∙ r)) at.agrees

-- what a closed test says of each state of a run
every_on : (test : SS → Bool) (b : Block) (n k : ℕ) (s : SS) → brun b k ≡ Some s → every_from test b n s ≡ true → (j : ℕ) → j ≤ n → (t : SS)
    → brun b (j + k) ≡ Some t → test t ≡ true
every_on test b zero k s r h zero l t q = ap test (unsome t s (sym q ∙ ap (brun b) (let e : 0 + k ≡ k = omega arith in e) ∙ r)) ∙ h
every_on test b zero k s r h (suc j) l t q = absurd (omega arith)
every_on test b (suc n) k s r h zero l t q = ap test (unsome t s (sym q ∙ ap (brun b) (let e : 0 + k ≡ k = omega arith in e) ∙ r)) ∙ and_left (test s) _ h
every_on test b (suc n) k s r h (suc j) l t q = next (bnext b (Some s)) refl (and_right (test s) _ h) (every_on test b n (suc k))
  where
    next : (o : Option SS) → bnext b (Some s) ≡ o → elim o [ None ↦ true | Some u ↦ every_from test b n u ] ≡ true
        → ((u : SS) → brun b (suc k) ≡ Some u → every_from test b n u ≡ true → (i : ℕ) → i ≤ n → (v : SS) → brun b (i + suc k) ≡ Some v → test v ≡ true)
        → test t ≡ true
    next None p e f =
        let none : brun b (suc k) ≡ None = ap (bnext b) r ∙ p in
        let back = earlier b (suc k) j t (ap (brun b) (let z : j + suc k ≡ suc j + k = omega arith in z) ∙ q) in
        let clash : None ≡ Some back.0 = sym none ∙ back.1 in absurd (cc)
    next (Some u) p e f = f u (ap (bnext b) r ∙ p) e j (omega arith) t (ap (brun b) (let z : j + suc k ≡ suc j + k = omega arith in z) ∙ q)

pub every_ok : (test : SS → Bool) (b : Block) → every test b ≡ true → (k : ℕ) → k ≤ b.steps → (s : SS) → brun b k ≡ Some s → test s ≡ true
every_ok test b h k l s q = every_on test b b.steps 0 b.opening refl h k l s (ap (brun b) (let e : k + 0 ≡ k = omega arith in e) ∙ q)

-- ---- joins

-- a value of the next block
pub inst_ok : (e : Env) (θ : List V) (f : Flags) (v : V) → eval e (inst θ v) ≡ eval (env_after e θ f) v
unfolding eval
inst_ok e θ f (K n) = refl
inst_ok e θ f (P t o) = refl
inst_ok e θ f (X i) = refl
inst_ok e θ f (B o a b) = ap (λ x. number o x (eval e (inst θ b))) (inst_ok e θ f a) ∙ ap (λ x. number o (eval (env_after e θ f) a) x) (inst_ok e θ f b)

map_inst : (e : Env) (θ : List V) (f : Flags) (vs : List V) → map (eval e) (map (inst θ) vs) ≡ map (eval (env_after e θ f)) vs
map_inst e θ f [] = refl
map_inst e θ f (v ∷ vs) = ap (λ x. x ∷ map (eval e) (map (inst θ) vs)) (inst_ok e θ f v) ∙ ap (λ xs. eval (env_after e θ f) v ∷ xs) (map_inst e θ f vs)

head_same : {A : Type 0} (x y : A) (xs ys : List A) → x ∷ xs ≡ y ∷ ys → x ≡ y
head_same x y xs ys h = cc

tail_same : {A : Type 0} (x y : A) (xs ys : List A) → x ∷ xs ≡ y ∷ ys → xs ≡ ys
tail_same x y xs ys h = cc

joined_words : (e : Env) (θ : List V) (f : Flags) (W U : List Win) (m : NatMap ℕ) (s : List Word) → Known e W m s → (ws : List Word)
    → map (λ w. find w.at s) ws ≡ map (λ w. Some (inst θ w.val)) ws → map (λ w. in_win U w.at) ws ≡ map (λ w. true) ws → Known (env_after e θ f) U m ws
joined_words e θ f W U m s k [] h i = tt
joined_words e θ f W U m s k (w ∷ ws) h i =
    let found = subst (Found e W m w.at) (head_same _ _ _ _ h) (found_ok e W m w.at s k) in
    (head_same _ _ _ _ i, found.1 ∙ inst_ok e θ f w.val, joined_words e θ f W U m s k ws (tail_same _ _ _ _ h) (tail_same _ _ _ _ i))

-- words that are found among those that are known
pub all_found : (e : Env) (W : List Win) (m : NatMap ℕ) (s : List Word) → Known e W m s → (ws : List Word)
    → map (λ (w : Word). find w.at s) ws ≡ map (λ (w : Word). Some w.val) ws → Known e W m ws
all_found e W m s k [] h = tt
all_found e W m s k (w ∷ ws) h =
    let f = subst (Found e W m w.at) (head_same _ _ _ _ h) (found_ok e W m w.at s k) in (f.0, f.1, all_found e W m s k ws (tail_same _ _ _ _ h))

-- The state that a block opens with, from a state that it joins. The processor d has come to the opening's place with flags of its own.
pub joined : (e : Env) (θ : List V) (G U : Ground) (s : SS) (c : Processor) (m : Memory) (o : SS) → Agrees e G s c m → Joins s θ U.known o
    → (d : Processor) (f : Flags) → d.regs ≡ c.regs → d.msrs ≡ c.msrs → d.gs ≡ c.gs → d.cr2 ≡ c.cr2 → untracked d ≡ untracked c → d.sti_blocked ≡ o.blocked
    → d.rip ≡ addr e o.rip → d.flags ≡ flags_word f → o.flags ≡ FVar
    → Open e U.known m.regions → Open e U.shared m.regions → Agrees (env_after e θ f) U o d m
unfolding eval_flags
joined e θ G U s c m o g j d f hr hm hs hc hu hb hp hf ho hk hw = record {
  regs = hr ∙ g.regs ∙ ap (map (eval e)) (sym j.regs) ∙ map_inst e θ f o.regs;
  rip = hp;
  flags = hf ∙ ap (λ x. flags_word (eval_flags (env_after e θ f) x)) (sym ho);
  gs = ap (λ x. x.gs_base) hm ∙ g.gs ∙ tells s.gs o.gs j.gs;
  kernel_gs = ap (λ x. x.kernel_gs_base) hm ∙ g.kernel_gs ∙ tells s.kernel_gs o.kernel_gs j.kernel_gs;
  selector = hs ∙ g.selector ∙ tells s.selector o.selector j.selector;
  cr2 = told o.cr2 s.cr2 j.cr2 g.cr2;
  levels = ap (λ x. x.rsp) hm ∙ g.levels ∙ ap (λ x. x ∷ e.rest.msrs.rsp) (tells s.rsp0 o.rsp0 j.rsp0);
  blocked = hb;
  rest = hu ∙ g.rest;
  words = joined_words e θ f G.known U.known m.words s.words g.words o.words j.words j.inside;
  known_open = hk;
  shared_open = hw;
}
  where
    tells : (x y : V) → inst θ y ≡ x → eval e x ≡ eval (env_after e θ f) y
    tells x y q = ap (eval e) (sym q) ∙ inst_ok e θ f y

    told : (x y : Option V) → JoinsTold θ x y → IsTold e y c.cr2 → IsTold (env_after e θ f) x d.cr2
    told None y q r = tt
    told (Some v) y q r = let is : c.cr2 ≡ eval e (inst θ v) = subst (λ z. IsTold e z c.cr2) q r in hc ∙ is ∙ inst_ok e θ f v

-- the list of the levels' RSP as an opening has it
pub levels_split : (xs : List ℕ) → length xs ≡ 4 → xs ≡ get_or xs 0 0 ∷ drop 1 xs
levels_split [] h = absurd (cc)
levels_split (x ∷ xs) h = refl

-- ---- the law of others: what leaves the private windows alone, an NMI or another processor, leaves each activation where it stands

pub kept : (e : Env) (W : List Win) (m n : NatMap ℕ) → Foreign e W m n → (ws : List Word) → Known e W m ws → Known e W n ws
kept e W m n h [] k = tt
kept e W m n h (w ∷ ws) k = (k.0, h w.at k.0 ∙ k.1, kept e W m n h ws k.2)

-- the same state, with other memory of the same regions
agrees_in : (e : Env) (G : Ground) (s : SS) (c : Processor) (m n : Memory) → n.regions ≡ m.regions → Agrees e G s c m → Known e G.known n.words s.words
    → Agrees e G s c n
agrees_in e G s c m n r g k = record {
  regs = g.regs;
  rip = g.rip;
  flags = g.flags;
  gs = g.gs;
  kernel_gs = g.kernel_gs;
  selector = g.selector;
  cr2 = g.cr2;
  levels = g.levels;
  blocked = g.blocked;
  rest = g.rest;
  words = k;
  known_open = subst (Open e G.known) (sym r) g.known_open;
  shared_open = subst (Open e G.shared) (sym r) g.shared_open;
}

pub stays : (code : Code) (b : Block) (k : ℕ) (e : Env) (c : Processor) (m n : Memory) → At code b k e c m → n.regions ≡ m.regions
    → Foreign e b.ground.known m.words n.words → At code b k e c n
stays code b k e c m n at r h = record {
  fits = at.fits;
  state = at.state;
  is = at.is;
  agrees = agrees_in e b.ground at.state c m n r at.agrees (kept e b.ground.known m.words n.words h at.state.words at.agrees.words);
}

-- whoever wrote within windows that lie apart has left the private windows alone
pub foreign : (e f : Env) (W O S : List Win) (m n : NatMap ℕ) → Within f O S m n → Far e W f O → Far e W f S → Foreign e W m n
foreign e f W O S m n w o s l i = w (addr e l) (λ k j q. o l k i j q) (λ k j q. s l k i j q)

-- ---- the next block's environment: bases and the rest of the processor stay, so that only what speaks of variables is to be shown anew

stands_after : (code : Code) (e : Env) (θ : List V) (f : Flags) (xs : List Line) → Stands code e xs → Stands code (env_after e θ f) xs
stands_after code e θ f [] h = tt
stands_after code e θ f (x ∷ xs) h = (h.0, stands_after code e θ f xs h.1)

pub fits_after : (code : Code) (e : Env) (b : Block) (θ : List V) (f : Flags) → Fits code e b → FactsHold (env_after e θ f) b.ground.facts
    → Described (env_after e θ f) b.ground.descriptors → AreTops (env_after e θ f) b.ground.tops → Fits code (env_after e θ f) b
fits_after code e b θ f h facts descriptors tops = record {
  ground = record {
    zero_base = h.ground.zero_base;
    kernel = h.ground.kernel;
    fred = h.ground.fred;
    sep = h.ground.sep;
    across = h.ground.across;
    facts = facts;
    descriptors = descriptors;
    tops = tops;
    text = h.ground.text;
  };
  spaced = h.spaced;
  stands = stands_after code e θ f b.lines h.stands;
}
