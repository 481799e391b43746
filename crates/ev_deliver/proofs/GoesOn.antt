-- From one block to the next.
use Rattle.std.proofs.Common.{◌≡◌, ℕ, ◌+◌, ◌%◌, ◌<◌, Bool, true, false, List, [], ◌∷◌, get_or, set, pos, Some, refl, sym, ap, ◌∙◌, subst, arith, length-set}
use Rattle.std.specs.Prelude.{◌==◌}
use Rattle.ev_isa.specs.Word.{NatMap, is_canonical}
use Rattle.ev_isa.specs.Flags.{flags_of, flags_word}
use Rattle.ev_isa.specs.declared.instruction.Ins.TheVariants.{Jmp, JmpReg}
use Rattle.ev_listing.specs.AddressMap.{vector_stub, common_entry}
use Rattle.ev_state.specs.Processor.{Processor, is_user, register}
use Rattle.ev_state.proofs.FlagLaws.{kept}
use Rattle.ev_mem.specs.Memory.{Memory}
use Rattle.ev_symbolic.specs.Value.{M, V, FVar}
use Rattle.ev_symbolic.specs.State.{Win, SS, Block, Ground, in_win}
use Rattle.ev_symbolic.specs.Agrees.{Env, addr, eval, eval_flags, edge_cell, Known, Open, Code, Agrees, At}
use Rattle.ev_symbolic.specs.Names.{stub_tag, top_less}
use Rattle.ev_symbolic.specs.Single.{IsAt, onward, Leads}
use Rattle.ev_symbolic.proofs.Single as single
use Rattle.ev_symbolic.proofs.Blocks.{begins, at_end, joined}
use Rattle.ev_blocks.specs.Shapes.{Origin, UserCode, KernelCode, Layout, FredFrame, IdtFrame, NmiFrame, body_bytes, body_words}
use Rattle.ev_blocks.specs.Idt.{Stub, Common, stub_values, idt_block}
use Rattle.ev_blocks.specs.Items.{AtTable, AtJump, AtItem, table_load, body_jump, body_block}
use Rattle.ev_paths.specs.Cells.{load_of}
use Rattle.ev_paths.specs.IdtEnds.{stub_bytes, idt_end}
use Rattle.ev_paths.proofs.IdtEnds.{idt_enters}
use Rattle.ev_deliver.specs.GoesOn.{continued, EntriesContinue, StubsGoOn, place_of, with_rax, TableLoads, with_item, BodyJumps}

nothing_open : (env : Env) (m : Memory) (W : List Win) → W ≡ [] → Open env W m.regions
nothing_open env m W h l i = let clash : false ≡ true = ap (λ (X : List Win). in_win X l) (sym h) ∙ i in absurd (cc)

-- RFLAGS of a processor that agrees with a state is modelled
modelled_is : (env : Env) (G : Ground) (z : SS) (c : Processor) (m : Memory) → Agrees env G z c m → c.flags ≡ flags_word (flags_of c.flags)
modelled_is env G z c m g = kept c.flags (eval_flags env z.flags) g.flags

-- ---- where a block ends at the opening of the next

pub entries_continue : EntriesContinue
entries_continue code b next z θ env c m x at ho hs fit o =
    let a : Agrees env b.ground z c m = at_end code b b.steps z x.runs env c m at in
    begins code next (continued env θ c) c m fit
    (joined env θ b.ground next.ground z c m next.opening a x.continues.joins c (flags_of c.flags) refl refl refl refl refl
    (a.blocked ∙ x.continues.blocked) (a.rip ∙ ap (addr env) x.continues.rip) (modelled_is env b.ground z c m a) ho o
    (nothing_open (continued env θ c) m next.ground.shared hs))

-- ---- the jump of a vector's entry

common_flags : (o : Origin) (pf : Bool) → (idt_block (Common o pf)).opening.flags ≡ FVar
common_flags UserCode true = refl
common_flags UserCode false = refl
common_flags KernelCode true = refl
common_flags KernelCode false = refl

common_shared : (o : Origin) (pf : Bool) → (idt_block (Common o pf)).ground.shared ≡ []
common_shared o true = refl
common_shared o false = refl

common_blocked : (o : Origin) (pf : Bool) → false ≡ (idt_block (Common o pf)).opening.blocked
common_blocked UserCode true = refl
common_blocked UserCode false = refl
common_blocked KernelCode true = refl
common_blocked KernelCode false = refl

common_rip : (o : Origin) (pf : Bool) (env : Env) → env.base 1000 ≡ 0 → common_entry ≡ addr env (idt_block (Common o pf)).opening.rip
common_rip o pf env z = here o pf
  where
    at : common_entry ≡ (env.base 1000 + common_entry) % M
    at = let q : 0xffffffff81003100 ≡ (env.base 1000 + 0xffffffff81003100) % M = omega (arith, z) in q

    here : (o : Origin) (pf : Bool) → common_entry ≡ addr env (idt_block (Common o pf)).opening.rip
    here UserCode true = at
    here UserCode false = at
    here KernelCode true = at
    here KernelCode false = at

bytes_small : (b : Bool) → stub_bytes b < 16
bytes_small true = omega arith
bytes_small false = omega arith

at_stub : (x v o : ℕ) → v < 256 → o < 16 → x ≡ vector_stub v → (x + o) % M ≡ vector_stub v + o
at_stub x v o h k q = ap (λ y. (y + o) % M) q ∙ (let z : (vector_stub v + o) % M ≡ vector_stub v + o = omega arith in z)

canonical_common : is_canonical common_entry ≡ true
canonical_common = refl

-- where a vector's entry ends
pub stub_rip : (code : Code) (o : Origin) (has : Bool) (v : ℕ) (env : Env) (c : Processor) (m : Memory) → v < 256 → env.base stub_tag ≡ vector_stub v
    → At code (idt_block (Stub o has v)) (idt_block (Stub o has v)).steps env c m → c.rip ≡ vector_stub v + stub_bytes has
stub_rip code o has v env c m h base at =
    let b : Block = idt_block (Stub o has v) in
    let x = idt_enters.stub o has v (v == 14) refl in
    let a : Agrees env b.ground (idt_end (Stub o has v)) c m = at_end code b b.steps (idt_end (Stub o has v)) x.runs env c m at in
    a.rip ∙ ap (addr env) x.rip ∙ at_stub (env.base stub_tag) v (stub_bytes has) h (bytes_small has) base

pub stubs_go_on : StubsGoOn
stubs_go_on code o has v pf env c m h key base j at fit open_words =
    let b : Block = idt_block (Stub o has v) in
    let next : Block = idt_block (Common o pf) in
    let x = idt_enters.stub o has v pf key in
    let a : Agrees env b.ground (idt_end (Stub o has v)) c m = at_end code b b.steps (idt_end (Stub o has v)) x.runs env c m at in
    let rip : c.rip ≡ vector_stub v + stub_bytes has = stub_rip code o has v env c m h base at in
    let cell : code c.rip ≡ Some (edge_cell (Jmp j.distance) (vector_stub v + stub_bytes has + 5)) = ap code rip ∙ j.is in
    let is_at : IsAt c (Jmp j.distance) (vector_stub v + stub_bytes has + 5) = record {
      kernel = ap is_user a.rest ∙ at.fits.ground.kernel;
      flags = modelled_is env b.ground (idt_end (Stub o has v)) c m a;
      ends = sym (at.fits.spaced c.rip (edge_cell (Jmp j.distance) (vector_stub v + stub_bytes has + 5)) cell);
    } in
    let cpu : Processor = onward c c.regs common_entry in
    record {
      ins = Jmp j.distance;
      next = vector_stub v + stub_bytes has + 5;
      cell = cell;
      cpu = cpu;
      leads = subst (λ y. Leads c m (Jmp j.distance) (onward c c.regs y) m.words) j.leads
          (single.jumps c m (vector_stub v + stub_bytes has + 5) j.distance is_at (ap is_canonical j.leads ∙ canonical_common));
      at = begins code next (continued env (stub_values has v) c) cpu m fit
          (joined env (stub_values has v) b.ground next.ground (idt_end (Stub o has v)) c m next.opening a x.joins cpu
          (flags_of c.flags) refl refl refl refl refl (common_blocked o pf) (common_rip o pf env at.fits.ground.zero_base)
          (modelled_is env b.ground (idt_end (Stub o has v)) c m a) (common_flags o pf) open_words
          (nothing_open (continued env (stub_values has v) c) m next.ground.shared (common_shared o pf)));
      long = refl;
      blocking = refl;
      same = refl;
    }

-- ---- the load of the body's address

words_with_rax : (layout : Layout) (env : Env) (t : ℕ) (W : List Win) (n : NatMap ℕ) → Known env W n (body_words layout)
    → Known (with_rax env t) W n (body_words layout)
unfolding eval
words_with_rax FredFrame env t W n k = k
words_with_rax IdtFrame env t W n k = k
words_with_rax NmiFrame env t W n k = k

words_with_item : (layout : Layout) (env : Env) (t : ℕ) (W : List Win) (n : NatMap ℕ) → Known env W n (body_words layout)
    → Known (with_item env t) W n (body_words layout)
unfolding eval
words_with_item FredFrame env t W n k = k
words_with_item IdtFrame env t W n k = k
words_with_item NmiFrame env t W n k = k

low_code : (z a : ℕ) → z ≡ 0 → a < M → (z + a) % M ≡ a
low_code z a h k = omega arith

load_small : (layout : Layout) → table_load layout < M
load_small FredFrame = omega arith
load_small IdtFrame = omega arith
load_small NmiFrame = omega arith

jump_small : (layout : Layout) → body_jump layout < M
jump_small FredFrame = omega arith
jump_small IdtFrame = omega arith
jump_small NmiFrame = omega arith

-- the registers of an opening, of which RAX is told
abbrev registers_with : ℕ → Env → V → List ℕ
registers_with rax env sp =
    rax ∷ env.var 1 ∷ env.var 2 ∷ env.var 3 ∷ eval env sp ∷ env.var 5 ∷ env.var 6 ∷ env.var 7 ∷ env.var 8 ∷ env.var 9 ∷ env.var 10 ∷ env.var 11 ∷ env.var 12
    ∷ env.var 13 ∷ env.var 14 ∷ env.var 15 ∷ []

pub table_loads : TableLoads
unfolding eval eval_flags
table_loads code fred layout env c m a t cells at place is_open word fit open_words =
    let b : Block = body_block fred layout AtTable in
    let g : Agrees env b.ground b.opening c m = at_end code b 0 b.opening refl env c m at in
    let rip : c.rip ≡ table_load layout = g.rip ∙ low_code (env.base 1000) (table_load layout) at.fits.ground.zero_base (load_small layout) in
    let cell : code c.rip ≡ Some (edge_cell (load_of layout) (body_jump layout)) = ap code rip ∙ cells.load in
    let is_at : IsAt c (load_of layout) (body_jump layout) = record {
      kernel = ap is_user g.rest ∙ at.fits.ground.kernel;
      flags = modelled_is env b.ground b.opening c m g;
      ends = sym (at.fits.spaced c.rip (edge_cell (load_of layout) (body_jump layout)) cell);
    } in
    record {
      ins = load_of layout;
      next = body_jump layout;
      cell = cell;
      cpu = onward c (set c.regs 0 (m.words a)) (body_jump layout);
      leads = loads layout is_at place;
      at = begins code (body_block fred layout AtJump) (with_rax env t) (onward c (set c.regs 0 (m.words a)) (body_jump layout)) m fit (record {
        regs = ap (λ xs. set xs 0 (m.words a)) g.regs ∙ ap (λ x. registers_with x env (top_less (body_bytes layout))) word;
        rip = sym (low_code (env.base 1000) (body_jump layout) at.fits.ground.zero_base (jump_small layout));
        flags = g.flags;
        gs = g.gs;
        kernel_gs = g.kernel_gs;
        selector = g.selector;
        cr2 = tt;
        levels = g.levels;
        blocked = refl;
        rest = g.rest;
        words = words_with_rax layout env t _ m.words g.words;
        known_open = open_words;
        shared_open = nothing_open (with_rax env t) m [] refl;
      });
      long = length-set c.regs 0 (m.words a);
      blocking = refl;
      same = refl;
    }
  where
    loads : (l : Layout) → IsAt c (load_of l) (body_jump layout) → place_of l c ≡ a
        → Leads c m (load_of l) (onward c (set c.regs 0 (m.words a)) (body_jump layout)) m.words
    loads FredFrame h q = single.loads c m (body_jump layout) 0 0 (pos 0) a h q is_open
    loads IdtFrame h q = single.loads c m (body_jump layout) 0 0 (pos 0) a h q is_open
    loads NmiFrame h q = single.loads c m (body_jump layout) 0 1 (pos 0x10) a h q is_open

-- ---- the jump to the body

pub body_jumps : BodyJumps
unfolding eval eval_flags
body_jumps code fred layout env c m cells at canonical small fit open_words =
    let b : Block = body_block fred layout AtJump in
    let g : Agrees env b.ground b.opening c m = at_end code b 0 b.opening refl env c m at in
    let rip : c.rip ≡ body_jump layout = g.rip ∙ low_code (env.base 1000) (body_jump layout) at.fits.ground.zero_base (jump_small layout) in
    let cell : code c.rip ≡ Some (edge_cell (JmpReg 0) (body_jump layout + 2)) = ap code rip ∙ cells.jump in
    let target : register c 0 ≡ env.var 0 = ap (λ xs. get_or xs 0 0) g.regs in
    let is_at : IsAt c (JmpReg 0) (body_jump layout + 2) = record {
      kernel = ap is_user g.rest ∙ at.fits.ground.kernel;
      flags = modelled_is env b.ground b.opening c m g;
      ends = sym (at.fits.spaced c.rip (edge_cell (JmpReg 0) (body_jump layout + 2)) cell);
    } in
    record {
      ins = JmpReg 0;
      next = body_jump layout + 2;
      cell = cell;
      cpu = onward c c.regs (env.var 0);
      leads = subst (λ y. Leads c m (JmpReg 0) (onward c c.regs y) m.words) target
          (single.jumps_to c m (body_jump layout + 2) 0 is_at (ap is_canonical target ∙ canonical));
      at = begins code (body_block fred layout AtItem) (with_item env (env.var 0)) (onward c c.regs (env.var 0)) m fit (record {
        regs = g.regs;
        rip = (let q : env.var 0 ≡ (env.var 0 + 0) % M = omega arith in q);
        flags = g.flags;
        gs = g.gs;
        kernel_gs = g.kernel_gs;
        selector = g.selector;
        cr2 = tt;
        levels = g.levels;
        blocked = refl;
        rest = g.rest;
        words = words_with_item layout env (env.var 0) _ m.words g.words;
        known_open = open_words;
        shared_open = nothing_open (with_item env (env.var 0)) m [] refl;
      });
      long = refl;
      blocking = refl;
      same = refl;
    }
