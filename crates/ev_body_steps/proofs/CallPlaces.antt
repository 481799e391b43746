-- Places in the items of cross calls: a processor so many bytes behind the item's beginning, whatever its registers are, and how a block opens there.
use Rattle.std.proofs.Common.{◌≡◌, ℕ, zero, suc, ◌+◌, ◌%◌, false, List, [], ◌∷◌, get_or, set, map, length, None, refl, sym, ap, ◌∙◌, subst}
use Rattle.ev_isa.specs.Word.{NatMap}
use Rattle.ev_isa.specs.Flags.{Flags, flags_word}
use Rattle.ev_isa.specs.declared.mode.Mode.{Mode}
use Rattle.ev_isa.specs.declared.mode.Mode.TheVariants.{Idt, Fred}
use Rattle.ev_mem.specs.Memory.{Memory}
use Rattle.ev_state.specs.Processor.{Processor}
use Rattle.ev_symbolic.specs.Value.{M, V, FVar}
use Rattle.ev_symbolic.specs.State.{SS, Ground}
use Rattle.ev_symbolic.specs.Openings.{at_base}
use Rattle.ev_symbolic.specs.Names.{item_tag, top_less}
use Rattle.ev_symbolic.specs.Agrees.{Env, untracked, eval, eval_flags, addr, Known, IsTold, Open, Agrees, with_words}
use Rattle.ev_blocks.specs.Shapes.{body_bytes}
use Rattle.ev_paths.specs.CallEnds.{item_regs}
use Rattle.ev_activation.specs.Seat.{Kind, Seat}
use Rattle.ev_relation.specs.Active.{here}
use Rattle.ev_body_steps.proofs.Bodies.{layout_of, nothing_open}
use Rattle.ev_body_steps.proofs.ItemState.{with_registers, sixteen, opening_of, known_of, gone, any_registers}

-- ---- registers

-- sixteen numbers whose fifth is RSP of a body are the registers at an opening whose variables they are
pub item_regs_are : (mode : Mode) (u : Env) (regs : List ℕ) (v : ℕ → ℕ) → u.var ≡ with_registers regs v → length regs ≡ 16
    → get_or regs 4 0 ≡ eval u (top_less (body_bytes (layout_of mode))) → regs ≡ map (eval u) (item_regs (layout_of mode))
unfolding eval
item_regs_are mode u regs v var long rsp = sixteen regs long ∙ ap (with_rsp regs) rsp
    ∙ ap (λ (w : ℕ → ℕ). as_told w (eval u (top_less (body_bytes (layout_of mode))))) (sym var)
  where
    with_rsp : List ℕ → ℕ → List ℕ
    with_rsp xs r =
        get_or xs 0 0 ∷ get_or xs 1 0 ∷ get_or xs 2 0 ∷ get_or xs 3 0 ∷ r ∷ get_or xs 5 0 ∷ get_or xs 6 0 ∷ get_or xs 7 0 ∷ get_or xs 8 0
        ∷ get_or xs 9 0 ∷ get_or xs 10 0 ∷ get_or xs 11 0 ∷ get_or xs 12 0 ∷ get_or xs 13 0 ∷ get_or xs 14 0 ∷ get_or xs 15 0 ∷ []

    as_told : (ℕ → ℕ) → ℕ → List ℕ
    as_told w r = w 0 ∷ w 1 ∷ w 2 ∷ w 3 ∷ r ∷ w 5 ∷ w 6 ∷ w 7 ∷ w 8 ∷ w 9 ∷ w 10 ∷ w 11 ∷ w 12 ∷ w 13 ∷ w 14 ∷ w 15 ∷ []

-- with one more told
pub told_too : (u : Env) (regs : List ℕ) (vs : List V) (r : ℕ) (a : V) → regs ≡ map (eval u) vs → get_or regs r 0 ≡ eval u a
    → regs ≡ map (eval u) (set vs r a)
told_too u regs vs r a is at = is ∙ same vs r (ap (λ xs. get_or xs r 0) (sym is) ∙ at)
  where
    same : (vs : List V) (r : ℕ) → get_or (map (eval u) vs) r 0 ≡ eval u a → map (eval u) vs ≡ map (eval u) (set vs r a)
    same [] r q = refl
    same (v ∷ vs) zero q = ap (λ n. n ∷ map (eval u) vs) q
    same (v ∷ vs) (suc r) q = ap (λ xs. eval u v ∷ xs) (same vs r q)

-- with RAX told too
pub rax_regs_are : (mode : Mode) (u : Env) (regs : List ℕ) (v : ℕ → ℕ) (a : V) → u.var ≡ with_registers regs v → length regs ≡ 16
    → get_or regs 4 0 ≡ eval u (top_less (body_bytes (layout_of mode))) → get_or regs 0 0 ≡ eval u a
    → regs ≡ map (eval u) (set (item_regs (layout_of mode)) 0 a)
rax_regs_are mode u regs v a var long rsp rax =
    told_too u regs (item_regs (layout_of mode)) 0 a (item_regs_are mode u regs v var long rsp) rax

-- ---- where a processor is

-- It is so many bytes behind the item's beginning, with these flags, and nothing is blocked; all but its registers is as the item's block opened.
pub record IsAtOffset (mode : Mode) (e : Env) (c : Processor) (m : Memory) (offset : ℕ) (g : Flags) : Type 0 where
  pub long : length c.regs ≡ 16
  pub rsp : get_or c.regs 4 0 ≡ eval e (top_less (body_bytes (layout_of mode)))
  pub rip : c.rip ≡ (e.base item_tag + offset) % M
  pub flags : c.flags ≡ flags_word g
  pub gs : c.msrs.gs_base ≡ eval e (opening_of mode).gs
  pub kernel_gs : c.msrs.kernel_gs_base ≡ eval e (opening_of mode).kernel_gs
  pub selector : c.gs ≡ eval e (opening_of mode).selector
  pub levels : c.msrs.rsp ≡ eval e (opening_of mode).rsp0 ∷ e.rest.msrs.rsp
  pub blocked : c.sti_blocked ≡ false
  pub rest : untracked c ≡ e.rest
  pub words : Known e (known_of mode) m.words (opening_of mode).words

-- a state that tells what an item's opening does, but for registers, RIP, flags and words
pub record IsBeside (mode : Mode) (z : SS) : Type 0 where
  pub gs : z.gs ≡ (opening_of mode).gs
  pub kernel_gs : z.kernel_gs ≡ (opening_of mode).kernel_gs
  pub selector : z.selector ≡ (opening_of mode).selector
  pub rsp0 : z.rsp0 ≡ (opening_of mode).rsp0
  pub cr2 : z.cr2 ≡ None
  pub blocked : z.blocked ≡ false

-- where such a state ends a block, whose registers have RSP where the body has it
pub offset_from : (mode : Mode) (e : Env) (G : Ground) (z : SS) (c : Processor) (m : Memory) (offset : ℕ) → IsBeside mode z → z.rip ≡ at_base item_tag offset
    → length z.regs ≡ 16 → get_or (map (eval e) z.regs) 4 0 ≡ eval e (top_less (body_bytes (layout_of mode))) → Agrees e G z c m
    → Known e (known_of mode) m.words (opening_of mode).words → IsAtOffset mode e c m offset (eval_flags e z.flags)
offset_from mode e G z c m offset y rip long rsp a known = record {
  long = ap length a.regs ∙ long_map z.regs ∙ long;
  rsp = ap (λ xs. get_or xs 4 0) a.regs ∙ rsp;
  rip = a.rip ∙ ap (addr e) rip;
  flags = a.flags;
  gs = a.gs ∙ ap (eval e) y.gs;
  kernel_gs = a.kernel_gs ∙ ap (eval e) y.kernel_gs;
  selector = a.selector ∙ ap (eval e) y.selector;
  levels = a.levels ∙ ap (λ v. eval e v ∷ e.rest.msrs.rsp) y.rsp0;
  blocked = a.blocked ∙ y.blocked;
  rest = a.rest;
  words = known;
}
  where
    long_map : (vs : List V) → length (map (eval e) vs) ≡ length vs
    long_map [] = refl
    long_map (v ∷ vs) = ap suc (long_map vs)

-- so it is at the item's beginning
pub begins_offset : (mode : Mode) → IsBeside mode (opening_of mode)
begins_offset Fred = record { gs = refl; kernel_gs = refl; selector = refl; rsp0 = refl; cr2 = refl; blocked = refl }
begins_offset Idt = record { gs = refl; kernel_gs = refl; selector = refl; rsp0 = refl; cr2 = refl; blocked = refl }

-- ---- from place to place in an activation

module _ (mode : Mode) (p : ℕ) (κ : Kind) (σ : Seat) (ss : ℕ) (w : Processor) (extra v : ℕ → ℕ) (f : Flags) (c : Processor) (m : Memory) (offset : ℕ)
    (g : Flags) (s : IsAtOffset mode (here mode p κ σ ss w extra v f) c m offset g) where
  abbrev e : Env
  e = here mode p κ σ ss w extra v f

  -- behind an instruction that leaves these registers, flags and words
  pub place_behind : (regs : List ℕ) (g' : Flags) (next : ℕ) (words : NatMap ℕ) (onto : ℕ) → length regs ≡ 16 → get_or regs 4 0 ≡ get_or c.regs 4 0
      → next ≡ (e.base item_tag + onto) % M → Known e (known_of mode) words (opening_of mode).words
      → IsAtOffset mode e (gone c regs g' next) (with_words m words) onto g'
  place_behind regs g' next words onto long rsp rip known = record {
    long = long;
    rsp = rsp ∙ s.rsp;
    rip = rip;
    flags = refl;
    gs = s.gs;
    kernel_gs = s.kernel_gs;
    selector = s.selector;
    levels = s.levels;
    blocked = refl;
    rest = s.rest;
    words = known;
  }

  module _ (extra' v' : ℕ → ℕ) (other_gs : v 60 ≡ v' 60) (chosen : v 61 ≡ v' 61) (level : v 63 ≡ v' 63) where
    abbrev u : Env
    u = here mode p κ σ ss w extra' (with_registers c.regs v') g

    -- RSP is where the body has it
    pub same_rsp : get_or c.regs 4 0 ≡ eval u (top_less (body_bytes (layout_of mode)))
    same_rsp = s.rsp ∙ (any_registers mode p κ σ ss w w extra extra' v v' f g c.regs other_gs chosen level).rsp

    -- a block opens, whose variables are the registers
    pub opens_from : (G : Ground) (z : SS) → IsBeside mode z → u.base item_tag ≡ e.base item_tag → z.rip ≡ at_base item_tag offset → z.flags ≡ FVar
        → c.regs ≡ map (eval u) z.regs → Known u G.known m.words z.words → Open u G.known m.regions → G.shared ≡ [] → Agrees u G z c m
    unfolding eval_flags
    opens_from G z y base rip flags regs words windows shared =
        let same = any_registers mode p κ σ ss w w extra extra' v v' f g c.regs other_gs chosen level in record {
          regs = regs;
          rip = s.rip ∙ ap (λ a. (a + offset) % M) (sym base) ∙ ap (addr u) (sym rip);
          flags = s.flags ∙ ap (λ x. flags_word (eval_flags u x)) (sym flags);
          gs = s.gs ∙ same.gs ∙ ap (eval u) (sym y.gs);
          kernel_gs = s.kernel_gs ∙ same.kernel_gs ∙ ap (eval u) (sym y.kernel_gs);
          selector = s.selector ∙ same.selector ∙ ap (eval u) (sym y.selector);
          cr2 = subst (λ x. IsTold u x c.cr2) (sym y.cr2) tt;
          levels = s.levels ∙ ap (λ n. n ∷ e.rest.msrs.rsp) (same.rsp0 ∙ ap (eval u) (sym y.rsp0));
          blocked = s.blocked ∙ sym y.blocked;
          rest = s.rest;
          words = words;
          known_open = windows;
          shared_open = subst (λ W. Open u W m.regions) (sym shared) (nothing_open u m);
        }
