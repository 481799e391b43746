-- The registers 6 to 13 are the locals: what an item reads of them, and what it leaves in them.
use Rattle.std.proofs.Common.{◌≡◌, ℕ, ◌-◌, ◌<◌, ◌≤◌, List, [], ◌∷◌, get_or, set, map, length, Option, Some, None, refl, sym, ap, ◌∙◌, subst, arith}
use Rattle.std.proofs.lemmas.List.{get_or-set_other, length-set}
use Rattle.ev_isa.specs.declared.mode.Mode.{Mode}
use Rattle.ev_body.specs.declared.image.Image.{Image}
use Rattle.ev_state.specs.Processor.{Processor, register}
use Rattle.ev_mem.specs.Memory.{Memory}
use Rattle.ev_isa.specs.Flags.{Flags}
use Rattle.ev_abstract.specs.Context.{BodyContext, local}
use Rattle.ev_symbolic.specs.Value.{V}
use Rattle.ev_symbolic.specs.Agrees.{Env, eval}
use Rattle.ev_relation.specs.Active.{HoldsCalls, Locals}
use Rattle.ev_paths.proofs.Locals.{from_six}
use Rattle.ev_isa.specs.Word.{NatMap}
use Rattle.ev_blocks.specs.Shapes.{UserCode}
use Rattle.ev_relation.proofs.Records.{RecordsStay, holds_again}
use Rattle.ev_body_steps.proofs.ItemState.{with_registers, with_three, ItemState}

-- a register and its new number, or none
abbrev pub Write : Type 0
Write = Option (ℕ × ℕ)

-- it is a local's
abbrev pub IsLocal : Write → Type 0
IsLocal None = Unit {0}
IsLocal (Some x) = (6 ≤ x.0) × (x.0 < 14)

-- the registers behind it
abbrev pub regs_with : List ℕ → Write → List ℕ
regs_with regs None = regs
regs_with regs (Some x) = set regs x.0 x.1

-- and the locals
abbrev pub locals_with : List ℕ → Write → List ℕ
locals_with locals None = locals
locals_with locals (Some x) = set locals (x.0 - 6) x.1

pub regs_long : (regs : List ℕ) (x : Write) → length regs ≡ 16 → length (regs_with regs x) ≡ 16
regs_long regs None h = h
regs_long regs (Some x) h = length-set regs x.0 x.1 ∙ h

pub keeps_rsp : (regs : List ℕ) (x : Write) → IsLocal x → get_or (regs_with regs x) 4 0 ≡ get_or regs 4 0
keeps_rsp regs None h = refl
keeps_rsp regs (Some x) h = get_or-set_other regs x.0 4 x.1 0 (λ e. let l = h.0 in omega arith)

-- the eight of them
abbrev eight : List ℕ → List ℕ
eight xs = get_or xs 6 0 ∷ get_or xs 7 0 ∷ get_or xs 8 0 ∷ get_or xs 9 0 ∷ get_or xs 10 0 ∷ get_or xs 11 0 ∷ get_or xs 12 0 ∷ get_or xs 13 0 ∷ []

module _ (mode : Mode) (image : Image) (e : Env) (c : Processor) (m : Memory) (offset : ℕ)
    (rax rcx rdx : V) (g : Flags) (s : ItemState mode e c m offset rax rcx rdx g)
    (b : BodyContext) (locals : Locals mode image e.var b) where
  -- a register is the local that it stands for
  pub local_at : (r : ℕ) → 6 ≤ r → r < 14 → register c r ≡ local b r
  unfolding eval
  local_at r lo hi =
      let at = λ (n : ℕ). ap (λ (xs : List ℕ). get_or xs n 0) s.regs in
      let l = λ (n : ℕ). sym (ap (λ (xs : List ℕ). get_or xs n 0) locals) in
      from_six (λ n. get_or c.regs n 0 ≡ get_or b.locals (n - 6) 0) (at 6 ∙ l 0) (at 7 ∙ l 1) (at 8 ∙ l 2) (at 9 ∙ l 3) (at 10 ∙ l 4) (at 11 ∙ l 5)
      (at 12 ∙ l 6) (at 13 ∙ l 7) r lo hi

  -- the locals behind it are the registers behind it
  pub locals_behind : (x : Write) → IsLocal x → Locals mode image (with_registers (regs_with c.regs x) e.var) (record b { locals = locals_with b.locals x })
  unfolding eval
  locals_behind None h = locals ∙ ap eight (sym s.regs)
  locals_behind (Some x) h =
      ap (λ (ls : List ℕ). set ls (x.0 - 6) x.1) locals
      ∙ from_six (λ n. set (eight (map (eval e) (with_three mode rax rcx rdx))) (n - 6) x.1 ≡ eight (set (map (eval e) (with_three mode rax rcx rdx)) n x.1))
      refl refl refl refl refl refl refl refl x.0 h.0 h.1
      ∙ ap (λ (xs : List ℕ). eight (set xs x.0 x.1)) (sym s.regs)

  -- R14 is no local, so the list of calls behind it is the same
  pub calls_behind : (x : Write) → IsLocal x → (n : NatMap ℕ) → RecordsStay b.calls m.words n → HoldsCalls mode image m.words (e.var 14) b.calls
      → HoldsCalls mode image n (with_registers (regs_with c.regs x) e.var 14) b.calls
  unfolding eval
  calls_behind x h n stay holds =
      subst (λ a. HoldsCalls mode image n a b.calls) (sym (same x h ∙ ap (λ (xs : List ℕ). get_or xs 14 0) s.regs))
      (holds_again mode image m.words n UserCode e c b stay (e.var 14) holds)
    where
      same : (x : Write) → IsLocal x → get_or (regs_with c.regs x) 14 0 ≡ get_or c.regs 14 0
      same None h = refl
      same (Some x) h = get_or-set_other c.regs x.0 14 x.1 0 (λ e. let l = h.1 in omega arith)
