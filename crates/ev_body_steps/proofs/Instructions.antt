-- Instructions of the kernel by themselves: none inside a block is a return.
use Rattle.std.proofs.Common.{◌≡◌, ℕ, suc, false, Option, Some, None, refl, sym, ap, ◌∙◌}
use Rattle.ev_isa.specs.declared.instruction.Ins.{Ins}
use Rattle.ev_isa.specs.declared.instruction.Ins.TheVariants.{Eretu, Erets, Iretq, Sysretq}
use Rattle.ev_state.specs.Processor.{Processor}
use Rattle.ev_mem.specs.Memory.{Memory}
use Rattle.ev_concrete.specs.ConcreteRun.{is_return}
use Rattle.ev_symbolic.specs.State.{Loc, SS, Line, Ground, Block}
use Rattle.ev_symbolic.specs.Run.{line_at, sstep, bstep, bnext, brun}
use Rattle.ev_symbolic.specs.Agrees.{Env, addr, Cell, Code, edge_cell, At}
use Rattle.ev_symbolic.proofs.Blocks.{unsome, LineOk, line_ok}

-- no return is inside a block
not_return : (G : Ground) (i : Ins) (l : Loc) (s t : SS) → sstep G i l s ≡ Some t → is_return (Some i) ≡ false
unfolding is_return
not_return G Sysretq l s t h = absurd (cc)
not_return G Iretq l s t h = absurd (cc)
not_return G Eretu l s t h = absurd (cc)
not_return G Erets l s t h = absurd (cc)
not_return G _ l s t h = refl

pub stays_inside : (code : Code) (b : Block) (k : ℕ) (e : Env) (c : Processor) (m : Memory) → At code b k e c m → (t : SS) → brun b (suc k) ≡ Some t
    → (i : Ins) (next : ℕ) → code c.rip ≡ Some (edge_cell i next) → is_return (Some i) ≡ false
stays_inside code b k e c m at t h i next hc = go (line_at at.state.rip b.lines) (line_ok code e at.state.rip b.lines at.fits.stands)
    (ap (bnext b) (sym at.is) ∙ h)
  where
    go : (o : Option Line) → LineOk code e at.state.rip o → bstep b o at.state ≡ Some t → is_return (Some i) ≡ false
    go None q r = absurd (cc)
    go (Some x) q r =
        let same : edge_cell x.ins (addr e x.next) ≡ edge_cell i next = unsome _ _ (sym q ∙ ap code (sym at.agrees.rip) ∙ hc) in
        ap (λ (y : Cell). is_return (Some y.ins)) (sym same) ∙ not_return b.ground x.ins x.next at.state t r
