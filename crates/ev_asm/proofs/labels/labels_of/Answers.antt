use Rattle.std.proofs.Common.{◌≡◌, suc, ◌+◌, ◌-◌, ◌^◌, min, take, List, [], refl, ap, sym, subst, ◌∙◌, arith, inr}
use Rattle.std.specs.Prelude.{option_map}
use Rattle.std.proofs.lemmas.List.{take_all}
use Rattle.ev_asm.specs.declared.statement.Stmt.{Stmt}
use Rattle.ev_asm.specs.declared.fault.AsmFault.TheVariants.{DoubleLabel}
use Rattle.ev_asm.specs.Assembly.{Places}
use Rattle.ev_asm.specs.Assembled.{is_second_label}
use Rattle.ev_asm.proofs.Statements.{front_at, first_at_step, first_at_stop, first_at_end}
use Rattle.ev_asm.proofs.LabelLaws.{InStep, again, none_yet, one_further}
use Rattle.ev_asm.proofs.labels.labels_of.Goals as goal

pub loop-n-init : goal.loop-n-init
loop-n-init c = record {
  stands = subst (λ (ls : Places). InStep c.args.base [] ls c.args.base) (sym c.new-labels.ensures) (none_yet c.args.base);
  second = refl;
}

pub returns-then-has_label_of-clause-err : goal.returns-then-has_label_of-clause-err
returns-then-has_label_of-clause-err c =
    let same = again c.loop-n.labels _ c.index-stmts-n.result c.loop-n.invariant.stands.names in
    inr (ap (option_map DoubleLabel) (sym (first_at_stop is_second_label c.args.stmts.now c.loop-n.n _ _ (omega arith) c.index-stmts-n.is
    (sym same ∙ sym c.has_label_of.ensures ∙ c.if-has_label_of.true) c.loop-n.invariant.second)))

pub loop-n-preserved : goal.loop-n-preserved
loop-n-preserved c =
    let same = again c.loop-n.labels _ c.index-stmts-n.result c.loop-n.invariant.stands.names in
    let sized = c.saturating_add-at.ensures ∙ ap (λ n. min (c.loop-n.at + n) (2 ^ 64 - 1)) c.size.ensures.is in
    let next : c.loop-n.n + 1 ≡ suc c.loop-n.n = omega arith in
    let front = ap (λ k. take k c.args.stmts.now) next ∙ front_at c.args.stmts.now c.loop-n.n c.index-stmts-n.result (omega arith) c.index-stmts-n.is in
    record {
      stands = subst (λ (ss : List Stmt). InStep c.args.base ss c.in-Ok.more c.saturating_add-at.result) (sym front)
          (one_further c.args.base _ c.loop-n.labels c.in-Ok.more c.loop-n.at _ c.index-stmts-n.result c.loop-n.invariant.stands c.in-Ok.ensures sized);
      second = first_at_step is_second_label c.args.stmts.now c.loop-n.n _ _ _ (omega arith) (omega arith) c.index-stmts-n.is
          (sym same ∙ sym c.has_label_of.ensures ∙ c.if-has_label_of.false) c.loop-n.invariant.second;
    }

pub returns-clause-ok : goal.returns-clause-ok
returns-clause-ok c =
    let all = subst (λ (ss : List Stmt). InStep c.args.base ss c.loop-n.labels c.loop-n.at) (take_all c.loop-n.n c.args.stmts.now (omega arith))
    c.loop-n.invariant.stands in
    record {
      names = all.names;
      placed = λ h. (all.placed h).0;
      once = sym (first_at_end is_second_label c.args.stmts.now c.loop-n.n _ (omega arith) c.loop-n.invariant.second);
    }
