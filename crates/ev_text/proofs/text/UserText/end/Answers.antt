use Rattle.std.proofs.Common.{◌≡◌, ◌⊎◌, Err, List, sym, subst}
use Rattle.ev_asm.specs.declared.statement.Stmt.{Stmt}
use Rattle.ev_asm.specs.declared.fault.AsmFault.TheVariants.{NoMemory}
use Rattle.ev_asm.specs.Assembled.{assembled}
use Rattle.ev_text.specs.declared.stop.Stop.{Stop}
use Rattle.ev_text.specs.TextStands.{stop_of}
use Rattle.ev_text.specs.UserText.{text_ended, Comes}
use Rattle.ev_text.proofs.TextLaws.{ended_good, ended_bad}
use Rattle.ev_text.proofs.text.UserText.end.Goals as goal

pub returns-in-Ok : goal.returns-in-Ok
returns-in-Ok c =
    let r = subst (λ (ss : List Stmt). (c.assemble.result ≡ Err NoMemory) ⊎ (c.assemble.result ≡ assembled ss 0x400000 65520)) c.as_slice.ensures.value
    c.assemble.ensures in
    rw (sym c.self.view_is) (ended_good c.self.inside.stmts.items c.self.inside.labels c.self.inside.size c.assemble.result c.in-Ok.field-0 c.self.invariant
    c.in-Ok.is r)

pub returns : goal.returns
returns c =
    let r = subst (λ (ss : List Stmt). (c.assemble.result ≡ Err NoMemory) ⊎ (c.assemble.result ≡ assembled ss 0x400000 65520)) c.as_slice.ensures.value
    c.assemble.ensures in
    let b = ended_bad c.self.inside.stmts.items c.assemble.result c.in-Err.fault c.in-Err.is r in
    let v = subst (λ (ss : List Stmt). Comes (text_ended ss) (Err (stop_of c.in-Err.fault))) c.self.view_is b in
    subst (λ (s : Stop). Comes (text_ended c.args.self) (Err s)) (sym c.stop_of.ensures) v
