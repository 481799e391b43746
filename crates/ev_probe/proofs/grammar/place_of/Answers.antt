use Rattle.std.proofs.Common.{◌≡◌, ap, arith, codes, sym}
use Rattle.std.proofs.lemmas.Slice.Eq.{text_from_reads}
use Rattle.ev_line.specs.Names.{place_from}
use Rattle.ev_probe.specs.ProbeLine.{setting_names}
use Rattle.ev_probe.proofs.grammar.place_of.Goals as goal

pub returns-in-vector-clause-is : goal.returns-in-vector-clause-is
returns-in-vector-clause-is c =
    let e : c.args.name.now ≡ codes "vector" = text_from_reads c.args.name.now (codes "vector") (omega arith)
    (omega arith, (omega arith, (omega arith, (omega arith, (omega arith, (omega arith, tt)))))) in
    ap (place_from 0 setting_names) (sym e)

pub returns-in-stklvls-clause-is : goal.returns-in-stklvls-clause-is
returns-in-stklvls-clause-is c =
    let e : c.args.name.now ≡ codes "stklvls" = text_from_reads c.args.name.now (codes "stklvls") (omega arith)
    (omega arith, (omega arith, (omega arith, (omega arith, (omega arith, (omega arith, (omega arith, tt))))))) in
    ap (place_from 0 setting_names) (sym e)
