use Rattle.std.proofs.Common.{sym}
use Rattle.ev_text.proofs.Encoded.{statement_encoded}
use Rattle.ev_text.proofs.statements.statement.Goals as goal

pub returns-in-Some-text_word-clause-encoded : goal.returns-in-Some-text_word-clause-encoded
returns-in-Some-text_word-clause-encoded c = statement_encoded c.in-Some.word.now.now c.in-Some-text_word.word _ c.behind.result
    (sym c.in-Some-text_word.ensures) c.behind.ensures
