use Rattle.ev_return.proofs.ByReturn.{iret_returns, iret_returns_by_words, sysret_returns, eretu_returns, erets_returns}
use Rattle.ev_return.proofs.returns.Goals as goal

pub returns : goal.returns
returns c = record {
  iretq = iret_returns;
  iretq_by_words = iret_returns_by_words;
  sysretq = sysret_returns;
  eretu = eretu_returns;
  erets = erets_returns;
}
