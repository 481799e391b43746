-- What holds of the abstract machine as long as only images and script lines of today run. It is no part of what it means that states stand for each other:
-- with more lines and items its fields go, one by one. Own.
use Rattle.std.specs.Prelude.{◌≡◌, false}
use Rattle.ev_abstract.specs.Machine.{Processor}

-- no NMI arrives or is sent
pub record IsInDomain (x : Processor) : Type 0 where
  pub nmi : x.nmi ≡ false
  pub mail_nmi : x.mail_nmi ≡ false
