-- The mail of a processor of the abstract machine. Own.
use Rattle.std.specs.Prelude.{◌≡◌, ℕ, ◌<◌, false}
use Rattle.ev_abstract.specs.Machine.{Processor}

-- no vector and no NMI waits for it
pub record HasNoMail (x : Processor) : Type 0 where
  pub vectors : (v : ℕ) → v < 256 → x.mail v ≡ false
  pub nmi : x.mail_nmi ≡ false
