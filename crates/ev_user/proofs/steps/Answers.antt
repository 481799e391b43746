use Rattle.ev_user.proofs.Follows.{user_goes_on, user_raises}
use Rattle.ev_user.proofs.Words.{user_keeps_words}
use Rattle.ev_user.proofs.steps.Goals as goal

pub returns : goal.returns
returns c = record { goes = user_goes_on; raises = user_raises; words = user_keeps_words }
