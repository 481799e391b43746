use Rattle.ev_proc.proofs.delivery.+chain.Given as goal

abbrev pub decreases-chain : goal.decreases-chain
decreases-chain l = l.tries
