use Rattle.ev_probe.proofs.run.+chain.Given as goal

abbrev pub decreases-chain : goal.decreases-chain
decreases-chain l = l.left
