use Rattle.ev_pair.proofs.run.run_modes.Given as goal

-- the ledger is the one that is made for this run
abbrev pub ghosts-run_counted : goal.ghosts-run_counted
ghosts-run_counted g a = record { name = a.blank.name; parts = a.blank.parts }
