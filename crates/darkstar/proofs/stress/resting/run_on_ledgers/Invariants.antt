use Rattle.darkstar.proofs.stress.resting.run_on_ledgers.Given as goal

abbrev pub ghosts-run_on_turn : goal.ghosts-run_on_turn
ghosts-run_on_turn g a = record { name = a.blank }
