use Rattle.darkstar.proofs.serve.serve_on_ledgers.Given as goal

abbrev pub ghosts-serve_on_turn : goal.ghosts-serve_on_turn
ghosts-serve_on_turn g a = record { name = a.blank }
