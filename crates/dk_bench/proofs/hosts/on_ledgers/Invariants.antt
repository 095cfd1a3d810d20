use Rattle.dk_bench.proofs.hosts.on_ledgers.Given as goal

abbrev pub ghosts-on_turn : goal.ghosts-on_turn
ghosts-on_turn g a = record { name = a.blank }
