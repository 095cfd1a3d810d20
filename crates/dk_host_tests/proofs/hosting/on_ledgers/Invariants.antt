use Rattle.dk_host_tests.proofs.hosting.on_ledgers.Given as goal

abbrev pub ghosts-on_host : goal.ghosts-on_host
ghosts-on_host g a = record { name = a.blank }
