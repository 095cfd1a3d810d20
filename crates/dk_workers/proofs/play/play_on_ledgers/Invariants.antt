use Rattle.dk_workers.proofs.play.play_on_ledgers.Given as goal

abbrev pub ghosts-play_on_turn : goal.ghosts-play_on_turn
ghosts-play_on_turn g a = record { name = a.blank }
