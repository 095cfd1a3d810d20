use Rattle.dk_turn_books.proofs.relay_race.race_in_threads.Given as goal

abbrev pub ghosts-race_of : goal.ghosts-race_of
ghosts-race_of g a = record { name = a.blank }
