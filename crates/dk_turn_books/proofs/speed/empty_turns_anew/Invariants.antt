use Rattle.dk_turn_books.proofs.speed.empty_turns_anew.Given as goal

abbrev pub ghosts-empty_turns_of : goal.ghosts-empty_turns_of
ghosts-empty_turns_of g a = record { name = a.blank }
