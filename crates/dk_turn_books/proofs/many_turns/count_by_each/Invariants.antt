use Rattle.dk_turn_books.proofs.many_turns.count_by_each.Given as goal

abbrev pub ghosts-count_by_passes : goal.ghosts-count_by_passes
ghosts-count_by_passes g a = record { name = a.blank }
