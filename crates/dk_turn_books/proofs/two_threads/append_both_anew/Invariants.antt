use Rattle.dk_turn_books.proofs.two_threads.append_both_anew.Given as goal

abbrev pub ghosts-append_both : goal.ghosts-append_both
ghosts-append_both g a = record { name = a.blank }
