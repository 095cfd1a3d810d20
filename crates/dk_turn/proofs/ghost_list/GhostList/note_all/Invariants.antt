use Rattle.dk_turn.proofs.ghost_list.GhostList.note_all.Given as goal

abbrev pub ghosts-extend : goal.ghosts-extend
ghosts-extend g a = record { entries = g.M.NotingAll.entries a.about.now }
