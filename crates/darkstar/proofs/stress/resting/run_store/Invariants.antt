use Rattle.std.proofs.Common.{false}
use Rattle.darkstar.specs.Tallies.{counters_on}
use Rattle.darkstar.proofs.stress.resting.run_store.Given as goal

abbrev pub ghosts-run_on_ledgers : goal.ghosts-run_on_ledgers
ghosts-run_on_ledgers g a = record {
  opened = counters_on a.game.now.seed a.game.now.tasks a.store.durable;
  began = g.M.Home.past a.store.home;
  first = a.store.journal.epoch;
  opening = g.M.Home.opening a.store.home;
  counted = g.M.Home.counted a.store.home;
  keeps = false;
  commits = a.commits.name;
  places = a.places.name;
  board = a.board.board;
}
