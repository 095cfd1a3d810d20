use Rattle.std.proofs.Common.{false}
use Rattle.dk_host_tests.specs.Hosts.{opened_on}
use Rattle.dk_host_tests.proofs.hosting.host.Given as goal

abbrev pub ghosts-on_ledgers : goal.ghosts-on_ledgers
ghosts-on_ledgers g a = record {
  opened = opened_on (g.G.Rules.rules a.game.now) a.store.durable;
  began = g.M.Home.past a.store.home;
  first = a.store.journal.epoch;
  opening = g.M.Home.opening a.store.home;
  counted = g.M.Home.counted a.store.home;
  keeps = false;
  commits = a.commits.name;
  places = a.places.name;
  board = a.board.board;
}
