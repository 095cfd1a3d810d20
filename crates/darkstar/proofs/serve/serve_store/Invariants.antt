use Rattle.std.proofs.Common.{false}
use Rattle.darkstar.specs.Served.{served_on}
use Rattle.darkstar.proofs.serve.serve_store.Given as goal

-- the server on this store, whose host keeps no events
abbrev pub ghosts-serve_on_ledgers : goal.ghosts-serve_on_ledgers
ghosts-serve_on_ledgers g a = record {
  opened = served_on (g.G.Rules.rules a.game.now) a.store.durable;
  began = g.M.Home.past a.store.home;
  first = a.store.journal.epoch;
  opening = g.M.Home.opening a.store.home;
  counted = g.M.Home.counted a.store.home;
  keeps = false;
  commits = a.commits.name;
  places = a.places.name;
  board = a.board.board;
}
