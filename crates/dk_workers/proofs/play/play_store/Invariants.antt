use Rattle.std.proofs.Common.{true}
use Rattle.dk_workers.specs.Played.{opened_on}
use Rattle.dk_workers.proofs.play.play_store.Given as goal

abbrev pub ghosts-play_on_ledgers : goal.ghosts-play_on_ledgers
ghosts-play_on_ledgers g a = record {
  opened = opened_on (g.G.Rules.rules a.game.now) a.store.durable a.budget;
  began = g.M.Home.past a.store.home;
  first = a.store.journal.epoch;
  opening = g.M.Home.opening a.store.home;
  counted = g.M.Home.counted a.store.home;
  keeps = true;
  commits = a.commits.name;
  places = a.places.name;
  board = a.board.board;
}
