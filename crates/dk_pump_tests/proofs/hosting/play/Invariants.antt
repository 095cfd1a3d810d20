use Rattle.dk_disk.specs.Memory.{past_of}
use Rattle.dk_pump_tests.specs.Hosts.{opened_for}
use Rattle.dk_pump_tests.proofs.hosting.play.Given as goal

abbrev pub ghosts-on_ledgers : goal.ghosts-on_ledgers
ghosts-on_ledgers g a = record { opened = opened_for (g.G.Rules.rules a.game.now) a.store.durable; began = past_of a.store.home; keeps = a.keep; first = a.store.journal.epoch; opening = a.store.home.opening; counted = a.store.home.plan.faults; commits = a.commits.name; places = a.places.name; board = a.board.board }
