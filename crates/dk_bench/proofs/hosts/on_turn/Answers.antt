use Rattle.std.proofs.Common.{sym, subst}
use Rattle.dk_model.specs.Lawful.{AreLawful}
use Rattle.dk_model.specs.Legal.{Opened}
use Rattle.dk_bench.proofs.hosts.on_turn.Goals as goal

pub open-opened-requires-clause-lawful : goal.open-opened-requires-clause-lawful
open-opened-requires-clause-lawful g c = subst (λ (o : Opened). AreLawful o.rules) (sym c.requires.opened) (g.G.Rules.lawful c.args.game.now)
