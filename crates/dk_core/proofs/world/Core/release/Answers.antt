use Rattle.std.proofs.Common.{sym, subst}
use Rattle.dk_core.specs.Numbers.{HasNumbers}
use Rattle.dk_core.proofs.Drawn.{numbers_released}
use Rattle.dk_core.proofs.Granted.{releases}
use Rattle.dk_core.proofs.world.Core.release.Goals as goal

pub invariant_of-self : goal.invariant_of-self
invariant_of-self c =
    let now = c.args.self.now in
    record {
      numbers = subst (λ n. HasNumbers now.world.commits n now.connections.connections) (sym c.release.ensures)
          (numbers_released now.world.commits now.claims now.connections.connections now.numbers c.args.claimed.run);
    }

pub returns-clause-event : goal.returns-clause-event
returns-clause-event c = releases c.args.self.now c.unmark.new.self c.args.claimed c.release.new.self _ c.requires.granted c.release.ensures c.unmark.ensures
