use Rattle.dk_model.specs.Openings.{ended_connection}
use Rattle.dk_core.proofs.Firsts.{fresh_after}
use Rattle.dk_core.proofs.opening.open_first.Goals as goal

pub returns-clause-fresh : goal.returns-clause-fresh
returns-clause-fresh c =
    fresh_after c.open_ended.result c.args.connections.now.connections c.open_ended.new.self.connections c.args.session.now.conn (ended_connection c.args.session.now) c.open_ended.ensures.linked c.open_ended.ensures.swept
