use Rattle.std.proofs.Common.{ap, []}
use Rattle.dk_connections.proofs.Changes.{swept_alive}
use Rattle.dk_connections.proofs.Delivered.{delivered_is, marks_are}
use Rattle.dk_connections.proofs.Steps.{alive_seen}
use Rattle.dk_connections.proofs.connections.Connections.deliver.Goals as goal

pub end_run-requires : goal.end_run-requires
end_run-requires c = alive_seen _ _ c.self.invariant _ (ap (λ s. s.connections) c.self.view_is)

pub returns-clause-world : goal.returns-clause-world
returns-clause-world c =
    delivered_is c.args.job.now c.args.deliveries _ _ _ _ _ _ _ _ c.conn_of.ensures c.end_run.ensures.linked c.end.ensures.linked c.send_all-closed.ensures.world c.send_all-closed.ensures.closed
    c.close_all.ensures.world c.ended_by.ensures

pub returns-clause-marks : goal.returns-clause-marks
returns-clause-marks c =
    marks_are c.args.job.now c.args.deliveries _ _ _ _ _ _ _ [] c.conn_of.ensures c.end_run.ensures.linked c.end.ensures.linked c.send_all-closed.ensures.marks c.close_all.ensures.marks

pub returns-clause-swept : goal.returns-clause-swept
returns-clause-swept c = swept_alive _ c.end.ensures.alive
