use denote.Param.Send.{sendable}
use Rattle.dk_workers.proofs.Crossing.{pass_send}
use Rattle.dk_bench.proofs.Crossing.{hold_sync}
use Rattle.dk_bench.proofs.desk.Desk.reads_beside_hold.Goals as goal

pub both-requires-send-X : goal.both-requires-send-X
both-requires-send-X g c κs within = search (sendable, pass_send, c.type_bounds) depth 20

pub both-requires-sync-P : goal.both-requires-sync-P
both-requires-sync-P g c κs within = search (sendable, hold_sync, c.type_bounds) depth 20
