use denote.Param.Send.{sendable}
use Rattle.dk_workers.proofs.Crossing.{pass_send}
use Rattle.dk_bench.proofs.Crossing.{copying_sync}
use Rattle.dk_bench.proofs.desk.Desk.copy_and_reads.Goals as goal

pub both-requires-send-X : goal.both-requires-send-X
both-requires-send-X g c κs within = search (sendable, pass_send, c.type_bounds) depth 20

pub both-requires-sync-P : goal.both-requires-sync-P
both-requires-sync-P g c κs within = search (sendable, copying_sync, c.type_bounds) depth 20
