use denote.Param.Send.{sendable}
use Rattle.dk_workers.proofs.Crossing.{pass_send, team_sync}
use Rattle.dk_workers.proofs.team.work_all.Goals as goal

pub serve_all-requires-send-X : goal.serve_all-requires-send-X
serve_all-requires-send-X g c κs within = search (sendable, pass_send, c.type_bounds) depth 20

pub serve_all-requires-sync-S : goal.serve_all-requires-sync-S
serve_all-requires-sync-S g c κs within = search (sendable, team_sync, c.type_bounds) depth 20
