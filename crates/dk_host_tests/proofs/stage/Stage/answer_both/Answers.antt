use denote.Param.Send.{sendable}
use Rattle.dk_workers.proofs.Crossing.{pass_send}
use Rattle.dk_host_tests.proofs.Crossing.{stage_sync}
use Rattle.dk_host_tests.proofs.stage.Stage.answer_both.Goals as goal

pub answer_both-one-requires-send-X : goal.answer_both-one-requires-send-X
answer_both-one-requires-send-X g c κs within = search (sendable, pass_send, c.type_bounds) depth 20

pub answer_both-one-requires-sync-P : goal.answer_both-one-requires-sync-P
answer_both-one-requires-sync-P g c κs within = search (sendable, stage_sync, c.type_bounds) depth 20
