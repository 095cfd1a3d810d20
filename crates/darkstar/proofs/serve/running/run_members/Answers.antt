use denote.Param.Send.{sendable}
use Rattle.darkstar.proofs.Crossing.{member_send}
use Rattle.darkstar.proofs.serve.running.run_members.Goals as goal

pub crew-requires-send-W : goal.crew-requires-send-W
crew-requires-send-W g c κs within = search (sendable, member_send, c.type_bounds) depth 20
