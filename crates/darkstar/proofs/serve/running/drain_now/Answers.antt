use Rattle.darkstar.proofs.Serving.{drain_sound}
use Rattle.darkstar.proofs.serve.running.drain_now.Goals as goal

pub of_drain-requires : goal.of_drain-requires
of_drain-requires g c = drain_sound g.W.Hosting.opened g.J.Naming.name.passes c.drain.result _ _ _ _ c.drain.ensures.drains
