use Rattle.darkstar.proofs.Serving.{next_cause}
use Rattle.darkstar.proofs.serve.server.Helper.run_next.Goals as goal

pub returns : goal.returns
returns g c = next_cause g.W.Hosting.opened g.J.Naming.name.passes c.work_next.result _ _ c.work_next.ensures.works
