use Rattle.darkstar.proofs.Serving.{serving_cause}
use Rattle.darkstar.proofs.serve.server.Server.work.Goals as goal

pub of_worker-verdict-requires : goal.of_worker-verdict-requires
of_worker-verdict-requires g c = serving_cause g.W.Hosting.opened g.J.Naming.name.passes c.serve_jobs-worked.result c.args.pass c.serve_jobs-worked.new.pass c.serve_jobs-worked.ensures.serves
