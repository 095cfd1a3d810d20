use Rattle.dk_workers.proofs.Tries.{refused_claim}
use Rattle.dk_host_tests.proofs.stage.Stage.commit.Goals as goal

pub returns-in-Err : goal.returns-in-Err
returns-in-Err g c =
    refused_claim g.W.Hosting.opened c.args.claimed c.args.finished c.args.pass.now c.commit.new.pass c.in-Err.ensures.number c.requires.claim c.requires.honest c.in-Err.shown.refused c.in-Err.ensures.entered c.in-Err.ensures.back
