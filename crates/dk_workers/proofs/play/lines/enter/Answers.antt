use Rattle.std.proofs.Common.{[]}
use Rattle.std.proofs.lemmas.Result.{on_err_weaker}
use Rattle.dk_workers.specs.Logins.{said_of}
use Rattle.dk_workers.proofs.Beginnings.{on_err, none_begun}
use Rattle.dk_workers.proofs.Passing.{passes_one}
use Rattle.dk_workers.proofs.play.lines.enter.Goals as goal

pub returns-in-Send-clause-begun : goal.returns-in-Send-clause-begun
returns-in-Send-clause-begun g c =
    on_err_weaker c.send.result (none_begun g.W.Hosting.opened g.J.Naming.name.passes c.args.pass.now c.send.new.pass (said_of c.args.logins.now) _) c.send.ensures.none

pub returns-in-Channel-clause-begun : goal.returns-in-Channel-clause-begun
returns-in-Channel-clause-begun g c =
    on_err_weaker c.send_on.result (none_begun g.W.Hosting.opened g.J.Naming.name.passes c.args.pass.now c.send_on.new.pass (said_of c.args.logins.now) _) c.send_on.ensures.none

pub returns-in-Logout-clause-begun : goal.returns-in-Logout-clause-begun
returns-in-Logout-clause-begun g c =
    on_err_weaker c.leave.result (none_begun g.W.Hosting.opened g.J.Naming.name.passes c.args.pass.now c.leave.new.pass (said_of c.args.logins.now) _) c.leave.ensures.none

pub returns-in-Drop-clause-begun : goal.returns-in-Drop-clause-begun
returns-in-Drop-clause-begun g c =
    on_err_weaker c.leave-in-Drop.result (none_begun g.W.Hosting.opened g.J.Naming.name.passes c.args.pass.now c.leave-in-Drop.new.pass (said_of c.args.logins.now) _) c.leave-in-Drop.ensures.none

pub returns-in_err-tick-in-Tick-clause-begun : goal.returns-in_err-tick-in-Tick-clause-begun
returns-in_err-tick-in-Tick-clause-begun g c =
    let o = g.W.Hosting.opened in
    let n = g.J.Naming.name.passes in
    let old = c.args.pass.now in
    let new = c.tick.new.pass in
    let e = c.in_err-tick-in-Tick.ensures in
    on_err c.from_residual.result (none_begun o n old new (said_of c.args.logins.now) _ (passes_one o n [] old new e.number e.entered e.named))
