use Rattle.std.proofs.Common.{◌∷◌, []}
use Rattle.dk_types.specs.declared.event.Event.TheVariants as event
use Rattle.dk_types.specs.declared.event.ConnectReply.TheVariants as connected
use Rattle.dk_workers.specs.Logins.{said_of}
use Rattle.dk_workers.proofs.Beginnings.{on_err, none_begun, login_begun, refused_begun}
use Rattle.dk_workers.proofs.Passing.{passes_one}
use Rattle.dk_workers.proofs.Standing.{connect_ends}
use Rattle.dk_workers.proofs.play.lines.login.Goals as goal

pub returns-in_err-log_in-in-Ok-clause-begun : goal.returns-in_err-log_in-in-Ok-clause-begun
returns-in_err-log_in-in-Ok-clause-begun g c =
    let o = g.W.Hosting.opened in
    let n = g.J.Naming.name.passes in
    let old = c.args.pass.now in
    let new = c.connect.new.pass in
    let e = c.in-Ok.ensures in
    on_err c.from_residual.result
    (login_begun o n old new (said_of c.args.logins.now) c.args.name.now c.in-Ok.conn
    (passes_one o n (event.Connect old.number c.args.name.now (connected.Number c.in-Ok.conn) ∷ []) old new e.number e.entered e.named))

pub returns-in-Err-NoMemory-clause-begun : goal.returns-in-Err-NoMemory-clause-begun
returns-in-Err-NoMemory-clause-begun g c =
    let o = g.W.Hosting.opened in
    let n = g.J.Naming.name.passes in
    let old = c.args.pass.now in
    let new = c.connect.new.pass in
    let e = c.in-Err-NoMemory.ensures in
    none_begun o n old new (said_of c.args.logins.now) _ (passes_one o n [] old new e.number (rw c.in-Err-NoMemory.field-0-is at e.entered) e.named)

pub returns-in-Err-Exhausted-clause-begun : goal.returns-in-Err-Exhausted-clause-begun
returns-in-Err-Exhausted-clause-begun g c =
    let o = g.W.Hosting.opened in
    let n = g.J.Naming.name.passes in
    let old = c.args.pass.now in
    let new = c.connect.new.pass in
    let e = c.in-Err-Exhausted.ensures in
    let next = c.in-Err-Exhausted.next in
    refused_begun o n old new (said_of c.args.logins.now) c.args.name.now next
    (passes_one o n (event.Connect old.number c.args.name.now (connected.Exhausted next) ∷ []) old new e.number (rw c.in-Err-Exhausted.field-0-is at e.entered) e.named)

pub returns-in-Err-Exhausted-clause-fault : goal.returns-in-Err-Exhausted-clause-fault
returns-in-Err-Exhausted-clause-fault g c =
    connect_ends g.W.Hosting.opened c.args.pass.now.number c.args.name.now c.in-Err-Exhausted.next c.args.pass.now.front c.connect.new.pass.front (rw c.in-Err-Exhausted.field-0-is at c.in-Err-Exhausted.ensures.entered)
