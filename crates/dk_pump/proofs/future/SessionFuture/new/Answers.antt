use Rattle.std.proofs.Common.{[], sym, subst}
use Rattle.dk_pump.specs.Sessions.{IsSession}
use Rattle.dk_pump.proofs.Midst.{session_first}
use Rattle.dk_pump.proofs.future.SessionFuture.new.Goals as goal

pub invariant_of-result : goal.invariant_of-result
invariant_of-result g c =
    let pass = c.args.pass in
    let link = c.new-link.result in
    let course = c.new.result in
    let is = c.new.ensures in
    let first = session_first g.W.Hosting.opened g.W.Hosting.keeps g.J.Naming.name.passes pass link course is.decoder is.conn is.end is.outgoing is.failed is.gone is.write in
    ∣ subst (λ p. IsSession g.W.Hosting.opened g.W.Hosting.keeps g.J.Naming.name.passes p c.of-2.result.value pass link course []) (sym c.of.ensures) (subst (λ l. IsSession g.W.Hosting.opened g.W.Hosting.keeps g.J.Naming.name.passes pass l pass link course []) (sym c.of-2.ensures) first) ∣₁
