use Rattle.std.proofs.Common.{ℕ, inr, subst, sym}
use Rattle.dk_model.specs.Lawful.{AreLawful}
use Rattle.dk_host.specs.Stores.{CountsOn}
use Rattle.darkstar.specs.Served.{links_of}
use Rattle.darkstar.proofs.Serving.{outcome_as, outcome_serves}
use Rattle.darkstar.proofs.serve.closing.serve_on_turn.Goals as goal

pub open-opened-requires-clause-lawful : goal.open-opened-requires-clause-lawful
open-opened-requires-clause-lawful g c = subst AreLawful (sym c.requires.rules) (g.G.Rules.lawful c.args.game.now)

pub returns-clause-serves : goal.returns-clause-serves
returns-clause-serves g c =
    let net = c.run_server-ran.new.net in
    let spawner = c.run_server-ran.new.spawner in
    let closed = c.close-closed.result in
    let told = outcome_as closed.faults c.args.before c.outcome_of-outcome.result _ _ _ _ _ _ _ _ _ _ _ _ c.fault.ensures.same c.faults.ensures c.faults-listened.ensures c.faults-2.ensures c.faults-spawned.ensures c.faults-3.ensures c.outcome_of-outcome.ensures in
    inr (outcome_serves g.W.Hosting.opened g.M.Home.tells g.W.Hosting.began (g.M.Home.past closed.home) c.args.before (g.M.Home.counted closed.home) (g.L.Listener.counted c.args.net.now) (g.L.Listener.counted net)
    (g.P.Spawner.counted c.args.spawner.now) (g.P.Spawner.counted spawner) c.args.terms.port (links_of c.args.terms.sessions) (g.L.Listener.listening c.args.net.now) (g.L.Listener.listening net) c.run_server-ran.result.served c.run_server-ran.result.verdict.fault
    closed.history closed.faults closed.epoch c.outcome_of-outcome.result told c.close-closed.ensures.legal c.close-closed.ensures.ended
    (subst (λ (x : ℕ). CountsOn x closed.faults (g.M.Home.counted closed.home)) (sym c.requires.before) c.close-closed.ensures.same_home.counts) c.run_server-ran.ensures.bound c.run_server-ran.ensures.all)
