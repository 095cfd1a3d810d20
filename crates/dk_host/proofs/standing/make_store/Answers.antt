use Rattle.std.proofs.Common.{ap}
use Rattle.dk_host.proofs.Settling.{made_or_not, made}
use Rattle.dk_host.proofs.standing.make_store.Goals as goal

pub returns-in-Ok-clause-keeps : goal.returns-in-Ok-clause-keeps
returns-in-Ok-clause-keeps g c tells =
    made_or_not (g.M.Home.past c.args.home.now) (c.requires.ready tells) (c.requires.short tells) (c.requires.beside tells) c.args.game.now (g.M.Home.past c.create.new.home) (c.create.ensures.run tells) (c.create.ensures.some tells) c.create.result
    c.create.ensures.only (λ err. ap g.M.Home.past (c.create.ensures.memory err)) c.create.ensures.game

pub returns-in-Ok-clause-stands : goal.returns-in-Ok-clause-stands
returns-in-Ok-clause-stands g c tells =
    let e = c.in-Ok.ensures in
    made (g.M.Home.past c.args.home.now) (c.requires.ready tells) (c.requires.short tells) (c.requires.beside tells) c.args.game.now (g.M.Home.past c.create.new.home) (c.create.ensures.run tells) (c.create.ensures.some tells) (e.game (λ err. cc)) c.in-Ok.journal
    (e.stands tells) e.journal.0 e.journal.1 e.journal.2

pub returns-in-Err-clause-keeps : goal.returns-in-Err-clause-keeps
returns-in-Err-clause-keeps g c tells =
    made_or_not (g.M.Home.past c.args.home.now) (c.requires.ready tells) (c.requires.short tells) (c.requires.beside tells) c.args.game.now (g.M.Home.past c.create.new.home) (c.create.ensures.run tells) (c.create.ensures.some tells) c.create.result
    c.create.ensures.only (λ err. ap g.M.Home.past (c.create.ensures.memory err)) c.create.ensures.game
