use Rattle.std.proofs.Common.{◌≤◌, [], subst, sym, lit≤}
use Rattle.dk_pump.specs.declared.limits.TheConstants.{HAND_MOST_COUNT}
use Rattle.dk_pump.specs.Waiting.{FindsNothing}
use Rattle.dk_pump.proofs.Finding.{finds_nothing}
use Rattle.dk_pump.proofs.Midst.{midst_on}
use Rattle.dk_pump.proofs.Steps.{hands, sees}
use Rattle.dk_pump.proofs.session.Session.hand.Goals as goal

pub give_up-requires-clause-midst : goal.give_up-requires-clause-midst
give_up-requires-clause-midst g c =
    let s = c.args.self.now in
    midst_on g.W.Hosting.opened g.W.Hosting.keeps g.J.Naming.name.passes s.pass c.hand.new.pass s.link s.link s.course s.course [] []
    (sees g.W.Hosting.opened g.W.Hosting.keeps g.J.Naming.name.passes s.pass c.hand.new.pass s.link s.course c.args.conn c.requires.conn c.requires.writes c.requires.there c.in_default.ensures.number c.in_default.ensures.entered c.in_default.ensures.named) c.requires.midst

pub returns-in_default-clause-goes : goal.returns-in_default-clause-goes
returns-in_default-clause-goes g c = λ began given session.
    let s = c.args.self.now in
    c.give_up.ensures.goes began given
    (sees g.W.Hosting.opened g.W.Hosting.keeps g.J.Naming.name.passes s.pass c.hand.new.pass s.link s.course c.args.conn c.requires.conn c.requires.writes c.requires.there c.in_default.ensures.number c.in_default.ensures.entered c.in_default.ensures.named began given session)

pub returns-then-idle-clause-goes : goal.returns-then-idle-clause-goes
returns-then-idle-clause-goes g c =
    let s = c.args.self.now in
    rw c.keep.ensures (hands g.W.Hosting.opened g.W.Hosting.keeps g.J.Naming.name.passes s.pass c.hand.new.pass s.link s.course c.args.conn HAND_MOST_COUNT c.in-Ok.handed.outs c.in-Ok.handed.end c.requires.conn c.requires.writes c.requires.there c.requires.empty c.in-Ok.ensures.number c.in-Ok.ensures.entered c.in-Ok.ensures.named)

pub returns-then-idle-clause-waits : goal.returns-then-idle-clause-waits
returns-then-idle-clause-waits g c =
    let s = c.args.self.now in
    let some : 1 ≤ HAND_MOST_COUNT = lit≤ tt in
    rw (c.yield_now.ensures.pending, c.keep.ensures)
    (subst (λ n. FindsNothing g.W.Hosting.opened n c.args.conn s.pass.front c.hand.new.pass.front) (sym c.in-Ok.ensures.number)
    (finds_nothing g.W.Hosting.opened s.pass.number c.args.conn HAND_MOST_COUNT c.in-Ok.handed.outs c.in-Ok.handed.end s.pass.front c.hand.new.pass.front some (c.is_nothing-idle.ensures.outs c.if-idle.true) (c.is_nothing-idle.ensures.end c.if-idle.true) c.in-Ok.ensures.entered))

pub returns-clause-goes : goal.returns-clause-goes
returns-clause-goes g c =
    let s = c.args.self.now in
    rw c.keep.ensures (hands g.W.Hosting.opened g.W.Hosting.keeps g.J.Naming.name.passes s.pass c.hand.new.pass s.link s.course c.args.conn HAND_MOST_COUNT c.in-Ok.handed.outs c.in-Ok.handed.end c.requires.conn c.requires.writes c.requires.there c.requires.empty c.in-Ok.ensures.number c.in-Ok.ensures.entered c.in-Ok.ensures.named)
