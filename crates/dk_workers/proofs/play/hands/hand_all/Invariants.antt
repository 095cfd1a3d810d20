use Rattle.std.proofs.Common.{take}
use Rattle.dk_workers.specs.Lines.{HandsAll}
use Rattle.dk_workers.proofs.play.hands.hand_all.Given as goal

-- so many were handed their messages
abbrev pub invariant-loop-conn : goal.invariant-loop-conn
invariant-loop-conn g l = HandsAll g.W.Hosting.opened g.J.Naming.name.passes l.fn.pass l.pass (take l.conn-index l.conns)
