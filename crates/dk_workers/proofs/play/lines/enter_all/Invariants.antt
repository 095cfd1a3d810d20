use Rattle.std.proofs.Common.{take, drop}
use Rattle.dk_workers.specs.Lines.{EntersLines}
use Rattle.dk_workers.specs.Logins.{said_of, MayStandAll}
use Rattle.dk_workers.proofs.play.lines.enter_all.Given as goal

-- the lines so far are entered, and the others can be
abbrev pub invariant-loop-line : goal.invariant-loop-line
invariant-loop-line g l = record {
  entered : EntersLines g.W.Hosting.opened g.J.Naming.name.passes l.fn.pass l.pass (said_of l.fn.logins) (take l.line-index l.lines) (said_of l.logins);
  ready : MayStandAll (said_of l.logins) (drop l.line-index l.lines);
}
