use Rattle.dk_workers.proofs.Meetings.{IsRoundTo}
use Rattle.dk_workers.proofs.play.drains.meet_all.Given as goal

-- so many were met
abbrev pub invariant-loop-k : goal.invariant-loop-k
invariant-loop-k g l = IsRoundTo l.k l.fn.workers l.workers l.fn.main l.main
