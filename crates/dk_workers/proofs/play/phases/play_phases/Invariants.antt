use Rattle.std.proofs.Common.{[], ◌∷◌, take, drop, length}
use Rattle.dk_workers.specs.Logins.{said_of}
use Rattle.dk_workers.proofs.Playing.{IsPlayedTo}
use Rattle.dk_workers.proofs.play.phases.play_phases.Given as goal

-- the phases so far are played
abbrev pub invariant-loop-lines : goal.invariant-loop-lines
invariant-loop-lines g l = IsPlayedTo g.W.Hosting.opened (length l.fn.workers) ([] ∷ take l.lines-index l.script) (drop l.lines-index l.script) (said_of l.logins) l.marks.items l.workers l.main
