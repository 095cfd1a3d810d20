use Rattle.std.proofs.Common.{take}
use Rattle.dk_play_laws.specs.Reported.{AreKept}
use Rattle.dk_workers.proofs.play.text.has_release.Given as goal

-- none of them so far
abbrev pub invariant-loop-event : goal.invariant-loop-event
invariant-loop-event l = AreKept (take l.event-index l.events)
