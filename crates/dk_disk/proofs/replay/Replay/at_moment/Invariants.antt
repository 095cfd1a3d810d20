use Rattle.std.proofs.Common.{◌≡◌, drop}
use Rattle.dk_disk.specs.Disk.{settled}
use Rattle.dk_disk.specs.Record.{replayed}
use Rattle.dk_disk.proofs.replay.Replay.at_moment.Given as goal

abbrev pub invariant-calls : goal.invariant-calls
invariant-calls l = replayed l.moment l.side (drop l.at l.calls) l.replay ≡ replayed l.moment l.side l.calls (settled l.first)
