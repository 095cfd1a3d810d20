use Rattle.std.proofs.Common.{◌≡◌, ◌-◌, take}
use Rattle.dk_disk.specs.Unwinding.{unwound}
use Rattle.dk_disk.proofs.Unwindings.{joined}
use Rattle.dk_disk.proofs.unwinding.Unwinding.of.Given as goal

abbrev pub invariant-undos : goal.invariant-undos
invariant-undos l = joined (unwound (take (l.count - l.done) l.undos.undos) l.past.zero l.past.one) l.past.calls ≡ unwound l.undos.undos l.zero l.one
