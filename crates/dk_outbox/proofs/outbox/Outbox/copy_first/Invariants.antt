use Rattle.std.proofs.Common.{◌≡◌, ◌++◌, take}
use Rattle.dk_outbox.proofs.outbox.Outbox.copy_first.Given as goal

-- the copies, and then those that are still to be copied
abbrev pub invariant-loop-out : goal.invariant-loop-out
invariant-loop-out l = l.copies.items ++ take l.out-iterator.n l.out-iterator.iter ≡ take l.most l.self.outs
