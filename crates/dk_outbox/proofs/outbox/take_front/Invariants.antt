use Rattle.std.proofs.Common.{◌≡◌, ◌-◌, ◌≤◌, ◌++◌, vec_len, vec_capacity}
use Rattle.dk_outbox.proofs.outbox.take_front.Given as goal

abbrev pub invariant-take : goal.invariant-take
invariant-take l = record {
  all : l.taken.items ++ l.outs ≡ l.initial.outs;
  within : vec_len l.taken ≤ l.count;
  capacity : l.count ≤ vec_capacity l.taken;
}

abbrev pub decreases-take : goal.decreases-take
decreases-take l = l.count - vec_len l.taken
