use Rattle.std.proofs.Common.{◌≡◌, ◌-◌, ◌≤◌, vec_len, vec_capacity}
use Rattle.dk_outbox.proofs.outbox.make_rooms.Given as goal

abbrev pub invariant-make : goal.invariant-make
invariant-make l = record {
  above : l.had ≤ vec_len l.rooms;
  within : vec_len l.rooms ≤ l.most;
  capacity : vec_capacity l.rooms ≡ vec_capacity l.initial.rooms;
}

abbrev pub decreases-make : goal.decreases-make
decreases-make l = l.most - vec_len l.rooms
