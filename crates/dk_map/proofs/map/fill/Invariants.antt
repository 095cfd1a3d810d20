use Rattle.std.proofs.Common.{◌≡◌, ◌-◌, ◌≤◌, vec_len, vec_capacity}
use Rattle.dk_map.proofs.map.fill.Given as goal

abbrev pub invariant-fill : goal.invariant-fill
invariant-fill g l = record {
  above : l.had ≤ vec_len l.rooms;
  within : vec_len l.rooms ≤ l.most;
  capacity : vec_capacity l.rooms ≡ vec_capacity l.initial.rooms;
}

abbrev pub decreases-fill : goal.decreases-fill
decreases-fill g l = l.most - vec_len l.rooms
