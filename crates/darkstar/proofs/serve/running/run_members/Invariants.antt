use Rattle.std.proofs.Common.{◌≤◌, length, vec_len}
use Rattle.darkstar.proofs.serve.running.run_members.Given as goal

-- a member for each role so far
abbrev pub invariant-loop-role : goal.invariant-loop-role
invariant-loop-role g l = vec_len l.members ≤ length l.yielded
