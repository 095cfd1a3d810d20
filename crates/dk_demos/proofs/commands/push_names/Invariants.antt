use Rattle.std.proofs.Common.{◌≡◌, ◌++◌, take, flat_map}
use Rattle.dk_demos.specs.Commands.{after_space}
use Rattle.dk_demos.proofs.commands.push_names.Given as goal

-- the names so far are written
abbrev pub invariant-loop-member : goal.invariant-loop-member
invariant-loop-member l = l.text.items ≡ l.fn.text.items ++ flat_map after_space (take l.member-index l.members)
