use Rattle.std.proofs.Common.{◌≡◌, ◌++◌, drop}
use Rattle.sword_world.specs.Texts.{followed}
use Rattle.sword_world.proofs.texts.push_followed.Given as goal

-- the text so far, and the rest, are the whole
abbrev pub invariant-loop-i : goal.invariant-loop-i
invariant-loop-i l = l.text.items ++ followed (drop l.i l.names) ≡ l.fn.text.items ++ followed l.fn.names
