use Rattle.std.proofs.Common.{◌≡◌, drop}
use Rattle.dk_model.specs.Effects.{without_keys}
use Rattle.dk_core.proofs.durable.publish.drop_tasks.Given as goal

-- what is left to do from here is all from the start
abbrev pub invariant-loop-key : goal.invariant-loop-key
invariant-loop-key l = without_keys (drop l.key-index l.dropped) l.tasks.tasks ≡ without_keys l.dropped l.fn.tasks.tasks
