use Rattle.std.proofs.Common.{◌≡◌, drop}
use Rattle.dk_model.specs.Effects.{without_keys}
use Rattle.dk_core.proofs.durable.publish.remove_objects.Given as goal

-- what is left to do from here is all from the start
abbrev pub invariant-loop-id : goal.invariant-loop-id
invariant-loop-id l = without_keys (drop l.id-index l.removed) l.objects.objects ≡ without_keys l.removed l.fn.objects.objects
