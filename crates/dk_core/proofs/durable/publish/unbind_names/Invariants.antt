use Rattle.std.proofs.Common.{◌≡◌, drop}
use Rattle.dk_model.specs.Effects.{without_keys}
use Rattle.dk_core.proofs.durable.publish.unbind_names.Given as goal

-- what is left to do from here is all from the start
abbrev pub invariant-loop-name : goal.invariant-loop-name
invariant-loop-name l = without_keys (drop l.name-index l.unbound) l.names.names ≡ without_keys l.unbound l.fn.names.names
