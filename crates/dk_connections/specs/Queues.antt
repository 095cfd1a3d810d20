-- How a queue is kept: what waits, and the end of the session behind it.
use Rattle.std.specs.Prelude.{Bool, Option, None, Some, List, [], ◌∷◌}
use Rattle.dk_types.specs.declared.job.Input.TheVariants as input
use Rattle.dk_model.specs.declared.waiting.Waiting.{Waiting}
use Rattle.dk_model.specs.declared.waiting.Waiting.TheVariants as waits

-- a Disconnect, graceful or not
abbrev pub disconnect : Bool → Waiting
disconnect graceful = waits.Input (input.Disconnect graceful)

-- the end of the session, where it waits
abbrev pub end_of : Option Bool → List Waiting
end_of None = []
end_of (Some graceful) = disconnect graceful ∷ []
