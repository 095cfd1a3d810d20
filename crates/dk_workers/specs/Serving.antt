-- What a worker does that waits where nothing can be run.
use Rattle.std.specs.Prelude.{◌≡◌, ℕ, List, [], ◌∷◌, ◌++◌}
use Rattle.std.specs.List.{flat_map}
use Rattle.dk_types.specs.declared.event.ClaimReply.TheVariants as reply
use Rattle.dk_types.specs.declared.event.Event.{Event}
use Rattle.dk_types.specs.declared.event.Event.TheVariants as event
use Rattle.dk_model.specs.Legal.{Opened}
use Rattle.dk_turn.specs.Fronts.{Known}
use Rattle.dk_host.specs.Passes.{Enters}
use Rattle.dk_workers.specs.Workers.{committed, Works}
use Rattle.dk_workers.specs.declared.worked.Worked.{Worked}
use Rattle.dk_workers.specs.declared.working.Ran.{Ran}

-- the claims of these runs, each followed by its commit, and then a claim to which nothing was granted
abbrev pub shift : ℕ → List Ran → List Event
shift pass rans = committed pass rans ++ event.Claim pass reply.Nothing ∷ []

-- such shifts, one after another
abbrev pub shifts : ℕ → List (List Ran) → List Event
shifts pass each = flat_map (shift pass) each

-- so far the pass entered such shifts, and nothing else
pub record HasServed (o : Opened) (count : ℕ) (old new : Known Event) : Type 0 where
  pub number : new.number ≡ old.number
  pub each : List (List Ran)
  pub enters : Enters o count old.number (shifts old.number each) old.front new.front

-- What a worker did that waits: shifts that ended where nothing could be run, and then one with this answer.
pub record ServesOn (o : Opened) (count : ℕ) (end : Worked) (old new : Known Event) : Type 0 where
  pub before : Known Event
  pub shifts : HasServed o count old before
  pub last : Works o count end before new
