-- What is looked for before a commit, at a history.
use Rattle.std.specs.Prelude.{◌≡◌, ◌+◌, List, Result, Ok, Err}
use Rattle.dk_types.specs.declared.event.Event.{Event}
use Rattle.dk_model.specs.Legal.{Opened, opening_of, world_after}
use Rattle.dk_model.specs.Retries.{StandAt, IsFirstStale}
use Rattle.dk_txn.specs.declared.finished.Finished.{Finished}
use Rattle.dk_core.specs.declared.claimed.Claimed.{Claimed}
use Rattle.dk_core.specs.Changes.{stale_of}
use Rattle.dk_core.specs.declared.prepared.Prepared.{Prepared}
use Rattle.dk_core.specs.declared.answers.PrepareRefused.{PrepareRefused}
use Rattle.dk_core.specs.declared.answers.PrepareRefused.TheVariants as prepare_refused

-- each read of the run sees at this history what it saw, and these are the messages and the entry of its commit, which comes next
pub record IsPreparedAt (o : Opened) (events : List Event) (claimed : Claimed) (f : Finished) (p : Prepared) : Type 0 where
  pub stand : StandAt o.rules (opening_of o) events f.reads.items
  pub messages : p.deliveries ≡ f.outs.items
  pub entry : p.entry ≡ record { seq = (world_after o events).durable.commits + 1; run = claimed.run; effects = f.effects }

-- what is prepared, or the first stale read
abbrev pub Finds : Opened → List Event → Claimed → Finished → Result Prepared PrepareRefused → Type 0
Finds o events claimed f (Ok p) = IsPreparedAt o events claimed f p
Finds o events claimed f (Err (prepare_refused.Retry changed)) = IsFirstStale o.rules (opening_of o) events f.reads.items (stale_of changed)
Finds o events claimed f (Err prepare_refused.NoMemory) = Unit {0}
