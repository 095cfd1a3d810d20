-- The entries of a history's commits.
use Rattle.std.specs.Prelude.{◌≡◌, ℕ, ◌<◌, List, [], ◌∷◌, ◌++◌}
use Rattle.std.specs.List.{AllByRecursion}
use Rattle.dk_types.specs.declared.durable.Entry.{Entry}
use Rattle.dk_types.specs.declared.event.Event.{Event}
use Rattle.dk_types.specs.declared.event.Event.TheVariants as event
use Rattle.dk_types.specs.declared.fault.Outcome.{Outcome}
use Rattle.dk_model.specs.Effects.{effects}
use Rattle.dk_model.specs.Legal.{Opened, world_after}

-- the entry is of a commit of these events: it has its run and its number, and what it changed
pub record IsOfCommit (o : Opened) (events : List Event) (e : Entry) : Type 0 where
  pub before : List Event
  pub pass : ℕ
  pub outcome : Outcome
  pub later : List Event
  pub parts : events ≡ before ++ event.Commit pass e.run e.seq outcome ∷ later
  pub changed : e.effects ≡ effects (world_after o before).durable (world_after o (before ++ event.Commit pass e.run e.seq outcome ∷ [])).durable

-- each entry that is numbered behind the commits of the opened world is of a commit of these events
abbrev pub AreOfCommits : Opened → List Event → List Entry → Type 0
AreOfCommits o events entries = AllByRecursion (λ e. o.durable.commits < e.seq → IsOfCommit o events e) entries
