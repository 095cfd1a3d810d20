-- What the steps of a host give, at the history before them.
use Rattle.std.specs.Prelude.{◌≡◌, ℕ, ◌+◌, Bool, true, List, [], ◌∷◌, ◌++◌, length, Option, Result, Ok, Err, IfOk, OnErr}
use Rattle.dk_types.specs.declared.event.Event.{Event}
use Rattle.dk_types.specs.declared.event.Event.TheVariants as event
use Rattle.dk_types.specs.declared.durable.Durable.{Durable}
use Rattle.dk_types.specs.declared.fault.NoMemory.{NoMemory}
use Rattle.dk_types.specs.declared.item.Item.{Item}
use Rattle.dk_types.specs.declared.item.Read.{Read}
use Rattle.dk_types.specs.declared.job.Input.{Input}
use Rattle.dk_types.specs.declared.number.ConnNo.{ConnNo}
use Rattle.dk_model.specs.Events.{is_open}
use Rattle.dk_model.specs.Finishes.{step_report}
use Rattle.dk_model.specs.Steps.{step}
use Rattle.dk_model.specs.Legal.{Opened, IsLegal, commits_of, world_after}
use Rattle.dk_connections.specs.declared.answers.Handed.{Handed}
use Rattle.dk_connections.specs.declared.answers.PostRefused.{PostRefused}
use Rattle.dk_core.specs.declared.claimed.Claimed.{Claimed}
use Rattle.dk_core.specs.declared.answers.ClaimRefused.{ClaimRefused}
use Rattle.dk_core.specs.declared.answers.PrepareRefused.{PrepareRefused}
use Rattle.dk_core.specs.declared.prepared.Prepared.{Prepared}
use Rattle.dk_core.specs.Rooms.{places_of}
use Rattle.dk_txn.specs.declared.finished.Finished.{Finished}
use Rattle.dk_txn.specs.Finishes.{report}
use Rattle.dk_turn.specs.Fronts.{known}
use Rattle.dk_host.specs.Calls.{Stands, Grants, ReadsAt, IsCopyAt, IsSpared, IsHonestAt, AreShort, claim_events, post_events, hand_events, tick_events}
use Rattle.dk_host.specs.Commits.{IsPreparedAt, Finds}

-- these events are added, and the history is legal with them
pub record Adds (o : Opened) (events before added : List Event) : Type 0 where
  pub same : added ≡ events
  pub legal : IsLegal o (before ++ added)

-- a claim adds its event, and what is granted is the pass's
pub record Claims (o : Opened) (pass : ℕ) (before : List Event) (r : Result (Option Claimed) ClaimRefused) (added : List Event) : Type 0 where
  pub adds : Adds o (claim_events pass r) before added
  pub grants : Grants o (known pass (before ++ added)) r

-- a post adds its event, and spares a Disconnect that ends a session
pub record Posts (o : Opened) (keeps : Bool) (pass : ℕ) (conn : ConnNo) (input : Input) (before : List Event) (r : Result (Unit {0}) PostRefused) (added : List Event) : Type 0 where
  pub adds : Adds o (post_events pass conn input r) before added
  pub spared : IsSpared keeps (is_open (world_after o (before ++ added)) conn) input r

-- a tick adds its event; there is no want of memory where no events are kept
pub record Ticks (o : Opened) (keeps : Bool) (pass moment : ℕ) (before : List Event) (r : Result (Unit {0}) NoMemory) (added : List Event) : Type 0 where
  pub adds : Adds o (tick_events pass moment r) before added
  pub only : OnErr r (keeps ≡ true)

-- a look at what is kept adds nothing; where events are kept, all are
pub record CountsKept (o : Opened) (keeps : Bool) (before : List Event) (count : ℕ) (added : List Event) : Type 0 where
  pub adds : Adds o [] before added
  pub counts : keeps ≡ true → count ≡ length before

-- a hand adds its event, and no body that it hands is too long
pub record Hands (o : Opened) (pass : ℕ) (conn : ConnNo) (most : ℕ) (before : List Event) (r : Result Handed NoMemory) (added : List Event) : Type 0 where
  pub adds : Adds o (hand_events pass conn most r) before added
  pub short : AreShort r

-- a read adds nothing
pub record Reads (o : Opened) (item : Item) (before : List Event) (r : Result Read NoMemory) (added : List Event) : Type 0 where
  pub adds : Adds o [] before added
  pub read : ReadsAt o (before ++ added) item r

-- a claim may be ended by its pass alone, while it stands
abbrev pub MayEnd : Opened → ℕ → List Event → Claimed → Type 0
MayEnd o pass history c = (c.pass ≡ pass) × (IsLegal o history → Stands o history c)

-- how many places are kept for what was prepared
abbrev pub places_for : Result Prepared PrepareRefused → ℕ
places_for (Ok p) = places_of p.entry.effects
places_for (Err refused) = 0

-- the run tells what its job does alone on the durable world after these events
abbrev pub TellsStep : Opened → List Event → Claimed → Finished → Type 0
TellsStep o events c f = report f ≡ step_report (world_after o events).durable (step o.rules c.job c.run c.at (world_after o events).durable)

-- an honest run may be prepared by who claimed it
abbrev pub MayPrepare : Opened → ℕ → List Event → Claimed → Finished → Type 0
MayPrepare o pass history claimed f = MayEnd o pass history claimed × IsHonestAt o history claimed f

-- a prepare adds nothing. So many commits came before it, and as many places are kept as what it found needs
pub record PreparesBy (o : Opened) (claimed : Claimed) (f : Finished) (commits places : ℕ) (before : List Event) (r : Result Prepared PrepareRefused) (added : List Event) : Type 0 where
  pub adds : Adds o [] before added
  pub counted : commits_of before ≡ commits
  pub finds : Finds o before claimed f r
  pub tells : IfOk r (λ p. TellsStep o before claimed f)
  pub kept : places ≡ places_for r

-- An honest run may be published by who claimed it, where it is prepared as long as there are so many commits, and as many places are kept as it needs
pub record MayPublish (o : Opened) (pass : ℕ) (history : List Event) (claimed : Claimed) (f : Finished) (p : Prepared) (commits places : ℕ) : Type 0 where
  pub ends : MayEnd o pass history claimed
  pub honest : IsHonestAt o history claimed f
  pub prepared : commits_of history ≡ commits → IsPreparedAt o history claimed f p
  pub kept : places ≡ places_of f.effects

-- a publish adds its Commit, with the next number. So many commits came before it
pub record PublishesBy (o : Opened) (pass : ℕ) (claimed : Claimed) (f : Finished) (commits : ℕ) (before : List Event) (seq : ℕ) (added : List Event) : Type 0 where
  pub adds : Adds o (event.Commit pass claimed.run seq f.outcome ∷ []) before added
  pub counted : commits_of before ≡ commits
  pub number : seq ≡ (world_after o before).durable.commits + 1

-- a copy adds nothing, and is of the durable world of the history
pub record Copies (o : Opened) (before : List Event) (r : Result Durable NoMemory) (added : List Event) : Type 0 where
  pub adds : Adds o [] before added
  pub copied : IsCopyAt o (before ++ added) r

-- both ledgers' whole shares
abbrev pub IsWhole : ℕ → ℕ → Type 0
IsWhole commits places = (commits ≡ 1) × (places ≡ 1)

-- nothing is added, and so many commits came before
pub record SeesLast (o : Opened) (commits : ℕ) (before added : List Event) : Type 0 where
  pub adds : Adds o [] before added
  pub counted : commits_of before ≡ commits

-- a copy of the durable world of the history, before which so many commits came
pub record CopiesLast (o : Opened) (commits : ℕ) (before : List Event) (r : Result Durable NoMemory) (added : List Event) : Type 0 where
  pub sees : SeesLast o commits before added
  pub copied : IsCopyAt o (before ++ added) r

-- how many commits the durable world of the history has
pub record CountsLast (o : Opened) (commits : ℕ) (before : List Event) (n : ℕ) (added : List Event) : Type 0 where
  pub sees : SeesLast o commits before added
  pub number : n ≡ (world_after o (before ++ added)).durable.commits
