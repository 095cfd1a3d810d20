-- What each call answers, and the event that it is.
use Rattle.std.specs.Prelude.{◌≡◌, ℕ, false, ◌+◌, ◌∷◌, [], Option, None, Some, List, Result, Ok, Err}
use Rattle.std.specs.List.{AllByRecursion}
use Rattle.dk_types.specs.declared.number.ConnNo.{ConnNo}
use Rattle.dk_types.specs.declared.job.Input.{Input}
use Rattle.dk_types.specs.declared.job.Out.{Out}
use Rattle.dk_types.specs.declared.event.Event.{Event}
use Rattle.dk_types.specs.declared.event.Event.TheVariants as event
use Rattle.dk_types.specs.declared.event.ConnectReply.TheVariants as connected
use Rattle.dk_types.specs.declared.event.PostReply.TheVariants as posted
use Rattle.dk_types.specs.declared.event.ClaimReply.TheVariants as reply
use Rattle.dk_types.specs.declared.fault.NoMemory.{NoMemory}
use Rattle.dk_model.specs.declared.waiting.Waiting.TheVariants as waits
use Rattle.dk_model.specs.Deliveries.{is_disconnect}
use Rattle.dk_model.specs.DurableWorlds.{DurableWorld}
use Rattle.dk_model.specs.Events.{Meaning}
use Rattle.dk_model.specs.Openings.{opening}
use Rattle.dk_model.specs.Lawful.{AreLawful}
use Rattle.dk_model.specs.Finishes.{IsHonest}
use Rattle.dk_model.specs.Retries.{IsFirstStale}
use Rattle.dk_txn.specs.declared.finished.Finished.{Finished}
use Rattle.dk_txn.specs.Finishes.{report}
use Rattle.dk_connections.specs.declared.answers.PostRefused.{PostRefused}
use Rattle.dk_connections.specs.declared.answers.PostRefused.TheVariants as post_refused
use Rattle.dk_connections.specs.declared.answers.Handed.{Handed}
use Rattle.dk_core.specs.Changes.{Stands, IsFirstConflict, stale_of}
use Rattle.dk_core.specs.Rooms.{HasPlaces, places_of}
use Rattle.dk_core.specs.declared.world.Core.{Core}
use Rattle.dk_core.specs.declared.claimed.Claimed.{Claimed}
use Rattle.dk_core.specs.declared.answers.ConnectRefused.{ConnectRefused}
use Rattle.dk_core.specs.declared.answers.ConnectRefused.TheVariants as connect_refused
use Rattle.dk_core.specs.declared.answers.ClaimRefused.{ClaimRefused}
use Rattle.dk_core.specs.declared.answers.ClaimRefused.TheVariants as claim_refused
use Rattle.dk_core.specs.declared.answers.PrepareRefused.{PrepareRefused}
use Rattle.dk_core.specs.declared.answers.PrepareRefused.TheVariants as prepare_refused
use Rattle.dk_core.specs.declared.prepared.Prepared.{Prepared}
use Rattle.dk_core.specs.Cores.{Represents, Extends, Adds, AddsNothing, IsGranted}

-- a Connect of this name, whatever pass it is of; after want of memory the core is as it was
abbrev pub Connected : Core → Core → List ℕ → Result ConnNo ConnectRefused → Type 0
Connected old new name (Ok conn) = (pass : ℕ) → Adds old new (event.Connect pass name (connected.Number conn) ∷ [])
Connected old new name (Err (connect_refused.Exhausted next)) = (pass : ℕ) → Adds old new (event.Connect pass name (connected.Exhausted next) ∷ [])
Connected old new name (Err connect_refused.NoMemory) = new ≡ old

-- a Post of this input; want of memory is no answer to a Disconnect
abbrev pub Posted : Core → Core → ConnNo → Input → Result (Unit {0}) PostRefused → Type 0
Posted old new conn input (Ok taken) = (pass : ℕ) → Adds old new (event.Post pass conn input posted.Taken ∷ [])
Posted old new conn input (Err post_refused.Closed) = (pass : ℕ) → Adds old new (event.Post pass conn input posted.Closed ∷ [])
Posted old new conn input (Err (post_refused.QueueFull waiting)) = (pass : ℕ) → Adds old new (event.Post pass conn input (posted.QueueFull waiting) ∷ [])
Posted old new conn input (Err post_refused.NoMemory) = (new ≡ old) × (is_disconnect (waits.Input input) ≡ false)

-- a Claim by this pass; what is granted is claimed
abbrev pub Claims : Core → Core → ℕ → Result (Option Claimed) ClaimRefused → Type 0
Claims old new pass (Ok (Some c)) = Adds old new (event.Claim pass (reply.Granted c.run c.at c.job) ∷ []) × IsGranted new c × (c.pass ≡ pass)
Claims old new pass (Ok None) = Adds old new (event.Claim pass reply.Nothing ∷ [])
Claims old new pass (Err (claim_refused.Spent granted)) = Adds old new (event.Claim pass (reply.Spent granted) ∷ [])
Claims old new pass (Err (claim_refused.Exhausted next)) = Adds old new (event.Claim pass (reply.Exhausted next) ∷ [])
Claims old new pass (Err claim_refused.NoMemory) = new ≡ old

-- a Hand of at most this many messages
abbrev pub Hands : Core → Core → ConnNo → ℕ → Result Handed NoMemory → Type 0
Hands old new conn most (Ok handed) = (pass : ℕ) → Adds old new (event.Hand pass conn most handed.outs handed.end ∷ [])
Hands old new conn most (Err refused) = new ≡ old

-- the reads of the run stand, and these are its messages
pub record IsReady (c : Core) (f : Finished) (outs : List (ConnNo × Out)) : Type 0 where
  pub stand : AllByRecursion (Stands c.world) f.reads.items
  pub messages : outs ≡ f.outs.items

-- there is room for the effects of the run
abbrev pub HasRoomFor : Core → Finished → Type 0
HasRoomFor c f = HasPlaces c.world.room (places_of f.effects)

-- why nothing is made ready: a read no longer stands, and the first such is told
abbrev pub TellsRefused : Core → Finished → PrepareRefused → Type 0
TellsRefused c f (prepare_refused.Retry changed) = IsFirstConflict c.world f.reads.items changed
TellsRefused c f prepare_refused.NoMemory = Unit {0}

-- a Retry tells the first stale read after every history that the core stands for
abbrev pub TellsStale : Core → Finished → PrepareRefused → Type 0
TellsStale c f (prepare_refused.Retry changed) =
    (rules : Meaning) (d : DurableWorld) (budget : Option ℕ) (events : List Event)
    → Represents rules d budget events c → IsFirstStale rules (opening d budget) events f.reads.items (stale_of changed)
TellsStale c f prepare_refused.NoMemory = Unit {0}

-- what is made ready, with the room, or why it is not
abbrev pub Readies : Core → Core → Finished → Result (List (ConnNo × Out)) PrepareRefused → Type 0
Readies old new f (Ok messages) = IsReady new f messages × HasRoomFor new f
Readies old new f (Err refused) = TellsRefused old f refused

-- the reads of the run stand, and these are the messages and the entry of its commit, which comes next
pub record IsPrepared (c : Core) (claimed : Claimed) (f : Finished) (p : Prepared) : Type 0 where
  pub ready : IsReady c f p.deliveries
  pub entry : p.entry ≡ record { seq = c.world.commits + 1; run = claimed.run; effects = f.effects }

-- what is prepared, with the room, or why it is not; the core is as it was but for its room
abbrev pub Prepares : Core → Core → Claimed → Finished → Result Prepared PrepareRefused → Type 0
Prepares old new claimed f (Ok p) = IsPrepared new claimed f p × HasRoomFor new f
Prepares old new claimed f (Err refused) = TellsRefused old f refused

-- an honest run is committed: the event is its Commit
abbrev pub Commits : Core → Core → Claimed → Finished → ℕ → Type 0
Commits old new claimed f seq =
    (rules : Meaning) (d : DurableWorld) (budget : Option ℕ) (events : List Event) → AreLawful rules
    → IsHonest rules (opening d budget) events claimed.job claimed.run claimed.at f.reads.items (report f)
    → Extends rules d budget events old new (event.Commit claimed.pass claimed.run seq f.outcome ∷ [])

-- both in one: where it is refused the claim is handed back, and stands
abbrev pub CommitsOrTells : Core → Core → Claimed → Finished → Result ℕ (Claimed × PrepareRefused) → Type 0
CommitsOrTells old new claimed f (Ok seq) = (seq ≡ old.world.commits + 1) × AllByRecursion (Stands old.world) f.reads.items × Commits old new claimed f seq
CommitsOrTells old new claimed f (Err (back, prepare_refused.Retry changed)) = (back ≡ claimed) × IsGranted new claimed × IsFirstConflict old.world f.reads.items changed × AddsNothing old new × TellsStale old f (prepare_refused.Retry changed)
CommitsOrTells old new claimed f (Err (back, prepare_refused.NoMemory)) = (back ≡ claimed) × IsGranted new claimed × AddsNothing old new
