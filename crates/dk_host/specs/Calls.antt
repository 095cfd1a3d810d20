-- What a call by a pass does to the one history, and what it is answered.
use Rattle.std.specs.Prelude.{◌≡◌, ℕ, List, [], ◌∷◌, ◌++◌, Bool, true, false, Option, Some, None, Result, Ok, Err, IfOk, IfSome}
use Rattle.std.specs.List.{All}
use Rattle.std.specs.FinMap.{get}
use Rattle.dk_types.specs.declared.event.Event.{Event}
use Rattle.dk_types.specs.declared.event.Event.TheVariants as event
use Rattle.dk_types.specs.declared.event.ConnectReply.TheVariants as connected
use Rattle.dk_types.specs.declared.event.PostReply.TheVariants as posted
use Rattle.dk_types.specs.declared.event.ClaimReply.TheVariants as claimed
use Rattle.dk_types.specs.declared.durable.Durable.{Durable}
use Rattle.dk_types.specs.declared.fault.NoMemory.{NoMemory}
use Rattle.dk_types.specs.declared.item.Item.{Item}
use Rattle.dk_types.specs.declared.item.Read.{Read}
use Rattle.dk_types.specs.declared.job.Input.{Input}
use Rattle.dk_types.specs.declared.number.ConnNo.{ConnNo}
use Rattle.dk_model.specs.Legal.{Opened, opening_of, world_after, IsLegal, IsFront, pass_of}
use Rattle.dk_model.specs.declared.waiting.Waiting.TheVariants as waits
use Rattle.dk_model.specs.Deliveries.{is_disconnect}
use Rattle.dk_model.specs.Finishes.{IsHonest}
use Rattle.dk_model.specs.Images.{world_lists}
use Rattle.dk_model.specs.Lawful.{HasShortBody}
use Rattle.dk_model.specs.Sights.{IsReadAt}
use Rattle.dk_txn.specs.declared.finished.Finished.{Finished}
use Rattle.dk_txn.specs.Finishes.{report}
use Rattle.dk_connections.specs.declared.answers.Handed.{Handed}
use Rattle.dk_connections.specs.declared.answers.PostRefused.{PostRefused}
use Rattle.dk_connections.specs.declared.answers.PostRefused.TheVariants as post_refused
use Rattle.dk_core.specs.declared.claimed.Claimed.{Claimed}
use Rattle.dk_core.specs.declared.answers.ConnectRefused.{ConnectRefused}
use Rattle.dk_core.specs.declared.answers.ConnectRefused.TheVariants as connect_refused
use Rattle.dk_core.specs.declared.answers.ClaimRefused.{ClaimRefused}
use Rattle.dk_core.specs.declared.answers.ClaimRefused.TheVariants as claim_refused
use Rattle.dk_turn.specs.Fronts.{Known, own}

-- A call of this pass entered these events. It came after a history that goes on from the old front without this pass, and the new front is that
-- history and then the events. It is legal, and of the pass's own events it has those of the old front and these, each once
pub record Entered (o : Opened) (pass : ℕ) (events old new : List Event) : Type 0 where
  pub before : List Event
  pub continues : IsFront pass old before
  pub front : new ≡ before ++ events
  pub by : All (λ e. pass_of e ≡ pass) events
  pub own_events : own pass_of pass new ≡ own pass_of pass old ++ events
  pub legal : IsLegal o new

-- the event of a Connect that was answered; want of memory enters none
abbrev pub connect_events : ℕ → List ℕ → Result ConnNo ConnectRefused → List Event
connect_events pass name (Ok conn) = event.Connect pass name (connected.Number conn) ∷ []
connect_events pass name (Err (connect_refused.Exhausted next)) = event.Connect pass name (connected.Exhausted next) ∷ []
connect_events pass name (Err connect_refused.NoMemory) = []

-- the event of a post that was answered; want of memory enters none
abbrev pub post_events : ℕ → ConnNo → Input → Result (Unit {0}) PostRefused → List Event
post_events pass conn input (Ok taken) = event.Post pass conn input posted.Taken ∷ []
post_events pass conn input (Err post_refused.Closed) = event.Post pass conn input posted.Closed ∷ []
post_events pass conn input (Err (post_refused.QueueFull waiting)) = event.Post pass conn input (posted.QueueFull waiting) ∷ []
post_events pass conn input (Err post_refused.NoMemory) = []

-- Want of memory is no answer to a Disconnect, unless events are kept and the connection is not open: a Disconnect that ends a session has its place since the Connect
abbrev pub IsSpared : Bool → Bool → Input → Result (Unit {0}) PostRefused → Type 0
IsSpared keeps takes input (Ok taken) = Unit {0}
IsSpared keeps takes input (Err post_refused.Closed) = Unit {0}
IsSpared keeps takes input (Err (post_refused.QueueFull waiting)) = Unit {0}
IsSpared keeps takes input (Err post_refused.NoMemory) = is_disconnect (waits.Input input) ≡ true → (keeps ≡ true) × (takes ≡ false)

-- the event of a Tick; want of memory enters none
abbrev pub tick_events : ℕ → ℕ → Result (Unit {0}) NoMemory → List Event
tick_events pass moment (Ok done) = event.Tick pass moment ∷ []
tick_events pass moment (Err refused) = []

-- the event of a claim that was answered; want of memory enters none
abbrev pub claim_events : ℕ → Result (Option Claimed) ClaimRefused → List Event
claim_events pass (Ok (Some c)) = event.Claim pass (claimed.Granted c.run c.at c.job) ∷ []
claim_events pass (Ok None) = event.Claim pass claimed.Nothing ∷ []
claim_events pass (Err (claim_refused.Spent granted)) = event.Claim pass (claimed.Spent granted) ∷ []
claim_events pass (Err (claim_refused.Exhausted next)) = event.Claim pass (claimed.Exhausted next) ∷ []
claim_events pass (Err claim_refused.NoMemory) = []

-- the event of a hand that was answered; want of memory enters none
abbrev pub hand_events : ℕ → ConnNo → ℕ → Result Handed NoMemory → List Event
hand_events pass conn most (Ok handed) = event.Hand pass conn most handed.outs handed.end ∷ []
hand_events pass conn most (Err refused) = []

-- no message that is handed has a body that is too long
abbrev pub AreShort : Result Handed NoMemory → Type 0
AreShort r = IfOk r (λ handed. All HasShortBody handed.outs)

-- the claim was granted, and has not ended, in the world after these events
abbrev pub Stands : Opened → List Event → Claimed → Type 0
Stands o events c = get (world_after o events).claims c.run ≡ Some (record { pass = c.pass; job = c.job; at = c.at })

-- the claim was granted to this pass, and stands at its front, which is legal
pub record IsClaimOf (o : Opened) (p : Known Event) (c : Claimed) : Type 0 where
  pub pass : c.pass ≡ p.number
  pub legal : IsLegal o p.front
  pub stands : Stands o p.front c

-- what a claim was granted is the pass's
abbrev pub Grants : Opened → Known Event → Result (Option Claimed) ClaimRefused → Type 0
Grants o p r = IfOk r (λ granted. IfSome granted (IsClaimOf o p))

-- what was read is what the history up to this front answers, and what is seen there
abbrev pub ReadsAt : Opened → List Event → Item → Result Read NoMemory → Type 0
ReadsAt o front item r = IfOk r (IsReadAt o.rules (opening_of o) front item)

-- what was copied is the durable world that the history up to this front leaves, as lists in order
abbrev pub IsCopyAt : Opened → List Event → Result Durable NoMemory → Type 0
IsCopyAt o front r = IfOk r (λ d. d ≡ world_lists (world_after o front).durable)

-- the finished run is honest for this claim at this front
abbrev pub IsHonestAt : Opened → List Event → Claimed → Finished → Type 0
IsHonestAt o front c f = IsHonest o.rules (opening_of o) front c.job c.run c.at f.reads.items (report f)
