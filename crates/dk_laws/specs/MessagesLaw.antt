-- What was handed and what waits is what was committed to a connection, and its bodies are within their limit. What a run sends, and what a login is told.
use Rattle.std.specs.Prelude.{◌≡◌, ℕ, ◌≤◌, false, All, Option, Some, List, [], ◌∷◌, ◌++◌, length}
use Rattle.std.specs.List.{AllByRecursion, Contains}
use Rattle.std.specs.FinMap.{get}
use Rattle.dk_types.specs.declared.number.RunNo.{RunNo}
use Rattle.dk_types.specs.declared.number.ConnNo.{ConnNo}
use Rattle.dk_types.specs.declared.number.ObjectId.{ObjectId}
use Rattle.dk_types.specs.declared.job.Job.TheVariants as job
use Rattle.dk_types.specs.declared.job.Out.{Out}
use Rattle.dk_types.specs.declared.job.Out.TheVariants as out
use Rattle.dk_types.specs.declared.fault.Outcome.{Outcome}
use Rattle.dk_types.specs.declared.fault.Outcome.TheVariants as outcome
use Rattle.dk_types.specs.declared.limits.TheConstants.{MESSAGES_MOST_COUNT}
use Rattle.dk_types.specs.declared.event.Event.{Event}
use Rattle.dk_model.specs.DurableWorlds.{DurableWorld}
use Rattle.dk_model.specs.Validity.{IsValid}
use Rattle.dk_model.specs.Steps.{step}
use Rattle.dk_model.specs.Worlds.{World, Claim}
use Rattle.dk_model.specs.Events.{Meaning, outbox, step_of}
use Rattle.dk_model.specs.Histories.{Leads}
use Rattle.dk_model.specs.Openings.{opening, record_in}
use Rattle.dk_model.specs.Records.{session_name, is_name_too_long}
use Rattle.dk_model.specs.declared.records.SessionRecord.{SessionRecord}
use Rattle.dk_model.specs.Messages.{messages, handed}
use Rattle.dk_model.specs.Lawful.{HasShortBody, AreLawful, IsWithinLimits}

-- an absent connection's outbox counts as empty
abbrev pub MessagesAreHanded : Type 0
MessagesAreHanded =
    (rules : Meaning) (d : DurableWorld) (budget : Option ℕ) (events : List Event) (w : World) → IsValid d → Leads rules (opening d budget) events w
    → (conn : ConnNo) → messages rules (opening d budget) events conn ≡ handed events conn ++ outbox w conn

-- from an opening on, with lawful rules and inputs within their limits
abbrev pub BodiesAreShort : Type 0
BodiesAreShort =
    (rules : Meaning) (d : DurableWorld) (budget : Option ℕ) (events : List Event) (w : World) → AreLawful rules → IsValid d → AllByRecursion IsWithinLimits events → Leads rules (opening d budget) events w
    → (conn : ConnNo) → All HasShortBody (handed events conn) × All HasShortBody (outbox w conn)

-- a claimed run sends no more messages than a run may send, whenever it is committed
abbrev pub RunsSendFew : Type 0
RunsSendFew =
    (rules : Meaning) (d : DurableWorld) (budget : Option ℕ) (events : List Event) (w : World) (run : RunNo) (claim : Claim) → AreLawful rules → IsValid d → AllByRecursion IsWithinLimits events
    → Leads rules (opening d budget) events w → get w.claims run ≡ Some claim → length ((step_of rules w run claim).outs) ≤ MESSAGES_MOST_COUNT

-- a login that ends well is accepted, and one that fails is refused and closed, and no more is sent
abbrev pub IsAnswered : ConnNo → Outcome → List (ConnNo × Out) → Type 0
IsAnswered conn outcome.Ok outs = Contains outs (conn, out.Accepted)
IsAnswered conn (outcome.Fail fault) outs = outs ≡ (conn, out.Refused) ∷ (conn, out.Close) ∷ []

-- whatever lawful rules send beside
abbrev pub LoginsAreAnswered : Type 0
LoginsAreAnswered =
    (rules : Meaning) (conn : ConnNo) (name : List ℕ) (run : RunNo) (at : ℕ) (d : DurableWorld) → AreLawful rules
    → (let s = step rules (job.Login conn name) run at d in IsAnswered conn s.outcome s.outs)

-- the record of a session's name, where the name leads to one
abbrev pub IsRecordedAs : DurableWorld → List ℕ → SessionRecord → Type 0
IsRecordedAs d name r =
    (is_name_too_long (session_name name) ≡ false) × ((id : ObjectId) × (get d.names (session_name name) ≡ Some id) × (record_in (get d.objects id) ≡ Some r))

-- a login that ends well closes the connection of the session that its name was recorded for
abbrev pub TheDisplacedAreClosed : Type 0
TheDisplacedAreClosed =
    (rules : Meaning) (conn : ConnNo) (name : List ℕ) (run : RunNo) (at : ℕ) (d : DurableWorld) (r : SessionRecord) → AreLawful rules → IsRecordedAs d name r
    → (let s = step rules (job.Login conn name) run at d in s.outcome ≡ outcome.Ok → Contains s.outs (r.conn, out.Close))
