-- What a job does alone on a world: the platform's part and the game's, and what a failed run leaves.
use Rattle.std.specs.Prelude.{ℕ, ◌+◌, ◌-◌, ◌*◌, ◌/◌, ◌==◌, Bool, true, false, Option, Some, None, List, [], ◌∷◌, nat_lt, if◌then◌else◌, Result, Ok, Err}
use Rattle.std.specs.FinMap as maps
use Rattle.dk_types.specs.declared.number.RunNo.{RunNo}
use Rattle.dk_types.specs.declared.number.ConnNo.{ConnNo}
use Rattle.dk_types.specs.declared.number.ObjectId.{ObjectId}
use Rattle.dk_types.specs.declared.number.TaskKey.{TaskKey}
use Rattle.dk_types.specs.declared.item.Item.{Item}
use Rattle.dk_types.specs.declared.job.Session.{Session}
use Rattle.dk_types.specs.declared.job.Job.{Job}
use Rattle.dk_types.specs.declared.job.Job.TheVariants as job
use Rattle.dk_types.specs.declared.job.Out.{Out}
use Rattle.dk_types.specs.declared.job.Out.TheVariants as out
use Rattle.dk_types.specs.declared.fault.AppFault.{AppFault}
use Rattle.dk_types.specs.declared.fault.AppFault.TheVariants.{TooLarge}
use Rattle.dk_types.specs.declared.fault.Outcome.{Outcome}
use Rattle.dk_types.specs.declared.fault.Outcome.TheVariants as outcome
use Rattle.dk_types.specs.declared.mode.Mode.TheVariants.{Game}
use Rattle.dk_types.specs.declared.limits.TheConstants.{EFFECTS_MOST_BYTES}
use Rattle.dk_model.specs.DurableWorlds.{DurableWorld, Task}
use Rattle.dk_model.specs.Effects.{effects, effects_length}
use Rattle.dk_model.specs.Runs.{Run, Act, begun, give, and_then, within, send, with_task}
use Rattle.dk_model.specs.declared.records.ChannelRecord.{ChannelRecord}
use Rattle.dk_model.specs.Records.{session_name, channel_name, CHANNEL_KIND, channel_of}
use Rattle.dk_model.specs.References.{get_as}
use Rattle.dk_model.specs.Platforms.{platform_bound, is_connected, find_session, open_record, close_record, own_record, leave, is_member, channel_send}

-- the least `due + m * period` with m at least 1 that is above the moment
abbrev pub next_due : ℕ → ℕ → ℕ → ℕ
next_due due period at = due + period * ((at - due) / period + 1)

-- whether a task is pending still; where it was found, it is taken out or given its next due moment
abbrev pub own_found : Option Task → TaskKey → ℕ → ℕ → Act Bool
own_found None key due period s = (Ok false, s)
own_found (Some task) key due period s =
    if period == 0 then (Ok true, with_task s key None)
    else (Ok true, record s { world = record (s.world) { tasks = maps.insert s.world.tasks key (record task { due = next_due due period s.at }) } })

-- a pending once-task is removed, and a periodic one gets its next due moment, which writes nothing
unfoldable pub own_task : TaskKey → ℕ → ℕ → Act Bool
own_task key due period s = own_found (maps.get s.world.tasks key) key due period s

-- a session of these two
abbrev pub of_session : ConnNo → List ℕ → Session
of_session conn name = record { name = name; conn = conn }

-- a session leaves each of these channels
abbrev pub leave_channels : Session → List (List ℕ) → Act (Unit {0})
leave_channels session [] = give (Ok tt)
leave_channels session (c ∷ channels) = and_then (leave c session) (λ _. leave_channels session channels)

-- the end of a session: the game's part, and then its channels, as its record has them by then, and its record
abbrev pub end_session : Session → Act (Unit {0}) → Act (Unit {0})
end_session session game =
    and_then game (λ _. and_then (own_record session) (λ r. and_then (leave_channels session r.1.channels) (λ _. close_record session)))

-- the job in which the game is told that a session has lost its connection
abbrev pub lost : Session → Job
lost session = job.Disconnect session.conn session.name false

-- a session whose name logs in again ends as if its connection were lost, and the connection is closed
abbrev pub displace : Session → (Job → Act (Unit {0})) → Act (Unit {0})
displace old game = and_then (end_session old (game (lost old))) (λ _. send old.conn out.Close)

-- the old session of a name is displaced where its record was found
abbrev pub displace_found : Option ObjectId → List ℕ → (Job → Act (Unit {0})) → Act (Unit {0})
displace_found None name game = give (Ok tt)
displace_found (Some id) name game = and_then (find_session name) (λ old. displace old game)

-- the session that a login name is recorded for, where there is one, is displaced
abbrev pub displace_recorded : List ℕ → (Job → Act (Unit {0})) → Act (Unit {0})
displace_recorded name game s = displace_found (platform_bound s (session_name name)) name game s

-- a new session is recorded, told, and the game's
abbrev pub admit : Session → Act (Unit {0}) → Act (Unit {0})
admit session game = and_then (open_record session) (λ _. and_then (send session.conn out.Accepted) (λ _. game))

-- what follows where the session is recorded with its number, and else nothing
abbrev pub for_session : Session → Act (Unit {0}) → Act (Unit {0})
for_session session act = and_then (is_connected session) (λ connected. if connected then act else give (Ok tt))

-- what a channel's message does where its record was found: a member's goes to the game, or on to the members
abbrev pub heard : Session → List ℕ → List ℕ → Act (Unit {0}) → ChannelRecord → Act (Unit {0})
heard session channel body game r =
    if is_member session r.members then (if r.listener then game else channel_send channel None body) else give (Ok tt)

-- what a channel's message does, by whether there is such a channel
abbrev pub channel_found : Option ObjectId → Session → List ℕ → List ℕ → Act (Unit {0}) → Act (Unit {0})
channel_found None session channel body game = give (Ok tt)
channel_found (Some id) session channel body game = and_then (get_as CHANNEL_KIND channel_of id) (heard session channel body game)

-- a member's message on a channel goes to the game where it listens, and else to every member
abbrev pub channel_message : Session → List ℕ → List ℕ → Act (Unit {0}) → Act (Unit {0})
channel_message session channel body game s = channel_found (platform_bound s (channel_name channel)) session channel body game s

-- the platform's part of a job round the game's, which may be given two jobs: that of a session that a login displaces, and the login's own
abbrev pub work : (Job → Act (Unit {0})) → Job → Act (Unit {0})
work game job.Initialize = game job.Initialize
work game (job.Login conn name) = and_then (displace_recorded name game) (λ _. admit (of_session conn name) (game (job.Login conn name)))
work game (job.Message conn name body) = for_session (of_session conn name) (game (job.Message conn name body))
work game (job.Channel conn name channel body) =
    for_session (of_session conn name) (channel_message (of_session conn name) channel body (game (job.Channel conn name channel body)))
work game (job.Disconnect conn name graceful) = for_session (of_session conn name) (end_session (of_session conn name) (game (job.Disconnect conn name graceful)))
work game (job.Task key due period kind arg) =
    and_then (own_task key due period) (λ pending. if pending then game (job.Task key due period kind arg) else give (Ok tt))

-- what a run leaves of its own task, also where it fails
abbrev pub kept_by : Job → Run → Run
kept_by (job.Task key due period kind arg) s = (own_task key due period s).1
kept_by job.Initialize s = s
kept_by (job.Login conn name) s = s
kept_by (job.Message conn name body) s = s
kept_by (job.Channel conn name channel body) s = s
kept_by (job.Disconnect conn name graceful) s = s

-- what a failed run sends: a failed login is refused
abbrev pub failed_outs : Job → List (ConnNo × Out)
failed_outs (job.Login conn name) = (conn, out.Refused) ∷ (conn, out.Close) ∷ []
failed_outs job.Initialize = []
failed_outs (job.Message conn name body) = []
failed_outs (job.Channel conn name channel body) = []
failed_outs (job.Disconnect conn name graceful) = []
failed_outs (job.Task key due period kind arg) = []

-- a run's outcome, the world that it leaves, what it wrote and what it sent
pub record Stepped : Type 0 where
  pub outcome : Outcome
  pub world : DurableWorld
  pub touched : List Item
  pub outs : List (ConnNo × Out)

-- a failed run leaves what it keeps of its own task, and sends what a failed login sends
abbrev pub failed : Job → Run → AppFault → Stepped
failed job start fault =
    record { outcome = outcome.Fail fault; world = (kept_by job start).world; touched = (kept_by job start).touched; outs = failed_outs job }

-- whether the effects between two worlds are more than may be written
unfoldable pub is_too_large : DurableWorld → DurableWorld → Bool
is_too_large before after = nat_lt EFFECTS_MOST_BYTES (effects_length (effects before after))

-- a run that comes to its end fails all the same where its effects are too large
abbrev pub ended : Job → DurableWorld → Run → Result (Unit {0}) AppFault × Run → Stepped
ended job before start (Ok x, s) =
    if is_too_large before s.world then failed job start TooLarge else record { outcome = outcome.Ok; world = s.world; touched = s.touched; outs = s.outs }
ended job before start (Err fault, s) = failed job start fault

-- what a game does in a job, in the game's mode
abbrev pub game_part : (Job → Act (Unit {0})) → Job → Act (Unit {0})
game_part rules job = within Game (rules job)

-- what the job does alone on the world, for a game that means this
abbrev pub step : (Job → Act (Unit {0})) → Job → RunNo → ℕ → DurableWorld → Stepped
step rules job run at d = ended job d (begun run at d) (work (game_part rules) job (begun run at d))
