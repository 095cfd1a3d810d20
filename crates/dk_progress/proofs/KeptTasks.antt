-- A run of a terse game leaves the tasks as they are, where its job is no task.
use Rattle.std.proofs.Common.{◌≡◌, ℕ, ◌+◌, Bool, true, false, if◌then◌else◌, Option, Some, None, List, [], ◌∷◌, Result, Ok, Err, ◌||◌, nat_eq, nat_lt, is_some, length, refl, ◌∙◌}
use Rattle.std.specs.FinMap as map
use Rattle.dk_types.specs.declared.number.RunNo.{RunNo}
use Rattle.dk_types.specs.declared.number.ConnNo.{ConnNo}
use Rattle.dk_types.specs.declared.number.ObjectId.{ObjectId}
use Rattle.dk_types.specs.declared.object.Object.{Object}
use Rattle.dk_types.specs.declared.fault.AppFault.{AppFault}
use Rattle.dk_types.specs.declared.limits.TheConstants.{MESSAGES_MOST_COUNT}
use Rattle.dk_types.specs.declared.job.Session.{Session}
use Rattle.dk_types.specs.declared.job.Job.{Job}
use Rattle.dk_types.specs.declared.job.Job.TheVariants as job
use Rattle.dk_types.specs.declared.job.Out.{Out}
use Rattle.dk_types.specs.declared.job.Out.TheVariants as out
use Rattle.dk_types.specs.declared.mode.Mode.{Mode}
use Rattle.dk_types.specs.declared.mode.Mode.TheVariants.{Game, Platform}
use Rattle.dk_model.specs.declared.records.SessionRecord.{SessionRecord}
use Rattle.dk_model.specs.declared.records.ChannelRecord.{ChannelRecord}
use Rattle.dk_model.specs.DurableWorlds.{DurableWorld}
use Rattle.dk_model.specs.Events.{Meaning, is_task}
use Rattle.dk_model.specs.Runs as act
use Rattle.dk_model.specs.Runs.{Run, Act, give, and_then, carry_on, within, refuse, send, begun, is_too_long, TOO_LONG, NAME_NOT_BOUND}
use Rattle.dk_model.specs.Records.{SESSION_KIND, CHANNEL_KIND, session_of, session_bytes, channel_of, channel_bytes, session_name, channel_name, is_name_too_long}
use Rattle.dk_model.specs.Platforms.{platform_bound, found_as, session_under, channel_under, own_record, numbered, is_connected, find_session, new_record, open_record, close_record, is_member, without_member, without_channel, save_both, leave_records, leave, is_sender, send_each, channel_send}
use Rattle.dk_model.specs.Steps.{of_session, displace_found, displace_recorded, lost, admit, for_session, heard, channel_found, channel_message, leave_channels, end_session, work, game_part, kept_by, is_too_large, Stepped, ended, step}
use Rattle.dk_model.specs.Sendings.{SendsAtMost, SendsOneAtMost}
use Rattle.dk_model.proofs.Sendings.{create_sends, bind_sends, save_sends, get_as_sends, send_sends}

-- where a step ended the tasks are as they were
pub record IsKept {A : Type 0} (s : Run) (p : Result A AppFault × Run) : Type 0 where
  pub kept : p.1.world.tasks ≡ s.world.tasks

-- a step leaves the tasks as they are
pub record KeepsTasks {A : Type 0} (act : Act A) : Type 0 where
  pub from : (s : Run) → IsKept s (act s)

-- a step of which more is known
of_sends : {A : Type 0} {n : ℕ} {f : Act A} → SendsAtMost n f → KeepsTasks f
of_sends p = record { from = λ s. record { kept = p.tasks s } }

-- whichever step a test decides
either_keeps : {A : Type 0} {f g : Act A} (t : Bool) → KeepsTasks f → KeepsTasks g → KeepsTasks (if t then f else g)
either_keeps true p q = p
either_keeps false p q = q

-- whichever end of a step a test decides
either_kept : {A : Type 0} {s : Run} {x y : Result A AppFault × Run} (t : Bool) → IsKept s x → IsKept s y → IsKept s (if t then x else y)
either_kept true p q = p
either_kept false p q = q

-- an answer
give_keeps : {A : Type 0} (r : Result A AppFault) → KeepsTasks (give r)
unfolding give
give_keeps r = record { from = λ s. record { kept = refl } }

-- a refusal
refuse_keeps : {A : Type 0} (n : ℕ) → KeepsTasks {A = A} (refuse n)
refuse_keeps n = record { from = λ s. record { kept = refl } }

-- what follows a step, where that was not refused
carried : {A B : Type 0} (r : Result A AppFault) (g : A → Act B) → ((x : A) → KeepsTasks (g x)) → (s : Run) → (carry_on r g s).1.world.tasks ≡ s.world.tasks
carried (Ok x) g q s = ((q x).from s).kept
carried (Err e) g q s = refl

-- one step, and then the next
then_keeps : {A B : Type 0} {f : Act A} {g : A → Act B} → KeepsTasks f → ((x : A) → KeepsTasks (g x)) → KeepsTasks (and_then f g)
unfolding and_then
then_keeps {f = f} {g = g} p q = record { from = λ s. record { kept = carried (f s).0 g q (f s).1 ∙ (p.from s).kept } }

-- a step in a mode of its own
within_keeps : {A : Type 0} {f : Act A} (mode : Mode) → KeepsTasks f → KeepsTasks (within mode f)
unfolding within
within_keeps mode p = record { from = λ s. record { kept = (p.from (record s { mode = mode })).kept } }

-- a name is unbound, where it is bound
unbound_kept : (o : Option ObjectId) (name : List ℕ) (s : Run) → IsKept s (act.unbind_found o name s)
unbound_kept None name s = record { kept = refl }
unbound_kept (Some id) name s = record { kept = refl }

-- a name is unbound
unbind_keeps : (name : List ℕ) → KeepsTasks (act.unbind name)
unfolding act.unbind
unbind_keeps name = record { from = λ s. either_kept (act.is_reserved_name s.mode name) (record { kept = refl }) (unbound_kept (map.get s.world.names name) name s) }

-- an object is removed, where it stands
removed_kept : (o : Option Object) (id : ObjectId) (s : Run) → IsKept s (act.change_found o id (λ object. None) s)
removed_kept None id s = record { kept = refl }
removed_kept (Some object) id s = either_kept (act.is_reserved_kind s.mode object.kind) (record { kept = refl }) (record { kept = refl })

-- an object is removed
remove_keeps : (id : ObjectId) → KeepsTasks (act.remove id)
unfolding act.remove
remove_keeps id = record { from = λ s. removed_kept (map.get s.world.objects id) id s }

-- a record is read, where its name is bound
found_keeps : {A : Type 0} (o : Option ObjectId) (kind : ℕ) (read : List ℕ → Option A) (s : Run) → IsKept s (found_as o kind read s)
found_keeps None kind read s = record { kept = refl }
found_keeps (Some id) kind read s = (then_keeps (of_sends (get_as_sends kind read id)) (λ x. give_keeps (Ok (id, x)))).from s

-- a session's record is read
session_keeps : (name : List ℕ) → KeepsTasks (session_under name)
session_keeps name = record { from = λ s. found_keeps (platform_bound s (session_name name)) SESSION_KIND session_of s }

-- a channel's record is read
channel_keeps : (name : List ℕ) → KeepsTasks (channel_under name)
channel_keeps name = record { from = λ s. found_keeps (platform_bound s (channel_name name)) CHANNEL_KIND channel_of s }

-- the record of this very session is read
own_keeps : (session : Session) → KeepsTasks (own_record session)
own_keeps session = then_keeps (session_keeps session.name) (λ r. either_keeps (nat_eq r.1.conn.0 session.conn.0) (give_keeps (Ok r)) (refuse_keeps NAME_NOT_BOUND))

-- a session is found by its name
find_keeps : (name : List ℕ) → KeepsTasks (find_session name)
unfolding find_session
find_keeps name = record {
  from = λ s. either_kept (is_name_too_long (session_name name)) (record { kept = refl }) ((then_keeps (session_keeps name) (λ r. give_keeps (Ok (record { name = name; conn = r.1.conn })))).from s);
}

-- a session is asked for, where its name is bound
numbered_keeps : (o : Option ObjectId) (conn : ConnNo) (s : Run) → IsKept s (numbered o conn s)
numbered_keeps None conn s = record { kept = refl }
numbered_keeps (Some id) conn s = (then_keeps (of_sends (get_as_sends SESSION_KIND session_of id)) (λ r. give_keeps (Ok (nat_eq r.conn.0 conn.0)))).from s

-- a session is asked for
connected_keeps : (session : Session) → KeepsTasks (is_connected session)
unfolding is_connected
connected_keeps session = record { from = λ s. numbered_keeps (platform_bound s (session_name session.name)) session.conn s }

-- a session's record is made
new_keeps : (session : Session) → KeepsTasks (new_record session)
unfolding new_record
new_keeps session = record {
  from = λ s. either_kept (is_name_too_long (session_name session.name)) (record { kept = refl })
      (either_kept (is_some (platform_bound s (session_name session.name))) (record { kept = refl })
      ((then_keeps (of_sends (create_sends SESSION_KIND (session_bytes (record { conn = session.conn; channels = [] })))) (λ id. of_sends (bind_sends (session_name session.name) id))).from s));
}

-- a session is opened
open_keeps : (session : Session) → KeepsTasks (open_record session)
unfolding open_record
open_keeps session = within_keeps Platform (new_keeps session)

-- a session is closed
close_keeps : (session : Session) → KeepsTasks (close_record session)
unfolding close_record
close_keeps session = within_keeps Platform (then_keeps (own_keeps session) (λ r. then_keeps (unbind_keeps (session_name session.name)) (λ _. remove_keeps r.0)))

-- two records are saved
both_keeps : (a : ObjectId) (x : List ℕ) (b : ObjectId) (y : List ℕ) → KeepsTasks (save_both a x b y)
both_keeps a x b y = either_keeps (is_too_long x || is_too_long y) (refuse_keeps TOO_LONG) (then_keeps (of_sends (save_sends a x)) (λ _. of_sends (save_sends b y)))

-- a member's entries are taken away
records_keep : (name : List ℕ) (session : Session) (c : ObjectId × ChannelRecord) (r : ObjectId × SessionRecord) → KeepsTasks (leave_records name session c r)
records_keep name session c r =
    either_keeps (is_member session c.1.members)
    (both_keeps c.0 (channel_bytes (record (c.1) { members = without_member session c.1.members })) r.0 (session_bytes (record (r.1) { channels = without_channel name r.1.channels })))
    (give_keeps (Ok tt))

-- a channel is left
leave_keeps : (name : List ℕ) (session : Session) → KeepsTasks (leave name session)
unfolding leave
leave_keeps name session = within_keeps Platform (then_keeps (channel_keeps name) (λ c. then_keeps (own_keeps session) (λ r. records_keep name session c r)))

-- channels are left
channels_keep : (session : Session) (channels : List (List ℕ)) → KeepsTasks (leave_channels session channels)
channels_keep session [] = give_keeps (Ok tt)
channels_keep session (c ∷ channels) = then_keeps (leave_keeps c session) (λ _. channels_keep session channels)

-- a message goes to each member
each_keeps : (members : List Session) (message : Out) → KeepsTasks (send_each members message)
each_keeps members message = record { from = λ s. either_kept (nat_lt MESSAGES_MOST_COUNT (length s.outs + length members)) (record { kept = refl }) (record { kept = refl }) }

-- a message goes to a channel
channel_send_keeps : (name : List ℕ) (sender : Option Session) (body : List ℕ) → KeepsTasks (channel_send name sender body)
unfolding channel_send
channel_send_keeps name sender body =
    then_keeps (channel_keeps name) (λ c. either_keeps (is_too_long body) (refuse_keeps TOO_LONG)
    (either_keeps (is_sender sender c.1.members) (each_keeps c.1.members (out.Channel name body)) (give_keeps (Ok tt))))

module _ {game : Act (Unit {0})} (game_keeps : KeepsTasks game) where
  -- the platform's part of a new session
  admit_keeps : (session : Session) → KeepsTasks (admit session game)
  admit_keeps session = then_keeps (open_keeps session) (λ _. then_keeps (of_sends (send_sends session.conn out.Accepted)) (λ _. game_keeps))

  -- of what a session sends
  for_session_keeps : {f : Act (Unit {0})} (session : Session) → KeepsTasks f → KeepsTasks (for_session session f)
  for_session_keeps session p = then_keeps (connected_keeps session) (λ connected. either_keeps connected p (give_keeps (Ok tt)))

  -- of a message on a channel that is read
  heard_keeps : (session : Session) (channel body : List ℕ) (r : ChannelRecord) → KeepsTasks (heard session channel body game r)
  heard_keeps session channel body r = either_keeps (is_member session r.members) (either_keeps r.listener game_keeps (channel_send_keeps channel None body)) (give_keeps (Ok tt))

  -- of one on a channel that is bound
  channel_found_keeps : (o : Option ObjectId) (session : Session) (channel body : List ℕ) → KeepsTasks (channel_found o session channel body game)
  channel_found_keeps None session channel body = give_keeps (Ok tt)
  channel_found_keeps (Some id) session channel body = then_keeps (of_sends (get_as_sends CHANNEL_KIND channel_of id)) (heard_keeps session channel body)

  -- of one on any channel
  channel_message_keeps : (session : Session) (channel body : List ℕ) → KeepsTasks (channel_message session channel body game)
  channel_message_keeps session channel body = record { from = λ s. (channel_found_keeps (platform_bound s (channel_name channel)) session channel body).from s }

  -- of a session's end
  end_keeps : (session : Session) → KeepsTasks (end_session session game)
  end_keeps session = then_keeps game_keeps (λ _. then_keeps (own_keeps session) (λ r. then_keeps (channels_keep session r.1.channels) (λ _. close_keeps session)))

module _ {game : Job → Act (Unit {0})} (game_keeps : (j : Job) → KeepsTasks (game j)) where
  -- of a session that a login displaces, where there is one
  displace_found_keeps : (o : Option ObjectId) (name : List ℕ) → KeepsTasks (displace_found o name game)
  displace_found_keeps None name = give_keeps (Ok tt)
  displace_found_keeps (Some id) name = then_keeps (find_keeps name) (λ old. then_keeps (end_keeps (game_keeps (lost old)) old) (λ _. of_sends (send_sends old.conn out.Close)))

  -- of the session that a name is recorded for
  displace_keeps : (name : List ℕ) → KeepsTasks (displace_recorded name game)
  displace_keeps name = record { from = λ s. (displace_found_keeps (platform_bound s (session_name name)) name).from s }

  -- of a job that is no task
  work_keeps : (j : Job) → is_task j ≡ false → KeepsTasks (work game j)
  work_keeps job.Initialize none = game_keeps job.Initialize
  work_keeps (job.Login conn name) none = then_keeps (displace_keeps name) (λ _. admit_keeps (game_keeps (job.Login conn name)) (of_session conn name))
  work_keeps (job.Message conn name body) none = for_session_keeps (game_keeps (job.Message conn name body)) (of_session conn name) (game_keeps (job.Message conn name body))
  work_keeps (job.Channel conn name channel body) none = let keeps = game_keeps (job.Channel conn name channel body) in for_session_keeps keeps (of_session conn name) (channel_message_keeps keeps (of_session conn name) channel body)
  work_keeps (job.Disconnect conn name graceful) none = let keeps = game_keeps (job.Disconnect conn name graceful) in for_session_keeps keeps (of_session conn name) (end_keeps keeps (of_session conn name))
  work_keeps (job.Task key due period kind arg) none = absurd cc

-- what a failed run leaves
failed_keeps : (j : Job) (start : Run) → is_task j ≡ false → (kept_by j start).world.tasks ≡ start.world.tasks
failed_keeps job.Initialize start none = refl
failed_keeps (job.Login conn name) start none = refl
failed_keeps (job.Message conn name body) start none = refl
failed_keeps (job.Channel conn name channel body) start none = refl
failed_keeps (job.Disconnect conn name graceful) start none = refl
failed_keeps (job.Task key due period kind arg) start none = cc

-- whichever end of a run a test decides
either_stepped : (P : Stepped → Type 0) {x y : Stepped} (t : Bool) → P x → P y → P (if t then x else y)
either_stepped P true p q = p
either_stepped P false p q = q

-- what a run leaves, however it ends
ended_keeps : (j : Job) (d : DurableWorld) (start : Run) (p : Result (Unit {0}) AppFault × Run) → is_task j ≡ false → p.1.world.tasks ≡ start.world.tasks → (ended j d start p).world.tasks ≡ start.world.tasks
ended_keeps j d start (Ok x, s) none same = either_stepped (λ r. r.world.tasks ≡ start.world.tasks) (is_too_large d s.world) (failed_keeps j start none) same
ended_keeps j d start (Err fault, s) none same = failed_keeps j start none

-- a run of a terse game leaves the tasks as they are, where its job is no task
pub step_keeps : (rules : Meaning) (j : Job) (run : RunNo) (at : ℕ) (d : DurableWorld) → SendsOneAtMost rules → is_task j ≡ false → (step rules j run at d).world.tasks ≡ d.tasks
step_keeps rules j run at d terse none =
    let start = begun run at d in
    ended_keeps j d start (work (game_part rules) j start) none ((work_keeps (λ i. within_keeps Game (of_sends (terse i))) j none).from start).kept
