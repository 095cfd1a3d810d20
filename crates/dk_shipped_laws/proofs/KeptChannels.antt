-- The rules of the channels keep the sessions: what they change of a session's record is the names of its channels.
use Rattle.std.proofs.Common.{ℕ, true, false, Option, Some, None, List, refl, Ok, Err}
use Rattle.dk_types.specs.declared.job.Job.TheVariants as job
use Rattle.dk_types.specs.declared.job.Session.{Session}
use Rattle.dk_types.specs.declared.job.Out.TheVariants as out
use Rattle.dk_types.specs.declared.fault.AppFault.TheVariants as fault
use Rattle.dk_types.specs.declared.mode.Mode.TheVariants.{Game}
use Rattle.dk_types.specs.Names.{IsName}
use Rattle.dk_model.specs.declared.records.Delivery.TheVariants.{Reliable}
use Rattle.dk_model.specs.Steps.{of_session}
use Rattle.dk_model.proofs.Bytes.{name_of_ascii}
use Rattle.dk_session_laws.specs.Sessions.{Keeps, KeepSessions}
use Rattle.dk_session_laws.proofs.Keeps.{keeps_then, keeps_then_as, keeps_give, keeps_if, keeps_send}
use Rattle.dk_session_laws.proofs.Calls.{keeps_create_channel, keeps_get_channel, keeps_join, keeps_leave, keeps_members, keeps_channel_send}
use Rattle.dk_session_laws.proofs.LeaveAll.{keeps_leave_all}
use Rattle.dk_demos.specs.declared.commands.Command.{Command}
use Rattle.dk_demos.specs.declared.commands.Command.TheVariants as command
use Rattle.dk_demos.specs.Commands as does
use Rattle.dk_demos.specs.Commands.{is_name, names_text, obey_at, obey_if, command_of}
use Rattle.dk_demos.specs.ChannelsRules.{foo, bar, heard, begin, login, hear, channels_rules}
use Rattle.dk_demos.specs.ChannelsLawful.{name_is}

foo_named : IsName foo
foo_named = name_of_ascii foo refl refl refl

bar_named : IsName bar
bar_named = name_of_ascii bar refl refl refl

keeps_begin : Keeps Game begin
unfolding begin
keeps_begin =
    keeps_then (keeps_then (keeps_create_channel foo false Reliable) (λ _. keeps_give (Ok (record { name = foo })))) (λ _.
    keeps_then (keeps_then (keeps_create_channel bar true Reliable) (λ _. keeps_give (Ok (record { name = bar })))) (λ _. keeps_give (Ok tt)))

keeps_login : (session : Session) → Keeps Game (login session)
unfolding login
keeps_login session = keeps_then (keeps_join foo session foo_named) (λ _. keeps_join bar session bar_named)

keeps_hear : (channel body : List ℕ) → Keeps Game (hear channel body)
unfolding hear
keeps_hear channel body = keeps_channel_send channel None (heard body)

keeps_obey_at : (c : Command) (name : List ℕ) (session : Session) → IsName name → Keeps Game (obey_at c name session)
unfolding does.tell_members
keeps_obey_at command.Join name session named = keeps_join name session named
keeps_obey_at command.Leave name session named = keeps_leave name session
keeps_obey_at command.Empty name session named = keeps_leave_all name
keeps_obey_at command.Members name session named = keeps_then (keeps_members name) (λ all. keeps_send session.conn (out.Message (names_text all)))

keeps_obey : (c : Command) (name : List ℕ) (session : Session) → IsName name → Keeps Game (does.obey c name session)
unfolding does.obey
keeps_obey c name session named = keeps_then_as (keeps_get_channel name) (λ _. record { name = name }) (λ channel. obey_at c channel.name session) (λ _. keeps_obey_at c name session named)

keeps_obey_if : (session : Session) (found : Option (Command × List ℕ)) → Keeps Game (obey_if session found)
unfolding does.obey_bytes
keeps_obey_if session None = keeps_give (Ok tt)
keeps_obey_if session (Some found) = keeps_if (is_name found.1) (λ named. keeps_obey found.0 found.1 session (name_is found.1 named)) (λ _. keeps_give (Err (fault.Game 1)))

keeps_message : (session : Session) (body : List ℕ) → Keeps Game (does.message session body)
unfolding does.message
keeps_message session body = keeps_obey_if session (command_of body)

-- the rules keep the sessions
pub channels_keep : KeepSessions channels_rules
channels_keep job.Initialize is = keeps_begin
channels_keep (job.Login conn name) is = keeps_login (of_session conn name)
channels_keep (job.Message conn name body) is = keeps_message (of_session conn name) body
channels_keep (job.Channel conn name channel body) is = keeps_hear channel body
channels_keep (job.Disconnect conn name graceful) is = keeps_give (Ok tt)
channels_keep (job.Task key due period kind arg) is = keeps_give (Ok tt)
