-- The rules of the channels are lawful.
use Rattle.std.proofs.Common.{◌≡◌, ℕ, ◌&&◌, not, Bool, true, false, Option, Some, None, List, refl, length, nat_lt, nat_eq, ltb-true, ltb-false, eqb-true}
use Rattle.std.specs.Str.Lossy.{utf8_valid_len}
use Rattle.dk_types.specs.Names.{IsName}
use Rattle.dk_types.specs.declared.number.ConnNo.{ConnNo}
use Rattle.dk_types.specs.declared.job.Job.{Job}
use Rattle.dk_types.specs.declared.job.Job.TheVariants as job
use Rattle.dk_types.specs.declared.job.Session.{Session}
use Rattle.dk_types.specs.declared.job.Out.TheVariants as out
use Rattle.dk_types.specs.declared.fault.AppFault.TheVariants as fault
use Rattle.dk_model.specs.declared.records.Delivery.{Delivery}
use Rattle.dk_model.specs.declared.records.Delivery.TheVariants.{Reliable}
use Rattle.dk_model.specs.Lawful.{IsForGame, AreLawful}
use Rattle.dk_model.specs.Records.{is_name_too_long}
use Rattle.dk_model.specs.Steps.{of_session}
use Rattle.dk_model.proofs.Acts.{Anything, IsLawful, lawful_rules, lawful_then, lawful_done, lawful_give, lawful_fail, lawful_if}
use Rattle.dk_model.proofs.Operations.{lawful_send}
use Rattle.dk_model.proofs.PlatformActs.{lawful_create_channel, lawful_get_channel, lawful_join, lawful_leave, lawful_leave_all, lawful_members, lawful_channel_send}
use Rattle.dk_model.proofs.RecordFacts.{IsNamed}
use Rattle.dk_model.proofs.Bytes.{name_of_ascii}
use Rattle.dk_channels.specs.Channels.{create_channel, get_channel}
use Rattle.dk_demos.specs.declared.commands.Command.{Command}
use Rattle.dk_demos.specs.declared.commands.Command.TheVariants as command
use Rattle.dk_demos.specs.Commands as does
use Rattle.dk_demos.specs.Commands.{is_name, names_text, obey_at, obey_if, command_of}
use Rattle.dk_demos.specs.ChannelsRules.{foo, bar, heard, begin, login, hear, channels_rules}

left_of : (a b : Bool) → (a && b) ≡ true → a ≡ true
left_of true b h = refl
left_of false b h = cc

right_of : (a b : Bool) → (a && b) ≡ true → b ≡ true
right_of true b h = h
right_of false b h = cc

not_true : (a : Bool) → not a ≡ true → a ≡ false
not_true true h = cc
not_true false h = refl

-- bytes that pass for a name are one
pub name_is : (bytes : List ℕ) → is_name bytes ≡ true → IsName bytes
unfolding is_name
name_is bytes h =
    let rest = right_of (nat_lt 0 (length bytes)) (not (is_name_too_long bytes) && nat_eq (utf8_valid_len bytes) (length bytes)) h in record {
      some = ltb-true _ _ (left_of (nat_lt 0 (length bytes)) (not (is_name_too_long bytes) && nat_eq (utf8_valid_len bytes) (length bytes)) h);
      most = ltb-false _ _ (not_true (is_name_too_long bytes) (left_of (not (is_name_too_long bytes)) (nat_eq (utf8_valid_len bytes) (length bytes)) rest));
      text = eqb-true _ _ (right_of (not (is_name_too_long bytes)) (nat_eq (utf8_valid_len bytes) (length bytes)) rest);
    }

lawful_create : {Needs : Type 0} (name : List ℕ) (listener : Bool) (delivery : Delivery) → (Needs → IsName name) → IsLawful Needs Anything (create_channel name listener delivery)
lawful_create name listener delivery why = lawful_then (lawful_create_channel name listener delivery why) (λ _. lawful_done (record { name = name }))

lawful_begin : {Needs : Type 0} → IsLawful Needs Anything begin
unfolding begin
lawful_begin =
    lawful_then (lawful_create foo false Reliable (λ _. name_of_ascii foo refl refl refl)) (λ _.
    lawful_then (lawful_create bar true Reliable (λ _. name_of_ascii bar refl refl refl)) (λ _. lawful_done tt))

lawful_login : {Needs : Type 0} (session : Session) → (Needs → IsNamed session) → IsLawful Needs Anything (login session)
unfolding login
lawful_login session why =
    lawful_then (lawful_join foo session (λ n. (name_of_ascii foo refl refl refl, why n))) (λ _.
    lawful_join bar session (λ n. (name_of_ascii bar refl refl refl, why n.0)))

lawful_hear : {Needs : Type 0} (channel body : List ℕ) → IsLawful Needs Anything (hear channel body)
unfolding hear
lawful_hear channel body = lawful_channel_send channel None (heard body)

lawful_tell_members : {Needs : Type 0} (name : List ℕ) (conn : ConnNo) → IsLawful Needs Anything (does.tell_members name conn)
unfolding does.tell_members
lawful_tell_members name conn = lawful_then (lawful_members name) (λ all. lawful_send conn (out.Message (names_text all)))

lawful_obey_at : {Needs : Type 0} (c : Command) (name : List ℕ) (session : Session) → (Needs → IsName name × IsNamed session) → IsLawful Needs Anything (obey_at c name session)
lawful_obey_at command.Join name session why = lawful_join name session why
lawful_obey_at command.Leave name session why = lawful_leave name session
lawful_obey_at command.Empty name session why = lawful_leave_all name
lawful_obey_at command.Members name session why = lawful_tell_members name session.conn

-- the channel that is got has the name that was asked for
lawful_get : {Needs : Type 0} (name : List ℕ) → IsLawful Needs (λ channel. channel.name ≡ name) (get_channel name)
lawful_get name = lawful_then (lawful_get_channel name) (λ _. lawful_give (record { name = name }) (λ _. refl))

lawful_obey : {Needs : Type 0} (c : Command) (name : List ℕ) (session : Session) → (Needs → IsName name × IsNamed session) → IsLawful Needs Anything (does.obey c name session)
unfolding does.obey
lawful_obey c name session why = lawful_then (lawful_get name) (λ channel. lawful_obey_at c channel.name session (λ n. let both = why n.0 in (rw n.1 both.0, both.1)))

lawful_obey_bytes : {Needs : Type 0} (c : Command) (bytes : List ℕ) (session : Session) → (Needs → IsNamed session) → IsLawful Needs Anything (does.obey_bytes c bytes session)
unfolding does.obey_bytes
lawful_obey_bytes c bytes session why = lawful_if (is_name bytes) (lawful_obey c bytes session (λ n. (name_is bytes n.1, why n.0))) (lawful_fail (fault.Game 1))

lawful_obey_if : {Needs : Type 0} (session : Session) (found : Option (Command × List ℕ)) → (Needs → IsNamed session) → IsLawful Needs Anything (obey_if session found)
lawful_obey_if session None why = lawful_done tt
lawful_obey_if session (Some found) why = lawful_obey_bytes found.0 found.1 session why

lawful_message : {Needs : Type 0} (session : Session) (body : List ℕ) → (Needs → IsNamed session) → IsLawful Needs Anything (does.message session body)
unfolding does.message
lawful_message session body why = lawful_obey_if session (command_of body) why

lawful_job : (j : Job) → IsLawful (IsForGame j) Anything (channels_rules j)
lawful_job job.Initialize = lawful_begin
lawful_job (job.Login conn name) = lawful_login (of_session conn name) (λ n. n)
lawful_job (job.Message conn name body) = lawful_message (of_session conn name) body (λ n. n.0)
lawful_job (job.Channel conn name channel body) = lawful_hear channel body
lawful_job (job.Disconnect conn name graceful) = lawful_done tt
lawful_job (job.Task key due period kind arg) = lawful_done tt

-- the rules are lawful
pub channels_lawful : AreLawful channels_rules
channels_lawful = lawful_rules lawful_job
