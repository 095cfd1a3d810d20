-- The lines of events: none has a byte 0A, and none begins a phase.
use Rattle.std.proofs.Common.{◌≡◌, ℕ, true, false, List, [], ◌∷◌, ◌++◌, map, codes, refl, arith}
use Rattle.std.specs.Fmt.{decimal}
use Rattle.std.specs.List.{AllByRecursion}
use Rattle.dk_types.specs.declared.number.ConnNo.{ConnNo}
use Rattle.dk_types.specs.declared.job.Job.{Job}
use Rattle.dk_types.specs.declared.job.Job.TheVariants as job
use Rattle.dk_types.specs.declared.job.Out.{Out}
use Rattle.dk_types.specs.declared.job.Out.TheVariants as out
use Rattle.dk_types.specs.declared.fault.AppFault.TheVariants as fault
use Rattle.dk_types.specs.declared.fault.Outcome.{Outcome}
use Rattle.dk_types.specs.declared.fault.Outcome.TheVariants as outcome
use Rattle.dk_types.specs.declared.event.Event.{Event}
use Rattle.dk_types.specs.declared.event.Event.TheVariants as event
use Rattle.dk_types.specs.declared.event.ConnectReply.{ConnectReply}
use Rattle.dk_types.specs.declared.event.ConnectReply.TheVariants as connected
use Rattle.dk_types.specs.declared.event.PostReply.{PostReply}
use Rattle.dk_types.specs.declared.event.PostReply.TheVariants as posted
use Rattle.dk_types.specs.declared.event.ClaimReply.{ClaimReply}
use Rattle.dk_types.specs.declared.event.ClaimReply.TheVariants as claimed
use Rattle.dk_model.specs.Lines.{escaped}
use Rattle.dk_model.specs.Orders.{job_text, outcome_text, is_phase_line}
use Rattle.dk_model.specs.Transcripts.{Known, name_at, out_text, to_line, connect_lines, post_lines, claim_lines, event_lines, lines_of_events, knowing}
use Rattle.dk_script.proofs.Lacking.{lacks, lacks-append, lacks-decimal, lacks-escaped}

-- a line within a phase
pub record IsWithin (line : List ℕ) : Type 0 where
  pub ended : lacks 10 line ≡ true
  pub inner : is_phase_line line ≡ false

-- a number has no byte 0A
lacks-number : (n : ℕ) → lacks 10 (decimal n) ≡ true
lacks-number n = lacks-decimal 10 n (omega arith)

-- a number and a space, before more
number-first : (n : ℕ) (rest : List ℕ) → lacks 10 rest ≡ true → lacks 10 (decimal n ++ 32 ∷ rest) ≡ true
number-first n rest h = lacks-append 10 (decimal n) (32 ∷ rest) (lacks-number n) h

-- nor has a job's text
lacks-job : (j : Job) → lacks 10 (job_text j) ≡ true
lacks-job job.Initialize = refl
lacks-job (job.Login conn name) = lacks-escaped name
lacks-job (job.Message conn name body) = lacks-escaped name
lacks-job (job.Channel conn name channel body) = lacks-escaped name
lacks-job (job.Disconnect conn name graceful) = lacks-escaped name
lacks-job (job.Task key due period kind arg) =
    lacks-append 10 (decimal key.run.0) (46 ∷ decimal key.k) (lacks-number key.run.0) (lacks-number key.k)

-- nor an outcome's
lacks-outcome : (o : Outcome) → lacks 10 (outcome_text o) ≡ true
lacks-outcome outcome.Ok = refl
lacks-outcome (outcome.Fail (fault.Refused n)) = lacks-number n
lacks-outcome (outcome.Fail (fault.Game n)) = lacks-number n
lacks-outcome (outcome.Fail fault.TooLarge) = refl

-- nor a message's
lacks-out : (o : Out) → lacks 10 (out_text o) ≡ true
lacks-out out.Accepted = refl
lacks-out out.Refused = refl
lacks-out (out.Message body) = lacks-escaped body
lacks-out (out.Channel channel body) = lacks-append 10 (escaped channel) (32 ∷ escaped body) (lacks-escaped channel) (lacks-escaped body)
lacks-out out.Close = refl

-- the lines of a Connect
connect-within : (name : List ℕ) (reply : ConnectReply) → AllByRecursion IsWithin (connect_lines name reply)
connect-within name (connected.Number conn) = (record { ended = number-first conn.0 (escaped name) (lacks-escaped name); inner = refl }, tt)
connect-within name (connected.Exhausted next) = tt

-- the lines of a Post
post-within : (name : List ℕ) (conn : ConnNo) (reply : PostReply) → AllByRecursion IsWithin (post_lines name conn reply)
post-within name conn posted.Taken = tt
post-within name conn posted.Closed = (record { ended = number-first conn.0 (escaped name) (lacks-escaped name); inner = refl }, tt)
post-within name conn (posted.QueueFull waiting) = (record { ended = number-first conn.0 (escaped name) (lacks-escaped name); inner = refl }, tt)

-- the lines of a Claim
claim-within : (reply : ClaimReply) → AllByRecursion IsWithin (claim_lines reply)
claim-within (claimed.Granted run at j) =
    let run_at = lacks-append 10 (decimal run.0) (codes " at ") (lacks-number run.0) refl in
    let moment = lacks-append 10 (decimal run.0 ++ codes " at ") (decimal at) run_at (lacks-number at) in
    (record { ended = lacks-append 10 (decimal run.0 ++ codes " at " ++ decimal at) (32 ∷ job_text j) moment (lacks-job j); inner = refl }, tt)
claim-within claimed.Nothing = tt
claim-within (claimed.Spent granted) = tt
claim-within (claimed.Exhausted next) = tt

-- the lines of a Hand
to-within : (conn : ConnNo) (name : List ℕ) (outs : List Out) → AllByRecursion IsWithin (map (to_line conn name) outs)
to-within conn name [] = tt
to-within conn name (o ∷ outs) =
    let head = number-first conn.0 (escaped name) (lacks-escaped name) in
    (record { ended = lacks-append 10 (decimal conn.0 ++ 32 ∷ escaped name) (32 ∷ out_text o) head (lacks-out o); inner = refl }, to-within conn name outs)

-- the lines of an event are within its phase
pub event_lines-within : (known : Known) (e : Event) → AllByRecursion IsWithin (event_lines known e)
event_lines-within known (event.Connect pass name reply) = connect-within name reply
event_lines-within known (event.Post pass conn input reply) = post-within (name_at known conn) conn reply
event_lines-within known (event.Claim pass reply) = claim-within reply
event_lines-within known (event.Release pass run) = tt
event_lines-within known (event.Commit pass run seq outcome) =
    let number = lacks-append 10 (decimal seq) (codes " run ") (lacks-number seq) refl in
    let ran = lacks-append 10 (decimal seq ++ codes " run ") (decimal run.0) number (lacks-number run.0) in
    (record { ended = lacks-append 10 (decimal seq ++ codes " run " ++ decimal run.0) (32 ∷ outcome_text outcome) ran (lacks-outcome outcome); inner = refl }, tt)
event_lines-within known (event.Hand pass conn most outs end) = to-within conn (name_at known conn) outs
event_lines-within known (event.Tick pass moment) = (record { ended = lacks-number _; inner = refl }, tt)

-- what holds of each of two lists holds of each of both
pub AllByRecursion-append : {A : Type 0} (P : A → Type 0) (xs ys : List A) → AllByRecursion P xs → AllByRecursion P ys → AllByRecursion P (xs ++ ys)
AllByRecursion-append P [] ys h k = k
AllByRecursion-append P (x ∷ xs) ys h k = (h.0, AllByRecursion-append P xs ys h.1 k)

-- so are those of all its events
pub lines_of_events-within : (known : Known) (events : List Event) → AllByRecursion IsWithin (lines_of_events known events)
lines_of_events-within known [] = tt
lines_of_events-within known (e ∷ events) =
    AllByRecursion-append IsWithin (event_lines known e) (lines_of_events (knowing known e) events) (event_lines-within known e) (lines_of_events-within (knowing known e) events)
