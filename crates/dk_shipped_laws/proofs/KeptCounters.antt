-- The rules of the counters, of the timer and of the greeter keep the sessions.
use Rattle.std.proofs.Common.{ℕ, ◌+◌, ◌==◌, zero, suc, nat_lt, codes, Option, Some, None, List, [], ◌∷◌, Ok}
use Rattle.std.specs.FinMap.{get}
use Rattle.dk_types.specs.declared.number.ConnNo.{ConnNo}
use Rattle.dk_types.specs.declared.number.ObjectId.{ObjectId}
use Rattle.dk_types.specs.declared.number.TaskKey.{TaskKey}
use Rattle.dk_types.specs.declared.job.Job.TheVariants as job
use Rattle.dk_types.specs.declared.job.Out.TheVariants as out
use Rattle.dk_types.specs.declared.mode.Mode.TheVariants.{Game}
use Rattle.dk_model.specs.Runs.{TOO_LONG}
use Rattle.dk_model.specs.Records.{is_name_too_long}
use Rattle.dk_session_laws.specs.Sessions.{Keeps, KeepSessions}
use Rattle.dk_session_laws.proofs.Keeps.{keeps_then, keeps_give, keeps_refuse, keeps_if, keeps_looks, keeps_create, keeps_bound, keeps_bind, keeps_schedule, keeps_schedule_periodic, keeps_cancel, keeps_send, keeps_get_for_update_as, keeps_save_as}
use Rattle.dk_demos.specs.Counting.{COUNTER, counter_bytes, counter_of, raised}
use Rattle.dk_demos.specs.Raising.{make_under, raise_under}
use Rattle.dk_demos.specs.CountersRules.{counter_name, make, make_from, counter_of_task, plan, plan_from, raise_at, raise, counters_rules}
use Rattle.dk_demos.specs.TimerRules.{count_name, begin, tick, timer_rules}
use Rattle.dk_demos.specs.Guests.{GUEST, guest_bytes, guest_of, once_more}
use Rattle.dk_demos.specs.GreeterRules as greeter
use Rattle.dk_demos.specs.GreeterRules.{guest_name, greet, greeter_rules}

keeps_make_under : (name : List ℕ) → Keeps Game (make_under name)
unfolding make_under
keeps_make_under name = keeps_then (keeps_create COUNTER (counter_bytes (record { count = 0 }))) (λ id. keeps_bind name id)

keeps_raise_under : (name : List ℕ) → Keeps Game (raise_under name)
unfolding raise_under
keeps_raise_under name =
    keeps_then (keeps_bound name) (λ id. keeps_then (keeps_get_for_update_as COUNTER counter_of id) (λ counter. keeps_then (keeps_save_as COUNTER id (counter_bytes (raised counter))) (λ _. keeps_give (Ok (raised counter)))))

-- ---- counters

keeps_make_from : (first n : ℕ) → Keeps Game (make_from first n)
unfolding make
keeps_make_from first zero = keeps_give (Ok tt)
keeps_make_from first (suc n) = keeps_then (keeps_make_under (counter_name first)) (λ _. keeps_make_from (first + 1) n)

keeps_plan : (seed number : ℕ) → Keeps Game (plan seed number)
unfolding plan
keeps_plan seed number = keeps_then (keeps_schedule 1 (counter_of_task seed number ∷ []) 0) (λ _. keeps_give (Ok tt))

keeps_plan_from : (seed before n : ℕ) → Keeps Game (plan_from seed before n)
keeps_plan_from seed before zero = keeps_give (Ok tt)
keeps_plan_from seed before (suc n) = keeps_then (keeps_plan seed (before + 1)) (λ _. keeps_plan_from seed (before + 1) n)

keeps_raise_at : (number : ℕ) → Keeps Game (raise_at number)
unfolding raise_at
keeps_raise_at number = keeps_then (keeps_raise_under (counter_name number)) (λ _. keeps_give (Ok tt))

keeps_raise : (arg : List ℕ) → Keeps Game (raise arg)
keeps_raise [] = keeps_give (Ok tt)
keeps_raise (number ∷ bytes) = keeps_if (nat_lt number 16) (λ _. keeps_raise_at number) (λ _. keeps_give (Ok tt))

-- the rules of the counters keep the sessions
pub counters_keep : (seed tasks : ℕ) → KeepSessions (counters_rules seed tasks)
counters_keep seed tasks job.Initialize is = keeps_then (keeps_make_from 0 16) (λ _. keeps_plan_from seed 0 tasks)
counters_keep seed tasks (job.Task key due period kind arg) is = keeps_raise arg
counters_keep seed tasks (job.Login conn name) is = keeps_give (Ok tt)
counters_keep seed tasks (job.Message conn name body) is = keeps_give (Ok tt)
counters_keep seed tasks (job.Channel conn name channel body) is = keeps_give (Ok tt)
counters_keep seed tasks (job.Disconnect conn name graceful) is = keeps_give (Ok tt)

-- ---- the timer

keeps_begin : Keeps Game begin
unfolding begin
keeps_begin = keeps_then (keeps_make_under count_name) (λ _. keeps_then (keeps_schedule_periodic 1 [] 100 100) (λ _. keeps_give (Ok tt)))

keeps_tick : (key : TaskKey) → Keeps Game (tick key)
unfolding tick
keeps_tick key = keeps_then (keeps_raise_under count_name) (λ counter. keeps_if (counter.count == 3) (λ _. keeps_cancel key) (λ _. keeps_give (Ok tt)))

-- the rules of the timer keep the sessions
pub timer_keeps : KeepSessions timer_rules
timer_keeps job.Initialize is = keeps_begin
timer_keeps (job.Task key due period kind arg) is = keeps_tick key
timer_keeps (job.Login conn name) is = keeps_give (Ok tt)
timer_keeps (job.Message conn name body) is = keeps_give (Ok tt)
timer_keeps (job.Channel conn name channel body) is = keeps_give (Ok tt)
timer_keeps (job.Disconnect conn name graceful) is = keeps_give (Ok tt)

-- ---- the greeter

keeps_greet : (conn : ConnNo) (name : List ℕ) (o : Option ObjectId) → Keeps Game (greet conn name o)
unfolding greeter.welcome greeter.welcome_back
keeps_greet conn name None =
    keeps_then (keeps_create GUEST (guest_bytes (record { visits = 1 }))) (λ id. keeps_then (keeps_bind (guest_name name) id) (λ _. keeps_send conn (out.Message (codes "Welcome."))))
keeps_greet conn name (Some id) =
    keeps_then (keeps_get_for_update_as GUEST guest_of id) (λ guest. keeps_then (keeps_save_as GUEST id (guest_bytes (once_more guest))) (λ _. keeps_send conn (out.Message (codes "Welcome back."))))

keeps_login : (conn : ConnNo) (name : List ℕ) → Keeps Game (greeter.login conn name)
unfolding greeter.login greeter.known
keeps_login conn name =
    keeps_if (is_name_too_long (guest_name name)) (λ _. keeps_refuse TOO_LONG) (λ _. keeps_looks (λ s. get s.world.names (guest_name name)) (greet conn name) (λ o. keeps_greet conn name o))

-- the rules of the greeter keep the sessions
pub greeter_keeps : KeepSessions greeter_rules
greeter_keeps (job.Login conn name) is = keeps_login conn name
greeter_keeps job.Initialize is = keeps_give (Ok tt)
greeter_keeps (job.Message conn name body) is = keeps_give (Ok tt)
greeter_keeps (job.Channel conn name channel body) is = keeps_give (Ok tt)
greeter_keeps (job.Disconnect conn name graceful) is = keeps_give (Ok tt)
greeter_keeps (job.Task key due period kind arg) is = keeps_give (Ok tt)
