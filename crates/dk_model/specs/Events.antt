-- The seven events: when each may happen, what it is answered, and the world after it.
use Rattle.std.specs.Prelude.{◌≡◌, ◌≢◌, ℕ, ◌+◌, ◌-◌, ◌<◌, ◌≤◌, ◌&&◌, ◌||◌, not, Bool, true, false, Option, Some, None, List, [], ◌∷◌, ◌++◌, length, take, drop, max, min, nat_lt, nat_le, is_none}
use Rattle.std.specs.FinMap.{get, insert, remove}
use Rattle.dk_types.specs.declared.number.RunNo.{RunNo}
use Rattle.dk_types.specs.declared.number.ConnNo.{ConnNo}
use Rattle.dk_types.specs.declared.job.Job.{Job}
use Rattle.dk_types.specs.declared.job.Job.TheVariants as job
use Rattle.dk_types.specs.declared.job.Input.{Input}
use Rattle.dk_types.specs.declared.job.Out.{Out}
use Rattle.dk_types.specs.declared.event.Event.{Event}
use Rattle.dk_types.specs.declared.event.Event.TheVariants as event
use Rattle.dk_types.specs.declared.event.ConnectReply.{ConnectReply}
use Rattle.dk_types.specs.declared.event.ConnectReply.TheVariants as connected
use Rattle.dk_types.specs.declared.event.PostReply.{PostReply}
use Rattle.dk_types.specs.declared.event.PostReply.TheVariants as posted
use Rattle.dk_types.specs.declared.event.ClaimReply.{ClaimReply}
use Rattle.dk_types.specs.declared.event.ClaimReply.TheVariants as claimed
use Rattle.dk_types.specs.declared.limits.TheConstants.{NUMBERS_END, INPUTS_MOST_COUNT, MOMENT_MOST_MS}
use Rattle.dk_model.specs.declared.waiting.Waiting.{Waiting}
use Rattle.dk_model.specs.declared.waiting.Waiting.TheVariants as waits
use Rattle.dk_model.specs.Runs.{Act}
use Rattle.dk_model.specs.Steps.{Stepped, step}
use Rattle.dk_model.specs.Worlds.{World, Connection, Claim, Budget, new_connection}
use Rattle.dk_model.specs.Picks.{runnable, pick}
use Rattle.dk_model.specs.Deliveries.{conn_of, for_conn, change_connection, is_disconnect, delivered, without_done}

-- a game's meaning, as a step on the run in its midst
abbrev pub Meaning : Type 0
Meaning = Job → Act (Unit {0})

-- the world without the connections that are over and have nothing left to hand
abbrev pub swept : World → World
swept w = record w { connections = without_done w.connections }

-- a new connection, whose login waits and whose number is its turn
abbrev pub with_connection : World → List ℕ → World
with_connection w name = record w { next = w.next + 1; connections = insert w.connections (record { 0 = w.next }) (new_connection name w.next) }

-- the world after a Connect that was answered so
abbrev pub after_connect : World → List ℕ → ConnectReply → World
after_connect w name (connected.Number conn) = swept (with_connection w name)
after_connect w name (connected.Exhausted next) = w

-- what a Connect answers, and the world after it
abbrev pub Connects : World → List ℕ → ConnectReply → World → Type 0
Connects w name (connected.Exhausted next) after = (NUMBERS_END ≤ w.next) × (next ≡ w.next) × (after ≡ after_connect w name (connected.Exhausted next))
Connects w name (connected.Number conn) after = (w.next < NUMBERS_END) × (conn ≡ record { 0 = w.next }) × (after ≡ after_connect w name (connected.Number conn))

-- whether what was found is a connection that takes inputs
abbrev pub is_open_at : Option Connection → Bool
is_open_at None = false
is_open_at (Some c) = not c.closed

-- whether the connection is there and not closed
abbrev pub is_open : World → ConnNo → Bool
is_open w conn = is_open_at (get w.connections conn)

-- how many inputs wait at what was found
abbrev pub waiting_at : Option Connection → ℕ
waiting_at None = 0
waiting_at (Some c) = length c.queue

-- how many inputs wait at the connection
abbrev pub waiting : World → ConnNo → ℕ
waiting w conn = waiting_at (get w.connections conn)

-- the input is put last, and a Disconnect closes the connection
abbrev pub put_last : Waiting → Connection → Connection
put_last x c = record c { queue = c.queue ++ x ∷ []; closed = c.closed || is_disconnect x }

-- the world with one more input that waits at a connection
abbrev pub with_input : World → ConnNo → Input → World
with_input w conn input = record w { connections = change_connection conn (put_last (waits.Input input)) w.connections }

-- as many inputs wait as may wait, and a Disconnect comes on top
abbrev pub has_no_place : World → ConnNo → Input → Bool
has_no_place w conn input = nat_le INPUTS_MOST_COUNT (waiting w conn) && not (is_disconnect (waits.Input input))

-- the world after a Post that was answered so
abbrev pub after_post : World → ConnNo → Input → PostReply → World
after_post w conn input posted.Taken = swept (with_input w conn input)
after_post w conn input posted.Closed = w
after_post w conn input (posted.QueueFull waiting) = w

-- what a Post answers, and the world after it
abbrev pub Posts : World → ConnNo → Input → PostReply → World → Type 0
Posts w conn input posted.Closed after = (is_open w conn ≡ false) × (after ≡ after_post w conn input posted.Closed)
Posts w conn input (posted.QueueFull n) after = (is_open w conn ≡ true) × (has_no_place w conn input ≡ true) × (n ≡ waiting w conn) × (after ≡ after_post w conn input (posted.QueueFull n))
Posts w conn input posted.Taken after = (is_open w conn ≡ true) × (has_no_place w conn input ≡ false) × (after ≡ after_post w conn input posted.Taken)

-- whether the budget, if there is one, allows one more claim
abbrev pub has_left : Option Budget → Bool
has_left None = true
has_left (Some b) = nat_lt 0 b.left

-- how many claims were granted under the budget
abbrev pub granted_of : Option Budget → ℕ
granted_of None = 0
granted_of (Some b) = b.granted

-- the budget after one more claim
abbrev pub lowered : Option Budget → Option Budget
lowered None = None
lowered (Some b) = Some (record { granted = b.granted + 1; left = b.left - 1 })

-- the budget after a claim was given back
abbrev pub raised : Option Budget → Option Budget
raised None = None
raised (Some b) = Some (record { granted = b.granted - 1; left = b.left + 1 })

-- whether a job is a task's
abbrev pub is_task : Job → Bool
is_task (job.Task key due period kind arg) = true
is_task _ = false

-- the claim is recorded, and an input's connection gets the run as its turn
abbrev pub with_claim : World → ℕ → Job → World
with_claim w pass job = record w {
  next = w.next + 1;
  budget = lowered w.budget;
  after_task = is_task job;
  claims = insert w.claims (record { 0 = w.next }) (record { pass = pass; job = job; at = w.moment });
  connections = for_conn (conn_of job) (λ c. record c { turn = w.next }) w.connections;
}

-- the world after a Claim that was answered so
abbrev pub after_claim : World → ℕ → ClaimReply → World
after_claim w pass (claimed.Granted run at job) = swept (with_claim w pass job)
after_claim w pass claimed.Nothing = w
after_claim w pass (claimed.Spent granted) = w
after_claim w pass (claimed.Exhausted next) = w

-- where nothing is runnable; where the budget is spent; where numbers are; else the job that is picked
abbrev pub Claims : World → ℕ → ClaimReply → World → Type 0
Claims w pass claimed.Nothing after = (runnable w ≡ []) × (after ≡ after_claim w pass claimed.Nothing)
Claims w pass (claimed.Spent granted) after = (runnable w ≢ []) × (has_left w.budget ≡ false) × (granted ≡ granted_of w.budget) × (after ≡ after_claim w pass (claimed.Spent granted))
Claims w pass (claimed.Exhausted next) after = (runnable w ≢ []) × (has_left w.budget ≡ true) × (NUMBERS_END ≤ w.next) × (next ≡ w.next) × (after ≡ after_claim w pass (claimed.Exhausted next))
Claims w pass (claimed.Granted run at job) after =
    (pick w ≡ Some job) × (has_left w.budget ≡ true) × (w.next < NUMBERS_END) × (run ≡ record { 0 = w.next }) × (at ≡ w.moment) × (after ≡ after_claim w pass (claimed.Granted run at job))

-- the claim is gone, and its job can be run again where it still waits
abbrev pub without_claim : World → RunNo → World
without_claim w run = record w { claims = remove w.claims run; budget = raised w.budget }

-- the claim is gone, the world is as the run leaves it, and its messages wait
abbrev pub committed : World → RunNo → Job → Stepped → World
committed w run job s = record w {
  durable = s.world;
  claims = remove w.claims run;
  connections = delivered job s.outs w.connections;
}

-- the messages that wait at what was found
abbrev pub outbox_at : Option Connection → List Out
outbox_at None = []
outbox_at (Some c) = c.outbox

-- what waits to be handed
abbrev pub outbox : World → ConnNo → List Out
outbox w conn = outbox_at (get w.connections conn)

-- the first messages are taken off
abbrev pub with_handed : World → ConnNo → ℕ → World
with_handed w conn most = record w { connections = change_connection conn (λ c. record c { outbox = drop most c.outbox }) w.connections }

-- time does not go back
abbrev pub ticked : World → ℕ → World
ticked w moment = record w { moment = max w.moment (min moment MOMENT_MOST_MS) }

-- what a run of this claim does on the world as it stands
abbrev pub step_of : Meaning → World → RunNo → Claim → Stepped
step_of rules w run claim = step rules claim.job run claim.at w.durable

-- the worlds after the other four; a Commit does its claim's step
abbrev pub after_release : World → RunNo → World
after_release w run = swept (without_claim w run)

-- the world after a Commit, which does its claim's step
abbrev pub after_step : Meaning → World → RunNo → Claim → World
after_step rules w run claim = swept (committed w run claim.job (step_of rules w run claim))

-- the world after a Hand
abbrev pub after_hand : World → ConnNo → ℕ → World
after_hand w conn most = swept (with_handed w conn most)

-- the world after a Tick
abbrev pub after_tick : World → ℕ → World
after_tick w moment = swept (ticked w moment)

-- the event may happen in the world, and leads to the other
abbrev pub Happens : Meaning → World → Event → World → Type 0
Happens rules w (event.Connect pass name reply) after = Connects w name reply after
Happens rules w (event.Post pass conn input reply) after = Posts w conn input reply after
Happens rules w (event.Claim pass reply) after = Claims w pass reply after
Happens rules w (event.Release pass run) after = (claim : Claim) × (get w.claims run ≡ Some claim) × (pass ≡ claim.pass) × (after ≡ after_release w run)
Happens rules w (event.Commit pass run seq outcome) after =
    (claim : Claim) × (get w.claims run ≡ Some claim) × (pass ≡ claim.pass) × (seq ≡ w.durable.commits + 1)
    × (outcome ≡ (step_of rules w run claim).outcome) × (after ≡ after_step rules w run claim)
Happens rules w (event.Hand pass conn most outs end) after =
    (outs ≡ take most (outbox w conn)) × (end ≡ is_none (get after.connections conn)) × (after ≡ after_hand w conn most)
Happens rules w (event.Tick pass moment) after = after ≡ after_tick w moment
