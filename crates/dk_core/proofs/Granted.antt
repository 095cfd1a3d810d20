-- A claim, granted or not, and one that is given back, lead to the world that the definitions say.
use Rattle.std.proofs.Common.{◌≡◌, ℕ, ◌<◌, ◌≤◌, Bool, true, false, ◌||◌, ◌&&◌, not, List, [], ◌∷◌, Option, Some, None, refl, sym, ap, subst, ◌∙◌, arith}
use Rattle.std.specs.FinMap.{FinMap, get}
use Rattle.dk_types.specs.declared.number.RunNo.{RunNo}
use Rattle.dk_types.specs.declared.number.ConnNo.{ConnNo}
use Rattle.dk_types.specs.declared.number.TaskKey.{TaskKey}
use Rattle.dk_types.specs.declared.job.Job.{Job}
use Rattle.dk_types.specs.declared.job.Job.TheVariants as job
use Rattle.dk_types.specs.declared.job.Input.TheVariants as input
use Rattle.dk_types.specs.declared.event.Event.{Event}
use Rattle.dk_types.specs.declared.event.Event.TheVariants as event
use Rattle.dk_types.specs.declared.event.ClaimReply.TheVariants as reply
use Rattle.dk_types.specs.declared.limits.TheConstants.{NUMBERS_END}
use Rattle.dk_model.specs.declared.waiting.Waiting.{Waiting}
use Rattle.dk_model.specs.declared.waiting.Waiting.TheVariants as waits
use Rattle.dk_types.specs.Keys.{key_cmp}
use Rattle.dk_model.specs.DurableWorlds.{DurableWorld}
use Rattle.dk_model.specs.Worlds.{Claim}
use Rattle.dk_model.specs.Deliveries.{conn_of, for_conn, without_done}
use Rattle.dk_model.specs.Events.{Meaning, has_left, granted_of}
use Rattle.dk_model.specs.Events as events
use Rattle.dk_model.specs.Lawful.{AreLawful}
use Rattle.dk_model.specs.Picks.{is_task_of, is_of, mapped, task_job, first_job}
use Rattle.dk_model.specs.Picks as picks
use Rattle.dk_model.proofs.Maps.{runs_total, exact_keys, get-insert_here, some_is}
use Rattle.dk_model.proofs.Works.{IsOwnKey}
use Rattle.dk_laws.proofs.Numbers.{connected_below}
use Rattle.dk_tasks.specs.Tasks.{Kept}
use Rattle.dk_connections.specs.MarkedConnections.{MarkedConnection, all_of, IsSwept, KeepsMarksBut, change_some, with_turn}
use Rattle.dk_connections.specs.Ready.{first_at, IsReadyAt}
use Rattle.dk_connections.proofs.Found.{tied}
use Rattle.dk_connections.proofs.Kept.{found_in}
use Rattle.dk_core.specs.declared.choice.Choice.{Choice}
use Rattle.dk_core.specs.declared.choice.Choice.TheVariants as choose
use Rattle.dk_core.specs.declared.world.Core.{Core}
use Rattle.dk_core.specs.declared.claimed.Claimed.{Claimed}
use Rattle.dk_core.specs.Claiming.{Claiming, with_grant, without_grant}
use Rattle.dk_core.specs.Numbers.{HasNumbers}
use Rattle.dk_core.specs.Cores.{world_of, IsTracked, Represents, Adds, IsGranted}
use Rattle.dk_core.specs.Picking.{job_of, AreMarks, IsThere, IsPick}
use Rattle.dk_core.specs.Marking.{is_task, conn_in, tasks_marked, tasks_freed, IsMarked, IsFreed}
use Rattle.dk_core.proofs.Choosing.{job_there}
use Rattle.dk_laws.proofs.Runnable.{nothing_runnable, picked_runnable}
use Rattle.dk_core.proofs.Standing.{sound_of, below_of, entered_still}
use Rattle.dk_core.proofs.Tracked.{InputClaimed, TaskClaimed, TaskFreed, TaskAlone, IsFree, tracked_claim, tracked_less}
use Rattle.dk_core.proofs.Marked.{conn_there, input_marked, input_freed, task_marked, task_freed}

-- nothing is granted
pub claims_none : (old : Core) (pass : ℕ) → IsPick old None → Adds old old (event.Claim pass reply.Nothing ∷ [])
claims_none old pass none rules d budget events lawful s =
    entered_still rules lawful d budget events old s old (event.Claim pass reply.Nothing) tt (nothing_runnable (world_of old) (none s.tracked), refl) s.tracked refl refl (λ _. refl)

module _ (old : Core) (pass : ℕ) (x : Choice) (is : IsPick old (Some x)) (there : IsThere old x) where
  runs : AreMarks old → picks.runnable (world_of old) ≡ [] → ⊥
  runs marks = let j = job_there old x there in picked_runnable (world_of old) j.job (is marks ∙ j.is)

  pub claims_spent : (granted : ℕ) → has_left old.claims.budget ≡ false → granted ≡ granted_of old.claims.budget → Adds old old (event.Claim pass (reply.Spent granted) ∷ [])
  claims_spent granted spent all rules d budget events lawful s =
      entered_still rules lawful d budget events old s old (event.Claim pass (reply.Spent granted)) tt (runs s.tracked, spent, all, refl) s.tracked refl refl (λ _. refl)

  pub claims_exhausted : (next : ℕ) → has_left old.claims.budget ≡ true → NUMBERS_END ≤ old.claims.next → next ≡ old.claims.next → Adds old old (event.Claim pass (reply.Exhausted next) ∷ [])
  claims_exhausted next left end at rules d budget events lawful s =
      entered_still rules lawful d budget events old s old (event.Claim pass (reply.Exhausted next)) tt (runs s.tracked, left, end, at, refl) s.tracked refl refl (λ _. refl)

-- what a job tells of the choice that it is
pub record IsJobOf (x : Choice) (j : Job) : Type 0 where
  pub conn : conn_of j ≡ conn_in x
  pub task : events.is_task j ≡ is_task x
  pub first : x ≡ choose.First → j ≡ job.Initialize

abbrev NoTask : Job → Type 0
NoTask j = (key : TaskKey) → is_task_of key j ≡ false

waiting_job : (conn : ConnNo) (name : List ℕ) (w : Waiting) → IsJobOf (choose.Input conn) (picks.job_of conn name w) × NoTask (picks.job_of conn name w)
waiting_job conn name waits.Login = (record { conn = refl; task = refl; first = λ e. absurd cc }, λ key. refl)
waiting_job conn name (waits.Input (input.Message body)) = (record { conn = refl; task = refl; first = λ e. absurd cc }, λ key. refl)
waiting_job conn name (waits.Input (input.Channel channel body)) = (record { conn = refl; task = refl; first = λ e. absurd cc }, λ key. refl)
waiting_job conn name (waits.Input (input.Disconnect graceful)) = (record { conn = refl; task = refl; first = λ e. absurd cc }, λ key. refl)

queue_job : (conn : ConnNo) (name : List ℕ) (queue : List Waiting) (j : Job) → first_job conn name queue ≡ Some j → IsJobOf (choose.Input conn) j × NoTask j
queue_job conn name [] j e = absurd cc
queue_job conn name (w ∷ queue) j e = subst (λ k. IsJobOf (choose.Input conn) k × NoTask k) (some_is (picks.job_of conn name w) j e) (waiting_job conn name w)

input_job : (conn : ConnNo) (o : Option MarkedConnection) (j : Job) → first_at conn o ≡ Some j → IsJobOf (choose.Input conn) j × NoTask j
input_job conn None j e = absurd cc
input_job conn (Some l) j e = queue_job conn l.connection.name l.connection.queue j e

task_job_of : (key : TaskKey) (o : Option Kept) (j : Job) → mapped (λ (t : Kept). task_job (key, t.task)) o ≡ Some j → IsJobOf (choose.Task key) j × ((tasks : FinMap key_cmp Kept) → TaskClaimed j tasks (tasks_marked (choose.Task key) tasks))
task_job_of key None j e = absurd cc
task_job_of key (Some t) j e =
    subst (λ k. IsJobOf (choose.Task key) k × ((tasks : FinMap key_cmp Kept) → TaskClaimed k tasks (tasks_marked (choose.Task key) tasks))) (some_is (task_job (key, t.task)) j e)
    (record { conn = refl; task = refl; first = λ e. absurd cc }, λ tasks. task_marked key t.task.due t.task.period t.task.kind t.task.arg tasks)

pub chosen_job : (c : Core) (x : Choice) (j : Job) → job_of c (Some x) ≡ Some j → IsJobOf x j × TaskClaimed j c.world.tasks (tasks_marked x c.world.tasks)
chosen_job c choose.First j e =
    subst (λ k. IsJobOf choose.First k × TaskClaimed k c.world.tasks c.world.tasks) (some_is job.Initialize j e) (record { conn = refl; task = refl; first = λ _. refl }, λ key t f. (t, f, refl))
chosen_job c (choose.Task key) j e = let k = task_job_of key (get c.world.tasks key) j e in (k.0, k.1 c.world.tasks)
chosen_job c (choose.Input conn) j e = let k = input_job conn (get c.connections.connections conn) j e in (k.0, λ key t f. (t, f, ap (λ b. b || t.claimed) (sym (k.1 key))))

some_conn : (x : Choice) (conn : ConnNo) → conn_in x ≡ Some conn → x ≡ choose.Input conn
some_conn choose.First conn e = absurd cc
some_conn (choose.Task key) conn e = absurd cc
some_conn (choose.Input k) conn e = ap choose.Input (some_is k conn e)

module _ (rules : Meaning) (lawful : AreLawful rules) (d : DurableWorld) (budget : Option ℕ) (events : List Event) (old : Core) (s : Represents rules d budget events old) where
  free_at : (conn : ConnNo) (o : Option MarkedConnection) → get old.connections.connections conn ≡ o → IsReadyAt o → IsFree (world_of old) conn
  free_at conn None e r = absurd r
  free_at conn (Some l) e r = record {
    none = s.tracked.inputs conn l e ∙ r.0;
    made = connected_below (world_of old) conn l.connection (below_of rules lawful d budget events old s) (found_in old.connections.connections conn (Some l) (sym e));
  }

  -- the input that is chosen is free
  pub free_of : (x : Choice) (j : Job) → IsThere old x → IsJobOf x j → (conn : ConnNo) → is_of conn j ≡ true → IsFree (world_of old) conn
  free_of x j there is conn own =
      let at = some_conn x conn (sym is.conn ∙ conn_there conn j own) in
      free_at conn (get old.connections.connections conn) refl (subst (IsThere old) at there)

-- the core with other claims
abbrev pub with_claims : (c : Core) (claims : Claiming) → HasNumbers c.world.commits claims c.connections.connections → Core
with_claims c claims numbers = record c { claims = claims; numbers = numbers }

pub claims_granted : (old new : Core) (pass : ℕ) (x : Choice) (j : Job) (claims : Claiming) (numbers : HasNumbers old.world.commits claims old.connections.connections) → IsPick old (Some x) → IsThere old x → (old.world.commits ≡ 0 → x ≡ choose.First)
    → job_of old (Some x) ≡ Some j → has_left old.claims.budget ≡ true → old.claims.next < NUMBERS_END → claims ≡ with_grant (record { pass = pass; job = j; at = old.moment }) old.claims
    → IsMarked x old.claims.next (with_claims old claims numbers) new → Adds old new (event.Claim pass (reply.Granted (record { 0 = old.claims.next }) old.moment j) ∷ [])
claims_granted old new pass x j claims numbers is there first what left few granted m rules d budget events lawful s =
    let k = chosen_job old x j what in
    let w = world_of old in
    let all = old.connections.connections in
    let claimed : new.claims ≡ with_grant (record { pass = pass; job = j; at = old.moment }) old.claims = m.same.claims ∙ granted in
    let linked : new.connections.connections ≡ change_some (conn_of j) (with_turn old.claims.next) all = m.linked ∙ ap (λ o. change_some o (with_turn old.claims.next) all) (sym k.0.conn) in
    let swept : IsSwept new.connections.connections = m.swept s.tracked.swept in
    let connected = sym swept ∙ ap without_done (m.connections ∙ ap (λ o. for_conn o (λ c. record c { turn = old.claims.next }) (all_of all)) (sym k.0.conn)) in
    let tracked = tracked_claim w pass j all new.connections.connections old.world.tasks new.world.tasks s.tracked
    ((below_of rules lawful d budget events old s).claims (record { 0 = old.claims.next }) (omega arith)) (λ zero. k.0.first (first zero)) (free_of rules lawful d budget events old s x j there k.0)
    (subst (λ n. InputClaimed j all n) (sym linked) (input_marked j old.claims.next all)) swept (subst (λ n. TaskClaimed j old.world.tasks n) (sym m.tasks) k.1)
    new.claims.budget new.after_task (all_of new.connections.connections) in
    entered_still rules lawful d budget events old s new (event.Claim pass (reply.Granted (record { 0 = old.claims.next }) old.moment j)) tt (
      is s.tracked ∙ what,
      left,
      few,
      refl,
      refl,
      λ i. record {
        durable = m.same.durable i;
        moment = m.same.moment i;
        next = (claimed i).next;
        budget = (claimed i).budget;
        after_task = (m.after_task ∙ sym k.0.task) i;
        claims = (claimed i).claims;
        connections = connected i;
      },
    )
    (subst (λ v. IsTracked v new.connections.connections new.world.tasks)
    (λ i. record { durable = sym m.same.durable i; moment = sym m.same.moment i; next = (sym claimed i).next; budget = new.claims.budget; after_task = new.after_task; claims = (sym claimed i).claims; connections = all_of new.connections.connections })
    tracked)
    refl m.same.durable m.same.seen

-- what is granted is claimed
pub granted_there : (old : Core) (claims : Claiming) (claim : Claim) → claims ≡ with_grant claim old.claims → get claims.claims (record { 0 = old.claims.next }) ≡ Some claim
granted_there old claims claim granted = ap (λ (c : Claiming). get c.claims (record { 0 = old.claims.next })) granted ∙ get-insert_here runs_total old.claims.claims (record { 0 = old.claims.next }) claim

-- the test passes at a job's own key
pub own_key : (key : TaskKey) (j : Job) → is_task_of key j ≡ true → IsOwnKey j key
own_key key (job.Task k due period kind arg) e = exact_keys k key (tied _ e)
own_key key job.Initialize e = absurd cc
own_key key (job.Login conn name) e = absurd cc
own_key key (job.Message conn name body) e = absurd cc
own_key key (job.Channel conn name channel body) e = absurd cc
own_key key (job.Disconnect conn name graceful) e = absurd cc

-- of a task there is one run
pub task_alone : (rules : Meaning) (lawful : AreLawful rules) (d : DurableWorld) (budget : Option ℕ) (events : List Event) (old : Core) (s : Represents rules d budget events old) (run : RunNo) (claim : Claim)
    → get old.claims.claims run ≡ Some claim → TaskAlone (world_of old) run claim
task_alone rules lawful d budget events old s run claim held key own other c e its =
    ((sound_of rules lawful d budget events old s).claims run claim held).alone key other c (own_key key claim.job own) e (own_key key c.job its)

not_false : (b : Bool) → b ≡ (b && not false)
not_false true = refl
not_false false = refl

pub freed_tasks : (j : Job) (tasks : FinMap key_cmp Kept) → TaskFreed j tasks (tasks_freed j tasks)
freed_tasks (job.Task key due period kind arg) tasks = task_freed key due period kind arg tasks
freed_tasks job.Initialize tasks = λ key t e. (t, e, not_false t.claimed)
freed_tasks (job.Login conn name) tasks = λ key t e. (t, e, not_false t.claimed)
freed_tasks (job.Message conn name body) tasks = λ key t e. (t, e, not_false t.claimed)
freed_tasks (job.Channel conn name channel body) tasks = λ key t e. (t, e, not_false t.claimed)
freed_tasks (job.Disconnect conn name graceful) tasks = λ key t e. (t, e, not_false t.claimed)

pub releases : (old new : Core) (claimed : Claimed) (claims : Claiming) (numbers : HasNumbers old.world.commits claims old.connections.connections) → IsGranted old claimed → claims ≡ without_grant claimed.run old.claims → IsFreed claimed.job (with_claims old claims numbers) new
    → Adds old new (event.Release claimed.pass claimed.run ∷ [])
releases old new claimed claims numbers held gone f rules d budget events lawful s =
    let w = world_of old in
    let all = old.connections.connections in
    let claim : Claim = record { pass = claimed.pass; job = claimed.job; at = claimed.at } in
    let less : new.claims ≡ without_grant claimed.run old.claims = f.same.claims ∙ gone in
    let swept : IsSwept new.connections.connections = subst (λ n. without_done n ≡ n) (sym f.connections) s.tracked.swept in
    let connected = sym swept ∙ ap without_done f.connections in
    let tracked = tracked_less w claimed.run claim all new.connections.connections old.world.tasks new.world.tasks s.tracked held (task_alone rules lawful d budget events old s claimed.run claim held)
    (subst (λ n. KeepsMarksBut claimed.job all n) (sym f.linked) (input_freed claimed.job all)) swept
    (λ key t e. let k = freed_tasks claimed.job old.world.tasks key t (sym (ap (λ m. get m key) f.tasks) ∙ e) in k.2 ∙ ap (λ b. b && not (is_task_of key claimed.job)) (sym (s.tracked.tasks key k.0 k.1)))
    w.durable (λ zero. zero) new.claims.budget (all_of new.connections.connections) in
    entered_still rules lawful d budget events old s new (event.Release claimed.pass claimed.run) tt (
      claim,
      held,
      refl,
      λ i. record {
        durable = f.same.durable i;
        moment = f.same.moment i;
        next = (less i).next;
        budget = (less i).budget;
        after_task = f.after_task i;
        claims = (less i).claims;
        connections = connected i;
      },
    )
    (subst (λ v. IsTracked v new.connections.connections new.world.tasks)
    (λ i. record { durable = sym f.same.durable i; moment = sym f.same.moment i; next = (sym less i).next; budget = new.claims.budget; after_task = sym f.after_task i; claims = (sym less i).claims; connections = all_of new.connections.connections })
    tracked)
    refl f.same.durable f.same.seen
