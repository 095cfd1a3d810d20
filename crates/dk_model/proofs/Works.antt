-- The platform's part of a job: lawful round a lawful game, and steady where it changes its own task.
use Rattle.std.proofs.Common.{◌≡◌, ℕ, suc, ◌+◌, ◌-◌, ◌*◌, ◌/◌, ◌≤◌, Bool, true, false, cond, if◌then◌else◌, ◌==◌, Option, Some, None, List, [], ◌∷◌, Result, Ok, Err, refl, sym, ap, subst, ◌∙◌, arith, le_refl, inl, inr, append-nil, mul-suc, mul_comm, div-mul-le_self}
use Rattle.std.specs.FinMap as maps
use Rattle.dk_types.specs.declared.fault.AppFault.{AppFault}
use Rattle.dk_types.specs.declared.number.ObjectId.{ObjectId}
use Rattle.dk_types.specs.declared.number.TaskKey.{TaskKey}
use Rattle.dk_types.specs.declared.job.Session.{Session}
use Rattle.dk_types.specs.declared.job.Job.{Job}
use Rattle.dk_types.specs.declared.job.Job.TheVariants as job
use Rattle.dk_types.specs.declared.job.Out.TheVariants as out
use Rattle.dk_types.specs.declared.limits.TheConstants.{MOMENT_MOST_MS, PERIOD_MOST_MS}
use Rattle.dk_types.specs.declared.mode.Mode.TheVariants.{Game}
use Rattle.dk_types.specs.Names.{IsName}
use Rattle.dk_model.specs.declared.records.ChannelRecord.{ChannelRecord}
use Rattle.dk_model.specs.DurableWorlds.{Task, task_answer}
use Rattle.dk_model.specs.Validity.{IsTask}
use Rattle.dk_model.specs.Records.{session_name, channel_name, CHANNEL_KIND, channel_of}
use Rattle.dk_model.specs.Runs.{Run, Act, give, and_then, carry_on, with_task}
use Rattle.dk_model.specs.Platforms.{platform_bound, is_member}
use Rattle.dk_model.specs.Steps.{next_due, own_found, own_task, of_session, for_session, heard, channel_found, channel_message, leave_channels, end_session, lost, displace, displace_found, displace_recorded, admit, work, game_part}
use Rattle.dk_model.specs.Lawful.{GoesOn, IsFit, IsJob, IsForGame, AreLawful}
use Rattle.dk_model.proofs.Maps.{keys_total, exact_keys, get-insert_cases, get-insert_here, get-insert_other, get-remove_other, not_both, some_is}
use Rattle.dk_model.proofs.Goings.{goes_nowhere, goes_then, goes_task}
use Rattle.dk_model.proofs.Fits.{fit_tasks, fit_task, leaves_at}
use Rattle.dk_model.proofs.Acts.{Anything, HasIfOk, LawfulAt, IsLawful, lawful_then, lawful_done, lawful_needs, lawful_if, lawful_looks, lawful_within}
use Rattle.dk_model.proofs.Operations.{lawful_send}
use Rattle.dk_model.proofs.RecordFacts.{IsNamed, channel_fits}
use Rattle.dk_model.proofs.ReferenceActs.{lawful_get_as}
use Rattle.dk_model.proofs.PlatformActs.{lawful_is_connected, lawful_find_session, lawful_open_record, lawful_close_record, lawful_own_record, lawful_leave, lawful_channel_send}

same_left : {X : Type 0} (o : Option X) (x y : X) → o ≡ Some x → o ≡ Some y → y ≡ x
same_left o x y e g = some_is y x (sym g ∙ e)

anything : {A : Type 0} (r : Result A AppFault) → HasIfOk Anything r
anything (Ok x) = tt
anything (Err fault) = tt

-- a job within its limits may be given to a game
pub for_game : (j : Job) → IsJob j → IsForGame j
for_game job.Initialize is = is
for_game (job.Login conn name) is = is.1
for_game (job.Message conn name body) is = (is.0.1, is.1)
for_game (job.Channel conn name channel body) is = (is.0.1, is.1, is.2)
for_game (job.Disconnect conn name graceful) is = is.1
for_game (job.Task key due period kind arg) is = is

-- acts of a game that are lawful in each job that it may be given
abbrev pub AreLawfulActs : (Job → Act (Unit {0})) → Type 0
AreLawfulActs game = (j : Job) → IsLawful (IsForGame j) Anything (game j)

-- lawful rules, as such acts
pub game_lawful : (rules : Job → Act (Unit {0})) → AreLawful rules → AreLawfulActs rules
game_lawful rules lawful job = record {
  at = λ s. record {
    goes = lawful.goes_on job s;
    fit = λ n f. (lawful.keeps job n).fits s f;
    leaves = λ n f. (lawful.keeps job n).leaves s f;
    has = λ n f. anything ((rules job s).0);
  };
}

-- the same in the game's mode
pub parts_lawful : (rules : Job → Act (Unit {0})) → AreLawful rules → AreLawfulActs (game_part rules)
parts_lawful rules lawful j = lawful_within Game (game_lawful rules lawful j)

module _ {Needs : Type 0} where
  lawful_leave_channels : (session : Session) (channels : List (List ℕ)) → IsLawful Needs Anything (leave_channels session channels)
  lawful_leave_channels session [] = lawful_done tt
  lawful_leave_channels session (c ∷ channels) = lawful_then (lawful_leave c session) (λ _. lawful_needs (λ n. n.0) (lawful_leave_channels session channels))

  lawful_end_session : (session : Session) (game : Act (Unit {0})) → IsLawful Needs Anything game → IsLawful Needs Anything (end_session session game)
  lawful_end_session session game p =
      lawful_then p (λ _. lawful_then (lawful_own_record session) (λ r. lawful_then (lawful_needs (λ n. n.0.0) (lawful_leave_channels session r.1.channels)) (λ _. lawful_close_record session)))

  pub lawful_admit : (session : Session) (game : Act (Unit {0})) → (Needs → IsNamed session) → IsLawful Needs Anything game → IsLawful Needs Anything (admit session game)
  lawful_admit session game named p =
      lawful_then (lawful_open_record session named) (λ _. lawful_then (lawful_send session.conn out.Accepted) (λ _. lawful_needs (λ n. n.0.0) p))

  lawful_for_session : (session : Session) (act : Act (Unit {0})) → IsLawful Needs Anything act → IsLawful Needs Anything (for_session session act)
  lawful_for_session session act p = lawful_then (lawful_is_connected session) (λ connected. lawful_if connected (lawful_needs (λ n. n.0.0) p) (lawful_done tt))

  lawful_heard : (session : Session) (channel body : List ℕ) (game : Act (Unit {0})) (r : ChannelRecord) → IsLawful Needs Anything game → IsLawful Needs Anything (heard session channel body game r)
  lawful_heard session channel body game r p =
      lawful_if (is_member session r.members) (lawful_if r.listener (lawful_needs (λ n. n.0.0) p) (lawful_channel_send channel None body)) (lawful_done tt)

  lawful_channel_found : (o : Option ObjectId) (session : Session) (channel body : List ℕ) (game : Act (Unit {0})) → IsLawful Needs Anything game → IsLawful (Needs × Unit {0}) Anything (channel_found o session channel body game)
  lawful_channel_found None session channel body game p = lawful_done tt
  lawful_channel_found (Some id) session channel body game p =
      lawful_then (lawful_get_as CHANNEL_KIND channel_of id channel_fits) (λ r. lawful_needs (λ n. n.0.0) (lawful_heard session channel body game r p))

  lawful_channel_message : (session : Session) (channel body : List ℕ) (game : Act (Unit {0})) → IsLawful Needs Anything game → IsLawful Needs Anything (channel_message session channel body game)
  lawful_channel_message session channel body game p =
      lawful_looks (λ s. platform_bound s (channel_name channel)) (λ o. channel_found o session channel body game) (λ _. Unit {0}) (λ _ _. tt) (λ o. lawful_channel_found o session channel body game p)

lawful_displace : {Needs : Type 0} (old : Session) (game : Job → Act (Unit {0})) → (Needs → IsName old.name) → AreLawfulActs game → IsLawful Needs Anything (displace old game)
lawful_displace old game named p = lawful_then (lawful_end_session old (game (lost old)) (lawful_needs named (p (lost old)))) (λ _. lawful_send old.conn out.Close)

lawful_displace_found : {Needs : Type 0} (o : Option ObjectId) (name : List ℕ) (game : Job → Act (Unit {0})) → (Needs → IsName name) → AreLawfulActs game → IsLawful Needs Anything (displace_found o name game)
lawful_displace_found None name game named p = lawful_done tt
lawful_displace_found (Some id) name game named p = lawful_then (lawful_find_session name) (λ old. lawful_displace old game (λ n. subst IsName (sym n.1) (named n.0)) p)

-- the end of the session that a login displaces
pub lawful_displaced : {Needs : Type 0} (name : List ℕ) (game : Job → Act (Unit {0})) → (Needs → IsName name) → AreLawfulActs game → IsLawful Needs Anything (displace_recorded name game)
lawful_displaced name game named p =
    lawful_looks (λ s. platform_bound s (session_name name)) (λ o. displace_found o name game) (λ _. Unit {0}) (λ _ _. tt) (λ o. lawful_displace_found o name game (λ n. named n.0) p)

-- each task that stands before and after is as it was, but for the run's own
abbrev pub LeavesOthers : (TaskKey → Type 0) → Run → Run → Type 0
LeavesOthers Own a b = (key : TaskKey) (before after : Task) → (Own key → ⊥) → maps.get a.world.tasks key ≡ Some before → maps.get b.world.tasks key ≡ Some after → after ≡ before

-- What an act did with this run, where it may have changed the run's own task. It went on. Where the needs are met and the run was fit, it is fit still, and no other task that stands was changed.
pub record SteadyAt {A : Type 0} (Needs : Type 0) (Own : TaskKey → Type 0) (s : Run) (p : Result A AppFault × Run) : Type 0 where
  pub goes : GoesOn s p.1
  pub fit : Needs → IsFit s → IsFit p.1
  pub leaves : Needs → IsFit s → LeavesOthers Own s p.1

steady : {A Needs : Type 0} {Own : TaskKey → Type 0} {Has : A → Type 0} {s : Run} {p : Result A AppFault × Run} → LawfulAt Needs Has s p → SteadyAt Needs Own s p
steady p = record { goes = p.goes; fit = p.fit; leaves = λ n f key x y other e g. p.leaves n f key x y e g }

steady_then : {A B Needs : Type 0} {Own : TaskKey → Type 0} {Has : B → Type 0} (s : Run) (r : Result A AppFault) (t : Run) (g : A → Act B) → SteadyAt Needs Own s (r, t) → ((x : A) → IsLawful Needs Has (g x)) → SteadyAt Needs Own s (carry_on r g t)
steady_then s (Ok x) t g p h =
    let q = (h x).at t in record {
      goes = goes_then p.goes q.goes;
      fit = λ n f. q.fit n (p.fit n f);
      leaves = λ n f key b c other. leaves_at s t ((g x t).1) f p.goes q.goes key (λ v w e i. p.leaves n f key v w other e i) (q.leaves n (p.fit n f) key) b c;
    }
steady_then s (Err fault) t g p h = record { goes = p.goes; fit = p.fit; leaves = p.leaves }

-- the key of the task that the job is an occurrence of
abbrev pub IsOwnKey : Job → TaskKey → Type 0
IsOwnKey (job.Task key due period kind arg) q = key ≡ q
IsOwnKey job.Initialize q = ⊥
IsOwnKey (job.Login conn name) q = ⊥
IsOwnKey (job.Message conn name body) q = ⊥
IsOwnKey (job.Channel conn name channel body) q = ⊥
IsOwnKey (job.Disconnect conn name graceful) q = ⊥

-- a task's own occurrence is due by this moment
abbrev pub IsDueBy : Job → ℕ → Type 0
IsDueBy (job.Task key due period kind arg) at = due ≤ at
IsDueBy job.Initialize at = Unit {0}
IsDueBy (job.Login conn name) at = Unit {0}
IsDueBy (job.Message conn name body) at = Unit {0}
IsDueBy (job.Channel conn name channel body) at = Unit {0}
IsDueBy (job.Disconnect conn name graceful) at = Unit {0}

one_more : (n : ℕ) → n + 1 ≡ suc n
one_more n = omega arith

next_due_most : (due period at most : ℕ) → due ≤ at → at ≤ most → next_due due period at ≤ most + period
next_due_most due period at most h k =
    let q = (at - due) / period in
    let times : period * (q + 1) ≡ period * q + period = ap (λ n. period * n) (one_more q) ∙ mul-suc period q in
    let small : q * period ≤ at - due = div-mul-le_self (at - due) period in
    let turned : period * q ≡ q * period = mul_comm period q in
    omega (arith, times, small, turned, h, k)

none_kept : (s : Run) (key : TaskKey) (new : Task) (q : TaskKey) → maps.get (maps.insert s.world.tasks key new) q ≡ None → None ≡ maps.get s.world.tasks q
none_kept s key new q f =
    sym (sym (get-insert_other keys_total exact_keys s.world.tasks key new q (λ same. not_both _ new (ap (maps.get (maps.insert s.world.tasks key new)) (sym same) ∙ get-insert_here keys_total s.world.tasks key new) f)) ∙ f)

answer_kept : (s : Run) (key : TaskKey) (task new : Task) → maps.get s.world.tasks key ≡ Some task → (q : TaskKey) → task_answer (maps.get (maps.insert s.world.tasks key new) q) ≡ task_answer (maps.get s.world.tasks q)
answer_kept s key task new e q =
    elim (maps.get (maps.insert s.world.tasks key new) q) as (λ o. maps.get (maps.insert s.world.tasks key new) q ≡ o → task_answer o ≡ task_answer (maps.get s.world.tasks q)) [
      | None ↦ λ f. ap task_answer (none_kept s key new q f)
      | Some x ↦ λ f. elim (get-insert_cases keys_total exact_keys s.world.tasks key new q x f) [
        | inl p ↦ ap task_answer (sym e) ∙ ap (λ k. task_answer (maps.get s.world.tasks k)) (sym p.0)
        | inr there ↦ ap task_answer (sym there)
      ]
    ] refl

own_at : {Needs : Type 0} (key : TaskKey) (due period : ℕ) (s : Run) (o : Option Task) → maps.get s.world.tasks key ≡ o → (Needs → (period ≤ PERIOD_MOST_MS) × (due ≤ s.at)) → SteadyAt Needs (λ q. key ≡ q) s (own_found o key due period s)
own_at key due period s None e why = record { goes = goes_nowhere s; fit = λ n f. f; leaves = λ n f q x y other e g. same_left _ x y e g }
own_at {Needs = Needs} key due period s (Some task) e why =
    elim (period == 0) as (λ b. SteadyAt Needs (λ q. key ≡ q) s (cond {A = Result Bool AppFault × Run} b (Ok true, with_task s key None) (Ok true, record s { world = record (s.world) { tasks = maps.insert s.world.tasks key (record task { due = next_due due period s.at }) } }))) [
      | true ↦ record {
        goes = goes_task s key None s.tasks_made (le_refl _) (λ _ _ is. absurd cc);
        fit = λ n f. fit_task s f key None s.tasks_made (le_refl _) f.few_tasks (λ _ is. absurd cc);
        leaves = λ n f q x y other e g. same_left _ x y e (sym (get-remove_other keys_total exact_keys s.world.tasks key q other) ∙ g);
      }
      | false ↦
          let new : Task = record task { due = next_due due period s.at } in record {
            goes = record {
              commits = refl;
              last = refl;
              number = refl;
              at = refl;
              written = [];
              listed = sym (append-nil s.touched);
              objects = λ id h. refl;
              names = λ name h. refl;
              tasks = λ q h. answer_kept s key task new e q;
              more_objects = le_refl _;
              more_tasks = le_refl _;
              new_objects = λ id object g h. not_both _ object h g;
              sent = [];
              behind = sym (append-nil s.outs);
              new_tasks = λ q x g h. elim (get-insert_cases keys_total exact_keys s.world.tasks key new q x h) [
                | inl p ↦ not_both _ task e (ap (maps.get s.world.tasks) (sym p.0) ∙ g)
                | inr there ↦ not_both _ x there g
              ];
            };
            fit = λ n f.
                let w = why n in
                let at = f.at in
                let there = f.world.tasks key task e in
                let late : next_due due period s.at ≤ MOMENT_MOST_MS + period = next_due_most due period s.at MOMENT_MOST_MS w.1 at in
                fit_tasks s f key (Some new) s.tasks_made (le_refl _) f.few_tasks (λ x is. record {
                  numbered = there.0;
                  committed = there.1;
                  fits = subst IsTask (some_is new x is) (record { due = omega (arith, late, w.0); period = there.2.period; kind = there.2.kind; arg = there.2.arg });
                  below = λ own. f.tasks key task e own;
                });
            leaves = λ n f q x y other e g. same_left _ x y e (sym (get-insert_other keys_total exact_keys s.world.tasks key new q other) ∙ g);
          }
    ]

-- what is done to the run's own task
pub own_steady : {Needs : Type 0} (key : TaskKey) (due period : ℕ) (s : Run) → (Needs → (period ≤ PERIOD_MOST_MS) × (due ≤ s.at)) → SteadyAt Needs (λ q. key ≡ q) s (own_task key due period s)
unfolding own_task
own_steady key due period s why = own_at key due period s (maps.get s.world.tasks key) refl why

task_steady : {Needs : Type 0} (key : TaskKey) (due period : ℕ) (game : Act (Unit {0})) (s : Run) → (Needs → (period ≤ PERIOD_MOST_MS) × (due ≤ s.at)) → IsLawful Needs Anything game
    → SteadyAt Needs (λ q. key ≡ q) s (and_then (own_task key due period) (λ pending. if pending then game else give (Ok tt)) s)
unfolding and_then
task_steady key due period game s why p =
    steady_then s ((own_task key due period s).0) ((own_task key due period s).1) (λ pending. if pending then game else give (Ok tt)) (own_steady key due period s why)
    (λ pending. lawful_if pending (lawful_needs (λ n. n.0) p) (lawful_done tt))

-- the platform's part of a job round a game that is lawful
pub work_steady : {Needs : Type 0} (game : Job → Act (Unit {0})) (j : Job) (s : Run) → (Needs → IsJob j × IsDueBy j s.at) → AreLawfulActs game → SteadyAt Needs (IsOwnKey j) s (work game j s)
work_steady game job.Initialize s why p = steady ((lawful_needs (λ n. (why n).0) (p job.Initialize)).at s)
work_steady {Needs = Needs} game (job.Login conn name) s why p =
    let mine : IsLawful Needs Anything (game (job.Login conn name)) = lawful_needs (λ n. (why n).0.1) (p (job.Login conn name)) in
    steady ((lawful_then (lawful_displaced name game (λ n. (why n).0.1) p) (λ _. lawful_needs (λ n. n.0) (lawful_admit (of_session conn name) (game (job.Login conn name)) (λ n. (why n).0.1) mine))).at s)
work_steady game (job.Message conn name body) s why p =
    let j = job.Message conn name body in
    steady ((lawful_for_session (of_session conn name) (game j) (lawful_needs (λ n. for_game j (why n).0) (p j))).at s)
work_steady game (job.Channel conn name channel body) s why p =
    let j = job.Channel conn name channel body in
    let session = of_session conn name in
    steady ((lawful_for_session session (channel_message session channel body (game j)) (lawful_channel_message session channel body (game j) (lawful_needs (λ n. for_game j (why n).0) (p j)))).at s)
work_steady game (job.Disconnect conn name graceful) s why p =
    let j = job.Disconnect conn name graceful in
    let session = of_session conn name in
    steady ((lawful_for_session session (end_session session (game j)) (lawful_end_session session (game j) (lawful_needs (λ n. for_game j (why n).0) (p j)))).at s)
work_steady game (job.Task key due period kind arg) s why p =
    let j = job.Task key due period kind arg in
    task_steady key due period (game j) s (λ n. ((why n).0.1.period, (why n).1)) (lawful_needs (λ n. (why n).0) (p j))
