-- A claim of a job that can be run leaves the world sound, and so does one that goes.
use Rattle.std.proofs.Common.{◌≡◌, ℕ, ◌+◌, ◌<◌, Bool, true, false, cond, ◌||◌, map, Some, List, [], ◌∷◌, refl, sym, ap, subst, ◌∙◌, arith, inl, inr, is_eq}
use Rattle.std.specs.Cmp.{tied_itself}
use Rattle.std.specs.List.{AllByRecursion, list_any}
use Rattle.std.specs.Ordering.{eq_by_cmp}
use Rattle.std.specs.FinMap.{get, insert, remove, find, entries, get-entries}
use Rattle.dk_types.specs.declared.number.RunNo.{RunNo}
use Rattle.dk_types.specs.declared.number.ConnNo.{ConnNo}
use Rattle.dk_types.specs.declared.number.TaskKey.{TaskKey}
use Rattle.dk_types.specs.declared.job.Job.{Job}
use Rattle.dk_types.specs.declared.job.Job.TheVariants as job
use Rattle.dk_types.specs.declared.job.Input.TheVariants as input
use Rattle.dk_types.specs.declared.limits.TheConstants.{NUMBERS_END}
use Rattle.dk_model.specs.declared.waiting.Waiting.{Waiting}
use Rattle.dk_model.specs.declared.waiting.Waiting.TheVariants as waits
use Rattle.dk_model.specs.Keys.{run_cmp, key_cmp}
use Rattle.dk_model.specs.Validity.{next_of}
use Rattle.dk_model.specs.Worlds.{World, Connection, Claim}
use Rattle.dk_model.specs.Deliveries.{conn_of}
use Rattle.dk_model.specs.Picks.{is_claimed, is_task_of, job_of, pick}
use Rattle.dk_model.specs.Events.{with_claim, without_claim}
use Rattle.dk_model.specs.Finishes.{HasOwnTask}
use Rattle.dk_model.specs.Lawful.{IsJob}
use Rattle.dk_model.proofs.Maps.{runs_total, exact_runs, keys_total, get-insert_cases, get-remove_cases, some_is}
use Rattle.dk_model.proofs.Works.{IsDueBy, IsOwnKey}
use Rattle.dk_laws.proofs.OpenClaims.{TheClaims, open_inserted, open_left}
use Rattle.dk_laws.proofs.Picked.{HoldsOfTasks, HoldsOfInputs, picked}
use Rattle.dk_laws.proofs.Sound.{IsSpent, IsWaiting, IsSoundConnection, IsSoundClaim, IsSound}
use Rattle.dk_laws.proofs.SoundConnections.{for_conn_sound, same_sound}

-- a job that may be claimed
pub record IsClaimable (w : World) (j : Job) : Type 0 where
  pub job : IsJob j
  pub due : IsDueBy j w.moment
  pub own : HasOwnTask w.durable j
  pub spent : (key : TaskKey) → IsOwnKey j key → IsSpent w.claims w.next key.run.0
  pub alone : (key : TaskKey) (other : RunNo) (c : Claim) → IsOwnKey j key → get w.claims other ≡ Some c → IsOwnKey c.job key → ⊥

here : (a b : Bool) → a ≡ true → (a || b) ≡ true
here true b h = refl
here false b h = cc

later : (a b : Bool) → b ≡ true → (a || b) ≡ true
later true b h = refl
later false b h = h

-- a claim that is there is found
pub any_found : (test : Claim → Bool) (run : RunNo) (c : Claim) (es : List (RunNo × Claim)) → find run_cmp run es ≡ Some c → test c ≡ true → list_any test (map (λ e. e.1) es) ≡ true
any_found test run c [] e t = cc
any_found test run c (x ∷ es) e t =
    elim (eq_by_cmp run_cmp run x.0) as (λ b. cond b (Some x.1) (find run_cmp run es) ≡ Some c → (test x.1 || list_any test (map (λ e. e.1) es)) ≡ true) [
      | true ↦ λ f. here (test x.1) _ (ap test (some_is x.1 c f) ∙ t)
      | false ↦ λ f. later (test x.1) _ (any_found test run c es f t)
    ] e

own_task_of : (j : Job) (key : TaskKey) → IsOwnKey j key → is_task_of key j ≡ true
own_task_of (job.Task k due period kind arg) key e = ap (λ (q : TaskKey). is_eq (key_cmp q key)) e ∙ ap is_eq (tied_itself keys_total key)
own_task_of job.Initialize key e = absurd e
own_task_of (job.Login conn name) key e = absurd e
own_task_of (job.Message conn name body) key e = absurd e
own_task_of (job.Channel conn name channel body) key e = absurd e
own_task_of (job.Disconnect conn name graceful) key e = absurd e

both_ways : (b : Bool) → b ≡ true → b ≡ false → ⊥
both_ways b e f = cc

-- a task that is not claimed is no claim's own
unclaimed : (w : World) (key : TaskKey) (run : RunNo) (c : Claim) → is_claimed (is_task_of key) w ≡ false → get w.claims run ≡ Some c → IsOwnKey c.job key → ⊥
unclaimed w key run c none e own = both_ways _ (any_found (λ claim. is_task_of key claim.job) run c (entries w.claims) (sym (get-entries w.claims run) ∙ e) (own_task_of c.job key own)) none

first_waits : (queue : List Waiting) (x : Waiting) (rest : List Waiting) → queue ≡ x ∷ rest → AllByRecursion IsWaiting queue → IsWaiting x
first_waits queue x rest e h = (subst (AllByRecursion IsWaiting) e h).0

module _ (w : World) (s : IsSound w) where
  tasks_claimable : HoldsOfTasks (IsClaimable w) w
  tasks_claimable key task e late none =
      let there = s.valid.tasks key task e in record {
        job = (there.0, there.2);
        due = late;
        own = λ other f. some_is other task (sym f ∙ e);
        spent = λ q own. subst (λ (k : TaskKey). IsSpent w.claims w.next k.run.0) own (s.tasks key task e);
        alone = λ q other c own f its. unclaimed w key other c none f (subst (IsOwnKey c.job) (sym own) its);
      }

  input_claimable : (conn : ConnNo) (name : List ℕ) (x : Waiting) → IsJob (job_of conn name x) → IsClaimable w (job_of conn name x)
  input_claimable conn name waits.Login is = record { job = is; due = tt; own = tt; spent = λ key own. absurd own; alone = λ key other c own. absurd own }
  input_claimable conn name (waits.Input (input.Message body)) is = record { job = is; due = tt; own = tt; spent = λ key own. absurd own; alone = λ key other c own. absurd own }
  input_claimable conn name (waits.Input (input.Channel channel body)) is = record { job = is; due = tt; own = tt; spent = λ key own. absurd own; alone = λ key other c own. absurd own }
  input_claimable conn name (waits.Input (input.Disconnect graceful)) is = record { job = is; due = tt; own = tt; spent = λ key own. absurd own; alone = λ key other c own. absurd own }

  job_within : (conn : ConnNo) (c : Connection) (x : Waiting) → IsSoundConnection conn c → IsWaiting x → IsJob (job_of conn c.name x)
  job_within conn c waits.Login sound is = (sound.number, sound.name)
  job_within conn c (waits.Input (input.Message body)) sound is = ((sound.number, sound.name), is)
  job_within conn c (waits.Input (input.Channel channel body)) sound is = ((sound.number, sound.name), is.0, is.1)
  job_within conn c (waits.Input (input.Disconnect graceful)) sound is = (sound.number, sound.name)

  inputs_claimable : HoldsOfInputs (IsClaimable w) w
  inputs_claimable conn c x queue e is =
      let sound = s.connections conn c e in
      input_claimable conn c.name x (job_within conn c x sound (first_waits c.queue x queue is sound.queue))

  -- the job that is picked may be claimed
  pub pick_claimable : (j : Job) → pick w ≡ Some j → IsClaimable w j
  pick_claimable j e = picked (IsClaimable w) w record { job = tt; due = tt; own = tt; spent = λ key own. absurd own; alone = λ key other c own. absurd own } tasks_claimable inputs_claimable j e

-- one more number is drawn, for a claim
pub spent_insert : (claims : TheClaims) (next : ℕ) (claim : Claim) (n : ℕ) → IsSpent claims next n → IsSpent (insert claims (record { 0 = next }) claim) (next + 1) n
spent_insert claims next claim n p = let drawn = p.drawn in record {
  drawn = omega arith;
  closed = λ run c e is. elim (get-insert_cases runs_total exact_runs claims (record { 0 = next }) claim run c e) [
    | inl q ↦ let at : run.0 ≡ next = ap (λ (r : RunNo). r.0) q.0 in omega (arith, drawn, at, is)
    | inr there ↦ p.closed run c there is
  ];
}

-- the claim is recorded
pub sound_claim : (w : World) (pass : ℕ) (j : Job) → IsSound w → w.next < NUMBERS_END → IsClaimable w j → IsSound (with_claim w pass j)
sound_claim w pass j s few may =
    let new : Claim = record { pass = pass; job = j; at = w.moment } in
    let no : RunNo = record { 0 = w.next } in
    let counted = s.counted in
    let last = s.last in
    let same = open_inserted w.claims w.next new (next_of w.durable.last) last in record {
      valid = s.valid;
      moment = s.moment;
      numbers = omega arith;
      last = omega arith;
      counted = omega (arith, counted, same);
      objects = λ id object e. spent_insert w.claims w.next new id.run.0 (s.objects id object e);
      tasks = λ key task e. spent_insert w.claims w.next new key.run.0 (s.tasks key task e);
      claims = λ run claim e. elim (get-insert_cases runs_total exact_runs w.claims no new run claim e) [
        | inl p ↦ subst (λ (r : RunNo). IsSoundClaim (insert w.claims no new) (w.next + 1) w.durable r claim) (sym p.0) (subst (IsSoundClaim (insert w.claims no new) (w.next + 1) w.durable no) p.1 record {
          number = omega arith;
          job = may.job;
          due = may.due;
          moment = s.moment;
          own = may.own;
          spent = λ key own. spent_insert w.claims w.next new key.run.0 (may.spent key own);
          alone = λ key other c own f its. elim (get-insert_cases runs_total exact_runs w.claims no new other c f) [
            | inl q ↦ q.0
            | inr there ↦ absurd (may.alone key other c own there its)
          ];
        })
        | inr old ↦
            let is = s.claims run claim old in record {
              number = let n = is.number in omega arith;
              job = is.job;
              due = is.due;
              moment = is.moment;
              own = is.own;
              spent = λ key own. spent_insert w.claims w.next new key.run.0 (is.spent key own);
              alone = λ key other c own f its. elim (get-insert_cases runs_total exact_runs w.claims no new other c f) [
                | inl q ↦ absurd (may.alone key run claim (subst (λ (x : Claim). IsOwnKey x.job key) (sym q.1) its) old own)
                | inr there ↦ is.alone key other c own there its
              ];
            }
      ];
      connections = for_conn_sound (conn_of j) (λ c. record c { turn = w.next }) w.connections s.connections (λ conn c sound. same_sound (record c { turn = w.next }) refl refl refl sound);
    }

-- a claim goes, and the other numbers stay spent
pub spent_remove : (claims : TheClaims) (gone : RunNo) (next n : ℕ) → IsSpent claims next n → IsSpent (remove claims gone) next n
spent_remove claims gone next n p = record { drawn = p.drawn; closed = λ run c e is. p.closed run c (get-remove_cases runs_total exact_runs claims gone run c e) is }

-- a claim is released
pub sound_release : (w : World) (gone : RunNo) → IsSound w → IsSound (without_claim w gone)
sound_release w gone s =
    let counted = s.counted in
    let fewer = open_left w.claims gone (next_of w.durable.last) in record {
      valid = s.valid;
      moment = s.moment;
      numbers = s.numbers;
      last = s.last;
      counted = omega (arith, counted, fewer);
      objects = λ id object e. spent_remove w.claims gone w.next id.run.0 (s.objects id object e);
      tasks = λ key task e. spent_remove w.claims gone w.next key.run.0 (s.tasks key task e);
      claims = λ run claim e. let is = s.claims run claim (get-remove_cases runs_total exact_runs w.claims gone run claim e) in record {
        number = is.number;
        job = is.job;
        due = is.due;
        moment = is.moment;
        own = is.own;
        spent = λ key own. spent_remove w.claims gone w.next key.run.0 (is.spent key own);
        alone = λ key other c own f its. is.alone key other c own (get-remove_cases runs_total exact_runs w.claims gone other c f) its;
      };
      connections = s.connections;
    }
