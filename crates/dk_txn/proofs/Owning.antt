-- What a run does to its own task.
use Rattle.std.proofs.Common.{◌≡◌, ◌==◌, ℕ, ◌+◌, inl, inr, Bool, true, false, if◌then◌else◌, Option, Some, None, is_some, Result, Ok, refl, sym, ap, subst, ◌∙◌}
use Rattle.std.specs.FinMap as map
use Rattle.dk_types.specs.declared.number.RunNo.{RunNo}
use Rattle.dk_types.specs.declared.number.TaskKey.{TaskKey}
use Rattle.dk_types.specs.declared.job.Job.{Job}
use Rattle.dk_types.specs.declared.fault.AppFault.{AppFault}
use Rattle.dk_types.specs.declared.job.Job.TheVariants as job
use Rattle.dk_model.specs.DurableWorlds.{DurableWorld, Task, last_with, with_value}
use Rattle.dk_model.specs.Runs.{Run, begun, with_task}
use Rattle.dk_model.specs.Steps.{own_task, own_found, next_due}
use Rattle.dk_overlay.specs.declared.change.TaskChange.{TaskChange}
use Rattle.dk_overlay.specs.declared.change.TaskChange.TheVariants.{Moved}
use Rattle.dk_overlay.specs.Changes.{value_now, task_now, removing, moving}
use Rattle.dk_txn.specs.Layers.{layered, newest}
use Rattle.dk_overlay.specs.ReadsAndWrites.{ReadsAndWrites, nothing_done, changing_task, removing_task, moving_task}
use Rattle.dk_txn.specs.Current.{current, passing_own}
use Rattle.dk_model.specs.Finishes.{HasOwnTask}
use Rattle.dk_txn.specs.Knowing.{KnowsBefore, MovesStand, MovesOwn}
use Rattle.dk_overlay.proofs.Keys.{ids_total, ids_same, keys_total, keys_same, names_total, names_same}
use Rattle.dk_txn.proofs.Layers.{get-layered, layered-insert, layered-empty, at_changed}
use Rattle.dk_txn.proofs.Sound.{knows_task, removing_stood, moving_stood, removing_none, moving_some, removing_unmoved, moving_from}

-- with nothing done the run stands at its start
pub current_start : (run : RunNo) (at : ℕ) (d : DurableWorld) → current (nothing_done run at) d ≡ begun run at d
current_start run at d = λ i. record (begun run at d) {
  world = record {
    objects = layered-empty ids_total ids_same value_now d.objects i;
    names = layered-empty names_total names_same value_now d.names i;
    tasks = layered-empty keys_total keys_same task_now d.tasks i;
    commits = d.commits + 1;
    last = last_with d.last run;
  };
}

-- the run after a change of a task
pub current_task : (t : ReadsAndWrites) (key : TaskKey) (c : TaskChange) (d : DurableWorld) (after : Option Task) → task_now c (map.get d.tasks key) ≡ after
    → with_task (current t d) key after ≡ current (changing_task t key c) d
current_task t key c d after e =
    ap (λ m. record (current (changing_task t key c) d) { world = record ((current t d).world) { tasks = m } })
    (ap (with_value (layered task_now t.tasks d.tasks) key) (sym e) ∙ sym (layered-insert keys_total keys_same task_now t.tasks d.tasks key c))

pub current_removed : (t : ReadsAndWrites) (key : TaskKey) (d : DurableWorld) → with_task (current t d) key None ≡ current (removing_task t key) d
current_removed t key d = current_task t key (removing (map.get t.tasks key)) d None (removing_none (map.get t.tasks key) (map.get d.tasks key))

current_moved : (t : ReadsAndWrites) (key : TaskKey) (due to : ℕ) (d : DurableWorld) (task : Task) → map.get (layered task_now t.tasks d.tasks) key ≡ Some task
    → record (current t d) { world = record ((current t d).world) { tasks = map.insert (layered task_now t.tasks d.tasks) key (record task { due = to }) } } ≡ current (moving_task t key due to) d
current_moved t key due to d task e =
    let now : newest task_now (map.get t.tasks key) (map.get d.tasks key) ≡ Some task = sym (get-layered keys_total keys_same task_now t.tasks d.tasks key) ∙ e in
    ap (λ m. record (current t d) { world = record ((current t d).world) { tasks = m } })
    (ap (with_value (layered task_now t.tasks d.tasks) key) (sym (moving_some (map.get t.tasks key) (map.get d.tasks key) due to task now))
    ∙ sym (layered-insert keys_total keys_same task_now t.tasks d.tasks key (moving (map.get t.tasks key) due to)))

passed : (t : ReadsAndWrites) (d : DurableWorld) (key : TaskKey) (due period : ℕ) (o : Option Task) → map.get (layered task_now t.tasks d.tasks) key ≡ o → is_some o ≡ true
    → own_found o key due period (current t d) ≡ (Ok true, current (passing_own t key due period) d)
passed t d key due period None e h = cc
passed t d key due period (Some task) e h =
    elim (period == 0) as (λ b. ◌≡◌ {A = Result Bool AppFault × Run}
    (if b then (Ok true, with_task (current t d) key None)
    else (Ok true, record (current t d) { world = record ((current t d).world) { tasks = map.insert (layered task_now t.tasks d.tasks) key (record task { due = next_due due period t.at }) } }))
    (Ok true, current (if b then removing_task t key else moving_task t key due (next_due due period t.at)) d)) [
      | true ↦ ap (λ s. (Ok true, s)) (current_removed t key d)
      | false ↦ ap (λ s. (Ok true, s)) (current_moved t key due (next_due due period t.at) d task e)
    ]

-- a pending task of its own is passed
pub own_passed : (t : ReadsAndWrites) (d : DurableWorld) (key : TaskKey) (due period : ℕ) → is_some (map.get (layered task_now t.tasks d.tasks) key) ≡ true
    → own_task key due period (current t d) ≡ (Ok true, current (passing_own t key due period) d)
unfolding own_task
own_passed t d key due period h = passed t d key due period _ refl h

absent : (o : Option Task) (key : TaskKey) (due period : ℕ) (s : Run) → is_some o ≡ false → own_found o key due period s ≡ (Ok false, s)
absent None key due period s h = refl
absent (Some task) key due period s h = cc

-- of one that is not pending nothing is done
pub own_absent : (t : ReadsAndWrites) (d : DurableWorld) (key : TaskKey) (due period : ℕ) → is_some (map.get (layered task_now t.tasks d.tasks) key) ≡ false
    → own_task key due period (current t d) ≡ (Ok false, current t d)
unfolding own_task
own_absent t d key due period h = absent _ key due period (current t d) h

-- what is known of the task after it was passed
pub knows_passed : (t : ReadsAndWrites) (d : DurableWorld) (key : TaskKey) (due period : ℕ) → KnowsBefore t d → is_some (map.get (layered task_now t.tasks d.tasks) key) ≡ true
    → KnowsBefore (passing_own t key due period) d
knows_passed t d key due period k h =
    let there = ap is_some (sym (get-layered keys_total keys_same task_now t.tasks d.tasks key)) ∙ h in
    elim (period == 0) as (λ b. KnowsBefore (if b then removing_task t key else moving_task t key due (next_due due period t.at)) d) [
      | true ↦
          let w = knows_task t key (removing (map.get t.tasks key)) d k (removing_stood (map.get t.tasks key) (map.get d.tasks key) there (k.tasks key)) in
          record { objects = w.objects; names = w.names; tasks = w.tasks }
      | false ↦ knows_task t key (moving (map.get t.tasks key) due (next_due due period t.at)) d k (moving_stood (map.get t.tasks key) (map.get d.tasks key) due (next_due due period t.at) there (k.tasks key))
    ]

-- the moves of a run whose own task was passed
pub moves_passed : (P : TaskKey → ℕ → Type 0) (t : ReadsAndWrites) (key : TaskKey) (due period : ℕ) → P key due
    → ((k : TaskKey) (from to : ℕ) → map.get t.tasks k ≡ Some (Moved from to) → P k from)
    → (k : TaskKey) (from to : ℕ) → map.get (passing_own t key due period).tasks k ≡ Some (Moved from to) → P k from
moves_passed P t key due period here others =
    let Q : TaskKey → TaskChange → Type 0 = λ k c. (from to : ℕ) → c ≡ Moved from to → P k from in
    let old : (k : TaskKey) (c : TaskChange) → map.get t.tasks k ≡ Some c → Q k c = λ k c h from to e. others k from to (h ∙ ap Some e) in
    let gone : Q key (removing (map.get t.tasks key)) = λ from to e. removing_unmoved (map.get t.tasks key) from to e in
    let new : Q key (moving (map.get t.tasks key) due (next_due due period t.at)) = λ from to e.
    elim (moving_from (map.get t.tasks key) due (next_due due period t.at) from to e) [ inl first ↦ subst (P key) (sym first) here | inr more ↦ others key from more.0 more.1 ] in
    λ k from to. elim (period == 0) as (λ b. map.get (if b then removing_task t key else moving_task t key due (next_due due period t.at)).tasks k ≡ Some (Moved from to) → P k from) [
      | true ↦ λ h. at_changed keys_total keys_same t.tasks key (removing (map.get t.tasks key)) Q gone old k (Moved from to) h from to refl
      | false ↦ λ h. at_changed keys_total keys_same t.tasks key (moving (map.get t.tasks key) due (next_due due period t.at)) Q new old k (Moved from to) h from to refl
    ]

-- where no task was moved but the job's own, the moved ones stand as they were moved from
pub moves_stand : (j : Job) (t : ReadsAndWrites) (d : DurableWorld) → MovesOwn j t → HasOwnTask d j → MovesStand t d
moves_stand (job.Task key due period kind arg) t d own stands = λ k from to h task e.
    let mine = own k from to h in
    ap (λ (x : Task). x.due) (stands task (ap (map.get d.tasks) (sym mine.0) ∙ e)) ∙ sym mine.1
moves_stand job.Initialize t d own stands = λ k from to h task e. absurd (own k from to h)
moves_stand (job.Login conn name) t d own stands = λ k from to h task e. absurd (own k from to h)
moves_stand (job.Message conn name body) t d own stands = λ k from to h task e. absurd (own k from to h)
moves_stand (job.Channel conn name channel body) t d own stands = λ k from to h task e. absurd (own k from to h)
moves_stand (job.Disconnect conn name graceful) t d own stands = λ k from to h task e. absurd (own k from to h)
