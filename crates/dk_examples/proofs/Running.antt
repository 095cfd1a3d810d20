-- What a run on listed worlds tells, from where its work ends.
use Rattle.std.proofs.Common.{◌≡◌, ℕ, true, false, cond, not, nat_lt, map, is_some, Option, Some, None, List, [], Ok, Err, ap, ◌∙◌}
use Rattle.std.specs.Ordering.{eq_by_cmp}
use Rattle.std.specs.FinMap.{FinMap, empty, get, insert, remove, entries, from_entries, get-insert, get-remove, get-empty, entries-insert}
use Rattle.std.specs.FinMap.Entries.{find, put, where_key, is_sorted}
use Rattle.dk_types.specs.declared.number.RunNo.{RunNo}
use Rattle.dk_types.specs.declared.number.ConnNo.{ConnNo}
use Rattle.dk_types.specs.declared.item.Item.{Item}
use Rattle.dk_types.specs.declared.job.Out.{Out}
use Rattle.dk_types.specs.declared.number.ObjectId.{ObjectId}
use Rattle.dk_types.specs.declared.number.TaskKey.{TaskKey}
use Rattle.dk_types.specs.declared.object.Object.{Object}
use Rattle.dk_types.specs.declared.durable.Effects.{Effects}
use Rattle.dk_types.specs.declared.fault.AppFault.{AppFault}
use Rattle.dk_types.specs.declared.fault.AppFault.TheVariants.{TooLarge}
use Rattle.dk_types.specs.declared.fault.Outcome.TheVariants as outcome
use Rattle.dk_types.specs.declared.job.Job.{Job}
use Rattle.dk_types.specs.declared.limits.TheConstants.{EFFECTS_MOST_BYTES}
use Rattle.dk_types.specs.Names.{bytes_cmp}
use Rattle.dk_types.specs.declared.mode.Mode.TheVariants.{Platform}
use Rattle.dk_model.specs.Keys.{id_cmp, key_cmp}
use Rattle.dk_model.specs.DurableWorlds.{DurableWorld, Task}
use Rattle.dk_model.specs.Effects.{same_id, same_object, same_value, pending_of, is_moved, moved_in, effects, effects_length}
use Rattle.dk_model.specs.Runs.{Run, begun}
use Rattle.dk_model.specs.Steps.{Stepped, work, game_part, kept_by, failed, failed_outs, ended, is_too_large, step}
use Rattle.dk_model.specs.Events.{Meaning}
use Rattle.dk_model.specs.Finishes.{step_report}
use Rattle.dk_model.proofs.Maps.{ids_total, exact_ids, keys_total, exact_keys, names_total, exact_names}
use Rattle.dk_examples.specs.Worked.{Lists, listed, Runs}
use Rattle.dk_examples.proofs.MadeMaps.{entries-empty, entries-removed, same_made, retained-made, set_in-made, gone_in-made, new_in-made, made_get}

-- each list is in the order of its keys
pub record AreSorted (l : Lists) : Type 0 where
  pub objects : is_sorted id_cmp l.objects ≡ true
  pub names : is_sorted bytes_cmp l.names ≡ true
  pub tasks : is_sorted key_cmp l.tasks ≡ true

moved-made : (a b : List (TaskKey × Task)) → is_sorted key_cmp b ≡ true
    → moved_in (from_entries a) (from_entries b) ≡ map (λ e. (e.0, e.1.due)) (where_key key_cmp (λ k. is_moved (find key_cmp k a) (find key_cmp k b)) b)
unfolding moved_in
moved-made a b s = ap (map (λ (e : TaskKey × Task). (e.0, e.1.due)))
    (retained-made key_cmp keys_total exact_keys b _ s ∙ (λ i. where_key key_cmp (λ k. is_moved (made_get keys_total a k i) (made_get keys_total b k i)) b))

-- the effects between two worlds, by their lists
abbrev pub effects_by : Lists → Lists → Effects
effects_by a b = record {
  written = where_key id_cmp (λ k. not (same_value same_object (find id_cmp k a.objects) (find id_cmp k b.objects))) b.objects;
  removed = map (λ e. e.0) (where_key id_cmp (λ k. not (is_some (find id_cmp k b.objects))) a.objects);
  bound = where_key bytes_cmp (λ k. not (same_value same_id (find bytes_cmp k a.names) (find bytes_cmp k b.names))) b.names;
  unbound = map (λ e. e.0) (where_key bytes_cmp (λ k. not (is_some (find bytes_cmp k b.names))) a.names);
  added = map pending_of (where_key key_cmp (λ k. not (is_some (find key_cmp k a.tasks))) b.tasks);
  dropped = map (λ e. e.0) (where_key key_cmp (λ k. not (is_some (find key_cmp k b.tasks))) a.tasks);
  requeued = map (λ e. (e.0, e.1.due)) (where_key key_cmp (λ k. is_moved (find key_cmp k a.tasks) (find key_cmp k b.tasks)) b.tasks);
}

pub effects-listed : (a b : Lists) (c d : ℕ) (l k : Option RunNo) → AreSorted a → AreSorted b → effects (listed a c l) (listed b d k) ≡ effects_by a b
effects-listed a b c d l k s t i = record {
  written = set_in-made id_cmp ids_total exact_ids same_object a.objects b.objects t.objects i;
  removed = gone_in-made id_cmp ids_total exact_ids a.objects b.objects s.objects i;
  bound = set_in-made bytes_cmp names_total exact_names same_id a.names b.names t.names i;
  unbound = gone_in-made bytes_cmp names_total exact_names a.names b.names s.names i;
  added = map pending_of (new_in-made key_cmp keys_total exact_keys a.tasks b.tasks t.tasks i);
  dropped = gone_in-made key_cmp keys_total exact_keys a.tasks b.tasks s.tasks i;
  requeued = moved-made a.tasks b.tasks t.tasks i;
}

-- a world holds these lists
pub record Holds (w : DurableWorld) (l : Lists) : Type 0 where
  pub objects : entries w.objects ≡ l.objects
  pub names : entries w.names ≡ l.names
  pub tasks : entries w.tasks ≡ l.tasks
  pub sorted : AreSorted l

pub world-made : (w : DurableWorld) (l : Lists) → Holds w l → w ≡ listed l w.commits w.last
world-made w l h i = record {
  objects = same_made id_cmp ids_total w.objects l.objects h.objects h.sorted.objects i;
  names = same_made bytes_cmp names_total w.names l.names h.names h.sorted.names i;
  tasks = same_made key_cmp keys_total w.tasks l.tasks h.tasks h.sorted.tasks i;
  commits = w.commits;
  last = w.last;
}

module _ (rules : Meaning) (j : Job) (n : RunNo) (at : ℕ) (a b : Lists) (c : ℕ) (l : Option RunNo) where
  -- a run whose work ends well
  pub runs_ok : (s : Run) → AreSorted a → work (game_part rules) j (begun n at (listed a c l)) ≡ (Ok tt, s) → Holds s.world b
      → nat_lt EFFECTS_MOST_BYTES (effects_length (effects_by a b)) ≡ false
      → Runs rules j n at (listed a c l) (record { outcome = outcome.Ok; effects = effects_by a b; touched = s.touched; outs = s.outs }) (listed b s.world.commits s.world.last)
  unfolding is_too_large
  runs_ok s sorted w holds small =
      let d = listed a c l in
      let start = begun n at d in
      let world = world-made s.world b holds in
      let made : effects d s.world ≡ effects_by a b = ap (effects d) world ∙ effects-listed a b c s.world.commits l s.world.last sorted holds.sorted in
      let done : Stepped = record { outcome = outcome.Ok; world = s.world; touched = s.touched; outs = s.outs } in
      let fits : is_too_large d s.world ≡ false = ap (λ (x : Effects). nat_lt EFFECTS_MOST_BYTES (effects_length x)) made ∙ small in
      let is : step rules j n at d ≡ done = ap (ended j d start) w ∙ ap (λ b. cond b (failed j start TooLarge) done) fits in
      record {
        tells = ap (step_report d) is ∙ (λ i. record { outcome = outcome.Ok; effects = made i; touched = s.touched; outs = s.outs });
        leaves = ap (λ (x : Stepped). x.world) is ∙ world;
      }

  -- a run whose work fails
  pub runs_failed : (s : Run) (fault : AppFault) → AreSorted a → work (game_part rules) j (begun n at (listed a c l)) ≡ (Err fault, s)
      → (k : Run) → kept_by j (begun n at (listed a c l)) ≡ k → Holds k.world b
      → Runs rules j n at (listed a c l) (record { outcome = outcome.Fail fault; effects = effects_by a b; touched = k.touched; outs = failed_outs j }) (listed b k.world.commits k.world.last)
  runs_failed s fault sorted w k kept holds =
      let d = listed a c l in
      let start = begun n at d in
      let world = world-made k.world b holds in
      let made : effects d k.world ≡ effects_by a b = ap (effects d) world ∙ effects-listed a b c k.world.commits l k.world.last sorted holds.sorted in
      let done : Stepped = record { outcome = outcome.Fail fault; world = k.world; touched = k.touched; outs = failed_outs j } in
      let is : step rules j n at d ≡ done = ap (ended j d start) w ∙ (λ i. record { outcome = outcome.Fail fault; world = (kept i).world; touched = (kept i).touched; outs = failed_outs j }) in
      record {
        tells = ap (step_report d) is ∙ (λ i. record { outcome = outcome.Fail fault; effects = made i; touched = k.touched; outs = failed_outs j });
        leaves = ap (λ (x : Stepped). x.world) is ∙ world;
      }

-- what a map has once an entry was put in, at each kind of key
pub object_got : (m : FinMap id_cmp Object) (k : ObjectId) (v : Object) (q : ObjectId) → get (insert m k v) q ≡ cond (eq_by_cmp id_cmp q k) (Some v) (get m q)
object_got = get-insert ids_total

pub name_got : (m : FinMap bytes_cmp ObjectId) (k : List ℕ) (v : ObjectId) (q : List ℕ) → get (insert m k v) q ≡ cond (eq_by_cmp bytes_cmp q k) (Some v) (get m q)
name_got = get-insert names_total

pub task_got : (m : FinMap key_cmp Task) (k : TaskKey) (v : Task) (q : TaskKey) → get (insert m k v) q ≡ cond (eq_by_cmp key_cmp q k) (Some v) (get m q)
task_got = get-insert keys_total

pub no_object : (q : ObjectId) → get (empty {X = Object} {R = id_cmp}) q ≡ None
no_object = get-empty id_cmp

pub no_name : (q : List ℕ) → get (empty {X = ObjectId} {R = bytes_cmp}) q ≡ None
no_name = get-empty bytes_cmp

pub no_task : (q : TaskKey) → get (empty {X = Task} {R = key_cmp}) q ≡ None
no_task = get-empty key_cmp

-- or taken away
pub object_lost : (m : FinMap id_cmp Object) (k q : ObjectId) → get (remove m k) q ≡ cond (eq_by_cmp id_cmp q k) None (get m q)
object_lost = get-remove ids_total

pub name_lost : (m : FinMap bytes_cmp ObjectId) (k q : List ℕ) → get (remove m k) q ≡ cond (eq_by_cmp bytes_cmp q k) None (get m q)
name_lost = get-remove names_total

pub ruleset looks = (object_got, name_got, task_got, object_lost, name_lost, no_object, no_name, no_task)

-- and what its entries are then
pub object_put : (m : FinMap id_cmp Object) (k : ObjectId) (v : Object) → entries (insert m k v) ≡ put id_cmp k v (entries m)
object_put = entries-insert ids_total

pub name_put : (m : FinMap bytes_cmp ObjectId) (k : List ℕ) (v : ObjectId) → entries (insert m k v) ≡ put bytes_cmp k v (entries m)
name_put = entries-insert names_total

pub task_put : (m : FinMap key_cmp Task) (k : TaskKey) (v : Task) → entries (insert m k v) ≡ put key_cmp k v (entries m)
task_put = entries-insert keys_total

pub object_cut : (m : FinMap id_cmp Object) (k : ObjectId) → entries (remove m k) ≡ where_key id_cmp (λ x. not (eq_by_cmp id_cmp k x)) (entries m)
object_cut = entries-removed id_cmp ids_total exact_ids

pub name_cut : (m : FinMap bytes_cmp ObjectId) (k : List ℕ) → entries (remove m k) ≡ where_key bytes_cmp (λ x. not (eq_by_cmp bytes_cmp k x)) (entries m)
name_cut = entries-removed bytes_cmp names_total exact_names

pub task_cut : (m : FinMap key_cmp Task) (k : TaskKey) → entries (remove m k) ≡ where_key key_cmp (λ x. not (eq_by_cmp key_cmp k x)) (entries m)
task_cut = entries-removed key_cmp keys_total exact_keys

pub objects_none : entries (empty {X = Object} {R = id_cmp}) ≡ []
objects_none = entries-empty id_cmp

pub names_none : entries (empty {X = ObjectId} {R = bytes_cmp}) ≡ []
names_none = entries-empty bytes_cmp

pub tasks_none : entries (empty {X = Task} {R = key_cmp}) ≡ []
tasks_none = entries-empty key_cmp

pub ruleset puts = (object_put, name_put, task_put, object_cut, name_cut, task_cut, objects_none, names_none, tasks_none)

-- a run where its work ends
abbrev pub at_end : DurableWorld → List Item → List (ConnNo × Out) → RunNo → ℕ → ℕ → ℕ → Run
at_end world touched outs number at objects_made tasks_made = record {
  world = world;
  touched = touched;
  outs = outs;
  number = number;
  at = at;
  objects_made = objects_made;
  tasks_made = tasks_made;
  mode = Platform;
}
