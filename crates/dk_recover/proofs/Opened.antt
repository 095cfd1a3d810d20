-- The world of lists in order, and when it is valid.
use Rattle.std.proofs.Common.{◌≡◌, ℕ, ◌+◌, ◌==◌, ◌&&◌, not, Bool, true, false, map, Option, Some, None, List, [], ◌∷◌, leb, if◌then◌else◌, refl, sym, ap, subst, ◌∙◌, arith}
use Rattle.std.proofs.lemmas.Bool.{leb-true, le-leb, eqb-true}
use Rattle.std.specs.List.{list_all}
use Rattle.std.specs.FinMap.{entries, get, get-entries}
use Rattle.std.specs.FinMap.Entries.{same_entries}
use Rattle.std.specs.Cmp.{IsTotalOrder}
use Rattle.std.specs.FinMap.{IsAntisymmetric}
use Rattle.std.specs.declared.cmp.Ordering.{Ordering}
use Rattle.dk_types.specs.declared.number.RunNo.{RunNo}
use Rattle.dk_types.specs.declared.number.ObjectId.{ObjectId}
use Rattle.dk_types.specs.declared.number.TaskKey.{TaskKey}
use Rattle.dk_types.specs.declared.object.Object.{Object}
use Rattle.dk_types.specs.declared.durable.Pending.{Pending}
use Rattle.dk_types.specs.declared.durable.Durable.{Durable}
use Rattle.dk_types.specs.declared.limits.TheConstants.{NUMBERS_END}
use Rattle.dk_types.specs.Names.{bytes_cmp}
use Rattle.dk_types.specs.Values.{Task}
use Rattle.dk_map.specs.Entries.{find, IsOrdered}
use Rattle.dk_map.specs.AsMap.{map_of}
use Rattle.dk_map.proofs.Maps.{get-map_of, entries-map_of}
use Rattle.dk_model.specs.Keys.{id_cmp, key_cmp}
use Rattle.dk_model.specs.DurableWorlds.{DurableWorld}
use Rattle.dk_model.specs.Effects.{task_of, pending_of}
use Rattle.dk_model.specs.Images.{IsImageValue, agrees_with, world_lists}
use Rattle.dk_model.specs.Validity.{IsValid, IsCommitted, next_of}
use Rattle.dk_model.proofs.Maps.{ids_total, exact_ids, exact_names, keys_total, exact_keys}
use Rattle.dk_laws.proofs.EffectsMade.{and_left, and_right, first_some}
use Rattle.dk_recover.specs.Bytes.{HaveObjectBytes, HaveTaskBytes}
use Rattle.dk_recover.specs.Changes.{with_put}
use Rattle.dk_recover.specs.Worlds.{is_committed, are_made, are_scheduled}
use Rattle.dk_recover.proofs.Found.{entries_hold, hold_entries}
use Rattle.dk_recover.proofs.Items.{found_is}
use Rattle.dk_recover.proofs.Fit.{objects_in_order, names_in_order, tasks_in_order}
use Rattle.dk_recover.proofs.MapChanges.{put_ordered, find-with_put}
use Rattle.dk_recover.proofs.TaskChanges.{pendings_back, tasks_back}
use Rattle.dk_recover.proofs.Valid.{IsWritten, IsBound, IsAdded, written_items, bound_items, added_items}

second_none : {X : Type 0} (o : Option X) → first_some o None ≡ o
unfolding first_some
second_none None = refl
second_none (Some x) = refl

-- entries in order, put into their places one after another, are that list
pub put_all_is : {K X : Type 0} (R : K → K → Ordering) (o : IsTotalOrder R) (exact : IsAntisymmetric R) (es : List (K × X)) → IsOrdered R es → with_put R es [] ≡ es
put_all_is R o exact es s = same_entries R o exact (with_put R es []) es (put_ordered R o exact es [] tt) s (λ q. find-with_put R o exact es [] s tt q ∙ second_none (find R q es))

committed_is : (last : Option RunNo) (run : RunNo) → is_committed last run ≡ true → IsCommitted last run
committed_is None run e = absurd cc
committed_is (Some last) run e = leb-true run.0 last.0 e

is_it_committed : (last : Option RunNo) (run : RunNo) → IsCommitted last run → is_committed last run ≡ true
is_it_committed None run is = absurd is
is_it_committed (Some last) run is = le-leb run.0 last.0 is

scheduled_tasks : (last : Option RunNo) (ps : List Pending) → are_scheduled last ps ≡ list_all (λ (e : TaskKey × Task). is_committed last e.0.run) (map task_of ps)
scheduled_tasks last [] = refl
scheduled_tasks last (p ∷ ps) = ap (λ b. is_committed last p.key.run && b) (scheduled_tasks last ps)

none_is : (b : Bool) (n : ℕ) → (n == 0) ≡ b → (if b then 0 == 0 else not (0 == 0)) ≡ true → n ≡ 0
none_is true n is h = eqb-true n 0 is
none_is false n is h = absurd cc

some_is : (commits n : ℕ) → (if commits == 0 then n + 1 == 0 else not (n + 1 == 0)) ≡ true → commits ≡ 0 → ⊥
some_is commits n h zero = let next : (n + 1 == 0) ≡ true = subst (λ (m : ℕ). (if m == 0 then n + 1 == 0 else not (n + 1 == 0)) ≡ true) zero h in omega (arith, eqb-true (n + 1) 0 next)

begun_is : (commits : ℕ) (last : Option RunNo) → agrees_with commits (next_of last) ≡ true → ((commits ≡ 0) → (last ≡ None)) × ((last ≡ None) → (commits ≡ 0))
begun_is commits None e = (λ _. refl, λ _. none_is (commits == 0) commits refl (and_right _ _ e))
begun_is commits (Some last) e = (λ zero. absurd (some_is commits last.0 (and_right _ _ e) zero), λ none. absurd cc)

module _ (d : Durable) (is : IsImageValue 2 d) where
  so : IsOrdered id_cmp d.objects
  so = objects_in_order 2 d.objects is.objects

  sn : IsOrdered bytes_cmp d.names
  sn = names_in_order d.names is.names

  st : IsOrdered key_cmp (map task_of d.tasks)
  st = tasks_in_order 2 d.tasks is.tasks

  -- the world of the lists
  abbrev pub opened : DurableWorld
  opened = record { objects = map_of id_cmp d.objects; names = map_of bytes_cmp d.names; tasks = map_of key_cmp (map task_of d.tasks); commits = d.commits; last = d.last }

  pub lists_of : world_lists opened ≡ d
  lists_of i = record {
    commits = d.commits;
    last = d.last;
    objects = entries-map_of id_cmp d.objects so i;
    names = entries-map_of bytes_cmp d.names sn i;
    tasks = (ap (map pending_of) (entries-map_of key_cmp (map task_of d.tasks) st) ∙ pendings_back d.tasks) i;
  }

  pub opened_valid : HaveObjectBytes d.objects → HaveTaskBytes d.tasks → are_made d.last d.objects ≡ true → are_scheduled d.last d.tasks ≡ true → IsValid opened
  opened_valid object_bytes task_bytes made scheduled = record {
    objects = λ id object found.
        let there : find id_cmp id d.objects ≡ Some object = sym (get-map_of id_cmp d.objects so id) ∙ found in
        let w = found_is id_cmp exact_ids IsWritten d.objects (written_items d.objects is.objects object_bytes) id object there in
        (w.numbered, committed_is d.last id.run (entries_hold id_cmp ids_total exact_ids (λ (o : ObjectId × Object). is_committed d.last o.0.run) d.objects made id object there), w.object);
    names = λ name id found.
        let there : find bytes_cmp name d.names ≡ Some id = sym (get-map_of bytes_cmp d.names sn name) ∙ found in
        let b = found_is bytes_cmp exact_names IsBound d.names (bound_items d.names is.names) name id there in (b.name, b.numbered);
    tasks = λ key task found.
        let there : find key_cmp key (map task_of d.tasks) ≡ Some task = sym (get-map_of key_cmp (map task_of d.tasks) st key) ∙ found in
        let a = found_is key_cmp exact_keys IsAdded (map task_of d.tasks) (added_items d.tasks is.tasks task_bytes) key task there in
        (a.numbered, committed_is d.last key.run (entries_hold key_cmp keys_total exact_keys (λ (e : TaskKey × Task). is_committed d.last e.0.run) (map task_of d.tasks) (sym (scheduled_tasks d.last d.tasks) ∙ scheduled) key task there), a.task);
    last = leb-true (next_of d.last) NUMBERS_END (and_left (leb (next_of d.last) NUMBERS_END) (leb d.commits (next_of d.last)) (and_left _ _ is.next));
    commits = leb-true d.commits (next_of d.last) (and_right (leb (next_of d.last) NUMBERS_END) (leb d.commits (next_of d.last)) (and_left _ _ is.next));
    begun = begun_is d.commits d.last is.next;
  }

  -- a valid world of these lists was made by committed runs
  pub made_by : (w : DurableWorld) → world_lists w ≡ d → IsValid w → (are_made d.last d.objects ≡ true) × (are_scheduled d.last d.tasks ≡ true)
  made_by w same valid =
      let last : w.last ≡ d.last = ap (λ (x : Durable). x.last) same in
      let objects : entries w.objects ≡ d.objects = ap (λ (x : Durable). x.objects) same in
      let tasks : entries w.tasks ≡ map task_of d.tasks = sym (tasks_back (entries w.tasks)) ∙ ap (λ (x : Durable). map task_of x.tasks) same in (
        hold_entries id_cmp ids_total exact_ids (λ (o : ObjectId × Object). is_committed d.last o.0.run) d.objects so (λ id object found.
            let there : get w.objects id ≡ Some object = get-entries w.objects id ∙ ap (find id_cmp id) objects ∙ found in
            is_it_committed d.last id.run (subst (λ (l : Option RunNo). IsCommitted l id.run) last (valid.objects id object there).1)),
        scheduled_tasks d.last d.tasks ∙ hold_entries key_cmp keys_total exact_keys (λ (e : TaskKey × Task). is_committed d.last e.0.run) (map task_of d.tasks) st (λ key task found.
            let there : get w.tasks key ≡ Some task = get-entries w.tasks key ∙ ap (find key_cmp key) tasks ∙ found in
            is_it_committed d.last key.run (subst (λ (l : Option RunNo). IsCommitted l key.run) last (valid.tasks key task there).1)),
      )
