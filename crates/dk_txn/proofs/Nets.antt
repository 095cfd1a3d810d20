-- The net effects that the changes come to, in each world that they know.
use Rattle.std.proofs.Common.{◌≡◌, ℕ, Bool, true, false, cond, not, nat_eq, map, is_some, Option, Some, None, refl, sym, ap, ◌∙◌, arith}
use Rattle.std.proofs.lemmas.Bool.Decides.{nat_tests}
use Rattle.std.specs.declared.cmp.Ordering.{Ordering}
use Rattle.std.specs.Cmp.{IsTotalOrder}
use Rattle.std.specs.Cmp.Lexicographic.{nat_list_eq_equiv}
use Rattle.std.specs.Map.{keys_of}
use Rattle.std.specs.Option.{option_map}
use Rattle.std.specs.FinMap.{FinMap, IsAntisymmetric, get, entries, entries_sorted, retain_keys}
use Rattle.std.specs.FinMap.Entries.{same_entries}
use Rattle.dk_types.specs.declared.number.ObjectId.{ObjectId}
use Rattle.dk_types.specs.declared.number.TaskKey.{TaskKey}
use Rattle.dk_types.specs.declared.object.Object.{Object}
use Rattle.dk_types.specs.Names.{bytes_cmp}
use Rattle.dk_model.specs.Keys.{id_cmp, key_cmp}
use Rattle.dk_model.specs.DurableWorlds.{DurableWorld, Task}
use Rattle.dk_model.specs.Effects.{set_in, gone_in, new_in, moved_in, is_moved, same_value, same_object, same_id, pending_of, effects}
use Rattle.dk_overlay.specs.declared.change.Change.{Change}
use Rattle.dk_overlay.specs.declared.change.TaskChange.{TaskChange}
use Rattle.dk_overlay.specs.declared.change.TaskChange.TheVariants.{Added, Withdrawn, Dropped, Moved}
use Rattle.dk_overlay.specs.Changes.{value_now, task_now, stood}
use Rattle.dk_txn.specs.Layers.{layered, newest}
use Rattle.dk_overlay.specs.ReadsAndWrites.{ReadsAndWrites}
use Rattle.dk_txn.specs.Current.{current}
use Rattle.dk_overlay.specs.Picks.{picked, newly_set, taken_away, task_added, task_dropped, task_moved}
use Rattle.dk_txn.specs.Knowing.{KnowsBefore, MovesStand}
use Rattle.dk_overlay.specs.NetChanges.{net_changes}
use Rattle.dk_overlay.proofs.Keys.{ids_total, ids_same, keys_total, keys_same, names_total, names_same}
use Rattle.dk_txn.proofs.Layers.{get-layered}
use Rattle.dk_overlay.proofs.Picking.{given, is_sorted-picked, find-changes, find-retained, is_sorted-valued, find-valued, keys-valued}

numbers_itself : (n : ℕ) → nat_eq n n ≡ true
numbers_itself n = grind (arith, nat_tests)

ids_itself : (x : ObjectId) → same_id x x ≡ true
ids_itself x = rw (numbers_itself x.run.0, numbers_itself x.k) refl

objects_itself : (x : Object) → same_object x x ≡ true
objects_itself x = rw (numbers_itself x.kind, nat_list_eq_equiv.refl x.bytes) refl

value_itself : {X : Type 0} (same : X → X → Bool) → ((x : X) → same x x ≡ true) → (o : Option X) → same_value same o o ≡ true
value_itself same t None = refl
value_itself same t (Some x) = t x

module _ {K X : Type 0} (R : K → K → Ordering) (total : IsTotalOrder R) (exact : IsAntisymmetric R) (changes : FinMap R (Change X)) (m : FinMap R X)
    (knows : (k : K) (c : Change X) → get changes k ≡ Some c → c.before ≡ get m k) where
  -- what is newly set at a key, by the change there
  set_at : (same : X → X → Bool) → ((x : X) → same x x ≡ true) → (o : Option (Change X)) (x : Option X) → ((c : Change X) → o ≡ Some c → c.before ≡ x)
      → given (newly_set same) o ≡ cond (not (same_value same x (newest value_now o x))) (newest value_now o x) None
  set_at same t None x k = ap (λ b. cond (not b) x None) (sym (value_itself same t x))
  set_at same t (Some c) x k = ap (λ y. newly_set same (record c { before = y })) (k c refl)
      ∙ elim (same_value same x c.after) as (λ b. cond b None c.after ≡ cond (not b) c.after None) [ true ↦ refl | false ↦ refl ]

  gone_at : (o : Option (Change X)) (x : Option X) → ((c : Change X) → o ≡ Some c → c.before ≡ x)
      → given taken_away o ≡ cond (not (is_some (newest value_now o x))) x None
  gone_at None None k = refl
  gone_at None (Some y) k = refl
  gone_at (Some c) x k = ap (λ y. taken_away (record c { before = y })) (k c refl)
      ∙ elim (is_some c.after) as (λ b. cond b None x ≡ cond (not b) x None) [ true ↦ refl | false ↦ refl ]

  pub set_changes : (same : X → X → Bool) → ((x : X) → same x x ≡ true) → picked (newly_set same) (entries changes) ≡ set_in same m (layered value_now changes m)
  unfolding set_in
  set_changes same t = same_entries R total exact (picked (newly_set same) (entries changes)) (set_in same m (layered value_now changes m))
      (is_sorted-picked R total exact (newly_set same) (entries changes) (entries_sorted changes)) (entries_sorted _)
      (λ q. find-changes R total exact (newly_set same) changes q ∙ set_at same t (get changes q) (get m q) (knows q)
      ∙ ap (λ o. cond (not (same_value same (get m q) o)) o None) (sym (get-layered total exact value_now changes m q))
      ∙ sym (find-retained R exact (layered value_now changes m) (λ k. not (same_value same (get m k) (get (layered value_now changes m) k))) q))

  pub gone_changes : keys_of (picked taken_away (entries changes)) ≡ gone_in m (layered value_now changes m)
  unfolding gone_in
  gone_changes = ap keys_of (same_entries R total exact (picked taken_away (entries changes)) (entries (retain_keys m (λ k. not (is_some (get (layered value_now changes m) k)))))
      (is_sorted-picked R total exact taken_away (entries changes) (entries_sorted changes)) (entries_sorted _)
      (λ q. find-changes R total exact taken_away changes q ∙ gone_at (get changes q) (get m q) (knows q)
      ∙ ap (λ o. cond (not (is_some o)) (get m q) None) (sym (get-layered total exact value_now changes m q))
      ∙ sym (find-retained R exact m (λ k. not (is_some (get (layered value_now changes m) k))) q)))

module _ (changes : FinMap key_cmp TaskChange) (m : FinMap key_cmp Task)
    (knows : (k : TaskKey) (c : TaskChange) → get changes k ≡ Some c → is_some (get m k) ≡ stood c)
    (moves : (k : TaskKey) (from to : ℕ) → get changes k ≡ Some (Moved from to) → (task : Task) → get m k ≡ Some task → task.due ≡ from) where
  unmoved : (x : Task) → is_moved (Some x) (Some x) ≡ false
  unmoved x = ap not (numbers_itself x.due)

  added_at : (o : Option TaskChange) (x : Option Task) → ((c : TaskChange) → o ≡ Some c → is_some x ≡ stood c)
      → given task_added o ≡ cond (not (is_some x)) (newest task_now o x) None
  added_at None None k = refl
  added_at None (Some x) k = refl
  added_at (Some (Added s)) None k = refl
  added_at (Some (Added s)) (Some x) k = let e = k (Added s) refl in cc
  added_at (Some Withdrawn) None k = refl
  added_at (Some Withdrawn) (Some x) k = refl
  added_at (Some Dropped) None k = refl
  added_at (Some Dropped) (Some x) k = refl
  added_at (Some (Moved from to)) None k = refl
  added_at (Some (Moved from to)) (Some x) k = refl

  dropped_at : (o : Option TaskChange) (x : Option Task) → ((c : TaskChange) → o ≡ Some c → is_some x ≡ stood c)
      → given task_dropped o ≡ option_map (λ _. tt) (cond (not (is_some (newest task_now o x))) x None)
  dropped_at None None k = refl
  dropped_at None (Some x) k = refl
  dropped_at (Some (Added s)) x k = refl
  dropped_at (Some Withdrawn) None k = refl
  dropped_at (Some Withdrawn) (Some x) k = let e = k Withdrawn refl in cc
  dropped_at (Some Dropped) None k = let e = k Dropped refl in cc
  dropped_at (Some Dropped) (Some x) k = refl
  dropped_at (Some (Moved from to)) None k = refl
  dropped_at (Some (Moved from to)) (Some x) k = refl

  moved_at : (o : Option TaskChange) (x : Option Task) → ((c : TaskChange) → o ≡ Some c → is_some x ≡ stood c)
      → ((from to : ℕ) → o ≡ Some (Moved from to) → (task : Task) → x ≡ Some task → task.due ≡ from)
      → given task_moved o ≡ option_map (λ t. t.due) (cond (is_moved x (newest task_now o x)) (newest task_now o x) None)
  moved_at None None k l = refl
  moved_at None (Some x) k l = sym (ap (λ b. option_map (λ (t : Task). t.due) (cond b (Some x) None)) (unmoved x))
  moved_at (Some (Added s)) None k l = refl
  moved_at (Some (Added s)) (Some x) k l = let e = k (Added s) refl in cc
  moved_at (Some Withdrawn) None k l = refl
  moved_at (Some Withdrawn) (Some x) k l = refl
  moved_at (Some Dropped) None k l = refl
  moved_at (Some Dropped) (Some x) k l = refl
  moved_at (Some (Moved from to)) None k l = let e = k (Moved from to) refl in cc
  moved_at (Some (Moved from to)) (Some x) k l =
      elim (nat_eq from to) as (λ b. cond b None (Some to) ≡ option_map (λ (t : Task). t.due) (cond (not b) (Some (record x { due = to })) None)) [ true ↦ refl | false ↦ refl ]
      ∙ ap (λ n. option_map (λ (t : Task). t.due) (cond (not (nat_eq n to)) (Some (record x { due = to })) None)) (sym (l from to refl x refl))

  pub added_changes : picked task_added (entries changes) ≡ new_in m (layered task_now changes m)
  unfolding new_in
  added_changes = same_entries key_cmp keys_total keys_same (picked task_added (entries changes)) (new_in m (layered task_now changes m))
      (is_sorted-picked key_cmp keys_total keys_same task_added (entries changes) (entries_sorted changes)) (entries_sorted _)
      (λ q. find-changes key_cmp keys_total keys_same task_added changes q ∙ added_at (get changes q) (get m q) (knows q)
      ∙ ap (λ o. cond (not (is_some (get m q))) o None) (sym (get-layered keys_total keys_same task_now changes m q))
      ∙ sym (find-retained key_cmp keys_same (layered task_now changes m) (λ k. not (is_some (get m k))) q))

  pub dropped_changes : keys_of (picked task_dropped (entries changes)) ≡ gone_in m (layered task_now changes m)
  unfolding gone_in
  dropped_changes =
      let gone = entries (retain_keys m (λ k. not (is_some (get (layered task_now changes m) k)))) in
      ap keys_of (same_entries key_cmp keys_total keys_same (picked task_dropped (entries changes)) (map (λ e. (e.0, tt)) gone)
      (is_sorted-picked key_cmp keys_total keys_same task_dropped (entries changes) (entries_sorted changes)) (is_sorted-valued key_cmp (λ _. tt) gone (entries_sorted _))
      (λ q. find-changes key_cmp keys_total keys_same task_dropped changes q ∙ dropped_at (get changes q) (get m q) (knows q)
      ∙ ap (λ o. option_map (λ _. tt) (cond (not (is_some o)) (get m q) None)) (sym (get-layered keys_total keys_same task_now changes m q))
      ∙ ap (option_map (λ _. tt)) (sym (find-retained key_cmp keys_same m (λ k. not (is_some (get (layered task_now changes m) k))) q))
      ∙ sym (find-valued key_cmp (λ _. tt) gone q)))
      ∙ keys-valued (λ _. tt) gone

  pub moved_changes : picked task_moved (entries changes) ≡ moved_in m (layered task_now changes m)
  unfolding moved_in
  moved_changes =
      let moved = entries (retain_keys (layered task_now changes m) (λ k. is_moved (get m k) (get (layered task_now changes m) k))) in
      same_entries key_cmp keys_total keys_same (picked task_moved (entries changes)) (map (λ e. (e.0, e.1.due)) moved)
      (is_sorted-picked key_cmp keys_total keys_same task_moved (entries changes) (entries_sorted changes)) (is_sorted-valued key_cmp (λ (t : Task). t.due) moved (entries_sorted _))
      (λ q. find-changes key_cmp keys_total keys_same task_moved changes q ∙ moved_at (get changes q) (get m q) (knows q) (λ from to e task x. moves q from to e task x)
      ∙ ap (λ o. option_map (λ (t : Task). t.due) (cond (is_moved (get m q) o) o None)) (sym (get-layered keys_total keys_same task_now changes m q))
      ∙ ap (option_map (λ (t : Task). t.due)) (sym (find-retained key_cmp keys_same (layered task_now changes m) (λ k. is_moved (get m k) (get (layered task_now changes m) k)) q))
      ∙ sym (find-valued key_cmp (λ (t : Task). t.due) moved q))

-- the changes come to the net effects
pub net-effects : (t : ReadsAndWrites) (d : DurableWorld) → KnowsBefore t d → MovesStand t d → net_changes t ≡ effects d (current t d).world
net-effects t d k moves = λ i. record {
  written = set_changes id_cmp ids_total ids_same t.objects d.objects k.objects same_object objects_itself i;
  removed = gone_changes id_cmp ids_total ids_same t.objects d.objects k.objects i;
  bound = set_changes bytes_cmp names_total names_same t.names d.names k.names same_id ids_itself i;
  unbound = gone_changes bytes_cmp names_total names_same t.names d.names k.names i;
  added = map pending_of (added_changes t.tasks d.tasks k.tasks moves i);
  dropped = dropped_changes t.tasks d.tasks k.tasks moves i;
  requeued = moved_changes t.tasks d.tasks k.tasks moves i;
}
