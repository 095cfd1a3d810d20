-- The world of a list, each item stamped with the number of commits.
use Rattle.std.proofs.Common.{◌≡◌, ℕ, refl, sym, ap, subst, ◌∙◌, Bool, true, false, cond, List, [], ◌∷◌, map, inl, inr, Option, None, Some, is_some}
use Rattle.std.specs.Ordering.{eq_by_cmp}
use Rattle.std.specs.Option.{option_map}
use Rattle.std.specs.List.{list_any}
use Rattle.std.specs.FinMap.{FinMap, empty, get, get-empty, insert}
use Rattle.dk_types.specs.declared.number.RunNo.{RunNo}
use Rattle.dk_types.specs.declared.number.ObjectId.{ObjectId}
use Rattle.dk_types.specs.declared.number.TaskKey.{TaskKey}
use Rattle.dk_types.specs.declared.object.Object.{Object}
use Rattle.dk_types.specs.declared.item.Item.TheVariants as ask
use Rattle.dk_types.specs.declared.durable.Pending.{Pending}
use Rattle.dk_types.specs.declared.durable.Durable.{Durable}
use Rattle.dk_types.specs.Names.{bytes_cmp}
use Rattle.dk_map.proofs.Values.{values-empty}
use Rattle.dk_types.specs.Keys.{id_cmp, key_cmp}
use Rattle.dk_model.specs.Effects.{with_set, task_of}
use Rattle.dk_model.specs.Sights.{seen_at}
use Rattle.dk_model.proofs.Maps.{ids_total, exact_ids, keys_total, exact_keys, names_total, exact_names, get-insert_cases, not_both}
use Rattle.dk_names.specs.Bindings.{StampedNames}
use Rattle.dk_tasks.specs.Tasks.{Kept}
use Rattle.dk_tasks.proofs.Durable.{durable-empty}
use Rattle.dk_core.specs.StampedWorlds.{Stamped, Room, durable_of, sight_of, HasStamps}
use Rattle.dk_core.specs.Listings.{world_of}
use Rattle.dk_core.specs.Publishing.{stamped_entry, unclaimed_entry}
use Rattle.dk_core.proofs.MapFacts.{part-with_set}
use Rattle.dk_core.proofs.Forgotten.{values-with_set, durable-with_set}
use Rattle.dk_core.proofs.AfterCommit.{object_there, name_there, task_there}

-- what is seen where each that stands has this stamp
seen_stamped : (n : ℕ) (set there : Bool) (r : Option ℕ) → r ≡ cond set (Some n) None → there ≡ is_some r → sight_of r ≡ seen_at there n
seen_stamped n true there r e h = ap sight_of e ∙ ap (λ b. seen_at b n) (sym (h ∙ ap is_some e))
seen_stamped n false there r e h = ap sight_of e ∙ ap (λ b. seen_at b n) (sym (h ∙ ap is_some e))

module _ (n : ℕ) (os : List (ObjectId × Object)) (ns : List (List ℕ × ObjectId)) (ts : List Pending) (last : Option RunNo) (room : Room) where
  -- the world with these set
  abbrev pub Opened : Stamped
  Opened = record {
    objects = with_set (map (stamped_entry n) os) empty;
    names = with_set (map (stamped_entry n) ns) empty;
    tasks = with_set (map (unclaimed_entry n) ts) empty;
    commits = n;
    last = last;
    room = room;
  }

  pub opened_world : durable_of Opened ≡ world_of (record { commits = n; last = last; objects = os; names = ns; tasks = ts })
  opened_world = λ i. record {
    objects = (values-with_set ids_total exact_ids n os empty ∙ ap (with_set os) (values-empty (λ (s : Object × ℕ). s.0) ids_total exact_ids)) i;
    names = (values-with_set names_total exact_names n ns empty ∙ ap (with_set ns) (values-empty (λ (s : ObjectId × ℕ). s.0) names_total exact_names)) i;
    tasks = (durable-with_set n ts empty ∙ ap (with_set (map task_of ts)) durable-empty) i;
    commits = n;
    last = last;
  }

  pub opened_stamps : HasStamps (λ _. n) Opened
  opened_stamps (ask.Object id) =
      let set = list_any (λ (e : ObjectId × Object). eq_by_cmp id_cmp id e.0) os in
      seen_stamped n set _ _ (part-with_set ids_total exact_ids (λ (s : Object × ℕ). s.1) (stamped_entry n) n (λ _. refl) os empty id ∙ ap (λ r. cond set (Some n) (option_map (λ (s : Object × ℕ). s.1) r)) (get-empty id_cmp id)) (object_there Opened id)
  opened_stamps (ask.Bound name) =
      let set = list_any (λ (e : List ℕ × ObjectId). eq_by_cmp bytes_cmp name e.0) ns in
      seen_stamped n set _ _ (part-with_set names_total exact_names (λ (s : ObjectId × ℕ). s.1) (stamped_entry n) n (λ _. refl) ns empty name ∙ ap (λ r. cond set (Some n) (option_map (λ (s : ObjectId × ℕ). s.1) r)) (get-empty bytes_cmp name)) (name_there Opened name)
  opened_stamps (ask.NextAfter after) = refl
  opened_stamps (ask.Task key) =
      let set = list_any (λ (p : Pending). eq_by_cmp key_cmp key p.key) ts in
      seen_stamped n set _ _ (part-with_set keys_total exact_keys (λ (t : Kept). t.stamp) (unclaimed_entry n) n (λ _. refl) ts empty key ∙ ap (λ r. cond set (Some n) (option_map (λ (t : Kept). t.stamp) r)) (get-empty key_cmp key)) (task_there Opened key)

-- no run has a task that was set so
pub set_unclaimed : (n : ℕ) (ts : List Pending) (m : FinMap key_cmp Kept) → ((key : TaskKey) (t : Kept) → get m key ≡ Some t → t.claimed ≡ false)
    → (key : TaskKey) (t : Kept) → get (with_set (map (unclaimed_entry n) ts) m) key ≡ Some t → t.claimed ≡ false
set_unclaimed n [] m h key t e = h key t e
set_unclaimed n (p ∷ ts) m h key t e = set_unclaimed n ts (insert m (unclaimed_entry n p).0 (unclaimed_entry n p).1) (λ k x f.
    elim (get-insert_cases keys_total exact_keys m (unclaimed_entry n p).0 (unclaimed_entry n p).1 k x f) [
      | inl q ↦ ap (λ (y : Kept). y.claimed) (sym q.1)
      | inr there ↦ h k x there
    ]) key t e

-- by the clauses of the stores
module _ (d : Durable) (objects : FinMap id_cmp (Object × ℕ)) (names : StampedNames) (tasks : FinMap key_cmp Kept) (room : Room)
    (o : objects ≡ with_set (map (stamped_entry d.commits) d.objects) empty) (n : names ≡ with_set (map (stamped_entry d.commits) d.names) empty) (t : tasks ≡ with_set (map (unclaimed_entry d.commits) d.tasks) empty) where
  abbrev Kept_in : Stamped
  Kept_in = record { objects = objects; names = names; tasks = tasks; commits = d.commits; last = d.last; room = room }

  as_opened : Kept_in ≡ Opened d.commits d.objects d.names d.tasks d.last room
  as_opened = λ i. record { objects = o i; names = n i; tasks = t i; commits = d.commits; last = d.last; room = room }

  pub world_kept : durable_of Kept_in ≡ world_of d
  world_kept = ap durable_of as_opened ∙ opened_world d.commits d.objects d.names d.tasks d.last room

  pub unclaimed_kept : (key : TaskKey) (k : Kept) → get tasks key ≡ Some k → k.claimed ≡ false
  unclaimed_kept key k e = set_unclaimed d.commits d.tasks empty (λ q x f. not_both (get empty q) x f (get-empty key_cmp q)) key k (ap (λ m. get m key) (sym t) ∙ e)

  pub stamps_kept : HasStamps (λ _. d.commits) Kept_in
  stamps_kept = subst (HasStamps (λ _. d.commits)) (sym as_opened) (opened_stamps d.commits d.objects d.names d.tasks d.last room)
