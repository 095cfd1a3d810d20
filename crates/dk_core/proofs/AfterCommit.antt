-- What a commit leaves, from what it does to the stores.
use Rattle.std.proofs.Common.{◌≡◌, ℕ, ◌+◌, refl, sym, ap, subst, ◌∙◌, Bool, true, false, cond, not, ◌||◌, nat_eq, List, [], ◌∷◌, map, Option, None, Some, is_some}
use Rattle.std.specs.declared.cmp.Ordering.{Ordering}
use Rattle.std.specs.Cmp.{IsTotalOrder}
use Rattle.std.specs.Cmp.Lexicographic.{pointwise}
use Rattle.std.specs.Ordering.{eq_by_cmp}
use Rattle.std.specs.Option.{option_map}
use Rattle.std.specs.List.{list_any}
use Rattle.std.specs.FinMap.{FinMap, IsAntisymmetric, get}
use Rattle.std.specs.FinMap.Entries.{is_some-find}
use Rattle.dk_types.specs.declared.number.RunNo.{RunNo}
use Rattle.dk_types.specs.declared.number.ObjectId.{ObjectId}
use Rattle.dk_types.specs.declared.number.TaskKey.{TaskKey}
use Rattle.dk_types.specs.declared.object.Object.{Object}
use Rattle.dk_types.specs.declared.item.Item.{Item}
use Rattle.dk_types.specs.declared.item.Item.TheVariants as ask
use Rattle.dk_types.specs.declared.item.Seen.TheVariants as sight
use Rattle.dk_types.specs.declared.durable.Effects.{Effects}
use Rattle.dk_types.specs.Names.{bytes_cmp}
use Rattle.dk_map.proofs.Values.{get_values}
use Rattle.dk_types.specs.Keys.{id_cmp, key_cmp}
use Rattle.dk_model.specs.DurableWorlds.{DurableWorld, Task, task_answer, last_with}
use Rattle.dk_model.specs.Effects.{same_id, same_object, same_value, set_in, new_in, effects, after, pending_of, without_keys, with_moved}
use Rattle.dk_model.specs.Sights.{same_item, same_key, stamped_by, seen_at}
use Rattle.dk_model.specs.Steps.{Stepped}
use Rattle.dk_model.proofs.Maps.{some_is, ids_total, exact_ids, keys_total, exact_keys, names_total, exact_names}
use Rattle.dk_laws.proofs.EffectsMade.{Tells, Kept as KeptIn, find-kept, objects_told, ids_told, apply-effects}
use Rattle.dk_laws.proofs.Stamps.{lacked, same_object_item, same_name_item, same_task_item}
use Rattle.dk_tasks.specs.Tasks.{Kept}
use Rattle.dk_tasks.proofs.Durable.{get-durable}
use Rattle.dk_core.specs.StampedWorlds.{Stamped, with_room, durable_of, stamp_in, sight_of, HasStamps}
use Rattle.dk_core.specs.Publishing.{published, committed}
use Rattle.dk_core.specs.Commits.{next_entry, sets, StampsAfter, claimed_at, ClaimsAfter, StepsFrom, ComesTo}
use Rattle.dk_core.proofs.MapFacts.{any-same}
use Rattle.dk_core.proofs.Keys.{id_test, name_test, key_test}
use Rattle.dk_core.proofs.Forgotten.{values-with_set, values-without_keys, objects_of-restamped, ids_of-restamped, durable-with_set, durable-without_keys, durable-with_due_at, durable-restamped}
use Rattle.dk_core.proofs.Stamped.{object_stamp, name_stamp, task_stamp, object-after, name-after, task-after, claim-after, stamped_so, claimed_so}

-- the durable world after a commit has its effects made
pub durable_committed : (run : RunNo) (e : Effects) (touched : List Item) (w : Stamped) → durable_of (committed run e touched w) ≡ after (next_entry w run e) (durable_of w)
durable_committed run e touched w =
    let n = w.commits + 1 in
    let p = published n e w in
    λ i. record {
      objects = (objects_of-restamped n touched p.objects ∙ values-without_keys ids_total exact_ids e.removed _ ∙ ap (without_keys e.removed) (values-with_set ids_total exact_ids n e.written w.objects)) i;
      names = (ids_of-restamped n touched p.names ∙ values-without_keys names_total exact_names e.unbound _ ∙ ap (without_keys e.unbound) (values-with_set names_total exact_names n e.bound w.names)) i;
      tasks = (durable-restamped n touched p.tasks ∙ durable-with_due_at e.requeued _
          ∙ ap (with_moved e.requeued) (durable-without_keys e.dropped _ ∙ ap (without_keys e.dropped) (durable-with_set n e.added w.tasks))) i;
      commits = n;
      last = last_with w.last run;
    }

-- and its stamps
pub stamps_committed : (run : RunNo) (e : Effects) (touched : List Item) (w : Stamped) → StampsAfter w (committed run e touched w) e touched
stamps_committed run e touched w (ask.Object id) h =
    stamped_so _ _ _ (w.commits + 1) (object_stamp w.objects id) _ (object-after (w.commits + 1) touched e.removed e.written w.objects id) h
stamps_committed run e touched w (ask.Bound name) h =
    stamped_so _ _ _ (w.commits + 1) (name_stamp w.names name) _ (name-after (w.commits + 1) touched e.unbound e.bound w.names name) h
stamps_committed run e touched w (ask.NextAfter after) h = cc
stamps_committed run e touched w (ask.Task key) h =
    stamped_so _ _ _ (w.commits + 1) (task_stamp w.tasks key) _ (task-after (w.commits + 1) touched e.requeued e.dropped e.added w.tasks key) h

-- and its claims
pub claims_committed : (run : RunNo) (e : Effects) (touched : List Item) (w : Stamped) → ClaimsAfter w (committed run e touched w) e
claims_committed run e touched w key t is =
    claimed_so _ _ (get w.tasks key) t.claimed (sym (ap (option_map (λ (t : Kept). t.claimed)) is) ∙ claim-after (w.commits + 1) touched e.requeued e.dropped e.added w.tasks key)

-- ---- effects of a step

same_itself : {X : Type 0} {same : X → X → Bool} → Tells same → (o : Option X) → same_value same o o ≡ true
same_itself t None = refl
same_itself t (Some x) = t.itself x

any-keys : {K X : Type 0} (f : K → Bool) (es : List (K × X)) → list_any (λ e. f e.0) es ≡ list_any f (map (λ e. e.0) es)
any-keys f [] = refl
any-keys f (e ∷ es) = ap (λ b. f e.0 || b) (any-keys f es)

any-map : {A B : Type 0} (f : B → Bool) (g : A → B) (xs : List A) → list_any f (map g xs) ≡ list_any (λ x. f (g x)) xs
any-map f g [] = refl
any-map f g (x ∷ xs) = ap (λ b. f (g x) || b) (any-map f g xs)

module _ {K X : Type 0} {R : K → K → Ordering} (o : IsTotalOrder R) (exact : IsAntisymmetric R) where
  -- whether a key is among the entries that pass
  kept_there : (m : FinMap R X) (p : K → Bool) (q : K) → list_any (λ e. eq_by_cmp R q e.0) (KeptIn m p) ≡ is_some (cond (p q) (get m q) None)
  kept_there m p q = any-keys (eq_by_cmp R q) (KeptIn m p) ∙ sym (is_some-find R q (KeptIn m p)) ∙ ap is_some (find-kept R o exact m p q)

  -- a key that has the same value in both is not set
  unset : {same : X → X → Bool} → Tells same → (a b : FinMap R X) (q : K) → get b q ≡ get a q → list_any (λ e. eq_by_cmp R q e.0) (set_in same a b) ≡ false
  unfolding set_in
  unset {same = same} t a b q e =
      kept_there b (λ k. not (same_value same (get a k) (get b k))) q
      ∙ ap (λ c. is_some (cond (not c) (get b q) None)) (ap (same_value same (get a q)) e ∙ same_itself t (get a q))

  -- a key that is new in b is not in a
  unadded : (a b : FinMap R X) (q : K) → (get a q ≡ None → get b q ≡ None) → list_any (λ e. eq_by_cmp R q e.0) (new_in a b) ≡ false
  unfolding new_in
  unadded a b q none =
      kept_there b (λ k. not (is_some (get a k))) q
      ∙ elim (get a q) as (λ r. get a q ≡ r → is_some (cond (not (is_some r)) (get b q) None) ≡ false) [ None ↦ λ e. ap is_some (none e) | Some x ↦ λ _. refl ] refl

no_task : (a b : Option Task) → task_answer b ≡ task_answer a → a ≡ None → b ≡ None
no_task None None e n = refl
no_task None (Some y) e n = cc
no_task (Some x) b e n = cc

added_there : (d next : DurableWorld) (key : TaskKey) → sets (effects d next) (ask.Task key) ≡ list_any (λ e. eq_by_cmp key_cmp key e.0) (new_in d.tasks next.tasks)
added_there d next key =
    any-map (λ p. same_key key p.key) pending_of (new_in d.tasks next.tasks)
    ∙ any-same (λ (e : TaskKey × Task). same_key key e.0) (λ e. eq_by_cmp key_cmp key e.0) (λ e. sym (key_test key e.0)) (new_in d.tasks next.tasks)

-- what the effects of a step set, the step lists
set_listed : (d : DurableWorld) (run : RunNo) (s : Stepped) → StepsFrom d run s → (item : Item) → list_any (same_item item) s.touched ≡ false → sets (effects d s.world) item ≡ false
set_listed d run s f (ask.Object id) h =
    any-same (λ (e : ObjectId × Object). same_id id e.0) (λ e. eq_by_cmp id_cmp id e.0) (λ e. sym (id_test id e.0)) (set_in same_object d.objects s.world.objects)
    ∙ unset ids_total exact_ids objects_told d.objects s.world.objects id (f.objects id (lacked (ask.Object id) (same_object_item id) s.touched h))
set_listed d run s f (ask.Bound name) h =
    any-same (λ (e : List ℕ × ObjectId). pointwise nat_eq name e.0) (λ e. eq_by_cmp bytes_cmp name e.0) (λ e. sym (name_test name e.0)) (set_in same_id d.names s.world.names)
    ∙ unset names_total exact_names ids_told d.names s.world.names name (f.names name (lacked (ask.Bound name) (same_name_item name) s.touched h))
set_listed d run s f (ask.NextAfter after) h = refl
set_listed d run s f (ask.Task key) h =
    added_there d s.world key
    ∙ unadded keys_total exact_keys d.tasks s.world.tasks key (no_task (get d.tasks key) (get s.world.tasks key) (f.tasks key (lacked (ask.Task key) (same_task_item key) s.touched h)))

-- ---- a step that is committed

or_listed : (a b : Bool) → (b ≡ false → a ≡ false) → (a || b) ≡ b
or_listed true true h = refl
or_listed true false h = h refl
or_listed false b h = refl

either_way : {A : Type 0} (b : Bool) (x : A) → cond b x x ≡ x
either_way true x = refl
either_way false x = refl

-- the world with other counts
numbered : DurableWorld → ℕ → Option RunNo → DurableWorld
numbered w n last = record w { commits = n; last = last }

-- what is seen of an item that the step wrote or left, by its stamps and by whether it stands
seen_after : (old new : Option ℕ) (was there touch : Bool) (n m : ℕ) → was ≡ is_some old → there ≡ is_some new → (is_some new ≡ true → new ≡ cond touch (Some n) old)
    → sight_of old ≡ seen_at was m → sight_of new ≡ seen_at there (cond touch n m)
seen_after old None was there touch n m a b f e = ap (λ c. seen_at c (cond touch n m)) (sym b)
seen_after old (Some k) was there true n m a b f e = ap sight.At (some_is k n (f refl)) ∙ ap (λ c. seen_at c n) (sym b)
seen_after old (Some k) was there false n m a b f e =
    let same : old ≡ Some k = sym (f refl) in
    ap sight_of (sym same) ∙ e ∙ ap (λ c. seen_at c m) (a ∙ ap is_some same) ∙ ap (λ c. seen_at c m) (sym b)

both_some : {A B C : Type 0} (f : A → B) (g : A → C) (r : Option A) → is_some (option_map f r) ≡ is_some (option_map g r)
both_some f g None = refl
both_some f g (Some x) = refl

pub object_there : (w : Stamped) (id : ObjectId) → is_some (get (durable_of w).objects id) ≡ is_some (stamp_in w (ask.Object id))
object_there w id = ap is_some (get_values (λ (s : Object × ℕ). s.0) w.objects id) ∙ both_some (λ s. s.0) (λ s. s.1) (get w.objects id)

pub name_there : (w : Stamped) (name : List ℕ) → is_some (get (durable_of w).names name) ≡ is_some (stamp_in w (ask.Bound name))
name_there w name = ap is_some (get_values (λ (s : ObjectId × ℕ). s.0) w.names name) ∙ both_some (λ s. s.0) (λ s. s.1) (get w.names name)

pub task_there : (w : Stamped) (key : TaskKey) → is_some (get (durable_of w).tasks key) ≡ is_some (stamp_in w (ask.Task key))
task_there w key = ap is_some (get-durable w.tasks key) ∙ both_some (λ (t : Kept). t.task) (λ t. t.stamp) (get w.tasks key)

module _ (old new : Stamped) (run : RunNo) (s : Stepped) (from : StepsFrom (durable_of old) run s) where
  abbrev before : DurableWorld
  before = durable_of old

  world_stepped : durable_of new ≡ after (next_entry old run (effects before s.world)) before → durable_of new ≡ s.world
  unfolding numbered
  world_stepped e =
      e ∙ ap (λ w. numbered w (old.commits + 1) (last_with old.last run)) (apply-effects before s.world from.due)
      ∙ (λ i. numbered s.world (sym from.commits i) (sym from.last i))

  touched_stepped : StampsAfter old new (effects before s.world) s.touched → (item : Item) → is_some (stamp_in new item) ≡ true
      → stamp_in new item ≡ cond (list_any (same_item item) s.touched) (Some s.world.commits) (stamp_in old item)
  touched_stepped stamps item h =
      let touch = list_any (same_item item) s.touched in
      stamps item h
      ∙ ap (λ b. cond b (Some (old.commits + 1)) (stamp_in old item)) (or_listed (sets (effects before s.world) item) touch (set_listed before run s from item))
      ∙ ap (λ n. cond touch (Some n) (stamp_in old item)) (sym from.commits)

  stamps_stepped : ((item : Item) → is_some (stamp_in new item) ≡ true → stamp_in new item ≡ cond (list_any (same_item item) s.touched) (Some s.world.commits) (stamp_in old item))
      → (stamps : Item → ℕ) → HasStamps stamps old → HasStamps (λ item. stamped_by item (stamps item) (Some s)) new
  stamps_stepped f stamps has (ask.Object id) = seen_after _ _ _ _ _ s.world.commits (stamps (ask.Object id)) (object_there old id) (object_there new id) (f (ask.Object id)) (has (ask.Object id))
  stamps_stepped f stamps has (ask.Bound name) = seen_after _ _ _ _ _ s.world.commits (stamps (ask.Bound name)) (name_there old name) (name_there new name) (f (ask.Bound name)) (has (ask.Bound name))
  stamps_stepped f stamps has (ask.NextAfter after) = refl
  stamps_stepped f stamps has (ask.Task key) = seen_after _ _ _ _ _ s.world.commits (stamps (ask.Task key)) (task_there old key) (task_there new key) (f (ask.Task key)) (has (ask.Task key))

  claims_stepped : ClaimsAfter old new (effects before s.world) → (key : TaskKey) (t : Kept) → get new.tasks key ≡ Some t → t.claimed ≡ claimed_at (get old.tasks key)
  claims_stepped claims key t is =
      claims key t is
      ∙ elim (get old.tasks key) as (λ r. get old.tasks key ≡ r → cond (sets (effects before s.world) (ask.Task key)) false (claimed_at r) ≡ claimed_at r) [
        | None ↦ λ _. either_way (sets (effects before s.world) (ask.Task key)) false
        | Some u ↦ λ e.
            let there : get before.tasks key ≡ Some u.task = get-durable old.tasks key ∙ ap (option_map (λ (t : Kept). t.task)) e in
            ap (λ b. cond b false u.claimed) (added_there before s.world key ∙ unadded keys_total exact_keys before.tasks s.world.tasks key (λ none. cc))
      ] refl

  -- the three clauses of a commit lead to what the step leaves
  pub comes_to : (e : Effects) (touched : List Item) → e ≡ effects before s.world → touched ≡ s.touched
      → durable_of new ≡ after (next_entry old run e) before → StampsAfter old new e touched → ClaimsAfter old new e → ComesTo old new s
  comes_to e touched f g world stamps claims =
      let listed = touched_stepped (subst (λ x. StampsAfter old new x s.touched) f (subst (λ xs. StampsAfter old new e xs) g stamps)) in
      record {
        world = world_stepped (world ∙ ap (λ x. after (next_entry old run x) before) f);
        stamps = stamps_stepped listed;
        touched = listed;
        claims = claims_stepped (subst (λ x. ClaimsAfter old new x) f claims);
      }

-- ---- by the clauses of `publish`

-- what is left but for the room that is spare, for effects and items that are the same
pub left_by : (old new : Stamped) (run : RunNo) (e f : Effects) (xs ys : List Item) → new ≡ with_room new.room (committed run e xs old) → e ≡ f → xs ≡ ys → new ≡ with_room new.room (committed run f ys old)
left_by old new run e f xs ys is p q = is ∙ (λ i. with_room new.room (committed run (p i) (q i) old))

module _ (old new : Stamped) (run : RunNo) (e : Effects) (touched : List Item) (is : new ≡ with_room new.room (committed run e touched old)) where
  pub durable_left : durable_of new ≡ after (next_entry old run e) (durable_of old)
  durable_left = ap durable_of is ∙ durable_committed run e touched old

  pub stamps_left : StampsAfter old new e touched
  stamps_left = subst (λ w. StampsAfter old w e touched) (sym is) (stamps_committed run e touched old)

  pub claims_left : ClaimsAfter old new e
  claims_left = subst (λ w. ClaimsAfter old w e) (sym is) (claims_committed run e touched old)
