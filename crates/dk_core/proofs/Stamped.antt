-- The stamps and the claims after each change of the stores.
use Rattle.std.proofs.Common.{◌≡◌, ℕ, refl, ap, ◌∙◌, Bool, true, false, cond, ◌||◌, nat_eq, List, [], ◌∷◌, map, Option, None, Some, is_some}
use Rattle.std.specs.Cmp.Lexicographic.{pointwise}
use Rattle.std.specs.Ordering.{eq_by_cmp}
use Rattle.std.specs.Option.{option_map}
use Rattle.std.specs.List.{list_any}
use Rattle.std.specs.FinMap.{FinMap, get}
use Rattle.dk_types.specs.declared.number.ObjectId.{ObjectId}
use Rattle.dk_types.specs.declared.number.TaskKey.{TaskKey}
use Rattle.dk_types.specs.declared.object.Object.{Object}
use Rattle.dk_types.specs.declared.item.Item.{Item}
use Rattle.dk_types.specs.declared.item.Item.TheVariants as ask
use Rattle.dk_types.specs.declared.durable.Pending.{Pending}
use Rattle.dk_types.specs.Names.{bytes_cmp}
use Rattle.dk_types.specs.Keys.{id_cmp, key_cmp}
use Rattle.dk_model.specs.Effects.{same_id, with_set, without_keys}
use Rattle.dk_model.specs.Sights.{same_item, same_key}
use Rattle.dk_model.proofs.Maps.{ids_total, exact_ids, keys_total, exact_keys, names_total, exact_names}
use Rattle.dk_objects.specs.StampedObjects as objects
use Rattle.dk_names.specs.Bindings as names
use Rattle.dk_names.specs.Bindings.{StampedNames}
use Rattle.dk_tasks.specs.Tasks.{Kept, with_due, with_stamp, changed_at}
use Rattle.dk_core.specs.Publishing.{stamped_entry, unclaimed_entry, with_due_at, objects_restamped, names_restamped, tasks_restamped}
use Rattle.dk_core.specs.Commits.{claimed_at}
use Rattle.dk_core.proofs.MapFacts.{any-same, mapped-same, part-Changed, given-Changed, part-with_set, part-without_keys}
use Rattle.dk_core.proofs.Keys.{id_test, name_test, key_test}

-- one stamp after another
twice_given : (a b : Bool) (n : ℕ) (r : Option ℕ) → option_map (λ s. cond a n s) (option_map (λ s. cond b n s) r) ≡ option_map (λ s. cond (b || a) n s) r
twice_given a b n None = refl
twice_given true true n (Some s) = refl
twice_given true false n (Some s) = refl
twice_given false true n (Some s) = refl
twice_given false false n (Some s) = refl

abbrev pub object_stamp : FinMap id_cmp (Object × ℕ) → ObjectId → Option ℕ
object_stamp m id = option_map (λ s. s.1) (get m id)

abbrev pub name_stamp : StampedNames → List ℕ → Option ℕ
name_stamp m name = option_map (λ s. s.1) (get m name)

abbrev pub task_stamp : FinMap key_cmp Kept → TaskKey → Option ℕ
task_stamp m key = option_map (λ t. t.stamp) (get m key)

abbrev pub task_claim : FinMap key_cmp Kept → TaskKey → Option Bool
task_claim m key = option_map (λ t. t.claimed) (get m key)

-- what stands gets the stamp where it is among the items
abbrev Touched : ℕ → List Item → Item → Option ℕ → Option ℕ
Touched n xs item r = option_map (λ s. cond (list_any (same_item item) xs) n s) r

object-restamped : (n : ℕ) (xs : List Item) (m : FinMap id_cmp (Object × ℕ)) (id : ObjectId) → object_stamp (objects_restamped n xs m) id ≡ Touched n xs (ask.Object id) (object_stamp m id)
object-restamped n [] m id = mapped-same (object_stamp m id)
object-restamped n (ask.Object k ∷ xs) m id =
    object-restamped n xs (objects.restamped n k m) id
    ∙ ap (Touched n xs (ask.Object id)) (given-Changed ids_total exact_ids (λ (s : Object × ℕ). s.1) (λ s. (s.0, n)) n (λ _. refl) m k id ∙ ap (λ b. option_map (λ s. cond b n s) (object_stamp m id)) (id_test id k))
    ∙ twice_given (list_any (same_item (ask.Object id)) xs) (same_id id k) n (object_stamp m id)
object-restamped n (ask.Bound name ∷ xs) m id = object-restamped n xs m id
object-restamped n (ask.NextAfter after ∷ xs) m id = object-restamped n xs m id
object-restamped n (ask.Task key ∷ xs) m id = object-restamped n xs m id

name-restamped : (n : ℕ) (xs : List Item) (m : StampedNames) (name : List ℕ) → name_stamp (names_restamped n xs m) name ≡ Touched n xs (ask.Bound name) (name_stamp m name)
name-restamped n [] m name = mapped-same (name_stamp m name)
name-restamped n (ask.Object id ∷ xs) m name = name-restamped n xs m name
name-restamped n (ask.Bound k ∷ xs) m name =
    name-restamped n xs (names.restamped n k m) name
    ∙ ap (Touched n xs (ask.Bound name)) (given-Changed names_total exact_names (λ (s : ObjectId × ℕ). s.1) (λ s. (s.0, n)) n (λ _. refl) m k name ∙ ap (λ b. option_map (λ s. cond b n s) (name_stamp m name)) (name_test name k))
    ∙ twice_given (list_any (same_item (ask.Bound name)) xs) (pointwise nat_eq name k) n (name_stamp m name)
name-restamped n (ask.NextAfter after ∷ xs) m name = name-restamped n xs m name
name-restamped n (ask.Task key ∷ xs) m name = name-restamped n xs m name

task-restamped : (n : ℕ) (xs : List Item) (m : FinMap key_cmp Kept) (key : TaskKey) → task_stamp (tasks_restamped n xs m) key ≡ Touched n xs (ask.Task key) (task_stamp m key)
task-restamped n [] m key = mapped-same (task_stamp m key)
task-restamped n (ask.Object id ∷ xs) m key = task-restamped n xs m key
task-restamped n (ask.Bound name ∷ xs) m key = task-restamped n xs m key
task-restamped n (ask.NextAfter after ∷ xs) m key = task-restamped n xs m key
task-restamped n (ask.Task k ∷ xs) m key =
    task-restamped n xs (changed_at (with_stamp n) k m) key
    ∙ ap (Touched n xs (ask.Task key)) (given-Changed keys_total exact_keys (λ (t : Kept). t.stamp) (with_stamp n) n (λ _. refl) m k key ∙ ap (λ b. option_map (λ s. cond b n s) (task_stamp m key)) (key_test key k))
    ∙ twice_given (list_any (same_item (ask.Task key)) xs) (same_key key k) n (task_stamp m key)

claim-restamped : (n : ℕ) (xs : List Item) (m : FinMap key_cmp Kept) (key : TaskKey) → task_claim (tasks_restamped n xs m) key ≡ task_claim m key
claim-restamped n [] m key = refl
claim-restamped n (ask.Object id ∷ xs) m key = claim-restamped n xs m key
claim-restamped n (ask.Bound name ∷ xs) m key = claim-restamped n xs m key
claim-restamped n (ask.NextAfter after ∷ xs) m key = claim-restamped n xs m key
claim-restamped n (ask.Task k ∷ xs) m key =
    claim-restamped n xs (changed_at (with_stamp n) k m) key ∙ part-Changed keys_total exact_keys (λ (t : Kept). t.claimed) (with_stamp n) (λ _. refl) m k key

-- a new due moment leaves a part of each task that is not its due moment
part-due : {Y : Type 0} (p : Kept → Y) → ((due : ℕ) (t : Kept) → p (with_due due t) ≡ p t) → (es : List (TaskKey × ℕ)) (m : FinMap key_cmp Kept) (key : TaskKey)
    → option_map p (get (with_due_at es m) key) ≡ option_map p (get m key)
part-due p h [] m key = refl
part-due p h (e ∷ es) m key = part-due p h es (changed_at (with_due e.1) e.0 m) key ∙ part-Changed keys_total exact_keys p (with_due e.1) (h e.1) m e.0 key

-- what is at a key once entries are set with y, and keys are gone
abbrev After : {Y : Type 0} → Bool → Bool → Y → Option Y → Option Y
After gone set y r = cond gone None (cond set (Some y) r)

pub object-after : (n : ℕ) (xs : List Item) (gone : List ObjectId) (es : List (ObjectId × Object)) (m : FinMap id_cmp (Object × ℕ)) (id : ObjectId)
    → object_stamp (objects_restamped n xs (without_keys gone (with_set (map (stamped_entry n) es) m))) id
    ≡ Touched n xs (ask.Object id) (After (list_any (eq_by_cmp id_cmp id) gone) (list_any (λ e. same_id id e.0) es) n (object_stamp m id))
object-after n xs gone es m id =
    object-restamped n xs (without_keys gone (with_set (map (stamped_entry n) es) m)) id
    ∙ ap (Touched n xs (ask.Object id)) (part-without_keys ids_total exact_ids (λ (s : Object × ℕ). s.1) gone (with_set (map (stamped_entry n) es) m) id
    ∙ ap (cond (list_any (eq_by_cmp id_cmp id) gone) None) (part-with_set ids_total exact_ids (λ (s : Object × ℕ). s.1) (stamped_entry n) n (λ _. refl) es m id
    ∙ ap (λ b. cond b (Some n) (object_stamp m id)) (any-same (λ (e : ObjectId × Object). eq_by_cmp id_cmp id e.0) (λ e. same_id id e.0) (λ e. id_test id e.0) es)))

pub name-after : (n : ℕ) (xs : List Item) (gone : List (List ℕ)) (es : List (List ℕ × ObjectId)) (m : StampedNames) (name : List ℕ)
    → name_stamp (names_restamped n xs (without_keys gone (with_set (map (stamped_entry n) es) m))) name
    ≡ Touched n xs (ask.Bound name) (After (list_any (eq_by_cmp bytes_cmp name) gone) (list_any (λ e. pointwise nat_eq name e.0) es) n (name_stamp m name))
name-after n xs gone es m name =
    name-restamped n xs (without_keys gone (with_set (map (stamped_entry n) es) m)) name
    ∙ ap (Touched n xs (ask.Bound name)) (part-without_keys names_total exact_names (λ (s : ObjectId × ℕ). s.1) gone (with_set (map (stamped_entry n) es) m) name
    ∙ ap (cond (list_any (eq_by_cmp bytes_cmp name) gone) None) (part-with_set names_total exact_names (λ (s : ObjectId × ℕ). s.1) (stamped_entry n) n (λ _. refl) es m name
    ∙ ap (λ b. cond b (Some n) (name_stamp m name)) (any-same (λ (e : List ℕ × ObjectId). eq_by_cmp bytes_cmp name e.0) (λ e. pointwise nat_eq name e.0) (λ e. name_test name e.0) es)))

-- the tasks once new ones are added, others gone and others moved
abbrev Made : ℕ → List (TaskKey × ℕ) → List TaskKey → List Pending → FinMap key_cmp Kept → FinMap key_cmp Kept
Made n moved gone added m = with_due_at moved (without_keys gone (with_set (map (unclaimed_entry n) added) m))

part-made : {Y : Type 0} (p : Kept → Y) (y : Y) → ((due : ℕ) (t : Kept) → p (with_due due t) ≡ p t) → (n : ℕ) → ((q : Pending) → p (unclaimed_entry n q).1 ≡ y)
    → (moved : List (TaskKey × ℕ)) (gone : List TaskKey) (added : List Pending) (m : FinMap key_cmp Kept) (key : TaskKey)
    → option_map p (get (Made n moved gone added m) key) ≡ After (list_any (eq_by_cmp key_cmp key) gone) (list_any (λ q. same_key key q.key) added) y (option_map p (get m key))
part-made p y h n f moved gone added m key =
    part-due p h moved (without_keys gone (with_set (map (unclaimed_entry n) added) m)) key
    ∙ part-without_keys keys_total exact_keys p gone (with_set (map (unclaimed_entry n) added) m) key
    ∙ ap (cond (list_any (eq_by_cmp key_cmp key) gone) None) (part-with_set keys_total exact_keys p (unclaimed_entry n) y f added m key
    ∙ ap (λ b. cond b (Some y) (option_map p (get m key))) (any-same (λ (q : Pending). eq_by_cmp key_cmp key q.key) (λ q. same_key key q.key) (λ q. key_test key q.key) added))

pub task-after : (n : ℕ) (xs : List Item) (moved : List (TaskKey × ℕ)) (gone : List TaskKey) (added : List Pending) (m : FinMap key_cmp Kept) (key : TaskKey)
    → task_stamp (tasks_restamped n xs (Made n moved gone added m)) key
    ≡ Touched n xs (ask.Task key) (After (list_any (eq_by_cmp key_cmp key) gone) (list_any (λ q. same_key key q.key) added) n (task_stamp m key))
task-after n xs moved gone added m key =
    task-restamped n xs (Made n moved gone added m) key
    ∙ ap (Touched n xs (ask.Task key)) (part-made (λ t. t.stamp) n (λ _ _. refl) n (λ _. refl) moved gone added m key)

pub claim-after : (n : ℕ) (xs : List Item) (moved : List (TaskKey × ℕ)) (gone : List TaskKey) (added : List Pending) (m : FinMap key_cmp Kept) (key : TaskKey)
    → task_claim (tasks_restamped n xs (Made n moved gone added m)) key ≡ After (list_any (eq_by_cmp key_cmp key) gone) (list_any (λ q. same_key key q.key) added) false (task_claim m key)
claim-after n xs moved gone added m key =
    claim-restamped n xs (Made n moved gone added m) key ∙ part-made (λ t. t.claimed) false (λ _ _. refl) n (λ _. refl) moved gone added m key

-- what stands after is stamped where it was set or touched, and else as it was
pub stamped_so : (touched set gone : Bool) (n : ℕ) (old new : Option ℕ) → new ≡ option_map (λ s. cond touched n s) (After gone set n old) → is_some new ≡ true → new ≡ cond (set || touched) (Some n) old
stamped_so touched set true n old new e h = let none : is_some new ≡ false = ap is_some e in cc
stamped_so true true false n old new e h = e
stamped_so false true false n old new e h = e
stamped_so touched false false n None new e h = let none : is_some new ≡ false = ap is_some e in cc
stamped_so true false false n (Some s) new e h = e
stamped_so false false false n (Some s) new e h = e

-- what stands after is claimed where it was, and not where it was set
pub claimed_so : (gone set : Bool) (old : Option Kept) (new : Bool) → Some new ≡ After gone set false (option_map (λ (t : Kept). t.claimed) old) → new ≡ cond set false (claimed_at old)
claimed_so true set old new e = cc
claimed_so false true old new e = cc
claimed_so false false None new e = cc
claimed_so false false (Some t) new e = cc
