-- An entry's lists are in order, and the effects fit exactly where each list is a change.
use Rattle.std.proofs.Common.{◌≡◌, ℕ, map, List, [], ◌∷◌, refl, ap, subst}
use Rattle.dk_types.specs.declared.number.ObjectId.{ObjectId}
use Rattle.dk_types.specs.declared.number.TaskKey.{TaskKey}
use Rattle.dk_types.specs.declared.object.Object.{Object}
use Rattle.dk_types.specs.declared.durable.Pending.{Pending}
use Rattle.dk_types.specs.Names.{bytes_cmp}
use Rattle.dk_types.specs.Lists.{IsList}
use Rattle.dk_map.specs.Entries.{IsOrdered}
use Rattle.dk_model.specs.Keys.{id_cmp, key_cmp}
use Rattle.dk_model.specs.Entries.{IsObjectItem, IsIdItem, IsBinding, IsNameItem, IsPendingItem, IsKeyItem, IsMovedItem}
use Rattle.dk_model.specs.Effects.{task_of}
use Rattle.dk_model.proofs.Maps.{ids_total, names_total, keys_total}
use Rattle.dk_recover.proofs.Found.{bare}
use Rattle.dk_recover.proofs.Ascending.{in_order}

same_list : {A : Type 0} (xs : List A) → map (λ x. x) xs ≡ xs
same_list [] = refl
same_list {A} (x ∷ xs) = ap (λ (l : List A). x ∷ l) (same_list xs)

pub objects_in_order : (format : ℕ) (es : List (ObjectId × Object)) → IsList (IsObjectItem format) es → IsOrdered id_cmp es
objects_in_order format es is = subst (IsOrdered id_cmp) (same_list es)
    (in_order id_cmp ids_total (λ (e : ObjectId × Object). e.0) (λ (e : ObjectId × Object). e) (λ x. refl) (IsObjectItem format) (λ before x fits. fits.above) es is)

pub names_in_order : (es : List (List ℕ × ObjectId)) → IsList IsBinding es → IsOrdered bytes_cmp es
names_in_order es is = subst (IsOrdered bytes_cmp) (same_list es)
    (in_order bytes_cmp names_total (λ (e : List ℕ × ObjectId). e.0) (λ (e : List ℕ × ObjectId). e) (λ x. refl) IsBinding (λ before x fits. fits.above) es is)

pub moved_in_order : (es : List (TaskKey × ℕ)) → IsList IsMovedItem es → IsOrdered key_cmp es
moved_in_order es is = subst (IsOrdered key_cmp) (same_list es)
    (in_order key_cmp keys_total (λ (e : TaskKey × ℕ). e.0) (λ (e : TaskKey × ℕ). e) (λ x. refl) IsMovedItem (λ before x fits. fits.above) es is)

pub tasks_in_order : (format : ℕ) (ps : List Pending) → IsList (IsPendingItem format) ps → IsOrdered key_cmp (map task_of ps)
tasks_in_order format ps is = in_order key_cmp keys_total (λ (p : Pending). p.key) task_of (λ x. refl) (IsPendingItem format) (λ before x fits. fits.above) ps is

pub ids_in_order : (ids : List ObjectId) → IsList IsIdItem ids → IsOrdered id_cmp (bare ids)
ids_in_order ids is = in_order id_cmp ids_total (λ (id : ObjectId). id) (λ (id : ObjectId). (id, 0)) (λ x. refl) IsIdItem (λ before x fits. fits.1) ids is

pub unbound_in_order : (names : List (List ℕ)) → IsList IsNameItem names → IsOrdered bytes_cmp (bare names)
unbound_in_order names is = in_order bytes_cmp names_total (λ (name : List ℕ). name) (λ (name : List ℕ). (name, 0)) (λ x. refl) IsNameItem (λ before x fits. fits.1) names is

pub dropped_in_order : (keys : List TaskKey) → IsList IsKeyItem keys → IsOrdered key_cmp (bare keys)
dropped_in_order keys is = in_order key_cmp keys_total (λ (key : TaskKey). key) (λ (key : TaskKey). (key, 0)) (λ x. refl) IsKeyItem (λ before x fits. fits.1) keys is
