-- A valid world is valid again where it is opened from its lists.
use Rattle.std.proofs.Common.{◌≡◌, Some, List, [], ◌∷◌, map, refl, sym, ap, subst, inl, inr}
use Rattle.std.specs.List.{AllByRecursion}
use Rattle.std.specs.declared.cmp.Ordering.{Ordering}
use Rattle.std.specs.Cmp.{IsTotalOrder}
use Rattle.std.specs.FinMap.{FinMap, IsAntisymmetric, get, insert, entries, empty, get-empty}
use Rattle.dk_types.specs.declared.number.TaskKey.{TaskKey}
use Rattle.dk_types.specs.Names.{IsName}
use Rattle.dk_model.specs.Keys.{key_cmp}
use Rattle.dk_model.specs.DurableWorlds.{DurableWorld, Task}
use Rattle.dk_model.specs.Effects.{with_set, task_of, pending_of}
use Rattle.dk_model.specs.Validity.{IsValid, IsNumbered, IsCommitted, IsObject, IsTask}
use Rattle.dk_model.proofs.Maps.{ids_total, exact_ids, names_total, exact_names, keys_total, exact_keys, get-with_value_cases, not_both, some_is}
use Rattle.dk_laws.proofs.Entries.{all_entries}
use Rattle.dk_core.specs.Listings.{world_of, listed}

module _ {K X : Type 0} {R : K → K → Ordering} (total : IsTotalOrder R) (exact : IsAntisymmetric R) (P : K × X → Type 0) where
  -- what holds of each entry that is set, and of those before, holds of each in the end
  set_has : (es : List (K × X)) (m : FinMap R X) → AllByRecursion P es → ((k : K) (x : X) → get m k ≡ Some x → P (k, x)) → (k : K) (x : X) → get (with_set es m) k ≡ Some x → P (k, x)
  set_has [] m all h k x e = h k x e
  set_has (e ∷ es) m all h k x g = set_has es (insert m e.0 e.1) all.1 (λ q y f. elim (get-with_value_cases total exact m e.0 (Some e.1) q y f) [
    | inl set ↦ subst (λ (p : K × X). P p) (λ i. (sym set.0 i, some_is e.1 y set.1 i)) all.0
    | inr old ↦ h q y old
  ]) k x g

  -- what holds of each entry of a map holds of those of the map that its list makes
  listed_has : (m : FinMap R X) → ((k : K) (x : X) → get m k ≡ Some x → P (k, x)) → (k : K) (x : X) → get (with_set (entries m) (empty {R = R})) k ≡ Some x → P (k, x)
  listed_has m h = set_has (entries m) empty (all_entries total P m h) (λ k x e. not_both _ x e (get-empty R k))

same_tasks : (es : List (TaskKey × Task)) → map task_of (map pending_of es) ≡ es
same_tasks [] = refl
same_tasks (e ∷ es) = ap (λ (l : List (TaskKey × Task)). e ∷ l) (same_tasks es)

pub reopened : (d : DurableWorld) → IsValid d → IsValid (world_of (listed d))
reopened d v = record {
  objects = listed_has ids_total exact_ids (λ p. IsNumbered p.0.run p.0.k × IsCommitted d.last p.0.run × IsObject p.1) d.objects v.objects;
  names = listed_has names_total exact_names (λ p. IsName p.0 × IsNumbered p.1.run p.1.k) d.names v.names;
  tasks = λ key task e. listed_has keys_total exact_keys (λ p. IsNumbered p.0.run p.0.k × IsCommitted d.last p.0.run × IsTask p.1) d.tasks v.tasks key task
      (subst (λ (l : List (TaskKey × Task)). get {R = key_cmp} (with_set l empty) key ≡ Some task) (same_tasks (entries d.tasks)) e);
  last = v.last;
  commits = v.commits;
  begun = v.begun;
}
