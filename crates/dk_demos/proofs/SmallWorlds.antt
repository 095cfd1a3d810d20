-- The effects between two worlds that have few and short parts are not too large.
use Rattle.std.proofs.Common.{◌≡◌, ℕ, ◌+◌, ◌*◌, ◌≤◌, Bool, true, false, cond, not, map, length, is_some, Option, Some, None, List, [], ◌∷◌, refl, sym, ap, subst, ◌∙◌, arith}
use Rattle.std.specs.declared.cmp.Ordering.{Ordering}
use Rattle.std.specs.declared.cmp.Ordering.TheVariants.{Equal}
use Rattle.std.specs.List.{AllByRecursion, sum_by, filter}
use Rattle.std.proofs.lemmas.List.Sums.{sum_by-cons}
use Rattle.std.proofs.lemmas.Bool.{le-ltb}
use Rattle.std.specs.Cmp.{IsTotalOrder}
use Rattle.std.specs.FinMap.{FinMap, IsAntisymmetric, get, len, entries, retain_keys, entries_sorted, get-entries, get-retain_keys, len-entries}
use Rattle.std.specs.FinMap.Entries.{where_key, is_sorted-where_key, find-where_key, same_entries}
use Rattle.dk_types.specs.declared.number.ObjectId.{ObjectId}
use Rattle.dk_types.specs.declared.number.TaskKey.{TaskKey}
use Rattle.dk_types.specs.declared.object.Object.{Object}
use Rattle.dk_types.specs.declared.limits.TheConstants.{EFFECTS_MOST_BYTES}
use Rattle.dk_model.specs.DurableWorlds.{DurableWorld, Task}
use Rattle.dk_model.specs.Effects.{set_in, gone_in, new_in, moved_in, is_moved, same_id, same_object, same_value, pending_of, effects, effects_length, object_length, binding_length, name_length, pending_length}
use Rattle.dk_model.specs.Steps.{is_too_large}
use Rattle.dk_model.proofs.Maps.{ids_total, exact_ids, keys_total, exact_keys, names_total, exact_names}
use Rattle.dk_laws.proofs.Entries.{all_entries}

-- few objects, names and tasks, of few bytes each
pub record IsSmallWorld (d : DurableWorld) : Type 0 where
  pub objects : len d.objects ≤ 16
  pub bodies : (id : ObjectId) (object : Object) → get d.objects id ≡ Some object → length object.bytes ≤ 8
  pub names : len d.names ≤ 16
  pub texts : (name : List ℕ) (id : ObjectId) → get d.names name ≡ Some id → length name ≤ 4
  pub tasks : len d.tasks ≤ 65536
  pub args : (key : TaskKey) (task : Task) → get d.tasks key ≡ Some task → length task.arg ≤ 1

-- a sum of numbers up to a bound
sum_most : {A : Type 0} (f : A → ℕ) (most : ℕ) (xs : List A) → AllByRecursion (λ x. f x ≤ most) xs → sum_by f xs ≤ most * length xs
sum_most f most [] all = omega arith
sum_most f most (x ∷ xs) all =
    let rest = sum_most f most xs all.1 in
    let sum = sum_by-cons f x xs in
    let first : f x ≤ most = all.0 in omega (arith, rest, sum, first)

map_sum : {A B : Type 0} (f : B → ℕ) (g : A → B) (xs : List A) → sum_by f (map g xs) ≡ sum_by (λ x. f (g x)) xs
map_sum f g [] = refl
map_sum f g (x ∷ xs) = sum_by-cons f (g x) (map g xs) ∙ ap (λ n. f (g x) + n) (map_sum f g xs) ∙ sym (sum_by-cons (λ x. f (g x)) x xs)

filter_most : {A : Type 0} (p : A → Bool) (xs : List A) → length (filter p xs) ≤ length xs
filter_most p [] = omega arith
filter_most p (x ∷ xs) =
    let rest = filter_most p xs in
    elim (p x) as (λ b. length (cond b (x ∷ filter p xs) (filter p xs)) ≤ length (x ∷ xs)) [ true ↦ omega (arith, rest) | false ↦ omega (arith, rest) ]

kept_some : {X : Type 0} (b : Bool) (o : Option X) (x : X) → cond b o None ≡ Some x → o ≡ Some x
kept_some true o x e = e
kept_some false o x e = absurd cc

alike : {K : Type 0} {R : K → K → Ordering} → IsAntisymmetric R → (p : K → Bool) (q x : K) → R q x ≡ Equal → p x ≡ p q
alike exact p q x t = ap p (sym (exact q x t))

mul_most : (a b c : ℕ) → b ≤ c → a * b ≤ a * c
mul_most a b c h = grind arith

module _ {K X : Type 0} {R : K → K → Ordering} (total : IsTotalOrder R) (exact : IsAntisymmetric R) where
  kept_entries : (m : FinMap R X) (p : K → Bool) → entries (retain_keys m p) ≡ where_key R p (entries m)
  kept_entries m p = same_entries R total exact _ _ (entries_sorted _) (is_sorted-where_key R p (entries m) (entries_sorted m)) (λ q.
      sym (get-entries _ q) ∙ get-retain_keys m p q (alike exact p q) ∙ ap (λ o. cond (p q) o None) (get-entries m q) ∙ sym (find-where_key R p q (alike exact p q) (entries m)))

  -- what is kept of a map sums up to no more than its length and a bound on each
  kept_most : (m : FinMap R X) (p : K → Bool) (f : K × X → ℕ) (most : ℕ) → ((k : K) (x : X) → get m k ≡ Some x → f (k, x) ≤ most) → sum_by f (entries (retain_keys m p)) ≤ most * len m
  kept_most m p f most each =
      let all = all_entries total (λ e. f e ≤ most) (retain_keys m p) (λ k x e. each k x (kept_some (p k) (get m k) x (sym (get-retain_keys m p k (alike exact p k)) ∙ e))) in
      let sum = sum_most f most (entries (retain_keys m p)) all in
      let fewer : length (entries (retain_keys m p)) ≤ len m = subst (λ n. length (entries (retain_keys m p)) ≤ n) (sym (len-entries m)) (subst (λ es. length es ≤ length (entries m)) (sym (kept_entries m p)) (filter_most (λ e. p e.0) (entries m))) in
      let more = mul_most most (length (entries (retain_keys m p))) (len m) fewer in
      omega (arith, sum, more)

  -- and so does what it is mapped to
  mapped_most : {B : Type 0} (m : FinMap R X) (p : K → Bool) (g : K × X → B) (f : B → ℕ) (most : ℕ) → ((k : K) (x : X) → get m k ≡ Some x → f (g (k, x)) ≤ most) → sum_by f (map g (entries (retain_keys m p))) ≤ most * len m
  mapped_most m p g f most each = subst (λ n. n ≤ most * len m) (sym (map_sum f g (entries (retain_keys m p)))) (kept_most m p (λ e. f (g e)) most each)

module _ (a b : DurableWorld) (s : IsSmallWorld a) (t : IsSmallWorld b) where
  written : sum_by object_length (set_in same_object a.objects b.objects) ≤ 26 * len b.objects
  unfolding set_in
  written = kept_most ids_total exact_ids b.objects (λ k. not (same_value same_object (get a.objects k) (get b.objects k))) object_length 26 (λ id object e. let h = t.bodies id object e in omega (arith, h))

  removed : sum_by (λ id. 12) (gone_in a.objects b.objects) ≤ 12 * len a.objects
  unfolding gone_in
  removed = mapped_most ids_total exact_ids a.objects (λ k. not (is_some (get b.objects k))) (λ (e : ObjectId × Object). e.0) (λ (id : ObjectId). 12) 12 (λ id object e. omega arith)

  bound : sum_by binding_length (set_in same_id a.names b.names) ≤ 17 * len b.names
  unfolding set_in
  bound = kept_most names_total exact_names b.names (λ k. not (same_value same_id (get a.names k) (get b.names k))) binding_length 17 (λ name id e. let h = t.texts name id e in omega (arith, h))

  unbound : sum_by name_length (gone_in a.names b.names) ≤ 5 * len a.names
  unfolding gone_in
  unbound = mapped_most names_total exact_names a.names (λ k. not (is_some (get b.names k))) (λ (e : List ℕ × ObjectId). e.0) name_length 5 (λ name id e. let h = s.texts name id e in omega (arith, h))

  added : sum_by pending_length (map pending_of (new_in a.tasks b.tasks)) ≤ 35 * len b.tasks
  unfolding new_in
  added = mapped_most keys_total exact_keys b.tasks (λ k. not (is_some (get a.tasks k))) pending_of pending_length 35 (λ key task e. let h = t.args key task e in omega (arith, h))

  dropped : sum_by (λ key. 12) (gone_in a.tasks b.tasks) ≤ 12 * len a.tasks
  unfolding gone_in
  dropped = mapped_most keys_total exact_keys a.tasks (λ k. not (is_some (get b.tasks k))) (λ (e : TaskKey × Task). e.0) (λ (key : TaskKey). 12) 12 (λ key task e. omega arith)

  requeued : sum_by (λ moved. 20) (moved_in a.tasks b.tasks) ≤ 20 * len b.tasks
  unfolding moved_in
  requeued = mapped_most keys_total exact_keys b.tasks (λ k. is_moved (get a.tasks k) (get b.tasks k)) (λ (e : TaskKey × Task). (e.0, e.1.due)) (λ (moved : TaskKey × ℕ). 20) 20 (λ key task e. omega arith)

  effects_most : effects_length (effects a b) ≤ EFFECTS_MOST_BYTES
  effects_most =
      let p0 = s.objects in
      let p1 = s.names in
      let p2 = s.tasks in
      let p3 = t.objects in
      let p4 = t.names in
      let p5 = t.tasks in
      omega (arith, written, removed, bound, unbound, added, dropped, requeued, p0, p1, p2, p3, p4, p5)

  -- the effects from one to the other may be written
  pub small_effects : is_too_large a b ≡ false
  unfolding is_too_large
  small_effects = le-ltb EFFECTS_MOST_BYTES (effects_length (effects a b)) effects_most
