-- The two trees stay in step where a task is taken out, added, or changed in its place.
use Rattle.std.proofs.Common.{◌≡◌, ◌+◌, ◌&&◌, not, length, arith, refl, sym, ap, subst, ◌∙◌, Bool, true, false, cond, List, Option, None, Some, is_some}
use Rattle.std.specs.List.{AllByRecursion}
use Rattle.std.specs.Ordering.{is_eq, eq_by_cmp}
use Rattle.std.specs.Cmp.{tied_itself}
use Rattle.std.specs.FinMap.Entries.{find-put}
use Rattle.dk_types.specs.declared.number.TaskKey.{TaskKey}
use Rattle.dk_map.specs.Entries.{find, put, without, IsOrdered}
use Rattle.dk_model.specs.Keys.{key_cmp}
use Rattle.dk_tasks.specs.Places.{place_cmp, place_of, is_placed, held_count, IsKeyed, IsInStep}
use Rattle.dk_tasks.specs.declared.stored.Stored.{Stored}
use Rattle.dk_tasks.specs.declared.stored.TaskRank.{TaskRank}
use Rattle.dk_map.proofs.Counts.{ordered_put, length_put_new, length_put_same, length_without_one}
use Rattle.dk_map.proofs.Seen.{without_absent}
use Rattle.dk_tasks.proofs.Found.{tied, find-without, put_again, All-filter, All-put}
use Rattle.dk_tasks.proofs.Held.{one_held, held_without, held_changed, held_put}
use Rattle.dk_tasks.proofs.Orders.{key_total, key_same, place_total, place_same}

-- equal keys pass the test
pub key_is : (j k : TaskKey) → j ≡ k → eq_by_cmp key_cmp j k ≡ true
key_is j k e = ap (λ q. eq_by_cmp key_cmp j q) (sym e) ∙ ap is_eq (tied_itself key_total j)

-- a place of one key is none of another
apart : (q : TaskRank) (k : TaskKey) (s : Stored) → eq_by_cmp key_cmp q.key k ≡ false → eq_by_cmp place_cmp q (place_of k s) ≡ false
apart q k s t =
    elim (eq_by_cmp place_cmp q (place_of k s)) as (λ b. eq_by_cmp place_cmp q (place_of k s) ≡ b → b ≡ false) [
      | true ↦ λ e. let there = key_is q.key k (ap (λ (p : TaskRank). p.key) (place_same q (place_of k s) (tied _ e))) in cc
      | false ↦ λ _. refl
    ] refl

-- a place that is taken out is not there, and no other goes
taken_out : {A : Type 0} (b : Bool) (x : Option A) → is_some x ≡ b → is_some (cond b None x) ≡ false
taken_out true x e = refl
taken_out false x e = e

put_there : {A : Type 0} (b : Bool) (a : A) (x : Option A) → is_some x ≡ false → is_some (cond b (Some a) x) ≡ b
put_there true a x e = refl
put_there false a x e = e

module _ (t : List (TaskKey × Stored)) (p : List (TaskRank × Unit {0})) (i : IsInStep t p) (k : TaskKey) (s : Stored) where
  -- what is found at a place of the key
  at_key : (q : TaskRank) → find key_cmp k t ≡ Some s → q.key ≡ k → is_some (find place_cmp q p) ≡ (not s.claimed && eq_by_cmp place_cmp q (place_of k s))
  at_key q f e = i.placed q ∙ ap (is_placed q) (ap (λ j. find key_cmp j t) e ∙ f) ∙ ap (λ j. not s.claimed && eq_by_cmp place_cmp q (place_of j s)) e

  -- the place of each task that no run has is there
  pub placed_there : find key_cmp k t ≡ Some s → s.claimed ≡ false → is_some (find place_cmp (place_of k s) p) ≡ true
  placed_there f free = at_key (place_of k s) f refl ∙ ap (λ b. not b && eq_by_cmp place_cmp (place_of k s) (place_of k s)) free ∙ ap is_eq (tied_itself place_total (place_of k s))

  -- where no task is, none has a place
  pub not_placed : find key_cmp k t ≡ None → (s' : Stored) → is_some (find place_cmp (place_of k s') p) ≡ false
  not_placed f s' = i.placed (place_of k s') ∙ ap (is_placed (place_of k s')) f

  -- nor has one that a run has
  pub hidden : find key_cmp k t ≡ Some s → s.claimed ≡ true → (q : TaskRank) → q.key ≡ k → is_some (find place_cmp q p) ≡ false
  hidden f held q e = at_key q f e ∙ ap (λ b. not b && eq_by_cmp place_cmp q (place_of k s)) held

  -- a place of the key where no run has the task
  free_at : find key_cmp k t ≡ Some s → s.claimed ≡ false → (q : TaskRank) → q.key ≡ k → is_some (find place_cmp q p) ≡ eq_by_cmp place_cmp q (place_of k s)
  free_at f free q e = at_key q f e ∙ ap (λ b. not b && eq_by_cmp place_cmp q (place_of k s)) free

  -- what is placed where a task is at its key, and there alone
  placed_as : (s' : Stored) (q : TaskRank) (r : Bool) → (q.key ≡ k → r ≡ is_placed q (Some s')) → (eq_by_cmp key_cmp q.key k ≡ false → r ≡ is_some (find place_cmp q p)) → r ≡ is_placed q (find key_cmp q.key (put key_cmp k s' t))
  placed_as s' q r here there =
      elim (eq_by_cmp key_cmp q.key k) as (λ a. eq_by_cmp key_cmp q.key k ≡ a → r ≡ is_placed q (cond a (Some s') (find key_cmp q.key t))) [
        | true ↦ λ e. here (key_same q.key k (tied _ e))
        | false ↦ λ e. there e ∙ i.placed q
      ] refl
      ∙ ap (is_placed q) (sym (find-put key_cmp key_total q.key k s' t))

  placed_gone : (q : TaskRank) (r : Bool) → (q.key ≡ k → r ≡ false) → (eq_by_cmp key_cmp q.key k ≡ false → r ≡ is_some (find place_cmp q p)) → r ≡ is_placed q (find key_cmp q.key (without key_cmp k t))
  placed_gone q r here there =
      elim (eq_by_cmp key_cmp q.key k) as (λ a. eq_by_cmp key_cmp q.key k ≡ a → r ≡ is_placed q (cond a None (find key_cmp q.key t))) [
        | true ↦ λ e. here (key_same q.key k (tied _ e))
        | false ↦ λ e. there e ∙ i.placed q
      ] refl
      ∙ ap (is_placed q) (sym (find-without key_total k q.key t))

  -- without the place of the key, and with another
  seen_without : (q : TaskRank) (place : TaskRank) → is_some (find place_cmp q (without place_cmp place p)) ≡ is_some (cond (eq_by_cmp place_cmp q place) None (find place_cmp q p))
  seen_without q place = ap is_some (find-without place_total place q p)

  seen_with : (q : TaskRank) (place : TaskRank) → is_some (find place_cmp q (put place_cmp place tt p)) ≡ is_some (cond (eq_by_cmp place_cmp q place) (Some tt) (find place_cmp q p))
  seen_with q place = ap is_some (find-put place_cmp place_total q place tt p)

  -- another key's place is as it was
  other_without : (s' : Stored) (q : TaskRank) → eq_by_cmp key_cmp q.key k ≡ false → is_some (find place_cmp q (without place_cmp (place_of k s') p)) ≡ is_some (find place_cmp q p)
  other_without s' q e = seen_without q (place_of k s') ∙ ap (λ b. is_some (cond b None (find place_cmp q p))) (apart q k s' e)

  other_with : (s' : Stored) (q : TaskRank) → eq_by_cmp key_cmp q.key k ≡ false → is_some (find place_cmp q (put place_cmp (place_of k s') tt p)) ≡ is_some (find place_cmp q p)
  other_with s' q e = seen_with q (place_of k s') ∙ ap (λ b. is_some (cond b (Some tt) (find place_cmp q p))) (apart q k s' e)

  -- the task's own place is gone, or there
  pub own_without : find key_cmp k t ≡ Some s → s.claimed ≡ false → (q : TaskRank) → q.key ≡ k → is_some (find place_cmp q (without place_cmp (place_of k s) p)) ≡ false
  own_without f free q e = seen_without q (place_of k s) ∙ taken_out _ _ (free_at f free q e)

  own_with : (s' : Stored) → s'.claimed ≡ false → (q : TaskRank) → is_some (find place_cmp q p) ≡ false → q.key ≡ k → is_some (find place_cmp q (put place_cmp (place_of k s') tt p)) ≡ is_placed q (Some s')
  own_with s' free q none e =
      seen_with q (place_of k s') ∙ put_there _ tt _ none ∙ ap (λ j. eq_by_cmp place_cmp q (place_of j s')) (sym e)
      ∙ sym (ap (λ b. not b && eq_by_cmp place_cmp q (place_of q.key s')) free)

  -- a task that no run has is out of both trees
  pub step_out : (t' : List (TaskKey × Stored)) (p' : List (TaskRank × Unit {0})) → IsOrdered key_cmp t' → IsOrdered place_cmp p' → find key_cmp k t ≡ Some s → s.claimed ≡ false
      → t' ≡ without key_cmp k t → p' ≡ without place_cmp (place_of k s) p → IsInStep t' p'
  step_out t' p' ordered places_ordered f free e g = record {
    ordered = ordered;
    keyed = subst (AllByRecursion IsKeyed) (sym e) (All-filter IsKeyed _ t i.keyed);
    places_ordered = places_ordered;
    placed = λ q. ap (λ es. is_some (find place_cmp q es)) g ∙ placed_gone q _ (own_without f free q) (other_without s q) ∙ ap (λ es. is_placed q (find key_cmp q.key es)) (sym e);
    counted =
        let one = ap length e in
        let two = ap length g in
        let held = ap held_count e in
        let less = length_without_one key_total k t i.ordered (ap is_some f) in
        let least = length_without_one place_total (place_of k s) p i.places_ordered (placed_there f free) in
        let count = held_without t i.ordered k s f in
        let none : one_held s.claimed ≡ 0 = ap one_held free in
        omega (arith, i.counted, one, two, held, less, least, count, none);
  }

  -- one that a run has is out of its own
  pub step_held_out : (t' : List (TaskKey × Stored)) → IsOrdered key_cmp t' → find key_cmp k t ≡ Some s → s.claimed ≡ true → t' ≡ without key_cmp k t → IsInStep t' p
  step_held_out t' ordered f held e = record {
    ordered = ordered;
    keyed = subst (AllByRecursion IsKeyed) (sym e) (All-filter IsKeyed _ t i.keyed);
    places_ordered = i.places_ordered;
    placed = λ q. placed_gone q _ (hidden f held q) (λ _. refl) ∙ ap (λ es. is_placed q (find key_cmp q.key es)) (sym e);
    counted =
        let one = ap length e in
        let count = ap held_count e in
        let less = length_without_one key_total k t i.ordered (ap is_some f) in
        let fewer = held_without t i.ordered k s f in
        let its : one_held s.claimed ≡ 1 = ap one_held held in
        omega (arith, i.counted, one, count, less, fewer, its);
  }

  -- a task that no run has is in both trees
  pub step_in : (t' : List (TaskKey × Stored)) (p' : List (TaskRank × Unit {0})) → IsOrdered key_cmp t' → IsOrdered place_cmp p' → find key_cmp k t ≡ None → s.task.key ≡ k → s.claimed ≡ false
      → t' ≡ put key_cmp k s t → p' ≡ put place_cmp (place_of k s) tt p → IsInStep t' p'
  step_in t' p' ordered places_ordered f key free e g = record {
    ordered = ordered;
    keyed = subst (AllByRecursion IsKeyed) (sym e) (All-put key_same IsKeyed k s t key i.keyed);
    places_ordered = places_ordered;
    placed = λ q.
        ap (λ es. is_some (find place_cmp q es)) g
        ∙ placed_as s q _ (λ a. own_with s free q (i.placed q ∙ ap (is_placed q) (ap (λ j. find key_cmp j t) a ∙ f)) a) (other_with s q)
        ∙ ap (λ es. is_placed q (find key_cmp q.key es)) (sym e);
    counted =
        let one = ap length e in
        let two = ap length g in
        let held = ap held_count e in
        let more = length_put_new key_total k t i.ordered s (ap is_some f) in
        let most = length_put_new place_total (place_of k s) p i.places_ordered tt (not_placed f s) in
        let count = held_put t k s f in
        let none : one_held s.claimed ≡ 0 = ap one_held free in
        omega (arith, i.counted, one, two, held, more, most, count, none);
  }

  module _ (s' : Stored) (f : find key_cmp k t ≡ Some s) (key : s'.task.key ≡ k) (t' : List (TaskKey × Stored)) (e : t' ≡ put key_cmp k s' t) where
    changed_ordered : IsOrdered key_cmp t'
    changed_ordered = subst (IsOrdered key_cmp) (sym e) (ordered_put key_total k t i.ordered s')

    changed_keyed : AllByRecursion IsKeyed t'
    changed_keyed = subst (AllByRecursion IsKeyed) (sym e) (All-put key_same IsKeyed k s' t key i.keyed)

    -- a run has the task now
    pub step_claimed : (p' : List (TaskRank × Unit {0})) → IsOrdered place_cmp p' → s.claimed ≡ false → s'.claimed ≡ true → p' ≡ without place_cmp (place_of k s) p → IsInStep t' p'
    step_claimed p' places_ordered free held g = record {
      ordered = changed_ordered;
      keyed = changed_keyed;
      places_ordered = places_ordered;
      placed = λ q.
          ap (λ es. is_some (find place_cmp q es)) g
          ∙ placed_as s' q _ (λ a. own_without f free q a ∙ sym (ap (λ b. not b && eq_by_cmp place_cmp q (place_of q.key s')) held)) (other_without s q)
          ∙ ap (λ es. is_placed q (find key_cmp q.key es)) (sym e);
      counted =
          let one = ap length e ∙ length_put_same key_total k t i.ordered s' (ap is_some f) in
          let two = ap length g in
          let least = length_without_one place_total (place_of k s) p i.places_ordered (placed_there f free) in
          let count = ap (λ es. held_count es + one_held s.claimed) e ∙ held_changed t i.ordered k s f s' in
          let none : one_held s.claimed ≡ 0 = ap one_held free in
          let its : one_held s'.claimed ≡ 1 = ap one_held held in
          omega (arith, i.counted, one, two, least, count, none, its);
    }

    -- no run has it any more
    pub step_freed : (p' : List (TaskRank × Unit {0})) → IsOrdered place_cmp p' → s.claimed ≡ true → s'.claimed ≡ false → p' ≡ put place_cmp (place_of k s') tt p → IsInStep t' p'
    step_freed p' places_ordered held free g = record {
      ordered = changed_ordered;
      keyed = changed_keyed;
      places_ordered = places_ordered;
      placed = λ q.
          ap (λ es. is_some (find place_cmp q es)) g ∙ placed_as s' q _ (λ a. own_with s' free q (hidden f held q a) a) (other_with s' q)
          ∙ ap (λ es. is_placed q (find key_cmp q.key es)) (sym e);
      counted =
          let one = ap length e ∙ length_put_same key_total k t i.ordered s' (ap is_some f) in
          let two = ap length g in
          let most = length_put_new place_total (place_of k s') p i.places_ordered tt (hidden f held (place_of k s') refl) in
          let count = ap (λ es. held_count es + one_held s.claimed) e ∙ held_changed t i.ordered k s f s' in
          let none : one_held s'.claimed ≡ 0 = ap one_held free in
          let its : one_held s.claimed ≡ 1 = ap one_held held in
          omega (arith, i.counted, one, two, most, count, none, its);
    }

    -- where it stands is as it was
    pub step_same : s'.claimed ≡ s.claimed → ((q : TaskRank) → (not s.claimed && eq_by_cmp place_cmp q (place_of k s)) ≡ (not s.claimed && eq_by_cmp place_cmp q (place_of k s'))) → IsInStep t' p
    step_same claims places = record {
      ordered = changed_ordered;
      keyed = changed_keyed;
      places_ordered = i.places_ordered;
      placed = λ q.
          placed_as s' q _ (λ a. at_key q f a ∙ places q ∙ (λ j. not (sym claims j) && eq_by_cmp place_cmp q (place_of (sym a j) s'))) (λ _. refl)
          ∙ ap (λ es. is_placed q (find key_cmp q.key es)) (sym e);
      counted =
          let one = ap length e ∙ length_put_same key_total k t i.ordered s' (ap is_some f) in
          let count = ap (λ es. held_count es + one_held s.claimed) e ∙ held_changed t i.ordered k s f s' in
          let same : one_held s'.claimed ≡ one_held s.claimed = ap one_held claims in
          omega (arith, i.counted, one, count, same);
    }

-- a task that no run has stands at another place
pub step_moved : (t : List (TaskKey × Stored)) (p : List (TaskRank × Unit {0})) → IsInStep t p → (k : TaskKey) (s s' : Stored) → find key_cmp k t ≡ Some s → s'.task.key ≡ k → s.claimed ≡ false → s'.claimed ≡ false
    → (t' : List (TaskKey × Stored)) (less p' : List (TaskRank × Unit {0})) → IsOrdered place_cmp less → IsOrdered place_cmp p' → t' ≡ put key_cmp k s' t → less ≡ without place_cmp (place_of k s) p → p' ≡ put place_cmp (place_of k s') tt less
    → IsInStep t' p'
step_moved t p i k s s' f key free stays t' less p' less_ordered places_ordered e g h =
    let between : Stored = record { task = s'.task; stamp = s'.stamp; claimed = true } in
    let t'' = put key_cmp k between t in
    let there : find key_cmp k t'' ≡ Some between = find-put key_cmp key_total k k between t ∙ ap (λ b. cond b (Some between) (find key_cmp k t)) (key_is k k refl) in
    let claimed = step_claimed t p i k s between f key t'' refl less less_ordered free refl g in
    step_freed t'' less claimed k between s' there key t' (e ∙ sym (put_again key_total k s' between t)) p' places_ordered refl stays h

-- where no task was there, both trees stay in step
pub step_none : (t : List (TaskKey × Stored)) (p : List (TaskRank × Unit {0})) → IsInStep t p → (k : TaskKey) (t' : List (TaskKey × Stored)) → find key_cmp k t ≡ None → t' ≡ without key_cmp k t → IsInStep t' p
step_none t p i k t' f e = subst (λ es. IsInStep es p) (sym (e ∙ without_absent key_cmp k t f)) i
