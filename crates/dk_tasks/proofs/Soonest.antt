-- The task at the front by place is the least of those that are due, if any is.
use Rattle.std.proofs.Common.{◌≡◌, ℕ, ◌<◌, ◌≤◌, ◌&&◌, refl, sym, ap, subst, ◌∙◌, Bool, true, false, cond, not, List, [], ◌∷◌, map, Option, None, Some, is_some, inl, inr, nat_le, arith}
use Rattle.std.proofs.lemmas.Bool.Decides.{nat_tests}
use Rattle.std.specs.List.{AllByRecursion, filter}
use Rattle.std.specs.Option.{option_map}
use Rattle.std.specs.declared.cmp.Ordering.{Ordering}
use Rattle.std.specs.declared.cmp.Ordering.TheVariants.{Less, Equal, Greater}
use Rattle.std.specs.Ordering.{is_lt, eq_by_cmp, nat_cmp, ordering_then, ordering_reverse}
use Rattle.std.specs.Cmp.{ranked}
use Rattle.std.specs.FinMap.{FinMap, entries, entries_sorted, get, get-entries}
use Rattle.dk_types.specs.declared.number.TaskKey.{TaskKey}
use Rattle.dk_map.specs.AsMap.{map_of, IsNext}
use Rattle.dk_map.specs.Entries.{find, first_entry}
use Rattle.dk_map.proofs.Maps.{get-map_of}
use Rattle.dk_map.proofs.Next.{next-map_of}
use Rattle.dk_model.specs.Keys.{key_cmp}
use Rattle.dk_model.specs.Worlds.{World}
use Rattle.dk_model.specs.Picks.{least, is_sooner, pick_task, mapped, task_job}
use Rattle.dk_model.specs.Picks.{is_due as is_due_in}
use Rattle.dk_tasks.specs.Tasks.{Kept, bare}
use Rattle.dk_tasks.specs.Due.{is_due, due_tasks, least_due, HasTasks, job_at}
use Rattle.dk_tasks.specs.Places.{kept_of, kept_tasks, place_cmp, place_of, is_placed, IsInStep}
use Rattle.dk_tasks.specs.declared.stored.Stored.{Stored}
use Rattle.dk_tasks.specs.declared.stored.TaskRank.{TaskRank}
use Rattle.dk_tasks.proofs.Durable.{entries-durable}
use Rattle.dk_tasks.proofs.Found.{tied, all_of_found}
use Rattle.dk_tasks.proofs.Kept.{kept_get}
use Rattle.dk_tasks.proofs.Leasts.{Member, IsFrom, least_is, least_of_none}
use Rattle.dk_tasks.proofs.Steps.{placed_there}
use Rattle.dk_tasks.proofs.Orders.{key_total, key_same, moment_same, place_total, place_same, sooner_cmp, sooner_total}

-- what holds of each element that passes holds of all that are left
all_passing : {A B : Type 0} (Q : B → Type 0) (g : A → B) (test : A → Bool) (xs : List A) → AllByRecursion (λ x. test x ≡ true → Q (g x)) xs → AllByRecursion Q (map g (filter test xs))
all_passing Q g test [] a = tt
all_passing Q g test (x ∷ xs) a =
    let rest = all_passing Q g test xs a.1 in
    elim (test x) as (λ b. test x ≡ b → AllByRecursion Q (map g (cond b (x ∷ filter test xs) (filter test xs)))) [
      | true ↦ λ t. (a.0 t, rest)
      | false ↦ λ _. rest
    ] refl

-- a filter after a change, where the tests agree
filter-map : {A B : Type 0} (g : A → B) (p : B → Bool) (q : A → Bool) (xs : List A) → AllByRecursion (λ x. p (g x) ≡ q x) xs → filter p (map g xs) ≡ map g (filter q xs)
filter-map g p q [] a = refl
filter-map g p q (x ∷ xs) a =
    let rest = filter-map g p q xs a.1 in
    ap (λ b. cond b (g x ∷ filter p (map g xs)) (filter p (map g xs))) a.0
    ∙ elim (q x) as (λ b. cond b (g x ∷ filter p (map g xs)) (filter p (map g xs)) ≡ map g (cond b (x ∷ filter q xs) (filter q xs))) [ true ↦ ap (λ t. g x ∷ t) rest | false ↦ rest ]

-- both tests of a task that is due
due_parts : (at due : ℕ) (claimed : Bool) → (nat_le due at && not claimed) ≡ true → (nat_le due at ≡ true) × (claimed ≡ false)
due_parts at due claimed e =
    elim (nat_le due at) as (λ b. (b && not claimed) ≡ true → (b ≡ true) × (claimed ≡ false)) [
      | true ↦ λ r. elim claimed as (λ c. not c ≡ true → (true ≡ true) × (c ≡ false)) [ true ↦ λ s. cc | false ↦ λ _. (refl, refl) ] r
      | false ↦ λ r. cc
    ] e

-- a due task stands among the due ones
member : (at : ℕ) (es : List (TaskKey × Kept)) (k : TaskKey) (t : Kept) → find key_cmp k es ≡ Some t → is_due at (k, t) ≡ true → Member (bare (k, t)) (map bare (filter (is_due at) es))
member at [] k t f d = cc
member at (x ∷ es) k t f d =
    elim (eq_by_cmp key_cmp k x.0) as (λ b. eq_by_cmp key_cmp k x.0 ≡ b → cond b (Some x.1) (find key_cmp k es) ≡ Some t → Member (bare (k, t)) (map bare (cond (is_due at x) (x ∷ filter (is_due at) es) (filter (is_due at) es)))) [
      | true ↦ λ b e.
          let key : k ≡ x.0 = key_same k x.0 (tied _ b) in
          let value : x.1 ≡ t = cc in
          let passes : is_due at x ≡ true = ap (λ u. is_due at (x.0, u)) value ∙ d in
          subst (λ c. Member (bare (k, t)) (map bare (cond c (x ∷ filter (is_due at) es) (filter (is_due at) es)))) (sym passes) (inl (λ i. (key i, (sym value i).task)))
      | false ↦ λ _ e.
          let later = member at es k t e d in
          elim (is_due at x) as (λ c. Member (bare (k, t)) (map bare (cond c (x ∷ filter (is_due at) es) (filter (is_due at) es)))) [ true ↦ inr later | false ↦ later ]
    ] refl f

-- of two tasks at one key
only_one : (m : FinMap key_cmp Kept) (j k : TaskKey) (s t : Kept) → get m j ≡ Some s → get m k ≡ Some t → j ≡ k → s ≡ t
only_one m j k s t f g e = let both : Some s ≡ Some t = sym f ∙ ap (get m) e ∙ g in cc

module _ (at : ℕ) (m : FinMap key_cmp Kept) where
  -- where no task is due, none is the least
  none_due : ((k : TaskKey) (t : Kept) → get m k ≡ Some t → is_due at (k, t) ≡ true → ⊥) → least is_sooner (due_tasks at m) ≡ None
  none_due f =
      least_of_none is_sooner _ (all_passing (λ _. ⊥) bare (is_due at) (entries m) (all_of_found key_total (λ e. is_due at e ≡ true → ⊥) (entries m) (entries_sorted m) (λ k t e. f k t (get-entries m k ∙ e))))

  module _ (k : TaskKey) (t : Kept) (f : get m k ≡ Some t) where
    -- a task that is not sooner is the same or comes later
    from_it : (j : TaskKey) (s : Kept) → get m j ≡ Some s → is_sooner (bare (j, s)) (bare (k, t)) ≡ false → IsFrom sooner_total (bare (k, t)) (bare (j, s))
    from_it j s g n =
        elim (sooner_cmp (bare (j, s)) (bare (k, t))) as (λ c. sooner_cmp (bare (j, s)) (bare (k, t)) ≡ c → is_lt c ≡ false → IsFrom sooner_total (bare (k, t)) (bare (j, s))) [
          | Less ↦ λ _ r. cc
          | Equal ↦ λ c _.
              let same = moment_same (s.task.due, j) (t.task.due, k) c in
              let key : j ≡ k = ap (λ (d : ℕ × TaskKey). d.1) same in
              let value : s ≡ t = only_one m j k s t g f key in
              inl (λ i. (key i, (value i).task))
          | Greater ↦ λ c _. inr (sooner_total.antisymm (bare (k, t)) (bare (j, s)) ∙ ap ordering_reverse c)
        ] refl n

    -- a due task is the least where none that is due is sooner
    some_due : is_due at (k, t) ≡ true → ((j : TaskKey) (s : Kept) → get m j ≡ Some s → is_due at (j, s) ≡ true → is_sooner (bare (j, s)) (bare (k, t)) ≡ false)
        → least is_sooner (due_tasks at m) ≡ Some (k, t.task)
    some_due d n =
        least_is sooner_total (bare (k, t)) (due_tasks at m) (member at (entries m) k t (sym (get-entries m k) ∙ f) d)
        (all_passing (IsFrom sooner_total (bare (k, t))) bare (is_due at) (entries m)
        (all_of_found key_total (λ e. is_due at e ≡ true → IsFrom sooner_total (bare (k, t)) (bare e)) (entries m) (entries_sorted m) (λ j s e b. let g = get-entries m j ∙ e in from_it j s g (n j s g b))))

-- what `least_due` has to answer: the key of the least, which is there, or none
abbrev pub IsSoonest : FinMap key_cmp Kept → ℕ → Option TaskKey → Type 0
IsSoonest m at None = least is_sooner (due_tasks at m) ≡ None
IsSoonest m at (Some k) = (t : Kept) × (get m k ≡ Some t) × (least is_sooner (due_tasks at m) ≡ Some (k, t.task))

pub least_of : (m : FinMap key_cmp Kept) (at : ℕ) (r : Option TaskKey) → IsSoonest m at r → r ≡ least_due at m
least_of m at None s = sym (ap (mapped (λ e. e.0)) s)
least_of m at (Some k) s = sym (ap (mapped (λ e. e.0)) s.2)

-- in a world with these tasks, the due ones are the same
due_in : (m : FinMap key_cmp Kept) (at : ℕ) (w : World) → HasTasks w m at → filter (is_due_in w) (entries w.durable.tasks) ≡ due_tasks at m
due_in m at w h =
    ap (filter (is_due_in w)) (ap entries h.tasks ∙ entries-durable m)
    ∙ filter-map bare (is_due_in w) (is_due at) (entries m)
    (all_of_found key_total (λ e. is_due_in w (bare e) ≡ is_due at e) (entries m) (entries_sorted m) (λ k t e i. nat_le t.task.due (h.moment i) && not (h.claims k t (get-entries m k ∙ e) i)))

pub picked_of : (m : FinMap key_cmp Kept) (at : ℕ) (r : Option TaskKey) → IsSoonest m at r → (w : World) → HasTasks w m at → pick_task w ≡ job_at m r
picked_of m at None s w h = ap (λ es. mapped task_job (least is_sooner es)) (due_in m at w h) ∙ ap (mapped task_job) s
picked_of m at (Some k) s w h =
    ap (λ es. mapped task_job (least is_sooner es)) (due_in m at w h) ∙ ap (mapped task_job) s.2 ∙ sym (ap (mapped (λ (t : Kept). task_job (k, t.task))) s.1)

-- a number that is not before another is at least that
not_before : (a b : ℕ) (c : Ordering) → is_lt (ordering_then (nat_cmp a b) c) ≡ false → b ≤ a
not_before a b c e =
    elim (nat_cmp a b) as (λ r. nat_cmp a b ≡ r → is_lt (ordering_then r c) ≡ false → b ≤ a) [
      | Less ↦ λ _ n. cc
      | Equal ↦ λ r _. let same : a ≡ b = ranked a b Equal (sym r) in omega arith
      | Greater ↦ λ r _. let above : b < a = ranked a b Greater (sym r) in omega arith
    ] refl e

le_of : (a b : ℕ) → nat_le a b ≡ true → a ≤ b
le_of a b e = grind (arith, nat_tests)

le_true : (a b : ℕ) → a ≤ b → nat_le a b ≡ true
le_true a b h = grind (arith, nat_tests)

-- both tests of a place that is there
free_and : (claimed b : Bool) → (not claimed && b) ≡ true → (claimed ≡ false) × (b ≡ true)
free_and true b e = cc
free_and false b e = (refl, e)

module _ (t : List (TaskKey × Stored)) (p : List (TaskRank × Unit {0})) (i : IsInStep t p) where
  -- what stands at a place that is there: no run has it
  standing : (q : TaskRank) → is_some (find place_cmp q p) ≡ true → (s : Stored) × (find key_cmp q.key t ≡ Some s) × (s.claimed ≡ false) × (q ≡ place_of q.key s)
  standing q e =
      elim (find key_cmp q.key t) as (λ r. find key_cmp q.key t ≡ r → is_placed q r ≡ true → (s : Stored) × (find key_cmp q.key t ≡ Some s) × (s.claimed ≡ false) × (q ≡ place_of q.key s)) [
        | None ↦ λ _ b. cc
        | Some s ↦ λ f b. let parts = free_and s.claimed _ b in (s, f, parts.0, place_same q (place_of q.key s) (tied _ parts.1))
      ] refl (sym (i.placed q) ∙ e)

  -- what is seen at a key is kept there
  kept_there : (k : TaskKey) (u : Kept) → get (kept_tasks t) k ≡ Some u → (s : Stored) × (find key_cmp k t ≡ Some s) × (kept_of s ≡ u)
  kept_there k u e =
      elim (find key_cmp k t) as (λ r. find key_cmp k t ≡ r → option_map kept_of r ≡ Some u → (s : Stored) × (find key_cmp k t ≡ Some s) × (kept_of s ≡ u)) [
        | None ↦ λ _ n. cc
        | Some s ↦ λ f n. let same : kept_of s ≡ u = cc in (s, f, same)
      ] refl (kept_get t refl i.ordered k ∙ e)

  next : IsNext (map_of place_cmp p) None (first_entry p)
  next = next-map_of place_total p i.places_ordered None

  module _ (at : ℕ) where
    -- no run has a task that is due
    free_due : (k : TaskKey) (u : Kept) → get (kept_tasks t) k ≡ Some u → is_due at (k, u) ≡ true → (s : Stored) × (find key_cmp k t ≡ Some s) × (kept_of s ≡ u) × (s.claimed ≡ false)
    free_due k u g d =
        let r = kept_there k u g in
        (r.0, r.1, r.2, ap (λ (x : Kept). x.claimed) r.2 ∙ (due_parts at u.task.due u.claimed d).1)

    -- where nothing stands at the front, each task has a run
    pub soonest_of_none : first_entry p ≡ None → IsSoonest (kept_tasks t) at None
    soonest_of_none e =
        let n = subst (IsNext (map_of place_cmp p) None) e next in
        none_due at (kept_tasks t) (λ k u g d.
        let s = free_due k u g d in
        let absent = sym (get-map_of place_cmp p i.places_ordered (place_of k s.0)) ∙ n (place_of k s.0) tt in
        let there = sym (ap is_some absent) ∙ placed_there t p i k s.0 s.1 s.3 in
        cc)

    module _ (q : TaskRank) (v : Unit {0}) (e : first_entry p ≡ Some (q, v)) where
      -- no task's place is before the front
      front : (k : TaskKey) (s : Stored) → find key_cmp k t ≡ Some s → s.claimed ≡ false → is_lt (place_cmp (place_of k s) q) ≡ false
      front k s f free =
          let n = subst (IsNext (map_of place_cmp p) None) e next in
          n.2 (place_of k s) tt ((ap is_some (get-map_of place_cmp p i.places_ordered (place_of k s)) ∙ placed_there t p i k s f free))

      -- and a task stands there
      at_front : (s : Stored) × (find key_cmp q.key t ≡ Some s) × (s.claimed ≡ false) × (q ≡ place_of q.key s)
      at_front =
          let n = subst (IsNext (map_of place_cmp p) None) e next in
          standing q (ap is_some (sym (get-map_of place_cmp p i.places_ordered q) ∙ n.0))

      pub soonest_at_front : q.due ≤ at → IsSoonest (kept_tasks t) at (Some q.key)
      soonest_at_front b =
          let s = at_front in
          let there = sym (kept_get t refl i.ordered q.key) ∙ ap (option_map kept_of) s.1 in
          let due : q.due ≡ s.0.task.due = ap (λ (p : TaskRank). p.due) s.3 in
          let is : is_due at (q.key, kept_of s.0) ≡ true = (λ j. nat_le (sym due j) at && not (s.2 j)) ∙ ap (λ c. c && true) (le_true _ _ b) in (
            kept_of s.0,
            there,
            some_due at (kept_tasks t) q.key (kept_of s.0) there is (λ k u g d.
                let r = free_due k u g d in
                subst (λ x. is_sooner (k, x) (q.key, (kept_of s.0).task) ≡ false) (ap (λ (x : Kept). x.task) r.2)
                (subst (λ x. is_lt (ordering_then (nat_cmp r.0.task.due x) (key_cmp k q.key)) ≡ false) due (front k r.0 r.1 r.3))),
          )

      -- where the one at the front is later, all are
      pub soonest_of_later : at < q.due → IsSoonest (kept_tasks t) at None
      soonest_of_later b =
          none_due at (kept_tasks t) (λ k u g d.
          let r = free_due k u g d in
          let same : r.0.task.due ≡ u.task.due = ap (λ (x : Kept). x.task.due) r.2 in
          let order = not_before r.0.task.due q.due (key_cmp k q.key) (front k r.0 r.1 r.3) in
          let soon : u.task.due ≤ at = le_of _ _ (due_parts at u.task.due u.claimed d).0 in
          absurd (omega arith))
