-- What there is room for after a task is taken out, or changed: a is the room of the tasks, b that of the places.
use Rattle.std.proofs.Common.{◌≡◌, ℕ, ◌+◌, ◌-◌, ◌<◌, ◌≤◌, min, if◌then◌else◌, refl, sym, ap, subst, ◌∙◌, true, false, List, Option, None, Some, is_some, arith}
use mathlib.Core.Bool.{true≢false}
use Rattle.std.specs.Option.{option_map}
use Rattle.dk_types.specs.declared.number.TaskKey.{TaskKey}
use Rattle.dk_map.specs.Entries.{find, put, without}
use Rattle.dk_map.proofs.Counts.{found_of}
use Rattle.dk_model.specs.Keys.{key_cmp}
use Rattle.dk_tasks.specs.Places.{held_count, place_cmp, place_of, IsInStep}
use Rattle.dk_tasks.specs.declared.stored.Stored.{Stored}
use Rattle.dk_tasks.specs.declared.stored.TaskRank.{TaskRank}
use Rattle.dk_tasks.proofs.Held.{one_held, held_without, held_changed}
use Rattle.dk_tasks.proofs.Rooms.{free_out, held_out, held_now, free_now, as_before}
use Rattle.dk_tasks.proofs.Steps.{placed_there}

module _ (t : List (TaskKey × Stored)) (p : List (TaskRank × Unit {0})) (i : IsInStep t p) (k : TaskKey) (s : Stored) (f : find key_cmp k t ≡ Some s) (a b n : ℕ) (v : min a (b - held_count t) ≡ n) (fits : held_count t ≤ b) where
  -- room that a place leaves
  pub place_out : s.claimed ≡ false → (q : TaskRank) → q ≡ place_of k s → (r : Option (TaskRank × Unit {0})) → option_map (λ e. e.1) r ≡ find place_cmp q p → (b' : ℕ) → b' ≡ b + (if is_some r then 1 else 0) → b' ≡ b + 1
  place_out free q at r was b' e =
      let there : is_some (find place_cmp q p) ≡ true = ap (λ x. is_some (find place_cmp x p)) at ∙ placed_there t p i k s f free in
      let some : is_some r ≡ true = sym (found_of (λ (e : TaskRank × Unit {0}). e.1) r was refl) ∙ there in
      subst (λ x. b' ≡ b + (if x then 1 else 0)) some e

  counted_out : (t' : List (TaskKey × Stored)) → t' ≡ without key_cmp k t → held_count t' + one_held s.claimed ≡ held_count t
  counted_out t' e = ap (λ es. held_count es + one_held s.claimed) e ∙ held_without t i.ordered k s f

  counted_now : (s' : Stored) (t' : List (TaskKey × Stored)) → t' ≡ put key_cmp k s' t → held_count t' + one_held s.claimed ≡ held_count t + one_held s'.claimed
  counted_now s' t' e = ap (λ es. held_count es + one_held s.claimed) e ∙ held_changed t i.ordered k s f s'

  -- a task is taken out that no run has, and one that a run has
  pub spare_out : s.claimed ≡ false → (t' : List (TaskKey × Stored)) → t' ≡ without key_cmp k t → (a' b' : ℕ) → a ≤ a' → b' ≡ b + 1 → (n ≤ min a' (b' - held_count t')) × (held_count t' ≤ b')
  spare_out free t' e a' b' d g = free_out a b (held_count t) n v fits a' b' (held_count t') s.claimed free d g (counted_out t' e)

  pub spare_held_out : s.claimed ≡ true → (t' : List (TaskKey × Stored)) → t' ≡ without key_cmp k t → (a' : ℕ) → a ≤ a' → (n ≤ min a' (b - held_count t')) × (held_count t' ≤ b)
  spare_held_out held t' e a' d = held_out a b (held_count t) n v fits a' b (held_count t') s.claimed held d (counted_out t' e)

  module _ (s' : Stored) (t' : List (TaskKey × Stored)) (e : t' ≡ put key_cmp k s' t) (a' : ℕ) (d : a' ≡ a) where
    -- a run has it, and no run has it any more
    pub spare_claimed : s.claimed ≡ false → s'.claimed ≡ true → (b' : ℕ) → b' ≡ b + 1 → (min a' (b' - held_count t') ≡ n) × (held_count t' ≤ b')
    spare_claimed free held b' g = held_now a b (held_count t) n v fits a' b' (held_count t') s.claimed s'.claimed free held d g (counted_now s' t' e)

    pub spare_freed : s.claimed ≡ true → s'.claimed ≡ false → (b' : ℕ) → b' + 1 ≡ b → (min a' (b' - held_count t') ≡ n) × (held_count t' ≤ b')
    spare_freed held free b' g = free_now a b (held_count t) n v fits a' b' (held_count t') s.claimed s'.claimed held free d g (counted_now s' t' e)

    -- a run has it or not as before
    pub spare_kept : s'.claimed ≡ s.claimed → (b' : ℕ) → b' ≡ b → (min a' (b' - held_count t') ≡ n) × (held_count t' ≤ b')
    spare_kept same b' g =
        let count = counted_now s' t' e in
        let alike : one_held s'.claimed ≡ one_held s.claimed = ap one_held same in
        as_before a b (held_count t) n v fits a' b' (held_count t') d g (omega (arith, count, alike))

  -- where a run has it, a place of it is kept
  pub room_kept : s.claimed ≡ true → 0 < b
  room_kept held =
      let count = held_without t i.ordered k s f in
      let one : one_held s.claimed ≡ 1 = ap one_held held in
      omega (arith, count, one, fits)

-- room that a new place takes
pub place_in : (b b' : ℕ) (r : Option (Unit {0})) → is_some r ≡ false → b' + (if is_some r then 0 else 1) ≡ b → b' + 1 ≡ b
place_in b b' r none e = subst (λ x. b' + (if x then 0 else 1) ≡ b) none e

-- nothing is there where a test says so
pub nowhere : {A : Type 0} (r : Option A) → is_some r ≡ false → r ≡ None
nowhere None h = refl
nowhere (Some x) h = absurd (true≢false h)
