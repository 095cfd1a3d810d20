-- A task that gets another mark of whether a run has it: its place goes where a run has it now, and comes where none has it any more.
use Rattle.std.proofs.Common.{◌≡◌, ℕ, ◌+◌, ◌-◌, ◌≤◌, min, if◌then◌else◌, refl, sym, ap, ◌∙◌, Bool, true, false, List, Option, None, Some, is_some}
use Rattle.std.specs.Option.{option_map}
use Rattle.dk_types.specs.declared.number.TaskKey.{TaskKey}
use Rattle.dk_map.specs.Entries.{find, put, without, IsChanged, IsOrdered}
use Rattle.dk_model.specs.Keys.{key_cmp}
use Rattle.dk_tasks.specs.Places.{held_count, place_cmp, place_of, claimed_at, IsInStep, IsKeyed, IsMarked}
use Rattle.dk_tasks.specs.declared.stored.Stored.{Stored}
use Rattle.dk_tasks.specs.declared.stored.TaskRank.{TaskRank}
use Rattle.dk_tasks.proofs.Found.{found_of_all}
use Rattle.dk_tasks.proofs.Orders.{key_same}
use Rattle.dk_tasks.proofs.Spares.{place_out, place_in, spare_claimed, spare_freed, spare_kept, nowhere}
use Rattle.dk_tasks.proofs.Steps.{step_same, step_claimed, step_freed, hidden}

-- what a change of the mark tells
pub marked : (claimed : Bool) (k : TaskKey) (P : Stored → Stored → ℕ × Bool → Type 0) (es es' : List (TaskKey × Stored)) (r : Option (ℕ × Bool)) → IsChanged key_cmp k P es es' r
    → ((x y : Stored) (a : ℕ × Bool) → P x y a → (y ≡ claimed_at claimed x) × (a ≡ (x.task.due, x.claimed))) → IsMarked k claimed es es' r
marked claimed k P es es' (Some a) h f =
    let is = f h.0 h.1 a h.3 in
    (h.0, h.2, is.1, h.4 ∙ ap (λ y. put key_cmp k y es) is.0)
marked claimed k P es es' None h f = h

module _ (t : List (TaskKey × Stored)) (p : List (TaskRank × Unit {0})) (i : IsInStep t p) (k : TaskKey) (s : Stored) (f : find key_cmp k t ≡ Some s) (claimed : Bool) (t' : List (TaskKey × Stored)) (e : t' ≡ put key_cmp k (claimed_at claimed s) t) (a b n : ℕ) (v : min a (b - held_count t) ≡ n) (fits : held_count t ≤ b) (a' : ℕ) (d : a' ≡ a) where
  key : s.task.key ≡ k
  key = found_of_all key_same IsKeyed t i.keyed k s f

  -- a task that was marked so stays where it is
  pub marked_same : s.claimed ≡ claimed → IsInStep t' p × (min a' (b - held_count t') ≡ n) × (held_count t' ≤ b)
  marked_same same =
      let room = spare_kept t p i k s f a b n v fits (claimed_at claimed s) t' e a' d (sym same) b refl in
      (step_same t p i k s (claimed_at claimed s) f key t' e (sym same) (λ q. refl), room.0, room.1)

  module _ (q : TaskRank) (at : q ≡ place_of k s) where
    -- a run has it now
    pub marked_claimed : s.claimed ≡ false → claimed ≡ true → (r : Option (TaskRank × Unit {0})) → option_map (λ e. e.1) r ≡ find place_cmp q p → (b' : ℕ) → b' ≡ b + (if is_some r then 1 else 0)
        → (p' : List (TaskRank × Unit {0})) → p' ≡ without place_cmp q p → IsOrdered place_cmp p' → IsInStep t' p' × (min a' (b' - held_count t') ≡ n) × (held_count t' ≤ b')
    marked_claimed free now r was b' g p' gone ordered =
        let out = place_out t p i k s f a b n v fits free q at r was b' g in
        let room = spare_claimed t p i k s f a b n v fits (claimed_at claimed s) t' e a' d free now b' out in
        (step_claimed t p i k s (claimed_at claimed s) f key t' e p' ordered free now (gone ∙ ap (λ x. without place_cmp x p) at), room.0, room.1)

    -- what a run has has no place
    pub held_absent : s.claimed ≡ true → find place_cmp q p ≡ None
    held_absent held = nowhere _ (ap (λ x. is_some (find place_cmp x p)) at ∙ hidden t p i k s f held (place_of k s) refl)

    -- no run has it any more
    pub marked_freed : s.claimed ≡ true → claimed ≡ false → (r : Option (Unit {0})) → r ≡ find place_cmp q p → (b' : ℕ) → b' + (if is_some r then 0 else 1) ≡ b
        → (p' : List (TaskRank × Unit {0})) → p' ≡ put place_cmp q tt p → IsOrdered place_cmp p' → IsInStep t' p' × (min a' (b' - held_count t') ≡ n) × (held_count t' ≤ b')
    marked_freed held now r was b' g p' more ordered =
        let none = ap is_some (was ∙ ap (λ x. find place_cmp x p) at) ∙ hidden t p i k s f held (place_of k s) refl in
        let into = place_in b b' r none g in
        let room = spare_freed t p i k s f a b n v fits (claimed_at claimed s) t' e a' d held now b' into in
        (step_freed t p i k s (claimed_at claimed s) f key t' e p' ordered held now (more ∙ ap (λ x. put place_cmp x tt p) at), room.0, room.1)
