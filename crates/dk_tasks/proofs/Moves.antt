-- A task that gets another due moment, and with it another place where no run has it.
use Rattle.std.proofs.Common.{◌≡◌, ℕ, ◌+◌, ◌-◌, ◌<◌, ◌≤◌, min, if◌then◌else◌, refl, sym, ap, ◌∙◌, ◌&&◌, not, Bool, true, false, List, Option, None, Some, is_some, arith}
use Rattle.std.specs.Option.{option_map}
use Rattle.std.specs.Ordering.{eq_by_cmp}
use Rattle.dk_types.specs.declared.number.TaskKey.{TaskKey}
use Rattle.dk_map.specs.Entries.{find, put, without, IsChanged, IsOrdered}
use Rattle.dk_model.specs.Keys.{key_cmp}
use Rattle.dk_tasks.specs.Places.{held_count, place_cmp, place_of, due_at, IsInStep, IsKeyed, IsMoved}
use Rattle.dk_tasks.specs.declared.stored.Stored.{Stored}
use Rattle.dk_tasks.specs.declared.stored.TaskRank.{TaskRank}
use Rattle.dk_tasks.proofs.Found.{found_of_all}
use Rattle.dk_tasks.proofs.Orders.{key_same}
use Rattle.dk_tasks.proofs.Spares.{place_out, place_in, spare_kept}
use Rattle.dk_tasks.proofs.Steps.{step_same, step_moved, own_without}

-- what a change of the due moment tells
pub moved : (due : ℕ) (k : TaskKey) (P : Stored → Stored → ℕ × Bool → Type 0) (es es' : List (TaskKey × Stored)) (r : Option (ℕ × Bool)) → IsChanged key_cmp k P es es' r
    → ((x y : Stored) (a : ℕ × Bool) → P x y a → (y ≡ due_at due x) × (a ≡ (x.task.due, x.claimed))) → IsMoved k due es es' r
moved due k P es es' (Some a) h f =
    let is = f h.0 h.1 a h.3 in
    (h.0, h.2, is.1, h.4 ∙ ap (λ y. put key_cmp k y es) is.0)
moved due k P es es' None h f = h

module _ (t : List (TaskKey × Stored)) (p : List (TaskRank × Unit {0})) (i : IsInStep t p) (k : TaskKey) (s : Stored) (f : find key_cmp k t ≡ Some s) (due : ℕ) (t' : List (TaskKey × Stored)) (e : t' ≡ put key_cmp k (due_at due s) t) (a b n : ℕ) (v : min a (b - held_count t) ≡ n) (fits : held_count t ≤ b) (a' : ℕ) (d : a' ≡ a) where
  key : s.task.key ≡ k
  key = found_of_all key_same IsKeyed t i.keyed k s f

  -- what a run has has no place
  pub moved_held : s.claimed ≡ true → IsInStep t' p × (min a' (b - held_count t') ≡ n) × (held_count t' ≤ b)
  moved_held held =
      let room = spare_kept t p i k s f a b n v fits (due_at due s) t' e a' d refl b refl in (
        step_same t p i k s (due_at due s) f key t' e refl
            (λ q. ap (λ b. not b && eq_by_cmp place_cmp q (place_of k s)) held ∙ sym (ap (λ b. not b && eq_by_cmp place_cmp q (place_of k (due_at due s))) held)),
        room.0,
        room.1,
      )

  module _ (free : s.claimed ≡ false) (q : TaskRank) (at : q ≡ place_of k s) (r : Option (TaskRank × Unit {0})) (was : option_map (λ e. e.1) r ≡ find place_cmp q p) (b1 : ℕ) (g : b1 ≡ b + (if is_some r then 1 else 0)) where
    -- the old place leaves room
    out : b1 ≡ b + 1
    out = place_out t p i k s f a b n v fits free q at r was b1 g

    pub moved_room : 0 < b1
    moved_room = omega (arith, out)

    -- which the new one takes
    pub moved_free : (less p' : List (TaskRank × Unit {0})) → less ≡ without place_cmp q p → IsOrdered place_cmp less → (r' : Option (Unit {0})) → r' ≡ find place_cmp (record { due = due; key = k }) less
        → p' ≡ put place_cmp (record { due = due; key = k }) tt less → IsOrdered place_cmp p' → (b2 : ℕ) → b2 + (if is_some r' then 0 else 1) ≡ b1
        → IsInStep t' p' × (min a' (b2 - held_count t') ≡ n) × (held_count t' ≤ b2)
    moved_free less p' gone less_ordered r' found more ordered b2 into =
        let gone' = gone ∙ ap (λ x. without place_cmp x p) at in
        let none =
        ap is_some found ∙ ap (λ es. is_some (find place_cmp (place_of k (due_at due s)) es)) gone'
        ∙ own_without t p i k s f free (place_of k (due_at due s)) refl in
        let taken = place_in b1 b2 r' none into in
        let room = spare_kept t p i k s f a b n v fits (due_at due s) t' e a' d refl b2 (omega (arith, out, taken)) in
        (step_moved t p i k s (due_at due s) f key free free t' less p' less_ordered ordered e gone' more, room.0, room.1)
