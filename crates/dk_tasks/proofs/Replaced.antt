-- A task that is put where another may be: that one's place goes, and the new one's comes.
use Rattle.std.proofs.Common.{◌≡◌, ℕ, ◌+◌, ◌-◌, ◌<◌, ◌≤◌, min, if◌then◌else◌, refl, sym, ap, subst, ◌∙◌, Bool, true, false, List, Option, None, Some, is_some, arith}
use Rattle.dk_types.specs.declared.number.TaskKey.{TaskKey}
use Rattle.dk_map.specs.Entries.{find, put, without, IsOrdered}
use Rattle.dk_model.specs.Keys.{key_cmp}
use Rattle.dk_tasks.specs.Places.{held_count, place_cmp, place_of, IsInStep, IsKeyed, IsLeft, IsVacated}
use Rattle.dk_tasks.specs.declared.stored.Stored.{Stored}
use Rattle.dk_tasks.specs.declared.stored.TaskRank.{TaskRank}
use Rattle.dk_tasks.proofs.Found.{found_of_all}
use Rattle.dk_tasks.proofs.Held.{held_put}
use Rattle.dk_tasks.proofs.Orders.{key_same}
use Rattle.dk_tasks.proofs.Rooms.{free_in}
use Rattle.dk_tasks.proofs.Spares.{place_out, place_in, room_kept, spare_freed, spare_kept, nowhere}
use Rattle.dk_tasks.proofs.Steps.{step_in, step_freed, step_moved, hidden, not_placed, own_without}

module _ (t : List (TaskKey × Stored)) (p : List (TaskRank × Unit {0})) (i : IsInStep t p) (k : TaskKey) (new : Stored) (key : new.task.key ≡ k) (stays : new.claimed ≡ false) (t' : List (TaskKey × Stored)) (ordered : IsOrdered key_cmp t') (e : t' ≡ put key_cmp k new t) (a b n : ℕ) (v : min a (b - held_count t) ≡ n) (fits : held_count t ≤ b) (less : List (TaskRank × Unit {0})) (c : ℕ) where
  -- what is left holds the room of the new place
  left_room : (s : Stored) (claimed : Bool) → find key_cmp k t ≡ Some s → s.claimed ≡ claimed → IsLeft claimed (place_of s.task.key s) p less b c → 0 < c
  left_room s true f held left = subst (λ m. 0 < m) (sym left.1) (room_kept t p i k s f a b n v fits held)
  left_room s false f free left =
      let at = ap (λ j. place_of j s) (found_of_all key_same IsKeyed t i.keyed k s f) in
      let out = place_out t p i k s f a b n v fits free _ at left.2.0 left.2.1 c left.2.2 in
      omega (arith, out)

  pub vacated_room : (old : Option Stored) → old ≡ find key_cmp k t → (find key_cmp k t ≡ None → 0 < n) → IsVacated old p less b c → 0 < c
  vacated_room None was room left = omega (arith, room (sym was), left.1, v)
  vacated_room (Some s) was room left = left_room s s.claimed (sym was) refl left

  -- and nothing stands at the new place
  left_absent : (s : Stored) (claimed : Bool) → find key_cmp k t ≡ Some s → s.claimed ≡ claimed → IsLeft claimed (place_of s.task.key s) p less b c → find place_cmp (place_of k new) less ≡ None
  left_absent s true f held left = nowhere _ (ap (λ es. is_some (find place_cmp (place_of k new) es)) left.0 ∙ hidden t p i k s f held (place_of k new) refl)
  left_absent s false f free left =
      let at = ap (λ j. place_of j s) (found_of_all key_same IsKeyed t i.keyed k s f) in
      nowhere _ (ap (λ es. is_some (find place_cmp (place_of k new) es)) (left.0 ∙ ap (λ q. without place_cmp q p) at) ∙ own_without t p i k s f free (place_of k new) refl)

  pub vacated_absent : (old : Option Stored) → old ≡ find key_cmp k t → IsVacated old p less b c → find place_cmp (place_of k new) less ≡ None
  vacated_absent None was left = nowhere _ (ap (λ es. is_some (find place_cmp (place_of k new) es)) left.0 ∙ not_placed t p i k new (sym was) new)
  vacated_absent (Some s) was left = left_absent s s.claimed (sym was) refl left

  module _ (a' : ℕ) (p' : List (TaskRank × Unit {0})) (more : p' ≡ put place_cmp (place_of k new) tt less) (places_ordered : IsOrdered place_cmp p') (r : Option (Unit {0})) (found : r ≡ find place_cmp (place_of k new) less) (b' : ℕ) (into : b' + (if is_some r then 0 else 1) ≡ c) where
    -- the room that the new place takes
    taken : is_some (find place_cmp (place_of k new) less) ≡ false → b' + 1 ≡ c
    taken none = place_in c b' r (ap is_some found ∙ none) into

    -- where a run had the old task
    replaced_held : (s : Stored) → find key_cmp k t ≡ Some s → s.claimed ≡ true → less ≡ p → c ≡ b → a' ≡ a → IsInStep t' p' × (min a' (b' - held_count t') ≡ n) × (held_count t' ≤ b')
    replaced_held s f held same room d =
        let none = ap (λ es. is_some (find place_cmp (place_of k new) es)) same ∙ hidden t p i k s f held (place_of k new) refl in
        let spare = spare_freed t p i k s f a b n v fits new t' e a' d held stays b' (taken none ∙ room) in
        (step_freed t p i k s new f key t' e p' places_ordered held stays (more ∙ ap (λ es. put place_cmp (place_of k new) tt es) same), spare.0, spare.1)

    -- where none had it
    replaced_free : (s : Stored) → find key_cmp k t ≡ Some s → s.claimed ≡ false → less ≡ without place_cmp (place_of k s) p → IsOrdered place_cmp less → c ≡ b + 1 → a' ≡ a → IsInStep t' p' × (min a' (b' - held_count t') ≡ n) × (held_count t' ≤ b')
    replaced_free s f free gone less_ordered room d =
        let none = ap (λ es. is_some (find place_cmp (place_of k new) es)) gone ∙ own_without t p i k s f free (place_of k new) refl in
        let took = taken none in
        let spare = spare_kept t p i k s f a b n v fits new t' e a' d (stays ∙ sym free) b' (omega (arith, took, room)) in
        (step_moved t p i k s new f key free stays t' less p' less_ordered places_ordered e gone more, spare.0, spare.1)

    replaced_left : (s : Stored) (claimed : Bool) → find key_cmp k t ≡ Some s → s.claimed ≡ claimed → IsLeft claimed (place_of s.task.key s) p less b c → a' ≡ a → IsInStep t' p' × (min a' (b' - held_count t') ≡ n) × (held_count t' ≤ b')
    replaced_left s true f held left d = replaced_held s f held left.0 left.1 d
    replaced_left s false f free left d =
        let at = ap (λ j. place_of j s) (found_of_all key_same IsKeyed t i.keyed k s f) in
        let out = place_out t p i k s f a b n v fits free _ at left.2.0 left.2.1 c left.2.2 in
        replaced_free s f free (left.0 ∙ ap (λ q. without place_cmp q p) at) left.1 out d

    -- both trees stay in step, and a new key takes one of the room
    pub replaced : (old : Option Stored) → old ≡ find key_cmp k t → (find key_cmp k t ≡ None → 0 < n) → IsVacated old p less b c → a' + (if is_some old then 0 else 1) ≡ a
        → IsInStep t' p' × (min a' (b' - held_count t') + (if is_some old then 0 else 1) ≡ n) × (held_count t' ≤ b')
    replaced None was room left d =
        let f = sym was in
        let none = ap (λ es. is_some (find place_cmp (place_of k new) es)) left.0 ∙ not_placed t p i k new f new in
        let count = ap held_count e ∙ held_put t k new f in
        let spare = free_in a b (held_count t) n v fits a' b' (held_count t') new.claimed stays (room f) d (taken none ∙ left.1) count in
        (step_in t p i k new t' p' ordered places_ordered f key stays e (more ∙ ap (λ es. put place_cmp (place_of k new) tt es) left.0), spare.0, spare.1)
    replaced (Some s) was room left d =
        let kept = replaced_left s s.claimed (sym was) refl left (omega (arith, d)) in
        (kept.0, omega (arith, kept.1), kept.2)
