use Rattle.std.proofs.Common.{◌≡◌, ◌+◌, ◌-◌, ◌≤◌, min, if◌then◌else◌, refl, sym, ap, ◌∙◌, false, None, is_some, arith}
use Rattle.std.specs.Option.{option_map}
use Rattle.dk_map.specs.Entries.{find, put}
use Rattle.dk_model.specs.Keys.{key_cmp}
use Rattle.dk_tasks.specs.Places.{held_count, kept_of, place_cmp, place_of, IsInStep}
use Rattle.dk_tasks.specs.declared.stored.Stored.{Stored}
use Rattle.dk_tasks.proofs.Kept.{kept_get, kept_put, kept_some}
use Rattle.dk_tasks.proofs.Replaced.{vacated_room, vacated_absent, replaced}
use Rattle.dk_tasks.proofs.tasks.Tasks.put.Goals as goal
use Rattle.dk_tasks.proofs.tasks.Tasks.put.Goals.{After-insert_new}

pub insert-old-requires : goal.insert-old-requires
insert-old-requires c =
    let t = c.self.inside.tasks.entries in
    let key = ap (λ p. p.key) c.place-place.ensures in
    record {
      room = λ none.
          let room = c.requires.room (sym (kept_get t (ap (λ s. s.tasks) c.self.view_is) c.self.invariant.0.ordered c.args.task.key) ∙ ap (option_map kept_of) (ap (λ k. find key_cmp k t) (sym key) ∙ none)) in
          omega (arith, ap (λ s. s.spare) c.self.view_is);
    }

pub insert_new-requires : goal.insert_new-requires
insert_new-requires c =
    let t = c.self.inside.tasks.entries in
    let new : Stored = record { task = c.args.task; stamp = c.args.stamp; claimed = false } in
    let key = ap (λ p. p.key) c.place-place.ensures in
    let i = c.self.invariant.0 in
    record {
      absent = ap (λ q. find place_cmp q c.vacate.new.places.entries) c.place-place.ensures
          ∙ vacated_absent t _ i c.args.task.key new refl refl _ c.insert-old.ensures.ordered (c.insert-old.ensures.entries ∙ ap (λ k. put key_cmp k new t) key)
          _ _ _ (ap (λ s. s.spare) c.self.view_is) c.self.invariant.1 _ _ c.insert-old.result (c.insert-old.ensures.old ∙ ap (λ k. find key_cmp k t) key) c.vacate.ensures;
      room =
          vacated_room t _ i c.args.task.key new refl refl _ c.insert-old.ensures.ordered (c.insert-old.ensures.entries ∙ ap (λ k. put key_cmp k new t) key)
          _ _ _ (ap (λ s. s.spare) c.self.view_is) c.self.invariant.1 _ _ c.insert-old.result (c.insert-old.ensures.old ∙ ap (λ k. find key_cmp k t) key)
          (λ none. c.requires.room (sym (kept_get t (ap (λ s. s.tasks) c.self.view_is) i.ordered c.args.task.key) ∙ ap (option_map kept_of) none)) c.vacate.ensures;
    }

-- both trees are in step, with the room that is left
done : (c : After-insert_new) → IsInStep c.insert-old.new.self.entries c.insert_new.new.self.entries
    × (min c.insert-old.new.self.spare (c.insert_new.new.self.spare - held_count c.insert-old.new.self.entries) + (if is_some c.insert-old.result then 0 else 1) ≡ c.args.self.now.spare) × (held_count c.insert-old.new.self.entries ≤ c.insert_new.new.self.spare)
done c =
    let t = c.self.inside.tasks.entries in
    let new : Stored = record { task = c.args.task; stamp = c.args.stamp; claimed = false } in
    let place = c.place-place.ensures in
    let key = ap (λ p. p.key) place in
    let i = c.self.invariant.0 in
    let absent =
    vacated_absent t _ i c.args.task.key new refl refl _ c.insert-old.ensures.ordered (c.insert-old.ensures.entries ∙ ap (λ k. put key_cmp k new t) key)
    _ _ _ (ap (λ s. s.spare) c.self.view_is) c.self.invariant.1 _ _ c.insert-old.result (c.insert-old.ensures.old ∙ ap (λ k. find key_cmp k t) key) c.vacate.ensures in
    replaced t _ i c.args.task.key new refl refl _ c.insert-old.ensures.ordered (c.insert-old.ensures.entries ∙ ap (λ k. put key_cmp k new t) key)
    _ _ _ (ap (λ s. s.spare) c.self.view_is) c.self.invariant.1 _ _
    _ _ (c.insert_new.ensures.entries ∙ ap (λ q. put place_cmp q tt c.vacate.new.places.entries) place) c.insert_new.ensures.ordered None (sym absent) _ c.insert_new.ensures.spare
    c.insert-old.result (c.insert-old.ensures.old ∙ ap (λ k. find key_cmp k t) key)
    (λ none. c.requires.room (sym (kept_get t (ap (λ s. s.tasks) c.self.view_is) i.ordered c.args.task.key) ∙ ap (option_map kept_of) none)) c.vacate.ensures c.insert-old.ensures.spare

pub invariant_of-self : goal.invariant_of-self
invariant_of-self c = let d = done c in (d.0, d.2)

pub returns : goal.returns
returns c =
    let t = c.self.inside.tasks.entries in
    let new : Stored = record { task = c.args.task; stamp = c.args.stamp; claimed = false } in
    let v = ap (λ s. s.tasks) c.self.view_is in
    let i = c.self.invariant.0 in
    let key = ap (λ p. p.key) c.place-place.ensures in
    let there = ap is_some (c.insert-old.ensures.old ∙ ap (λ k. find key_cmp k t) key) ∙ kept_some t v i.ordered c.args.task.key in
    record {
      tasks = kept_put t v i.ordered c.args.task.key new _ (c.insert-old.ensures.entries ∙ ap (λ k. put key_cmp k new t) key);
      spare = rw (← there) (done c).1;
    }
