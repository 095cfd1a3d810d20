-- Changes that know what was there before.
use Rattle.std.proofs.Common.{◌≡◌, ℕ, ◌⊎◌, inl, inr, true, Option, Some, None, is_some, [], ◌∷◌, refl, sym, ap, subst, ◌∙◌}
use Rattle.std.specs.FinMap as map
use Rattle.dk_types.specs.declared.number.RunNo.{RunNo}
use Rattle.dk_types.specs.declared.number.ObjectId.{ObjectId}
use Rattle.dk_types.specs.declared.number.TaskKey.{TaskKey}
use Rattle.dk_types.specs.declared.object.Object.{Object}
use Rattle.dk_types.specs.declared.item.Item.{Item}
use Rattle.dk_types.specs.declared.item.Read.{Read}
use Rattle.std.proofs.Common.{List, ◌++◌}
use Rattle.dk_types.specs.Names.{bytes_cmp}
use Rattle.dk_model.specs.Keys.{id_cmp, key_cmp}
use Rattle.dk_model.specs.DurableWorlds.{DurableWorld, Task, Agrees}
use Rattle.dk_overlay.specs.declared.change.Change.{Change}
use Rattle.dk_overlay.specs.declared.change.TaskChange.{TaskChange}
use Rattle.dk_overlay.specs.declared.change.TaskChange.TheVariants.{Added, Withdrawn, Dropped, Moved}
use Rattle.dk_overlay.specs.Changes.{task_now, moved_to, stood, removing, moving}
use Rattle.dk_txn.specs.Layers.{newest}
use Rattle.dk_overlay.specs.ReadsAndWrites.{ReadsAndWrites, nothing_done, reading, changing_object, changing_name}
use Rattle.dk_model.specs.Finishes.{IsNew}
use Rattle.dk_txn.specs.Knowing.{KnowsBefore, IsSound}
use Rattle.dk_overlay.proofs.Keys.{ids_total, ids_same, keys_total, keys_same, names_total, names_same}
use Rattle.dk_txn.proofs.Layers.{at_changed, at_empty}
use Rattle.dk_overlay.proofs.Tests.{none_some}

-- a world that agrees with reads agrees with those before
pub Agrees-front : (d : DurableWorld) (xs ys : List (Item × Read)) → Agrees d (xs ++ ys) → Agrees d xs
unfolding Agrees
Agrees-front d [] ys h = tt
Agrees-front d (x ∷ xs) ys h = (h.0, Agrees-front d xs ys h.1)

pub nothing_known : (run : RunNo) (at : ℕ) (d : DurableWorld) → KnowsBefore (nothing_done run at) d
nothing_known run at d = record {
  objects = at_empty id_cmp (λ id c. c.before ≡ map.get d.objects id);
  names = at_empty bytes_cmp (λ name c. c.before ≡ map.get d.names name);
  tasks = at_empty key_cmp (λ key c. is_some (map.get d.tasks key) ≡ stood c);
}

pub sound_start : (run : RunNo) (at : ℕ) → IsSound (nothing_done run at)
sound_start run at = record { knows = λ d agrees new. nothing_known run at d }

pub sound_reading : (t : ReadsAndWrites) (item : Item) (read : Read) → IsSound t → IsSound (reading t item read)
sound_reading t item read s = record {
  knows = λ d agrees new.
      let k : KnowsBefore t d = s.knows d (Agrees-front d t.reads ((item, read) ∷ []) agrees) new in
      record { objects = k.objects; names = k.names; tasks = k.tasks };
}

-- what is as it was in all that a change knows is sound
pub sound_as : (t u : ReadsAndWrites) → u.reads ≡ t.reads → u.run ≡ t.run → u.objects ≡ t.objects → u.names ≡ t.names → u.tasks ≡ t.tasks → IsSound t → IsSound u
sound_as t u reads run objects names tasks s = record {
  knows = λ d agrees new.
      let k : KnowsBefore t d = s.knows d (subst (Agrees d) reads agrees) (subst (IsNew d) run new) in
      record {
        objects = λ id c h. k.objects id c (ap (λ m. map.get m id) (sym objects) ∙ h);
        names = λ name c h. k.names name c (ap (λ m. map.get m name) (sym names) ∙ h);
        tasks = λ key c h. k.tasks key c (ap (λ m. map.get m key) (sym tasks) ∙ h);
      };
}

pub sound_object : (t : ReadsAndWrites) (id : ObjectId) (c : Change Object) → IsSound t
    → ((d : DurableWorld) → Agrees d t.reads → IsNew d t.run → c.before ≡ map.get d.objects id) → IsSound (changing_object t id c)
sound_object t id c s before = record {
  knows = λ d agrees new.
      let k : KnowsBefore t d = s.knows d agrees new in
      record { objects = at_changed ids_total ids_same t.objects id c (λ q x. x.before ≡ map.get d.objects q) (before d agrees new) k.objects; names = k.names; tasks = k.tasks };
}

pub sound_name : (t : ReadsAndWrites) (name : List ℕ) (c : Change ObjectId) → IsSound t
    → ((d : DurableWorld) → Agrees d t.reads → IsNew d t.run → c.before ≡ map.get d.names name) → IsSound (changing_name t name c)
sound_name t name c s before = record {
  knows = λ d agrees new.
      let k : KnowsBefore t d = s.knows d agrees new in
      record { objects = k.objects; names = at_changed names_total names_same t.names name c (λ q x. x.before ≡ map.get d.names q) (before d agrees new) k.names; tasks = k.tasks };
}

-- a change of a task, listed as written or not
pub knows_task : (t : ReadsAndWrites) (key : TaskKey) (c : TaskChange) (d : DurableWorld) → KnowsBefore t d → is_some (map.get d.tasks key) ≡ stood c
    → KnowsBefore (record t { tasks = map.insert t.tasks key c }) d
knows_task t key c d k before = record { objects = k.objects; names = k.names; tasks = at_changed keys_total keys_same t.tasks key c (λ q x. is_some (map.get d.tasks q) ≡ stood x) before k.tasks }

pub sound_task : (t : ReadsAndWrites) (key : TaskKey) (c : TaskChange) → IsSound t
    → ((d : DurableWorld) → Agrees d t.reads → IsNew d t.run → is_some (map.get d.tasks key) ≡ stood c) → IsSound (record t { tasks = map.insert t.tasks key c })
sound_task t key c s before = record { knows = λ d agrees new. knows_task t key c d (s.knows d agrees new) (before d agrees new) }

-- what a run knows of a task after it was taken away, or moved
pub removing_stood : (o : Option TaskChange) (x : Option Task) → is_some (newest task_now o x) ≡ true → ((c : TaskChange) → o ≡ Some c → is_some x ≡ stood c) → is_some x ≡ stood (removing o)
removing_stood None x h k = h
removing_stood (Some (Added s)) x h k = k (Added s) refl
removing_stood (Some Withdrawn) x h k = k Withdrawn refl
removing_stood (Some Dropped) x h k = k Dropped refl
removing_stood (Some (Moved from to)) x h k = k (Moved from to) refl

pub moving_stood : (o : Option TaskChange) (x : Option Task) (due to : ℕ) → is_some (newest task_now o x) ≡ true → ((c : TaskChange) → o ≡ Some c → is_some x ≡ stood c) → is_some x ≡ stood (moving o due to)
moving_stood None x due to h k = h
moving_stood (Some (Added s)) x due to h k = k (Added s) refl
moving_stood (Some Withdrawn) x due to h k = k Withdrawn refl
moving_stood (Some Dropped) x due to h k = k Dropped refl
moving_stood (Some (Moved from was)) x due to h k = k (Moved from was) refl

-- what it makes of the task
pub removing_none : (o : Option TaskChange) (x : Option Task) → task_now (removing o) x ≡ None
removing_none None x = refl
removing_none (Some (Added s)) x = refl
removing_none (Some Withdrawn) x = refl
removing_none (Some Dropped) x = refl
removing_none (Some (Moved from to)) x = refl

moved_again : (x : Option Task) (was to : ℕ) (task : Task) → moved_to was x ≡ Some task → moved_to to x ≡ Some (record task { due = to })
moved_again None was to task e = none_some task e
moved_again (Some y) was to task e = ap (moved_to to) e

pub moving_some : (o : Option TaskChange) (x : Option Task) (due to : ℕ) (task : Task) → newest task_now o x ≡ Some task → task_now (moving o due to) x ≡ Some (record task { due = to })
moving_some None x due to task e = ap (moved_to to) e
moving_some (Some (Added s)) x due to task e = ap (moved_to to) e
moving_some (Some Withdrawn) x due to task e = none_some task e
moving_some (Some Dropped) x due to task e = none_some task e
moving_some (Some (Moved from was)) x due to task e = moved_again x was to task e

-- a task that was taken away was not moved
pub removing_unmoved : {P : Type 0} (o : Option TaskChange) (from to : ℕ) → removing o ≡ Moved from to → P
removing_unmoved None from to e = absurd cc
removing_unmoved (Some (Added s)) from to e = absurd cc
removing_unmoved (Some Withdrawn) from to e = absurd cc
removing_unmoved (Some Dropped) from to e = absurd cc
removing_unmoved (Some (Moved f u)) from to e = absurd cc

-- one that was moved was moved from this due moment, or from the one of an earlier move
pub moving_from : (o : Option TaskChange) (due to f u : ℕ) → moving o due to ≡ Moved f u → (f ≡ due) ⊎ ((was : ℕ) × (o ≡ Some (Moved f was)))
moving_from None due to f u e = inl cc
moving_from (Some (Added s)) due to f u e = absurd cc
moving_from (Some Withdrawn) due to f u e = absurd cc
moving_from (Some Dropped) due to f u e = absurd cc
moving_from (Some (Moved first was)) due to f u e = let same : first ≡ f = cc in inr (was, ap (λ n. Some (Moved n was)) same)
