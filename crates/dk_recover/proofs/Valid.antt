-- The world after an entry that fits is valid exactly where its numbers are next and what it makes is committed.
use Rattle.std.proofs.Common.{◌≡◌, ℕ, ◌+◌, ◌<◌, ◌≤◌, ◌^◌, ◌&&◌, Bool, true, false, cond, max, map, is_some, Option, Some, None, List, [], ◌∷◌, length, nat_eq, leb, refl, sym, ap, subst, ◌∙◌, arith}
use Rattle.std.proofs.lemmas.Bool.{leb-true, ltb-true, le-leb, eq-eqb, eqb-true}
use Rattle.std.specs.Ordering.{eq_by_cmp}
use Rattle.dk_types.specs.Lists.{IsList}
use Rattle.std.specs.List.{AllByRecursion, list_all, list_any}
use Rattle.std.specs.FinMap.{get}
use Rattle.dk_types.specs.declared.number.RunNo.{RunNo}
use Rattle.dk_types.specs.declared.number.ObjectId.{ObjectId}
use Rattle.dk_types.specs.declared.number.TaskKey.{TaskKey}
use Rattle.dk_types.specs.declared.object.Object.{Object}
use Rattle.dk_types.specs.declared.durable.Pending.{Pending}
use Rattle.dk_types.specs.declared.durable.Entry.{Entry}
use Rattle.dk_types.specs.declared.limits.TheConstants.{NUMBERS_END, MOMENT_MOST_MS, DELAY_MOST_MS, PERIOD_MOST_MS}
use Rattle.dk_types.specs.Names.{IsName, bytes_cmp}
use Rattle.dk_types.specs.Values.{Task, same_object}
use Rattle.dk_map.specs.Entries.{find, IsOrdered}
use Rattle.dk_model.specs.Keys.{id_cmp, key_cmp}
use Rattle.dk_model.specs.DurableWorlds.{DurableWorld, last_with}
use Rattle.dk_model.specs.Effects.{apply, after, task_of}
use Rattle.dk_model.specs.Entries.{IsObjectItem, IsBinding, IsPendingItem, IsMovedItem, IsEntry}
use Rattle.dk_model.specs.Validity.{IsValid, IsCommitted, IsNumbered, IsObject, IsTask, next_of}
use Rattle.dk_model.proofs.Maps.{not_both, ids_total, exact_ids, names_total, exact_names, keys_total, exact_keys}
use Rattle.dk_laws.proofs.EffectsMade.{objects_told, ids_told, and_left, and_right, first_some}
use Rattle.dk_recover.specs.Bytes.{AreBytes, HaveObjectBytes, HaveTaskBytes, HaveBytes}
use Rattle.dk_recover.specs.TaskChanges.{is_due_else}
use Rattle.dk_recover.specs.Worlds.{is_next, are_made, are_scheduled}
use Rattle.dk_recover.proofs.Found.{both_true, entries_hold, hold_entries}
use Rattle.dk_recover.proofs.Items.{list_each, found_is}
use Rattle.dk_recover.proofs.Fit.{objects_in_order, names_in_order, tasks_in_order, moved_in_order}
use Rattle.dk_recover.proofs.MapChanges as changes
use Rattle.dk_recover.proofs.TaskChanges as tasks

-- what an entry's object is, by the grammar and its bytes
pub record IsWritten (e : ObjectId × Object) : Type 0 where
  pub numbered : IsNumbered e.0.run e.0.k
  pub object : IsObject e.1

pub record IsBound (e : List ℕ × ObjectId) : Type 0 where
  pub name : IsName e.0
  pub numbered : IsNumbered e.1.run e.1.k

pub record IsAdded (e : TaskKey × Task) : Type 0 where
  pub numbered : IsNumbered e.0.run e.0.k
  pub task : IsTask e.1

record IsPendingLike (p : Pending) : Type 0 where
  key : IsNumbered p.key.run p.key.k
  due : p.due ≤ MOMENT_MOST_MS + DELAY_MOST_MS
  period : p.period ≤ PERIOD_MOST_MS
  kind : p.kind < 2 ^ 16
  arg : length p.arg ≤ 1048576

pub written_items : (objects : List (ObjectId × Object)) → IsList (IsObjectItem 2) objects → HaveObjectBytes objects → AllByRecursion IsWritten objects
written_items objects are bytes =
    each_made objects (list_each (λ (o : ObjectId × Object). IsNumbered o.0.run o.0.k × (o.1.kind < 2 ^ 16) × (length o.1.bytes ≤ 1048576)) (IsObjectItem 2)
    (λ before o fits. (record { number = fits.id.run; place = fits.id.k }, fits.kind, fits.bytes)) objects are) bytes
  where
    each_made : (os : List (ObjectId × Object)) → AllByRecursion (λ (o : ObjectId × Object). IsNumbered o.0.run o.0.k × (o.1.kind < 2 ^ 16) × (length o.1.bytes ≤ 1048576)) os → AllByRecursion (λ (o : ObjectId × Object). AreBytes o.1.bytes) os → AllByRecursion IsWritten os
    each_made [] p q = tt
    each_made (o ∷ os) p q = (record { numbered = p.0.0; object = record { kind = p.0.1; body = record { short = p.0.2; bytes = q.0 } } }, each_made os p.1 q.1)

pub bound_items : (names : List (List ℕ × ObjectId)) → IsList IsBinding names → AllByRecursion IsBound names
bound_items names are = list_each IsBound IsBinding (λ before b fits. record { name = fits.name; numbered = record { number = fits.id.run; place = fits.id.k } }) names are

pub added_items : (tasks : List Pending) → IsList (IsPendingItem 2) tasks → HaveTaskBytes tasks → AllByRecursion IsAdded (map task_of tasks)
added_items tasks are bytes = each_made tasks (list_each IsPendingLike (IsPendingItem 2) (λ before p fits. record { key = record { number = fits.key.run; place = fits.key.k }; due = leb-true _ _ fits.due; period = leb-true _ _ fits.period; kind = fits.kind; arg = fits.arg }) tasks are) bytes
  where
    each_made : (ps : List Pending) → AllByRecursion IsPendingLike ps → AllByRecursion (λ (p : Pending). AreBytes p.arg) ps → AllByRecursion IsAdded (map task_of ps)
    each_made [] p q = tt
    each_made (x ∷ xs) p q = (record { numbered = p.0.key; task = record { due = p.0.due; period = p.0.period; kind = p.0.kind; arg = record { short = p.0.arg; bytes = q.0 } } }, each_made xs p.1 q.1)

-- what a run that is committed was is committed still
still_committed : (o : Option RunNo) (run r last : RunNo) → Some last ≡ last_with o run → IsCommitted o r → IsCommitted (Some last) r
still_committed None run r last e is = absurd is
still_committed (Some l) run r last e is = let same : last ≡ record { 0 = max l.0 run.0 } = cc in omega (arith, ap (λ (n : RunNo). n.0) same, is)

last_fits : (o : Option RunNo) (run last : RunNo) → Some last ≡ last_with o run → next_of o ≤ NUMBERS_END → run.0 < NUMBERS_END → last.0 + 1 ≤ NUMBERS_END
last_fits None run last e next small = let same : last ≡ run = cc in omega (arith, ap (λ (n : RunNo). n.0) same, small)
last_fits (Some l) run last e next small = let same : last ≡ record { 0 = max l.0 run.0 } = cc in omega (arith, ap (λ (n : RunNo). n.0) same, small, next)

-- an option that one of two gives
first_of : {X : Type 0} (P : X → Type 0) (f v : Option X) (x : X) → ((y : X) → f ≡ Some y → P y) → ((y : X) → v ≡ Some y → P y) → first_some f v ≡ Some x → P x
unfolding first_some
first_of P None v x one two e = two x e
first_of P (Some y) v x one two e = subst P (let same : y ≡ x = cc in same) (one y refl)

not_gone : {X : Type 0} (P : X → Type 0) (b : Bool) (o : Option X) (x : X) → (o ≡ Some x → P x) → cond b None o ≡ Some x → P x
not_gone P true o x to e = absurd cc
not_gone P false o x to e = to e

-- a task that stands, with another due moment or with its own
from_due : (P : Task → Type 0) (d : Option ℕ) (o : Option Task) (x : Task) → ((due : ℕ) (y : Task) → d ≡ Some due → o ≡ Some y → P (record y { due = due })) → ((y : Task) → o ≡ Some y → P y) → tasks.due_from d o ≡ Some x → P x
from_due P None o x moved here e = here x e
from_due P (Some due) None x moved here e = absurd cc
from_due P (Some due) (Some y) x moved here e = subst P (let same : record y { due = due } ≡ x = cc in same) (moved due y refl refl)

some_first : {X : Type 0} (x : X) (v : Option X) → first_some (Some x) v ≡ Some x
unfolding first_some
some_first x v = refl

none_unless : {X : Type 0} (o : Option X) → ((x : X) → o ≡ Some x → ⊥) → o ≡ None
none_unless None never = refl
none_unless (Some x) never = absurd (never x refl)

keys_by_tasks : (last : ℕ) (ps : List Pending) → list_all (λ (p : Pending). leb p.key.run.0 last) ps ≡ list_all (λ (e : TaskKey × Task). leb e.0.run.0 last) (map task_of ps)
keys_by_tasks last [] = refl
keys_by_tasks last (p ∷ ps) = ap (λ b. leb p.key.run.0 last && b) (keys_by_tasks last ps)

module _ (d : DurableWorld) (entry : Entry) (last : RunNo) (is : IsEntry 2 entry) (greater : Some last ≡ last_with d.last entry.run) where
  abbrev made_world : DurableWorld
  made_world = record (apply entry.effects d) { commits = entry.seq; last = Some last }

  is_after : made_world ≡ after entry d
  is_after = λ i. record (apply entry.effects d) { commits = entry.seq; last = greater i }

  sw : IsOrdered id_cmp entry.effects.written
  sw = objects_in_order 2 entry.effects.written is.effects.written

  sb : IsOrdered bytes_cmp entry.effects.bound
  sb = names_in_order entry.effects.bound is.effects.bound

  sa : IsOrdered key_cmp (map task_of entry.effects.added)
  sa = tasks_in_order 2 entry.effects.added is.effects.added

  sm : IsOrdered key_cmp entry.effects.requeued
  sm = moved_in_order entry.effects.requeued is.effects.requeued

  pub valid_after : IsValid d → HaveBytes entry.effects → are_made (Some last) entry.effects.written ≡ true → are_scheduled (Some last) entry.effects.added ≡ true → is_next d.commits entry.seq last ≡ true → IsValid (after entry d)
  valid_after valid bytes made scheduled next = subst IsValid is_after (record {
    objects = λ id object found.
        let P : Object → Type 0 = λ o. IsNumbered id.run id.k × IsCommitted (Some last) id.run × IsObject o in
        not_gone P (list_any (eq_by_cmp id_cmp id) entry.effects.removed) (first_some (find id_cmp id entry.effects.written) (get d.objects id)) object
        (first_of P (find id_cmp id entry.effects.written) (get d.objects id) object
        (λ y f.
        let w = found_is id_cmp exact_ids IsWritten entry.effects.written (written_items entry.effects.written is.effects.written bytes.0) id y f in
        (w.numbered, leb-true id.run.0 last.0 (entries_hold id_cmp ids_total exact_ids (λ (o : ObjectId × Object). leb o.0.run.0 last.0) entry.effects.written made id y f), w.object))
        (λ y f. let v = valid.objects id y f in (v.0, still_committed d.last entry.run id.run last greater v.1, v.2)))
        (sym (changes.get-made id_cmp ids_total exact_ids objects_told entry.effects.written entry.effects.removed sw d.objects id) ∙ found);
    names = λ name id found.
        let P : ObjectId → Type 0 = λ o. IsName name × IsNumbered o.run o.k in
        not_gone P (list_any (eq_by_cmp bytes_cmp name) entry.effects.unbound) (first_some (find bytes_cmp name entry.effects.bound) (get d.names name)) id
        (first_of P (find bytes_cmp name entry.effects.bound) (get d.names name) id
        (λ y f. let b = found_is bytes_cmp exact_names IsBound entry.effects.bound (bound_items entry.effects.bound is.effects.bound) name y f in (b.name, b.numbered))
        (λ y f. valid.names name y f))
        (sym (changes.get-made bytes_cmp names_total exact_names ids_told entry.effects.bound entry.effects.unbound sb d.names name) ∙ found);
    tasks = λ key task found.
        let P : Task → Type 0 = λ t. IsNumbered key.run key.k × IsCommitted (Some last) key.run × IsTask t in
        let inner : (y : Task) → cond (list_any (eq_by_cmp key_cmp key) entry.effects.dropped) None (first_some (find key_cmp key (map task_of entry.effects.added)) (get d.tasks key)) ≡ Some y → P y =
        λ y.
        not_gone P (list_any (eq_by_cmp key_cmp key) entry.effects.dropped) (first_some (find key_cmp key (map task_of entry.effects.added)) (get d.tasks key)) y
        (first_of P (find key_cmp key (map task_of entry.effects.added)) (get d.tasks key) y
        (λ t f.
        let a = found_is key_cmp exact_keys IsAdded (map task_of entry.effects.added) (added_items entry.effects.added is.effects.added bytes.1) key t f in
        (a.numbered, leb-true key.run.0 last.0 (entries_hold key_cmp keys_total exact_keys (λ (e : TaskKey × Task). leb e.0.run.0 last.0) (map task_of entry.effects.added) (sym (keys_by_tasks last.0 entry.effects.added) ∙ scheduled) key t f), a.task))
        (λ t f. let v = valid.tasks key t f in (v.0, still_committed d.last entry.run key.run last greater v.1, v.2))) in
        from_due P (find key_cmp key entry.effects.requeued) (cond (list_any (eq_by_cmp key_cmp key) entry.effects.dropped) None (first_some (find key_cmp key (map task_of entry.effects.added)) (get d.tasks key))) task
        (λ due y m o.
        let p = inner y o in
        let in_time = found_is key_cmp exact_keys (λ (e : TaskKey × ℕ). e.1 ≤ MOMENT_MOST_MS + DELAY_MOST_MS) entry.effects.requeued (list_each (λ (e : TaskKey × ℕ). e.1 ≤ MOMENT_MOST_MS + DELAY_MOST_MS) IsMovedItem (λ before x fits. leb-true _ _ fits.due) entry.effects.requeued is.effects.requeued) key due m in
        (p.0, p.1, record { due = in_time; period = p.2.period; kind = p.2.kind; arg = p.2.arg }))
        inner
        (sym (tasks.get-made entry.effects.added entry.effects.dropped entry.effects.requeued sa sm d.tasks key) ∙ found);
    last = last_fits d.last entry.run last greater valid.last (ltb-true entry.run.0 NUMBERS_END is.run);
    commits = leb-true entry.seq (last.0 + 1) (and_right (nat_eq entry.seq (d.commits + 1)) (leb entry.seq (last.0 + 1)) next);
    begun = (λ none. absurd (omega (arith, eqb-true entry.seq (d.commits + 1) (and_left (nat_eq entry.seq (d.commits + 1)) (leb entry.seq (last.0 + 1)) next), none)), λ no. absurd cc);
  })

  pub next_after : IsValid (after entry d) → entry.seq ≡ d.commits + 1 → is_next d.commits entry.seq last ≡ true
  next_after valid seq = both_true _ _ (eq-eqb _ _ seq) (le-leb _ _ (subst IsValid (sym is_after) valid).commits)

  pub committed_after : IsValid (after entry d) → changes.IsClean same_object d.objects entry.effects.written entry.effects.removed → tasks.IsTaskClean d.tasks (map task_of entry.effects.added) entry.effects.dropped entry.effects.requeued
      → (are_made (Some last) entry.effects.written ≡ true) × (are_scheduled (Some last) entry.effects.added ≡ true)
  committed_after valid objects clean =
      let w = subst IsValid (sym is_after) valid in (
        (hold_entries id_cmp ids_total exact_ids (λ (o : ObjectId × Object). leb o.0.run.0 last.0) entry.effects.written sw (λ q x found.
            let out : list_any (eq_by_cmp id_cmp q) entry.effects.removed ≡ false = changes.false_unless _ (λ among. not_both (find id_cmp q entry.effects.written) x found (objects.apart q among)) in
            let here : get made_world.objects q ≡ Some x =
            changes.get-made id_cmp ids_total exact_ids objects_told entry.effects.written entry.effects.removed sw d.objects q
            ∙ ap (λ b. cond b None (first_some (find id_cmp q entry.effects.written) (get d.objects q))) out ∙ ap (λ f. first_some f (get d.objects q)) found ∙ some_first x (get d.objects q) in
            le-leb _ _ (w.objects q x here).1)),
        (keys_by_tasks last.0 entry.effects.added ∙ hold_entries key_cmp keys_total exact_keys (λ (e : TaskKey × Task). leb e.0.run.0 last.0) (map task_of entry.effects.added) sa (λ q x found.
            let fresh : get d.tasks q ≡ None = clean.new q x found in
            let out : list_any (eq_by_cmp key_cmp q) entry.effects.dropped ≡ false = changes.false_unless _ (λ among. let some = clean.there q among in let no : is_some {T = Task} None ≡ true = ap is_some (sym fresh) ∙ some in cc) in
            let still : find key_cmp q entry.effects.requeued ≡ None = none_unless _ (λ due m. let moved = clean.moves q due m in let no : is_due_else None due ≡ true = ap (λ v. is_due_else v due) (sym fresh) ∙ moved in cc) in
            let here : get made_world.tasks q ≡ Some x =
            tasks.get-made entry.effects.added entry.effects.dropped entry.effects.requeued sa sm d.tasks q
            ∙ ap (λ r. tasks.due_from r (cond (list_any (eq_by_cmp key_cmp q) entry.effects.dropped) None (first_some (find key_cmp q (map task_of entry.effects.added)) (get d.tasks q)))) still
            ∙ ap (λ b. cond b None (first_some (find key_cmp q (map task_of entry.effects.added)) (get d.tasks q))) out ∙ ap (λ f. first_some f (get d.tasks q)) found ∙ some_first x (get d.tasks q) in
            le-leb _ _ (w.tasks q x here).1)),
      )
