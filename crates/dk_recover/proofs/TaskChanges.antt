-- A change of the tasks is the effects between the tasks before it and after it, exactly where it is one.
use Rattle.std.proofs.Common.{◌≡◌, ℕ, Bool, true, false, cond, not, ◌&&◌, nat_eq, map, is_some, Option, Some, None, List, [], ◌∷◌, refl, sym, ap, ◌∙◌}
use Rattle.std.specs.Ordering.{eq_by_cmp}
use Rattle.std.specs.Option.{option_map}
use Rattle.std.specs.List.{list_all, list_any}
use Rattle.std.specs.FinMap.{FinMap, get, entries_sorted, same_map, retain_keys}
use Rattle.std.specs.FinMap.Entries.{same_entries, is_some-find}
use Rattle.dk_types.specs.Values.{Task}
use Rattle.dk_types.specs.declared.number.TaskKey.{TaskKey}
use Rattle.dk_types.specs.declared.durable.Pending.{Pending}
use Rattle.dk_map.specs.Entries.{find, put, IsOrdered, IsChanged}
use Rattle.dk_map.specs.AsMap.{map_of}
use Rattle.dk_map.specs.Values.{entries_with}
use Rattle.dk_map.proofs.Values.{find_with, ordered_with}
use Rattle.dk_map.proofs.Maps.{get-map_of, map_of-put}
use Rattle.dk_model.specs.Keys.{key_cmp}
use Rattle.dk_model.specs.Effects.{new_in, gone_in, moved_in, is_moved, moved_at, with_set, without_keys, with_moved, task_of, pending_of}
use Rattle.dk_model.proofs.Maps.{keys_total, exact_keys}
use Rattle.dk_laws.proofs.EffectsMade.{numbers_told, and_left, and_right, first_some, due_of, Kept, get-with_set, get-without_keys, find-kept, get-with_moved}
use Rattle.dk_recover.specs.Changes.{without_all, all_there, none_there, changed_by}
use Rattle.dk_recover.specs.TaskChanges.{is_due_else, all_new, all_moved, is_task_change}
use Rattle.dk_recover.proofs.Found.{bare, both_true, keys_hold, hold_keys, entries_hold, hold_entries, keys_same}
use Rattle.dk_recover.proofs.MapChanges.{not_true, false_unless, none_is, same_both, gone_back, put_is, without_is, without_ordered, find-without_all}

-- a task of which the due moment alone counts
abbrev due_task : ℕ → Task
due_task due = record { due = due; period = 0; kind = 0; arg = [] }

abbrev with_dues : List (TaskKey × ℕ) → List (TaskKey × Task)
with_dues moved = entries_with due_task moved

dues_back : (moved : List (TaskKey × ℕ)) → map (λ (e : TaskKey × Task). (e.0, e.1.due)) (with_dues moved) ≡ moved
dues_back [] = refl
dues_back (e ∷ es) = ap (λ (l : List (TaskKey × ℕ)). e ∷ l) (dues_back es)

-- a task with another due moment, where one is given
abbrev pub due_from : Option ℕ → Option Task → Option Task
due_from None task = task
due_from (Some due) None = None
due_from (Some due) (Some task) = Some (record task { due = due })

due_from_is : (d : Option ℕ) (o : Option Task) → due_of (option_map due_task d) o ≡ due_from d o
unfolding due_of
due_from_is None o = refl
due_from_is (Some due) None = refl
due_from_is (Some due) (Some task) = refl

pub get-moved : (moved : List (TaskKey × ℕ)) → IsOrdered key_cmp moved → (m : FinMap key_cmp Task) (q : TaskKey) → get (with_moved moved m) q ≡ due_from (find key_cmp q moved) (get m q)
get-moved moved s m q =
    ap (λ (l : List (TaskKey × ℕ)). get (with_moved l m) q) (sym (dues_back moved))
    ∙ get-with_moved (with_dues moved) (ordered_with key_cmp due_task moved s) m q
    ∙ ap (λ d. due_of d (get m q)) (find_with key_cmp due_task q moved)
    ∙ due_from_is (find key_cmp q moved) (get m q)

-- one task with another due moment
pub moved_one : {A : Type 0} (P : Task → Task → A → Type 0) (due : ℕ) → ((x y : Task) (a : A) → P x y a → y ≡ record x { due = due }) → (es fs : List (TaskKey × Task)) → IsOrdered key_cmp es → (key : TaskKey) (answer : Option A)
    → IsChanged key_cmp key P es fs answer → map_of key_cmp fs ≡ moved_at (get (map_of key_cmp es) key) key due (map_of key_cmp es)
moved_one P due is es fs h key None c =
    ap (map_of key_cmp) c.1 ∙ ap (λ (o : Option Task). moved_at o key due (map_of key_cmp es)) (sym c.0 ∙ sym (get-map_of key_cmp es h key))
moved_one P due is es fs h key (Some a) c =
    ap (map_of key_cmp) (c.4 ∙ ap (λ (t : Task). put key_cmp key t es) (is c.0 c.1 a c.3))
    ∙ map_of-put keys_total es h key (record (c.0) { due = due })
    ∙ ap (λ (o : Option Task). moved_at o key due (map_of key_cmp es)) (sym c.2 ∙ sym (get-map_of key_cmp es h key))

-- Of one key: what is added, whether it is dropped, the new due moment, and the task before it.
record Fits (a : Option Task) (g : Bool) (d : Option ℕ) (v : Option Task) : Type 0 where
  new : (x : Task) → a ≡ Some x → v ≡ None
  there : g ≡ true → is_some v ≡ true
  moves : (due : ℕ) → d ≡ Some due → is_due_else v due ≡ true
  stays : (due : ℕ) → d ≡ Some due → g ≡ false

abbrev after_of : Option Task → Bool → Option ℕ → Option Task → Option Task
after_of a g d v = due_from d (cond g None (first_some a v))

added_case : (a : Option Task) (g : Bool) (d : Option ℕ) (v : Option Task) → Fits a g d v → a ≡ cond (not (is_some v)) (after_of a g d v) None
unfolding first_some
added_case a true d None f = let no : false ≡ true = f.there refl in absurd cc
added_case a false (Some due) None f = let no : false ≡ true = f.moves due refl in absurd cc
added_case None false None None f = refl
added_case (Some x) false None None f = refl
added_case None g d (Some t) f = refl
added_case (Some x) g d (Some t) f = let no = f.new x refl in absurd cc

dropped_case : (a : Option Task) (g : Bool) (d : Option ℕ) (v : Option Task) → Fits a g d v → g ≡ is_some (cond (not (is_some (after_of a g d v))) v None)
unfolding first_some
dropped_case a true None v f = sym (f.there refl)
dropped_case a true (Some due) v f = let no : true ≡ false = f.stays due refl in absurd cc
dropped_case a false d None f = ap is_some (sym (same_both (not (is_some (after_of a false d None))) None))
dropped_case None false None (Some t) f = refl
dropped_case None false (Some due) (Some t) f = refl
dropped_case (Some x) false None (Some t) f = refl
dropped_case (Some x) false (Some due) (Some t) f = refl

same_due : (n : ℕ) → nat_eq n n ≡ true
same_due n = numbers_told.itself n

moved_case : (a : Option Task) (g : Bool) (d : Option ℕ) (v : Option Task) → Fits a g d v → d ≡ option_map (λ (t : Task). t.due) (cond (is_moved v (after_of a g d v)) (after_of a g d v) None)
unfolding first_some
moved_case a true (Some due) v f = let no : true ≡ false = f.stays due refl in absurd cc
moved_case a false (Some due) None f = let no : false ≡ true = f.moves due refl in absurd cc
moved_case None false (Some due) (Some t) f = rw (f.moves due refl) refl
moved_case (Some x) false (Some due) (Some t) f = let no = f.new x refl in absurd cc
moved_case a g None None f = refl
moved_case a true None (Some t) f = refl
moved_case None false None (Some t) f = rw (same_due t.due) refl
moved_case (Some x) false None (Some t) f = let no = f.new x refl in absurd cc

added_back : (a v n : Option Task) → a ≡ cond (not (is_some v)) n None → (x : Task) → a ≡ Some x → v ≡ None
added_back a None n is x some = refl
added_back a (Some t) n is x some = absurd cc

moved_back : (d : Option ℕ) (v n : Option Task) → d ≡ option_map (λ (t : Task). t.due) (cond (is_moved v n) n None) → (due : ℕ) → d ≡ Some due → (is_due_else v due ≡ true) × (is_some n ≡ true)
moved_back d None n is due some = absurd cc
moved_back d (Some t) None is due some = absurd cc
moved_back d (Some t) (Some u) is due some = elim (nat_eq t.due u.due) as (λ b. nat_eq t.due u.due ≡ b → d ≡ option_map (λ (t : Task). t.due) (cond (not b) (Some u) None) → (not (nat_eq t.due due) ≡ true) × (true ≡ true)) [
  | true ↦ λ _ none. absurd cc
  | false ↦ λ apart here. let same : u.due ≡ due = cc in (ap (λ n. not (nat_eq t.due n)) (sym same) ∙ ap not apart, refl)
] refl is

-- what is added is new, what is dropped was there, and what is moved was there, stays, and gets another due moment
pub record IsTaskClean (m : FinMap key_cmp Task) (added : List (TaskKey × Task)) (dropped : List TaskKey) (moved : List (TaskKey × ℕ)) : Type 0 where
  pub new : (q : TaskKey) (x : Task) → find key_cmp q added ≡ Some x → get m q ≡ None
  pub there : (q : TaskKey) → list_any (eq_by_cmp key_cmp q) dropped ≡ true → is_some (get m q) ≡ true
  pub moves : (q : TaskKey) (due : ℕ) → find key_cmp q moved ≡ Some due → is_due_else (get m q) due ≡ true
  pub stays : (q : TaskKey) (due : ℕ) → find key_cmp q moved ≡ Some due → list_any (eq_by_cmp key_cmp q) dropped ≡ false

pub pendings_back : (ps : List Pending) → map pending_of (map task_of ps) ≡ ps
pendings_back [] = refl
pendings_back (p ∷ ps) = ap (λ (l : List Pending). p ∷ l) (pendings_back ps)

pub tasks_back : (es : List (TaskKey × Task)) → map task_of (map pending_of es) ≡ es
tasks_back [] = refl
tasks_back (e ∷ es) = ap (λ (l : List (TaskKey × Task)). e ∷ l) (tasks_back es)

pub task_keys : (ps : List Pending) → map (λ (e : TaskKey × Task). e.0) (map task_of ps) ≡ map (λ (p : Pending). p.key) ps
task_keys [] = refl
task_keys (p ∷ ps) = ap (λ (l : List TaskKey). p.key ∷ l) (task_keys ps)

new_keys : (p : TaskKey → Bool) (ps : List Pending) → list_all (λ (x : Pending). p x.key) ps ≡ list_all p (map (λ (x : Pending). x.key) ps)
new_keys p [] = refl
new_keys p (x ∷ xs) = ap (λ b. p x.key && b) (new_keys p xs)

module _ (added : List Pending) (dropped : List TaskKey) (moved : List (TaskKey × ℕ)) (sa : IsOrdered key_cmp (map task_of added)) (sm : IsOrdered key_cmp moved) where
  abbrev made : FinMap key_cmp Task → FinMap key_cmp Task
  made m = with_moved moved (without_keys dropped (with_set (map task_of added) m))

  pub get-made : (m : FinMap key_cmp Task) (q : TaskKey) → get (made m) q ≡ after_of (find key_cmp q (map task_of added)) (list_any (eq_by_cmp key_cmp q) dropped) (find key_cmp q moved) (get m q)
  get-made m q =
      get-moved moved sm (without_keys dropped (with_set (map task_of added) m)) q
      ∙ ap (due_from (find key_cmp q moved)) (get-without_keys key_cmp keys_total exact_keys dropped (with_set (map task_of added) m) q
      ∙ ap (cond (list_any (eq_by_cmp key_cmp q) dropped) None) (get-with_set key_cmp keys_total exact_keys (map task_of added) sa m q))

  fits_at : (m : FinMap key_cmp Task) → IsTaskClean m (map task_of added) dropped moved → (q : TaskKey) → Fits (find key_cmp q (map task_of added)) (list_any (eq_by_cmp key_cmp q) dropped) (find key_cmp q moved) (get m q)
  fits_at m c q = record { new = c.new q; there = c.there q; moves = c.moves q; stays = c.stays q }

  pub added_is : (m : FinMap key_cmp Task) → IsTaskClean m (map task_of added) dropped moved → added ≡ map pending_of (new_in m (made m))
  unfolding new_in
  added_is m c =
      let p = λ (k : TaskKey). not (is_some (get m k)) in
      sym (pendings_back added) ∙ ap (map pending_of) (same_entries key_cmp keys_total exact_keys (map task_of added) (Kept (made m) p) sa (entries_sorted (retain_keys (made m) p)) (λ q.
      added_case _ _ _ _ (fits_at m c q) ∙ ap (λ v. cond (p q) v None) (sym (get-made m q)) ∙ sym (find-kept key_cmp keys_total exact_keys (made m) p q)))

  pub dropped_is : IsOrdered key_cmp (bare dropped) → (m : FinMap key_cmp Task) → IsTaskClean m (map task_of added) dropped moved → dropped ≡ gone_in m (made m)
  unfolding gone_in
  dropped_is sd m c =
      let p = λ (k : TaskKey). not (is_some (get (made m) k)) in
      keys_same key_cmp keys_total exact_keys dropped (Kept m p) sd (entries_sorted (retain_keys m p)) (λ q.
      dropped_case _ _ _ _ (fits_at m c q) ∙ ap (λ v. is_some (cond (not (is_some v)) (get m q) None)) (sym (get-made m q)) ∙ ap is_some (sym (find-kept key_cmp keys_total exact_keys m p q)))

  pub moved_is : (m : FinMap key_cmp Task) → IsTaskClean m (map task_of added) dropped moved → moved ≡ moved_in m (made m)
  unfolding moved_in
  moved_is m c =
      let p = λ (k : TaskKey). is_moved (get m k) (get (made m) k) in
      same_entries key_cmp keys_total exact_keys moved (entries_with (λ (t : Task). t.due) (Kept (made m) p)) sm (ordered_with key_cmp (λ (t : Task). t.due) (Kept (made m) p) (entries_sorted (retain_keys (made m) p))) (λ q.
      moved_case _ _ _ _ (fits_at m c q)
      ∙ ap (λ v. option_map (λ (t : Task). t.due) (cond (is_moved (get m q) v) v None)) (sym (get-made m q))
      ∙ ap (option_map (λ (t : Task). t.due)) (sym (find-kept key_cmp keys_total exact_keys (made m) p q))
      ∙ sym (find_with key_cmp (λ (t : Task). t.due) q (Kept (made m) p)))

  pub is_clean : (m : FinMap key_cmp Task) → added ≡ map pending_of (new_in m (made m)) → dropped ≡ gone_in m (made m) → moved ≡ moved_in m (made m) → IsTaskClean m (map task_of added) dropped moved
  unfolding new_in gone_in moved_in
  is_clean m added_same dropped_same moved_same =
      let fresh = λ (k : TaskKey). not (is_some (get m k)) in
      let left = λ (k : TaskKey). not (is_some (get (made m) k)) in
      let changed = λ (k : TaskKey). is_moved (get m k) (get (made m) k) in
      let of_added : (q : TaskKey) → find key_cmp q (map task_of added) ≡ cond (not (is_some (get m q))) (get (made m) q) None =
      λ q. ap (λ (l : List Pending). find key_cmp q (map task_of l)) added_same ∙ ap (find key_cmp q) (tasks_back (Kept (made m) fresh)) ∙ find-kept key_cmp keys_total exact_keys (made m) fresh q in
      let of_dropped : (q : TaskKey) → list_any (eq_by_cmp key_cmp q) dropped ≡ is_some (cond (not (is_some (get (made m) q))) (get m q) None) =
      λ q. ap (list_any (eq_by_cmp key_cmp q)) dropped_same ∙ sym (is_some-find key_cmp q (Kept m left)) ∙ ap is_some (find-kept key_cmp keys_total exact_keys m left q) in
      let of_moved : (q : TaskKey) → find key_cmp q moved ≡ option_map (λ (t : Task). t.due) (cond (is_moved (get m q) (get (made m) q)) (get (made m) q) None) =
      λ q. ap (find key_cmp q) moved_same ∙ find_with key_cmp (λ (t : Task). t.due) q (Kept (made m) changed) ∙ ap (option_map (λ (t : Task). t.due)) (find-kept key_cmp keys_total exact_keys (made m) changed q) in
      record {
        new = λ q x found. added_back (find key_cmp q (map task_of added)) (get m q) (get (made m) q) (of_added q) x found;
        there = λ q among. (gone_back _ (get m q) (get (made m) q) (of_dropped q) among).1;
        moves = λ q due found. (moved_back (find key_cmp q moved) (get m q) (get (made m) q) (of_moved q) due found).0;
        stays = λ q due found. false_unless _ (λ among.
            let none : get (made m) q ≡ None = (gone_back _ (get m q) (get (made m) q) (of_dropped q) among).0 in
            let some : is_some (get (made m) q) ≡ true = (moved_back (find key_cmp q moved) (get m q) (get (made m) q) (of_moved q) due found).1 in
            let no : is_some {T = Task} None ≡ true = ap is_some (sym none) ∙ some in cc);
      }

  module _ (es : List (TaskKey × Task)) (h : IsOrdered key_cmp es) where
    pub check_clean : is_task_change added dropped moved es ≡ true → IsTaskClean (map_of key_cmp es) (map task_of added) dropped moved
    check_clean is =
        let first : (all_new es added && all_there key_cmp es dropped) ≡ true = and_left _ _ is in
        let new_all : none_there key_cmp es (map (λ (p : Pending). p.key) added) ≡ true = sym (new_keys (λ k. not (is_some (find key_cmp k es))) added) ∙ and_left _ _ first in
        let there_all : all_there key_cmp es dropped ≡ true = and_right _ _ first in
        let moved_all : all_moved (without_all key_cmp dropped es) moved ≡ true = and_right _ _ is in
        let at : (q : TaskKey) (due : ℕ) → find key_cmp q moved ≡ Some due → is_due_else (cond (list_any (eq_by_cmp key_cmp q) dropped) None (find key_cmp q es)) due ≡ true =
        λ q due found.
        ap (λ v. is_due_else v due) (sym (find-without_all key_cmp keys_total exact_keys dropped es h q))
        ∙ entries_hold key_cmp keys_total exact_keys (λ (e : TaskKey × ℕ). is_due_else (find key_cmp e.0 (without_all key_cmp dropped es)) e.1) moved moved_all q due found in
        record {
          new = λ q x found.
              let among : list_any (eq_by_cmp key_cmp q) (map (λ (p : Pending). p.key) added) ≡ true =
              ap (list_any (eq_by_cmp key_cmp q)) (sym (task_keys added)) ∙ sym (is_some-find key_cmp q (map task_of added)) ∙ ap is_some found in
              get-map_of key_cmp es h q ∙ none_is _ (not_true _ (keys_hold key_cmp keys_total exact_keys (λ k. not (is_some (find key_cmp k es))) (map (λ (p : Pending). p.key) added) new_all q among));
          there = λ q among. ap is_some (get-map_of key_cmp es h q) ∙ keys_hold key_cmp keys_total exact_keys (λ k. is_some (find key_cmp k es)) dropped there_all q among;
          moves = λ q due found. ap (λ v. is_due_else v due) (get-map_of key_cmp es h q) ∙ with_or_not (list_any (eq_by_cmp key_cmp q) dropped) (find key_cmp q es) due (at q due found);
          stays = λ q due found. in_or_out (list_any (eq_by_cmp key_cmp q) dropped) (find key_cmp q es) due (at q due found);
        }
      where
        with_or_not : (b : Bool) (v : Option Task) (due : ℕ) → is_due_else (cond b None v) due ≡ true → is_due_else v due ≡ true
        with_or_not true v due e = absurd cc
        with_or_not false v due e = e

        in_or_out : (b : Bool) (v : Option Task) (due : ℕ) → is_due_else (cond b None v) due ≡ true → b ≡ false
        in_or_out true v due e = absurd cc
        in_or_out false v due e = refl

    pub clean_check : IsTaskClean (map_of key_cmp es) (map task_of added) dropped moved → is_task_change added dropped moved es ≡ true
    clean_check c = both_true _ _
        (both_true _ _
        (new_keys (λ k. not (is_some (find key_cmp k es))) added ∙ hold_keys key_cmp keys_total exact_keys (λ k. not (is_some (find key_cmp k es))) (map (λ (p : Pending). p.key) added) (λ q among.
        let some : is_some (find key_cmp q (map task_of added)) ≡ true = is_some-find key_cmp q (map task_of added) ∙ ap (list_any (eq_by_cmp key_cmp q)) (task_keys added) ∙ among in
        let x = value_of (find key_cmp q (map task_of added)) some in
        ap (λ v. not (is_some v)) (sym (get-map_of key_cmp es h q) ∙ c.new q x.0 x.1)))
        (hold_keys key_cmp keys_total exact_keys (λ k. is_some (find key_cmp k es)) dropped (λ q among. ap is_some (sym (get-map_of key_cmp es h q)) ∙ c.there q among)))
        (hold_entries key_cmp keys_total exact_keys (λ (e : TaskKey × ℕ). is_due_else (find key_cmp e.0 (without_all key_cmp dropped es)) e.1) moved sm (λ q due found.
        ap (λ v. is_due_else v due) (find-without_all key_cmp keys_total exact_keys dropped es h q ∙ ap (λ b. cond b None (find key_cmp q es)) (c.stays q due found) ∙ sym (get-map_of key_cmp es h q)) ∙ c.moves q due found))
      where
        value_of : (o : Option Task) → is_some o ≡ true → (x : Task) × (o ≡ Some x)
        value_of None e = absurd cc
        value_of (Some x) e = (x, refl)

    pub changed_is : IsTaskClean (map_of key_cmp es) (map task_of added) dropped moved → map_of key_cmp (changed_by key_cmp (map task_of added) dropped es) ≡ without_keys dropped (with_set (map task_of added) (map_of key_cmp es))
    unfolding first_some
    changed_is c =
        let m = map_of key_cmp es in
        let set = map task_of added in
        put_is key_cmp keys_total exact_keys set (without_all key_cmp dropped es) (without_ordered key_cmp keys_total exact_keys dropped es h) ∙ ap (with_set set) (without_is key_cmp keys_total exact_keys dropped es h)
        ∙ same_map keys_total exact_keys (with_set set (without_keys dropped m)) (without_keys dropped (with_set set m)) (λ q.
        get-with_set key_cmp keys_total exact_keys set sa (without_keys dropped m) q ∙ ap (first_some (find key_cmp q set)) (get-without_keys key_cmp keys_total exact_keys dropped m q)
        ∙ turned (find key_cmp q set) (list_any (eq_by_cmp key_cmp q) dropped) (get m q) (c.new q) (c.there q)
        ∙ sym (get-without_keys key_cmp keys_total exact_keys dropped (with_set set m) q ∙ ap (cond (list_any (eq_by_cmp key_cmp q) dropped) None) (get-with_set key_cmp keys_total exact_keys set sa m q)))
      where
        turned : (a : Option Task) (g : Bool) (v : Option Task) → ((x : Task) → a ≡ Some x → v ≡ None) → (g ≡ true → is_some v ≡ true) → first_some a (cond g None v) ≡ cond g None (first_some a v)
        turned None true v new there = refl
        turned (Some x) true v new there = let none = new x refl in let some = there refl in let no : is_some {T = Task} None ≡ true = ap is_some (sym none) ∙ some in absurd cc
        turned a false v new there = refl
