-- Net effects make one world into another.
use Rattle.std.proofs.Common.{◌≡◌, ℕ, T, Bool, true, false, cond, not, ◌&&◌, ◌||◌, nat_eq, map, is_some, Option, Some, None, List, [], ◌∷◌, inl, inr, refl, sym, ap, ◌∙◌, arith}
use Rattle.std.proofs.lemmas.Bool.Decides.{nat_tests, eqb_tells}
use Rattle.std.specs.declared.cmp.Ordering.{Ordering}
use Rattle.std.specs.declared.cmp.Ordering.TheVariants.{Less, Equal, Greater}
use Rattle.std.specs.Ordering.{is_lt, is_eq, eq_by_cmp}
use Rattle.std.specs.Option.{option_map}
use Rattle.std.specs.Cmp.{IsTotalOrder}
use Rattle.std.specs.Cmp.Lexicographic.{pointwise, bytes_decides}
use Rattle.std.specs.List.{list_any}
use Rattle.std.specs.FinMap.{FinMap, IsAntisymmetric, find, is_sorted, entries, entries_sorted, get, insert, remove, retain_keys, get-entries, get-insert, get-remove, get-retain_keys, same_map}
use Rattle.std.specs.FinMap.Entries.{is_some-find, below_all}
use Rattle.dk_types.specs.declared.number.TaskKey.{TaskKey}
use Rattle.dk_types.specs.Names.{bytes_cmp}
use Rattle.dk_model.specs.Keys.{id_cmp, key_cmp}
use Rattle.dk_model.specs.DurableWorlds.{DurableWorld, Task}
use Rattle.dk_model.specs.Effects.{same_id, same_object, same_value, set_in, gone_in, new_in, with_set, without_keys, pending_of, task_of, is_moved, moved_in, effects, moved_at, with_moved, apply}
use Rattle.dk_laws.specs.EffectsLaw.{DifferInDue}
use Rattle.dk_model.proofs.Maps.{ids_total, exact_ids, keys_total, exact_keys, names_total, exact_names}

pub and_left : (a b : Bool) → (a && b) ≡ true → a ≡ true
and_left true b h = refl
and_left false b h = cc

pub and_right : (a b : Bool) → (a && b) ≡ true → b ≡ true
and_right true b h = h
and_right false b h = cc

first_of_and : (a b : Bool) → T (a && b) → T a
first_of_and true b p = tt
first_of_and false b p = p

second_of_and : (a b : Bool) → T (a && b) → T b
second_of_and true b p = p
second_of_and false b p = absurd p

less_from_T : (o : Ordering) → T (is_lt o) → o ≡ Less
less_from_T Less p = refl
less_from_T Equal p = absurd p
less_from_T Greater p = absurd p

-- the test tells values apart
pub record Tells {X : Type 0} (same : X → X → Bool) : Type 0 where
  pub itself : (x : X) → same x x ≡ true
  pub equal : (x y : X) → same x y ≡ true → x ≡ y

pub numbers_told : Tells nat_eq
numbers_told = record { itself = λ x. grind (arith, nat_tests); equal = λ x y h. grind (arith, nat_tests) }

pub ids_told : Tells same_id
ids_told = record {
  itself = λ x. rw (numbers_told.itself x.run.0, numbers_told.itself x.k) refl;
  equal = λ x y h.
      let r : x.run.0 ≡ y.run.0 = numbers_told.equal _ _ (and_left _ _ h) in
      let k : x.k ≡ y.k = numbers_told.equal _ _ (and_right _ _ h) in
      λ i. record { run = record { 0 = r i }; k = k i };
}

pub names_told : Tells (pointwise nat_eq)
names_told = record {
  itself = λ x. (bytes_decides x x).1 refl;
  equal = λ x y h. (bytes_decides x y).0 h;
}

pub objects_told : Tells same_object
objects_told = record {
  itself = λ x. rw (numbers_told.itself x.kind, names_told.itself x.bytes) refl;
  equal = λ x y h.
      let kind : x.kind ≡ y.kind = numbers_told.equal _ _ (and_left _ _ h) in
      let bytes : x.bytes ≡ y.bytes = names_told.equal _ _ (and_right _ _ h) in
      λ i. record { kind = kind i; bytes = bytes i };
}

-- the first that is there
unfoldable pub first_some : {X : Type 0} → Option X → Option X → Option X
first_some None y = y
first_some (Some x) y = Some x

-- the entries of a map that pass a test
abbrev pub Kept : {K X : Type 0} {R : K → K → Ordering} → FinMap R X → (K → Bool) → List (K × X)
Kept m p = entries (retain_keys m p)

module _ {K X : Type 0} (R : K → K → Ordering) (total : IsTotalOrder R) (exact : IsAntisymmetric R) where
  -- a key below all others is not among them
  pub above_none : (k : K) (es : List (K × X)) → T (below_all R k es) → find R k es ≡ None
  above_none k [] h = refl
  above_none k (e ∷ es) h = ap (λ o. cond (is_eq o) (Some e.1) (find R k es)) (less_from_T _ (first_of_and _ _ h)) ∙ above_none k es (second_of_and _ _ h)

  -- entries in order that are set, one after another
  pub get-with_set : (es : List (K × X)) → T (is_sorted R es) → (m : FinMap R X) (q : K) → get (with_set es m) q ≡ first_some (find R q es) (get m q)
  unfolding first_some
  get-with_set [] s m q = refl
  get-with_set (e ∷ es) s m q =
      get-with_set es (second_of_and _ _ s) (insert m e.0 e.1) q
      ∙ ap (first_some (find R q es)) (get-insert total m e.0 e.1 q)
      ∙ elim (R q e.0) as (λ o. R q e.0 ≡ o → first_some (find R q es) (cond (is_eq o) (Some e.1) (get m q)) ≡ first_some (cond (is_eq o) (Some e.1) (find R q es)) (get m q)) [
        | Less ↦ λ _. refl
        | Equal ↦ λ t. ap (λ o. first_some o (Some e.1)) (ap (λ x. find R x es) (exact q e.0 t) ∙ above_none e.0 es (first_of_and _ _ s))
        | Greater ↦ λ _. refl
      ] refl

  pub get-without_keys : (ks : List K) (m : FinMap R X) (q : K) → get (without_keys ks m) q ≡ cond (list_any (eq_by_cmp R q) ks) None (get m q)
  get-without_keys [] m q = refl
  get-without_keys (k ∷ ks) m q =
      get-without_keys ks (remove m k) q ∙ ap (cond (list_any (eq_by_cmp R q) ks) None) (get-remove total m k q)
      ∙ elim (eq_by_cmp R q k) as (λ b. cond (list_any (eq_by_cmp R q) ks) None (cond b None (get m q)) ≡ cond (b || list_any (eq_by_cmp R q) ks) None (get m q)) [
        | true ↦ elim (list_any (eq_by_cmp R q) ks) as (λ b. cond {A = Option X} b None None ≡ None) [ true ↦ refl | false ↦ refl ]
        | false ↦ refl
      ]

  -- what the entries that pass have at a key
  pub find-kept : (m : FinMap R X) (p : K → Bool) (q : K) → find R q (Kept m p) ≡ cond (p q) (get m q) None
  find-kept m p q = sym (get-entries _ q) ∙ get-retain_keys m p q (λ x t. ap p (sym (exact q x t)))

  -- whether a key is among those that are gone
  gone_there : (a b : FinMap R X) (q : K) → list_any (eq_by_cmp R q) (gone_in a b) ≡ is_some (cond (not (is_some (get b q))) (get a q) None)
  unfolding gone_in
  gone_there a b q = sym (is_some-find R q (Kept a (λ k. not (is_some (get b k))))) ∙ ap is_some (find-kept a (λ k. not (is_some (get b k))) q)

  made : {same : X → X → Bool} → Tells same → (x y : Option X)
      → cond (is_some (cond (not (is_some y)) x None)) None (first_some (cond (not (same_value same x y)) y None) x) ≡ y
  unfolding first_some
  made t None None = refl
  made t None (Some y) = refl
  made t (Some x) None = refl
  made {same = same} t (Some x) (Some y) = elim (same x y) as (λ b. same x y ≡ b → first_some (cond (not b) (Some y) None) (Some x) ≡ Some y) [
    | true ↦ λ e. ap Some (t.equal x y e)
    | false ↦ λ e. refl
  ] refl

  -- what is set, and then what is gone, makes a into b
  effects_made : (same : X → X → Bool) → Tells same → (a b : FinMap R X) → without_keys (gone_in a b) (with_set (set_in same a b) a) ≡ b
  unfolding set_in
  effects_made same t a b =
      let changed = λ (k : K). not (same_value same (get a k) (get b k)) in
      same_map total exact _ _ (λ q.
      get-without_keys (gone_in a b) _ q
      ∙ ap (λ t. cond t None (get (with_set (Kept b changed) a) q)) (gone_there a b q)
      ∙ ap (cond (is_some (cond (not (is_some (get b q))) (get a q) None)) None) (get-with_set (Kept b changed) (entries_sorted _) a q ∙ ap (λ o. first_some o (get a q)) (find-kept b changed q))
      ∙ made t (get a q) (get b q))

-- ---- tasks

tasks_back : (es : List (TaskKey × Task)) → map task_of (map pending_of es) ≡ es
tasks_back [] = refl
tasks_back (e ∷ es) = ap (λ (l : List (TaskKey × Task)). e ∷ l) (tasks_back es)

-- a task with the due moment of another, where there is one
unfoldable pub due_of : Option Task → Option Task → Option Task
due_of None task = task
due_of (Some y) None = None
due_of (Some y) (Some x) = Some (record x { due = y.due })

moved-get : (o : Option Task) (key : TaskKey) (due : ℕ) (m : FinMap key_cmp Task) (q : TaskKey) → get m key ≡ o
    → get (moved_at o key due m) q ≡ cond (eq_by_cmp key_cmp q key) (option_map (λ (t : Task). record t { due = due }) (get m q)) (get m q)
moved-get None key due m q e = elim (key_cmp q key) as (λ o. key_cmp q key ≡ o → get m q ≡ cond (is_eq o) (option_map (λ (t : Task). record t { due = due }) (get m q)) (get m q)) [
  | Less ↦ λ _. refl
  | Equal ↦ λ t. let none : get m q ≡ None = ap (get m) (exact_keys q key t) ∙ e in rw none refl
  | Greater ↦ λ _. refl
] refl
moved-get (Some x) key due m q e = get-insert keys_total m key (record x { due = due }) q ∙ elim (key_cmp q key) as (λ o. key_cmp q key ≡ o → cond (is_eq o) (Some (record x { due = due })) (get m q) ≡ cond (is_eq o) (option_map (λ (t : Task). record t { due = due }) (get m q)) (get m q)) [
  | Less ↦ λ _. refl
  | Equal ↦ λ t. let some : get m q ≡ Some x = ap (get m) (exact_keys q key t) ∙ e in rw some refl
  | Greater ↦ λ _. refl
] refl

-- entries in order whose due moments are given
pub get-with_moved : (es : List (TaskKey × Task)) → T (is_sorted key_cmp es) → (m : FinMap key_cmp Task) (q : TaskKey)
    → get (with_moved (map (λ e. (e.0, e.1.due)) es) m) q ≡ due_of (find key_cmp q es) (get m q)
unfolding due_of
get-with_moved [] s m q = refl
get-with_moved (e ∷ es) s m q =
    get-with_moved es (second_of_and _ _ s) (moved_at (get m e.0) e.0 e.1.due m) q
    ∙ ap (due_of (find key_cmp q es)) (moved-get (get m e.0) e.0 e.1.due m q refl)
    ∙ elim (key_cmp q e.0) as (λ o. key_cmp q e.0 ≡ o → due_of (find key_cmp q es) (cond (is_eq o) (option_map (λ (t : Task). record t { due = e.1.due }) (get m q)) (get m q)) ≡ due_of (cond (is_eq o) (Some e.1) (find key_cmp q es)) (get m q)) [
      | Less ↦ λ _. refl
      | Equal ↦ λ t.
          let none : find key_cmp q es ≡ None = ap (λ x. find key_cmp x es) (exact_keys q e.0 t) ∙ above_none key_cmp keys_total exact_keys e.0 es (first_of_and _ _ s) in
          rw none (set_due (get m q) e.1)
      | Greater ↦ λ _. refl
    ] refl
  where
    set_due : (o : Option Task) (y : Task) → option_map (λ (t : Task). record t { due = y.due }) o ≡ due_of (Some y) o
    set_due None y = refl
    set_due (Some x) y = refl

task_made : (x y : Option Task) → ((s t : Task) → x ≡ Some s → y ≡ Some t → t ≡ record s { due = t.due })
    → due_of (cond (is_moved x y) y None) (cond (is_some (cond (not (is_some y)) x None)) None (first_some (cond (not (is_some x)) y None) x)) ≡ y
unfolding first_some due_of
task_made None None d = refl
task_made None (Some t) d = refl
task_made (Some s) None d = refl
task_made (Some s) (Some t) d = elim (eqb_tells s.due t.due) [
  | inl w ↦ rw w.0 (ap Some (ap (λ n. record s { due = n }) w.1 ∙ sym (d s t refl refl)))
  | inr w ↦ rw w.0 (ap Some (sym (d s t refl refl)))
]

tasks_made : (a b : DurableWorld) → DifferInDue a b
    → with_moved (moved_in a.tasks b.tasks) (without_keys (gone_in a.tasks b.tasks) (with_set (map task_of (map pending_of (new_in a.tasks b.tasks))) a.tasks)) ≡ b.tasks
unfolding moved_in new_in
tasks_made a b d =
    let moved = λ (k : TaskKey). is_moved (get a.tasks k) (get b.tasks k) in
    let fresh = λ (k : TaskKey). not (is_some (get a.tasks k)) in
    let added = with_set (Kept b.tasks fresh) a.tasks in
    let left = without_keys (gone_in a.tasks b.tasks) added in
    ap (λ es. with_moved (moved_in a.tasks b.tasks) (without_keys (gone_in a.tasks b.tasks) (with_set es a.tasks))) (tasks_back (Kept b.tasks fresh))
    ∙ same_map keys_total exact_keys _ _ (λ q.
    get-with_moved (Kept b.tasks moved) (entries_sorted _) left q
    ∙ ap (λ o. due_of o (get left q)) (find-kept key_cmp keys_total exact_keys b.tasks moved q)
    ∙ ap (due_of (cond (moved q) (get b.tasks q) None)) (get-without_keys key_cmp keys_total exact_keys (gone_in a.tasks b.tasks) added q
    ∙ ap (λ t. cond t None (get added q)) (gone_there key_cmp keys_total exact_keys a.tasks b.tasks q)
    ∙ ap (cond (is_some (cond (not (is_some (get b.tasks q))) (get a.tasks q) None)) None) (get-with_set key_cmp keys_total exact_keys (Kept b.tasks fresh) (entries_sorted _) a.tasks q
    ∙ ap (λ o. first_some o (get a.tasks q)) (find-kept key_cmp keys_total exact_keys b.tasks fresh q)))
    ∙ task_made (get a.tasks q) (get b.tasks q) (d q))

-- but for the number of commits and the largest run, the effects from a to b make a into b
pub apply-effects : (a b : DurableWorld) → DifferInDue a b → apply (effects a b) a ≡ record b { commits = a.commits; last = a.last }
apply-effects a b d = λ i. record {
  objects = effects_made id_cmp ids_total exact_ids same_object objects_told a.objects b.objects i;
  names = effects_made bytes_cmp names_total exact_names same_id ids_told a.names b.names i;
  tasks = tasks_made a b d i;
  commits = a.commits;
  last = a.last;
}
