-- How many of the tasks a run has, after one task less, one more, and one changed.
use Rattle.std.proofs.Common.{◌≡◌, ℕ, ◌+◌, if◌then◌else◌, refl, sym, ap, ◌∙◌, Bool, true, false, cond, List, [], ◌∷◌, ◌++◌, length, Some, None, arith}
use Rattle.std.specs.List.{filter}
use Rattle.std.specs.declared.cmp.Ordering.TheVariants.{Less, Equal, Greater}
use Rattle.std.specs.Ordering.{is_eq, eq_by_cmp}
use Rattle.std.specs.FinMap.Entries.{by_order}
use Rattle.dk_types.specs.declared.number.TaskKey.{TaskKey}
use Rattle.dk_map.specs.Entries.{find, put, without, IsOrdered}
use Rattle.dk_map.proofs.Around.{at_entry, put_middle, without_middle}
use Rattle.dk_model.specs.Keys.{key_cmp}
use Rattle.dk_tasks.specs.Places.{held_count}
use Rattle.dk_tasks.specs.declared.stored.Stored.{Stored}
use Rattle.dk_tasks.proofs.Found.{tied}
use Rattle.dk_tasks.proofs.Orders.{key_total}

-- one where a run has it
abbrev pub one_held : Bool → ℕ
one_held claimed = if claimed then 1 else 0

held_cons : (e : TaskKey × Stored) (es : List (TaskKey × Stored)) → held_count (e ∷ es) ≡ one_held e.1.claimed + held_count es
held_cons e es = elim e.1.claimed as (λ b. length (cond b (e ∷ filter (λ x. x.1.claimed) es) (filter (λ x. x.1.claimed) es)) ≡ one_held b + held_count es) [ true ↦ omega arith | false ↦ omega arith ]

held_append : (l : List (TaskKey × Stored)) (m : List (TaskKey × Stored)) → held_count (l ++ m) ≡ held_count l + held_count m
held_append [] m = omega arith
held_append (e ∷ l) m = omega (arith, held_cons e (l ++ m), held_cons e l, held_append l m)

-- what stands around an entry that is found
record Split (es : List (TaskKey × Stored)) (k : TaskKey) (s : Stored) : Type 0 where
  pub before : List (TaskKey × Stored)
  pub key : TaskKey
  pub after : List (TaskKey × Stored)
  pub is : es ≡ before ++ (key, s) ∷ after
  pub at : key_cmp k key ≡ Equal

split_at : (es : List (TaskKey × Stored)) (k : TaskKey) (s : Stored) → find key_cmp k es ≡ Some s → Split es k s
split_at [] k s f = cc
split_at (e ∷ es) k s f =
    elim (eq_by_cmp key_cmp k e.0) as (λ b. eq_by_cmp key_cmp k e.0 ≡ b → cond b (Some e.1) (find key_cmp k es) ≡ Some s → Split (e ∷ es) k s) [
      | true ↦ λ t g.
          let value : e.1 ≡ s = cc in
          record { before = []; key = e.0; after = es; is = λ i. (e.0, value i) ∷ es; at = tied _ t }
      | false ↦ λ _ g.
          let later = split_at es k s g in
          record { before = e ∷ later.before; key = later.key; after = later.after; is = ap (λ t. e ∷ t) later.is; at = later.at }
    ] refl f

module _ (es : List (TaskKey × Stored)) (h : IsOrdered key_cmp es) (k : TaskKey) (s : Stored) (f : find key_cmp k es ≡ Some s) where
  held_there : (p : Split es k s) → held_count es ≡ held_count p.before + (one_held s.claimed + held_count p.after)
  held_there p = ap held_count p.is ∙ held_append p.before ((p.key, s) ∷ p.after) ∙ ap (λ n. held_count p.before + n) (held_cons (p.key, s) p.after)

  -- one task less
  pub held_without : held_count (without key_cmp k es) + one_held s.claimed ≡ held_count es
  held_without =
      let p = split_at es k s f in
      let gone = ap held_count (without_middle key_total (at_entry key_total p.is h) k p.at) ∙ held_append p.before p.after in
      omega (arith, gone, held_there p)

  -- one task changed
  pub held_changed : (s' : Stored) → held_count (put key_cmp k s' es) + one_held s.claimed ≡ held_count es + one_held s'.claimed
  held_changed s' =
      let p = split_at es k s f in
      let put = ap held_count (put_middle key_total (at_entry key_total p.is h) k s' p.at) ∙ held_append p.before ((p.key, s') ∷ p.after) in
      omega (arith, put, held_cons (p.key, s') p.after, held_there p)

-- one task more
pub held_put : (es : List (TaskKey × Stored)) (k : TaskKey) (s : Stored) → find key_cmp k es ≡ None → held_count (put key_cmp k s es) ≡ held_count es + one_held s.claimed
held_put [] k s f = omega (arith, held_cons (k, s) [])
held_put (e ∷ es) k s f =
    elim (key_cmp k e.0) as (λ c. key_cmp k e.0 ≡ c → held_count (by_order c ((k, s) ∷ e ∷ es) ((e.0, s) ∷ es) (e ∷ put key_cmp k s es)) ≡ held_count (e ∷ es) + one_held s.claimed) [
      | Less ↦ λ _. omega (arith, held_cons (k, s) (e ∷ es))
      | Equal ↦ λ t. let there : find key_cmp k (e ∷ es) ≡ Some e.1 = ap (λ c. cond (is_eq c) (Some e.1) (find key_cmp k es)) t in let both : Some e.1 ≡ None = sym there ∙ f in cc
      | Greater ↦ λ t.
          let none : find key_cmp k es ≡ None = sym (ap (λ c. cond (is_eq c) (Some e.1) (find key_cmp k es)) t) ∙ f in
          omega (arith, held_cons e (put key_cmp k s es), held_cons e es, held_put es k s none)
    ] refl
