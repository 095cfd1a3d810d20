-- A task changed in its place: what is kept, and what callers see.
use Rattle.std.proofs.Common.{◌≡◌, refl, sym, ap, subst, ◌∙◌, Bool, true, false, not, List, Option, None, Some}
use Rattle.std.proofs.Math.Bool.{beq}
use Rattle.std.specs.Option.{option_map}
use Rattle.std.specs.FinMap.{FinMap, insert}
use Rattle.dk_types.specs.declared.number.TaskKey.{TaskKey}
use Rattle.dk_map.specs.Entries.{find, put, IsChanged, IsOrdered}
use Rattle.dk_map.proofs.Seen.{without_absent}
use Rattle.dk_model.specs.Keys.{key_cmp}
use Rattle.dk_model.specs.DurableWorlds.{with_value}
use Rattle.dk_tasks.specs.Tasks.{Kept, changed_at}
use Rattle.dk_tasks.specs.Places.{kept_of, kept_tasks}
use Rattle.dk_tasks.specs.declared.stored.Stored.{Stored}
use Rattle.dk_tasks.proofs.Kept.{kept_get, kept_put, kept_without}

-- where a task is found, it is changed
pub changed_there : {A : Type 0} (P : Stored → Stored → A → Type 0) (k : TaskKey) (es es' : List (TaskKey × Stored)) (s : Stored) → find key_cmp k es ≡ Some s → (r : Option A) → IsChanged key_cmp k P es es' r
    → (s' : Stored) × (a : A) × P s s' a × (es' ≡ put key_cmp k s' es)
changed_there P k es es' s f (Some a) h =
    let same : h.0 ≡ s = cc in
    (h.1, a, subst (λ x. P x h.1 a) same h.3, h.4)
changed_there P k es es' s f None h = let both : None ≡ Some s = sym h.0 ∙ f in cc

-- where none is, nothing changes
pub changed_nowhere : {A : Type 0} (P : Stored → Stored → A → Type 0) (k : TaskKey) (es es' : List (TaskKey × Stored)) → find key_cmp k es ≡ None → (r : Option A) → IsChanged key_cmp k P es es' r → es' ≡ es
changed_nowhere P k es es' f (Some a) h = let both : None ≡ Some h.0 = sym f ∙ h.2 in cc
changed_nowhere P k es es' f None h = h.1

module _ {m : FinMap key_cmp Kept} (es : List (TaskKey × Stored)) (v : kept_tasks es ≡ m) (h : IsOrdered key_cmp es) (k : TaskKey) where
  -- callers see it changed
  pub kept_changed : (change : Kept → Kept) (s s' : Stored) → find key_cmp k es ≡ Some s → kept_of s' ≡ change (kept_of s) → (es' : List (TaskKey × Stored)) → es' ≡ put key_cmp k s' es → kept_tasks es' ≡ changed_at change k m
  kept_changed change s s' f is es' e =
      kept_put es v h k s' es' e ∙ ap (insert m k) is
      ∙ ap (λ r. with_value m k (option_map change r)) (sym (ap (option_map kept_of) f) ∙ kept_get es v h k)

  -- where none is found, nothing changes
  pub kept_absent : (change : Kept → Kept) → find key_cmp k es ≡ None → (es' : List (TaskKey × Stored)) → es' ≡ es → kept_tasks es' ≡ changed_at change k m
  kept_absent change f es' e =
      kept_without es v h k es' (e ∙ sym (without_absent key_cmp k es f))
      ∙ ap (λ r. with_value m k (option_map change r)) (sym (ap (option_map kept_of) f) ∙ kept_get es v h k)

-- the test of two answers
pub alike : (a b : Bool) → beq a b ≡ true → a ≡ b
alike true true e = refl
alike true false e = cc
alike false true e = cc
alike false false e = refl

-- of two answers that differ, one is the other's opposite
pub opposite : (a b c : Bool) → beq a b ≡ false → b ≡ not c → a ≡ c
opposite true true c n e = cc
opposite true false true n e = refl
opposite true false false n e = cc
opposite false true true n e = cc
opposite false true false n e = refl
opposite false false c n e = cc
