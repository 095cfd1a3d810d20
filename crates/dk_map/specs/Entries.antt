-- Entries in the strictly ascending order of their keys. The words for one key are those on which `FinMap` stands:
--     find R q es      the value at the key q
--     put R k v es     the entry in its place; at a key that is there the key stays and the value is new
use Rattle.std.specs.Prelude.{cond, not, T, List, [], ◌∷◌, Option, None, Some, ◌≡◌}
use Rattle.std.specs.declared.cmp.Ordering.{Ordering}
use Rattle.std.specs.Ordering.{is_lt, eq_by_cmp}
use Rattle.std.specs.FinMap.Entries.{where_key}
pub use Rattle.std.specs.FinMap.Entries.{find, put, is_sorted}

-- the keys strictly ascend
abbrev pub IsOrdered : {K X : Type 0} → (K → K → Ordering) → List (K × X) → Type 0
IsOrdered R es = T (is_sorted R es)

-- the entries of the other keys
abbrev pub without : {K X : Type 0} → (K → K → Ordering) → K → List (K × X) → List (K × X)
without R k es = where_key R (λ x. not (eq_by_cmp R k x)) es

-- the first entry
abbrev pub first_entry : {K X : Type 0} → List (K × X) → Option (K × X)
first_entry [] = None
first_entry (e ∷ es) = Some e

-- the first entry whose key is above q
abbrev pub first_above : {K X : Type 0} → (K → K → Ordering) → K → List (K × X) → Option (K × X)
first_above R q [] = None
first_above R q (e ∷ es) = cond (is_lt (R q e.0)) (Some e) (first_above R q es)

-- the first entry above a key, or the first of all
abbrev pub entry_after : {K X : Type 0} → (K → K → Ordering) → Option K → List (K × X) → Option (K × X)
entry_after R None es = first_entry es
entry_after R (Some q) es = first_above R q es

-- what a change of the value at the key k of the entries d leaves and answers: P holds of the value before and after and of the answer; none
-- where there is no such value
abbrev pub IsChanged : {K X A : Type 0} → (K → K → Ordering) → K → (X → X → A → Type 0) → List (K × X) → List (K × X) → Option A → Type 0
IsChanged {X = X} R k P d e (Some answer) = (old new : X) × (find R k d ≡ Some old) × P old new answer × (e ≡ put R k new d)
IsChanged R k P d e None = (find R k d ≡ None) × (e ≡ d)
