-- The names that mean a connection, as a finite set.
use Rattle.std.proofs.Common.{◌≡◌, Bool, true, false, cond, not, ◌||◌, ◌&&◌, List, ℕ, refl, sym, ap, ◌∙◌}
use Rattle.std.specs.FinSet as sets
use Rattle.std.specs.FinSet.{contains-insert, contains-remove, contains-from_list, same_set, IsAntisymmetric, nat_cmp-IsAntisymmetric, slice_cmp-IsAntisymmetric}
use Rattle.std.specs.Cmp.{eq_by_cmp_equiv}
use Rattle.std.specs.Cmp.Lexicographic.{nat_list_cmp_total}
use Rattle.std.specs.Ordering.{eq_by_cmp}
use Rattle.std.specs.List.{list_any}
use Rattle.std.specs.BTreeMap.{is_at}
use Rattle.dk_types.specs.Names.{bytes_cmp}

-- only equal names tie
bytes_cmp-IsAntisymmetric : IsAntisymmetric bytes_cmp
bytes_cmp-IsAntisymmetric = slice_cmp-IsAntisymmetric nat_cmp-IsAntisymmetric

-- a name is in the set where it is found in the table
pub contains-keys : (keys : List (List ℕ)) (name : List ℕ) → sets.contains (sets.from_list {R = bytes_cmp} keys) name ≡ list_any (is_at (bytes_cmp name)) keys
contains-keys keys name = contains-from_list nat_list_cmp_total keys name

-- a test that passes or passes, as a choice
or-cond : (a b : Bool) → cond a true b ≡ (a || b)
or-cond true b = refl
or-cond false b = refl

-- one that fails and passes
and-cond : (a b : Bool) → cond a false b ≡ (not a && b)
and-cond true b = refl
and-cond false b = refl

-- a table with one more name is the set with that name
pub keys-Updates : (old new : List (List ℕ)) (name : List ℕ) → ((q : List ℕ) → list_any (is_at (bytes_cmp q)) new ≡ cond (is_at (bytes_cmp name) q) true (list_any (is_at (bytes_cmp q)) old)) → sets.from_list {R = bytes_cmp} new ≡ sets.insert (sets.from_list old) name
keys-Updates old new name h =
    same_set nat_list_cmp_total bytes_cmp-IsAntisymmetric _ _ (λ q. contains-keys new q ∙ h q ∙ or-cond (is_at (bytes_cmp name) q) _ ∙ ap (λ b. b || list_any (is_at (bytes_cmp q)) old) ((eq_by_cmp_equiv nat_list_cmp_total).symm name q) ∙ ap (λ b. eq_by_cmp bytes_cmp q name || b) (sym (contains-keys old q)) ∙ sym (contains-insert nat_list_cmp_total (sets.from_list old) name q))

-- a table without a name is the set without it
pub keys-Removes : (old new : List (List ℕ)) (name : List ℕ) → ((q : List ℕ) → list_any (is_at (bytes_cmp q)) new ≡ cond (is_at (bytes_cmp name) q) false (list_any (is_at (bytes_cmp q)) old)) → sets.from_list {R = bytes_cmp} new ≡ sets.remove (sets.from_list old) name
keys-Removes old new name h =
    same_set nat_list_cmp_total bytes_cmp-IsAntisymmetric _ _ (λ q. contains-keys new q ∙ h q ∙ and-cond (is_at (bytes_cmp name) q) _ ∙ ap (λ b. not b && list_any (is_at (bytes_cmp q)) old) ((eq_by_cmp_equiv nat_list_cmp_total).symm name q) ∙ ap (λ b. not (eq_by_cmp bytes_cmp q name) && b) (sym (contains-keys old q)) ∙ sym (contains-remove nat_list_cmp_total (sets.from_list old) name q))
