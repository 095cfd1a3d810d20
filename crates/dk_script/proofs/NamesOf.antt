-- The names that the printer knows, as a finite map.
use Rattle.std.proofs.Common.{◌≡◌, ℕ, Some, cond, List, [], ◌∷◌, map, refl, sym, ap, ◌∙◌}
use Rattle.std.specs.FinMap as maps
use Rattle.std.specs.FinMap.{find, IsAntisymmetric, same_map, get-from_entries, get-insert, nat_cmp-IsAntisymmetric}
use Rattle.std.specs.Cmp.{IsTotalOrder, nat_cmp_total, eq_by_cmp_equiv}
use Rattle.std.specs.Ordering.{nat_cmp, eq_by_cmp}
use Rattle.std.specs.BTreeMap.{is_at}
use Rattle.std.specs.Map.{lookup}
use Rattle.dk_types.specs.declared.number.ConnNo.{ConnNo}
use Rattle.dk_model.specs.Keys.{conn_cmp}
use Rattle.dk_script.specs.Knowledge.{names_of}

-- connections are ordered as their numbers are
pub conn_cmp_total : IsTotalOrder conn_cmp
conn_cmp_total = record {
  antisymm = λ x y. nat_cmp_total.antisymm x.0 y.0;
  trans = λ x y z. nat_cmp_total.trans x.0 y.0 z.0;
  congr = λ x y z. nat_cmp_total.congr x.0 y.0 z.0;
}

-- only equal connections tie
pub conn_cmp-IsAntisymmetric : IsAntisymmetric conn_cmp
conn_cmp-IsAntisymmetric a b e = ap (λ (n : ℕ). record { 0 = n }) (nat_cmp-IsAntisymmetric a.0 b.0 e)

-- a name is found in the map where it is found in the table
pub get-names_of : (es : List (ℕ × List ℕ)) (q : ConnNo) → maps.get (names_of es) q ≡ lookup (is_at (nat_cmp q.0)) es
get-names_of es q = get-from_entries conn_cmp_total _ q ∙ same_find es where
  same_find : (es : List (ℕ × List ℕ)) → find conn_cmp q (map (λ e. (record { 0 = e.0 }, e.1)) es) ≡ lookup (is_at (nat_cmp q.0)) es
  same_find [] = refl
  same_find (e ∷ es) = ap (cond (is_at (nat_cmp q.0) e.0) (Some e.1)) (same_find es)

-- a table with one more name is the map with that name
pub names_of-Updates : (es fs : List (ℕ × List ℕ)) (conn : ConnNo) (name : List ℕ) → ((q : ℕ) → lookup (is_at (nat_cmp q)) fs ≡ cond (is_at (nat_cmp conn.0) q) (Some name) (lookup (is_at (nat_cmp q)) es)) → names_of fs ≡ maps.insert (names_of es) conn name
names_of-Updates es fs conn name h =
    same_map conn_cmp_total conn_cmp-IsAntisymmetric _ _ (λ q. get-names_of fs q ∙ h q.0 ∙ ap (λ b. cond b (Some name) (lookup (is_at (nat_cmp q.0)) es)) ((eq_by_cmp_equiv conn_cmp_total).symm conn q) ∙ ap (cond (eq_by_cmp conn_cmp q conn) (Some name)) (sym (get-names_of es q)) ∙ sym (get-insert conn_cmp_total (names_of es) conn name q))
