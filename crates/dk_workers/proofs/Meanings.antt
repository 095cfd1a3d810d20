-- Which connection a name means.
use Rattle.std.proofs.Common.{◌≡◌, ℕ, ◌||◌, ◌&&◌, not, Bool, true, false, cond, Option, Some, None, List, [], ◌∷◌, is_some, refl, sym, ap, ◌∙◌}
use Rattle.std.specs.FinMap as maps
use Rattle.std.specs.FinMap.{find, get-insert, get-remove, get-from_entries, same_map}
use Rattle.std.specs.FinSet as sets
use Rattle.std.specs.FinSet.{contains-insert, contains-remove, contains-empty}
use Rattle.std.specs.BTreeMap.{is_at}
use Rattle.std.specs.Map.{lookup}
use Rattle.std.specs.Ordering.{eq_by_cmp}
use Rattle.std.specs.Cmp.{eq_by_cmp_equiv}
use Rattle.dk_types.specs.declared.number.ConnNo.{ConnNo}
use Rattle.dk_types.specs.Names.{bytes_cmp}
use Rattle.dk_model.specs.declared.script.Line.TheVariants as line
use Rattle.dk_model.specs.Scripts.{LineNames, names_after}
use Rattle.dk_model.proofs.Maps.{names_total, exact_names}
use Rattle.dk_workers.specs.Logins.{means_of, AllMean}

-- a connection is found in the map where it is found in the table
pub get-means_of : (es : List (List ℕ × ConnNo)) (name : List ℕ) → maps.get (means_of es) name ≡ lookup (is_at (bytes_cmp name)) es
get-means_of es name = get-from_entries names_total es name ∙ same_find es where
  same_find : (es : List (List ℕ × ConnNo)) → find bytes_cmp name es ≡ lookup (is_at (bytes_cmp name)) es
  same_find [] = refl
  same_find (e ∷ es) = ap (cond (is_at (bytes_cmp name) e.0) (Some e.1)) (same_find es)

-- a table with one more name is the map with that name
pub means_of-Updates : (es fs : List (List ℕ × ConnNo)) (name : List ℕ) (conn : ConnNo)
    → ((q : List ℕ) → lookup (is_at (bytes_cmp q)) fs ≡ cond (is_at (bytes_cmp name) q) (Some conn) (lookup (is_at (bytes_cmp q)) es)) → means_of fs ≡ maps.insert (means_of es) name conn
means_of-Updates es fs name conn h =
    same_map names_total exact_names _ _ (λ q.
    get-means_of fs q ∙ h q ∙ ap (λ b. cond b (Some conn) (lookup (is_at (bytes_cmp q)) es)) ((eq_by_cmp_equiv names_total).symm name q)
    ∙ ap (cond (eq_by_cmp bytes_cmp q name) (Some conn)) (sym (get-means_of es q)) ∙ sym (get-insert names_total (means_of es) name conn q))

-- a table without a name is the map without it
pub means_of-Removes : (es fs : List (List ℕ × ConnNo)) (name : List ℕ)
    → ((q : List ℕ) → lookup (is_at (bytes_cmp q)) fs ≡ cond (is_at (bytes_cmp name) q) None (lookup (is_at (bytes_cmp q)) es)) → means_of fs ≡ maps.remove (means_of es) name
means_of-Removes es fs name h =
    same_map names_total exact_names _ _ (λ q.
    get-means_of fs q ∙ h q ∙ ap (λ b. cond b None (lookup (is_at (bytes_cmp q)) es)) ((eq_by_cmp_equiv names_total).symm name q)
    ∙ ap (cond (eq_by_cmp bytes_cmp q name) None) (sym (get-means_of es q)) ∙ sym (get-remove names_total (means_of es) name q))

-- where one of the names is the new one, or meant something before
either : (b : Bool) (conn : ConnNo) (o : Option ConnNo) (had : Bool) → (had ≡ true → is_some o ≡ true) → (b || had) ≡ true → is_some (cond b (Some conn) o) ≡ true
either true conn o had h e = refl
either false conn o had h e = h e

-- no names, and whatever they mean
pub none_mean : (means : maps.FinMap bytes_cmp ConnNo) → AllMean sets.empty means
none_mean means name e = absurd (no (sym (contains-empty bytes_cmp name) ∙ e)) where
  no : false ≡ true → ⊥
  no e = cc

-- a login's name means its connection
pub login_means : (names : LineNames) (means : maps.FinMap bytes_cmp ConnNo) (name : List ℕ) (conn : ConnNo) → AllMean names means → AllMean (names_after names (line.Login name)) (maps.insert means name conn)
login_means names means name conn mean q e =
    ap is_some (get-insert names_total means name conn q)
    ∙ either (eq_by_cmp bytes_cmp q name) conn (maps.get means q) (sets.contains names q) (mean q) (sym (contains-insert names_total names name q) ∙ e)

-- where one of the names is the one that goes, or means something still
neither : (b : Bool) (o : Option ConnNo) (had : Bool) → (had ≡ true → is_some o ≡ true) → (not b && had) ≡ true → is_some (cond b None o) ≡ true
neither true o had h e = absurd cc
neither false o had h e = h e

-- the other names mean their connections
pub left_means : (names : LineNames) (means : maps.FinMap bytes_cmp ConnNo) (name : List ℕ) → AllMean names means → AllMean (sets.remove names name) (maps.remove means name)
left_means names means name mean q e =
    ap is_some (get-remove names_total means name q)
    ∙ neither (eq_by_cmp bytes_cmp q name) (maps.get means q) (sets.contains names q) (mean q) (sym (contains-remove names_total names name q) ∙ e)
