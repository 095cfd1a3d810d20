-- What the calls of an `OrderedMap` do to the finite map that its entries are. `o` is the key's order, as `nat_cmp_total`,
-- `same` says that only equal keys tie, as `nat_cmp-IsAntisymmetric`, and `h` that the entries are in order.
use Rattle.std.proofs.Common.{◌≡◌, refl, sym, ap, ◌∙◌, Bool, true, false, cond, not, List, [], length, None}
use Rattle.std.specs.declared.cmp.Ordering.{Ordering}
use Rattle.std.specs.Ordering.{is_eq, eq_by_cmp}
use Rattle.std.specs.Cmp.{IsTotalOrder, alike_right, eq_by_cmp_equiv}
use Rattle.std.specs.FinMap as map
use Rattle.std.specs.FinMap.{IsAntisymmetric, get-from_sorted, entries-from_sorted, get-remove, same_map, same_entries_map, entries-insert, len-entries}
use Rattle.std.specs.FinMap.Entries.{find-where_key}
use Rattle.dk_map.specs.Entries.{find, put, without, IsOrdered}
use Rattle.dk_map.specs.AsMap.{map_of}
use Rattle.dk_map.proofs.Counts.{ordered_put, ordered_without}

module _ {K V : Type 0} (R : K → K → Ordering) (es : List (K × V)) (h : IsOrdered R es) where
  -- what the map has at a key is what `get` finds
  pub get-map_of : (q : K) → map.get (map_of R es) q ≡ find R q es
  get-map_of q = get-from_sorted R es q h

  -- the map's entries are the list
  pub entries-map_of : map.entries (map_of R es) ≡ es
  entries-map_of = entries-from_sorted R es h

  -- the map has as many entries as the list
  pub len-map_of : map.len (map_of R es) ≡ length es
  len-map_of = len-entries (map_of R es) ∙ ap length entries-map_of

-- no entries are the empty map
pub map_of-empty : {K V : Type 0} (R : K → K → Ordering) → map_of {V = V} R [] ≡ map.empty
map_of-empty R = map.empty_of_len (map_of R []) (len-map_of R [] tt)

-- two tests, and their negation
turned : {A : Type 0} (b : Bool) (x y : A) → cond (not b) x y ≡ cond b y x
turned true x y = refl
turned false x y = refl

module _ {K V : Type 0} {R : K → K → Ordering} (o : IsTotalOrder R) (es : List (K × V)) (h : IsOrdered R es) (k : K) where
  -- to put an entry in its place is to insert it
  pub map_of-put : (v : V) → map_of R (put R k v es) ≡ map.insert (map_of R es) k v
  map_of-put v =
      same_entries_map _ _ (entries-map_of R (put R k v es) (ordered_put o k es h v) ∙ sym (entries-insert o (map_of R es) k v ∙ ap (put R k v) (entries-map_of R es h)))

  -- a search without a key
  pub find-without : (q : K) → find R q (without R k es) ≡ cond (eq_by_cmp R q k) None (find R q es)
  find-without q =
      find-where_key R (λ x. not (eq_by_cmp R k x)) q (λ x t. ap (λ r. not (is_eq r)) (sym (alike_right o q x k t))) es
      ∙ turned (eq_by_cmp R k q) _ _ ∙ ap (λ b. cond b None (find R q es)) ((eq_by_cmp_equiv o).symm k q)

  -- to leave a key out is to remove it
  pub map_of-without : IsAntisymmetric R → map_of R (without R k es) ≡ map.remove (map_of R es) k
  map_of-without same =
      same_map o same _ _ (λ q. get-map_of R (without R k es) (ordered_without o k es h) q ∙ find-without q ∙ sym (get-remove o (map_of R es) k q ∙ ap (cond (eq_by_cmp R q k) None) (get-map_of R es h q)))
