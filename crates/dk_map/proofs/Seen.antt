-- The steps of a store that shows the entries es of an `OrderedMap` as the finite map m. `v` is what its opened model
-- says, as `ap (λ s. s.map) c.self.view_is`, and `h` is its invariant, that the entries are in order.
use Rattle.std.proofs.Common.{◌≡◌, refl, true, false, cond, not, sym, ap, subst, ◌∙◌, List, [], ◌∷◌, length, Option, None, Some, is_some}
use Rattle.std.specs.declared.cmp.Ordering.{Ordering}
use Rattle.std.specs.Cmp.{IsTotalOrder}
use Rattle.std.specs.Option.{option_map}
use Rattle.std.specs.FinMap as map
use Rattle.std.specs.FinMap.{FinMap, IsAntisymmetric}
use Rattle.dk_map.specs.Entries.{find, put, without, entry_after, IsChanged, IsOrdered}
use Rattle.std.specs.Ordering.{eq_by_cmp}
use Rattle.dk_map.specs.AsMap.{map_of, IsNext}
use Rattle.dk_map.proofs.Counts.{found_of}
use Rattle.dk_map.proofs.Maps.{get-map_of, len-map_of, entries-map_of, map_of-put, map_of-without}
use Rattle.dk_map.proofs.Next.{next-map_of}

-- where a key is not found, nothing goes with it
pub without_absent : {K X : Type 0} (R : K → K → Ordering) (k : K) (es : List (K × X)) → find R k es ≡ None → without R k es ≡ es
without_absent R k [] f = refl
without_absent R k (x ∷ es) f =
    elim (eq_by_cmp R k x.0) as (λ b. cond b (Some x.1) (find R k es) ≡ None → cond (not b) (x ∷ without R k es) (without R k es) ≡ x ∷ es) [
      | true ↦ λ g. cc
      | false ↦ λ g. ap (λ t. x ∷ t) (without_absent R k es g)
    ] f

module _ {K V : Type 0} {R : K → K → Ordering} {m : FinMap R V} (es : List (K × V)) (v : map_of R es ≡ m) (h : IsOrdered R es) where
  -- what `get` finds
  pub get_seen : (q : K) → find R q es ≡ map.get m q
  get_seen q = sym (get-map_of R es h q) ∙ ap (λ n. map.get n q) v

  -- how many entries there are
  pub len_seen : length es ≡ map.len m
  len_seen = sym (len-map_of R es h) ∙ ap map.len v

  -- the entries in their order
  pub entries_seen : es ≡ map.entries m
  entries_seen = sym (entries-map_of R es h) ∙ ap map.entries v

  -- whether `remove` took an entry, by its clause on the value
  pub removed_seen : (q : K) (r : Option (K × V)) → option_map (λ e. e.1) r ≡ find R q es → is_some r ≡ map.contains_key m q
  removed_seen q r e = sym (found_of (λ e. e.1) r (e ∙ get_seen q) refl)

module _ {K V : Type 0} {R : K → K → Ordering} (o : IsTotalOrder R) {m : FinMap R V} (es : List (K × V)) (v : map_of R es ≡ m) (h : IsOrdered R es) where
  -- what `insert` leaves, by its clause on the entries
  pub put_seen : (k : K) (x : V) (fs : List (K × V)) → fs ≡ put R k x es → map_of R fs ≡ map.insert m k x
  put_seen k x fs e = ap (map_of R) e ∙ map_of-put o es h k x ∙ ap (λ n. map.insert n k x) v

  -- what `remove` leaves, by its clause on the entries
  pub without_seen : IsAntisymmetric R → (k : K) (fs : List (K × V)) → fs ≡ without R k es → map_of R fs ≡ map.remove m k
  without_seen same k fs e = ap (map_of R) e ∙ map_of-without o es h k same ∙ ap (λ n. map.remove n k) v

  -- what `next_after` and `first` answer, by their clause
  pub next_seen : (after : Option K) (r : Option (K × V)) → r ≡ entry_after R after es → IsNext m after r
  next_seen after r e = subst (λ n. IsNext n after r) v (subst (IsNext (map_of R es) after) (sym e) (next-map_of o es h after))

  -- what `change` leaves, by its clause: `W` is m with what a key has, or without the key
  pub changed_seen : {A : Type 0} → IsAntisymmetric R → (k : K) (P : V → V → A → Type 0) (f : V → V) → ((x y : V) (a : A) → P x y a → y ≡ f x) → (answer : Option A) (fs : List (K × V)) → IsChanged R k P es fs answer
      → (W : Option V → FinMap R V) → W None ≡ map.remove m k → ((x : V) → W (Some x) ≡ map.insert m k x) → map_of R fs ≡ W (option_map f (map.get m k))
  changed_seen same k P f is (Some a) fs c W none some =
      put_seen k c.1 fs c.4 ∙ ap (map.insert m k) (is c.0 c.1 a c.3) ∙ sym (some (f c.0)) ∙ ap (λ r. W (option_map f r)) (sym c.2 ∙ get_seen es v h k)
  changed_seen same k P f is None fs c W none some =
      without_seen same k fs (c.1 ∙ sym (without_absent R k es c.0)) ∙ sym none ∙ ap (λ r. W (option_map f r)) (sym c.0 ∙ get_seen es v h k)
