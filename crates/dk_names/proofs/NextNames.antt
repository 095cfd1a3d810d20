-- The entry that `next_after` of the map answers is the next name in the words of the world.
use Rattle.std.proofs.Common.{◌≡◌, ℕ, refl, sym, ap, ◌∙◌, Bool, true, false, cond, List, [], ◌∷◌, Option, None, Some}
use Rattle.std.specs.declared.cmp.Ordering.{Ordering}
use Rattle.std.specs.declared.cmp.Ordering.TheVariants.{Less, Equal, Greater}
use Rattle.std.specs.Ordering.{is_lt, is_gt, ordering_reverse}
use Rattle.std.specs.Cmp.Lexicographic.{nat_list_cmp_total}
use Rattle.std.specs.Option.{option_map}
use Rattle.std.specs.FinMap as map
use Rattle.dk_types.specs.declared.number.ObjectId.{ObjectId}
use Rattle.dk_types.specs.Names.{bytes_cmp}
use Rattle.dk_map.specs.AsMap.{map_of}
use Rattle.dk_map.specs.Entries.{entry_after, first_above, IsOrdered}
use Rattle.dk_map.specs.Values.{entries_with}
use Rattle.dk_map.proofs.Maps.{entries-map_of}
use Rattle.dk_map.proofs.Values.{entries_values}
use Rattle.dk_model.specs.DurableWorlds.{is_above, first_key, next_name}
use Rattle.dk_names.specs.Bindings.{StampedNames, ids_of}

-- one bound name with what it is bound to
abbrev pub Bound : Type 0
Bound = List ℕ × (ObjectId × ℕ)

-- a name is above another where the other is below it
turned : (c : Ordering) → is_gt (ordering_reverse c) ≡ is_lt c
turned Less = refl
turned Equal = refl
turned Greater = refl

above_below : (q k : List ℕ) → is_gt (bytes_cmp k q) ≡ is_lt (bytes_cmp q k)
above_below q k = ap is_gt (nat_list_cmp_total.antisymm k q) ∙ turned (bytes_cmp q k)

-- the key of whichever entry a test picks
key_of_either : {X : Type 0} (b : Bool) (e : List ℕ × X) (r : Option (List ℕ × X)) → cond b (Some e.0) (option_map (λ e. e.0) r) ≡ option_map (λ e. e.0) (cond b (Some e) r)
key_of_either true e r = refl
key_of_either false e r = refl

module _ {X Y : Type 0} (f : X → Y) where
  -- the first key above q is the key of the first entry above q
  key_above : (q : List ℕ) (es : List (List ℕ × X)) → first_key (is_above (Some q)) (entries_with f es) ≡ option_map (λ e. e.0) (first_above bytes_cmp q es)
  key_above q [] = refl
  key_above q (e ∷ es) =
      ap (λ b. cond b (Some e.0) (first_key (is_above (Some q)) (entries_with f es))) (above_below q e.0)
      ∙ ap (cond (is_lt (bytes_cmp q e.0)) (Some e.0)) (key_above q es) ∙ key_of_either (is_lt (bytes_cmp q e.0)) e (first_above bytes_cmp q es)

  -- the same where no name may be given
  key_after : (after : Option (List ℕ)) (es : List (List ℕ × X)) → first_key (is_above after) (entries_with f es) ≡ option_map (λ e. e.0) (entry_after bytes_cmp after es)
  key_after None [] = refl
  key_after None (e ∷ es) = refl
  key_after (Some q) es = key_above q es

-- what `next_after` answers, by the map's clause. `v` is what the opened model says, and `h` is its invariant
pub next_named : (es : List Bound) {m : StampedNames} (v : map_of bytes_cmp es ≡ m) (h : IsOrdered bytes_cmp es) (after : Option (List ℕ)) (r : Option Bound)
    → r ≡ entry_after bytes_cmp after es → option_map (λ e. e.0) r ≡ next_name (ids_of m) after
unfolding next_name
next_named es {m} v h after r e =
    let listed : map.entries (ids_of m) ≡ entries_with (λ b. b.0) es
    = entries_values (λ b. b.0) m ∙ ap (λ n. entries_with (λ b. b.0) (map.entries n)) (sym v) ∙ ap (entries_with (λ b. b.0)) (entries-map_of bytes_cmp es h) in
    ap (option_map (λ e. e.0)) e ∙ sym (key_after (λ b. b.0) after es) ∙ ap (first_key (is_above after)) (sym listed)
