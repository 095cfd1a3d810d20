-- The least name that a run has bound.
use Rattle.std.proofs.Common.{◌≡◌, ℕ, true, Option, Some, None, is_some, List, refl, sym, ap, ◌∙◌}
use Rattle.std.specs.declared.cmp.Ordering.{Ordering}
use Rattle.std.specs.declared.cmp.Ordering.TheVariants.{Less, Equal, Greater}
use Rattle.std.specs.Ordering.{is_gt, is_lt, ordering_reverse}
use Rattle.std.specs.Option.{option_map}
use Rattle.std.specs.FinMap as map
use Rattle.dk_types.specs.declared.number.ObjectId.{ObjectId}
use Rattle.dk_types.specs.Names.{bytes_cmp}
use Rattle.dk_map.specs.Entries.{IsOrdered}
use Rattle.dk_map.specs.AsMap.{map_of, IsAfter, IsNext}
use Rattle.dk_map.proofs.Maps.{get-map_of}
use Rattle.dk_types.specs.Values.{is_above}
use Rattle.dk_overlay.specs.declared.change.Change.{Change}
use Rattle.dk_overlay.specs.Least.{Least}
use Rattle.dk_overlay.specs.Binding.{is_binding, is_bound_after, HasBound}
use Rattle.dk_overlay.proofs.Keys.{names_total}
use Rattle.dk_overlay.proofs.Tests.{and_left, and_right, and_true, false_unless, contrary}

greater_from : (o : Ordering) → is_gt o ≡ true → o ≡ Greater
greater_from Less h = cc
greater_from Equal h = cc
greater_from Greater h = refl

-- a name above the given one comes after it
pub above_after : (after : Option (List ℕ)) (q : List ℕ) → is_above after q ≡ true → IsAfter bytes_cmp after q
above_after None q h = tt
above_after (Some a) q h = names_total.antisymm a q ∙ ap ordering_reverse (greater_from _ h)

pub after_above : (after : Option (List ℕ)) (q : List ℕ) → IsAfter bytes_cmp after q → is_above after q ≡ true
after_above None q h = refl
after_above (Some a) q h = ap is_gt (names_total.antisymm q a ∙ ap ordering_reverse h)

-- the next of the names that are bound is the least that the changes bind
pub next_least : (bound : List (List ℕ × Unit {0})) (changes : List (List ℕ × Change ObjectId)) (m : map.FinMap bytes_cmp (Change ObjectId))
    → IsOrdered bytes_cmp bound → IsOrdered bytes_cmp changes → HasBound bound changes → map_of bytes_cmp changes ≡ m
    → (after : Option (List ℕ)) (r : Option (List ℕ × Unit {0})) → IsNext (map_of bytes_cmp bound) after r
    → Least bytes_cmp (is_bound_after m after) (option_map (λ e. e.0) r)
next_least bound changes m ho hc has view after None next =
    let there : (q : List ℕ) → is_some (map.get (map_of bytes_cmp bound) q) ≡ is_binding (map.get m q) = λ q.
    ap is_some (get-map_of bytes_cmp bound ho q) ∙ has q ∙ sym (ap is_binding (sym (ap (λ n. map.get n q) view) ∙ get-map_of bytes_cmp changes hc q)) in
    λ q. false_unless _ (λ h. contrary (is_binding (map.get m q)) (and_right _ _ h) (sym (there q) ∙ ap is_some (next q (above_after after q (and_left _ _ h)))))
next_least bound changes m ho hc has view after (Some e) next =
    let there : (q : List ℕ) → is_some (map.get (map_of bytes_cmp bound) q) ≡ is_binding (map.get m q) = λ q.
    ap is_some (get-map_of bytes_cmp bound ho q) ∙ has q ∙ sym (ap is_binding (sym (ap (λ n. map.get n q) view) ∙ get-map_of bytes_cmp changes hc q)) in (
      and_true _ _ (after_above after e.0 next.1) (sym (there e.0) ∙ ap is_some next.0),
      λ q less. false_unless _ (λ h. contrary (is_lt (bytes_cmp q e.0)) (ap is_lt less) (next.2 q (above_after after q (and_left _ _ h)) (there q ∙ and_right _ _ h))),
    )
