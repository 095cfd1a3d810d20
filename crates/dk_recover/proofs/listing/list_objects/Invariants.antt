use Rattle.std.proofs.Common.{◌≡◌, ◌++◌, map}
use Rattle.std.specs.Vec.Iter.{into_iter_items}
use Rattle.dk_recover.proofs.listing.list_objects.Given as goal

-- what is listed, and what is left, are all
abbrev pub invariant-loop-id : goal.invariant-loop-id
invariant-loop-id l = l.list.items ++ map (λ e. (e.0.now, e.1.now)) (into_iter_items l.id-iterator) ≡ map (λ e. (e.0.now, e.1.now)) (into_iter_items l.initial.id-iterator)
