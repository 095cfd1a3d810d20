use Rattle.std.proofs.Common.{◌≡◌, ◌++◌, map}
use Rattle.std.specs.Vec.Iter.{into_iter_items}
use Rattle.dk_model.specs.Effects.{pending_of}
use Rattle.dk_recover.proofs.listing.list_tasks.Given as goal

-- what is listed, and what is left, are all
abbrev pub invariant-loop-key : goal.invariant-loop-key
invariant-loop-key l = l.list.items ++ map (λ e. pending_of (e.0.now, e.1.now)) (into_iter_items l.key-iterator) ≡ map (λ e. pending_of (e.0.now, e.1.now)) (into_iter_items l.initial.key-iterator)
