use Rattle.std.proofs.Common.{map, ap, sym, ◌∙◌}
use Rattle.std.proofs.lemmas.List.{nil_from_length}
use Rattle.std.specs.Vec.Iter.{into_iter_items}
use Rattle.dk_model.specs.Effects.{pending_of}
use Rattle.dk_recover.proofs.Walked.{walked_all, map-map}
use Rattle.dk_recover.proofs.listing.list_tasks.Goals as goal

pub returns : goal.returns
returns c =
    let left = c.loop-key.key-iterator in
    walked_all _ c.loop-key.list.items (into_iter_items left) _ _ c.loop-key.invariant c.into_iter-key-iterator.ensures.into_iter_gives.0 (nil_from_length _ (sym left.rest.ok.0 ∙ c.in-None.ensures.steps.0))
    ∙ sym (map-map pending_of (λ e. (e.0.now, e.1.now)) _) ∙ ap (map pending_of) c.in_ok-items.ensures
