use Rattle.std.proofs.Common.{sym, ◌∙◌}
use Rattle.std.proofs.lemmas.List.{nil_from_length}
use Rattle.std.specs.Vec.Iter.{into_iter_items}
use Rattle.dk_recover.proofs.Walked.{walked_all}
use Rattle.dk_recover.proofs.listing.list_names.Goals as goal

pub returns : goal.returns
returns c =
    let left = c.loop-name.name-iterator in
    walked_all _ c.loop-name.list.items (into_iter_items left) _ _ c.loop-name.invariant c.into_iter-name-iterator.ensures.into_iter_gives.0 (nil_from_length _ (sym left.rest.ok.0 ∙ c.in-None.ensures.steps.0))
    ∙ c.in_ok-items.ensures
