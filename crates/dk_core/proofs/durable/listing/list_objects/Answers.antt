use Rattle.std.proofs.Common.{sym, subst, ◌∙◌, IsPermutation}
use Rattle.std.specs.FinMap.{entries as entries_of}
use Rattle.dk_objects.specs.StampedObjects.{objects_of}
use Rattle.std.proofs.lemmas.List.{nil_from_length}
use Rattle.std.specs.Vec.Iter.{into_iter_items}
use Rattle.dk_core.proofs.Walked.{walked_all, bare_permuted}
use Rattle.dk_core.proofs.durable.listing.list_objects.Goals as goal

pub returns : goal.returns
returns c =
    let left = c.loop-id.id-iterator in
    subst (λ list. IsPermutation list (entries_of (objects_of c.args.objects.now.objects)))
    (sym (walked_all _ c.loop-id.list.items (into_iter_items left) _ _ c.loop-id.invariant c.into_iter-id-iterator.ensures.into_iter_gives.0 (nil_from_length _ (sym left.rest.ok.0 ∙ c.in-None.ensures.steps.0))))
    (bare_permuted (λ e. (e.0.now, e.1.now)) _ c.args.objects.now.objects c.in_ok-items.ensures)
