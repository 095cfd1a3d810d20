use Rattle.std.proofs.Common.{length, ap, subst}
use Rattle.dk_model.specs.Effects.{list_length, object_length, binding_length, name_length, pending_length}
use Rattle.dk_txn.specs.Counting.{Counts}
use Rattle.dk_txn.proofs.Counting.{counts_sum, counts_equal}
use Rattle.dk_txn.proofs.sizes.total_bytes.Goals as goal

pub returns : goal.returns
returns c =
    let e = c.args.effects.now in
    let written = subst (λ l. Counts c.objects_bytes-written.result (list_length object_length l)) c.as_slice.ensures c.objects_bytes-written.ensures in
    let removed = counts_equal 12 _ _ e.removed (ap length c.as_slice-2.ensures) c.equal_bytes-removed.ensures in
    let bound = subst (λ l. Counts c.bindings_bytes-bound.result (list_length binding_length l)) c.as_slice-3.ensures c.bindings_bytes-bound.ensures in
    let unbound = subst (λ l. Counts c.names_bytes-unbound.result (list_length name_length l)) c.as_slice-4.ensures c.names_bytes-unbound.ensures in
    let added = subst (λ l. Counts c.tasks_bytes-added.result (list_length pending_length l)) c.as_slice-5.ensures c.tasks_bytes-added.ensures in
    let dropped = counts_equal 12 _ _ e.dropped (ap length c.as_slice-6.ensures) c.equal_bytes-dropped.ensures in
    let requeued = counts_equal 20 _ _ e.requeued (ap length c.as_slice-7.ensures) c.equal_bytes-requeued.ensures in
    counts_sum _ _ _ _ _ c.saturating_add-total.ensures
    (counts_sum _ _ _ _ _ c.saturating_add-with_dropped.ensures
    (counts_sum _ _ _ _ _ c.saturating_add-with_added.ensures
    (counts_sum _ _ _ _ _ c.saturating_add-with_names.ensures
    (counts_sum _ _ _ _ _ c.saturating_add-with_bound.ensures
    (counts_sum _ _ _ _ _ c.saturating_add-objects.ensures written removed) bound) unbound) added) dropped) requeued
