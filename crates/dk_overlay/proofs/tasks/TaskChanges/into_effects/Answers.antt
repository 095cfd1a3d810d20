use Rattle.std.proofs.Common.{◌≡◌, ◌∷◌, refl, rules, map}
use Rattle.std.specs.Map.{keys_of}
use Rattle.std.specs.Vec.Iter.{into_iter_items}
use Rattle.dk_types.specs.Keys.{key_cmp}
use Rattle.dk_types.specs.Values.{pending_of}
use Rattle.dk_overlay.specs.Picks.{picked, task_added, task_dropped, task_moved}
use Rattle.dk_overlay.proofs.Picking.{making_begins, making_goes_on, making_ends, picked_splits, mapped_splits}
use Rattle.dk_overlay.proofs.tasks.TaskChanges.into_effects.Goals as goal

pub loop-key-init : goal.loop-key-init
loop-key-init c =
    let all : into_iter_items c.into_iter-key-iterator.result ≡ c.in_ok-items.items.items = search rules in
    record {
      added = making_begins (λ es. map pending_of (picked task_added es)) key_cmp _ _ _ _ _ c.new.ensures.items all c.in_ok-items.ensures c.self.invariant c.self.view_is;
      dropped = making_begins (λ es. keys_of (picked task_dropped es)) key_cmp _ _ _ _ _ c.new-2.ensures.items all c.in_ok-items.ensures c.self.invariant c.self.view_is;
      requeued = making_begins (picked task_moved) key_cmp _ _ _ _ _ c.new-3.ensures.items all c.in_ok-items.ensures c.self.invariant c.self.view_is;
    }

pub loop-key-preserved : goal.loop-key-preserved
loop-key-preserved c =
    let turn : into_iter_items c.loop-key.key-iterator ≡ (c.in-Some.key, c.in-Some.change) ∷ into_iter_items c.next.new.self = c.in-Some.ensures.steps.0 in
    record {
      added = making_goes_on (λ es. map pending_of (picked task_added es)) (mapped_splits task_added pending_of) _ _ _ _ _ _ turn c.in_ok-add.ensures.added c.loop-key.invariant.added;
      dropped = making_goes_on (λ es. keys_of (picked task_dropped es)) (mapped_splits task_dropped (λ e. e.0)) _ _ _ _ _ _ turn c.in_ok-add.ensures.dropped c.loop-key.invariant.dropped;
      requeued = making_goes_on (picked task_moved) (picked_splits task_moved) _ _ _ _ _ _ turn c.in_ok-add.ensures.requeued c.loop-key.invariant.requeued;
    }

pub returns-clause-added : goal.returns-clause-added
returns-clause-added c = making_ends (λ es. map pending_of (picked task_added es)) refl _ _ _ _ c.loop-key.key-iterator.rest.ok.0 c.in-None.ensures.steps.0 c.loop-key.invariant.added

pub returns-clause-dropped : goal.returns-clause-dropped
returns-clause-dropped c = making_ends (λ es. keys_of (picked task_dropped es)) refl _ _ _ _ c.loop-key.key-iterator.rest.ok.0 c.in-None.ensures.steps.0 c.loop-key.invariant.dropped

pub returns-clause-requeued : goal.returns-clause-requeued
returns-clause-requeued c = making_ends (picked task_moved) refl _ _ _ _ c.loop-key.key-iterator.rest.ok.0 c.in-None.ensures.steps.0 c.loop-key.invariant.requeued
