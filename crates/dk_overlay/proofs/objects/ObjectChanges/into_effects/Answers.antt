use Rattle.std.proofs.Common.{◌≡◌, ◌∷◌, refl, rules}
use Rattle.std.specs.Map.{keys_of}
use Rattle.std.specs.Vec.Iter.{into_iter_items}
use Rattle.dk_types.specs.Keys.{id_cmp}
use Rattle.dk_types.specs.Values.{same_object}
use Rattle.dk_overlay.specs.Picks.{picked, newly_set, taken_away}
use Rattle.dk_overlay.proofs.Picking.{making_begins, making_goes_on, making_ends, picked_splits, mapped_splits}
use Rattle.dk_overlay.proofs.objects.ObjectChanges.into_effects.Goals as goal

pub loop-id-init : goal.loop-id-init
loop-id-init c =
    let all : into_iter_items c.into_iter-id-iterator.result ≡ c.in_ok-items.items.items = search rules in
    record {
      written = making_begins (picked (newly_set same_object)) id_cmp _ _ _ _ _ c.new.ensures.items all c.in_ok-items.ensures c.self.invariant c.self.view_is;
      removed = making_begins (λ es. keys_of (picked taken_away es)) id_cmp _ _ _ _ _ c.new-2.ensures.items all c.in_ok-items.ensures c.self.invariant c.self.view_is;
    }

pub loop-id-preserved : goal.loop-id-preserved
loop-id-preserved c =
    let turn : into_iter_items c.loop-id.id-iterator ≡ (c.in-Some.id, c.in-Some.change) ∷ into_iter_items c.next.new.self = c.in-Some.ensures.steps.0 in
    record {
      written = making_goes_on (picked (newly_set same_object)) (picked_splits (newly_set same_object)) _ _ _ _ _ _ turn c.in_ok-add.ensures.written c.loop-id.invariant.written;
      removed = making_goes_on (λ es. keys_of (picked taken_away es)) (mapped_splits taken_away (λ e. e.0)) _ _ _ _ _ _ turn c.in_ok-add.ensures.removed c.loop-id.invariant.removed;
    }

pub returns-clause-written : goal.returns-clause-written
returns-clause-written c = making_ends (picked (newly_set same_object)) refl _ _ _ _ c.loop-id.id-iterator.rest.ok.0 c.in-None.ensures.steps.0 c.loop-id.invariant.written

pub returns-clause-removed : goal.returns-clause-removed
returns-clause-removed c = making_ends (λ es. keys_of (picked taken_away es)) refl _ _ _ _ c.loop-id.id-iterator.rest.ok.0 c.in-None.ensures.steps.0 c.loop-id.invariant.removed
