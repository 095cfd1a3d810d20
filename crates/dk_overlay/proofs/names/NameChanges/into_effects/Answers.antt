use Rattle.std.proofs.Common.{◌≡◌, ◌∷◌, refl, rules}
use Rattle.std.specs.Map.{keys_of}
use Rattle.std.specs.Vec.Iter.{into_iter_items}
use Rattle.dk_types.specs.Names.{bytes_cmp}
use Rattle.dk_types.specs.Values.{same_id}
use Rattle.dk_overlay.specs.Picks.{picked, newly_set, taken_away}
use Rattle.dk_overlay.proofs.Picking.{making_begins, making_goes_on, making_ends, picked_splits, mapped_splits}
use Rattle.dk_overlay.proofs.names.NameChanges.into_effects.Goals as goal

pub loop-name-init : goal.loop-name-init
loop-name-init c =
    let all : into_iter_items c.into_iter-name-iterator.result ≡ c.in_ok-items.items.items = search rules in
    record {
      bound = making_begins (picked (newly_set same_id)) bytes_cmp _ _ _ _ _ c.new.ensures.items all c.in_ok-items.ensures c.self.invariant.0 c.self.view_is;
      unbound = making_begins (λ es. keys_of (picked taken_away es)) bytes_cmp _ _ _ _ _ c.new-2.ensures.items all c.in_ok-items.ensures c.self.invariant.0 c.self.view_is;
    }

pub loop-name-preserved : goal.loop-name-preserved
loop-name-preserved c =
    let turn : into_iter_items c.loop-name.name-iterator ≡ (c.in-Some.name, c.in-Some.change) ∷ into_iter_items c.next.new.self = c.in-Some.ensures.steps.0 in
    record {
      bound = making_goes_on (picked (newly_set same_id)) (picked_splits (newly_set same_id)) _ _ _ _ _ _ turn c.in_ok-add.ensures.bound c.loop-name.invariant.bound;
      unbound = making_goes_on (λ es. keys_of (picked taken_away es)) (mapped_splits taken_away (λ e. e.0)) _ _ _ _ _ _ turn c.in_ok-add.ensures.unbound c.loop-name.invariant.unbound;
    }

pub returns-clause-bound : goal.returns-clause-bound
returns-clause-bound c = making_ends (picked (newly_set same_id)) refl _ _ _ _ c.loop-name.name-iterator.rest.ok.0 c.in-None.ensures.steps.0 c.loop-name.invariant.bound

pub returns-clause-unbound : goal.returns-clause-unbound
returns-clause-unbound c = making_ends (λ es. keys_of (picked taken_away es)) refl _ _ _ _ c.loop-name.name-iterator.rest.ok.0 c.in-None.ensures.steps.0 c.loop-name.invariant.unbound
