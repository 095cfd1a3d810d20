use Rattle.std.proofs.Common.{sym, ◌∙◌}
use Rattle.std.proofs.lemmas.List.{nil_from_length}
use Rattle.std.specs.Vec.Iter.{into_iter_items}
use Rattle.dk_core.specs.StampedWorlds.{durable_of}
use Rattle.dk_core.proofs.Firsts.{fresh_none}
use Rattle.dk_core.proofs.Walks.{walk_begun, walk_ended}
use Rattle.dk_core.proofs.opening.open_connections.Goals as goal

pub loop-name-init : goal.loop-name-init
loop-name-init c = walk_begun _ _ c.new-connections.ensures.world (fresh_none _ c.new-connections.ensures.empty c.new-connections.ensures.swept)

pub returns-clause-world : goal.returns-clause-world
returns-clause-world c =
    let left = c.loop-name.name-iterator in
    walk_ended (durable_of c.args.world.now) (λ e. (e.0.now, e.1.now.0)) _ _ (into_iter_items left) c.loop-name.connections.connections c.in_ok-names.ensures c.into_iter-name-iterator.ensures.into_iter_gives.0 c.loop-name.invariant
    (nil_from_length _ (sym left.rest.ok.0 ∙ c.in-None.ensures.steps.0))

pub returns-clause-unclaimed : goal.returns-clause-unclaimed
returns-clause-unclaimed c = c.loop-name.invariant.fresh.unclaimed

pub returns-clause-swept : goal.returns-clause-swept
returns-clause-swept c = c.loop-name.invariant.fresh.swept
