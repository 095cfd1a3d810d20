use Rattle.std.proofs.Common.{refl, ap, ◌∙◌, is_some}
use Rattle.dk_map.specs.Entries.{find, put}
use Rattle.dk_map.proofs.Seen.{get_seen, put_seen}
use Rattle.dk_model.proofs.Maps.{conns_total}
use Rattle.dk_connections.specs.Places.{place_cmp}
use Rattle.dk_connections.proofs.Rooms.{one_in}
use Rattle.dk_connections.proofs.Steps.{step_in, not_placed, alive_seen}
use Rattle.dk_connections.proofs.connections.Connections.add.Goals as goal

pub invariant_of-self : goal.invariant_of-self
invariant_of-self c =
    let absent = get_seen _ (ap (λ s. s.connections) c.self.view_is) c.self.invariant.ordered c.args.conn ∙ c.requires.absent in
    step_in _ _ c.self.invariant c.args.conn c.args.slot _ _ c.insert-2.ensures.ordered c.insert.ensures.ordered absent c.requires.alive c.insert-2.ensures.entries
    (c.insert.ensures.entries ∙ ap (λ q. put place_cmp q tt c.self.inside.places.entries) c.place.ensures)

pub returns-clause-connections : goal.returns-clause-connections
returns-clause-connections c = put_seen conns_total _ (ap (λ s. s.connections) c.self.view_is) c.self.invariant.ordered c.args.conn c.args.slot _ c.insert-2.ensures.entries

pub returns-clause-spare : goal.returns-clause-spare
returns-clause-spare c =
    let absent = get_seen _ (ap (λ s. s.connections) c.self.view_is) c.self.invariant.ordered c.args.conn ∙ c.requires.absent in
    let place = ap is_some (c.insert.ensures.old ∙ ap (λ q. find place_cmp q c.self.inside.places.entries) c.place.ensures) ∙ not_placed _ _ c.self.invariant c.args.conn c.args.slot absent in
    one_in _ _ _ _ _ (is_some c.insert-2.result) (is_some c.insert.result) (ap (λ s. s.spare) c.self.view_is) c.insert-2.ensures.spare c.insert.ensures.spare (ap is_some (c.insert-2.ensures.old ∙ absent)) place

pub returns-clause-alive : goal.returns-clause-alive
returns-clause-alive c = alive_seen _ _ (invariant_of-self c) _ refl
