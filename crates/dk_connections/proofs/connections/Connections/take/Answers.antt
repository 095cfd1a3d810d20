use Rattle.std.proofs.Common.{true, false, refl, sym, ap, ◌∙◌, arith, is_some}
use Rattle.dk_map.specs.Entries.{find, without}
use Rattle.dk_map.proofs.Counts.{found_of}
use Rattle.dk_map.proofs.Seen.{get_seen, without_seen}
use Rattle.dk_model.proofs.Maps.{conns_total, exact_conns}
use Rattle.dk_connections.specs.Places.{place_cmp}
use Rattle.dk_connections.proofs.Rooms.{one_out}
use Rattle.dk_connections.proofs.Steps.{step_none, step_out, placed_there, alive_seen}
use Rattle.dk_connections.proofs.connections.Connections.take.Goals as goal

pub invariant_of-self : goal.invariant_of-self
invariant_of-self c =
    step_none _ _ c.self.invariant c.args.conn _ c.in_default.ensures.ordered (sym c.in_default.ensures.value) c.in_default.ensures.entries

pub returns-in_default-clause-found : goal.returns-in_default-clause-found
returns-in_default-clause-found c = c.in_default.ensures.value ∙ get_seen _ (ap (λ s. s.connections) c.self.view_is) c.self.invariant.ordered c.args.conn

pub returns-in_default-clause-connections : goal.returns-in_default-clause-connections
returns-in_default-clause-connections c = without_seen conns_total _ (ap (λ s. s.connections) c.self.view_is) c.self.invariant.ordered exact_conns c.args.conn _ c.in_default.ensures.entries

pub returns-in_default-clause-spare : goal.returns-in_default-clause-spare
returns-in_default-clause-spare c =
    let found = ap is_some (c.in_default.ensures.value ∙ get_seen _ (ap (λ s. s.connections) c.self.view_is) c.self.invariant.ordered c.args.conn) in
    one_out _ _ _ _ _ false false _ (ap (λ s. s.spare) c.self.view_is) c.in_default.ensures.spare (omega arith) found found

pub returns-in_default-clause-alive : goal.returns-in_default-clause-alive
returns-in_default-clause-alive c = alive_seen _ _ c.self.invariant _ (ap (λ s. s.connections) c.self.view_is)

pub invariant_of-self-2 : goal.invariant_of-self-2
invariant_of-self-2 c =
    step_out _ _ c.self.invariant c.args.conn c.in-Some.slot _ _ c.in-Some.ensures.ordered c.remove-2.ensures.ordered (sym c.in-Some.ensures.value) c.in-Some.ensures.entries
    (c.remove-2.ensures.entries ∙ ap (λ q. without place_cmp q c.self.inside.places.entries) c.place.ensures)

pub returns-clause-found : goal.returns-clause-found
returns-clause-found c = c.in-Some.ensures.value ∙ get_seen _ (ap (λ s. s.connections) c.self.view_is) c.self.invariant.ordered c.args.conn

pub returns-clause-connections : goal.returns-clause-connections
returns-clause-connections c = without_seen conns_total _ (ap (λ s. s.connections) c.self.view_is) c.self.invariant.ordered exact_conns c.args.conn _ c.in-Some.ensures.entries

pub returns-clause-spare : goal.returns-clause-spare
returns-clause-spare c =
    let there = sym c.in-Some.ensures.value in
    let found = ap is_some (c.in-Some.ensures.value ∙ get_seen _ (ap (λ s. s.connections) c.self.view_is) c.self.invariant.ordered c.args.conn) in
    let out = sym (found_of (λ e. e.1) c.remove-2.result c.remove-2.ensures.value refl) ∙ ap (λ q. is_some (find place_cmp q c.self.inside.places.entries)) c.place.ensures ∙ placed_there _ _ c.self.invariant c.args.conn c.in-Some.slot there in
    one_out _ _ _ _ _ true (is_some c.remove-2.result) _ (ap (λ s. s.spare) c.self.view_is) c.in-Some.ensures.spare c.remove-2.ensures.spare found (out ∙ found)

pub returns-clause-alive : goal.returns-clause-alive
returns-clause-alive c = alive_seen _ _ c.self.invariant _ (ap (λ s. s.connections) c.self.view_is)
