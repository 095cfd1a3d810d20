use Rattle.std.proofs.Common.{ap, ◌∙◌}
use Rattle.dk_map.specs.AsMap.{map_of}
use Rattle.dk_map.proofs.Maps.{map_of-empty}
use Rattle.dk_map.proofs.Values.{values-empty}
use Rattle.dk_model.specs.Keys.{conn_cmp}
use Rattle.dk_model.proofs.Maps.{conns_total, exact_conns}
use Rattle.dk_connections.specs.MarkedConnections.{all_of}
use Rattle.dk_connections.proofs.Changes.{connection_in, empty_swept}
use Rattle.dk_connections.proofs.connections.Connections.new.Goals as goal

pub returns-clause-empty : goal.returns-clause-empty
returns-clause-empty c = ap (map_of conn_cmp) c.new.ensures.empty ∙ map_of-empty conn_cmp

pub returns-clause-world : goal.returns-clause-world
returns-clause-world c = ap all_of (returns-clause-empty c) ∙ values-empty connection_in conns_total exact_conns

pub returns-clause-swept : goal.returns-clause-swept
returns-clause-swept c = empty_swept _ (returns-clause-empty c)
