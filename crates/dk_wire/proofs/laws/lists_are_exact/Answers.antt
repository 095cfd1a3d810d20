use Rattle.dk_types.proofs.ListLaws.{list_exact}
use Rattle.dk_wire.proofs.laws.lists_are_exact.Goals as goal

pub returns : goal.returns
returns g c = list_exact g.met.F.Form.exact
