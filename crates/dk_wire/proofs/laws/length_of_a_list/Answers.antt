use Rattle.dk_wire.proofs.LengthLaws.{length-list}
use Rattle.dk_wire.proofs.laws.length_of_a_list.Goals as goal

pub returns : goal.returns
returns g c = length-list g.F.Form.spelling
