use Rattle.dk_demos.specs.CountersRules.{make}
use Rattle.dk_demos.proofs.counters.make.Goals as goal

pub returns : goal.returns
unfolding make
returns g c = rw c.in_ok-name.ensures at c.make_under.ensures
