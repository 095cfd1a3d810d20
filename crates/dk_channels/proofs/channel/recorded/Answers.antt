use Rattle.dk_channels.proofs.Lookups.{recorded_long, recorded_short}
use Rattle.dk_channels.proofs.channel.recorded.Goals as goal

pub returns-in-None-clause-does : goal.returns-in-None-clause-does
returns-in-None-clause-does g c = recorded_long c.args.name.now (rw c.in-None.is at c.in_ok-key_of.ensures)

pub returns-in-Some-clause-does : goal.returns-in-Some-clause-does
returns-in-Some-clause-does g c = let key = rw c.in-Some.is at c.in_ok-key_of.ensures in recorded_short c.args.name.now c.in-Some.key key.0 key.1 c.binding.ensures.does
