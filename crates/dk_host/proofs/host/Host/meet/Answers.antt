use Rattle.dk_host.proofs.Calling.{front_of}
use Rattle.dk_host.proofs.host.Host.meet.Goals as goal

pub returns-clause-one : goal.returns-clause-one
returns-clause-one g c = front_of c.args.one.now.number c.args.one.now.front c.meet.new.one.front c.meet.ensures.one

pub returns-clause-other : goal.returns-clause-other
returns-clause-other g c = front_of c.args.other.now.number c.args.other.now.front c.meet.new.other.front c.meet.ensures.other
