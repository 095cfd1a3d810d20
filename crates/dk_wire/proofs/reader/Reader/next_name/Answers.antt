use Rattle.dk_types.specs.Reading.{name_at}
use Rattle.dk_types.specs.Payload.{next_name}
use Rattle.dk_wire.proofs.PayloadLaws.{told_gives}
use Rattle.dk_wire.proofs.reader.Reader.next_name.Goals as goal

pub returns : goal.returns
unfolding next_name
returns c = told_gives name_at c.args.self.now c.at-at.result c.read_name.result c.read_name.new.self c.located.result c.at-at.ensures c.located.ensures c.read_name.ensures.reads
