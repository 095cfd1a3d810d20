use Rattle.dk_types.specs.Reading.{id_at}
use Rattle.dk_types.specs.Payload.{next_id}
use Rattle.dk_wire.proofs.PayloadLaws.{told_gives, told_memory}
use Rattle.dk_wire.proofs.reader.Reader.next_id.Goals as goal

pub returns-clause-gives : goal.returns-clause-gives
unfolding next_id
returns-clause-gives c = told_gives id_at c.args.self.now c.at-at.result c.read_id.result c.read_id.new.self c.located.result c.at-at.ensures c.located.ensures c.read_id.ensures.reads

pub returns-clause-memory : goal.returns-clause-memory
returns-clause-memory c = told_memory c.at-at.result c.read_id.result c.located.result c.located.ensures c.read_id.ensures.memory
