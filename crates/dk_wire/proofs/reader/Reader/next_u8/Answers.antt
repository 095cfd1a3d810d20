use Rattle.dk_types.specs.Reading.{u8_at}
use Rattle.dk_types.specs.Payload.{next_u8}
use Rattle.dk_wire.proofs.PayloadLaws.{told_gives, told_memory}
use Rattle.dk_wire.proofs.reader.Reader.next_u8.Goals as goal

pub returns-clause-gives : goal.returns-clause-gives
unfolding next_u8
returns-clause-gives c = told_gives u8_at c.args.self.now c.at-at.result c.read_u8.result c.read_u8.new.self c.located.result c.at-at.ensures c.located.ensures c.read_u8.ensures.reads

pub returns-clause-memory : goal.returns-clause-memory
returns-clause-memory c = told_memory c.at-at.result c.read_u8.result c.located.result c.located.ensures c.read_u8.ensures.memory
