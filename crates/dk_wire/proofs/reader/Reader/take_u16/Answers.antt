use Rattle.dk_types.specs.Fields.{IsU16, u16_spelling}
use Rattle.dk_types.specs.Reading.{u16_at}
use Rattle.dk_types.proofs.FieldLaws.{u16_exact}
use Rattle.dk_types.proofs.ExactLaws.{takes_front}
use Rattle.dk_wire.proofs.reader.Reader.take_u16.Goals as goal

pub returns-clause-front : goal.returns-clause-front
returns-clause-front c = takes_front IsU16 u16_spelling u16_at u16_exact c.args.self.now c.read_u16.result c.read_u16.new.self c.read_u16.ensures.bytes c.read_u16.ensures.reads
