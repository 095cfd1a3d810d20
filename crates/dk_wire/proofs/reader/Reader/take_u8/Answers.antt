use Rattle.dk_types.specs.Fields.{IsU8, u8_spelling}
use Rattle.dk_types.specs.Reading.{u8_at}
use Rattle.dk_types.proofs.FieldLaws.{u8_exact}
use Rattle.dk_types.proofs.ExactLaws.{takes_front}
use Rattle.dk_wire.proofs.reader.Reader.take_u8.Goals as goal

pub returns-clause-front : goal.returns-clause-front
returns-clause-front c = takes_front IsU8 u8_spelling u8_at u8_exact c.args.self.now c.read_u8.result c.read_u8.new.self c.read_u8.ensures.bytes c.read_u8.ensures.reads
