use Rattle.dk_types.specs.Fields.{IsU32, u32_spelling}
use Rattle.dk_types.specs.Reading.{u32_at}
use Rattle.dk_types.proofs.FieldLaws.{u32_exact}
use Rattle.dk_types.proofs.ExactLaws.{takes_front}
use Rattle.dk_wire.proofs.reader.Reader.take_u32.Goals as goal

pub returns-clause-front : goal.returns-clause-front
returns-clause-front c = takes_front IsU32 u32_spelling u32_at u32_exact c.args.self.now c.read_u32.result c.read_u32.new.self c.read_u32.ensures.bytes c.read_u32.ensures.reads
