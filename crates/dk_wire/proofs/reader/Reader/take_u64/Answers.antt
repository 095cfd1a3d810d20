use Rattle.dk_types.specs.Fields.{IsU64, u64_spelling}
use Rattle.dk_types.specs.Reading.{u64_at}
use Rattle.dk_types.proofs.FieldLaws.{u64_exact}
use Rattle.dk_types.proofs.ExactLaws.{takes_front}
use Rattle.dk_wire.proofs.reader.Reader.take_u64.Goals as goal

pub returns-clause-front : goal.returns-clause-front
returns-clause-front c = takes_front IsU64 u64_spelling u64_at u64_exact c.args.self.now c.read_u64.result c.read_u64.new.self c.read_u64.ensures.bytes c.read_u64.ensures.reads
