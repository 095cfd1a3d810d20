use Rattle.dk_types.specs.Names.{IsName}
use Rattle.dk_types.specs.Fields.{name_spelling}
use Rattle.dk_types.specs.Reading.{name_at}
use Rattle.dk_types.proofs.FieldLaws.{name_exact}
use Rattle.dk_types.proofs.ExactLaws.{takes_front}
use Rattle.dk_wire.proofs.reader.Reader.take_name.Goals as goal

pub returns-clause-front : goal.returns-clause-front
returns-clause-front c = takes_front IsName name_spelling name_at name_exact c.args.self.now c.read_name.result c.read_name.new.self c.read_name.ensures.bytes c.read_name.ensures.reads
