use Rattle.dk_types.specs.Fields.{IsId, id_spelling}
use Rattle.dk_types.specs.Reading.{id_at}
use Rattle.dk_types.proofs.FieldLaws.{id_exact}
use Rattle.dk_types.proofs.ExactLaws.{takes_front}
use Rattle.dk_wire.proofs.reader.Reader.take_id.Goals as goal

pub returns-clause-front : goal.returns-clause-front
returns-clause-front c = takes_front IsId id_spelling id_at id_exact c.args.self.now c.read_id.result c.read_id.new.self c.read_id.ensures.bytes c.read_id.ensures.reads
