use Rattle.std.proofs.Common.{arith}
use Rattle.dk_types.specs.Fields.{IsBlob, blob_spelling}
use Rattle.dk_types.specs.Reading.{blob_at}
use Rattle.dk_types.proofs.FieldLaws.{blob_exact}
use Rattle.dk_types.proofs.ExactLaws.{takes_front}
use Rattle.dk_wire.proofs.reader.Reader.take_blob.Goals as goal

pub returns-clause-front : goal.returns-clause-front
returns-clause-front c = takes_front (IsBlob c.args.most) blob_spelling (blob_at c.args.most) (blob_exact c.args.most (omega arith)) c.args.self.now c.read_blob.result c.read_blob.new.self c.read_blob.ensures.bytes c.read_blob.ensures.reads
