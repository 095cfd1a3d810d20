use Rattle.dk_types.specs.Reading.{blob_at}
use Rattle.dk_types.specs.Payload.{next_blob}
use Rattle.dk_wire.proofs.PayloadLaws.{told_gives}
use Rattle.dk_wire.proofs.reader.Reader.next_blob.Goals as goal

pub returns : goal.returns
unfolding next_blob
returns c = told_gives (blob_at c.args.most) c.args.self.now c.at-at.result c.read_blob.result c.read_blob.new.self c.located.result c.at-at.ensures c.located.ensures c.read_blob.ensures.reads
