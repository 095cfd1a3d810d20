use Rattle.dk_frame.proofs.Standing.{stands_new}
use Rattle.dk_frame.proofs.decoder.Decoder.new.Goals as goal

pub returns : goal.returns
returns c = stands_new c.new.result.items c.new.ensures.items
