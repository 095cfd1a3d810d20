use Rattle.dk_frame.proofs.Apart.{one_reading}
use Rattle.dk_frame.proofs.laws.streams_have_one_reading.Goals as goal

pub returns : goal.returns
returns c = one_reading
