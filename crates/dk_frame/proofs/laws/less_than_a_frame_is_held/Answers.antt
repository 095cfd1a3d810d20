use Rattle.dk_frame.proofs.HeldFew.{held_few}
use Rattle.dk_frame.proofs.laws.less_than_a_frame_is_held.Goals as goal

pub returns : goal.returns
returns c = held_few
