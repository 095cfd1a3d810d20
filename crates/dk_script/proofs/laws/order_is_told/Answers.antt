use Rattle.dk_script.proofs.OrderTold.{order_of-transcript_text}
use Rattle.dk_script.proofs.laws.order_is_told.Goals as goal

pub returns : goal.returns
returns c = order_of-transcript_text
