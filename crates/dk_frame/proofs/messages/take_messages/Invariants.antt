use Rattle.std.proofs.Common.{map, length}
use Rattle.dk_frame.specs.Meanings.{frame_of}
use Rattle.dk_frame.proofs.MessageRuns.{Along}
use Rattle.dk_frame.proofs.messages.take_messages.Given as goal

abbrev pub invariant-messages : goal.invariant-messages
invariant-messages l = Along l.bytes (map frame_of l.fn.frames.items) (map frame_of l.frames.items) l.rest

abbrev pub decreases-messages : goal.decreases-messages
decreases-messages l = length l.rest
