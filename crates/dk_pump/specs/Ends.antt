-- How the refusals of the calls below end a session.
use Rattle.dk_frame.specs.declared.frame.FrameRefused.{FrameRefused}
use Rattle.dk_frame.specs.declared.frame.FrameRefused.TheVariants as frames
use Rattle.dk_connections.specs.declared.answers.PostRefused.{PostRefused}
use Rattle.dk_connections.specs.declared.answers.PostRefused.TheVariants as post
use Rattle.dk_core.specs.declared.answers.ConnectRefused.{ConnectRefused}
use Rattle.dk_core.specs.declared.answers.ConnectRefused.TheVariants as connect
use Rattle.dk_pump.specs.declared.ends.SessionEnd.{SessionEnd}
use Rattle.dk_pump.specs.declared.ends.SessionEnd.TheVariants as ends

-- a decoder's
abbrev pub end_of_frames : FrameRefused → SessionEnd
end_of_frames (frames.BadFrame at why) = ends.Bad (record { at = at; why = why })
end_of_frames frames.NoMemory = ends.NoMemory

-- a post's
abbrev pub end_of_post : PostRefused → SessionEnd
end_of_post post.Closed = ends.Closed
end_of_post (post.QueueFull waiting) = ends.Flood waiting
end_of_post post.NoMemory = ends.NoMemory

-- a connect's
abbrev pub end_of_connect : ConnectRefused → SessionEnd
end_of_connect (connect.Exhausted next) = ends.Exhausted next
end_of_connect connect.NoMemory = ends.NoMemory
