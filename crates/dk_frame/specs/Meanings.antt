-- What the types of the program mean in the definition of frames.
use Rattle.dk_model.specs.Frames as model
use Rattle.dk_model.specs.Frames.{Frame, Fault, Stage}
use Rattle.dk_frame.specs.declared.frame.ClientFrame.{ClientFrame}
use Rattle.dk_frame.specs.declared.frame.ClientFrame.TheVariants.{Login, Message, Channel, Logout}
use Rattle.dk_frame.specs.declared.frame.FrameFault.{FrameFault}
use Rattle.dk_frame.specs.declared.frame.FrameFault.TheVariants.{Length, Opcode, Field}
use Rattle.dk_frame.specs.declared.stage.Stage as code
use Rattle.dk_frame.specs.declared.stage.Stage.TheVariants.{AtLogin, InSession, LoggedOut}

-- a client's frame
abbrev pub frame_of : ClientFrame → Frame
frame_of (Login name) = model.Login name
frame_of (Message body) = model.Message body
frame_of (Channel channel body) = model.Channel channel body
frame_of Logout = model.Logout

-- what is wrong with one
abbrev pub fault_of : FrameFault → Fault
fault_of Length = model.BadLength
fault_of Opcode = model.BadOpcode
fault_of Field = model.BadField

-- how far a stream has come
abbrev pub stage_of : code.Stage → Stage
stage_of AtLogin = model.AtLogin
stage_of InSession = model.InSession
stage_of LoggedOut = model.LoggedOut
