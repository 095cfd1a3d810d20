use Rattle.std.proofs.Common.{◌≡◌, List, [], ◌∷◌, ◌++◌, map, sym, subst}
use Rattle.dk_model.specs.Frames.{Frame, Message}
use Rattle.dk_frame.specs.Meanings.{frame_of}
use Rattle.dk_frame.specs.Fronts.{IsMessage}
use Rattle.dk_frame.proofs.MessageRuns.{Along, along_more}
use Rattle.dk_frame.proofs.messages.take_messages.Goals as goal

pub messages-preserved : goal.messages-preserved
messages-preserved c =
    let old = map frame_of c.args.frames.now.items in
    let frames = map frame_of c.messages.frames.items in
    let is : IsMessage c.messages.rest.now c.in-Some.body.now c.in-Some.behind.now = c.in-Some.ensures in
    let items : map frame_of c.push_message.new.frames.items ≡ frames ++ Message c.in-Some.body.now ∷ [] = c.in_ok-push_message.ensures in
    subst (λ (fs : List Frame). Along c.args.bytes.now old fs c.in-Some.behind.now) (sym items)
    (along_more c.args.bytes.now old frames c.messages.rest.now c.in-Some.body.now c.in-Some.behind.now c.messages.invariant is)
