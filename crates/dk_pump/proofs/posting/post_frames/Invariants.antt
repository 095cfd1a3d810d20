use Rattle.std.proofs.Common.{◌≡◌, map}
use Rattle.std.specs.Vec.Iter.{into_iter_items}
use Rattle.dk_frame.specs.Meanings.{frame_of}
use Rattle.dk_pump.proofs.PostedFrames.{IsPosting}
use Rattle.dk_pump.proofs.posting.post_frames.Given as goal

abbrev pub invariant-loop-frame : goal.invariant-loop-frame
invariant-loop-frame g l = record {
  number : l.pass.number ≡ l.fn.pass.number;
  posting : IsPosting g.W.Hosting.opened g.J.Naming.name.passes l.fn.pass.number l.conn (map frame_of l.fn.frames.items) (map frame_of (into_iter_items l.frame-iterator)) l.fn.pass.front l.pass.front;
}
