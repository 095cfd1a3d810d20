use Rattle.std.proofs.Common.{◌≡◌, ◌≤◌, ◌-◌, map}
use Rattle.dk_frame.specs.Meanings.{frame_of}
use Rattle.dk_pump.specs.declared.limits.TheConstants.{SESSION_MOST_BYTES}
use Rattle.dk_pump.proofs.ReadOn.{IsReading}
use Rattle.dk_pump.proofs.reading.read_frames.Given as goal

abbrev pub invariant-pieces : goal.invariant-pieces
invariant-pieces g l = record {
  few : l.decoder.fed ≤ SESSION_MOST_BYTES;
  number : l.pass.number ≡ l.fn.pass.number;
  reading : IsReading g.W.Hosting.opened g.J.Naming.name.passes l.fn.pass.number l.conn (map frame_of l.fn.rest.items) (map frame_of l.frames.items)
      (g.S.Source.remaining l.fn.source) (g.S.Source.remaining l.source) l.fn.decoder l.decoder (g.S.Source.counted l.fn.source) (g.S.Source.counted l.source) l.fn.pass.front l.pass.front;
}

abbrev pub decreases-pieces : goal.decreases-pieces
decreases-pieces g l = SESSION_MOST_BYTES - l.decoder.fed
