use Rattle.std.proofs.Common.{◌≡◌, take}
use Rattle.std.specs.Io.KnownBytes.{Appends}
use Rattle.dk_pump.specs.Writing.{frames_of}
use Rattle.dk_pump.proofs.putting.put_frames.Given as goal

abbrev pub invariant-loop-out : goal.invariant-loop-out
invariant-loop-out g l = record {
  put : Appends (g.K.Sink.contents l.fn.sink) (g.K.Sink.contents l.sink) (frames_of (take l.out-index l.outs));
  count : g.K.Sink.counted l.sink ≡ g.K.Sink.counted l.fn.sink;
}
