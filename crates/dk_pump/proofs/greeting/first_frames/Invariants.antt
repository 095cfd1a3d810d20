use Rattle.std.proofs.Common.{◌≤◌, ◌-◌, []}
use Rattle.dk_pump.specs.declared.limits.TheConstants.{SESSION_MOST_BYTES}
use Rattle.dk_pump.specs.Reading.{IsFirstRead}
use Rattle.dk_pump.proofs.greeting.first_frames.Given as goal

abbrev pub invariant-pieces : goal.invariant-pieces
invariant-pieces g l = record {
  few : l.decoder.fed ≤ SESSION_MOST_BYTES;
  none : IsFirstRead [] (g.S.Source.remaining l.fn.source) (g.S.Source.remaining l.source) l.decoder (g.S.Source.counted l.fn.source) (g.S.Source.counted l.source);
}

abbrev pub decreases-pieces : goal.decreases-pieces
decreases-pieces g l = SESSION_MOST_BYTES - l.decoder.fed
