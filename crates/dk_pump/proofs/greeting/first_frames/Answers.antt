use Rattle.std.proofs.Common.{◌≡◌, [], map, ap, subst, rules}
use Rattle.dk_frame.specs.Meanings.{frame_of}
use Rattle.dk_pump.specs.Reading.{IsFirstRead}
use Rattle.dk_pump.proofs.Ended.{if_err}
use Rattle.dk_pump.proofs.Connected.{first_next, first_end, empty_is}
use Rattle.dk_pump.proofs.greeting.first_frames.Goals as goal

pub returns-in_err-frames-clause-ended : goal.returns-in_err-frames-clause-ended
returns-in_err-frames-clause-ended g c =
    if_err c.from_residual.result c.in_err-frames.field-0.0 _ c.from_residual.ensures.1 (first_end (g.S.Source.remaining c.args.source.now) (g.S.Source.remaining c.pieces.source) (g.S.Source.remaining c.next_frames.new.source) c.pieces.decoder c.next_frames.new.decoder (g.S.Source.counted c.args.source.now) (g.S.Source.counted c.pieces.source) (g.S.Source.counted c.next_frames.new.source) c.pieces.invariant.none c.in_err-frames.field-0.0 c.in_err-frames.ensures.ended)

pub returns-then-not-is_empty-clause-read : goal.returns-then-not-is_empty-clause-read
returns-then-not-is_empty-clause-read g c = first_next (g.S.Source.remaining c.args.source.now) (g.S.Source.remaining c.pieces.source) (g.S.Source.remaining c.next_frames.new.source) c.pieces.decoder c.next_frames.new.decoder (g.S.Source.counted c.args.source.now) (g.S.Source.counted c.pieces.source) (g.S.Source.counted c.next_frames.new.source) c.pieces.invariant.none (map frame_of c.in_ok-frames.frames.items) c.in_ok-frames.ensures.read

pub pieces-preserved : goal.pieces-preserved
pieces-preserved g c =
    let none : c.in_ok-frames.frames.items ≡ [] = empty_is c.in_ok-frames.frames.items (search rules) in
    record {
      few = c.in_ok-frames.ensures.few;
      none = subst (λ fs. IsFirstRead fs (g.S.Source.remaining c.args.source.now) (g.S.Source.remaining c.next_frames.new.source) c.next_frames.new.decoder (g.S.Source.counted c.args.source.now) (g.S.Source.counted c.next_frames.new.source)) (ap (map frame_of) none) (first_next (g.S.Source.remaining c.args.source.now) (g.S.Source.remaining c.pieces.source) (g.S.Source.remaining c.next_frames.new.source) c.pieces.decoder c.next_frames.new.decoder (g.S.Source.counted c.args.source.now) (g.S.Source.counted c.pieces.source) (g.S.Source.counted c.next_frames.new.source) c.pieces.invariant.none (map frame_of c.in_ok-frames.frames.items) c.in_ok-frames.ensures.read);
    }
