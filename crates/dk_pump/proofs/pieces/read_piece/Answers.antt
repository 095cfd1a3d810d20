use Rattle.std.proofs.Common.{◌<◌, map, take, sym, subst, arith}
use Rattle.std.proofs.lemmas.List.{length-take}
use Rattle.dk_frame.specs.Meanings.{frame_of}
use Rattle.dk_pump.specs.declared.limits.TheConstants.{SESSION_MOST_BYTES}
use Rattle.dk_pump.specs.declared.ends.SessionEnd.TheVariants as ends
use Rattle.dk_pump.specs.Ends.{end_of_frames}
use Rattle.dk_pump.specs.Reading.{IsNextEnd}
use Rattle.dk_pump.proofs.Ended.{if_err}
use Rattle.dk_pump.proofs.OnePiece.{idle_now, refused_fed, fed_more, fault_end, input_end, truncated_end, next_read, refused_end}
use Rattle.dk_pump.proofs.pieces.read_piece.Goals.{in-Ok, in-Err}
use Rattle.dk_pump.proofs.pieces.read_piece.Goals as goal

pub returns-in_err-count-clause-ended : goal.returns-in_err-count-clause-ended
returns-in_err-count-clause-ended g c =
    let some = c.requires.some in
    let few = c.requires.few in
    if_err c.from_residual.result ends.ReadFault _ c.from_residual.ensures.1
    (fault_end (g.S.Source.remaining c.args.source.now) (g.S.Source.remaining c.take.new.self) c.args.decoder.now c.args.decoder.now (g.S.Source.counted c.args.source.now) (g.S.Source.counted c.take.new.self) (idle_now c.args.decoder.now c.requires.good) (omega (arith, some, few)) c.in_err-count.ensures.bytes c.in_err-count.ensures.cause)

pub returns-then-count-eq0-clause-ended : goal.returns-then-count-eq0-clause-ended
returns-then-count-eq0-clause-ended g c =
    let some = c.requires.some in
    let few = c.requires.few in
    let less : c.args.decoder.now.fed < SESSION_MOST_BYTES = omega (arith, some, few) in
    elim c.match-end.branch [
      | in-Ok w ↦ subst (λ end. IsNextEnd end (g.S.Source.remaining c.args.source.now) (g.S.Source.remaining c.take.new.self) c.args.decoder.now c.args.decoder.now (g.S.Source.counted c.args.source.now) (g.S.Source.counted c.take.new.self)) (sym w.result-is)
          (input_end (g.S.Source.remaining c.args.source.now) (g.S.Source.remaining c.take.new.self) c.args.decoder.now c.args.decoder.now (g.S.Source.counted c.args.source.now) (g.S.Source.counted c.take.new.self) (idle_now c.args.decoder.now c.requires.good) _ c.in_ok-count.count less c.in_ok-count.ensures.bytes c.if-count-eq0.true c.in_ok-count.ensures.steady w.fed.result w.fed.ensures w.in-Ok.ensures)
      | in-Err w ↦ subst (λ end. IsNextEnd end (g.S.Source.remaining c.args.source.now) (g.S.Source.remaining c.take.new.self) c.args.decoder.now c.args.decoder.now (g.S.Source.counted c.args.source.now) (g.S.Source.counted c.take.new.self)) (sym w.result-is)
          (truncated_end (g.S.Source.remaining c.args.source.now) (g.S.Source.remaining c.take.new.self) c.args.decoder.now c.args.decoder.now (g.S.Source.counted c.args.source.now) (g.S.Source.counted c.take.new.self) (idle_now c.args.decoder.now c.requires.good) _ c.in_ok-count.count less c.in_ok-count.ensures.bytes c.if-count-eq0.true c.in_ok-count.ensures.steady _ w.in-Err.ensures)
    ]

pub returns-in_err-feed-clause-ended : goal.returns-in_err-feed-clause-ended
returns-in_err-feed-clause-ended g c =
    if_err c.from_residual-in_err-feed.result (end_of_frames c.in_err-feed.field-0.0) _ c.from_residual-in_err-feed.ensures.1
    (refused_end c.in_err-feed.field-0.0 (g.S.Source.remaining c.args.source.now) (g.S.Source.remaining c.take.new.self) c.args.decoder.now c.args.decoder.now c.feed.new.self (take c.in_ok-count.count c.take.new.into) (g.S.Source.counted c.args.source.now) (g.S.Source.counted c.take.new.self) (λ stream given s. s) c.in_ok-count.ensures.bytes.front c.in_err-feed.ensures.refused c.in_ok-count.ensures.steady)

pub returns-in_err-feed-clause-few : goal.returns-in_err-feed-clause-few
returns-in_err-feed-clause-few g c =
    let more = refused_fed c.in_err-feed.field-0.0 c.args.decoder.now c.feed.new.self (take c.in_ok-count.count c.take.new.into) c.requires.stream c.in_err-feed.ensures.refused in
    let within = c.in_ok-count.ensures.bytes.within in
    let long = length-take c.in_ok-count.count c.take.new.into in
    let few = c.requires.few in
    omega (arith, more, within, long, few)

pub returns-clause-read : goal.returns-clause-read
returns-clause-read g c =
    let some = c.if-count-eq0.false in
    let within = c.in_ok-count.ensures.bytes.within in
    let long = length-take c.in_ok-count.count c.take.new.into in
    next_read (g.S.Source.remaining c.args.source.now) (g.S.Source.remaining c.take.new.self) c.args.decoder.now c.args.decoder.now (g.S.Source.counted c.args.source.now) (g.S.Source.counted c.take.new.self) (idle_now c.args.decoder.now c.requires.good) c.requires.stream c.feed.new.self (take c.in_ok-count.count c.take.new.into) (map frame_of c.in_ok-feed.field-0.items) c.in_ok-count.ensures.bytes.front (omega (arith, some, within, long)) c.in_ok-feed.ensures.ok c.in_ok-count.ensures.steady

pub returns-clause-few : goal.returns-clause-few
returns-clause-few g c =
    let more = fed_more c.args.decoder.now c.feed.new.self (take c.in_ok-count.count c.take.new.into) (map frame_of c.in_ok-feed.field-0.items) c.requires.stream c.in_ok-feed.ensures.ok in
    let within = c.in_ok-count.ensures.bytes.within in
    let long = length-take c.in_ok-count.count c.take.new.into in
    let few = c.requires.few in
    omega (arith, more, within, long, few)
