use Rattle.std.proofs.Common.{◌+◌, ◌≤◌, [], map, refl, arith}
use Rattle.std.proofs.lemmas.Result.{IfOk-weaker, IfErr-weaker}
use Rattle.dk_frame.specs.Meanings.{frame_of}
use Rattle.dk_pump.specs.Ends.{end_of_frames}
use Rattle.dk_pump.proofs.Ended.{if_err}
use Rattle.dk_pump.proofs.OnePiece.{idle, refused_fed, budget_end, piece_fits, read_from, end_from, idle_stream, refused_end}
use Rattle.dk_pump.proofs.Streams.{consumes_none}
use Rattle.dk_pump.proofs.pieces.next_frames.Goals as goal

pub returns-in_err-feed-clause-ended : goal.returns-in_err-feed-clause-ended
returns-in_err-feed-clause-ended g c =
    if_err c.from_residual.result (end_of_frames c.in_err-feed.field-0.0) _ c.from_residual.ensures.1
    (refused_end c.in_err-feed.field-0.0 (g.S.Source.remaining c.args.source.now) (g.S.Source.remaining c.args.source.now) c.args.decoder.now c.args.decoder.now c.feed.new.self [] (g.S.Source.counted c.args.source.now) (g.S.Source.counted c.args.source.now) (λ stream given s. s) (consumes_none (g.S.Source.remaining c.args.source.now)) c.in_err-feed.ensures.refused refl)

pub returns-in_err-feed-clause-few : goal.returns-in_err-feed-clause-few
returns-in_err-feed-clause-few g c =
    let more : c.feed.new.self.fed ≤ c.args.decoder.now.fed + 0 = refused_fed c.in_err-feed.field-0.0 c.args.decoder.now c.feed.new.self [] c.requires.stream c.in_err-feed.ensures.refused in
    let few = c.requires.few in
    omega (arith, more, few)

pub overflow_sub-left : goal.overflow_sub-left
overflow_sub-left g c =
    let same = (idle c.args.decoder.now c.feed.new.self [] c.in_ok-feed.field-0.items c.requires.stream refl c.in_ok-feed.ensures.ok c.in_ok-feed.ensures.told).fed in
    let few = c.requires.few in
    let told = c.fed-left.ensures in
    omega (arith, same, few, told)

pub returns-then-left-eq0-clause-ended : goal.returns-then-left-eq0-clause-ended
returns-then-left-eq0-clause-ended g c =
    let i = idle c.args.decoder.now c.feed.new.self [] c.in_ok-feed.field-0.items c.requires.stream refl c.in_ok-feed.ensures.ok c.in_ok-feed.ensures.told in
    let same = i.fed in
    let few = c.requires.few in
    let told = c.fed-left.ensures in
    let none = c.if-left-eq0.true in
    budget_end (g.S.Source.remaining c.args.source.now) (g.S.Source.remaining c.args.source.now) c.args.decoder.now c.feed.new.self (g.S.Source.counted c.args.source.now) (g.S.Source.counted c.args.source.now) i (omega (arith, same, few, told, none)) refl refl

pub returns-then-left-eq0-clause-few : goal.returns-then-left-eq0-clause-few
returns-then-left-eq0-clause-few g c =
    let same = (idle c.args.decoder.now c.feed.new.self [] c.in_ok-feed.field-0.items c.requires.stream refl c.in_ok-feed.ensures.ok c.in_ok-feed.ensures.told).fed in
    let few = c.requires.few in
    omega (arith, same, few)

pub read_piece-requires-clause-stream : goal.read_piece-requires-clause-stream
read_piece-requires-clause-stream g c = idle_stream c.args.decoder.now c.feed.new.self (idle c.args.decoder.now c.feed.new.self [] c.in_ok-feed.field-0.items c.requires.stream refl c.in_ok-feed.ensures.ok c.in_ok-feed.ensures.told) c.requires.stream

pub read_piece-requires-clause-good : goal.read_piece-requires-clause-good
read_piece-requires-clause-good g c = (idle c.args.decoder.now c.feed.new.self [] c.in_ok-feed.field-0.items c.requires.stream refl c.in_ok-feed.ensures.ok c.in_ok-feed.ensures.told).fault

pub read_piece-requires-clause-few : goal.read_piece-requires-clause-few
read_piece-requires-clause-few g c =
    let same = (idle c.args.decoder.now c.feed.new.self [] c.in_ok-feed.field-0.items c.requires.stream refl c.in_ok-feed.ensures.ok c.in_ok-feed.ensures.told).fed in
    let few = c.requires.few in
    let told = c.fed-left.ensures in
    let room = c.min-room.ensures in
    piece_fits _ c.min-room.result _ (omega (arith, same, few, told, room))

pub returns-clause-read : goal.returns-clause-read
returns-clause-read g c =
    IfOk-weaker c.read_piece.result _ _ (λ frames n. read_from (g.S.Source.remaining c.args.source.now) (g.S.Source.remaining c.read_piece.new.source) c.args.decoder.now c.feed.new.self c.read_piece.new.decoder (g.S.Source.counted c.args.source.now) (g.S.Source.counted c.read_piece.new.source) (idle c.args.decoder.now c.feed.new.self [] c.in_ok-feed.field-0.items c.requires.stream refl c.in_ok-feed.ensures.ok c.in_ok-feed.ensures.told) (map frame_of frames.items) n) c.read_piece.ensures.read

pub returns-clause-ended : goal.returns-clause-ended
returns-clause-ended g c =
    IfErr-weaker c.read_piece.result _ _ (λ end n. end_from (g.S.Source.remaining c.args.source.now) (g.S.Source.remaining c.read_piece.new.source) c.args.decoder.now c.feed.new.self c.read_piece.new.decoder (g.S.Source.counted c.args.source.now) (g.S.Source.counted c.read_piece.new.source) (idle c.args.decoder.now c.feed.new.self [] c.in_ok-feed.field-0.items c.requires.stream refl c.in_ok-feed.ensures.ok c.in_ok-feed.ensures.told) end n) c.read_piece.ensures.ended
