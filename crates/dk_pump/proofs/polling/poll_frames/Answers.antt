use Rattle.std.proofs.Common.{◌≡◌, ◌+◌, ◌≤◌, [], map, refl, sym, subst, arith, rules}
use Rattle.std.proofs.Math.Logic.{∥∥₁_elim, ∥∥₁_map}
use Rattle.std.specs.Coded.{le_prop}
use Rattle.dk_frame.specs.Meanings.{frame_of}
use Rattle.dk_pump.specs.declared.ends.SessionEnd.{SessionEnd}
use Rattle.dk_pump.specs.Reading.{IsNextEnd}
use Rattle.dk_pump.proofs.Connected.{empty_is}
use Rattle.dk_pump.proofs.OnePiece.{idle_merely, idle_stream, fed_more, refused_fed, budget_end, piece_fits, refused_end}
use Rattle.dk_pump.proofs.PutParts.{polled_from, waited_from}
use Rattle.dk_pump.proofs.Streams.{consumes_none}
use Rattle.dk_pump.proofs.polling.poll_frames.Goals as goal

pub returns-in-Err-clause-ready : goal.returns-in-Err-clause-ready
returns-in-Err-clause-ready g c =
    let link = c.args.link.now in
    let d = c.args.decoder.now in
    subst (λ (end : SessionEnd). IsNextEnd end link.left link.left d c.feed.new.self link.take_counted link.take_counted) (sym c.from.ensures)
    (refused_end c.in-Err.refused link.left link.left d d c.feed.new.self [] link.take_counted link.take_counted (λ stream given s. s) (consumes_none link.left) c.in-Err.ensures.refused refl)

pub returns-in-Err-clause-few : goal.returns-in-Err-clause-few
returns-in-Err-clause-few g c =
    let few = c.requires.few in
    ∥∥₁_elim c.requires.stream le_prop (λ s. let more : c.feed.new.self.fed ≤ c.args.decoder.now.fed + 0 = refused_fed c.in-Err.refused c.args.decoder.now c.feed.new.self [] s c.in-Err.ensures.refused in omega (arith, more, few))

pub returns-then-not-is_empty-clause-few : goal.returns-then-not-is_empty-clause-few
returns-then-not-is_empty-clause-few g c =
    let few = c.requires.few in
    ∥∥₁_elim c.requires.stream le_prop (λ s. let more : c.feed.new.self.fed ≡ c.args.decoder.now.fed + 0 = fed_more c.args.decoder.now c.feed.new.self [] (map frame_of c.in-Ok.frames.items) s c.in-Ok.ensures.ok in omega (arith, more, few))

pub overflow_sub-left : goal.overflow_sub-left
overflow_sub-left g c =
    let none : c.in-Ok.frames.items ≡ [] = empty_is c.in-Ok.frames.items (search rules) in
    let same = (idle_merely c.args.decoder.now c.feed.new.self c.in-Ok.frames.items c.requires.stream none c.in-Ok.ensures.ok c.in-Ok.ensures.told).fed in
    let few = c.requires.few in
    let told = c.fed-left.ensures in
    omega (arith, same, few, told)

pub returns-then-left-eq0-clause-ready : goal.returns-then-left-eq0-clause-ready
returns-then-left-eq0-clause-ready g c =
    let link = c.args.link.now in
    let none : c.in-Ok.frames.items ≡ [] = empty_is c.in-Ok.frames.items (search rules) in
    let i = idle_merely c.args.decoder.now c.feed.new.self c.in-Ok.frames.items c.requires.stream none c.in-Ok.ensures.ok c.in-Ok.ensures.told in
    let same = i.fed in
    let few = c.requires.few in
    let told = c.fed-left.ensures in
    let spent = c.if-left-eq0.true in
    budget_end link.left link.left c.args.decoder.now c.feed.new.self link.take_counted link.take_counted i (omega (arith, same, few, told, spent)) refl refl

pub returns-then-left-eq0-clause-few : goal.returns-then-left-eq0-clause-few
returns-then-left-eq0-clause-few g c =
    let none : c.in-Ok.frames.items ≡ [] = empty_is c.in-Ok.frames.items (search rules) in
    let same = (idle_merely c.args.decoder.now c.feed.new.self c.in-Ok.frames.items c.requires.stream none c.in-Ok.ensures.ok c.in-Ok.ensures.told).fed in
    let few = c.requires.few in
    omega (arith, same, few)

pub poll_piece-requires-clause-stream : goal.poll_piece-requires-clause-stream
poll_piece-requires-clause-stream g c =
    let none : c.in-Ok.frames.items ≡ [] = empty_is c.in-Ok.frames.items (search rules) in
    let i = idle_merely c.args.decoder.now c.feed.new.self c.in-Ok.frames.items c.requires.stream none c.in-Ok.ensures.ok c.in-Ok.ensures.told in
    ∥∥₁_map c.requires.stream (idle_stream c.args.decoder.now c.feed.new.self i)

pub poll_piece-requires-clause-few : goal.poll_piece-requires-clause-few
poll_piece-requires-clause-few g c =
    let none : c.in-Ok.frames.items ≡ [] = empty_is c.in-Ok.frames.items (search rules) in
    let same = (idle_merely c.args.decoder.now c.feed.new.self c.in-Ok.frames.items c.requires.stream none c.in-Ok.ensures.ok c.in-Ok.ensures.told).fed in
    let few = c.requires.few in
    let told = c.fed-left.ensures in
    let room = c.min-room.ensures in
    piece_fits _ c.min-room.result _ (omega (arith, same, few, told, room))

pub returns-clause-ready : goal.returns-clause-ready
returns-clause-ready g c =
    let link = c.args.link.now in
    let new = c.poll_piece.new.link in
    let none : c.in-Ok.frames.items ≡ [] = empty_is c.in-Ok.frames.items (search rules) in
    let i = idle_merely c.args.decoder.now c.feed.new.self c.in-Ok.frames.items c.requires.stream none c.in-Ok.ensures.ok c.in-Ok.ensures.told in
    polled_from link.left new.left c.args.decoder.now c.feed.new.self c.poll_piece.new.decoder link.take_counted new.take_counted i c.poll_piece.result c.poll_piece.ensures.ready

pub returns-clause-pending : goal.returns-clause-pending
returns-clause-pending g c =
    let link = c.args.link.now in
    let new = c.poll_piece.new.link in
    let none : c.in-Ok.frames.items ≡ [] = empty_is c.in-Ok.frames.items (search rules) in
    let i = idle_merely c.args.decoder.now c.feed.new.self c.in-Ok.frames.items c.requires.stream none c.in-Ok.ensures.ok c.in-Ok.ensures.told in
    waited_from link.left new.left c.args.decoder.now c.feed.new.self c.poll_piece.new.decoder link.take_counted new.take_counted i c.poll_piece.result c.poll_piece.ensures.pending
