use Rattle.std.proofs.Common.{map, Ok, Err, refl, sym, subst, ◌∙◌}
use Rattle.dk_frame.specs.Meanings.{frame_of}
use Rattle.dk_pump.specs.declared.posting.Progress.TheVariants as progress
use Rattle.dk_pump.specs.Reading.{PostsFrames, ReadsTo}
use Rattle.dk_pump.proofs.ReadOn.{reading_first, reading_stream, pending_turn, reading_posted, reads_to_logout, reads_refused, reading_next, reads_to_end}
use Rattle.dk_pump.proofs.reading.read_frames.Goals as goal

pub pieces-init : goal.pieces-init
pieces-init g c = record { few = c.requires.greeted.few; number = refl; reading = reading_first g.W.Hosting.opened g.J.Naming.name.passes c.args.pass.now.number c.args.conn (map frame_of c.args.rest.items) (g.S.Source.remaining c.args.source.now) c.args.decoder.now (g.S.Source.counted c.args.source.now) c.args.pass.now.front }

pub post_frames-requires : goal.post_frames-requires
post_frames-requires g c = record { in_turn = pending_turn g.W.Hosting.opened g.J.Naming.name.passes c.args.pass.now.number c.args.conn (map frame_of c.args.rest.items) (g.S.Source.remaining c.args.source.now) (g.S.Source.remaining c.pieces.source) c.args.decoder.now c.pieces.decoder (g.S.Source.counted c.args.source.now) (g.S.Source.counted c.pieces.source) c.args.pass.now.front c.pieces.pass.front c.pieces.pass.front (map frame_of c.pieces.frames.items) c.requires.greeted c.pieces.invariant.reading }

pub returns-in-Ok-ToLogout-clause-reads : goal.returns-in-Ok-ToLogout-clause-reads
returns-in-Ok-ToLogout-clause-reads g c =
    reads_to_logout g.W.Hosting.opened g.J.Naming.name.passes c.args.pass.now.number c.args.conn (map frame_of c.args.rest.items) (g.S.Source.remaining c.args.source.now) (g.S.Source.remaining c.pieces.source) c.args.decoder.now c.pieces.decoder (g.S.Source.counted c.args.source.now) (g.S.Source.counted c.pieces.source) c.args.pass.now.front c.pieces.pass.front c.post_frames.new.pass.front (map frame_of c.pieces.frames.items) c.pieces.invariant.reading
    (subst (λ n. PostsFrames g.W.Hosting.opened g.J.Naming.name.passes n c.args.conn (map frame_of c.pieces.frames.items) (Ok progress.ToLogout) c.pieces.pass.front c.post_frames.new.pass.front) c.pieces.invariant.number (subst (λ x. PostsFrames g.W.Hosting.opened g.J.Naming.name.passes c.pieces.pass.number c.args.conn (map frame_of c.pieces.frames.items) (Ok x) c.pieces.pass.front c.post_frames.new.pass.front) c.in-Ok-ToLogout.field-0-is c.in-Ok-ToLogout.ensures.posts))

pub returns-in-Err-clause-reads : goal.returns-in-Err-clause-reads
returns-in-Err-clause-reads g c =
    subst (λ end. ReadsTo g.W.Hosting.opened g.J.Naming.name.passes c.args.pass.now.number c.args.conn end (map frame_of c.args.rest.items) (g.S.Source.remaining c.args.source.now) (g.S.Source.remaining c.pieces.source) c.args.decoder.now c.pieces.decoder (g.S.Source.counted c.args.source.now) (g.S.Source.counted c.pieces.source) c.args.pass.now.front c.post_frames.new.pass.front) (sym c.from.ensures)
    (reads_refused g.W.Hosting.opened g.J.Naming.name.passes c.args.pass.now.number c.args.conn (map frame_of c.args.rest.items) (g.S.Source.remaining c.args.source.now) (g.S.Source.remaining c.pieces.source) c.args.decoder.now c.pieces.decoder (g.S.Source.counted c.args.source.now) (g.S.Source.counted c.pieces.source) c.args.pass.now.front c.pieces.pass.front c.post_frames.new.pass.front (map frame_of c.pieces.frames.items) c.in-Err.refused c.pieces.invariant.reading (subst (λ n. PostsFrames g.W.Hosting.opened g.J.Naming.name.passes n c.args.conn (map frame_of c.pieces.frames.items) (Err c.in-Err.refused) c.pieces.pass.front c.post_frames.new.pass.front) c.pieces.invariant.number c.in-Err.ensures.posts))

pub next_frames-requires-clause-stream : goal.next_frames-requires-clause-stream
next_frames-requires-clause-stream g c = reading_stream g.W.Hosting.opened g.J.Naming.name.passes c.args.pass.now.number c.args.conn (map frame_of c.args.rest.items) (g.S.Source.remaining c.args.source.now) (g.S.Source.remaining c.pieces.source) c.args.decoder.now c.pieces.decoder (g.S.Source.counted c.args.source.now) (g.S.Source.counted c.pieces.source) c.args.pass.now.front c.pieces.pass.front c.pieces.pass.front (map frame_of c.pieces.frames.items) c.requires.greeted c.pieces.invariant.reading

pub returns-in-Err-next_frames-clause-reads : goal.returns-in-Err-next_frames-clause-reads
returns-in-Err-next_frames-clause-reads g c = reads_to_end g.W.Hosting.opened g.J.Naming.name.passes c.args.pass.now.number c.args.conn (map frame_of c.args.rest.items) (g.S.Source.remaining c.args.source.now) (g.S.Source.remaining c.pieces.source) (g.S.Source.remaining c.next_frames.new.source) c.args.decoder.now c.pieces.decoder c.next_frames.new.decoder (g.S.Source.counted c.args.source.now) (g.S.Source.counted c.pieces.source) (g.S.Source.counted c.next_frames.new.source) c.args.pass.now.front c.post_frames.new.pass.front (reading_posted g.W.Hosting.opened g.J.Naming.name.passes c.args.pass.now.number c.args.conn (map frame_of c.args.rest.items) (g.S.Source.remaining c.args.source.now) (g.S.Source.remaining c.pieces.source) c.args.decoder.now c.pieces.decoder (g.S.Source.counted c.args.source.now) (g.S.Source.counted c.pieces.source) c.args.pass.now.front c.pieces.pass.front c.post_frames.new.pass.front (map frame_of c.pieces.frames.items) c.pieces.invariant.reading (subst (λ n. PostsFrames g.W.Hosting.opened g.J.Naming.name.passes n c.args.conn (map frame_of c.pieces.frames.items) (Ok progress.All) c.pieces.pass.front c.post_frames.new.pass.front) c.pieces.invariant.number (subst (λ x. PostsFrames g.W.Hosting.opened g.J.Naming.name.passes c.pieces.pass.number c.args.conn (map frame_of c.pieces.frames.items) (Ok x) c.pieces.pass.front c.post_frames.new.pass.front) c.in-Ok-All.field-0-is c.in-Ok-All.ensures.posts))) c.in-Err-next_frames.end c.in-Err-next_frames.ensures.ended

pub pieces-preserved : goal.pieces-preserved
pieces-preserved g c = record {
  few = c.in-Ok.ensures.few;
  number = c.in-Ok-All.ensures.number ∙ c.pieces.invariant.number;
  reading = reading_next g.W.Hosting.opened g.J.Naming.name.passes c.args.pass.now.number c.args.conn (map frame_of c.args.rest.items) (g.S.Source.remaining c.args.source.now) (g.S.Source.remaining c.pieces.source) (g.S.Source.remaining c.next_frames.new.source) c.args.decoder.now c.pieces.decoder c.next_frames.new.decoder (g.S.Source.counted c.args.source.now) (g.S.Source.counted c.pieces.source) (g.S.Source.counted c.next_frames.new.source) c.args.pass.now.front c.post_frames.new.pass.front (reading_posted g.W.Hosting.opened g.J.Naming.name.passes c.args.pass.now.number c.args.conn (map frame_of c.args.rest.items) (g.S.Source.remaining c.args.source.now) (g.S.Source.remaining c.pieces.source) c.args.decoder.now c.pieces.decoder (g.S.Source.counted c.args.source.now) (g.S.Source.counted c.pieces.source) c.args.pass.now.front c.pieces.pass.front c.post_frames.new.pass.front (map frame_of c.pieces.frames.items) c.pieces.invariant.reading (subst (λ n. PostsFrames g.W.Hosting.opened g.J.Naming.name.passes n c.args.conn (map frame_of c.pieces.frames.items) (Ok progress.All) c.pieces.pass.front c.post_frames.new.pass.front) c.pieces.invariant.number (subst (λ x. PostsFrames g.W.Hosting.opened g.J.Naming.name.passes c.pieces.pass.number c.args.conn (map frame_of c.pieces.frames.items) (Ok x) c.pieces.pass.front c.post_frames.new.pass.front) c.in-Ok-All.field-0-is c.in-Ok-All.ensures.posts))) (map frame_of c.in-Ok.frames.items) c.in-Ok.ensures.read;
}
