use Rattle.std.proofs.Common.{map, subst}
use Rattle.dk_frame.specs.Meanings.{frame_of}
use Rattle.dk_pump.specs.Reading.{IsClosed}
use Rattle.dk_pump.proofs.ReadOn.{reads_session}
use Rattle.dk_pump.proofs.reading.read_session.Goals as goal

pub returns-clause-reads : goal.returns-clause-reads
returns-clause-reads g c =
    reads_session g.W.Hosting.opened g.J.Naming.name.passes c.args.pass.now.number c.args.greeted.conn (map frame_of c.args.greeted.rest.items) c.read_frames-end.result (g.S.Source.remaining c.args.source.now) (g.S.Source.remaining c.read_frames-end.new.source) c.args.decoder.now c.read_frames-end.new.decoder
    (g.S.Source.counted c.args.source.now) (g.S.Source.counted c.read_frames-end.new.source) c.args.pass.now.front c.read_frames-end.new.pass.front c.close.new.pass.front c.read_frames-end.ensures.reads
    (subst (λ n. IsClosed g.W.Hosting.opened g.W.Hosting.keeps g.J.Naming.name.passes n c.args.greeted.conn c.read_frames-end.result c.read_frames-end.new.pass.front c.close.new.pass.front) c.read_frames-end.ensures.number c.close.ensures.closed)
