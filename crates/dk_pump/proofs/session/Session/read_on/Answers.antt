use Rattle.std.proofs.Common.{◌≡◌, [], None, map, sym, subst}
use Rattle.dk_frame.specs.Meanings.{frame_of}
use Rattle.dk_pump.specs.Sessions.{GoesOn}
use Rattle.dk_pump.specs.Waiting.{IsLater}
use Rattle.dk_pump.proofs.Later.{later_by_end, later_then, later_on_link}
use Rattle.dk_pump.proofs.Midst.{midst_few, midst_on, midst_stream, not_ended}
use Rattle.dk_pump.proofs.PutParts.{Polled}
use Rattle.dk_pump.proofs.Steps.{ends_reading, takes_piece}
use Rattle.dk_pump.proofs.session.Session.read_on.Goals as goal

pub poll_frames-requires-clause-stream : goal.poll_frames-requires-clause-stream
poll_frames-requires-clause-stream g c = midst_stream g.W.Hosting.opened g.W.Hosting.keeps g.J.Naming.name.passes c.args.self.now.pass c.args.self.now.link c.args.self.now.course [] c.requires.midst

pub poll_frames-requires-clause-few : goal.poll_frames-requires-clause-few
poll_frames-requires-clause-few g c = midst_few g.W.Hosting.opened g.W.Hosting.keeps g.J.Naming.name.passes c.args.self.now.pass c.args.self.now.link c.args.self.now.course [] c.requires.midst

pub take_in-requires-clause-midst : goal.take_in-requires-clause-midst
take_in-requires-clause-midst g c =
    let s = c.args.self.now in
    let none : s.course.end ≡ None = not_ended s.course.end c.is_some.result c.is_some.ensures c.if-is_some.false in
    let frames = map frame_of c.in-Ready-Ok.frames.items in
    midst_on g.W.Hosting.opened g.W.Hosting.keeps g.J.Naming.name.passes s.pass s.pass s.link c.poll_frames.new.link s.course _ [] frames
    (takes_piece g.W.Hosting.opened g.W.Hosting.keeps g.J.Naming.name.passes s.pass s.link c.poll_frames.new.link s.course c.poll_frames.new.decoder frames none c.in-Ready-Ok.ensures.few (subst (Polled s.link.left c.poll_frames.new.link.left s.course.decoder c.poll_frames.new.decoder s.link.take_counted c.poll_frames.new.link.take_counted) c.in-Ready-Ok.field-0-is c.in-Ready-Ok.ensures.ready) c.in-Ready-Ok.ensures.put) c.requires.midst

pub returns-in-Ready-Ok-clause-goes : goal.returns-in-Ready-Ok-clause-goes
returns-in-Ready-Ok-clause-goes g c = λ began given session.
    let s = c.args.self.now in
    let none : s.course.end ≡ None = not_ended s.course.end c.is_some.result c.is_some.ensures c.if-is_some.false in
    c.take_in.ensures.goes began given (takes_piece g.W.Hosting.opened g.W.Hosting.keeps g.J.Naming.name.passes s.pass s.link c.poll_frames.new.link s.course c.poll_frames.new.decoder (map frame_of c.in-Ready-Ok.frames.items) none c.in-Ready-Ok.ensures.few (subst (Polled s.link.left c.poll_frames.new.link.left s.course.decoder c.poll_frames.new.decoder s.link.take_counted c.poll_frames.new.link.take_counted) c.in-Ready-Ok.field-0-is c.in-Ready-Ok.ensures.ready) c.in-Ready-Ok.ensures.put began given session)

pub returns-in-Ready-Ok-clause-later : goal.returns-in-Ready-Ok-clause-later
returns-in-Ready-Ok-clause-later g c =
    let s = c.args.self.now in
    later_then s.pass s.pass c.take_in.new.self.pass s.link c.poll_frames.new.link c.take_in.new.self.link (later_on_link s.pass s.link c.poll_frames.new.link c.in-Ready-Ok.ensures.counted c.in-Ready-Ok.ensures.put) c.take_in.ensures.later

pub returns-in-Ready-Err-clause-goes : goal.returns-in-Ready-Err-clause-goes
returns-in-Ready-Err-clause-goes g c =
    let s = c.args.self.now in
    let none : s.course.end ≡ None = not_ended s.course.end c.is_some.result c.is_some.ensures c.if-is_some.false in
    subst (λ l. GoesOn g.W.Hosting.opened g.W.Hosting.keeps g.J.Naming.name.passes s.pass s.link s.course [] c.end_reading.new.self.pass l c.end_reading.new.self.course []) (sym c.end_reading.ensures.link)
    (ends_reading g.W.Hosting.opened g.W.Hosting.keeps g.J.Naming.name.passes s.pass c.end_reading.new.self.pass s.link c.poll_frames.new.link s.course c.end_reading.new.self.course c.poll_frames.new.decoder c.in-Ready-Err.end none c.in-Ready-Err.ensures.few (subst (Polled s.link.left c.poll_frames.new.link.left s.course.decoder c.poll_frames.new.decoder s.link.take_counted c.poll_frames.new.link.take_counted) c.in-Ready-Err.field-0-is c.in-Ready-Err.ensures.ready) c.in-Ready-Err.ensures.put c.end_reading.ensures.ends)

pub returns-in-Ready-Err-clause-later : goal.returns-in-Ready-Err-clause-later
returns-in-Ready-Err-clause-later g c =
    let s = c.args.self.now in
    let at = c.poll_frames.new.link in
    subst (λ l. IsLater s.pass s.link c.end_reading.new.self.pass l) (sym c.end_reading.ensures.link)
    (later_then s.pass s.pass c.end_reading.new.self.pass s.link at at (later_on_link s.pass s.link at c.in-Ready-Err.ensures.counted c.in-Ready-Err.ensures.put)
    (later_by_end g.W.Hosting.opened g.W.Hosting.keeps g.J.Naming.name.passes s.course.conn c.in-Ready-Err.end s.pass c.end_reading.new.self.pass _ c.end_reading.new.self.course at c.end_reading.ensures.ends))

pub returns-in-Pending-clause-goes : goal.returns-in-Pending-clause-goes
returns-in-Pending-clause-goes g c =
    let s = c.args.self.now in
    let none : s.course.end ≡ None = not_ended s.course.end c.is_some.result c.is_some.ensures c.if-is_some.false in
    takes_piece g.W.Hosting.opened g.W.Hosting.keeps g.J.Naming.name.passes s.pass s.link c.poll_frames.new.link s.course c.poll_frames.new.decoder [] none c.in-Pending.ensures.few c.in-Pending.ensures.pending c.in-Pending.ensures.put
