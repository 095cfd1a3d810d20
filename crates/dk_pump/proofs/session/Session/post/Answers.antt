use Rattle.std.proofs.Common.{[], Ok, Some, map, sym, subst}
use Rattle.dk_frame.specs.Meanings.{frame_of}
use Rattle.dk_pump.specs.declared.ends.SessionEnd.{SessionEnd}
use Rattle.dk_pump.specs.declared.ends.SessionEnd.TheVariants as ends
use Rattle.dk_pump.specs.Reading.{PostsFrames}
use Rattle.dk_pump.specs.Sessions.{EndsReading, GoesOn}
use Rattle.dk_pump.proofs.Midst.{pending_in_turn}
use Rattle.dk_pump.proofs.Steps.{posts_pending, posts_refused, posts_to_logout}
use Rattle.dk_pump.proofs.session.Session.post.Goals as goal

pub post_frames-requires : goal.post_frames-requires
post_frames-requires g c = record { in_turn = pending_in_turn g.W.Hosting.opened g.W.Hosting.keeps g.J.Naming.name.passes c.args.self.now.pass c.args.self.now.link c.args.self.now.course (map frame_of c.args.frames.items) c.args.conn c.requires.conn c.requires.reads c.requires.midst }

pub returns-in-Ok-All-clause-goes : goal.returns-in-Ok-All-clause-goes
returns-in-Ok-All-clause-goes g c =
    let s = c.args.self.now in
    let frames = map frame_of c.args.frames.items in
    posts_pending g.W.Hosting.opened g.W.Hosting.keeps g.J.Naming.name.passes s.pass c.post_frames.new.pass s.link s.course c.args.conn frames c.requires.conn c.requires.reads c.in-Ok-All.ensures.number
    (subst (λ x. PostsFrames g.W.Hosting.opened g.J.Naming.name.passes s.pass.number c.args.conn frames (Ok x) s.pass.front c.post_frames.new.pass.front) c.in-Ok-All.field-0-is c.in-Ok-All.ensures.posts)

pub returns-in-Ok-ToLogout-clause-goes : goal.returns-in-Ok-ToLogout-clause-goes
returns-in-Ok-ToLogout-clause-goes g c =
    let s = c.args.self.now in
    let frames = map frame_of c.args.frames.items in
    let last = c.end_reading.new.self in
    subst (λ l. GoesOn g.W.Hosting.opened g.W.Hosting.keeps g.J.Naming.name.passes s.pass s.link s.course frames last.pass l last.course []) (sym c.end_reading.ensures.link)
    (posts_to_logout g.W.Hosting.opened g.W.Hosting.keeps g.J.Naming.name.passes s.pass c.post_frames.new.pass last.pass s.link s.course last.course c.args.conn frames c.requires.conn c.requires.reads c.in-Ok-ToLogout.ensures.number
    (subst (λ x. PostsFrames g.W.Hosting.opened g.J.Naming.name.passes s.pass.number c.args.conn frames (Ok x) s.pass.front c.post_frames.new.pass.front) c.in-Ok-ToLogout.field-0-is c.in-Ok-ToLogout.ensures.posts)
    (subst (λ k. EndsReading g.W.Hosting.opened g.W.Hosting.keeps g.J.Naming.name.passes k ends.Logout c.post_frames.new.pass s.course last.pass last.course) c.requires.conn c.end_reading.ensures.ends))

pub returns-in-Err-clause-goes : goal.returns-in-Err-clause-goes
returns-in-Err-clause-goes g c =
    let s = c.args.self.now in
    let frames = map frame_of c.args.frames.items in
    let last = c.end_reading-in-Err.new.self in
    subst (λ l. GoesOn g.W.Hosting.opened g.W.Hosting.keeps g.J.Naming.name.passes s.pass s.link s.course frames last.pass l last.course []) (sym c.end_reading-in-Err.ensures.link)
    (posts_refused g.W.Hosting.opened g.W.Hosting.keeps g.J.Naming.name.passes s.pass c.post_frames.new.pass last.pass s.link s.course last.course c.args.conn frames c.in-Err.refused c.requires.conn c.requires.reads c.in-Err.ensures.number c.in-Err.ensures.posts
    (subst (λ (end : SessionEnd). EndsReading g.W.Hosting.opened g.W.Hosting.keeps g.J.Naming.name.passes (Some c.args.conn) end c.post_frames.new.pass s.course last.pass last.course) c.from.ensures
    (subst (λ k. EndsReading g.W.Hosting.opened g.W.Hosting.keeps g.J.Naming.name.passes k c.from.result c.post_frames.new.pass s.course last.pass last.course) c.requires.conn c.end_reading-in-Err.ensures.ends)))
