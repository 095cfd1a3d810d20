use Rattle.std.proofs.Common.{List, [], ◌∷◌, None, map, sym, subst}
use Rattle.dk_frame.specs.Meanings.{frame_of}
use Rattle.dk_model.specs.Frames.{Frame, Login}
use Rattle.dk_pump.specs.declared.ends.SessionEnd.{SessionEnd}
use Rattle.dk_pump.specs.Sessions.{EndsReading, GoesOn, IsMidst}
use Rattle.dk_pump.proofs.Connected.{first_is}
use Rattle.dk_pump.proofs.Midst.{first_in_turn, midst_on, only_login}
use Rattle.dk_pump.proofs.Steps.{connects, refuses}
use Rattle.dk_pump.proofs.session.Session.log_in.Goals as goal

pub unreachable-requires : goal.unreachable-requires
unreachable-requires g c =
    let s = c.args.self.now in
    only_login c.args.frames.items c.remove.result c.requires.some c.remove.ensures.value (first_in_turn g.W.Hosting.opened g.W.Hosting.keeps g.J.Naming.name.passes s.pass s.link s.course (map frame_of c.args.frames.items) c.requires.new c.requires.reads c.requires.midst) c.in_default.not-Login

pub post-requires-clause-midst : goal.post-requires-clause-midst
post-requires-clause-midst g c =
    let s = c.args.self.now in
    let rest = map frame_of c.remove.new.self.items in
    let name = c.in-Login.name in
    let goes = connects g.W.Hosting.opened g.W.Hosting.keeps g.J.Naming.name.passes s.pass c.connect.new.pass s.link s.course c.in-Ok.conn name rest c.requires.new c.requires.reads c.in-Ok.ensures.number c.in-Ok.ensures.entered c.in-Ok.ensures.named in
    midst_on g.W.Hosting.opened g.W.Hosting.keeps g.J.Naming.name.passes s.pass c.connect.new.pass s.link s.link s.course _ (Login name ∷ rest) rest goes
    (subst (IsMidst g.W.Hosting.opened g.W.Hosting.keeps g.J.Naming.name.passes s.pass s.link s.course) (first_is c.args.frames.items c.remove.result name c.remove.new.self.items c.requires.some c.remove.ensures.value c.remove.ensures.items c.in-Login.is) c.requires.midst)

pub returns-in-Ok-clause-goes : goal.returns-in-Ok-clause-goes
returns-in-Ok-clause-goes g c =
    let s = c.args.self.now in
    let rest = map frame_of c.remove.new.self.items in
    let name = c.in-Login.name in
    let last = c.post.new.self in
    subst (λ l. GoesOn g.W.Hosting.opened g.W.Hosting.keeps g.J.Naming.name.passes s.pass s.link s.course (map frame_of c.args.frames.items) last.pass l last.course []) (sym c.belong_to.ensures)
    (subst (λ (fs : List Frame). GoesOn g.W.Hosting.opened g.W.Hosting.keeps g.J.Naming.name.passes s.pass s.link s.course fs last.pass last.link last.course [])
    (sym (first_is c.args.frames.items c.remove.result name c.remove.new.self.items c.requires.some c.remove.ensures.value c.remove.ensures.items c.in-Login.is))
    (λ began given session. c.post.ensures.goes began given (connects g.W.Hosting.opened g.W.Hosting.keeps g.J.Naming.name.passes s.pass c.connect.new.pass s.link s.course c.in-Ok.conn name rest c.requires.new c.requires.reads c.in-Ok.ensures.number c.in-Ok.ensures.entered c.in-Ok.ensures.named began given session)))

pub returns-in-Err-clause-goes : goal.returns-in-Err-clause-goes
returns-in-Err-clause-goes g c =
    let s = c.args.self.now in
    let rest = map frame_of c.remove.new.self.items in
    let name = c.in-Login.name in
    let last = c.end_reading.new.self in
    subst (λ (fs : List Frame). GoesOn g.W.Hosting.opened g.W.Hosting.keeps g.J.Naming.name.passes s.pass s.link s.course fs last.pass last.link last.course [])
    (sym (first_is c.args.frames.items c.remove.result name c.remove.new.self.items c.requires.some c.remove.ensures.value c.remove.ensures.items c.in-Login.is))
    (subst (λ l. GoesOn g.W.Hosting.opened g.W.Hosting.keeps g.J.Naming.name.passes s.pass s.link s.course (Login name ∷ rest) last.pass l last.course []) (sym c.end_reading.ensures.link)
    (refuses g.W.Hosting.opened g.W.Hosting.keeps g.J.Naming.name.passes s.pass c.connect.new.pass last.pass s.link s.course last.course c.in-Err.refused name rest c.requires.new c.requires.reads c.in-Err.ensures.number c.in-Err.ensures.entered c.in-Err.ensures.named
    (subst (λ (end : SessionEnd). EndsReading g.W.Hosting.opened g.W.Hosting.keeps g.J.Naming.name.passes None end c.connect.new.pass s.course last.pass last.course) c.from.ensures
    (subst (λ k. EndsReading g.W.Hosting.opened g.W.Hosting.keeps g.J.Naming.name.passes k c.from.result c.connect.new.pass s.course last.pass last.course) c.requires.new c.end_reading.ensures.ends))))
