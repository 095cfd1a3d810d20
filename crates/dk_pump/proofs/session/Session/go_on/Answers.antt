use Rattle.std.proofs.Common.{◌≡◌, [], IsSome, subst, ◌∙◌}
use Rattle.futures.specs.declared.task.Poll.TheVariants.{Pending}
use Rattle.dk_pump.specs.Waiting.{IsStill}
use Rattle.dk_pump.proofs.Later.{armed_of, later_then, may_wait}
use Rattle.dk_pump.proofs.Midst.{midst_on, midst_over, midst_there}
use Rattle.dk_pump.proofs.PutParts.{on_pending}
use Rattle.dk_pump.proofs.session.Session.go_on.Goals as goal

pub unreachable-requires : goal.unreachable-requires
unreachable-requires g c = midst_over g.W.Hosting.opened g.W.Hosting.keeps g.J.Naming.name.passes c.loop.self.pass c.loop.self.link c.loop.self.course c.in-Some-write.write c.in-Some-write.is c.in_default-end.is c.loop.invariant.midst

pub read_on-read-requires : goal.read_on-read-requires
read_on-read-requires g c =
    let at = c.loop.self in
    let wrote = c.write_on-wrote.new.self in
    record { midst = midst_on g.W.Hosting.opened g.W.Hosting.keeps g.J.Naming.name.passes at.pass wrote.pass at.link wrote.link at.course wrote.course [] [] c.write_on-wrote.ensures.goes c.loop.invariant.midst }

pub returns-then-is_pending-2-clause-waits : goal.returns-then-is_pending-2-clause-waits
returns-then-is_pending-2-clause-waits g c =
    let s = c.args.self.now in
    let at = c.loop.self in
    let wrote = c.write_on-wrote.new.self in
    let read = c.read_on-read.new.self in
    let put : c.write_on-wrote.result ≡ Pending = c.is_pending.ensures.0 c.if-is_pending.true in
    let took : c.read_on-read.result ≡ Pending = c.is_pending-then-is_pending.ensures.0 c.if-is_pending-2.true in
    let still : IsStill at.course wrote.course = on_pending c.write_on-wrote.result _ put c.write_on-wrote.ensures.still in
    let kept : IsStill wrote.course read.course = on_pending c.read_on-read.result _ took c.read_on-read.ensures.still in
    let midst = midst_on g.W.Hosting.opened g.W.Hosting.keeps g.J.Naming.name.passes wrote.pass read.pass wrote.link read.link wrote.course read.course [] [] c.read_on-read.ensures.goes
    (midst_on g.W.Hosting.opened g.W.Hosting.keeps g.J.Naming.name.passes at.pass wrote.pass at.link wrote.link at.course wrote.course [] [] c.write_on-wrote.ensures.goes c.loop.invariant.midst) in
    may_wait g.W.Hosting.opened s.pass at.pass wrote.pass read.pass s.link at.link wrote.link read.link wrote.course read.course c.loop.invariant.later c.write_on-wrote.ensures.later c.read_on-read.ensures.later
    (on_pending c.write_on-wrote.result _ put c.write_on-wrote.ensures.waits) (on_pending c.read_on-read.result _ took c.read_on-read.ensures.waits) kept
    (midst_there g.W.Hosting.opened g.W.Hosting.keeps g.J.Naming.name.passes read.pass read.link read.course (kept.write ∙ still.write ∙ c.in_default.is) midst)

pub returns-then-is_pending-2-clause-armed : goal.returns-then-is_pending-2-clause-armed
returns-then-is_pending-2-clause-armed g c =
    let at = c.loop.self in
    let wrote = c.write_on-wrote.new.self in
    let read = c.read_on-read.new.self in
    let put : c.write_on-wrote.result ≡ Pending = c.is_pending.ensures.0 c.if-is_pending.true in
    let took : c.read_on-read.result ≡ Pending = c.is_pending-then-is_pending.ensures.0 c.if-is_pending-2.true in
    let still : IsStill at.course wrote.course = on_pending c.write_on-wrote.result _ put c.write_on-wrote.ensures.still in
    let kept : IsStill wrote.course read.course = on_pending c.read_on-read.result _ took c.read_on-read.ensures.still in
    let midst = midst_on g.W.Hosting.opened g.W.Hosting.keeps g.J.Naming.name.passes wrote.pass read.pass wrote.link read.link wrote.course read.course [] [] c.read_on-read.ensures.goes
    (midst_on g.W.Hosting.opened g.W.Hosting.keeps g.J.Naming.name.passes at.pass wrote.pass at.link wrote.link at.course wrote.course [] [] c.write_on-wrote.ensures.goes c.loop.invariant.midst) in
    armed_of read.course.end wrote.course.conn c.write_on-wrote.new.context c.read_on-read.new.context (on_pending c.read_on-read.result _ took c.read_on-read.ensures.armed) (on_pending c.write_on-wrote.result _ put c.write_on-wrote.ensures.armed) c.read_on-read.ensures.kept
    (λ ended. subst IsSome kept.conn (midst_there g.W.Hosting.opened g.W.Hosting.keeps g.J.Naming.name.passes read.pass read.link read.course (kept.write ∙ still.write ∙ c.in_default.is) midst ended))

pub loop-preserved : goal.loop-preserved
loop-preserved g c =
    let s = c.args.self.now in
    let at = c.loop.self in
    let wrote = c.write_on-wrote.new.self in
    let read = c.read_on-read.new.self in
    record {
      midst = midst_on g.W.Hosting.opened g.W.Hosting.keeps g.J.Naming.name.passes wrote.pass read.pass wrote.link read.link wrote.course read.course [] [] c.read_on-read.ensures.goes
          (midst_on g.W.Hosting.opened g.W.Hosting.keeps g.J.Naming.name.passes at.pass wrote.pass at.link wrote.link at.course wrote.course [] [] c.write_on-wrote.ensures.goes c.loop.invariant.midst);
      goes = λ began given session. c.read_on-read.ensures.goes began given (c.write_on-wrote.ensures.goes began given (c.loop.invariant.goes began given session));
      later = later_then s.pass at.pass read.pass s.link at.link read.link c.loop.invariant.later (later_then at.pass wrote.pass read.pass at.link wrote.link read.link c.write_on-wrote.ensures.later c.read_on-read.ensures.later);
      kept = λ fact held. c.read_on-read.ensures.kept fact (c.write_on-wrote.ensures.kept fact (c.loop.invariant.kept fact held));
    }
