use Rattle.dk_pump.proofs.Numbered.{ended_sound}
use Rattle.dk_pump.proofs.done.SessionDone.end.Goals as goal

pub returns-clause-sound : goal.returns-clause-sound
returns-clause-sound g c =
    let s = c.self.inside in
    ended_sound g.W.Hosting.opened g.W.Hosting.keeps g.J.Naming.name.passes (record { end = s.end; write = s.write; began = s.began.value; given = s.given.value; pass = s.pass; link = s.link }) c.self.invariant
