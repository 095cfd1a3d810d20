use Rattle.std.proofs.Common.{map, sym, subst}
use Rattle.dk_frame.specs.Meanings.{frame_of}
use Rattle.dk_pump.specs.Ends.{end_of_connect}
use Rattle.dk_pump.specs.Reading.{Greets}
use Rattle.dk_pump.proofs.Ended.{err_is}
use Rattle.dk_pump.proofs.Connected.{greets_end, greets, greets_refused, first_is}
use Rattle.dk_pump.proofs.greeting.greet.Goals as goal

pub returns-in_err-frames-clause-greets : goal.returns-in_err-frames-clause-greets
returns-in_err-frames-clause-greets g c =
    subst (λ r. Greets g.W.Hosting.opened g.J.Naming.name.passes c.args.pass.now.number r (g.S.Source.remaining c.args.source.now) (g.S.Source.remaining c.first_frames.new.source) c.first_frames.new.decoder (g.S.Source.counted c.args.source.now) (g.S.Source.counted c.first_frames.new.source) c.args.pass.now.front c.args.pass.now.front)
    (sym (err_is c.from_residual.result c.in_err-frames.field-0.0 c.from_residual.ensures.1))
    (greets_end g.W.Hosting.opened g.J.Naming.name.passes c.args.pass.now.number (g.S.Source.remaining c.args.source.now) (g.S.Source.remaining c.first_frames.new.source) c.first_frames.new.decoder (g.S.Source.counted c.args.source.now) (g.S.Source.counted c.first_frames.new.source) c.in_err-frames.field-0.0 c.args.pass.now.front c.in_err-frames.ensures.ended c.in_err-frames.ensures.few)

pub returns-in_err-conn-clause-greets : goal.returns-in_err-conn-clause-greets
returns-in_err-conn-clause-greets g c =
    subst (λ r. Greets g.W.Hosting.opened g.J.Naming.name.passes c.args.pass.now.number r (g.S.Source.remaining c.args.source.now) (g.S.Source.remaining c.first_frames.new.source) c.first_frames.new.decoder (g.S.Source.counted c.args.source.now) (g.S.Source.counted c.first_frames.new.source) c.args.pass.now.front c.connect.new.pass.front)
    (sym (err_is c.from_residual-in_err-conn.result (end_of_connect c.in_err-conn.field-0.0) c.from_residual-in_err-conn.ensures.1))
    (greets_refused g.W.Hosting.opened g.J.Naming.name.passes c.args.pass.now.number (g.S.Source.remaining c.args.source.now) (g.S.Source.remaining c.first_frames.new.source) c.first_frames.new.decoder (g.S.Source.counted c.args.source.now) (g.S.Source.counted c.first_frames.new.source) c.in-Login.name (map frame_of c.in_ok-frames.frames.items) c.in_ok-frames.ensures.read c.in_ok-frames.ensures.few c.args.pass.now.front c.connect.new.pass.front c.in_err-conn.ensures.named (map frame_of c.remove.new.self.items) c.in_err-conn.field-0.0
    (first_is c.in_ok-frames.frames.items c.remove.result c.in-Login.name c.remove.new.self.items c.in_ok-frames.ensures.some c.remove.ensures.value c.remove.ensures.items c.in-Login.is) c.in_err-conn.ensures.entered)

pub returns-clause-greets : goal.returns-clause-greets
returns-clause-greets g c =
    greets g.W.Hosting.opened g.J.Naming.name.passes c.args.pass.now.number (g.S.Source.remaining c.args.source.now) (g.S.Source.remaining c.first_frames.new.source) c.first_frames.new.decoder (g.S.Source.counted c.args.source.now) (g.S.Source.counted c.first_frames.new.source) c.in-Login.name (map frame_of c.in_ok-frames.frames.items) c.in_ok-frames.ensures.read c.in_ok-frames.ensures.few c.args.pass.now.front c.connect.new.pass.front c.in_ok-conn.ensures.named (record { conn = c.in_ok-conn.conn; rest = c.remove.new.self })
    (first_is c.in_ok-frames.frames.items c.remove.result c.in-Login.name c.remove.new.self.items c.in_ok-frames.ensures.some c.remove.ensures.value c.remove.ensures.items c.in-Login.is) c.in_ok-conn.ensures.entered
