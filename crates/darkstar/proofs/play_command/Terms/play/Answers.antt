use Rattle.std.proofs.Common.{◌∙◌, sym, subst}
use Rattle.std.specs.Io.KnownBytes.{Appends}
use Rattle.dk_edge.specs.Streams.{AppendsPrefix}
use Rattle.darkstar.specs.Asked.{terms_for}
use Rattle.darkstar.specs.Statuses.{ComesForBadLine, IsOkOrLimit}
use Rattle.dk_status.specs.declared.status.Status.{Status}
use Rattle.dk_status.specs.declared.status.Status.TheVariants as status
use Rattle.std.specs.Prelude.{IfSome}
use Rattle.dk_model.specs.Scripts.{IsBadLine}
use Rattle.darkstar.proofs.PlayAfter.{begun_before, end_before, keeps_run_before, may_open_after, written_before}
use Rattle.darkstar.proofs.ReadEnds.{never_told, unread_limit, unread_told}
use Rattle.darkstar.proofs.Told.{told_read}
use Rattle.darkstar.proofs.play_command.Terms.play.Goals as goal

pub returns-in-Err-clause-complete : goal.returns-in-Err-clause-complete
returns-in-Err-clause-complete g c told playable d may other =
    let e = c.unread_status.ensures in
    subst IsOkOrLimit (sym e) (unread_limit (g.S.Source.remaining c.args.input.now) (g.S.Source.remaining c.read_script.new.input) c.in-Err.refused c.in-Err.ensures.bad_line playable (λ is. other (e ∙ is)))

pub returns-in-Err-clause-told_line : goal.returns-in-Err-clause-told_line
returns-in-Err-clause-told_line g c line =
    let left = g.S.Source.remaining c.args.input.now in
    let told = unread_told left (g.S.Source.remaining c.read_script.new.input) line c.in-Err.refused c.in-Err.ensures.bad_line in
    subst (λ (s : Status). IfSome left (λ bytes. IsBadLine bytes line → ComesForBadLine line s)) (sym c.unread_status.ensures) told

pub returns-in-Ok-open-clause-done : goal.returns-in-Ok-open-clause-done
returns-in-Ok-open-clause-done g c ok = record {
  script = c.in-Ok.script.phases;
  read = c.in-Ok.ensures.ok;
  played = written_before g.M.Home.tells (g.M.Home.past c.args.home) (g.M.Home.past c.open.new.self) (g.M.Home.past c.play_game.result.home) c.open.ensures.time c.open.ensures.files (g.M.Home.counted c.args.home) c.faults-before.result (g.M.Home.counted c.play_game.result.home) c.faults-before.ensures (terms_for c.args.self)
      Appends c.play_game.result.status c.in-Ok.script.phases (g.K.Sink.contents c.args.out.now) (g.K.Sink.contents c.play_game.new.out) (c.play_game.ensures.done ok);
}

pub returns-in-Ok-open-clause-torn : goal.returns-in-Ok-open-clause-torn
returns-in-Ok-open-clause-torn g c torn = record {
  script = c.in-Ok.script.phases;
  read = c.in-Ok.ensures.ok;
  played = written_before g.M.Home.tells (g.M.Home.past c.args.home) (g.M.Home.past c.open.new.self) (g.M.Home.past c.play_game.result.home) c.open.ensures.time c.open.ensures.files (g.M.Home.counted c.args.home) c.faults-before.result (g.M.Home.counted c.play_game.result.home) c.faults-before.ensures (terms_for c.args.self)
      AppendsPrefix c.play_game.result.status c.in-Ok.script.phases (g.K.Sink.contents c.args.out.now) (g.K.Sink.contents c.play_game.new.out) (c.play_game.ensures.torn torn);
}

pub returns-in-Ok-open-clause-keeps : goal.returns-in-Ok-open-clause-keeps
returns-in-Ok-open-clause-keeps g c =
    keeps_run_before g.M.Home.tells (g.M.Home.past c.args.home) (g.M.Home.past c.open.new.self) (g.M.Home.past c.play_game.result.home) c.open.ensures.time c.open.ensures.files (g.M.Home.counted c.args.home) c.faults-before.result (g.M.Home.counted c.play_game.result.home) c.faults-before.ensures (terms_for c.args.self)
    c.play_game.result.status c.play_game.ensures.keeps

pub returns-in-Ok-open-clause-begun : goal.returns-in-Ok-open-clause-begun
returns-in-Ok-open-clause-begun g c =
    begun_before g.M.Home.tells (g.M.Home.past c.args.home) (g.M.Home.past c.open.new.self) (g.M.Home.past c.play_game.result.home) c.open.ensures.time c.open.ensures.files (g.M.Home.counted c.args.home) c.faults-before.result (g.M.Home.counted c.play_game.result.home) c.faults-before.ensures (terms_for c.args.self)
    c.play_game.result.status c.in-Ok.script.phases (g.S.Source.remaining c.args.input.now) (g.S.Source.remaining c.read_script.new.input) c.in-Ok.ensures.ok c.play_game.ensures.begun

pub returns-in-Ok-open-clause-end : goal.returns-in-Ok-open-clause-end
returns-in-Ok-open-clause-end g c =
    end_before g.M.Home.tells (g.M.Home.past c.args.home) (g.M.Home.past c.open.new.self) (g.M.Home.past c.play_game.result.home) c.open.ensures.time c.open.ensures.files (g.M.Home.counted c.args.home) c.faults-before.result (g.M.Home.counted c.play_game.result.home) c.faults-before.ensures (terms_for c.args.self)
    c.play_game.result.status c.play_game.ensures.end

pub returns-in-Ok-open-clause-complete : goal.returns-in-Ok-open-clause-complete
returns-in-Ok-open-clause-complete g c told playable d may other =
    c.play_game.ensures.complete told d (may_open_after g.M.Home.tells (g.M.Home.past c.args.home) (g.M.Home.past c.open.new.self) (g.M.Home.past c.play_game.result.home) c.open.ensures.time c.open.ensures.files (terms_for c.args.self) d told may)

pub returns-in-Ok-open-clause-told_line : goal.returns-in-Ok-open-clause-told_line
returns-in-Ok-open-clause-told_line g c line =
    never_told (g.S.Source.remaining c.args.input.now) line (ComesForBadLine line c.play_game.result.status) (told_read (g.S.Source.remaining c.args.input.now) (g.S.Source.remaining c.read_script.new.input) c.in-Ok.script.phases line c.in-Ok.ensures.ok)

pub returns-clause-told_line : goal.returns-clause-told_line
returns-clause-told_line g c line =
    never_told (g.S.Source.remaining c.args.input.now) line (ComesForBadLine line status.DiskFault) (told_read (g.S.Source.remaining c.args.input.now) (g.S.Source.remaining c.read_script.new.input) c.in-Ok.script.phases line c.in-Ok.ensures.ok)
