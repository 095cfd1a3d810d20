use Rattle.std.proofs.Common.{inl}
use Rattle.dk_reports.proofs.Reading.{stays_then_reads}
use Rattle.dk_recover.proofs.OnlyRead.{none_read}
use Rattle.darkstar.specs.Asked.{service_for}
use Rattle.darkstar.proofs.PlayAfter.{keeps_run_before, may_open_after}
use Rattle.darkstar.proofs.Serving.{serve_end_before}
use Rattle.darkstar.proofs.serve_command.Service.serve.Goals as goal

pub returns-in-Ok-clause-keeps : goal.returns-in-Ok-clause-keeps
returns-in-Ok-clause-keeps g c =
    keeps_run_before g.M.Home.tells (g.M.Home.past c.args.home) (g.M.Home.past c.open.new.self) (g.M.Home.past c.serve_game.result.home) c.open.ensures.time c.open.ensures.files (g.M.Home.counted c.args.home) c.faults-before.result (g.M.Home.counted c.serve_game.result.home) c.faults-before.ensures (service_for c.args.self)
    c.serve_game.result.status c.serve_game.ensures.keeps

pub returns-in-Ok-clause-end : goal.returns-in-Ok-clause-end
returns-in-Ok-clause-end g c =
    serve_end_before g.M.Home.tells (g.M.Home.past c.args.home) (g.M.Home.past c.open.new.self) (g.M.Home.past c.serve_game.result.home) c.open.ensures.time c.open.ensures.files (g.M.Home.counted c.args.home) c.faults-before.result (g.M.Home.counted c.serve_game.result.home) c.faults-before.ensures (service_for c.args.self)
    c.serve_game.result.status c.serve_game.ensures.end

pub returns-in-Ok-clause-complete : goal.returns-in-Ok-clause-complete
returns-in-Ok-clause-complete g c told d may =
    c.serve_game.ensures.complete told d (may_open_after g.M.Home.tells (g.M.Home.past c.args.home) (g.M.Home.past c.open.new.self) (g.M.Home.past c.serve_game.result.home) c.open.ensures.time c.open.ensures.files (service_for c.args.self) d told may)

pub returns-in-Err-clause-keeps : goal.returns-in-Err-clause-keeps
returns-in-Err-clause-keeps g c =
    inl (λ told. stays_then_reads (g.M.Home.past c.args.home) (g.M.Home.past c.open.new.self) (g.M.Home.past c.open.new.self) (c.open.ensures.time told) (c.open.ensures.files told) (none_read (g.M.Home.past c.open.new.self)))
