use Rattle.std.proofs.Common.{◌≡◌, ap}
use Rattle.dk_types.specs.declared.side.Side.TheVariants.{Zero, One}
use Rattle.dk_command.specs.Requests.{Checks, Inspects}
use Rattle.darkstar.specs.Asked.{kind_of}
use Rattle.darkstar.specs.Reports.{bytes_of}
use Rattle.darkstar.specs.declared.report.Kind.TheVariants as kind
use Rattle.darkstar.proofs.ReportEnds.{report_done, report_torn, report_complete}
use Rattle.darkstar.proofs.report.Report.write.Goals as goal

pub returns-in-Check-clause-done : goal.returns-in-Check-clause-done
returns-in-Check-clause-done g c tells is =
    let past = g.M.Home.past c.args.home in
    let is_kind : c.args.self.kind ≡ kind.Check = cc (c.in-Check.is) in
    report_done c.args.self.kind Checks (ap kind_of is_kind) _ _ c.id_of-game.ensures (bytes_of past Zero) (bytes_of past One) {T = Unit {0}} c.status_of.result c.check-checked.result c.status_of.ensures (g.K.Sink.contents c.args.out.now) (g.K.Sink.contents c.check-checked.new.out) (c.check-checked.ensures.written tells) is

pub returns-in-Check-clause-torn : goal.returns-in-Check-clause-torn
returns-in-Check-clause-torn g c tells is =
    let past = g.M.Home.past c.args.home in
    let is_kind : c.args.self.kind ≡ kind.Check = cc (c.in-Check.is) in
    report_torn c.args.self.kind Checks (ap kind_of is_kind) _ _ c.id_of-game.ensures (bytes_of past Zero) (bytes_of past One) {T = Unit {0}} c.status_of.result c.check-checked.result c.status_of.ensures (g.K.Sink.contents c.args.out.now) (g.K.Sink.contents c.check-checked.new.out) (c.check-checked.ensures.torn tells) is

pub returns-in-Check-clause-complete : goal.returns-in-Check-clause-complete
returns-in-Check-clause-complete g c tells d has ours =
    let past = g.M.Home.past c.args.home in
    let is_kind : c.args.self.kind ≡ kind.Check = cc (c.in-Check.is) in
    report_complete c.args.self.kind Checks (ap kind_of is_kind) _ _ c.id_of-game.ensures (bytes_of past Zero) (bytes_of past One) {T = Unit {0}} c.status_of.result c.check-checked.result c.status_of.ensures (c.check-checked.ensures.accepted tells d has) ours

pub returns-clause-done : goal.returns-clause-done
returns-clause-done g c tells is =
    let past = g.M.Home.past c.args.home in
    let is_kind : c.args.self.kind ≡ kind.Inspect = cc (c.in-Inspect.is) in
    report_done c.args.self.kind Inspects (ap kind_of is_kind) _ _ c.id_of-game.ensures (bytes_of past Zero) (bytes_of past One) {T = Unit {0}} c.status_of-in-Inspect.result c.inspect-inspected.result c.status_of-in-Inspect.ensures (g.K.Sink.contents c.args.out.now) (g.K.Sink.contents c.inspect-inspected.new.out) (c.inspect-inspected.ensures.written tells) is

pub returns-clause-torn : goal.returns-clause-torn
returns-clause-torn g c tells is =
    let past = g.M.Home.past c.args.home in
    let is_kind : c.args.self.kind ≡ kind.Inspect = cc (c.in-Inspect.is) in
    report_torn c.args.self.kind Inspects (ap kind_of is_kind) _ _ c.id_of-game.ensures (bytes_of past Zero) (bytes_of past One) {T = Unit {0}} c.status_of-in-Inspect.result c.inspect-inspected.result c.status_of-in-Inspect.ensures (g.K.Sink.contents c.args.out.now) (g.K.Sink.contents c.inspect-inspected.new.out) (c.inspect-inspected.ensures.torn tells) is

pub returns-clause-complete : goal.returns-clause-complete
returns-clause-complete g c tells d has ours =
    let past = g.M.Home.past c.args.home in
    let is_kind : c.args.self.kind ≡ kind.Inspect = cc (c.in-Inspect.is) in
    report_complete c.args.self.kind Inspects (ap kind_of is_kind) _ _ c.id_of-game.ensures (bytes_of past Zero) (bytes_of past One) {T = Unit {0}} c.status_of-in-Inspect.result c.inspect-inspected.result c.status_of-in-Inspect.ensures (c.inspect-inspected.ensures.accepted tells d has) ours
