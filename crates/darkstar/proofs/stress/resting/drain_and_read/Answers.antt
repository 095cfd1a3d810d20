use Rattle.std.proofs.lemmas.Result.{IfOk-weaker}
use Rattle.darkstar.specs.Tallies.{IsTallied, ReadsCounters}
use Rattle.darkstar.proofs.Resting.{tallied_by}
use Rattle.darkstar.proofs.stress.resting.drain_and_read.Goals as goal

pub returns-in-Ok-clause-tallied : goal.returns-in-Ok-clause-tallied
returns-in-Ok-clause-tallied g c =
    let o = g.W.Hosting.opened in
    let n = g.J.Naming.name.passes in
    let ws = c.args.workers.now in
    let after = c.drain.new.workers in
    let old = c.args.main.now in
    let mid = c.drain.new.main in
    let new = c.read_counters.new.pass in
    IfOk-weaker c.read_counters.result (λ counts. ReadsCounters o n 16 mid new counts.items) (λ counts. IsTallied o after new counts.items)
    (λ counts read. tallied_by o n ws after old mid c.requires.count c.requires.numbered c.requires.number c.requires.behind c.requires.fresh c.in-Ok.ensures.drains new counts.items read)
    c.read_counters.ensures
