use Rattle.std.proofs.Common.{sym, subst, ◌∙◌}
use Rattle.dk_play_laws.proofs.Begun.{only_met, only_each, only_main, only_then}
use Rattle.dk_workers.specs.Drains.{Drains}
use Rattle.dk_workers.proofs.Draining.{drained_early, drained_by}
use Rattle.dk_workers.proofs.WorkedRuns.{works_on, work_all_on, work_all_caused}
use Rattle.dk_workers.proofs.play.drains.drain.Goals as goal

pub returns-in-Some-clause-drains : goal.returns-in-Some-clause-drains
returns-in-Some-clause-drains g c =
    let o = g.W.Hosting.opened in
    let n = g.J.Naming.name.passes in
    drained_early o n c.work_all-worked.result c.in-Some.fault c.args.workers.now c.work_all-worked.new.passes c.args.main.now c.meet_all.new.main (sym c.early_fault.ensures ∙ c.in-Some.is)
    (work_all_caused o n c.work_all-worked.result c.meet_all.new.workers c.work_all-worked.new.passes c.work_all-worked.ensures.work)

pub returns-clause-drains : goal.returns-clause-drains
returns-clause-drains g c =
    let o = g.W.Hosting.opened in
    let n = g.J.Naming.name.passes in
    subst (λ r. Drains o n r c.args.workers.now c.meet_all-2.new.workers c.args.main.now c.work.new.pass) (sym c.end_of.ensures)
    (drained_by o n c.args.workers.now c.meet_all.new.workers c.work_all-worked.new.passes c.meet_all-2.new.workers c.args.main.now c.meet_all.new.main c.meet_all-2.new.main c.work.new.pass
    c.meet_all.ensures (work_all_on o n c.work_all-worked.result c.meet_all.new.workers c.work_all-worked.new.passes c.work_all-worked.ensures.work) c.meet_all-2.ensures c.work.result c.work.ensures.works)

pub returns-in-Some-clause-only : goal.returns-in-Some-clause-only
returns-in-Some-clause-only g c =
    let o = g.W.Hosting.opened in
    let n = g.J.Naming.name.passes in
    let ws = c.args.workers.now in
    let begun = c.meet_all.new.workers in
    let ended = c.work_all-worked.new.passes in
    let main = c.meet_all.new.main in
    only_then ws begun ended c.args.main.now main main (only_met ws begun c.args.main.now main c.meet_all.ensures)
    (only_each begun ended main (work_all_on o n c.work_all-worked.result begun ended c.work_all-worked.ensures.work))

pub returns-clause-only : goal.returns-clause-only
returns-clause-only g c =
    let o = g.W.Hosting.opened in
    let n = g.J.Naming.name.passes in
    let ws = c.args.workers.now in
    let begun = c.meet_all.new.workers in
    let ended = c.work_all-worked.new.passes in
    let after = c.meet_all-2.new.workers in
    let main = c.meet_all.new.main in
    let met = c.meet_all-2.new.main in
    only_then ws begun after c.args.main.now main c.work.new.pass (only_met ws begun c.args.main.now main c.meet_all.ensures)
    (only_then begun ended after main main c.work.new.pass (only_each begun ended main (work_all_on o n c.work_all-worked.result begun ended c.work_all-worked.ensures.work))
    (only_then ended after after main met c.work.new.pass (only_met ended after main met c.meet_all-2.ensures) (only_main after met c.work.new.pass (works_on o n c.work.result met c.work.new.pass c.work.ensures.works))))
