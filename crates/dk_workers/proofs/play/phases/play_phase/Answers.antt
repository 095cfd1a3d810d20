use Rattle.std.proofs.Common.{[], OnErr, OnOk, subst}
use Rattle.std.proofs.lemmas.Result.{err_from_is_err_and, on_err_weaker}
use Rattle.dk_workers.specs.Lines.{BeginsHands, HandsAll}
use Rattle.dk_workers.specs.Logins.{said_of}
use Rattle.dk_workers.proofs.Beginnings.{on_err, mark_begun, phase_lines_begun, phase_drain_begun, phase_hands_begun}
use Rattle.dk_workers.proofs.Passing.{passes_one}
use Rattle.dk_workers.proofs.Playing.{one_played, drain_fault, hand_fault}
use Rattle.dk_workers.proofs.play.phases.play_phase.Goals as goal

pub returns-in_err-drain-clause-plays : goal.returns-in_err-drain-clause-plays
returns-in_err-drain-clause-plays g c =
    let o = g.W.Hosting.opened in
    let n = g.J.Naming.name.passes in
    let k = c.kept_count-mark in
    let p = err_from_is_err_and c.from_residual-in_err-drain.result c.from_residual-in_err-drain.ensures.1 in
    rw (p.1, p.2)
    (drain_fault o n c.args.lines.now (said_of c.args.logins.now) (said_of c.enter_all.new.logins) c.args.marks.now.items c.put_mark.new.marks.items k.result c.args.workers.now c.drain.new.workers c.args.main.now k.new.pass c.enter_all.new.pass c.drain.new.main
    (passes_one o n [] c.args.main.now k.new.pass k.ensures.number k.ensures.entered k.ensures.named) (k.ensures.count c.requires.keeps) c.in_ok-put_mark.ensures c.in_ok-enter_all.ensures.entered _ c.in_err-drain.ensures.drains)

pub returns-clause-plays : goal.returns-clause-plays
returns-clause-plays g c =
    let o = g.W.Hosting.opened in
    let n = g.J.Naming.name.passes in
    let k = c.kept_count-mark in
    hand_fault o n c.hand_all.result c.args.lines.now (said_of c.args.logins.now) (said_of c.enter_all.new.logins) c.args.marks.now.items c.put_mark.new.marks.items c.args.workers.now c.drain.new.workers c.args.main.now c.hand_all.new.pass c.hand_all.ensures.fault
    (λ handed. one_played o n c.args.lines.now (said_of c.args.logins.now) (said_of c.enter_all.new.logins) c.args.marks.now.items c.put_mark.new.marks.items k.result c.args.workers.now c.drain.new.workers c.args.main.now k.new.pass c.enter_all.new.pass c.drain.new.main
    (passes_one o n [] c.args.main.now k.new.pass k.ensures.number k.ensures.entered k.ensures.named) (k.ensures.count c.requires.keeps) c.in_ok-put_mark.ensures c.in_ok-enter_all.ensures.entered c.hand_all.new.pass c.in_ok-drain.ensures.drains handed)
    (subst (λ cs. OnOk c.hand_all.result (HandsAll o n c.drain.new.main c.hand_all.new.pass cs)) c.opened.ensures c.hand_all.ensures.handed)

pub returns-in_err-put_mark-clause-begun : goal.returns-in_err-put_mark-clause-begun
returns-in_err-put_mark-clause-begun g c =
    let o = g.W.Hosting.opened in
    let n = g.J.Naming.name.passes in
    let k = c.kept_count-mark in
    on_err c.from_residual.result
    (mark_begun o n c.args.lines.now (said_of c.args.logins.now) c.args.workers.now c.args.main.now k.new.pass (passes_one o n [] c.args.main.now k.new.pass k.ensures.number k.ensures.entered k.ensures.named))

pub returns-in_err-enter_all-clause-begun : goal.returns-in_err-enter_all-clause-begun
returns-in_err-enter_all-clause-begun g c =
    let o = g.W.Hosting.opened in
    let n = g.J.Naming.name.passes in
    let k = c.kept_count-mark in
    on_err c.from_residual-in_err-enter_all.result
    (phase_lines_begun o n c.args.lines.now (said_of c.args.logins.now) c.args.workers.now c.args.main.now k.new.pass (passes_one o n [] c.args.main.now k.new.pass k.ensures.number k.ensures.entered k.ensures.named)
    c.enter_all.new.pass c.in_err-enter_all.ensures.begun)

pub returns-in_err-drain-clause-begun : goal.returns-in_err-drain-clause-begun
returns-in_err-drain-clause-begun g c =
    let o = g.W.Hosting.opened in
    let n = g.J.Naming.name.passes in
    let k = c.kept_count-mark in
    on_err c.from_residual-in_err-drain.result
    (phase_drain_begun o n c.args.lines.now (said_of c.args.logins.now) c.args.workers.now c.args.main.now k.new.pass (passes_one o n [] c.args.main.now k.new.pass k.ensures.number k.ensures.entered k.ensures.named)
    (said_of c.enter_all.new.logins) c.drain.new.workers c.enter_all.new.pass c.drain.new.main c.in_ok-enter_all.ensures.entered c.drain.ensures.only)

pub returns-clause-begun : goal.returns-clause-begun
returns-clause-begun g c =
    let o = g.W.Hosting.opened in
    let n = g.J.Naming.name.passes in
    let k = c.kept_count-mark in
    on_err_weaker c.hand_all.result
    (phase_hands_begun o n c.args.lines.now (said_of c.args.logins.now) c.args.workers.now c.args.main.now k.new.pass (passes_one o n [] c.args.main.now k.new.pass k.ensures.number k.ensures.entered k.ensures.named)
    (said_of c.enter_all.new.logins) c.drain.new.workers c.enter_all.new.pass c.drain.new.main c.in_ok-enter_all.ensures.entered c.drain.ensures.only c.hand_all.new.pass)
    (subst (λ cs. OnErr c.hand_all.result (BeginsHands o n c.drain.new.main c.hand_all.new.pass cs)) c.opened.ensures c.hand_all.ensures.begun)
