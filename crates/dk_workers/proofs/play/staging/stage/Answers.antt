use Rattle.std.proofs.Common.{◌≡◌, ◌+◌, [], ◌∷◌, length, arith}
use Rattle.dk_play_laws.proofs.Phasing.{stand_on}
use Rattle.dk_workers.proofs.Beginnings.{stands_begun}
use Rattle.dk_workers.proofs.Passing.{goes_by}
use Rattle.dk_workers.proofs.Playing.{named_up_to}
use Rattle.dk_workers.proofs.play.staging.stage.Goals as goal

pub returns-in-Ok-save-clause-staged : goal.returns-in-Ok-save-clause-staged
returns-in-Ok-save-clause-staged g c =
    let o = g.W.Hosting.opened in
    let n = g.J.Naming.name.passes in
    let b = c.in-Ok.ensures.plays in
    let ws = c.play_phases.new.workers in
    let main = c.play_phases.new.main in
    let new = c.save.new.pass in
    let size : n ≡ length ws + 1 = omega (arith, c.requires.count, c.play_phases.auto.workers) in (
      (b.0, stand_on o ([] ∷ c.args.script.now) c.in-Ok.marks.items b.0 ws main new b.1 (goes_by o n [] main new c.save.ensures.goes_on) (named_up_to n (length ws) new.front size c.save.ensures.named)),
      c.in-Ok-save.ensures.saved c.args.asked,
    )

pub returns-in-Ok-save-clause-begun : goal.returns-in-Ok-save-clause-begun
returns-in-Ok-save-clause-begun g c =
    stands_begun g.W.Hosting.opened g.J.Naming.name.passes ([] ∷ c.args.script.now) c.play_phases.new.workers c.play_phases.new.main c.save.new.pass c.play_phases.ensures.begun c.save.ensures.goes_on

pub returns-in-Err-save-clause-begun : goal.returns-in-Err-save-clause-begun
returns-in-Err-save-clause-begun g c =
    stands_begun g.W.Hosting.opened g.J.Naming.name.passes ([] ∷ c.args.script.now) c.play_phases.new.workers c.play_phases.new.main c.save.new.pass c.play_phases.ensures.begun c.save.ensures.goes_on
