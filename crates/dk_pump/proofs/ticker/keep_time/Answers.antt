use Rattle.std.proofs.Common.{refl, subst, ◌∙◌}
use Rattle.dk_host.specs.Calls.{Entered, tick_events}
use Rattle.dk_pump.proofs.Ticked.{ticked_none, ticked_then}
use Rattle.dk_pump.proofs.ticker.keep_time.Goals as goal

pub loop-init : goal.loop-init
loop-init g c = record { number = refl; ticks = ticked_none g.W.Hosting.opened g.J.Naming.name.passes c.args.pass.now.number c.args.pass.now.front }

pub loop-preserved : goal.loop-preserved
loop-preserved g c =
    let o = g.W.Hosting.opened in
    let at = c.loop.invariant in
    let ticked = c.tick-ticked in
    let entered = subst (λ n. Entered o n (tick_events n c.now.result ticked.result) c.loop.pass.front ticked.new.pass.front) at.number ticked.ensures.entered in
    record {
      number = ticked.ensures.number ∙ at.number;
      ticks = ticked_then o g.J.Naming.name.passes c.args.pass.now.number c.now.result ticked.result c.args.pass.now.front c.loop.pass.front ticked.new.pass.front at.ticks entered ticked.ensures.named;
    }

pub returns-then-is_last-clause-ticks : goal.returns-then-is_last-clause-ticks
returns-then-is_last-clause-ticks g c =
    let o = g.W.Hosting.opened in
    let at = c.loop.invariant in
    let ticked = c.tick-ticked in
    let entered = subst (λ n. Entered o n (tick_events n c.now.result ticked.result) c.loop.pass.front ticked.new.pass.front) at.number ticked.ensures.entered in
    ticked_then o g.J.Naming.name.passes c.args.pass.now.number c.now.result ticked.result c.args.pass.now.front c.loop.pass.front ticked.new.pass.front at.ticks entered ticked.ensures.named
