use Rattle.std.proofs.Common.{◌∷◌, [], refl, subst, ◌∙◌}
use Rattle.dk_types.specs.declared.event.Event.TheVariants as event
use Rattle.dk_host.specs.Calls.{Entered}
use Rattle.dk_pump.specs.declared.limits.TheConstants.{HAND_MOST_COUNT}
use Rattle.dk_pump.proofs.Entering.{enters_one}
use Rattle.dk_pump.proofs.WrittenOn.{handing_first, handing_more}
use Rattle.dk_pump.proofs.writing.hand_on.Goals as goal

pub loop-init : goal.loop-init
loop-init g c = record { number = refl; handing = handing_first g.W.Hosting.opened g.J.Naming.name.passes c.args.pass.now.number c.args.conn c.args.gone c.args.pass.now.front }

pub loop-preserved : goal.loop-preserved
loop-preserved g c = record {
  number = c.in-Ok.ensures.number ∙ c.loop.invariant.number;
  handing = handing_more g.W.Hosting.opened g.J.Naming.name.passes c.args.pass.now.number c.args.conn c.args.gone c.loop.over c.in-Ok.handed.end HAND_MOST_COUNT c.in-Ok.handed.outs c.args.pass.now.front c.loop.pass.front c.hand.new.pass.front c.loop.invariant.handing
      (enters_one g.W.Hosting.opened g.J.Naming.name.passes c.args.pass.now.number _ c.loop.pass.front c.hand.new.pass.front
      (subst (λ n. Entered g.W.Hosting.opened n (event.Hand n c.args.conn HAND_MOST_COUNT c.in-Ok.handed.outs c.in-Ok.handed.end ∷ []) c.loop.pass.front c.hand.new.pass.front) c.loop.invariant.number c.in-Ok.ensures.entered) c.in-Ok.ensures.named);
}
