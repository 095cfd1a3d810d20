use Rattle.std.proofs.Common.{ap, subst, ◌∙◌}
use Rattle.std.proofs.lemmas.Result.{IfOk-weaker}
use Rattle.dk_types.specs.declared.durable.Durable.{Durable}
use Rattle.dk_model.specs.Legal.{world_after}
use Rattle.dk_core.specs.Listings.{world_of}
use Rattle.dk_host.specs.Calls.{IsCopyAt}
use Rattle.dk_host.proofs.Copying.{copy_entered, copy_at}
use Rattle.dk_host.proofs.Settling.{world_back}
use Rattle.dk_host.proofs.host.Host.durable.Goals as goal

pub returns-clause-entered : goal.returns-clause-entered
returns-clause-entered g c = copy_entered g.W.Hosting.opened c.args.pass.now.number c.with.result c.args.pass.now.front c.with.new.pass.front c.with.ensures.called

pub returns-in_err-with-clause-entered : goal.returns-in_err-with-clause-entered
returns-in_err-with-clause-entered g c = copy_entered g.W.Hosting.opened c.args.pass.now.number c.with.result c.args.pass.now.front c.with.new.pass.front c.with.ensures.called

pub returns-clause-copied : goal.returns-clause-copied
returns-clause-copied g c =
    let copied = subst (IsCopyAt g.W.Hosting.opened c.with.new.pass.front) c.in_ok-with.was (copy_at g.W.Hosting.opened c.args.pass.now.number c.with.result c.args.pass.now.front c.with.new.pass.front c.with.ensures.called) in
    IfOk-weaker c.in_order.result _ _ (λ (d : Durable) is. is ∙ copied) c.in_order.ensures

pub returns-clause-world : goal.returns-clause-world
returns-clause-world g c =
    IfOk-weaker c.in_order.result _ _ (λ (d : Durable) is. ap world_of is ∙ world_back (world_after g.W.Hosting.opened c.with.new.pass.front).durable)
    (returns-clause-copied g c)
