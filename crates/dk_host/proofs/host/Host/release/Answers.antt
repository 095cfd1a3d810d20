use Rattle.std.proofs.Common.{[], ◌∷◌}
use Rattle.dk_types.specs.declared.event.Event.TheVariants as event
use Rattle.dk_host.proofs.Calling.{may_end}
use Rattle.dk_host.proofs.Calling.{entered}
use Rattle.dk_host.proofs.host.Host.release.Goals as goal

pub with-requires : goal.with-requires
with-requires g c = λ log goes. may_end g.W.Hosting.opened c.args.pass.now c.args.claimed log c.requires.claim goes

pub returns-clause-entered : goal.returns-clause-entered
returns-clause-entered g c = entered g.W.Hosting.opened c.args.pass.now.number (event.Release c.args.pass.now.number c.args.claimed.run ∷ []) c.args.pass.now.front c.with.new.pass.front c.with.ensures.called
