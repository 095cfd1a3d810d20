use Rattle.std.proofs.Common.{[]}
use Rattle.dk_host.proofs.Calling.{entered}
use Rattle.dk_host.proofs.store.CommitStore.entries_after.Goals as goal

pub returns-in-Some-clause-entered : goal.returns-in-Some-clause-entered
returns-in-Some-clause-entered g c = entered g.W.Hosting.opened c.args.pass.now.number [] c.args.pass.now.front c.with.new.pass.front c.with.ensures.called
