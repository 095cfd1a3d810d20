use Rattle.std.proofs.Common.{sym, refl}
use Rattle.dk_host.proofs.KeptEvents.{told_none}
use Rattle.dk_host.proofs.history.History.new.Goals as goal

pub invariant_of-result : goal.invariant_of-result
invariant_of-result g c = (sym c.requires.keeps, told_none g.W.Hosting.opened c.args.keeps _ _ 0 _ c.in_ok-events.ensures c.new-2.ensures.items refl)
