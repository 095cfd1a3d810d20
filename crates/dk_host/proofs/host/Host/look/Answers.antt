use Rattle.std.proofs.Common.{◌≡◌, sym, subst, true}
use Rattle.std.specs.List.{list_any}
use Rattle.dk_model.specs.Sights.{grants}
use Rattle.dk_host.proofs.Looking.{claim_granted}
use Rattle.dk_host.proofs.host.Host.look.Goals as goal

pub invariant_of-result : goal.invariant_of-result
invariant_of-result g c = record { claimed = subst (λ r. list_any (grants r) c.args.pass.now.front ≡ true) (sym c.run.ensures) (claim_granted g.W.Hosting.opened c.args.pass.now c.args.claimed.now c.requires.claim) }
