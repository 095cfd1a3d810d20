use Rattle.std.proofs.Common.{sym, ◌∙◌, arith}
use Rattle.dk_host.proofs.Begun.{store_begins}
use Rattle.dk_host.proofs.store.CommitStore.new.Goals as goal

pub invariant_of-result : goal.invariant_of-result
invariant_of-result g c = (
  c.requires.right.0,
  c.requires.right.1,
  record { here = c.requires.here; same = c.epoch-first.ensures ∙ c.requires.first; later = omega (arith, c.requires.first); most = λ n is. omega (arith, (c.base_of.ensures n is).0) },
  store_begins g.W.Hosting.opened g.W.Hosting.began _ _ _ _ _ _ _ _ _ c.requires.lawful c.requires.valid c.requires.watcher c.requires.right.2 (λ n is. ((c.base_of.ensures n is).0, sym c.epoch-first.ensures ∙ (c.base_of.ensures n is).1)) c.requires.is_open c.requires.format c.requires.holds c.requires.since,
  record { counts = omega (arith, c.requires.counted); same = c.requires.opening },
)
