use Rattle.std.proofs.Common.{◌≡◌}
use Rattle.dk_model.specs.Legal.{IsFront}
use Rattle.dk_host.specs.Calls.{IsClaimOf}
use Rattle.dk_workers.proofs.worker.end_claimed.Given as goal

abbrev pub invariant-loop : goal.invariant-loop
invariant-loop g l = record {
  number : l.pass.number ≡ l.fn.pass.number;
  same : l.claimed ≡ l.fn.claimed;
  claim : IsClaimOf g.W.Hosting.opened l.pass l.claimed;
  goes : IsFront l.fn.pass.number l.fn.pass.front l.pass.front;
}
