use Rattle.std.proofs.lemmas.Result.{IfOk-weaker}
use Rattle.dk_host.proofs.entries.known_commits.Goals as goal

pub returns-in-None-clause-begins : goal.returns-in-None-clause-begins
returns-in-None-clause-begins g c tells = IfOk-weaker c.commits_before.result _ _ (λ n told header payloads first others file begins known. told header payloads first others file begins) (c.commits_before.ensures.begins tells)
