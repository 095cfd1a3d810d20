use Rattle.std.proofs.Common.{rules}
use Rattle.dk_game.proofs.Lent.{begun_so, law_so, given_back, asked_back}
use Rattle.dk_game.proofs.job_runs.run_over.Goals as goal

pub run_job-requires-clause-begun : goal.run_job-requires-clause-begun
run_job-requires-clause-begun g c = begun_so c.begin-txn.result.set c.args.number c.args.at c.begin-txn.ensures.nothing_done

pub returns-clause-law : goal.returns-clause-law
returns-clause-law g c =
    law_so (g.G.Rules.rules c.args.game.now) c.args.job.now c.args.number c.args.at c.begin-txn.result.set c.run_job.result c.begin-txn.ensures.nothing_done c.run_job.ensures.law

pub returns-clause-given : goal.returns-clause-given
returns-clause-given g c = given_back g.V.View.sights c.run_job.result (search rules) c.run_job.ensures.given

pub returns-clause-asked : goal.returns-clause-asked
returns-clause-asked g c = asked_back g.V.View.sights c.run_job.result (search rules) (search rules) c.run_job.ensures.asked
