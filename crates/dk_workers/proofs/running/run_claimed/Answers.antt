use Rattle.std.proofs.Common.{rules, sym, subst, ◌∙◌, ◌≤◌}
use Rattle.dk_types.specs.declared.limits.TheConstants.{MOMENT_MOST_MS}
use Rattle.dk_model.specs.Lawful.{AreLawful}
use Rattle.dk_txn.specs.Knowing.{HasTaskLimits}
use Rattle.dk_host.specs.Looks.{looking}
use Rattle.dk_workers.proofs.HonestRuns.{claim_within, claim_stays, one_number, front_of_claim, honest_by}
use Rattle.dk_workers.proofs.running.run_claimed.Goals as goal

pub run_over-requires-clause-moment : goal.run_over-requires-clause-moment
run_over-requires-clause-moment g c =
    let lawful = subst AreLawful (sym c.requires.rules) (g.G.Rules.lawful c.args.game.now) in
    subst (λ n. n ≤ MOMENT_MOST_MS) (sym c.at.ensures) (claim_within g.W.Hosting.opened c.args.pass.now c.args.claimed.now lawful c.requires.claim).1

pub run_over-requires-clause-fits : goal.run_over-requires-clause-fits
run_over-requires-clause-fits g c =
    let lawful = subst AreLawful (sym c.requires.rules) (g.G.Rules.lawful c.args.game.now) in
    subst HasTaskLimits (sym c.job.ensures) (claim_within g.W.Hosting.opened c.args.pass.now c.args.claimed.now lawful c.requires.claim).0

pub returns-clause-claim : goal.returns-clause-claim
returns-clause-claim g c =
    claim_stays g.W.Hosting.opened c.args.claimed.now c.args.pass.now _ (looking c.look-look.result.run c.look-look.result.pass.now) (looking c.run_over.new.view.run c.run_over.new.view.pass.now) c.look-look.ensures.pass (search rules) c.run_over.ensures.becomes.0 c.requires.claim

pub returns-clause-number : goal.returns-clause-number
returns-clause-number g c = one_number g.W.Hosting.opened c.args.claimed.now c.args.pass.now _ c.requires.claim (returns-clause-claim g c)

pub returns-clause-front : goal.returns-clause-front
returns-clause-front g c =
    front_of_claim g.W.Hosting.opened c.args.claimed.now c.args.pass.now _ (returns-clause-claim g c) (looking c.look-look.result.run c.look-look.result.pass.now) (looking c.run_over.new.view.run c.run_over.new.view.pass.now) c.look-look.ensures.pass (search rules) c.run_over.ensures.becomes.0

pub returns-clause-honest : goal.returns-clause-honest
returns-clause-honest g c =
    honest_by g.W.Hosting.opened _ c.requires.rules _ c.args.claimed.now (returns-clause-claim g c) (looking c.run_over.new.view.run c.run_over.new.view.pass.now) (search rules) (c.run_over.ensures.becomes.0.run ∙ c.look-look.ensures.run) _ _ _ c.job.ensures c.run.ensures c.at.ensures c.run_over.result c.run_over.ensures.law c.run_over.ensures.given
