use Rattle.std.proofs.Common.{sym, ap, subst, ◌∙◌, ◌≤◌}
use Rattle.dk_types.specs.declared.limits.TheConstants.{MOMENT_MOST_MS}
use Rattle.dk_txn.specs.Knowing.{HasTaskLimits}
use Rattle.dk_core.specs.declared.durable.look.WorldLook.{WorldLook}
use Rattle.dk_workers.specs.Working.{AreReadsNow}
use Rattle.dk_workers.proofs.Honest.{claim_within}
use Rattle.dk_workers.proofs.working.run_claimed.Goals as goal

pub run_over-requires-clause-moment : goal.run_over-requires-clause-moment
run_over-requires-clause-moment g c =
    let within = claim_within (g.G.Rules.rules c.args.game.now) (g.G.Rules.lawful c.args.game.now) c.args.core.now c.args.claimed.now c.requires.granted c.requires.standing in
    subst (λ n. n ≤ MOMENT_MOST_MS) (sym c.at.ensures) within.1

pub run_over-requires-clause-fits : goal.run_over-requires-clause-fits
run_over-requires-clause-fits g c =
    let within = claim_within (g.G.Rules.rules c.args.game.now) (g.G.Rules.lawful c.args.game.now) c.args.core.now c.args.claimed.now c.requires.granted c.requires.standing in
    subst HasTaskLimits (sym c.in_ok-job.ensures) within.0

pub returns-clause-now : goal.returns-clause-now
returns-clause-now g c =
    let same = ap (λ (look : WorldLook). look.world.now) c.run_over.ensures.becomes in
    subst (λ w. AreReadsNow w c.in_ok-finished.finished.reads.items) (same ∙ c.look-look.ensures) c.in_ok-finished.ensures.given
