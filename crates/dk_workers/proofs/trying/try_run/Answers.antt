use Rattle.dk_workers.proofs.Tries.{refused_cause, refused_claim, refused_ends, run_committed, run_given_up}
use Rattle.dk_workers.proofs.trying.try_run.Goals as goal

pub returns-in_default-clause-ends : goal.returns-in_default-clause-ends
returns-in_default-clause-ends g c =
    run_given_up g.W.Hosting.opened c.args.pass.now c.run_claimed.new.pass c.release.new.pass c.args.claimed c.in_default.ensures.number c.in_default.ensures.front c.release.ensures.entered

pub after_refusal-requires-clause-claim : goal.after_refusal-requires-clause-claim
after_refusal-requires-clause-claim g c =
    refused_claim g.W.Hosting.opened c.args.claimed c.in-Ok.finished c.run_claimed.new.pass c.commit.new.pass c.in-Err.ensures.number c.in-Ok.ensures.claim c.in-Ok.ensures.honest c.in-Err.shown.refused c.in-Err.ensures.entered c.in-Err.ensures.back

pub after_refusal-requires-clause-cause : goal.after_refusal-requires-clause-cause
after_refusal-requires-clause-cause g c =
    refused_cause g.W.Hosting.opened c.args.claimed c.in-Ok.finished c.run_claimed.new.pass c.commit.new.pass c.in-Err.ensures.number c.in-Ok.ensures.claim c.in-Ok.ensures.honest c.in-Err.shown.refused c.in-Err.ensures.entered c.in-Err.ensures.back

pub returns-in-Ok-commit-clause-ends : goal.returns-in-Ok-commit-clause-ends
returns-in-Ok-commit-clause-ends g c =
    run_committed g.W.Hosting.opened c.args.pass.now c.run_claimed.new.pass c.commit.new.pass c.args.claimed c.in-Ok.finished c.in-Ok-commit.field-0 c.in-Ok.ensures.number c.in-Ok.ensures.front c.in-Ok-commit.ensures.entered

pub returns-in-Err-clause-ends : goal.returns-in-Err-clause-ends
returns-in-Err-clause-ends g c =
    refused_ends g.W.Hosting.opened c.args.claimed c.in-Ok.finished c.run_claimed.new.pass c.commit.new.pass c.in-Err.ensures.number c.in-Ok.ensures.claim c.in-Ok.ensures.honest c.in-Err.shown.refused c.in-Err.ensures.entered c.in-Err.ensures.back
    c.args.pass.now c.after_refusal.new.pass c.in-Ok.ensures.number c.in-Ok.ensures.front c.after_refusal.result c.after_refusal.ensures.ends
