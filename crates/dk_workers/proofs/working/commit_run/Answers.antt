use Rattle.std.proofs.Common.{Err, subst}
use Rattle.dk_core.specs.Answers.{CommitsOrTells}
use Rattle.dk_workers.proofs.Honest.{none_changed}
use Rattle.dk_workers.proofs.working.commit_run.Goals as goal

pub unreachable-requires : goal.unreachable-requires
unreachable-requires c =
    let arm = c.in-Err-default-Retry in
    let told = subst (CommitsOrTells c.args.core.now c.commit.new.self c.args.claimed c.args.finished) arm.is c.commit.ensures in
    let retry = subst (λ r. CommitsOrTells c.args.core.now c.commit.new.self c.args.claimed c.args.finished (Err (arm.field-0-0, r))) arm.field-0-1-is told in
    none_changed c.args.core.now.world c.args.finished.reads.items arm.field-0-1-0 c.requires.now retry.2
