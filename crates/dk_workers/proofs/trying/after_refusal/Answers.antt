use Rattle.std.proofs.Common.{sym}
use Rattle.dk_workers.proofs.Tries.{begins_by, cause_by}
use Rattle.dk_workers.proofs.trying.after_refusal.Goals as goal

pub returns-in-Some-clause-ends : goal.returns-in-Some-clause-ends
returns-in-Some-clause-ends g c = record {
  entered = c.release.ensures.entered;
  cause = cause_by g.W.Hosting.opened c.args.refused.claimed c.args.refused.why c.in-Some.end c.args.pass.now.front c.release.new.pass.front
      (begins_by g.W.Hosting.opened c.args.pass.now.number _ c.args.pass.now.front c.release.new.pass.front c.release.ensures.entered) c.requires.cause (sym c.in-Some.ensures);
}
