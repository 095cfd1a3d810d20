use Rattle.std.proofs.Common.{refl, subst}
use Rattle.dk_host.specs.Calls.{Entered}
use Rattle.dk_host.specs.Refusals.{commit_events}
use Rattle.dk_host.specs.Stores.{FindsNext}
use Rattle.dk_host.proofs.Filling.{look_full}
use Rattle.dk_host.proofs.Refusing.{entered_none, entered_then, claim_on, honest_still, look_cause}
use Rattle.dk_host.proofs.store.CommitStore.commit.Goals as goal

pub returns-in-Some-clause-entered : goal.returns-in-Some-clause-entered
returns-in-Some-clause-entered g c = entered_none g.W.Hosting.opened _ _ c.requires.claim.legal

pub record-requires-clause-claim : goal.record-requires-clause-claim
record-requires-clause-claim g c = claim_on g.W.Hosting.opened c.args.pass.now c.prepare_drafted.new.pass c.args.claimed c.args.finished c.prepare_drafted.ensures.number c.prepare_drafted.ensures.entered c.requires.claim

pub record-requires-clause-honest : goal.record-requires-clause-honest
record-requires-clause-honest g c = honest_still g.W.Hosting.opened c.args.pass.now c.prepare_drafted.new.pass c.args.claimed c.args.finished c.prepare_drafted.ensures.number c.prepare_drafted.ensures.entered c.requires.claim c.requires.honest

pub returns-in-Ok-clause-entered : goal.returns-in-Ok-clause-entered
returns-in-Ok-clause-entered g c =
    entered_then g.W.Hosting.opened c.args.pass.now.number (commit_events c.args.pass.now.number c.args.claimed c.args.finished c.record.result) c.args.pass.now.front c.prepare_drafted.new.pass.front c.record.new.pass.front c.prepare_drafted.ensures.entered
    (subst (λ n. Entered g.W.Hosting.opened n (commit_events n c.args.claimed c.args.finished c.record.result) c.prepare_drafted.new.pass.front c.record.new.pass.front) c.prepare_drafted.ensures.number c.record.ensures.entered)

pub returns-in-Err-clause-back : goal.returns-in-Err-clause-back
returns-in-Err-clause-back g c = (
  refl,
  look_cause g.W.Hosting.opened c.prepare_drafted.new.pass.front c.args.claimed c.args.finished c.prepare_drafted.new.self.room c.in-Err.refused _ c.self.invariant.3.lawful
      (honest_still g.W.Hosting.opened c.args.pass.now c.prepare_drafted.new.pass c.args.claimed c.args.finished c.prepare_drafted.ensures.number c.prepare_drafted.ensures.entered c.requires.claim c.requires.honest)
      (subst (FindsNext g.W.Hosting.opened c.prepare_drafted.new.pass.front c.args.claimed c.args.finished c.prepare_drafted.new.self.room) c.in-Err.is c.prepare_drafted.ensures.finds) c.why_of_look.ensures,
)

pub returns-in-Err-clause-full : goal.returns-in-Err-clause-full
returns-in-Err-clause-full g c = λ tells. look_full g.W.Hosting.opened c.prepare_drafted.new.pass.front c.args.claimed c.args.finished c.in-Err.refused _ c.why_of_look.ensures
