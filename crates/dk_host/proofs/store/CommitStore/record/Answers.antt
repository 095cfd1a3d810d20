use Rattle.std.proofs.Common.{◌≡◌, Err, refl, subst}
use Rattle.dk_host.specs.Fulls.{IsFullAt}
use Rattle.dk_host.specs.Stores.{Appends}
use Rattle.dk_host.proofs.Filling.{append_full}
use Rattle.dk_host.proofs.Refusing.{entered_none, append_cause, append_fault}
use Rattle.dk_host.proofs.store.CommitStore.record.Goals as goal

pub append-requires-clause-ready : goal.append-requires-clause-ready
append-requires-clause-ready g c = (c.args.claimed, (c.args.finished, c.requires.next))

pub returns-in-Err-clause-entered : goal.returns-in-Err-clause-entered
returns-in-Err-clause-entered g c = entered_none g.W.Hosting.opened _ _ c.requires.claim.legal

pub returns-in-Err-clause-back : goal.returns-in-Err-clause-back
returns-in-Err-clause-back g c = (
  refl,
  append_cause g.W.Hosting.opened _ _ _ c.in-Err.refused _ (append_fault c.args.self.now c.append.new.self c.args.commit.prepared c.in-Err.refused (subst (Appends c.args.self.now c.append.new.self c.args.commit.prepared) c.in-Err.is c.append.ensures.appends)) c.why_of_append.ensures (λ n e. ((c.append.ensures.full n).0 (subst (λ x. c.append.result ≡ Err x) e c.in-Err.is)).1),
)

pub returns-in-Err-clause-full : goal.returns-in-Err-clause-full
returns-in-Err-clause-full g c tells =
    let may = append_fault c.args.self.now c.append.new.self c.args.commit.prepared c.in-Err.refused (subst (Appends c.args.self.now c.append.new.self c.args.commit.prepared) c.in-Err.is c.append.ensures.appends) in
    append_full g.W.Hosting.opened _ c.args.claimed c.args.finished c.in-Err.refused _ may c.why_of_append.ensures
    (λ n e. subst (λ es. IsFullAt g.W.Hosting.opened es c.args.claimed c.args.finished n) c.requires.same
    (c.append.ensures.log tells n (subst (λ x. c.append.result ≡ Err x) e c.in-Err.is) c.args.claimed c.args.finished c.requires.next.0))
