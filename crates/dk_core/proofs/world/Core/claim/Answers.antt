use Rattle.std.proofs.Common.{refl, sym, ap, ◌∙◌, arith}
use Rattle.std.specs.FinMap.{get}
use Rattle.dk_core.specs.Claiming.{with_grant}
use Rattle.dk_core.proofs.Drawn.{numbers_claimed}
use Rattle.dk_core.proofs.Granted.{claims_none, claims_spent, claims_exhausted, claims_granted, granted_there}
use Rattle.dk_core.proofs.world.Core.claim.Goals as goal

pub returns-in_default-clause-event : goal.returns-in_default-clause-event
returns-in_default-clause-event c = claims_none c.args.self.now c.args.pass c.in_default.ensures.pick

pub returns-then-not-has_left-clause-event : goal.returns-then-not-has_left-clause-event
returns-then-not-has_left-clause-event c = claims_spent c.args.self.now c.args.pass c.in-Some.choice c.in-Some.ensures.pick c.in-Some.ensures.there c.granted.result (sym c.if-not-has_left.ensures) c.granted.ensures

pub returns-then-next-ge-NUMBERS_END-clause-event : goal.returns-then-next-ge-NUMBERS_END-clause-event
returns-then-next-ge-NUMBERS_END-clause-event c =
    let next = c.next-next.ensures in
    let end = c.if-next-ge-NUMBERS_END.true in
    claims_exhausted c.args.self.now c.args.pass c.in-Some.choice c.in-Some.ensures.pick c.in-Some.ensures.there c.next-next.result (sym c.if-not-has_left.ensures) (omega (arith, next, end)) next

pub invariant_of-self : goal.invariant_of-self
invariant_of-self c =
    let next = c.next-next.ensures in
    let end = c.if-next-ge-NUMBERS_END.false in
    let now = c.args.self.now in
    record {
      numbers = numbers_claimed c.grant.result now.world.commits now.claims c.grant.new.self now.connections.connections c.of.result now.numbers (omega (arith, next, end)) c.grant.ensures.granted c.grant.ensures.refused;
    }

pub returns-clause-event : goal.returns-clause-event
returns-clause-event c =
    let next = c.next-next.ensures in
    let end = c.if-next-ge-NUMBERS_END.false in
    let now = c.args.self.now in
    let granted = c.in_ok-grant.ensures.granted ∙ ap (λ h. with_grant h now.claims) c.of.ensures in
    let marked = rw next at c.mark.ensures in
    rw next (
      claims_granted now c.mark.new.self c.args.pass c.in-Some.choice c.in_ok-job.field-0 c.grant.new.self _ c.in-Some.ensures.pick c.in-Some.ensures.there c.in-Some.ensures.first c.in_ok-job.ensures (sym c.if-not-has_left.ensures)
          (omega (arith, next, end)) granted marked,
      ap (λ s. get s.claims (record { 0 = now.claims.next })) marked.same.claims ∙ granted_there now c.grant.new.self _ granted,
      refl,
    )
