use Rattle.std.proofs.Common.{[], ◌∷◌, Ok, Err, sym, subst}
use Rattle.dk_types.specs.declared.event.ClaimReply.TheVariants as reply
use Rattle.dk_types.specs.declared.event.Event.TheVariants as event
use Rattle.dk_host.specs.Calls.{Entered, claim_events}
use Rattle.dk_workers.specs.Refused.{unclaimed_by}
use Rattle.dk_workers.specs.Workers.{Works}
use Rattle.dk_workers.specs.declared.worked.Worked.TheVariants as worked
use Rattle.dk_workers.proofs.Rounds.{claim_last, unclaimed_ends, works_at_once, works_next}
use Rattle.dk_workers.proofs.worker.work_next.Goals as goal

pub returns-in-Ok-Some : goal.returns-in-Ok-Some
returns-in-Ok-Some g c =
    let o = g.W.Hosting.opened in
    let claimed = c.in-Ok-Some.claimed in
    let entered = subst (λ x. Entered o c.args.pass.now.number (claim_events c.args.pass.now.number (Ok x)) c.args.pass.now.front c.claim.new.pass.front) c.in-Ok-Some.field-0-is c.in-Ok-Some.ensures.entered in
    record { works = works_next o g.J.Naming.name.passes c.args.pass.now c.claim.new.pass c.end_claimed.new.pass claimed c.in-Ok-Some.ensures.number c.end_claimed.ensures.number entered c.in-Ok-Some.ensures.named c.end_claimed.ensures.named c.end_claimed.result c.end_claimed.ensures.ends }

pub returns-in-Ok-None : goal.returns-in-Ok-None
returns-in-Ok-None g c =
    let o = g.W.Hosting.opened in
    let pass = c.args.pass.now.number in
    let entered = subst (λ x. Entered o pass (claim_events pass (Ok x)) c.args.pass.now.front c.claim.new.pass.front) c.in-Ok-None.field-0-is c.in-Ok-None.ensures.entered in
    record { works = works_at_once o g.J.Naming.name.passes worked.Idle (event.Claim pass reply.Nothing ∷ []) c.args.pass.now c.claim.new.pass c.in-Ok-None.ensures.number entered c.in-Ok-None.ensures.named (claim_last o g.J.Naming.name.passes pass reply.Nothing c.args.pass.now.front c.claim.new.pass.front entered) }

pub returns-in-Err : goal.returns-in-Err
returns-in-Err g c =
    let o = g.W.Hosting.opened in
    let pass = c.args.pass.now.number in
    let refused = c.in-Err.refused in
    let ends = unclaimed_ends o g.J.Naming.name.passes pass refused c.args.pass.now.front c.claim.new.pass.front c.in-Err.ensures.entered in
    record {
      works = subst (λ end. Works o g.J.Naming.name.passes end c.args.pass.now c.claim.new.pass) (sym c.unclaimed.ensures)
          (works_at_once o g.J.Naming.name.passes (unclaimed_by refused) (claim_events pass (Err refused)) c.args.pass.now c.claim.new.pass c.in-Err.ensures.number c.in-Err.ensures.entered c.in-Err.ensures.named ends);
    }
