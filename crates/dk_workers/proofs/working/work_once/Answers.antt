use Rattle.std.proofs.Common.{Ok, [], ◌∷◌, subst, inr}
use Rattle.dk_types.specs.declared.event.Event.TheVariants as event
use Rattle.dk_types.specs.declared.event.ClaimReply.TheVariants as reply
use Rattle.dk_core.specs.Answers.{Claims}
use Rattle.dk_core.specs.Cores.{AddsBy}
use Rattle.dk_workers.proofs.Honest.{goes_then, standing_then}
use Rattle.dk_workers.proofs.working.work_once.Goals as goal

pub end_claimed-requires-clause-standing : goal.end_claimed-requires-clause-standing
end_claimed-requires-clause-standing g c =
    let rules = g.G.Rules.rules c.args.game.now in
    let lawful = g.G.Rules.lawful c.args.game.now in
    let claims = subst (λ o. Claims c.args.core.now c.claim.new.self c.args.pass (Ok o)) c.in-Ok-Some.field-0-is (subst (Claims c.args.core.now c.claim.new.self c.args.pass) c.in-Ok-Some.is c.claim.ensures.event) in
    standing_then rules c.args.core.now c.claim.new.self (event.Claim c.args.pass (reply.Granted c.in-Ok-Some.claimed.run c.in-Ok-Some.claimed.at c.in-Ok-Some.claimed.job) ∷ []) c.requires.standing
    (λ d budget events s. claims.0 rules d budget events lawful s)

pub returns-in-Err : goal.returns-in-Err
returns-in-Err g c =
    let rules = g.G.Rules.rules c.args.game.now in
    let lawful = g.G.Rules.lawful c.args.game.now in
    let claimed = c.in-Ok-Some.claimed in
    let claims = subst (λ o. Claims c.args.core.now c.claim.new.self c.args.pass (Ok o)) c.in-Ok-Some.field-0-is (subst (Claims c.args.core.now c.claim.new.self c.args.pass) c.in-Ok-Some.is c.claim.ensures.event) in
    inr record {
      run = claimed.run;
      at = claimed.at;
      job = claimed.job;
      goes = goes_then rules c.args.core.now c.claim.new.self c.end_claimed.new.core (event.Claim c.args.pass (reply.Granted claimed.run claimed.at claimed.job)) (event.Release c.args.pass claimed.run)
          (λ d budget events s. claims.0 rules d budget events lawful s)
          (subst (λ p. AddsBy rules c.claim.new.self c.end_claimed.new.core (event.Release p claimed.run ∷ [])) claims.2 c.in-Err.ensures);
    }
