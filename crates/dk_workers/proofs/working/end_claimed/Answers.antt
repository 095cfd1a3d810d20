use Rattle.std.proofs.Common.{[], ◌∷◌, ◌++◌, sym, subst}
use Rattle.dk_types.specs.declared.event.Event.TheVariants as event
use Rattle.dk_types.specs.declared.event.ClaimReply.TheVariants as reply
use Rattle.dk_core.specs.Cores.{Represents}
use Rattle.dk_workers.proofs.Honest.{honest_now}
use Rattle.dk_workers.proofs.working.end_claimed.Goals as goal

pub returns : goal.returns
returns g c =
    let rules = g.G.Rules.rules c.args.game.now in
    let lawful = g.G.Rules.lawful c.args.game.now in
    let claimed = c.args.claimed in (
      λ i. event.Claim claimed.pass (reply.Granted (c.run-run.ensures i) (c.at-at.ensures i) (c.in-Ok.ensures.job i)),
      λ d budget events s.
          subst (λ e. Represents rules d budget (events ++ e ∷ []) c.commit_run.new.core)
          (λ i. event.Commit claimed.pass (sym c.run-run.ensures i) c.in_ok-seq.seq (sym c.outcome-outcome.ensures i))
          (c.in_ok-seq.ensures rules d budget events lawful (honest_now rules lawful c.args.core.now claimed c.requires.granted d budget events s c.in-Ok.finished c.in-Ok.ensures.law c.in-Ok.ensures.now) s),
    )
