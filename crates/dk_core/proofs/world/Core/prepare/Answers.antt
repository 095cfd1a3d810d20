use Rattle.std.proofs.Common.{◌+◌, ap, ◌∙◌, arith}
use Rattle.dk_core.specs.Preparations.{Preparation}
use Rattle.dk_core.proofs.world.Core.prepare.Goals as goal

pub overflow_add-seq : goal.overflow_add-seq
overflow_add-seq c =
    let at = c.commits-seq.ensures in
    let counted = c.make_ready.new.self.numbers.1.0 in
    let few = c.make_ready.new.self.numbers.1.1 in
    omega (arith, at, counted, few)

pub returns-clause-prepares : goal.returns-clause-prepares
returns-clause-prepares c =
    let seq = ap (λ n. n + 1) c.commits-seq.ensures in
    let ready = c.in_ok-deliveries.ensures.ready.0 in (
      record {
        ready = record { stand = ready.stand; messages = ap (λ (p : Preparation). p.deliveries) c.new.ensures ∙ ready.messages };
        entry = ap (λ (p : Preparation). p.entry) c.new.ensures ∙ (λ i. record { seq = seq i; run = c.args.claimed.now.run; effects = c.effects-effects.ensures i });
      },
      c.in_ok-deliveries.ensures.ready.1,
    )
