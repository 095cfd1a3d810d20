use Rattle.std.proofs.Common.{refl, ap, ◌∙◌}
use Rattle.std.specs.FinMap.{empty}
use Rattle.dk_model.specs.DurableWorlds.{DurableWorld}
use Rattle.dk_model.specs.Openings.{budget_of, counting, with_sessions}
use Rattle.dk_core.specs.Claiming.{Claiming}
use Rattle.dk_core.proofs.Opened.{opened, numbers_first}
use Rattle.dk_core.proofs.world.Core.open.Goals as goal

pub next_number-next-requires : goal.next_number-next-requires
next_number-next-requires c = c.requires.valid.last

pub invariant_of-result : goal.invariant_of-result
invariant_of-result c =
    record {
      numbers = numbers_first _ _ c.new.result _ c.requires.valid (ap (λ (d : DurableWorld). d.commits) c.in_ok-world.ensures.world) (ap (λ (n : Claiming). n.claims) c.new.ensures) (ap (λ (n : Claiming). n.next) c.new.ensures ∙ c.next_number-next.ensures)
          (c.in_ok-connections.ensures.world ∙ ap (λ d. with_sessions (counting d) empty) c.in_ok-world.ensures.world);
    }

pub returns : goal.returns
returns c = record {
  stands = λ rules. opened rules _ c.args.budget _ c.requires.valid c.in_ok-world.ensures.world c.in_ok-world.ensures.stamps c.in_ok-world.ensures.unclaimed
      c.in_ok-connections.ensures.world c.in_ok-connections.ensures.unclaimed c.in_ok-connections.ensures.swept
      (c.new.ensures ∙ (λ i. record { claims = empty; next = c.next_number-next.ensures i; budget = budget_of c.args.budget })) refl refl;
}
