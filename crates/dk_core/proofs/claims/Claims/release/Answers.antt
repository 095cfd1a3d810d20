use Rattle.std.proofs.Common.{◌≡◌, true, refl, sym, subst, ap, ◌∙◌}
use Rattle.std.specs.FinMap.{contains_key}
use Rattle.dk_map.proofs.Seen.{without_seen}
use Rattle.dk_model.proofs.Maps.{runs_total, exact_runs}
use Rattle.dk_core.specs.Claiming.{without_grant, IsCounted}
use Rattle.dk_core.proofs.Counted.{counted_released, budget_raised, some_there}
use Rattle.dk_core.proofs.claims.Claims.release.Goals as goal

pub invariant_of-self : goal.invariant_of-self
invariant_of-self c =
    let left = without_seen runs_total c.self.inside.held.entries refl c.self.invariant.0 exact_runs c.args.run c.remove.new.self.entries c.remove.ensures.entries in
    let held = subst (λ s. contains_key s.claims c.args.run ≡ true) (sym c.self.view_is) c.requires.held in (
      c.remove.ensures.ordered,
      subst (λ m. IsCounted m c.self.inside.next c.one_less-self-inside.result c.self.inside.most) (sym left)
          (counted_released _ _ _ _ c.self.invariant.1 c.args.run held c.one_less-self-inside.result c.one_less-self-inside.ensures),
    )

pub returns : goal.returns
returns c =
    let left = without_seen runs_total c.self.inside.held.entries refl c.self.invariant.0 exact_runs c.args.run c.remove.new.self.entries c.remove.ensures.entries in
    let held = subst (λ s. contains_key s.claims c.args.run ≡ true) (sym c.self.view_is) c.requires.held in
    let higher = budget_raised c.self.inside.granted c.one_less-self-inside.result c.self.inside.most _ c.self.invariant.1.budgeted (some_there _ c.args.run held) c.one_less-self-inside.ensures in
    (λ i. record { claims = left i; next = c.self.inside.next; budget = higher i }) ∙ ap (without_grant c.args.run) c.self.view_is
