use Rattle.std.proofs.Common.{refl, sym, subst, ap, ◌∙◌}
use Rattle.dk_map.proofs.Seen.{without_seen}
use Rattle.dk_model.proofs.Maps.{runs_total, exact_runs}
use Rattle.dk_core.specs.Claiming.{budget_in, without_run, IsCounted}
use Rattle.dk_core.proofs.Counted.{counted_ended}
use Rattle.dk_core.proofs.claims.Claims.end.Goals as goal

pub invariant_of-self : goal.invariant_of-self
invariant_of-self c =
    let left = without_seen runs_total c.self.inside.held.entries refl c.self.invariant.0 exact_runs c.args.run c.remove.new.self.entries c.remove.ensures.entries in
    (c.remove.ensures.ordered, subst (λ m. IsCounted m c.self.inside.next c.self.inside.granted c.self.inside.most) (sym left) (counted_ended _ _ _ _ c.self.invariant.1 c.args.run))

pub returns : goal.returns
returns c =
    let left = without_seen runs_total c.self.inside.held.entries refl c.self.invariant.0 exact_runs c.args.run c.remove.new.self.entries c.remove.ensures.entries in
    (λ i. record { claims = left i; next = c.self.inside.next; budget = budget_in c.self.inside.granted c.self.inside.most }) ∙ ap (without_run c.args.run) c.self.view_is
