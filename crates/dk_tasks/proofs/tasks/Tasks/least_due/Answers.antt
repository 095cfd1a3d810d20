use Rattle.std.proofs.Common.{◌≤◌, None, Some, sym, ap, subst, arith}
use Rattle.dk_tasks.proofs.Soonest.{IsSoonest, least_of, picked_of, soonest_of_none, soonest_at_front, soonest_of_later}
use Rattle.dk_tasks.proofs.tasks.Tasks.least_due.Goals as goal

none_at_all : (c : goal.In_default) → IsSoonest c.args.self.now.tasks c.args.at None
none_at_all c = subst (λ m. IsSoonest m c.args.at None) (ap (λ s. s.tasks) c.self.view_is) (soonest_of_none _ _ c.self.invariant.0 c.args.at (sym c.in_default.ensures))

pub returns-in_default-clause-least : goal.returns-in_default-clause-least
returns-in_default-clause-least c = least_of _ _ None (none_at_all c)

pub returns-in_default-clause-picked : goal.returns-in_default-clause-picked
returns-in_default-clause-picked c = picked_of _ _ None (none_at_all c)

none_yet : (c : goal.Then-place-at) → IsSoonest c.args.self.now.tasks c.args.at None
none_yet c = subst (λ m. IsSoonest m c.args.at None) (ap (λ s. s.tasks) c.self.view_is) (soonest_of_later _ _ c.self.invariant.0 c.args.at c.in-Some.place.now _ (sym c.in-Some.ensures) c.if-place-at.true)

pub returns-then-place-at-clause-least : goal.returns-then-place-at-clause-least
returns-then-place-at-clause-least c = least_of _ _ None (none_yet c)

pub returns-then-place-at-clause-picked : goal.returns-then-place-at-clause-picked
returns-then-place-at-clause-picked c = picked_of _ _ None (none_yet c)

at_front : (c : goal.After-result-1) → IsSoonest c.args.self.now.tasks c.args.at (Some c.in-Some.place.now.key)
at_front c =
    let due : c.in-Some.place.now.due ≤ c.args.at = omega (arith, c.if-place-at.false) in
    subst (λ m. IsSoonest m c.args.at (Some c.in-Some.place.now.key)) (ap (λ s. s.tasks) c.self.view_is) (soonest_at_front _ _ c.self.invariant.0 c.args.at c.in-Some.place.now _ (sym c.in-Some.ensures) due)

pub returns-clause-least : goal.returns-clause-least
returns-clause-least c = least_of _ _ (Some c.in-Some.place.now.key) (at_front c)

pub returns-clause-picked : goal.returns-clause-picked
returns-clause-picked c = picked_of _ _ (Some c.in-Some.place.now.key) (at_front c)
