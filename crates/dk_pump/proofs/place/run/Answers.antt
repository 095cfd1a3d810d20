use Rattle.std.proofs.Common.{◌≡◌, IfSome, ap, subst, ◌∙◌}
use Rattle.dk_types.specs.declared.event.Event.{Event}
use Rattle.dk_turn.specs.Fronts.{Known}
use Rattle.dk_pump.proofs.Choices.{of_some}
use Rattle.dk_pump.proofs.Numbered.{ended_number}
use Rattle.dk_pump.proofs.place.run.Goals as goal

-- what the helped session gives the session gives, which began with this pass
pub returns-in-Ok : goal.returns-in-Ok
returns-in-Ok g c =
    let done = c.in-Ok.done in
    let session = c.new-session in
    let gives = subst (λ s. IfSome s.underway (λ u. (done.began ≡ u.began) × (done.given ≡ u.given))) c.new.ensures c.in-Ok.ensures in
    let began : done.began ≡ c.args.pass = of_some session.result.underway (λ u. u.began ≡ c.args.pass) (λ u. (done.began ≡ u.began) × (done.given ≡ u.given)) session.ensures.there session.ensures.began gives (λ u is same. same.0 ∙ is) in
    ended_number g.W.Hosting.opened g.W.Hosting.keeps g.J.Naming.name.passes done c.has_ended.ensures ∙ ap (λ (p : Known Event). p.number) began
