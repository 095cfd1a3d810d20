use Rattle.std.proofs.Common.{◌≡◌, ◌≤◌, ◌++◌, ◌-◌, ◌+◌, ℕ, true, sym, ap, subst, ◌∙◌}
use Rattle.dk_model.specs.Legal.{IsLegal}
use Rattle.dk_host.specs.Keeping.{KeptHistory, new_places}
use Rattle.dk_host.proofs.KeptEvents.{the_one, told_more, place_here}
use Rattle.dk_host.proofs.history.History.enter.Goals as goal

pub push_reserved-requires : goal.push_reserved-requires
push_reserved-requires g c =
    let on : g.W.Hosting.keeps ≡ true = sym c.self.invariant.0 ∙ c.if-not-self.false in
    let legal = subst (λ es. IsLegal g.W.Hosting.opened (es ++ g.M.NotingAll.entries c.args.about.now)) (sym (ap (λ (v : KeptHistory). v.events) c.self.view_is)) c.requires.legal in
    let spare = subst (λ (n : ℕ). new_places c.in-Some.event ≤ n) (sym (ap (λ (v : KeptHistory). v.spare) c.self.view_is)) (c.requires.room on c.in-Some.event c.in-Some.is) in
    place_here g.W.Hosting.opened c.self.inside.keeps c.self.inside.events c.self.inside.kept.items c.self.inside.owed _ c.self.invariant.1 c.in-Some.event (g.M.NotingAll.entries c.args.about.now) _ c.if-not-self.false
    (the_one c.args.event c.in-Some.event _ (c.requires.kept on) c.in-Some.is) legal spare c.self.inside.kept.ok.0

pub invariant_of-self-in-Some : goal.invariant_of-self-in-Some
invariant_of-self-in-Some g c =
    let on : g.W.Hosting.keeps ≡ true = sym c.self.invariant.0 ∙ c.if-not-self.false in
    let legal = subst (λ es. IsLegal g.W.Hosting.opened (es ++ g.M.NotingAll.entries c.args.about.now)) (sym (ap (λ (v : KeptHistory). v.events) c.self.view_is)) c.requires.legal in
    let spare = subst (λ (n : ℕ). new_places c.in-Some.event ≤ n) (sym (ap (λ (v : KeptHistory). v.spare) c.self.view_is)) (c.requires.room on c.in-Some.event c.in-Some.is) in (
      c.self.invariant.0,
      told_more g.W.Hosting.opened c.self.inside.keeps c.self.inside.events c.self.inside.kept.items c.self.inside.owed _ c.self.invariant.1 c.in-Some.event (g.M.NotingAll.entries c.args.about.now) _ _ _ _ c.note_all.ensures c.if-not-self.false
          (the_one c.args.event c.in-Some.event _ (c.requires.kept on) c.in-Some.is) legal spare c.push_reserved.ensures.items c.owed_after-self-inside.ensures c.push_reserved.ensures.capacity,
    )
