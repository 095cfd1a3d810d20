use Rattle.std.proofs.Common.{[], sym, subst, ◌∙◌}
use Rattle.std.proofs.lemmas.List.{append-nil}
use Rattle.dk_host.specs.Books.{IsAt, IsKept}
use Rattle.dk_host.specs.Calls.{IsHonestAt}
use Rattle.dk_host.proofs.Stepping.{nothing_of, may_granted}
use Rattle.dk_host.proofs.Committing.{prepare_kept, prepare_gives}
use Rattle.dk_host.proofs.steps.commits.PrepareStepWorldBook.apply.Goals as goal

pub prepare-result-requires : goal.prepare-result-requires
prepare-result-requires g c =
    let o = g.W.Hosting.opened in
    let k = subst (λ es. IsKept o es c.book.inside.core c.book.inside.commits.total c.book.inside.places.total) c.book.view_is c.book.invariant in
    record { granted = may_granted o c.args._pass c.args.book.now c.book.inside.core c.args.self.claimed.now k.1 c.requires.2.0 }

pub invariant_of-book : goal.invariant_of-book
invariant_of-book g c =
    let o = g.W.Hosting.opened in
    let at = sym c.book.view_is in
    prepare_kept o c.book.inside.history.events c.book.inside.core c.prepare-result.new.self c.book.inside.commits.total c.book.inside.places.total c.book.invariant c.prepare-result.ensures.stays c.args.self.claimed.now c.args.self.finished.now
    c.prepare-result.result c.prepare-result.ensures.prepares (may_granted o c.args._pass c.args.book.now c.book.inside.core c.args.self.claimed.now (subst (λ es. IsAt o es c.book.inside.core) c.book.view_is c.book.invariant.1) c.requires.2.0) (subst (λ es. IsHonestAt o es c.args.self.claimed.now c.args.self.finished.now) at c.requires.2.1) _ _ c.audit.ensures.commits.2 c.keep_for.ensures.places.1

pub returns : goal.returns
returns g c =
    let o = g.W.Hosting.opened in
    let now = c.args.book.now in
    let k = subst (λ es. IsKept o es c.book.inside.core c.book.inside.commits.total c.book.inside.places.total) c.book.view_is c.book.invariant in (
      [],
      c.book.view_is ∙ sym (append-nil now),
      (nothing_of c.args._pass).by,
      (
        c.keep_for.ensures.whole.0 ∙ (c.let_go.ensures.whole.0 ∙ c.audit.ensures.whole.0),
        c.keep_for.ensures.whole.1,
        c.keep_for.ensures.commits ∙ (c.let_go.ensures.commits ∙ c.audit.ensures.commits.1),
        prepare_gives o now c.book.inside.core c.prepare-result.new.self c.book.inside.commits.total c.book.inside.places.total k c.prepare-result.ensures.stays c.args.self.claimed.now c.args.self.finished.now
            c.prepare-result.result c.prepare-result.ensures.prepares (may_granted o c.args._pass now c.book.inside.core c.args.self.claimed.now k.1 c.requires.2.0) c.requires.2.1 c.prepare-result.ensures.stale _ _ c.audit.ensures.commits.0 c.keep_for.ensures.places.0,
      ),
    )
