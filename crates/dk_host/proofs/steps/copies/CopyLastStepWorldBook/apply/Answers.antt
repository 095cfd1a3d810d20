use Rattle.std.proofs.Common.{[], sym, subst, ◌∙◌}
use Rattle.std.proofs.lemmas.List.{append-nil}
use Rattle.dk_core.specs.Rooms.{HasPlaces}
use Rattle.dk_host.specs.Books.{IsKept}
use Rattle.dk_host.proofs.Stepping.{nothing_of}
use Rattle.dk_host.proofs.Copying.{adds_none, copies}
use Rattle.dk_host.proofs.steps.copies.CopyLastStepWorldBook.apply.Goals as goal

pub invariant_of-book : goal.invariant_of-book
invariant_of-book g c = (
  c.book.invariant.0,
  c.book.invariant.1,
  c.audit.ensures.commits.2 ∙ c.book.invariant.2,
  subst (HasPlaces c.book.inside.core.world.room) (sym c.audit.ensures.places.2) c.book.invariant.3,
)

pub returns : goal.returns
returns g c =
    let o = g.W.Hosting.opened in
    let now = c.args.book.now in
    let k = subst (λ es. IsKept o es c.book.inside.core c.book.inside.commits.total c.book.inside.places.total) c.book.view_is c.book.invariant in (
      [],
      c.book.view_is ∙ sym (append-nil now),
      (nothing_of c.args._pass).by,
      (
        c.audit.ensures.commits.1,
        c.audit.ensures.places.1,
        c.audit.ensures.whole,
        record { sees = record { adds = adds_none o now c.book.inside.core _ _ k; counted = sym (c.audit.ensures.commits.0 ∙ k.2) }; copied = (copies o now c.book.inside.core _ _ k c.copy.result c.copy.ensures).copied },
      ),
    )
