use Rattle.std.proofs.Common.{[], sym, subst}
use Rattle.std.proofs.lemmas.List.{append-nil}
use Rattle.dk_host.specs.Books.{IsKept}
use Rattle.dk_host.proofs.Stepping.{nothing_of}
use Rattle.dk_host.proofs.Copying.{copies}
use Rattle.dk_host.proofs.steps.copies.CopyWorldStepWorldBook.apply.Goals as goal

pub returns : goal.returns
returns g c =
    let o = g.W.Hosting.opened in
    let k = subst (λ es. IsKept o es c.book.inside.core c.book.inside.commits.total c.book.inside.places.total) c.book.view_is c.book.invariant in (
      [],
      sym (append-nil c.args.book.now),
      (nothing_of c.args._pass).by,
      copies o c.args.book.now c.book.inside.core _ _ k c.copy.result c.copy.ensures,
    )
