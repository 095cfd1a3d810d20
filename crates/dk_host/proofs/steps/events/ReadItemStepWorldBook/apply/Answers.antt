use Rattle.std.proofs.Common.{[], sym, subst, refl}
use Rattle.std.proofs.lemmas.List.{append-nil}
use Rattle.std.proofs.lemmas.Result.{IfOk-weaker}
use Rattle.dk_host.specs.Books.{IsKept}
use Rattle.dk_host.specs.Calls.{ReadsAt}
use Rattle.dk_host.proofs.Stepping.{adds, nothing_of, none_at}
use Rattle.dk_host.proofs.steps.events.ReadItemStepWorldBook.apply.Goals as goal

pub returns : goal.returns
returns g c =
    let o = g.W.Hosting.opened in
    let core = c.book.inside.core in
    let k = subst (λ es. IsKept o es core c.book.inside.commits.total c.book.inside.places.total) c.book.view_is c.book.invariant in
    let now = c.args.book.now in (
      [],
      sym (append-nil now),
      (nothing_of c.args._pass).by,
      record {
        adds = adds o now core core c.book.inside.commits.total c.book.inside.places.total k [] (none_at o now core core c.book.inside.commits.total c.book.inside.places.total k refl);
        read = subst (λ es. ReadsAt o es c.args.self.item.now c.read.result) (sym (append-nil now)) (IfOk-weaker c.read.result _ _ (λ read at. at o.rules o.durable o.budget now k.1) c.read.ensures.at);
      },
    )
