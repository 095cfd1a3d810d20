use Rattle.std.proofs.Common.{[], length, refl, sym, ap, subst, ◌∙◌}
use Rattle.std.proofs.lemmas.List.{append-nil}
use Rattle.dk_host.specs.Books.{IsKept}
use Rattle.dk_host.proofs.Stepping.{adds, nothing_of, none_at}
use Rattle.dk_host.proofs.steps.events.CountKeptStepWorldBook.apply.Goals as goal

pub returns : goal.returns
returns g c =
    let o = g.W.Hosting.opened in
    let core = c.book.inside.core in
    let k = subst (λ es. IsKept o es core c.book.inside.commits.total c.book.inside.places.total) c.book.view_is c.book.invariant in
    let now = c.args.book.now in (
      [],
      sym (append-nil now),
      (nothing_of c.args._pass).by,
      record {
        adds = adds o now core core c.book.inside.commits.total c.book.inside.places.total k [] (none_at o now core core c.book.inside.commits.total c.book.inside.places.total k refl);
        counts = λ on. c.len.ensures on ∙ ap length c.book.view_is;
      },
    )
