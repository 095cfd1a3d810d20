use Rattle.std.proofs.Common.{rules, ap, ◌∙◌}
use Rattle.dk_turn.specs.Rule.{without_book}
use Rattle.dk_turn.proofs.Moves.{sees}
use Rattle.dk_turn.proofs.Turns.{watches, watched_all, has_back}
use Rattle.dk_turn.proofs.lending.watch_turn.Goals as goal

pub lend-requires-clause-book : goal.lend-requires-clause-book
lend-requires-clause-book g c = (_, ap (λ v. v.book) c.requires.desk)

pub load-requires : goal.load-requires
load-requires g c =
    let turn = watches _ _ _ _ _ _ c.requires.desk c.requires.watcher c.lend.ensures.to.1 in
    (search rules, search rules, sees g.O.Book.number _ _ _ _ _ (ap (λ v. v.book) turn))

pub lend-requires-2-clause-book : goal.lend-requires-2-clause-book
lend-requires-2-clause-book g c =
    let turn = watches _ _ _ _ _ _ c.requires.desk c.requires.watcher c.lend.ensures.to.1 in
    let all = watched_all g.O.Book.number _ _ _ _ _ turn c.load.ensures.2 in (_, ap (λ v. v.book) all.0)

pub returns : goal.returns
returns g c =
    let turn = watches _ _ _ _ _ _ c.requires.desk c.requires.watcher c.lend.ensures.to.1 in
    let all = watched_all g.O.Book.number _ _ _ _ _ turn c.load.ensures.2 in record {
      table = search rules;
      desk = has_back _ _ _ _ _ _ c.requires.desk c.lend.ensures.from.1 all.0 c.lend-2.ensures.to.1;
      watcher = c.lend-2.ensures.from.1 ∙ ap without_book all.0;
      begins = all.1;
    }
