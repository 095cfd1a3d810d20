use Rattle.std.proofs.Common.{◌==◌, rules, ap, refl}
use prog.Atomic.{either}
use Rattle.dk_turn.proofs.Moves.{enters}
use Rattle.dk_turn.proofs.Turns.{adds_all}
use Rattle.dk_turn.proofs.lending.add_entries.Goals as goal

pub compare_exchange_with-requires : goal.compare_exchange_with-requires
compare_exchange_with-requires g c =
    let r = c.requires.added in
    (search rules, search rules, enters g.O.Book.number g.O.Book.history _ _ _ _ (λ k. either (k == c.peek-before.result) c.saturating_add-after.result k) _ _ _ _ (ap (λ v. v.number) r.2) (ap (λ v. v.book) r.2) r.3 r.4)

pub returns : goal.returns
returns g c =
    let all = adds_all g.O.Book.number _ _ _ _ _ _ c.requires.added.2 (c.compare_exchange_with.ensures.2 _ refl) in
    record { table = search rules; pass = all.0; named = all.1 }
