use Rattle.std.proofs.Common.{sym, ap, ◌∙◌}
use Rattle.dk_turn_books.proofs.Counting.{none_lost}
use Rattle.dk_turn_books.proofs.many_turns.tally.Goals as goal

pub returns : goal.returns
returns g c =
    let dealt = c.in_ok-turn.ensures in
    let told = c.count_in_threads-one.ensures in
    let log = c.in_ok-total.ensures in
    none_lost _ _ _ _ _ _ _ _ _ log.0 c.requires.turns
    (ap (λ n. n.passes) (sym c.requires.name.0) ∙ c.requires.name.1)
    (ap (λ k. k.number) dealt.0)
    (ap (λ k. k.number) dealt.1)
    told.numbers.0 told.numbers.1 told.one told.two log.1 log.2 log.3
