use Rattle.std.proofs.Common.{sym, ap, ◌∙◌}
use Rattle.dk_turn_books.proofs.Counting.{none_entered}
use Rattle.dk_turn_books.proofs.speed.empty_turns_of.Goals as goal

pub returns : goal.returns
returns g c =
    let dealt = c.in_ok-turn.ensures in
    let log = c.in_ok-total.ensures in
    none_entered _ _ _ _ _ log.0
    (ap (λ n. n.passes) (sym c.requires.0) ∙ c.requires.1)
    dealt.0 dealt.1 c.empty_turns.ensures.number c.empty_turns.ensures.seen log.1 log.2 log.3
