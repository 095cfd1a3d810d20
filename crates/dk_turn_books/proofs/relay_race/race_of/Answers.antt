use Rattle.std.proofs.Common.{sym, ap, ◌∙◌, arith}
use Rattle.dk_turn_books.proofs.Shares.{two_shares}
use Rattle.dk_turn_books.proofs.relay_race.race_of.Goals as goal

pub returns-clause-all : goal.returns-clause-all
returns-clause-all g c =
    let dealt = c.in_ok-turn.ensures in
    let told = c.in_ok-one.ensures in
    let legs = c.in_ok-legs_run.legs_run in
    let share = two_shares (λ l. l.by) _ _ _ _ _ _ _ legs.items
    (ap (λ n. n.passes) (sym c.requires.name.0) ∙ c.requires.name.1)
    (ap (λ k. k.number) dealt.0)
    (ap (λ k. k.number) dealt.1)
    told.numbers.0 told.numbers.1 told.one told.two c.in_ok-legs_run.ensures.fronts c.in_ok-legs_run.ensures.named in
    omega arith
