use Rattle.std.proofs.Common.{◌∙◌}
use Rattle.dk_turn_books.proofs.Passes.{continues_both}
use Rattle.dk_turn_books.proofs.relay_race.end.Goals as goal

pub returns-clause-fronts : goal.returns-clause-fronts
returns-clause-fronts g c =
    continues_both (λ l. l.by) _ _ _ c.args.one c.args.two _ (c.reserve.ensures.items ∙ c.new-passes.ensures.items) c.push_reserved.ensures.items c.push_reserved-2.ensures.items c.close-legs.ensures.fronts
