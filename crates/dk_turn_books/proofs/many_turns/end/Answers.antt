use Rattle.std.proofs.Common.{◌∙◌}
use Rattle.dk_turn_books.proofs.Passes.{continues_both}
use Rattle.dk_turn_books.proofs.many_turns.end.Goals as goal

pub returns : goal.returns
returns g c = (
  c.close-count.result.ticks,
  c.close-count.result.counted,
  continues_both (λ t. t.by) _ _ _ c.args.one c.args.two _ (c.reserve.ensures.items ∙ c.new-passes.ensures.items) c.push_reserved.ensures.items c.push_reserved-2.ensures.items c.close-count.ensures.fronts,
  c.close-count.ensures.named,
)
