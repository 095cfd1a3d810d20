use Rattle.std.proofs.Common.{sym, ap, ◌∙◌}
use Rattle.dk_turn_books.proofs.Passes.{two_dealt}
use Rattle.dk_turn_books.proofs.many_turns.begin.Goals as goal

pub returns : goal.returns
returns g c = two_dealt _ _ _ _ _ _ c.in-Ok.ensures.ok (ap (λ n. n.passes) (sym c.requires.0) ∙ c.requires.1) c.in_ok-two.ensures.items c.in_ok-one.ensures.items
