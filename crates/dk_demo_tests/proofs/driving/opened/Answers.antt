use Rattle.std.proofs.Common.{refl, [], ◌∙◌}
use Rattle.dk_core.proofs.Bare.{bare_valid}
use Rattle.dk_demo_tests.proofs.driving.opened.Goals as goal

pub open-requires : goal.open-requires
open-requires g c = record { valid = bare_valid _ (c.from_vec.ensures ∙ c.new.ensures.items) (c.from_vec-2.ensures ∙ c.new-2.ensures.items) (c.from_vec-3.ensures ∙ c.new-3.ensures.items) refl }

pub returns-in-Ok : goal.returns-in-Ok
returns-in-Ok g c = record { opened = _; budget = _; events = []; stands = c.in-Ok.ensures.stands (g.G.Rules.rules c.args._game.now) }
