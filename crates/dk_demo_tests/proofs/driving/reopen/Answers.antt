use Rattle.std.proofs.Common.{[], sym, subst}
use Rattle.dk_model.specs.Validity.{IsValid}
use Rattle.dk_core.specs.Listings.{world_of}
use Rattle.dk_core.proofs.Standing.{sound_of}
use Rattle.dk_demo_tests.proofs.Reopened.{reopened}
use Rattle.dk_demo_tests.proofs.driving.reopen.Goals as goal

pub open-requires : goal.open-requires
open-requires g c =
    let s = c.requires in
    let sound = sound_of (g.G.Rules.rules c.args._game.now) (g.G.Rules.lawful c.args._game.now) s.opened s.budget s.events c.args.core.now s.stands in
    record { valid = subst (λ d. IsValid (world_of d)) (sym c.in_ok-durable.ensures) (reopened _ sound.valid) }

pub returns-in-Ok : goal.returns-in-Ok
returns-in-Ok g c = record { opened = _; budget = _; events = []; stands = c.in-Ok.ensures.stands (g.G.Rules.rules c.args._game.now) }
