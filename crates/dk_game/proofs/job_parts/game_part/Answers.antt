use Rattle.std.proofs.Common.{ap, ◌∙◌}
use Rattle.dk_types.specs.declared.mode.Mode.TheVariants as mode
use Rattle.dk_txn.proofs.Kit.{within_does}
use Rattle.dk_game.proofs.job_parts.game_part.Goals as goal

pub returns-clause-does : goal.returns-clause-does
returns-clause-does g c =
    within_does mode.Game c.set_mode-before.ensures.same_view c.set_mode-before.ensures.view_stays c.set_mode-before.ensures.mode c.run-end.ensures
    c.set_mode.ensures.same_view c.set_mode.ensures.view_stays (c.set_mode.ensures.mode ∙ ap (λ m. record (c.run-end.new.txn.set) { mode = m }) c.set_mode-before.ensures.old)
