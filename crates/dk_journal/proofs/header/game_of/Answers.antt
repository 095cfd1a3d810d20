use Rattle.dk_journal.proofs.HeaderBytes.{visible_passes}
use Rattle.dk_journal.proofs.header.game_of.Goals as goal

pub returns-in-Ok : goal.returns-in-Ok
returns-in-Ok c = (c.in-Ok.ensures.ok.0, c.in-Ok.ensures.ok.1, visible_passes c.args.bytes.now c.in-Ok.ensures.ok.1.visible)
