use Rattle.std.proofs.Common.{sym, subst}
use Rattle.dk_host.specs.Checkpoints.{Rewrites}
use Rattle.dk_host.proofs.Noticed.{checkpoint_shown_with}
use Rattle.dk_host.proofs.free.FreeStore.checkpoint.Goals as goal

pub returns-clause-shows : goal.returns-clause-shows
returns-clause-shows g c =
    checkpoint_shown_with g.W.Hosting.board g.W.Hosting.counted c.self.inside.store c.checkpoint-answer.new.self c.self.inside.board c.self.invariant.1 c.shown.result
    (subst (Rewrites c.self.inside.store c.checkpoint-answer.new.self) (sym c.shown.ensures.plain) c.checkpoint-answer.ensures.rewrites) c.shown.ensures.notice c.shown.ensures.counts
