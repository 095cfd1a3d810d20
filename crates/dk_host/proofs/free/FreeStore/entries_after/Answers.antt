use Rattle.std.proofs.Common.{sym, subst}
use Rattle.dk_host.specs.Tails.{LeavesRead}
use Rattle.dk_host.proofs.Noticed.{reading_shown_with}
use Rattle.dk_host.proofs.free.FreeStore.entries_after.Goals as goal

pub returns-clause-shows : goal.returns-clause-shows
returns-clause-shows g c =
    reading_shown_with g.W.Hosting.board g.W.Hosting.counted c.self.inside.store c.entries_after-answer.new.self c.self.inside.board c.self.invariant.1 c.shown.result
    (subst (LeavesRead c.self.inside.store c.entries_after-answer.new.self) (sym c.shown.ensures.plain) c.entries_after-answer.ensures.leaves) c.entries_after-answer.ensures.counts c.shown.ensures.notice c.shown.ensures.counts
