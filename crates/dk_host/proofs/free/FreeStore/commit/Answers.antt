use Rattle.std.proofs.Common.{sym, subst}
use Rattle.dk_host.specs.Refusals.{Leaves}
use Rattle.dk_host.proofs.Noticed.{commit_shown_with}
use Rattle.dk_host.proofs.free.FreeStore.commit.Goals as goal

pub returns-clause-shows : goal.returns-clause-shows
returns-clause-shows g c =
    commit_shown_with g.W.Hosting.board g.W.Hosting.counted c.self.inside.store c.commit-answer.new.self c.self.inside.board c.self.invariant.1 c.shown.result
    (subst (Leaves c.self.inside.store c.commit-answer.new.self) (sym c.shown.ensures.plain) c.commit-answer.ensures.leaves) c.shown.ensures.notice c.shown.ensures.counts
