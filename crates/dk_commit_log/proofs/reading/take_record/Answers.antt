use Rattle.std.proofs.Common.{◌+◌, subst}
use Rattle.dk_commit_log.specs.Ranges.{AreNumbered}
use Rattle.dk_commit_log.proofs.Walks.{entries_one}
use Rattle.dk_commit_log.proofs.reading.take_record.Goals as goal

pub returns-in-Ok-clause-damaged : goal.returns-in-Ok-clause-damaged
returns-in-Ok-clause-damaged c place is entries spelled numbered =
    c.take.ensures.damaged place is (subst (AreNumbered (c.args.found.now.seen + 1)) (entries_one c.args.format entries c.in-Ok.entries c.args.payload.now spelled (record { are = c.in-Ok.ensures.0; bytes = c.in-Ok.ensures.1 })) numbered)
