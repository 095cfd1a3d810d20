use Rattle.dk_journal.proofs.Closings.{closed_runs}
use Rattle.dk_journal.proofs.writing.close.Goals as goal

pub returns-clause-run : goal.returns-clause-run
returns-clause-run g c tells =
    let gate = c.in_ok-is_open.ensures.open_gate tells c.if-not-branch.false in
    closed_runs c.args.side _ _ _ (c.requires.settled tells) (c.is_open.ensures.looks tells) gate.0 gate.1 (c.put.ensures.run tells)
