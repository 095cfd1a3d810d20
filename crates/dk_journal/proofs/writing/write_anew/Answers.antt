use Rattle.dk_journal.proofs.Anew.{cleared, closed, filled, opened}
use Rattle.dk_journal.proofs.writing.write_anew.Goals as goal

pub returns-in_err-put-2-clause-run : goal.returns-in_err-put-2-clause-run
returns-in_err-put-2-clause-run g c tells most short room =
    filled _ _ _ (c.requires.ready tells) most short room _ (c.clear.ensures.run tells) (c.in_ok-clear.ensures.done tells) _ (c.put.ensures.run tells) (c.in_ok-put.ensures.done tells) _ (c.put-2.ensures.run tells)

pub returns-in_err-put-3-clause-run : goal.returns-in_err-put-3-clause-run
returns-in_err-put-3-clause-run g c tells most short room =
    opened _ _ _ (c.requires.ready tells) most short room _ (c.clear.ensures.run tells) (c.in_ok-clear.ensures.done tells) _ (c.put.ensures.run tells) (c.in_ok-put.ensures.done tells) _ (c.put-2.ensures.run tells) (c.in_ok-put-2.ensures.done tells) _ (c.put-3.ensures.run tells)

pub returns-clause-run : goal.returns-clause-run
returns-clause-run g c tells most short room =
    opened _ _ _ (c.requires.ready tells) most short room _ (c.clear.ensures.run tells) (c.in_ok-clear.ensures.done tells) _ (c.put.ensures.run tells) (c.in_ok-put.ensures.done tells) _ (c.put-2.ensures.run tells) (c.in_ok-put-2.ensures.done tells) _ (c.put-3.ensures.run tells)

pub returns-in_err-clear-clause-run : goal.returns-in_err-clear-clause-run
returns-in_err-clear-clause-run g c tells most short room = cleared _ _ _ (c.requires.ready tells) most short room _ (c.clear.ensures.run tells)

pub returns-in_err-put-clause-run : goal.returns-in_err-put-clause-run
returns-in_err-put-clause-run g c tells most short room = closed _ _ _ (c.requires.ready tells) most short room _ (c.clear.ensures.run tells) (c.in_ok-clear.ensures.done tells) _ (c.put.ensures.run tells)
