use Rattle.std.proofs.Common.{◌≡◌, drop}
use Rattle.dk_model.specs.Steps.{leave_channels}
use Rattle.dk_txn.specs.Does.{Resumes}
use Rattle.dk_game.proofs.session_jobs.leave_channels.Given as goal

-- to leave every channel from the start is to leave the rest of them from here, in the mode of the start
abbrev pub invariant-loop-name : goal.invariant-loop-name
invariant-loop-name g l = Resumes g.V.View.sights l.fn.txn l.txn (leave_channels l.session l.channels) (leave_channels l.session (drop l.name-index l.channels)) × (l.txn.set.mode ≡ l.fn.txn.set.mode)
