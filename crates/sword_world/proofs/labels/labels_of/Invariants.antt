use Rattle.std.proofs.Common.{[], drop}
use Rattle.dk_txn.specs.Does.{Resumes}
use Rattle.sword_world.specs.Labels.{labels_from}
use Rattle.sword_world.proofs.labels.labels_of.Given as goal

-- what was left to tell at first is what is left to tell now
abbrev pub invariant-loop-id : goal.invariant-loop-id
invariant-loop-id g l =
    Resumes g.V.View.sights l.fn.txn l.txn (labels_from g.T.Managed.KIND g.T.Managed.of g.T.Labelled.label [] l.ids)
    (labels_from g.T.Managed.KIND g.T.Managed.of g.T.Labelled.label l.labels.items (drop l.id-index l.ids))
