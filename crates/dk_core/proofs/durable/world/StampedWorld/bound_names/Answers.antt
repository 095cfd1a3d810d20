use Rattle.std.proofs.Common.{ap, ◌∙◌}
use Rattle.std.proofs.lemmas.Result.{IfOk-weaker}
use Rattle.std.specs.FinMap.{entries as entries_of}
use Rattle.dk_core.proofs.Walked.{bare_entries}
use Rattle.dk_core.proofs.durable.world.StampedWorld.bound_names.Goals as goal

pub returns : goal.returns
returns c =
    IfOk-weaker c.entries.result _ _
    (λ list is. bare_entries (λ e. (e.0.now, e.1.now)) list.items c.args.self.now.names (is ∙ ap (λ w. entries_of w.names) c.self.view_is))
    c.entries.ensures
