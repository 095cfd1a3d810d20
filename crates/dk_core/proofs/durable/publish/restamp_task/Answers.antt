use Rattle.std.proofs.Common.{refl, sym, ap, ◌∙◌, map}
use Rattle.dk_model.proofs.Maps.{keys_total, exact_keys}
use Rattle.dk_tasks.specs.Tasks.{with_stamp}
use Rattle.dk_model.specs.Effects.{with_set}
use Rattle.dk_core.specs.Publishing.{unclaimed_entry}
use Rattle.dk_core.proofs.Keys.{keys_told}
use Rattle.dk_core.proofs.MapFacts.{set-Changed, set-settled}
use Rattle.dk_core.proofs.durable.publish.restamp_task.Goals as goal

-- what will be added has the stamp then
pub returns-in-Some-clause-stamped : goal.returns-in-Some-clause-stamped
returns-in-Some-clause-stamped c =
    sym (set-settled keys_total exact_keys (with_stamp c.args.stamp) (unclaimed_entry c.args.stamp) (λ _. refl) c.args.added.now c.args.next.now c.in-Some.task.now c.in-Some.ensures.lookup.3.0 c.in-Some.ensures.lookup.1
    c.args.key (keys_told.equal c.in-Some.task.now.key c.args.key (sym c.eq.ensures ∙ c.if-eq.true)) c.args.tasks.now.tasks)

-- and all else has it now
pub returns-in_default-clause-stamped : goal.returns-in_default-clause-stamped
returns-in_default-clause-stamped c =
    ap (with_set (map (unclaimed_entry c.args.stamp) c.args.added.now)) c.restamp.ensures.tasks
    ∙ set-Changed keys_total exact_keys (with_stamp c.args.stamp) (unclaimed_entry c.args.stamp) (λ _. refl) c.args.added.now c.args.tasks.now.tasks c.args.key
