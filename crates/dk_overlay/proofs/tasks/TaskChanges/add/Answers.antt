use Rattle.std.proofs.Common.{ap, ◌∙◌}
use Rattle.dk_map.specs.Entries.{put}
use Rattle.dk_map.proofs.Seen.{put_seen}
use Rattle.dk_types.specs.Keys.{key_cmp}
use Rattle.dk_overlay.specs.declared.change.TaskChange.TheVariants.{Added}
use Rattle.dk_overlay.proofs.Keys.{keys_total}
use Rattle.dk_overlay.proofs.tasks.TaskChanges.add.Goals as goal

pub returns-clause-ok : goal.returns-clause-ok
returns-clause-ok c = put_seen keys_total _ c.self.view_is c.self.invariant _ _ _ (c.insert.ensures.entries ∙ ap (put key_cmp c.args.key (Added c.args.task)) c.reserve_for.ensures.entries)
