use Rattle.std.proofs.Common.{ap, ◌∙◌}
use Rattle.dk_map.specs.Entries.{put}
use Rattle.dk_map.proofs.Seen.{put_seen}
use Rattle.dk_types.specs.Keys.{id_cmp}
use Rattle.dk_overlay.proofs.Keys.{ids_total}
use Rattle.dk_overlay.proofs.objects.ObjectChanges.set.Goals as goal

pub returns-clause-ok : goal.returns-clause-ok
returns-clause-ok c = put_seen ids_total _ c.self.view_is c.self.invariant _ _ _ (c.insert.ensures.entries ∙ ap (put id_cmp c.args.id c.args.change) c.reserve_for.ensures.entries)
