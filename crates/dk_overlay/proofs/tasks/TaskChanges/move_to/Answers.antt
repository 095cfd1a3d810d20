use Rattle.std.proofs.Common.{ap, ◌∙◌}
use Rattle.std.specs.FinMap as map
use Rattle.dk_map.specs.Entries.{put, find}
use Rattle.dk_map.proofs.Seen.{put_seen, get_seen}
use Rattle.dk_types.specs.Keys.{key_cmp}
use Rattle.dk_overlay.specs.Changes.{moving}
use Rattle.dk_overlay.proofs.Keys.{keys_total}
use Rattle.dk_overlay.proofs.tasks.TaskChanges.move_to.Goals as goal

pub returns-clause-ok : goal.returns-clause-ok
returns-clause-ok c =
    put_seen keys_total _ c.self.view_is c.self.invariant _ _ _ (c.insert.ensures.entries ∙ ap (put key_cmp c.args.key c.in_ok-change.change) c.reserve_for.ensures.entries)
    ∙ ap (map.insert c.args.self.now c.args.key) (c.in_ok-change.ensures ∙ ap (λ o. moving o c.args.from c.args.to) (c.get.ensures ∙ ap (find key_cmp c.args.key) c.reserve_for.ensures.entries ∙ get_seen _ c.self.view_is c.self.invariant _))
