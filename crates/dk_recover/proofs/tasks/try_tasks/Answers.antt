use Rattle.std.proofs.Common.{map, subst, ap, sym, ◌∙◌}
use Rattle.dk_map.specs.Entries.{IsOrdered}
use Rattle.dk_model.specs.Keys.{key_cmp}
use Rattle.dk_model.specs.Effects.{task_of}
use Rattle.dk_model.proofs.Maps.{keys_total, exact_keys}
use Rattle.dk_recover.specs.Changes.{with_put}
use Rattle.dk_recover.proofs.MapChanges.{put_ordered, without_ordered}
use Rattle.dk_recover.proofs.tasks.try_tasks.Goals as goal

pub move_all-requires : goal.move_all-requires
move_all-requires c =
    subst (IsOrdered key_cmp) (sym (c.add_all.ensures ∙ ap (with_put key_cmp (map task_of c.args.added)) (c.in_ok-reserve.ensures.entries ∙ c.remove_all.ensures)))
    (put_ordered key_cmp keys_total exact_keys (map task_of c.args.added) _ (without_ordered key_cmp keys_total exact_keys c.args.dropped.now c.args.tasks.now.entries c.requires))
