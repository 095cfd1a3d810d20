use Rattle.std.proofs.Common.{◌≡◌, length, sym, ap, ◌∙◌}
use Rattle.std.proofs.lemmas.List.{length-map}
use Rattle.std.specs.FinMap as map
use Rattle.dk_types.specs.Keys.{key_cmp}
use Rattle.dk_tasks.specs.Tasks.{Kept, bare, durable_tasks}
use Rattle.dk_tasks.proofs.Durable.{entries-durable}
use Rattle.dk_core.proofs.durable.world.StampedWorld.pending_len.Goals as goal

-- as many tasks as are kept
len_tasks : (tasks : map.FinMap key_cmp Kept) → map.len tasks ≡ map.len (durable_tasks tasks)
len_tasks tasks = map.len-entries tasks ∙ sym (map.len-entries (durable_tasks tasks) ∙ ap length (entries-durable tasks) ∙ length-map (map.entries tasks) bare)

pub returns : goal.returns
returns c = c.len.ensures ∙ len_tasks c.self.inside.tasks.tasks ∙ ap (λ w. map.len (durable_tasks w.tasks)) c.self.view_is
