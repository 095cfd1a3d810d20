use Rattle.std.proofs.Common.{sym, ap, ◌∙◌, map}
use Rattle.std.proofs.lemmas.List.{nil_from_length}
use Rattle.std.specs.Vec.Iter.{into_iter_items}
use Rattle.dk_tasks.proofs.Walk.{walked, task_behind}
use Rattle.dk_tasks.proofs.tasks.Tasks.in_order.Goals as goal

pub returns : goal.returns
returns c =
    let left = c.loop-stored.stored-iterator in
    walked _ _ (ap (λ s. s.tasks) c.self.view_is) c.self.invariant.0.ordered c.self.invariant.0.keyed (map (λ task. task.now) c.loop-stored.list.items) (into_iter_items left) c.in_ok-entries.entries.items
    (c.loop-stored.invariant ∙ ap (map task_behind) c.into_iter-stored-iterator.ensures.into_iter_gives.0) (nil_from_length _ (sym left.rest.ok.0 ∙ c.in-None.ensures.steps.0)) c.in_ok-entries.ensures
