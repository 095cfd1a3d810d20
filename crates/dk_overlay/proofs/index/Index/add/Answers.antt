use Rattle.std.proofs.Common.{◌≡◌, rules, Some, ap, sym, ◌∙◌}
use Rattle.dk_types.specs.declared.item.Item.TheVariants as ask
use Rattle.dk_types.specs.Names.{bytes_cmp}
use Rattle.dk_map.specs.Entries.{put}
use Rattle.dk_types.specs.Keys.{id_cmp, key_cmp}
use Rattle.dk_overlay.proofs.Asking.{adds_object, adds_name, adds_next, adds_task, added}
use Rattle.dk_overlay.proofs.index.Index.add.Goals as goal

pub returns-in_ok-reserve-in-Object-clause-ok : goal.returns-in_ok-reserve-in-Object-clause-ok
returns-in_ok-reserve-in-Object-clause-ok c =
    let w = c.self.inside in
    let id = c.in-Object.id in
    let is : ask.Object id ≡ c.args.item.now = search rules in
    let e = c.insert.ensures.entries ∙ ap (put id_cmp id c.args.at) c.reserve.ensures.entries in
    added _ _ _ _ _ _ _ (adds_object (record { objects = w.objects.entries; names = w.names.entries; first = w.first; nexts = w.nexts.entries; tasks = w.tasks.entries }) c.args.at c.self.invariant.0 id)
    c.self.view_is (λ i. record { objects = sym e i; names = w.names.entries; first = w.first; nexts = w.nexts.entries; tasks = w.tasks.entries }) is

pub returns-in_ok-reserve-in-Bound-clause-ok : goal.returns-in_ok-reserve-in-Bound-clause-ok
returns-in_ok-reserve-in-Bound-clause-ok c =
    let w = c.self.inside in
    let name = c.in_ok-name-in-Bound.name in
    let is : ask.Bound name ≡ c.args.item.now = search rules in
    let e = c.insert-in-Bound.ensures.entries ∙ ap (put bytes_cmp name c.args.at) c.reserve-in-Bound.ensures.entries in
    added _ _ _ _ _ _ _ (adds_name (record { objects = w.objects.entries; names = w.names.entries; first = w.first; nexts = w.nexts.entries; tasks = w.tasks.entries }) c.args.at c.self.invariant.1 name)
    c.self.view_is (λ i. record { objects = w.objects.entries; names = sym e i; first = w.first; nexts = w.nexts.entries; tasks = w.tasks.entries }) is

pub returns-in_ok-reserve-in-NextAfter-Some-clause-ok : goal.returns-in_ok-reserve-in-NextAfter-Some-clause-ok
returns-in_ok-reserve-in-NextAfter-Some-clause-ok c =
    let w = c.self.inside in
    let after = c.in_ok-after-in-NextAfter-Some.after in
    let is : ask.NextAfter (Some after) ≡ c.args.item.now = search rules in
    let e = c.insert-in-NextAfter-Some.ensures.entries ∙ ap (put bytes_cmp after c.args.at) c.reserve-in-NextAfter-Some.ensures.entries in
    added _ _ _ _ _ _ _ (adds_next (record { objects = w.objects.entries; names = w.names.entries; first = w.first; nexts = w.nexts.entries; tasks = w.tasks.entries }) c.args.at c.self.invariant.2 after)
    c.self.view_is (λ i. record { objects = w.objects.entries; names = w.names.entries; first = w.first; nexts = sym e i; tasks = w.tasks.entries }) is

pub returns-in_ok-reserve-in-Task-clause-ok : goal.returns-in_ok-reserve-in-Task-clause-ok
returns-in_ok-reserve-in-Task-clause-ok c =
    let w = c.self.inside in
    let key = c.in-Task.key in
    let is : ask.Task key ≡ c.args.item.now = search rules in
    let e = c.insert-in-Task.ensures.entries ∙ ap (put key_cmp key c.args.at) c.reserve-in-Task.ensures.entries in
    added _ _ _ _ _ _ _ (adds_task (record { objects = w.objects.entries; names = w.names.entries; first = w.first; nexts = w.nexts.entries; tasks = w.tasks.entries }) c.args.at c.self.invariant.3 key)
    c.self.view_is (λ i. record { objects = w.objects.entries; names = w.names.entries; first = w.first; nexts = w.nexts.entries; tasks = sym e i }) is
