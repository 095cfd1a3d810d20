use Rattle.std.proofs.Common.{◌≡◌, ◌++◌, map as each, sym, ap, ◌∙◌}
use Rattle.dk_types.specs.declared.item.Item.TheVariants as ask
use Rattle.dk_overlay.specs.ReadsAndWrites.{ReadsAndWrites, changing_objects}
use Rattle.dk_overlay.proofs.PutAll.{all_changed}
use Rattle.dk_overlay.proofs.read_write_set.ReadWriteSet.change_all.Goals as goal

pub returns-in-Ok-clause-ok : goal.returns-in-Ok-clause-ok
returns-in-Ok-clause-ok c =
    let touched : c.append.new.self.items ≡ c.self.inside.touched.items ++ each (λ e. ask.Object e.0) c.args.changes.items =
    c.in_ok-append.ensures.items ∙ ap (λ items. c.self.inside.touched.items ++ items) (c.in_ok-listed.ensures ∙ ap (each (λ e. ask.Object e.0)) c.as_slice.ensures.value) in
    let before : ReadsAndWrites = record {
      reads = c.self.inside.reads;
      objects = c.self.inside.objects;
      names = c.self.inside.names;
      tasks = c.self.inside.tasks;
      touched = c.self.inside.touched.items;
      outs = c.self.inside.outs.items;
      run = c.self.inside.run;
      at = c.self.inside.at;
      objects_made = c.self.inside.objects_made;
      tasks_made = c.self.inside.tasks_made;
      mode = c.self.inside.mode;
    } in
    (λ i. record before { objects = c.in-Ok.ensures.ok i; touched = touched i }) ∙ sym (all_changed before c.args.changes.items) ∙ ap (λ t. changing_objects t c.args.changes.items) c.self.view_is
