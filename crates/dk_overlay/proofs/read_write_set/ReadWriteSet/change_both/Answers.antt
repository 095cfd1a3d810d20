use Rattle.std.proofs.Common.{◌≡◌, is_some, ap, ◌∙◌}
use Rattle.std.specs.FinMap as map
use Rattle.dk_overlay.specs.Changes.{put_back}
use Rattle.dk_overlay.proofs.Keys.{ids_total, ids_same}
use Rattle.dk_overlay.proofs.PutBack.{back_again, is_there}
use Rattle.dk_overlay.proofs.read_write_set.ReadWriteSet.change_both.Goals as goal

pub put_back-requires : goal.put_back-requires
put_back-requires c = ap (λ m. is_some (map.get m c.args.id)) c.in_ok-stood.ensures.ok.1 ∙ is_there ids_total ids_same c.self.inside.objects c.args.id c.args.change

pub returns-in-Err-clause-err : goal.returns-in-Err-clause-err
returns-in-Err-clause-err c =
    let objects : c.put_back.new.self ≡ c.self.inside.objects =
    c.put_back.ensures ∙ (λ i. put_back (c.in_ok-stood.ensures.ok.1 i) c.args.id (c.in_ok-stood.ensures.ok.0 i)) ∙ back_again ids_total ids_same c.self.inside.objects c.args.id c.args.change in
    (λ i. record {
      reads = c.self.inside.reads;
      objects = objects i;
      names = c.in-Err.ensures.err i;
      tasks = c.self.inside.tasks;
      touched = c.reserve.ensures.items i;
      outs = c.self.inside.outs.items;
      run = c.self.inside.run;
      at = c.self.inside.at;
      objects_made = c.self.inside.objects_made;
      tasks_made = c.self.inside.tasks_made;
      mode = c.self.inside.mode;
    }) ∙ c.self.view_is
