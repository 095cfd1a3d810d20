use Rattle.std.proofs.Common.{ap, ◌∙◌}
use Rattle.dk_core.specs.StampedWorlds.{Stamped, with_room}
use Rattle.dk_core.specs.Publishing.{committed}
use Rattle.dk_core.proofs.Restamped.{made_so}
use Rattle.dk_core.proofs.durable.world.StampedWorld.publish.Goals as goal

pub returns-clause-world : goal.returns-clause-world
returns-clause-world c =
    let old = c.self.inside in
    let new = c.restamp.new in
    let w : Stamped = record {
      objects = old.objects.objects;
      names = old.names.names;
      tasks = old.tasks.tasks;
      commits = old.commits;
      last = old.last;
      room = record { objects = old.objects.spare; names = old.names.spare; tasks = old.tasks.spare };
    } in
    let stamped : Stamped = record {
      objects = new.objects.objects;
      names = new.names.names;
      tasks = new.tasks.tasks;
      commits = old.commits;
      last = old.last;
      room = record { objects = new.objects.spare; names = new.names.spare; tasks = new.tasks.spare };
    } in
    made_so c.args.run c.args.effects c.args.touched.now w stamped c.make.new.self _ c.restamp.ensures.objects c.restamp.ensures.names c.restamp.ensures.tasks c.make.ensures c.self-2.view_is _ c.largest-last.ensures
    ∙ ap (with_room _) (ap (committed c.args.run c.args.effects c.args.touched.now) c.self.view_is)
