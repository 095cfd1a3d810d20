use Rattle.std.proofs.Common.{ap, ◌∙◌, None, Some}
use Rattle.std.specs.FinMap.{get}
use Rattle.dk_types.specs.declared.object.Object.{Object}
use Rattle.dk_core.proofs.Reading.{object_said, object_read}
use Rattle.dk_core.proofs.durable.world.StampedWorld.read_object.Goals as goal

pub returns-in-None : goal.returns-in-None
returns-in-None c = object_read c.args.self.now c.args.id None (c.in-None.ensures ∙ ap (λ w. get w.objects c.args.id) c.self.view_is)

pub returns-in_ok-clone-in-Some : goal.returns-in_ok-clone-in-Some
returns-in_ok-clone-in-Some c =
    let same = c.in_ok-clone-in-Some.ensures.cases in
    ap (λ (o : Object). object_said o c.in-Some.stamp) (λ i. record { kind = same.0 i; bytes = same.1 i })
    ∙ object_read c.args.self.now c.args.id (Some (c.in-Some.object.now, c.in-Some.stamp)) (c.in-Some.ensures ∙ ap (λ w. get w.objects c.args.id) c.self.view_is)
