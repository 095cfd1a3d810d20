use Rattle.std.proofs.Common.{◌≡◌, ap, ◌∙◌}
use Rattle.dk_model.specs.Finishes.{Report}
use Rattle.dk_core.specs.StampedWorlds.{with_room}
use Rattle.dk_core.specs.Publishing.{committed}
use Rattle.dk_core.proofs.AfterCommit.{left_by, durable_left, stamps_left, claims_left, comes_to}
use Rattle.dk_core.proofs.durable.world.StampedWorld.commit.Goals as goal

-- what `publish` left, in the words of the run that was taken apart
left : (c : goal.After-drop-touched) → c.publish.new.self ≡ with_room c.publish.new.self.room (committed c.args.run c.args.finished.effects c.args.finished.touched.items c.args.self.now)
left c =
    left_by c.args.self.now c.publish.new.self c.args.run _ _ _ _ c.publish.ensures.world c.into_parts-effects.ensures.effects (c.deref.ensures.value ∙ ap (λ v. v.items) c.into_parts-effects.ensures.touched)

pub returns-clause-durable : goal.returns-clause-durable
returns-clause-durable c = durable_left c.args.self.now c.publish.new.self c.args.run c.args.finished.effects c.args.finished.touched.items (left c)

pub returns-clause-stamps : goal.returns-clause-stamps
returns-clause-stamps c = stamps_left c.args.self.now c.publish.new.self c.args.run c.args.finished.effects c.args.finished.touched.items (left c)

pub returns-clause-claims : goal.returns-clause-claims
returns-clause-claims c = claims_left c.args.self.now c.publish.new.self c.args.run c.args.finished.effects c.args.finished.touched.items (left c)

pub returns-clause-steps : goal.returns-clause-steps
returns-clause-steps c s from told =
    comes_to c.args.self.now c.publish.new.self c.args.run s from c.args.finished.effects c.args.finished.touched.items (ap (λ (t : Report). t.effects) told) (ap (λ (t : Report). t.touched) told)
    (returns-clause-durable c) (returns-clause-stamps c) (returns-clause-claims c)
