use Rattle.dk_core.proofs.Records.{none_there, none_of_kind, decoded}
use Rattle.dk_core.proofs.opening.recorded.record_at.Goals as goal

pub returns-in_default : goal.returns-in_default
returns-in_default c = none_there c.args.world.now c.args.id c.in_default.ensures

pub returns-then-object : goal.returns-then-object
returns-then-object c = none_of_kind c.args.world.now c.args.id c.in-Some.object.now c.in-Some.field-0-1 c.in-Some.ensures c.if-object.true

pub returns : goal.returns
returns c = decoded c.args.world.now c.args.id c.in-Some.object.now c.in-Some.field-0-1 c.in-Some.ensures c.decode_record.result c.if-object.false c.decode_record.ensures
