use Rattle.dk_core.proofs.Committed.{prepared_still, room_still}
use Rattle.dk_core_tests.proofs.between.commit_after_others.Goals as goal

pub publish-requires-clause-prepared : goal.publish-requires-clause-prepared
publish-requires-clause-prepared c = prepared_still _ _ c.args.claimed c.args.finished _ c.in_ok-others.ensures.ready c.in_ok-prepared.ensures.prepared

pub publish-requires-clause-room : goal.publish-requires-clause-room
publish-requires-clause-room c = room_still _ _ c.args.finished c.in_ok-others.ensures.ready c.in_ok-prepared.ensures.room
