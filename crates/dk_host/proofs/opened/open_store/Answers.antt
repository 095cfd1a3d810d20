use Rattle.std.proofs.Common.{Ok, Err}
use Rattle.dk_types.specs.declared.side.Side.TheVariants.{Zero, One}
use Rattle.dk_disk.specs.DiskHistories.{now}
use Rattle.dk_host.proofs.Answered.{is_accepted}
use Rattle.dk_host.proofs.opened.open_store.Goals as goal

pub returns-in-Ok-clause-accepted : goal.returns-in-Ok-clause-accepted
returns-in-Ok-clause-accepted g c tells d has our may =
    let past = g.M.Home.past c.args.home in
    is_accepted (now past Zero).reads (now past One).reads c.args.game.now past d has our may (Ok c.in-Ok.stood) (c.in-Ok.ensures.answer tells)

pub returns-in-Err-clause-accepted : goal.returns-in-Err-clause-accepted
returns-in-Err-clause-accepted g c tells d has our may =
    let past = g.M.Home.past c.args.home in
    is_accepted (now past Zero).reads (now past One).reads c.args.game.now past d has our may (Err c.in-Err.fault) (c.in-Err.ensures.answer tells)
