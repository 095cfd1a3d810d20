use Rattle.std.proofs.Common.{◌+◌, length}
use Rattle.dk_disk.specs.DiskHistories.{now}
use Rattle.dk_checkpoint.proofs.Replaced.{closed_only, replaced, room}
use Rattle.dk_checkpoint.proofs.writing.replace.Goals as goal

pub returns-clause-run : goal.returns-clause-run
returns-clause-run g c tells =
    let file = (now (g.M.Home.past c.close.new.home) c.args.side).reads in
    let fits = room file c.args.behind.now in
    replaced c.args.side _ _ _ _ (c.close.ensures.run tells) _ _ (c.write_anew.ensures.run tells (length file + (1 + length c.args.behind.now)) fits.0 fits.1)

pub returns-in_err-close-clause-run : goal.returns-in_err-close-clause-run
returns-in_err-close-clause-run g c tells = closed_only c.args.side _ _ _ _ (c.close.ensures.run tells)
