use Rattle.std.proofs.Common.{◌<◌, ◌+◌, ◌^◌, rules}
use Rattle.dk_disk.proofs.Parts.{lacks, sum_fits}
use Rattle.dk_disk.proofs.memory_home.make_room.Goals as goal

pub overflow_add-size : goal.overflow_add-size
overflow_add-size c = let fits : c.size.result + c.args.bytes < 2 ^ 64 = rw c.size.ensures.size (sum_fits c.reserve.new.self c.args.side c.args.bytes c.size.ensures.small (search rules)) in search rules

pub returns-clause-err : goal.returns-clause-err
returns-clause-err c = lacks c.args.drives.now c.reserve.new.self c.args.undos.now c.args.plan.now c.args.side c.size.result c.args.bytes c.reserve-2.result c.reserve.ensures.kept c.size.ensures.size c.reserve-2.ensures.err
