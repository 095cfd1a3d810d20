use Rattle.std.proofs.Common.{rules}
use Rattle.dk_disk.specs.Disk.{settled}
use Rattle.dk_disk.proofs.Images.{settled_image}
use Rattle.dk_disk.proofs.Replays.{replayed_image}
use Rattle.dk_disk.proofs.TornImages.{replayed_torn, if_ok}
use Rattle.dk_disk.proofs.unwinding.Unwinding.image.Goals as goal

pub returns-clause-torn : goal.returns-clause-torn
returns-clause-torn c = search rules

pub returns-clause-image : goal.returns-clause-image
returns-clause-image c =
    if_ok c.image.result (λ v torn. replayed_torn c.args.torn c.args.moment c.args.side c.args.self.now.calls _ v.items (replayed_image c.args.moment c.args.side c.args.self.now.calls (settled _) (settled_image _)) torn) (returns-clause-torn c)
