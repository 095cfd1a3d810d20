use Rattle.std.proofs.Common.{◌+◌}
use Rattle.dk_script.proofs.LinesOf.{take-rest, take-none}
use Rattle.dk_script.proofs.Cuts.{IsCut-at, IsCut-none}
use Rattle.dk_script.proofs.lines.cut_line.Goals as goal

pub returns-in-None : goal.returns-in-None
returns-in-None c =
    let bytes = c.args.bytes.now in
    rw (take-none bytes) (record { cut = IsCut-none bytes c.requires c.in-None.ensures })

pub returns-in-Some : goal.returns-in-Some
returns-in-Some c =
    let bytes = c.args.bytes.now in
    rw (take-rest (c.in-Some.at + 1) bytes) (record { cut = IsCut-at bytes c.in-Some.at c.in-Some.ensures })
