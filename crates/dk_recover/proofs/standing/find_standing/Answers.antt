use Rattle.std.proofs.Common.{ℕ, List, Option, Some, None, Ok, subst}
use Rattle.dk_journal.specs.declared.header.Header.{Header}
use Rattle.dk_journal.specs.declared.scan.Scan.{Scan}
use Rattle.dk_types.specs.declared.side.Side.TheVariants.{Zero, One}
use Rattle.dk_disk.specs.DiskHistories.{now}
use Rattle.dk_recover.specs.Placed.{IsPlaced}
use Rattle.dk_recover.specs.Stood.{IsStood}
use Rattle.dk_recover.proofs.standing.find_standing.Goals as goal

found : (z o : List ℕ) (f : Option (Header × Scan)) → IsPlaced z o (Ok f) → IsStood z o (Ok f)
found z o None h = h
found z o (Some both) h = h

pub returns-in-Ok-clause-stood : goal.returns-in-Ok-clause-stood
returns-in-Ok-clause-stood g c tells =
    let old = g.M.Home.past c.args.home.now in
    let seen = c.in_ok-zero.ensures.seen tells in
    let placed = c.stand.ensures (now old Zero).reads (now old One).reads seen.0 seen.1 seen.2 in
    found (now old Zero).reads (now old One).reads c.in-Ok.found (subst (IsPlaced (now old Zero).reads (now old One).reads) c.in-Ok.is placed)

pub returns-in-Err-clause-stood : goal.returns-in-Err-clause-stood
returns-in-Err-clause-stood g c tells =
    let old = g.M.Home.past c.args.home.now in
    let seen = c.in_ok-zero.ensures.seen tells in
    let placed = c.stand.ensures (now old Zero).reads (now old One).reads seen.0 seen.1 seen.2 in
    subst (IsPlaced (now old Zero).reads (now old One).reads) c.in-Err.is placed
