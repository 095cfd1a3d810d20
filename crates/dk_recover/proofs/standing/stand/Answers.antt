use Rattle.std.proofs.Common.{subst}
use Rattle.dk_types.specs.declared.side.Side.TheVariants.{Zero}
use Rattle.dk_recover.specs.Scanned.{IsSeen}
use Rattle.dk_recover.specs.declared.standing.FileLook.{FileLook}
use Rattle.dk_recover.proofs.standing.stand.Goals as goal

pub returns-in-Live : goal.returns-in-Live
returns-in-Live c z o first second long = c.beside_live.ensures z o (subst (λ (l : FileLook). IsSeen z Zero l) c.in-Live.is first) second

pub returns-in-Blank : goal.returns-in-Blank
returns-in-Blank c z o first second long = c.beside_blank.ensures z o (subst (λ (l : FileLook). IsSeen z Zero l) c.in-Blank.is first) second long
