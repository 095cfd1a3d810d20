-- What stays of a claim while other passes call.
use Rattle.dk_model.specs.Events.{Meaning}
use Rattle.dk_core.specs.declared.world.Core.{Core}
use Rattle.dk_core.specs.declared.claimed.Claimed.{Claimed}
use Rattle.dk_core.specs.Cores.{IsGranted, KeepsReady}
use Rattle.dk_workers.specs.Working.{RepresentsSome}

-- the core stands for some history of the rules, and the claim stands
pub record IsBeside (rules : Meaning) (c : Core) (held : Claimed) : Type 0 where
  pub standing : RepresentsSome rules c
  pub granted : IsGranted c held

-- it does so still, and what was made ready for a commit is ready still
pub record KeepsBeside (rules : Meaning) (old new : Core) (held : Claimed) : Type 0 where
  pub beside : IsBeside rules new held
  pub ready : KeepsReady old new
