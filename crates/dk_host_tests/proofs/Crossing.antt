-- What two threads share.
use denote.RattleType.{RattleType}
use denote.Ref.{NamedLft}
use denote.Param.Send.{IsSend, IsSync, sendable}
use denote.Param.SendFields.{declared_sync}
use Rattle.std.proofs.Crossing.{crosses}
use Rattle.std.proofs.alloc.Global.TheSendSync as global
use Rattle.dk_disk.specs.declared.home.Home as home
use Rattle.dk_turn.specs.declared.naming.Naming as naming
use Rattle.dk_host.specs.declared.hosting.Hosting as hosting
use Rattle.dk_workers.proofs.Crossing.{host_sync}
use Rattle.dk_host_tests.specs.contracts.stage.Stage as stage

-- a host that is asked
pub stage_sync : (ℓ : NamedLft) (G W J M R : RattleType) (j : naming.Ghosts J.Denot) (m : home.Ghosts M.Denot) (w : hosting.Ghosts W.Denot)
    → IsSync G → IsSend W → IsSend J → IsSend M → IsSync R → IsSync (stage.the_row ℓ G W J M R w j m)
stage_sync ℓ G W J M R j m w g a b c r =
    declared_sync (stage.the_type ℓ G W J M R w j m) (
      search (sendable, crosses, r) depth 20,
      (
        search (sendable, crosses, global.the_sync) depth 20,
        (search (sendable, crosses, host_sync W J M w j m a b c) depth 20, (search (sendable, crosses, g) depth 20, (search (sendable, crosses) depth 20, tt))),
      ),
    )
