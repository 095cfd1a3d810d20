-- What the threads of a figure share.
use denote.RattleType.{RattleType}
use denote.Ref.{NamedLft}
use denote.Param.Send.{IsSend, IsSync, sendable}
use denote.Param.SendFields.{declared_sync}
use Rattle.std.proofs.Crossing.{crosses}
use Rattle.std.proofs.alloc.Global.TheSendSync as global
use Rattle.dk_disk.specs.declared.home.Home as home
use Rattle.dk_turn.specs.declared.naming.Naming as naming
use Rattle.dk_host.specs.declared.hosting.Hosting as hosting
use Rattle.dk_workers.proofs.Crossing.{host_sync}
use Rattle.dk_bench.specs.contracts.desk.Desk as desk
use Rattle.dk_bench.specs.contracts.beside.HoldAndReads as hold
use Rattle.dk_bench.specs.contracts.beside.CopyAndReads as copying

module _ (ℓ : NamedLft) (G W J M R : RattleType) (j : naming.Ghosts J.Denot) (m : home.Ghosts M.Denot) (w : hosting.Ghosts W.Denot)
    (g : IsSync G) (a : IsSend W) (b : IsSend J) (c : IsSend M) (r : IsSync R) where
  pub desk_sync : IsSync (desk.the_row ℓ G W J M R w j m)
  desk_sync = declared_sync (desk.the_type ℓ G W J M R w j m) (search (sendable, crosses, host_sync W J M w j m a b c, global.the_sync, g, r) depth 20)

  -- a commit whose sync is held, and reads
  pub hold_sync : IsSync (hold.the_row ℓ G W J M R w j m)
  hold_sync = declared_sync (hold.the_type ℓ G W J M R w j m) (search (sendable, crosses, desk_sync) depth 20)

  -- a copy or a store written anew, and reads
  pub copying_sync : IsSync (copying.the_row ℓ G W J M R w j m)
  copying_sync = declared_sync (copying.the_type ℓ G W J M R w j m) (search (sendable, crosses, desk_sync) depth 20)
