-- The links of peers in memory.
use Rattle.std.specs.Prelude.{◌≡◌, ℕ, ◌-◌, ◌^◌, List, [], ◌∷◌, Option, Some, None}
use Rattle.dk_types.specs.FaultPlan.{Plan}
use Rattle.dk_edge.specs.declared.memory_listener.Peer.{Peer}
use Rattle.dk_edge.specs.MemorySource.{Feed}
use Rattle.dk_edge.specs.MemorySink.{Basin}

-- none of the calls was made, and these fail
abbrev pub fresh_plan : List ℕ → Plan
fresh_plan failing = record { failing = failing; calls = 0; faults = 0 }

-- the source gives what the peer sends, nothing was put to the sink, and both fail at the calls that the peer names
pub record IsLinkOf (peer : Peer) (feed : Feed) (basin : Basin) : Type 0 where
  pub source : feed ≡ record { left = peer.bytes.items; piece = 2 ^ 64 - 1; plan = fresh_plan peer.failing_takes.items }
  pub sink : basin ≡ record { contents = []; torn = 0; room = basin.room; plan = fresh_plan peer.failing_puts.items }

-- the streams are the first peer's, and the others are left; or none came, and all are left
abbrev pub ComesNext : List Peer → List Peer → Option (Feed × Basin) → Type 0
ComesNext peers peers' None = peers' ≡ peers
ComesNext peers peers' (Some streams) = (peer : Peer) × (peers ≡ peer ∷ peers') × IsLinkOf peer streams.0 streams.1
