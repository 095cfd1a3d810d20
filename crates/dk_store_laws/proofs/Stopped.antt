-- What a stop leaves of an append, by the entries that it puts behind.
use Rattle.std.proofs.Common.{◌⊎◌, ℕ, ◌≤◌, List}
use Rattle.dk_types.specs.declared.side.Side.{Side}
use Rattle.dk_disk.specs.DiskHistories.{DiskHistory, other_side, MayLeave}
use Rattle.dk_model.specs.DurableWorlds.{DurableWorld}
use Rattle.dk_model.specs.Stores.{StoreHeader, IsHeader, header_spelling}
use Rattle.dk_model.specs.Recovered.{Takes, HasWorld, Recovers, Holding}
use Rattle.dk_journal.specs.Moments.{Runs, HasOrNot, NeverFalls}
use Rattle.dk_journal.specs.Recoveries.{HeldNeverFalls}
use Rattle.dk_journal.specs.Ranks.{IsOutranked}
use Rattle.dk_journal.proofs.Standings.{appended}
use Rattle.dk_image.proofs.Worlds.{next_world}
use Rattle.dk_checkpoint.proofs.Held.{append_held, takes_more}

pub entries_appended : (side : Side) (h : StoreHeader) (payloads : List (List ℕ)) (payload : List ℕ) (d e : DurableWorld) (old new : DiskHistory) → IsHeader h → IsOutranked h old (other_side side) → HasWorld h payloads d → Takes h.format d payload e
    → Runs side (HasOrNot (header_spelling h) payloads payload) old new → (t : ℕ) → old.clock ≤ t → t ≤ new.clock → (zero one : List ℕ) → MayLeave new t zero one → Recovers zero one (Holding d) ⊎ Recovers zero one (Holding e)
entries_appended side h payloads payload d e old new is rank world takes = appended side h payloads payload d e old new is rank world (next_world h payloads payload d e world takes)

pub entries_held : (side : Side) (h : StoreHeader) (payloads : List (List ℕ)) (payload : List ℕ) (d e : DurableWorld) (old new : DiskHistory) → IsHeader h → IsOutranked h old (other_side side) → HasWorld h payloads d → Takes h.format d payload e
    → Runs side (HasOrNot (header_spelling h) payloads payload) old new → NeverFalls (header_spelling h) side old.clock new → HeldNeverFalls old.clock new
entries_held side h payloads payload d e old new is rank world takes = append_held side h payloads payload d e old new is rank world (next_world h payloads payload d e world takes) (takes_more h.format d e payload takes)
