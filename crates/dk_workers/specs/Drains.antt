-- What a drain leaves.
use Rattle.std.specs.Prelude.{ℕ, ◌<◌, List, Result, Ok, Err}
use Rattle.std.specs.List.{All}
use Rattle.dk_types.specs.declared.event.Event.{Event}
use Rattle.dk_types.specs.declared.event.ClaimReply.{ClaimReply}
use Rattle.dk_types.specs.declared.event.ClaimReply.TheVariants as claimed
use Rattle.dk_model.specs.Legal.{Opened, IsLegal, pass_of}
use Rattle.dk_turn.specs.Fronts.{Known}
use Rattle.dk_play_laws.specs.Phased.{IsDrain}
use Rattle.dk_workers.specs.Faults.{IsWorkFault}
use Rattle.dk_workers.specs.declared.play.fault.PlayFault.{PlayFault}
use Rattle.dk_workers.specs.declared.play.fault.PlayFault.TheVariants as fault

-- the main pass's last claim was answered so, and its front is legal and names passes that were given
pub record HasDrained (reply : ClaimReply) (o : Opened) (count : ℕ) (workers after : List (Known Event)) (old new : Known Event) : Type 0 where
  pub drain : IsDrain reply workers after old new
  pub legal : IsLegal o new.front
  pub named : All (λ e. pass_of e < count) new.front

-- nothing is left to run, or the budget is spent; or a worker came to an end before
abbrev pub Drains : Opened → ℕ → Result (Unit {0}) PlayFault → List (Known Event) → List (Known Event) → Known Event → Known Event → Type 0
Drains o count (Ok done) workers after old new = HasDrained claimed.Nothing o count workers after old new
Drains o count (Err (fault.Budget granted)) workers after old new = HasDrained (claimed.Spent granted) o count workers after old new
Drains o count (Err (fault.Exhausted next)) workers after old new = IsWorkFault (fault.Exhausted next)
Drains o count (Err fault.DiskFault) workers after old new = IsWorkFault fault.DiskFault
Drains o count (Err (fault.JournalFull length)) workers after old new = IsWorkFault (fault.JournalFull length)
Drains o count (Err fault.NoMemory) workers after old new = IsWorkFault fault.NoMemory
