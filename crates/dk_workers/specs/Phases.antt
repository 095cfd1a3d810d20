-- What a phase leaves, and all phases.
use Rattle.std.specs.Prelude.{◌≡◌, ℕ, ◌<◌, List, [], ◌∷◌, ◌++◌, Result, Ok, Err}
use Rattle.std.specs.List.{All}
use Rattle.dk_types.specs.declared.event.Event.{Event}
use Rattle.dk_types.specs.declared.event.ClaimReply.TheVariants as claimed
use Rattle.dk_model.specs.declared.script.Line.{Line}
use Rattle.dk_model.specs.Legal.{Opened, IsLegal, pass_of}
use Rattle.dk_turn.specs.Fronts.{Known}
use Rattle.dk_play_laws.specs.LineEvents.{Said}
use Rattle.dk_play_laws.specs.Phased.{IsBetween, IsPhaseTo, IsPhase, IsSpentAt}
use Rattle.dk_workers.specs.Faults.{IsWorkFault}
use Rattle.dk_workers.specs.declared.play.fault.PlayFault.{PlayFault}
use Rattle.dk_workers.specs.declared.play.fault.PlayFault.TheVariants as fault

-- one phase more was played, and marked
pub record HasPlayedOne (o : Opened) (count : ℕ) (lines : List Line) (s t : Said) (marks marked : List ℕ) (workers after : List (Known Event)) (old new : Known Event) : Type 0 where
  pub mark : ℕ
  pub is_marked : marked ≡ marks ++ mark ∷ []
  pub phase : IsPhase lines s t mark workers after old new
  pub legal : IsLegal o new.front
  pub named : All (λ e. pass_of e < count) new.front

-- the budget was spent in a phase
pub record HasSpentAll (o : Opened) (count granted : ℕ) (lines : List Line) (s : Said) (workers after : List (Known Event)) (old new : Known Event) : Type 0 where
  pub mark : ℕ
  pub said : Said
  pub phase : IsPhaseTo (claimed.Spent granted) lines s said mark workers after old new
  pub legal : IsLegal o new.front
  pub named : All (λ e. pass_of e < count) new.front

-- what a phase leaves
abbrev pub PlaysOne : Opened → ℕ → Result (Unit {0}) PlayFault → List Line → Said → Said → List ℕ → List ℕ → List (Known Event) → List (Known Event) → Known Event → Known Event → Type 0
PlaysOne o count (Ok done) lines s t marks marked workers after old new = HasPlayedOne o count lines s t marks marked workers after old new
PlaysOne o count (Err (fault.Budget granted)) lines s t marks marked workers after old new = HasSpentAll o count granted lines s workers after old new
PlaysOne o count (Err (fault.Exhausted next)) lines s t marks marked workers after old new = IsWorkFault (fault.Exhausted next)
PlaysOne o count (Err fault.DiskFault) lines s t marks marked workers after old new = IsWorkFault fault.DiskFault
PlaysOne o count (Err (fault.JournalFull length)) lines s t marks marked workers after old new = IsWorkFault (fault.JournalFull length)
PlaysOne o count (Err fault.NoMemory) lines s t marks marked workers after old new = IsWorkFault fault.NoMemory

-- what all phases leave, where the answer has their marks
abbrev pub PlaysAll : {V : Type 0} → Opened → List (List Line) → (V → List ℕ) → Result V PlayFault → List (Known Event) → Known Event → Type 0
PlaysAll o script marks_of (Ok marks) workers main = (s : Said) × IsBetween o script (marks_of marks) s workers main
PlaysAll o script marks_of (Err (fault.Budget granted)) workers main = IsSpentAt o granted workers main
PlaysAll o script marks_of (Err (fault.Exhausted next)) workers main = IsWorkFault (fault.Exhausted next)
PlaysAll o script marks_of (Err fault.DiskFault) workers main = IsWorkFault fault.DiskFault
PlaysAll o script marks_of (Err (fault.JournalFull length)) workers main = IsWorkFault (fault.JournalFull length)
PlaysAll o script marks_of (Err fault.NoMemory) workers main = IsWorkFault fault.NoMemory
