-- What a play of a script leaves, and why there is no transcript.
use Rattle.std.specs.Prelude.{◌≡◌, ◌≢◌, ◌⊎◌, ℕ, ◌+◌, ◌<◌, ◌≤◌, ◌^◌, Bool, false, IsTrue, List, [], ◌∷◌, length, Option, Some, None, Result, Ok, Err, IfOk, IfErr}
use Rattle.std.specs.List.{AllByRecursion}
use Rattle.dk_types.specs.Faults.{HasRisen}
use Rattle.dk_types.specs.declared.limits.TheConstants.{NUMBERS_END}
use Rattle.dk_types.specs.declared.durable.Durable.{Durable}
use Rattle.dk_types.specs.declared.event.Event.{Event}
use Rattle.dk_disk.specs.DiskHistories.{DiskHistory}
use Rattle.dk_model.specs.declared.script.Line.{Line}
use Rattle.dk_model.specs.Events.{Meaning}
use Rattle.dk_model.specs.Images.{world_lists, image_spelling}
use Rattle.dk_model.specs.Legal.{Opened, opening_of, world_after, IsLegal}
use Rattle.dk_model.specs.Orders.{AreInTurn, order_of}
use Rattle.dk_model.specs.Transcripts.{IsTranscript}
use Rattle.dk_core.specs.Listings.{world_of}
use Rattle.dk_turn.specs.Fronts.{Known}
use Rattle.dk_host.specs.Stores.{CountsOn, EndsAs}
use Rattle.dk_play_laws.specs.BudgetLaw.{IsBudgetSpent}
use Rattle.dk_play_laws.specs.FirstParts.{scripted_of, IsFirstPart}
use Rattle.dk_play_laws.specs.LineEvents.{Said}
use Rattle.dk_play_laws.specs.Phased.{HavePlayed, IsBetween, IsSpentAt}
use Rattle.dk_workers.specs.Faults.{IsWorkFault}
use Rattle.dk_workers.specs.declared.play.fault.PlayFault.{PlayFault}
use Rattle.dk_workers.specs.declared.play.fault.PlayFault.TheVariants as fault
use Rattle.dk_workers.specs.declared.play.saving.Saved.{Saved}
use Rattle.dk_workers.specs.declared.play.saving.Saved.TheVariants as saved

-- what the host of a play is opened with
abbrev pub opened_on : Meaning → Durable → ℕ → Opened
opened_on rules durable budget = record { rules = rules; durable = world_of durable; budget = Some budget }

-- how long the image of the durable world after these events is
abbrev pub image_length_after : Opened → List Event → ℕ
image_length_after o events = length (image_spelling (world_lists (world_after o events).durable))

-- the image is too long, where that is what was answered; and a store that was to be written anew was not left unasked
abbrev pub IsSavedAt : Bool → Opened → List Event → Saved → Type 0
IsSavedAt asked o front saved.Unasked = asked ≡ false
IsSavedAt asked o front saved.Anew = Unit {0}
IsSavedAt asked o front saved.TooLarge = 2 ^ 32 ≤ image_length_after o front
IsSavedAt asked o front saved.AtEnd = Unit {0}

-- the epochs show what became of the store
abbrev pub IsShown : Saved → ℕ → ℕ → Type 0
IsShown saved.Unasked first epoch = Unit {0}
IsShown saved.Anew first epoch = epoch ≡ first + 1
IsShown saved.TooLarge first epoch = epoch ≡ first
IsShown saved.AtEnd first epoch = (epoch ≡ first) × (epoch + 1 ≡ NUMBERS_END)

-- THE STORE IS WRITTEN ANEW: its epoch is one more; or its image would be too long, or its epoch is the last, and it is the same
abbrev pub IsSaved : Opened → List Event → ℕ → ℕ → Type 0
IsSaved o history first epoch = (epoch ≡ first + 1) ⊎ ((epoch ≡ first) × (2 ^ 32 ≤ image_length_after o history)) ⊎ ((epoch ≡ first) × (epoch + 1 ≡ NUMBERS_END))

-- THE TRANSCRIPT of a script: a play from the opening on in the order that the text itself tells, which ends in the world after the history; by one worker each claim is followed at
-- once by the commit of its run
pub record IsReportedPlay (o : Opened) (workers : ℕ) (script : List (List Line)) (history : List Event) (text : List ℕ) : Type 0 where
  pub transcript : IsTranscript o.rules (opening_of o) script (order_of text) text
  pub ended : transcript.end.world ≡ world_after o history
  pub turns : workers ≡ 1 → AllByRecursion AreInTurn (order_of text)

-- why there is no transcript: a disk fault is counted, a budget is spent, a journal is full, or numbers have come to their end
abbrev pub IsPlayCause : Opened → List Event → ℕ → ℕ → PlayFault → Type 0
IsPlayCause o history before after fault.NoMemory = Unit {0}
IsPlayCause o history before after fault.DiskFault = HasRisen before after
IsPlayCause o history before after (fault.Budget granted) = IsBudgetSpent o history granted
IsPlayCause o history before after (fault.JournalFull length_) = 2 ^ 40 < length_
IsPlayCause o history before after (fault.Exhausted next) = next ≡ NUMBERS_END

-- a fault of the disk is one where its count rose; where it did not, there is none
abbrev pub IsDiskFault : ℕ → ℕ → PlayFault → Type 0
IsDiskFault before after fault.NoMemory = HasRisen before after → ⊥
IsDiskFault before after fault.DiskFault = HasRisen before after
IsDiskFault before after (fault.Budget granted) = ⊥
IsDiskFault before after (fault.JournalFull length_) = ⊥
IsDiskFault before after (fault.Exhausted next) = ⊥

-- a fault is told as it is; one of the disk where its count rose
abbrev pub IsCounted : ℕ → ℕ → PlayFault → PlayFault → Type 0
IsCounted before after fault.DiskFault told = IsDiskFault before after told
IsCounted before after fault.NoMemory told = told ≡ fault.NoMemory
IsCounted before after (fault.Budget granted) told = told ≡ fault.Budget granted
IsCounted before after (fault.JournalFull length_) told = told ≡ fault.JournalFull length_
IsCounted before after (fault.Exhausted next) told = told ≡ fault.Exhausted next

-- what is known of the whole history, once it is closed
abbrev pub IsSettled : {V : Type 0} → Bool → Opened → ℕ → List (List Line) → (V → List ℕ) → (V → Saved) → List Event → Result V PlayFault → Type 0
IsSettled asked o workers script marks_of saved_of history (Ok v) = ((s : Said) × HavePlayed o workers script history (marks_of v) s) × IsSavedAt asked o history (saved_of v)
IsSettled asked o workers script marks_of saved_of history (Err (fault.Budget granted)) = IsBudgetSpent o history granted
IsSettled asked o workers script marks_of saved_of history (Err (fault.Exhausted next)) = IsWorkFault (fault.Exhausted next)
IsSettled asked o workers script marks_of saved_of history (Err fault.DiskFault) = IsWorkFault fault.DiskFault
IsSettled asked o workers script marks_of saved_of history (Err (fault.JournalFull length_)) = IsWorkFault (fault.JournalFull length_)
IsSettled asked o workers script marks_of saved_of history (Err fault.NoMemory) = IsWorkFault fault.NoMemory

-- the same before it is closed, by what the passes have seen
abbrev pub IsStaged : {V : Type 0} → Bool → Opened → List (List Line) → (V → List ℕ) → (V → Saved) → Result V PlayFault → List (Known Event) → Known Event → Type 0
IsStaged asked o script marks_of saved_of (Ok v) workers main = ((s : Said) × IsBetween o script (marks_of v) s workers main) × IsSavedAt asked o main.front (saved_of v)
IsStaged asked o script marks_of saved_of (Err (fault.Budget granted)) workers main = IsSpentAt o granted workers main
IsStaged asked o script marks_of saved_of (Err (fault.Exhausted next)) workers main = IsWorkFault (fault.Exhausted next)
IsStaged asked o script marks_of saved_of (Err fault.DiskFault) workers main = IsWorkFault fault.DiskFault
IsStaged asked o script marks_of saved_of (Err (fault.JournalFull length_)) workers main = IsWorkFault (fault.JournalFull length_)
IsStaged asked o script marks_of saved_of (Err fault.NoMemory) workers main = IsWorkFault fault.NoMemory

-- the transcript of the script, or why there is none
pub record IsTextOf (o : Opened) (workers : ℕ) (asked : Bool) (script : List (List Line)) (history : List Event) (faults : Option ℕ) (first epoch before after : ℕ) (text : Result (List ℕ) PlayFault) : Type 0 where
  pub told : IfOk text (IsReportedPlay o workers script history)
  pub whole : IfOk text (λ t. faults ≡ None)
  pub is_saved : IsTrue asked → IfOk text (λ t. IsSaved o history first epoch)
  pub cause : IfErr text (IsPlayCause o history before after)
  -- by one worker, where the store was stopped and its count rose, that is told
  pub alone : workers ≡ 1 → faults ≢ None → HasRisen before after → text ≡ Err fault.DiskFault

-- A PLAY ON A STORE: its one history is legal, what a stop leaves at each moment is a beginning of it or all of it and its tail, and the text tells it, or there is a cause why there is none.
-- However it ends, the events that are no claims, commits and releases are a first part of what the main pass enters for the script, whose first phase has no lines
pub record IsPlayOn (o : Opened) (workers : ℕ) (asked : Bool) (script : List (List Line)) (tells : Bool) (began past : DiskHistory) (first before after : ℕ) (text : Result (List ℕ) PlayFault) : Type 0 where
  pub history : List Event
  pub faults : Option ℕ
  pub epoch : ℕ
  pub legal : IsLegal o history
  pub ended : IsTrue tells → EndsAs o began past history faults epoch
  pub counts : CountsOn before faults after
  pub begun : IsFirstPart workers ([] ∷ script) (scripted_of history)
  pub text_of : IsTextOf o workers asked script history faults first epoch before after text

-- or there was no memory to open the host, and the home is as it was
abbrev pub IsUnopened : {H : Type 0} → H → H → Result (List ℕ) PlayFault → Type 0
IsUnopened before after text = (after ≡ before) × (text ≡ Err fault.NoMemory)
