-- How a play ends whose script was not read, and what a status behind an opened folder is not.
use Rattle.std.proofs.Common.{◌≡◌, ℕ, Option, Some, None, List, Err, IsSomeAnd, refl}
use Rattle.std.specs.Prelude.{IfSome}
use Rattle.dk_types.specs.Faults.{HasRisen}
use Rattle.dk_model.specs.Scripts.{IsBadLine}
use Rattle.dk_script.specs.declared.script.Script.{Script}
use Rattle.dk_status.specs.declared.status.Status.TheVariants as status
use Rattle.dk_streams.specs.declared.reading.Refused.{Refused}
use Rattle.dk_streams.specs.declared.reading.Refused.TheVariants as refused
use Rattle.darkstar.specs.Ends.{status_of_reading}
use Rattle.dk_streams.specs.Sources.{IsPlayable}
use Rattle.dk_streams.specs.Refusals.{CountsRefused, IfBadLine}
use Rattle.darkstar.specs.Statuses.{ComesForBadLine, IfBadScript, IsOkOrLimit}
use Rattle.darkstar.proofs.Told.{not_both, told_free, told_once}

-- a source that failed counted it, and no other did
module _ (before after : ℕ) where
  pub unread_risen : (r : Refused) → CountsRefused r before after → status_of_reading r ≡ status.ReadFault → HasRisen before after
  unread_risen refused.NoMemory counts is = absurd cc
  unread_risen refused.ReadFault counts is = counts
  unread_risen (refused.BadScript line) counts is = absurd cc

-- which bytes were left, and which line is told of them
module _ (left left' : Option (List ℕ)) where
  -- a line is told as it is
  pub unread_line : (r : Refused) → IfBadLine {T = Script} (Err r) (λ line. IfSome left (λ bytes. IsBadLine bytes line)) → IfBadScript (status_of_reading r) (λ line. IfSome left (λ bytes. IsBadLine bytes line))
  unread_line refused.NoMemory bad = tt
  unread_line refused.ReadFault bad = tt
  unread_line (refused.BadScript line) bad = bad

  pub unread_told : (line : ℕ) (r : Refused) → IfBadLine {T = Script} (Err r) (λ line. IfSome left (λ bytes. IsBadLine bytes line)) → IfSome left (λ bytes. IsBadLine bytes line → ComesForBadLine line (status_of_reading r))
  unread_told line refused.NoMemory bad = told_free left line
  unread_told line refused.ReadFault bad = told_free left line
  unread_told line (refused.BadScript told) bad = told_once left line told bad

  -- a script is not told to be none
  pub unread_limit : (r : Refused) → IfBadLine {T = Script} (Err r) (λ line. IfSome left (λ bytes. IsBadLine bytes line)) → IsSomeAnd left IsPlayable → (status_of_reading r ≡ status.ReadFault → ⊥) → IsOkOrLimit (status_of_reading r)
  unread_limit refused.NoMemory bad playable other = tt
  unread_limit refused.ReadFault bad playable other = other refl
  unread_limit (refused.BadScript line) bad playable other = not_both left line playable bad

-- nothing is asked where no line is bad
pub never_told : (o : Option (List ℕ)) (line : ℕ) (X : Type 0) → IfSome o (λ bytes. IsBadLine bytes line → ⊥) → IfSome o (λ bytes. IsBadLine bytes line → X)
never_told None line X none = tt
never_told (Some xs) line X none = λ bad. absurd (none bad)
