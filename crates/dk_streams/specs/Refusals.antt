-- What reading a script leaves of the source's count of faults.
use Rattle.std.specs.Prelude.{◌≡◌, ℕ, Option, List, Result, Ok, Err, MatchResult}
use Rattle.dk_types.specs.Faults.{HasRisen}
use Rattle.dk_streams.specs.Sources.{ReadsFew}
use Rattle.dk_streams.specs.declared.reading.Refused.{Refused}
use Rattle.dk_streams.specs.declared.reading.Refused.TheVariants as refused

-- it rose where the source failed, and stayed at any other refusal
abbrev pub CountsRefused : Refused → ℕ → ℕ → Type 0
CountsRefused refused.NoMemory before after = after ≡ before
CountsRefused refused.ReadFault before after = HasRisen before after
CountsRefused (refused.BadScript line) before after = after ≡ before

-- it rose where the source failed, and stayed otherwise
abbrev pub CountsRead : {T : Type 0} → Result T Refused → ℕ → ℕ → Type 0
CountsRead result before after = MatchResult result (λ _. after ≡ before) (λ why. CountsRefused why before after)

-- where the source failed, it was read no further than a script may go
abbrev pub ReadsFewAt : {T : Type 0} → Result T Refused → Option (List ℕ) → Option (List ℕ) → Type 0
ReadsFewAt (Ok value) left left' = Unit {0}
ReadsFewAt (Err refused.ReadFault) left left' = ReadsFew left left'
ReadsFewAt (Err refused.NoMemory) left left' = Unit {0}
ReadsFewAt (Err (refused.BadScript line)) left left' = Unit {0}

-- where a line is told, this holds of its number
abbrev pub IfBadLine : {T : Type 0} → Result T Refused → (ℕ → Type 0) → Type 0
IfBadLine (Ok value) P = Unit {0}
IfBadLine (Err refused.ReadFault) P = Unit {0}
IfBadLine (Err refused.NoMemory) P = Unit {0}
IfBadLine (Err (refused.BadScript line)) P = P line
