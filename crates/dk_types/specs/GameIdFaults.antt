-- When bytes are no game's id, and what is told of it.
use Rattle.std.specs.Prelude.{◌≡◌, ℕ, ◌<◌, ◌≤◌, ◌⊎◌, List, length, slice_index}
use Rattle.dk_types.specs.GameIds.{IsVisible}
use Rattle.dk_types.specs.declared.game_id.GameIdRefused.{GameIdRefused}
use Rattle.dk_types.specs.declared.game_id.GameIdRefused.TheVariants.{BadLength, BadByte}
use Rattle.dk_types.specs.declared.limits.TheConstants.{GAME_ID_MOST_BYTES}

-- the length is looked at first; the byte that is told is the first that is not visible
abbrev pub IsGameIdFault : List ℕ → GameIdRefused → Type 0
IsGameIdFault bytes (BadLength len) = (len ≡ length bytes) × ((length bytes ≡ 0) ⊎ (GAME_ID_MOST_BYTES < length bytes))
IsGameIdFault bytes (BadByte at) = (0 < length bytes) × (length bytes ≤ GAME_ID_MOST_BYTES) × (at < length bytes) × (¬ IsVisible (slice_index bytes at)) × ((k : ℕ) → k < at → IsVisible (slice_index bytes k))
