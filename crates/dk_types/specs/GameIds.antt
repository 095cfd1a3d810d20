-- Games' ids: what bytes may be one, and how a fixed array holds one.
use Rattle.std.specs.Prelude.{◌≡◌, ℕ, ◌<◌, ◌≤◌, ◌-◌, ◌++◌, List, length, take, replicate, All}
use Rattle.dk_types.specs.declared.limits.TheConstants.{GAME_ID_MOST_BYTES}

-- ASCII that is seen: from `!` to `~`
abbrev pub IsVisible : ℕ → Type 0
IsVisible byte = (0x21 ≤ byte) × (byte ≤ 0x7E)

-- from 1 to 44 bytes, each of them visible
pub record IsGameId (bytes : List ℕ) : Type 0 where
  pub some : 0 < length bytes
  pub most : length bytes ≤ GAME_ID_MOST_BYTES
  pub visible : All IsVisible bytes

-- behind the first `len` of the array's bytes stand zeros alone
pub record IsPadded (array : List ℕ) (len : ℕ) : Type 0 where
  pub within : len ≤ length array
  pub zeros : array ≡ take len array ++ replicate (GAME_ID_MOST_BYTES - len) 0
