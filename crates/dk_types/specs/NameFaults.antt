-- When bytes are no name, and what is told of it.
use Rattle.std.specs.Prelude.{◌≡◌, ℕ, ◌<◌, ◌≤◌, List, [], length}
use Rattle.std.specs.Str.Lossy.{utf8_valid_len}
use Rattle.dk_types.specs.declared.limits.TheConstants.{NAME_MOST_BYTES}
use Rattle.dk_types.specs.declared.name.NameRefused.{NameRefused}
use Rattle.dk_types.specs.declared.name.NameRefused.TheVariants.{Empty, TooLong, NotUtf8, NoMemory}

-- the first cause that holds; want of memory says nothing
abbrev pub IsNameFault : List ℕ → NameRefused → Type 0
IsNameFault bytes Empty = bytes ≡ []
IsNameFault bytes (TooLong len) = (NAME_MOST_BYTES < length bytes) × (len ≡ length bytes)
IsNameFault bytes (NotUtf8 at) = (0 < length bytes) × (length bytes ≤ NAME_MOST_BYTES) × (at ≡ utf8_valid_len bytes) × (at < length bytes)
IsNameFault bytes NoMemory = Unit {0}
