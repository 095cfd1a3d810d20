-- Names: what bytes may be one, and their order.
use Rattle.std.specs.Prelude.{◌≡◌, ℕ, ◌<◌, ◌≤◌, List, length}
use Rattle.std.specs.Ordering.{nat_cmp}
use Rattle.std.specs.declared.cmp.Ordering.{Ordering}
use Rattle.std.specs.Cmp.Lexicographic.{slice_cmp}
use Rattle.std.specs.Str.Lossy.{utf8_valid_len}
use Rattle.dk_types.specs.declared.limits.TheConstants.{NAME_MOST_BYTES}

-- from 1 to 255 bytes, and UTF-8 from the first to the last
pub record IsName (bytes : List ℕ) : Type 0 where
  pub some : 0 < length bytes
  pub most : length bytes ≤ NAME_MOST_BYTES
  pub text : utf8_valid_len bytes ≡ length bytes

-- by the bytes, the first that differs
abbrev pub bytes_cmp : List ℕ → List ℕ → Ordering
bytes_cmp = slice_cmp nat_cmp
