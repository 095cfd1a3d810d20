-- Bytes of a file that are held in memory.
use Rattle.std.specs.Prelude.{◌≡◌, ◌+◌, ◌≤◌, ℕ, List, take, drop, slice_range, vec_len}
use Rattle.dk_journal.specs.declared.window.Window.{Window}

-- they are what the file has from their place on
abbrev pub IsWindowOf : Window → List ℕ → Type 0
IsWindowOf window file = window.bytes.items ≡ take (vec_len window.bytes) (drop window.from file)

-- So many bytes from this place on are among them.
pub record Reaches (window : Window) (at count : ℕ) : Type 0 where
  pub behind : window.from ≤ at
  pub within : at + count ≤ window.from + vec_len window.bytes

-- The payload that was read last lies among them.
pub record HasPayload (window : Window) : Type 0 where
  pub ordered : window.start ≤ window.end
  pub within : window.end ≤ vec_len window.bytes

-- the payload that was read last
abbrev pub payload_of : Window → List ℕ
payload_of window = slice_range window.bytes.items window.start window.end
