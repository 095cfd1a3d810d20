-- `byteorder`'s big-endian bytes are std's `to_be_bytes`.
use Rattle.std.proofs.Common.{◌≡◌, ℕ, refl}
use Rattle.std.specs.Int.{Width, byte_len, to_be_bytes}
use Rattle.byteorder.specs.Endian.{big_bytes}

-- `byteorder` writes what std's `to_be_bytes` gives
pub big_bytes-is : (w : Width) (n : ℕ) → big_bytes (byte_len w) n ≡ to_be_bytes w n
big_bytes-is w n = refl
