-- Big-endian numbers: `from_be_bytes` undoes `to_be_bytes`, and the other way round.
use Rattle.std.proofs.Common.{◌≡◌, ℕ, ◌^◌, ◌<◌, List, length, refl, arith}
use Rattle.std.specs.Int.{Width, w16, w32, w64, byte_len, from_be_bytes, to_be_bytes}
use Rattle.std.proofs.lemmas.Nat.{be_bytes_2, be_bytes_4, be_bytes_8, from_be_bytes-to_be_bytes_2, from_be_bytes-to_be_bytes_4, from_be_bytes-to_be_bytes_8}
use Rattle.dk_types.specs.Rest.{IsBytes}

-- numbers below a limit and the bytes of a width are the same thing
pub record IsWide (w : Width) (limit : ℕ) : Type 0 where
  pub len : (n : ℕ) → length (to_be_bytes w n) ≡ byte_len w
  pub back : (bytes : List ℕ) → length bytes ≡ byte_len w → IsBytes bytes → to_be_bytes w (from_be_bytes w bytes) ≡ bytes
  pub again : (n : ℕ) → n < limit → from_be_bytes w (to_be_bytes w n) ≡ n
  pub below : (bytes : List ℕ) → IsBytes bytes → from_be_bytes w bytes < limit

pub wide16 : IsWide w16 (2 ^ 16)
wide16 = record {
  len = λ n. refl;
  back = λ bytes len each. be_bytes_2 bytes _ len each refl;
  again = λ n lt. from_be_bytes-to_be_bytes_2 n lt;
  below = λ bytes each. omega (arith, each 0, each 1);
}

pub wide32 : IsWide w32 (2 ^ 32)
wide32 = record {
  len = λ n. refl;
  back = λ bytes len each. be_bytes_4 bytes _ len each refl;
  again = λ n lt. from_be_bytes-to_be_bytes_4 n lt;
  below = λ bytes each. omega (arith, each 0, each 1, each 2, each 3);
}

pub wide64 : IsWide w64 (2 ^ 64)
wide64 = record {
  len = λ n. refl;
  back = λ bytes len each. be_bytes_8 bytes _ len each refl;
  again = λ n lt. from_be_bytes-to_be_bytes_8 n lt;
  below = λ bytes each. omega (arith, each 0, each 1, each 2, each 3, each 4, each 5, each 6, each 7);
}
