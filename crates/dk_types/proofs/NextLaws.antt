-- The fields of a payload are read exactly.
use Rattle.std.proofs.Common.{ℕ, ◌^◌, ◌<◌, refl}
use Rattle.dk_types.specs.Names.{IsName}
use Rattle.dk_types.specs.Fields.{IsU8, IsU16, IsU32, IsU64, IsBlob, IsId, IsKey, id_of_key, key_of_id, u8_spelling, u16_spelling, u32_spelling, u64_spelling, name_spelling, blob_spelling, id_spelling, key_spelling}
use Rattle.dk_types.specs.Exact.{IsExact}
use Rattle.dk_types.specs.Payload.{next_u8, next_u16, next_u32, next_u64, next_name, next_blob, next_id, next_key}
use Rattle.dk_types.proofs.FieldLaws.{u8_exact, u16_exact, u32_exact, u64_exact, name_exact, blob_exact, id_exact}
use Rattle.dk_types.proofs.Composing.{placed_exact, last_exact}

pub next_u8_exact : IsExact IsU8 u8_spelling next_u8
unfolding next_u8
next_u8_exact = placed_exact u8_exact

pub next_u16_exact : IsExact IsU16 u16_spelling next_u16
unfolding next_u16
next_u16_exact = placed_exact u16_exact

pub next_u32_exact : IsExact IsU32 u32_spelling next_u32
unfolding next_u32
next_u32_exact = placed_exact u32_exact

pub next_u64_exact : IsExact IsU64 u64_spelling next_u64
unfolding next_u64
next_u64_exact = placed_exact u64_exact

pub next_name_exact : IsExact IsName name_spelling next_name
unfolding next_name
next_name_exact = placed_exact name_exact

pub next_blob_exact : (most : ℕ) → most < 2 ^ 32 → IsExact (IsBlob most) blob_spelling (next_blob most)
unfolding next_blob
next_blob_exact most small = placed_exact (blob_exact most small)

pub next_id_exact : IsExact IsId id_spelling next_id
unfolding next_id
next_id_exact = placed_exact id_exact

pub next_key_exact : IsExact IsKey key_spelling next_key
unfolding next_key key_spelling
next_key_exact =
    last_exact id_of_key key_of_id next_id_exact (λ key fits. fits) (λ id fits. fits) (λ id. refl) (λ key fits. refl)
