use Rattle.std.proofs.Common.{arith, lit<}
use Rattle.dk_types.specs.Names.{IsName}
use Rattle.dk_types.specs.Fields.{IsU8, IsU16, IsU32, IsU64, IsBlob, IsId, IsKey, u8_spelling, u16_spelling, u32_spelling, u64_spelling, name_spelling, blob_spelling, id_spelling, key_spelling}
use Rattle.dk_types.specs.Reading.{u8_at, u16_at, u32_at, u64_at, name_at, blob_at, id_at}
use Rattle.dk_types.proofs.FieldLaws.{u8_exact, u16_exact, u32_exact, u64_exact, name_exact, blob_exact, id_exact}
use Rattle.dk_types.specs.Payload.{next_key}
use Rattle.dk_types.proofs.NextLaws.{next_key_exact}
use Rattle.dk_types.proofs.ExactLaws.{prefix_free}
use Rattle.dk_wire.proofs.laws.no_spelling_begins_another.Goals as goal

pub returns-clause-u8 : goal.returns-clause-u8
returns-clause-u8 c = prefix_free IsU8 u8_spelling u8_at u8_exact

pub returns-clause-u16 : goal.returns-clause-u16
returns-clause-u16 c = prefix_free IsU16 u16_spelling u16_at u16_exact

pub returns-clause-u32 : goal.returns-clause-u32
returns-clause-u32 c = prefix_free IsU32 u32_spelling u32_at u32_exact

pub returns-clause-u64 : goal.returns-clause-u64
returns-clause-u64 c = prefix_free IsU64 u64_spelling u64_at u64_exact

pub returns-clause-name : goal.returns-clause-name
returns-clause-name c = prefix_free IsName name_spelling name_at name_exact

pub returns-clause-blob : goal.returns-clause-blob
returns-clause-blob c x y behind_x behind_y fits_x fits_y same = prefix_free (IsBlob 4294967295) blob_spelling (blob_at 4294967295) (blob_exact 4294967295 (lit< tt)) x y behind_x behind_y (omega (arith, fits_x)) (omega (arith, fits_y)) same

pub returns-clause-id : goal.returns-clause-id
returns-clause-id c = prefix_free IsId id_spelling id_at id_exact

pub returns-clause-key : goal.returns-clause-key
returns-clause-key c = prefix_free IsKey key_spelling next_key next_key_exact
