use Rattle.dk_types.proofs.NextLaws.{next_u8_exact, next_u16_exact, next_u32_exact, next_u64_exact, next_name_exact, next_blob_exact, next_id_exact, next_key_exact}
use Rattle.dk_wire.proofs.laws.payload_fields_are_exact.Goals as goal

pub returns-clause-u8 : goal.returns-clause-u8
returns-clause-u8 c = next_u8_exact

pub returns-clause-u16 : goal.returns-clause-u16
returns-clause-u16 c = next_u16_exact

pub returns-clause-u32 : goal.returns-clause-u32
returns-clause-u32 c = next_u32_exact

pub returns-clause-u64 : goal.returns-clause-u64
returns-clause-u64 c = next_u64_exact

pub returns-clause-name : goal.returns-clause-name
returns-clause-name c = next_name_exact

pub returns-clause-blob : goal.returns-clause-blob
returns-clause-blob c = next_blob_exact

pub returns-clause-id : goal.returns-clause-id
returns-clause-id c = next_id_exact

pub returns-clause-key : goal.returns-clause-key
returns-clause-key c = next_key_exact
