use Rattle.dk_types.proofs.FieldLaws.{u8_exact, u16_exact, u32_exact, u64_exact, name_exact, blob_exact, id_exact}
use Rattle.dk_wire.proofs.laws.fields_are_exact.Goals as goal

pub returns-clause-u8 : goal.returns-clause-u8
returns-clause-u8 c = u8_exact

pub returns-clause-u16 : goal.returns-clause-u16
returns-clause-u16 c = u16_exact

pub returns-clause-u32 : goal.returns-clause-u32
returns-clause-u32 c = u32_exact

pub returns-clause-u64 : goal.returns-clause-u64
returns-clause-u64 c = u64_exact

pub returns-clause-name : goal.returns-clause-name
returns-clause-name c = name_exact

pub returns-clause-blob : goal.returns-clause-blob
returns-clause-blob c = blob_exact

pub returns-clause-id : goal.returns-clause-id
returns-clause-id c = id_exact
