use Rattle.dk_wire.proofs.LengthLaws.{length-u8, length-u16, length-u32, length-u64, length-name, length-blob, length-id, length-key}
use Rattle.dk_wire.proofs.laws.lengths_of_spellings.Goals as goal

pub returns-clause-u8 : goal.returns-clause-u8
returns-clause-u8 c = length-u8

pub returns-clause-u16 : goal.returns-clause-u16
returns-clause-u16 c = length-u16

pub returns-clause-u32 : goal.returns-clause-u32
returns-clause-u32 c = length-u32

pub returns-clause-u64 : goal.returns-clause-u64
returns-clause-u64 c = length-u64

pub returns-clause-name : goal.returns-clause-name
returns-clause-name c = length-name

pub returns-clause-blob : goal.returns-clause-blob
returns-clause-blob c = length-blob

pub returns-clause-id : goal.returns-clause-id
returns-clause-id c = length-id

pub returns-clause-key : goal.returns-clause-key
returns-clause-key c = length-key
