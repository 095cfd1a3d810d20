use Rattle.std.proofs.Common.{arith}
use Rattle.dk_wire.proofs.laws.bytes_are_read_high_first.Goals as goal

pub returns-clause-u16 : goal.returns-clause-u16
returns-clause-u16 c bytes = omega arith

pub returns-clause-u32 : goal.returns-clause-u32
returns-clause-u32 c bytes = omega arith

pub returns-clause-u64 : goal.returns-clause-u64
returns-clause-u64 c bytes = omega arith
