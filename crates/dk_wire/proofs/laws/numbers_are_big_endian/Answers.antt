use Rattle.std.proofs.Common.{refl}
use Rattle.dk_types.proofs.Numbers.{wide16, wide32, wide64}
use Rattle.dk_wire.proofs.laws.numbers_are_big_endian.Goals as goal

pub returns-clause-u16 : goal.returns-clause-u16
returns-clause-u16 c n small = (refl, wide16.again n small)

pub returns-clause-u32 : goal.returns-clause-u32
returns-clause-u32 c n small = (refl, wide32.again n small)

pub returns-clause-u64 : goal.returns-clause-u64
returns-clause-u64 c n small = (refl, wide64.again n small)
