use Rattle.std.proofs.Common.{arith, sym, subst}
use Rattle.dk_types.specs.Names.{IsName}
use Rattle.dk_demos.specs.CountersLawful.{name_of_counter}
use Rattle.dk_demos.proofs.counters.counter_name.Goals as goal

pub unreachable-requires-in-Err-NotUtf8 : goal.unreachable-requires-in-Err-NotUtf8
unreachable-requires-in-Err-NotUtf8 c =
    let named = subst IsName (sym c.as_slice.ensures) (name_of_counter c.args.number c.requires) in
    let fault = rw c.in-Err-NotUtf8.field-0-is at c.in-Err-NotUtf8.ensures.refused in
    omega (arith, named.text, fault.2, fault.3)
