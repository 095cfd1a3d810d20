-- What a halt tells of a run.
use Rattle.std.specs.Prelude.{Option, Some, None}
use Rattle.dk_types.specs.declared.fault.AppFault.{AppFault}
use Rattle.dk_game.specs.declared.halt.Halt.{Halt}
use Rattle.dk_game.specs.declared.halt.Halt.TheVariants as halt

-- the fault of a run that stops so; want of memory is none
abbrev pub halt_fault : Halt → Option AppFault
halt_fault (halt.Fault fault) = Some fault
halt_fault halt.NoMemory = None
