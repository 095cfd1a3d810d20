-- How the program ends, by how its parts did.
use Rattle.std.specs.Prelude.{Result, Ok, Err}
use Rattle.dk_types.specs.declared.fault.Failed.{Failed}
use Rattle.dk_host.specs.declared.fault.OpenFault.{OpenFault}
use Rattle.dk_host.specs.declared.fault.OpenFault.TheVariants as opening
use Rattle.dk_status.specs.declared.status.Status.{Status}
use Rattle.dk_status.specs.declared.status.Status.TheVariants as status
use Rattle.dk_streams.specs.declared.reading.Refused.{Refused}
use Rattle.dk_streams.specs.declared.reading.Refused.TheVariants as reading
use Rattle.dk_workers.specs.declared.play.fault.PlayFault.{PlayFault}
use Rattle.dk_workers.specs.declared.play.fault.PlayFault.TheVariants as playing

-- no script was read
abbrev pub status_of_reading : Refused → Status
status_of_reading reading.NoMemory = status.NoMemory
status_of_reading reading.ReadFault = status.ReadFault
status_of_reading (reading.BadScript line) = status.BadScript line

-- no store was opened
abbrev pub status_of_opening : OpenFault → Status
status_of_opening opening.NoMemory = status.NoMemory
status_of_opening opening.DiskFault = status.DiskFault
status_of_opening (opening.NotAStore side at) = status.NotAStore side at
status_of_opening (opening.WrongGame found) = status.WrongGame found
status_of_opening (opening.Damaged side at) = status.Damaged side at
status_of_opening (opening.ImageTooLarge length) = status.MigrateTooLarge length
status_of_opening (opening.EpochEnd epoch) = status.MigrateEpochEnd epoch

-- the script was not played to its end
abbrev pub status_of_playing : PlayFault → Status
status_of_playing playing.NoMemory = status.NoMemory
status_of_playing playing.DiskFault = status.DiskFault
status_of_playing (playing.Budget granted) = status.Budget granted
status_of_playing (playing.JournalFull length) = status.JournalFull length
status_of_playing (playing.Exhausted next) = status.Exhausted next

-- a transcript was put into the sink
abbrev pub status_of_put : {T : Type 0} → Result T Failed → Status
status_of_put (Ok done) = status.Ok
status_of_put (Err failed) = status.WriteFault
