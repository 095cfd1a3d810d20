use Rattle.std.proofs.Common.{length}
use Rattle.dk_script.specs.Reading.{names_of}
use Rattle.dk_script.proofs.ReadLines.{IsReadTo}
use Rattle.dk_script.proofs.script.parse_script.Given as goal

abbrev pub invariant-lines : goal.invariant-lines
invariant-lines l = IsReadTo l.bytes l.rest l.line l.reader.ended.items l.reader.lines.items (names_of l.reader)

-- each line leaves fewer bytes
abbrev pub decreases-lines : goal.decreases-lines
decreases-lines l = length l.rest
