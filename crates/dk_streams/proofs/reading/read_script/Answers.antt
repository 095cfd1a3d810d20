use Rattle.std.proofs.Common.{List, ℕ}
use Rattle.dk_streams.proofs.Fronts.{script_read, bad_read}
use Rattle.dk_streams.proofs.reading.read_script.Goals as goal

pub returns-in-Ok-clause-ok : goal.returns-in-Ok-clause-ok
returns-in-Ok-clause-ok g c =
    script_read (g.S.Source.remaining c.args.input.now) (g.S.Source.remaining c.read_all.new.input) c.in_ok-bytes.bytes.items c.in-Ok.script.phases c.in_ok-bytes.ensures.ok (rw c.as_slice.ensures.value at c.in-Ok.ensures.ok)

pub returns-in-Err-BadLine-clause-bad_line : goal.returns-in-Err-BadLine-clause-bad_line
returns-in-Err-BadLine-clause-bad_line g c =
    bad_read (g.S.Source.remaining c.args.input.now) (g.S.Source.remaining c.read_all.new.input) c.in_ok-bytes.bytes.items c.in-Err-BadLine.line c.in_ok-bytes.ensures.ok (rw (c.in-Err-BadLine.field-0-is, c.as_slice.ensures.value) at c.in-Err-BadLine.ensures.bad_line)
