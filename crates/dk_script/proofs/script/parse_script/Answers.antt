use Rattle.std.proofs.Common.{◌≡◌, ◌<◌, length, arith}
use Rattle.std.proofs.lemmas.Bool.Decides.{nat_tests}
use Rattle.dk_script.proofs.ReadLines.{IsReadTo-nothing, IsReadTo-more, IsScript-read, IsScript-stands, lines_most}
use Rattle.dk_script.proofs.script.parse_script.Goals as goal

pub lines-init : goal.lines-init
lines-init c = rw (c.new-reader.ensures.ended, c.new-reader.ensures.lines, c.new-reader.ensures.names) (IsReadTo-nothing c.args.bytes.now)

pub lines-preserved : goal.lines-preserved
lines-preserved c =
    let some : 0 < length c.lines.rest.now = grind (arith, nat_tests, c.lines-test.ensures) in
    let cut = c.cut_line.ensures.cut in
    let read = c.in-Ok.ensures.ok in
    IsReadTo-more c.lines.invariant c.cut_line.result.0.now c.cut_line.result.1.now some cut read.said _ _ _ read.says read.stands read.follows read.names (omega (arith, c.if-bytes-after-gt-SCRIPT_MOST_BYTES.false))

pub returns-clause-ok : goal.returns-clause-ok
returns-clause-ok c =
    let none : length c.lines.rest.now ≡ 0 = grind (arith, nat_tests, c.lines-test.ensures) in
    rw c.in_ok-script.ensures (IsScript-read c.lines.invariant none)

pub returns-clause-stand : goal.returns-clause-stand
returns-clause-stand c =
    let none : length c.lines.rest.now ≡ 0 = grind (arith, nat_tests, c.lines-test.ensures) in
    rw c.in_ok-script.ensures (IsScript-stands c.args.bytes.now _ (IsScript-read c.lines.invariant none))

pub returns-clause-few : goal.returns-clause-few
returns-clause-few c =
    let none : length c.lines.rest.now ≡ 0 = grind (arith, nat_tests, c.lines-test.ensures) in
    rw c.in_ok-script.ensures (lines_most c.lines.invariant none)
