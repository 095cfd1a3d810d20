use Rattle.std.proofs.Common.{◌≤◌, length, take, arith}
use Rattle.std.proofs.lemmas.List.{length-take}
use Rattle.dk_types.specs.declared.limits.TheConstants.{SCRIPT_MOST_BYTES}
use Rattle.dk_streams.specs.declared.reading.TheConstants.{PIECE_BYTES}
use Rattle.dk_streams.proofs.Fronts.{near_read}
use Rattle.dk_streams.proofs.reading.read_all.Goals as goal

-- src/reading.rt:92:9
pub returns-in_err-extend_from_slice-clause-near :
    goal.returns-in_err-extend_from_slice-clause-near
returns-in_err-extend_from_slice-clause-near g c =
    let few : length c.pieces.bytes.items ≤ SCRIPT_MOST_BYTES = omega (arith, c.pieces.bytes.ok, c.pieces.invariant.few) in
    let short : length (take c.in_ok-count.count c.take.new.into) ≤ PIECE_BYTES = omega (arith, c.in_ok-count.ensures.bytes.within, length-take c.in_ok-count.count c.take.new.into, c.take.auto.into) in
    near_read (g.S.Source.remaining c.args.input.now) (g.S.Source.remaining c.pieces.input) (g.S.Source.remaining c.take.new.self) c.pieces.bytes.items (take c.in_ok-count.count c.take.new.into) c.pieces.invariant.read c.in_ok-count.ensures.bytes.front few short

-- src/reading.rt:94:13
pub returns-then-count-eq0-clause-near : goal.returns-then-count-eq0-clause-near
returns-then-count-eq0-clause-near g c =
    let few : length c.pieces.bytes.items ≤ SCRIPT_MOST_BYTES = omega (arith, c.pieces.bytes.ok, c.pieces.invariant.few) in
    let short : length (take c.in_ok-count.count c.take.new.into) ≤ PIECE_BYTES = omega (arith, c.in_ok-count.ensures.bytes.within, length-take c.in_ok-count.count c.take.new.into, c.take.auto.into) in
    near_read (g.S.Source.remaining c.args.input.now) (g.S.Source.remaining c.pieces.input) (g.S.Source.remaining c.take.new.self) c.pieces.bytes.items (take c.in_ok-count.count c.take.new.into) c.pieces.invariant.read c.in_ok-count.ensures.bytes.front few short
