use Rattle.std.proofs.Common.{◌+◌}
use Rattle.dk_script.proofs.LinesOf.{take-rest}
use Rattle.dk_script.proofs.Written.{phase_end-bounds}
use Rattle.dk_script.proofs.transcript.push_phases.Goals as goal

pub phase-requires-clause-ordered : goal.phase-requires-clause-ordered
phase-requires-clause-ordered c =
    let marks = c.args.marks.now in
    rw (take-rest (c.loop-i.i + 1) marks) (phase_end-bounds c.args.events.now marks c.loop-i.i c.requires.ordered c.requires.within c.loop-i-test.true).0

pub phase-requires-clause-within : goal.phase-requires-clause-within
phase-requires-clause-within c =
    let marks = c.args.marks.now in
    rw (take-rest (c.loop-i.i + 1) marks) (phase_end-bounds c.args.events.now marks c.loop-i.i c.requires.ordered c.requires.within c.loop-i-test.true).1
