use Rattle.std.proofs.Common.{◌≡◌, length, arith}
use Rattle.dk_frame.specs.Meanings.{stage_of}
use Rattle.dk_frame.proofs.frames.Frames.of_both.Goals as goal

pub returns : goal.returns
returns c =
    let all : c.in_ok-read.read.taken ≡ length c.args.first.now = omega (arith, c.in_ok-read.ensures.taken.within, c.if-read-first.false) in
    (c.in_ok-then.ensures.read (stage_of c.args.start) c.args.first.now c.in_ok-read.ensures.taken all, omega (arith, all, c.in_ok-then.ensures.more))
