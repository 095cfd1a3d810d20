use Rattle.std.proofs.Common.{◌+◌}
use Rattle.dk_script.proofs.FirstWords.{position-at_space, position-no_space}
use Rattle.dk_script.proofs.LinesOf.{take-rest}
use Rattle.dk_script.proofs.lines.cut_word.Goals as goal

pub returns-in_err-at-clause-none : goal.returns-in_err-at-clause-none
returns-in_err-at-clause-none c =
    rw c.from_residual.ensures (λ word rest. position-no_space c.args.bytes.now word rest c.in_err-at.ensures)

pub returns-clause-found : goal.returns-clause-found
returns-clause-found c =
    let bytes = c.args.bytes.now in
    rw (take-rest (c.in_ok-at.at + 1) bytes) (position-at_space bytes c.in_ok-at.at c.in_ok-at.ensures)
