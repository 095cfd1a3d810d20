use Rattle.std.specs.Fmt.{decimal}
use Rattle.dk_script.proofs.lines.ticked.Goals as goal

pub returns-in_err-behind-clause-none : goal.returns-in_err-behind-clause-none
returns-in_err-behind-clause-none c =
    let none = rw c.as_slice.ensures at c.in_err-behind.ensures.none in
    rw c.from_residual.ensures (λ moment e most. none (decimal moment) e)
