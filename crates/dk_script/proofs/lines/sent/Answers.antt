use Rattle.std.proofs.Common.{◌∷◌, ◌++◌}
use Rattle.dk_script.proofs.lines.sent.Goals as goal

pub returns-in_err-behind-clause-none : goal.returns-in_err-behind-clause-none
returns-in_err-behind-clause-none c =
    let none = rw c.as_slice.ensures at c.in_err-behind.ensures.none in
    rw c.from_residual.ensures (λ name text e named texted. none (name ++ 32 ∷ text) e)
