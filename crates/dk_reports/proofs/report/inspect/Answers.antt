use Rattle.dk_reports.specs.Causes.{IsOfDevice}
use Rattle.dk_reports.proofs.Causes.{told}
use Rattle.dk_reports.proofs.report.inspect.Goals as goal

pub returns-in_err-found-clause-accepted : goal.returns-in_err-found-clause-accepted
returns-in_err-found-clause-accepted g c tells d has our =
    told IsOfDevice c.in_err-found.field-0.0 c.from_residual.result c.from_residual.ensures.0 c.from_residual.ensures.1 (c.in_err-found.ensures.accepted tells d has our)
