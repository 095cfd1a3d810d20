use Rattle.dk_refs.proofs.Lookups.{recorded_stops, recorded_tells}
use Rattle.dk_refs.proofs.recorded.is_recorded.Goals as goal

pub returns-in_err-id-clause-does : goal.returns-in_err-id-clause-does
returns-in_err-id-clause-does g c = recorded_stops c.args.name.now c.in_err-id.ensures.does c.from_residual.ensures.1

pub returns-clause-does : goal.returns-clause-does
returns-clause-does g c = recorded_tells c.args.name.now c.in_ok-id.ensures.does c.is_some.ensures
