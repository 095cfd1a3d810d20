use Rattle.dk_refs.proofs.Lookups.{mine_stops, mine_other, mine_found, eq_true, eq_false}
use Rattle.dk_refs.proofs.own_records.own_record.Goals as goal

pub returns-in_err-found-clause-does : goal.returns-in_err-found-clause-does
returns-in_err-found-clause-does g c = mine_stops c.args.session.now c.in_err-found.ensures.does c.from_residual.ensures.1

pub returns-then-found-session-clause-does : goal.returns-then-found-session-clause-does
returns-then-found-session-clause-does g c = mine_other c.args.session.now c.in_ok-found.ensures.does (eq_false _ _ c.if-found-session.true)

pub returns-clause-does : goal.returns-clause-does
returns-clause-does g c = mine_found c.args.session.now c.in_ok-found.ensures.does (eq_true _ _ c.if-found-session.false)
