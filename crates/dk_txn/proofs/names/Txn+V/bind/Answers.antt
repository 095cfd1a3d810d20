use Rattle.std.proofs.Common.{sym, ap, ◌∙◌}
use Rattle.dk_model.specs.Runs as act
use Rattle.dk_txn.proofs.NameCalls.{bind_does, bind_reserved}
use Rattle.dk_txn.proofs.names.Txn+V.bind.Goals as goal

pub returns-then-is_reserved_name-clause-does : goal.returns-then-is_reserved_name-clause-does
returns-then-is_reserved_name-clause-does g c = bind_reserved _ _ (sym (ap (λ m. act.is_reserved_name m c.args.name.now) c.mode.ensures) ∙ sym c.is_reserved_name.ensures ∙ c.if-is_reserved_name.true)

pub returns-clause-does : goal.returns-clause-does
returns-clause-does g c = bind_does c.args.id (sym (ap (λ m. act.is_reserved_name m c.args.name.now) c.mode.ensures) ∙ sym c.is_reserved_name.ensures ∙ c.if-is_reserved_name.false) c.known_name.ensures.keeps c.known_name.ensures.same_changes c.in_ok-known.ensures.known c.in_ok-change_name.ensures.ok
