use Rattle.std.proofs.Common.{◌≡◌, true, is_some, rules, sym, ap, ◌∙◌}
use Rattle.dk_model.specs.Runs as act
use Rattle.dk_txn.proofs.NameCalls.{unbind_does, unbind_reserved, unbind_refused}
use Rattle.dk_txn.proofs.names.Txn+V.unbind.Goals as goal

pub returns-then-is_reserved_name-clause-does : goal.returns-then-is_reserved_name-clause-does
returns-then-is_reserved_name-clause-does g c = unbind_reserved _ (sym (ap (λ m. act.is_reserved_name m c.args.name.now) c.mode.ensures) ∙ sym c.is_reserved_name.ensures ∙ c.if-is_reserved_name.true)

pub returns-then-is_none-clause-does : goal.returns-then-is_none-clause-does
returns-then-is_none-clause-does g c = unbind_refused (sym (ap (λ m. act.is_reserved_name m c.args.name.now) c.mode.ensures) ∙ sym c.is_reserved_name.ensures ∙ c.if-is_reserved_name.false) c.known_name.ensures.keeps c.known_name.ensures.same_changes c.in_ok-known.ensures.known c.if-is_none.ensures

pub returns-clause-does : goal.returns-clause-does
returns-clause-does g c =
    let there : is_some c.in_ok-known.known.after ≡ true = search rules in
    unbind_does (sym (ap (λ m. act.is_reserved_name m c.args.name.now) c.mode.ensures) ∙ sym c.is_reserved_name.ensures ∙ c.if-is_reserved_name.false) c.known_name.ensures.keeps c.known_name.ensures.same_changes c.in_ok-known.ensures.known there c.in_ok-change_name.ensures.ok
