use Rattle.std.proofs.Common.{◌≡◌, true, false, is_some, inl, inr, refl, ap, ◌∙◌, rules}
use Rattle.dk_model.specs.Runs as act
use Rattle.dk_overlay.specs.ReadsAndWrites.{ReadsAndWrites}
use Rattle.dk_txn.proofs.Asking.{asks_then, asks_weaker, asks_changed}
use Rattle.dk_txn.proofs.Kit.{stop_does, keeps_then, same_error}
use Rattle.dk_txn.proofs.NameCalls.{unbind_refused}
use Rattle.dk_txn.proofs.Together.{stands_later, never_refused, never_comes, starves, both_gone}
use Rattle.dk_txn.proofs.pairs.Txn+V.unbind_and_remove.Goals as goal

pub returns-then-is_none-clause-does : goal.returns-then-is_none-clause-does
returns-then-is_none-clause-does g c =
    let gone : is_some c.in_ok-known.known.after ≡ false = search rules in
    stop_does _ (unbind_refused (ap (λ m. act.is_reserved_name m c.args.name.now) c.requires.platform) c.known_name.ensures.keeps c.known_name.ensures.same_changes c.in_ok-known.ensures.known gone) refl

pub returns-in_err-object-clause-does : goal.returns-in_err-object-clause-does
returns-in_err-object-clause-does g c =
    let k = c.known_name.ensures.keeps in
    let l = c.changeable.ensures.keeps in
    let later = stands_later c.args.id l c.changeable.ensures.same_changes (stands_later c.args.id k c.known_name.ensures.same_changes c.requires.stands) in
    let mode = ap (λ (t : ReadsAndWrites). t.mode) c.changeable.ensures.same_changes ∙ ap (λ (t : ReadsAndWrites). t.mode) c.known_name.ensures.same_changes ∙ c.requires.platform in
    same_error (never_comes (keeps_then k l) (never_refused _ c.args.id _ later mode c.in_err-object.ensures.err)) c.from_residual-in_err-object.ensures.1

pub returns-clause-does : goal.returns-clause-does
returns-clause-does g c =
    let there : is_some c.in_ok-known.known.after ≡ true = search rules in
    both_gone c.known_name.ensures.keeps c.changeable.ensures.keeps c.known_name.ensures.same_changes c.changeable.ensures.same_changes c.requires.platform c.in_ok-known.ensures.known there c.in_ok-object.ensures.ok
    c.in_ok-change_named.ensures.ok

pub returns-in_err-change_named-clause-does : goal.returns-in_err-change_named-clause-does
returns-in_err-change_named-clause-does g c = starves (keeps_then c.known_name.ensures.keeps c.changeable.ensures.keeps) c.in_err-change_named.ensures.err c.from_residual-in_err-change_named.ensures.1

pub returns-in_err-known-clause-asks : goal.returns-in_err-known-clause-asks
returns-in_err-known-clause-asks g c = asks_weaker (λ q is. inl is) c.known_name.ensures.asks

pub returns-then-is_none-clause-asks : goal.returns-then-is_none-clause-asks
returns-then-is_none-clause-asks g c = asks_weaker (λ q is. inl is) c.known_name.ensures.asks

pub returns-in_err-object-clause-asks : goal.returns-in_err-object-clause-asks
returns-in_err-object-clause-asks g c = asks_then (asks_weaker (λ q is. inl is) c.known_name.ensures.asks) (asks_weaker (λ q is. inr is) c.changeable.ensures.asks)

pub returns-in_err-change_named-clause-asks : goal.returns-in_err-change_named-clause-asks
returns-in_err-change_named-clause-asks g c = asks_changed c.change_named.new.self (asks_then (asks_weaker (λ q is. inl is) c.known_name.ensures.asks) (asks_weaker (λ q is. inr is) c.changeable.ensures.asks)) (ap (λ (t : ReadsAndWrites). t.reads) c.in_err-change_named.ensures.err)

pub returns-clause-asks : goal.returns-clause-asks
returns-clause-asks g c = asks_changed c.change_named.new.self (asks_then (asks_weaker (λ q is. inl is) c.known_name.ensures.asks) (asks_weaker (λ q is. inr is) c.changeable.ensures.asks)) (ap (λ (t : ReadsAndWrites). t.reads) c.in_ok-change_named.ensures.ok)
