use Rattle.std.proofs.Common.{inl, inr, ap, ◌∙◌}
use Rattle.dk_overlay.specs.ReadsAndWrites.{ReadsAndWrites}
use Rattle.dk_txn.proofs.Asking.{asks_then, asks_weaker, asks_changed}
use Rattle.dk_txn.proofs.Kit.{keeps_then, same_error}
use Rattle.dk_txn.proofs.Together.{stands_later, never_refused, never_comes, starves, both_saved}
use Rattle.dk_txn.proofs.pairs.Txn+V.save_both.Goals as goal

pub returns-in_err-known-clause-does : goal.returns-in_err-known-clause-does
returns-in_err-known-clause-does g c =
    let k = c.changeable.ensures.keeps in
    let later = stands_later c.args.first k c.changeable.ensures.same_changes c.requires.stand.0 in
    let mode = ap (λ (t : ReadsAndWrites). t.mode) c.changeable.ensures.same_changes ∙ c.requires.platform in
    same_error (never_comes k (never_refused _ c.args.first _ later mode c.in_err-known.ensures.err)) c.from_residual.ensures.1

pub returns-in_err-next-clause-does : goal.returns-in_err-next-clause-does
returns-in_err-next-clause-does g c =
    let k = c.changeable.ensures.keeps in
    let l = c.changeable-2.ensures.keeps in
    let later = stands_later c.args.second l c.changeable-2.ensures.same_changes (stands_later c.args.second k c.changeable.ensures.same_changes c.requires.stand.1) in
    let mode = ap (λ (t : ReadsAndWrites). t.mode) c.changeable-2.ensures.same_changes ∙ ap (λ (t : ReadsAndWrites). t.mode) c.changeable.ensures.same_changes ∙ c.requires.platform in
    same_error (never_comes (keeps_then k l) (never_refused _ c.args.second _ later mode c.in_err-next.ensures.err)) c.from_residual-in_err-next.ensures.1

pub returns-clause-does : goal.returns-clause-does
returns-clause-does g c =
    both_saved c.changeable.ensures.keeps c.changeable-2.ensures.keeps c.changeable.ensures.same_changes c.changeable-2.ensures.same_changes c.args.payload c.args.behind c.requires.short.0 c.requires.short.1
    c.in_ok-known.ensures.ok c.in_ok-next.ensures.ok (rw (← c.rewritten-change.ensures, ← c.rewritten.ensures) c.in_ok-change_two.ensures.ok)

pub returns-in_err-change_two-clause-does : goal.returns-in_err-change_two-clause-does
returns-in_err-change_two-clause-does g c = starves (keeps_then c.changeable.ensures.keeps c.changeable-2.ensures.keeps) c.in_err-change_two.ensures.err c.from_residual-in_err-change_two.ensures.1

pub returns-in_err-known-clause-asks : goal.returns-in_err-known-clause-asks
returns-in_err-known-clause-asks g c = asks_weaker (λ q is. inl is) c.changeable.ensures.asks

pub returns-in_err-next-clause-asks : goal.returns-in_err-next-clause-asks
returns-in_err-next-clause-asks g c = asks_then (asks_weaker (λ q is. inl is) c.changeable.ensures.asks) (asks_weaker (λ q is. inr is) c.changeable-2.ensures.asks)

pub returns-in_err-change_two-clause-asks : goal.returns-in_err-change_two-clause-asks
returns-in_err-change_two-clause-asks g c = asks_changed c.change_two.new.self (asks_then (asks_weaker (λ q is. inl is) c.changeable.ensures.asks) (asks_weaker (λ q is. inr is) c.changeable-2.ensures.asks)) (ap (λ (t : ReadsAndWrites). t.reads) c.in_err-change_two.ensures.err)

pub returns-clause-asks : goal.returns-clause-asks
returns-clause-asks g c = asks_changed c.change_two.new.self (asks_then (asks_weaker (λ q is. inl is) c.changeable.ensures.asks) (asks_weaker (λ q is. inr is) c.changeable-2.ensures.asks)) (ap (λ (t : ReadsAndWrites). t.reads) c.in_ok-change_two.ensures.ok)
