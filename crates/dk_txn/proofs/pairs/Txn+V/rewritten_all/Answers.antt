use Rattle.std.proofs.Common.{◌≡◌, [], ◌∷◌, ◌++◌, sym, subst}
use Rattle.std.specs.Vec.Iter.{into_iter_items}
use Rattle.std.specs.List.{AllByRecursion}
use Rattle.dk_txn.specs.Asks.{AsksOf}
use Rattle.dk_txn.specs.Does.{Stands}
use Rattle.dk_txn.specs.Rewritten.{IsObjectOf}
use Rattle.dk_txn.proofs.SavedAll.{LooksOn, looks_same, looks_keeps, looks_asks, looks_never, looks_on, looks_begin}
use Rattle.dk_txn.proofs.pairs.Txn+V.rewritten_all.Goals as goal

pub loop-id-preserved : goal.loop-id-preserved
loop-id-preserved g c =
    let left : into_iter_items c.loop-id.id-iterator ≡ (c.in-Some.id, c.in-Some.bytes) ∷ into_iter_items c.next.new.self = c.in-Some.ensures.steps.0 in
    let on = looks_on c.loop-id.invariant.1 c.in-Some.id c.in-Some.bytes (into_iter_items c.next.new.self) left c.changeable.ensures.keeps c.changeable.ensures.same_changes c.in_ok-known.known c.rewritten.result c.changeable.ensures.asks c.in_ok-known.ensures.ok c.rewritten.ensures in (
      c.loop-id.invariant.0 ++ (c.in-Some.id, c.in-Some.bytes) ∷ [],
      subst (λ list. LooksOn g.V.View.sights c.args.self.now c.changeable.new.self (c.loop-id.invariant.0 ++ (c.in-Some.id, c.in-Some.bytes) ∷ []) (into_iter_items c.next.new.self) (into_iter_items c.into_iter-id-iterator.result) list) (sym c.in_ok-put_last.ensures) on,
    )

pub returns-in_err-known-clause-keeps : goal.returns-in_err-known-clause-keeps
returns-in_err-known-clause-keeps g c =
    let left : into_iter_items c.loop-id.id-iterator ≡ (c.in-Some.id, c.in-Some.bytes) ∷ into_iter_items c.next.new.self = c.in-Some.ensures.steps.0 in
    looks_keeps c.loop-id.invariant.1 c.in-Some.id c.in-Some.bytes (into_iter_items c.next.new.self) left c.changeable.ensures.keeps c.changeable.ensures.same_changes

pub returns-in_err-known-clause-asks : goal.returns-in_err-known-clause-asks
returns-in_err-known-clause-asks g c =
    let left : into_iter_items c.loop-id.id-iterator ≡ (c.in-Some.id, c.in-Some.bytes) ∷ into_iter_items c.next.new.self = c.in-Some.ensures.steps.0 in
    let gives : into_iter_items c.into_iter-id-iterator.result ≡ c.args.payloads.items = c.into_iter-id-iterator.ensures.into_iter_gives.0 in
    subst (λ list. AsksOf (IsObjectOf list) g.V.View.sights c.args.self.now c.changeable.new.self) gives
    (looks_asks c.loop-id.invariant.1 c.in-Some.id c.in-Some.bytes (into_iter_items c.next.new.self) left c.changeable.ensures.keeps c.changeable.ensures.same_changes c.changeable.ensures.asks)

pub returns-in_err-known-clause-same_changes : goal.returns-in_err-known-clause-same_changes
returns-in_err-known-clause-same_changes g c =
    let left : into_iter_items c.loop-id.id-iterator ≡ (c.in-Some.id, c.in-Some.bytes) ∷ into_iter_items c.next.new.self = c.in-Some.ensures.steps.0 in
    looks_same c.loop-id.invariant.1 c.in-Some.id c.in-Some.bytes (into_iter_items c.next.new.self) left c.changeable.ensures.keeps c.changeable.ensures.same_changes

pub returns-in_err-known-clause-err : goal.returns-in_err-known-clause-err
returns-in_err-known-clause-err g c =
    let left : into_iter_items c.loop-id.id-iterator ≡ (c.in-Some.id, c.in-Some.bytes) ∷ into_iter_items c.next.new.self = c.in-Some.ensures.steps.0 in
    let gives : into_iter_items c.into_iter-id-iterator.result ≡ c.args.payloads.items = c.into_iter-id-iterator.ensures.into_iter_gives.0 in
    looks_never c.loop-id.invariant.1 c.in-Some.id c.in-Some.bytes (into_iter_items c.next.new.self) left c.changeable.ensures.keeps c.changeable.ensures.same_changes _ _
    (subst (λ list. AllByRecursion (λ p. Stands c.args.self.now.set p.0) list) (sym gives) c.requires.stand) c.requires.platform c.in_err-known.ensures.err c.from_residual.ensures.1

pub returns-in_err-put_last-clause-keeps : goal.returns-in_err-put_last-clause-keeps
returns-in_err-put_last-clause-keeps g c =
    let left : into_iter_items c.loop-id.id-iterator ≡ (c.in-Some.id, c.in-Some.bytes) ∷ into_iter_items c.next.new.self = c.in-Some.ensures.steps.0 in
    looks_keeps c.loop-id.invariant.1 c.in-Some.id c.in-Some.bytes (into_iter_items c.next.new.self) left c.changeable.ensures.keeps c.changeable.ensures.same_changes

pub returns-in_err-put_last-clause-asks : goal.returns-in_err-put_last-clause-asks
returns-in_err-put_last-clause-asks g c =
    let left : into_iter_items c.loop-id.id-iterator ≡ (c.in-Some.id, c.in-Some.bytes) ∷ into_iter_items c.next.new.self = c.in-Some.ensures.steps.0 in
    let gives : into_iter_items c.into_iter-id-iterator.result ≡ c.args.payloads.items = c.into_iter-id-iterator.ensures.into_iter_gives.0 in
    subst (λ list. AsksOf (IsObjectOf list) g.V.View.sights c.args.self.now c.changeable.new.self) gives
    (looks_asks c.loop-id.invariant.1 c.in-Some.id c.in-Some.bytes (into_iter_items c.next.new.self) left c.changeable.ensures.keeps c.changeable.ensures.same_changes c.changeable.ensures.asks)

pub returns-in_err-put_last-clause-same_changes : goal.returns-in_err-put_last-clause-same_changes
returns-in_err-put_last-clause-same_changes g c =
    let left : into_iter_items c.loop-id.id-iterator ≡ (c.in-Some.id, c.in-Some.bytes) ∷ into_iter_items c.next.new.self = c.in-Some.ensures.steps.0 in
    looks_same c.loop-id.invariant.1 c.in-Some.id c.in-Some.bytes (into_iter_items c.next.new.self) left c.changeable.ensures.keeps c.changeable.ensures.same_changes

pub loop-id-init : goal.loop-id-init
loop-id-init g c = ([], looks_begin (into_iter_items c.into_iter-id-iterator.result) c.new-changes.result.items c.new-changes.ensures.items)

pub returns-clause-asks : goal.returns-clause-asks
returns-clause-asks g c =
    let gives : into_iter_items c.into_iter-id-iterator.result ≡ c.args.payloads.items = c.into_iter-id-iterator.ensures.into_iter_gives.0 in
    subst (λ list. AsksOf (IsObjectOf list) g.V.View.sights c.args.self.now c.loop-id.self) gives c.loop-id.invariant.1.asks
