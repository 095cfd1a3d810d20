use Rattle.std.proofs.Common.{sym, ap, ◌∙◌, arith}
use Rattle.dk_model.specs.Runs as act
use Rattle.dk_txn.proofs.ObjectCalls.{create_reserved, create_long, create_many, create_does}
use Rattle.dk_txn.proofs.objects.Txn+V.create.Goals as goal

pub returns-then-is_reserved_kind-clause-does : goal.returns-then-is_reserved_kind-clause-does
returns-then-is_reserved_kind-clause-does g c = create_reserved _ _ (sym (ap (λ m. act.is_reserved_kind m c.args.kind) c.mode.ensures) ∙ sym c.is_reserved_kind.ensures ∙ c.if-is_reserved_kind.true)

pub returns-then-is_too_long-clause-does : goal.returns-then-is_too_long-clause-does
returns-then-is_too_long-clause-does g c =
    create_long _ _ c.too_long.ensures.told (sym (ap (λ m. act.is_reserved_kind m c.args.kind) c.mode.ensures) ∙ sym c.is_reserved_kind.ensures ∙ c.if-is_reserved_kind.false)
    (sym c.is_too_long.ensures ∙ c.if-is_too_long.true)

pub returns-then-objects_made-ge-OBJECTS_MOST_COUNT-clause-does : goal.returns-then-objects_made-ge-OBJECTS_MOST_COUNT-clause-does
returns-then-objects_made-ge-OBJECTS_MOST_COUNT-clause-does g c =
    create_many _ _ (sym (ap (λ m. act.is_reserved_kind m c.args.kind) c.mode.ensures) ∙ sym c.is_reserved_kind.ensures ∙ c.if-is_reserved_kind.false)
    (sym c.is_too_long.ensures ∙ c.if-is_too_long.false) (omega (arith, c.objects_made.ensures))

pub returns-clause-does : goal.returns-clause-does
returns-clause-does g c =
    create_does _ _ _ (sym (ap (λ m. act.is_reserved_kind m c.args.kind) c.mode.ensures) ∙ sym c.is_reserved_kind.ensures ∙ c.if-is_reserved_kind.false)
    (sym c.is_too_long.ensures ∙ c.if-is_too_long.false) (omega (arith, c.objects_made.ensures)) c.in_ok-create_object.ensures.ok.0 (rw c.in_ok-shared.ensures at c.in_ok-create_object.ensures.ok.1)
