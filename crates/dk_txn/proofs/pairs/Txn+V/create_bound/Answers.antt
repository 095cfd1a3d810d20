use Rattle.std.proofs.Common.{sym, ap, ◌∙◌, arith}
use Rattle.dk_model.specs.Runs as act
use Rattle.dk_txn.proofs.Kit.{stop_does}
use Rattle.dk_txn.proofs.ObjectCalls.{create_long, create_many}
use Rattle.dk_txn.proofs.Together.{bound_new}
use Rattle.std.proofs.Common.{refl}
use Rattle.dk_txn.proofs.pairs.Txn+V.create_bound.Goals as goal

pub returns-then-is_too_long-clause-does : goal.returns-then-is_too_long-clause-does
returns-then-is_too_long-clause-does g c =
    stop_does _ (create_long c.args.kind c.args.bytes c.too_long.ensures.told (ap (λ m. act.is_reserved_kind m c.args.kind) c.requires) (sym c.is_too_long.ensures ∙ c.if-is_too_long.true)) refl

pub returns-then-objects_made-ge-OBJECTS_MOST_COUNT-clause-does : goal.returns-then-objects_made-ge-OBJECTS_MOST_COUNT-clause-does
returns-then-objects_made-ge-OBJECTS_MOST_COUNT-clause-does g c =
    stop_does _ (create_many c.args.kind c.args.bytes (ap (λ m. act.is_reserved_kind m c.args.kind) c.requires) (sym c.is_too_long.ensures ∙ c.if-is_too_long.false) (omega (arith, c.objects_made.ensures))) refl

pub returns-clause-does : goal.returns-clause-does
returns-clause-does g c =
    bound_new c.args.kind c.args.bytes c.requires (sym c.is_too_long.ensures ∙ c.if-is_too_long.false) (omega (arith, c.objects_made.ensures)) c.known_name.ensures.keeps c.known_name.ensures.same_changes c.in_ok-known.ensures.known
    c.in_ok-create_named.ensures.ok
