use Rattle.std.proofs.Common.{◌≡◌, None, ap, sym, ◌∙◌}
use Rattle.dk_types.specs.Payload.{next_id}
use Rattle.dk_model.specs.Records.{value_of}
use Rattle.dk_txn.proofs.Kit.{give_does}
use Rattle.dk_bench.proofs.sheets.rewrite.Goals as goal

pub returns-in-None : goal.returns-in-None
returns-in-None g c =
    let none : value_of next_id c.args.arg.now ≡ None = ap (value_of next_id) (sym c.as_slice.ensures) ∙ sym c.in_ok-id.ensures ∙ c.in-None.is in
    rw none give_does
