use Rattle.std.proofs.Common.{◌≡◌, true, false, sym, ap, ◌∙◌}
use Rattle.dk_model.specs.Runs as act
use Rattle.dk_model.specs.Platforms as platform
use Rattle.dk_txn.proofs.Kit.{then_does, stops, give_does, if_true_does, if_false_does}
use Rattle.dk_channels.specs.AllMembers.{wrong_kind_of, long_record_of}
use Rattle.dk_channels.proofs.Looks.{look_avoids}
use Rattle.dk_channels.proofs.Sendings.{refuses_long}
use Rattle.dk_channels.proofs.Findings.{length_unfound, kind_never, member_kind, member_length, member_found}
use Rattle.dk_channels.proofs.leaving.record_without.Goals as goal

pub returns-in_err-record_if_connected-clause-does : goal.returns-in_err-record_if_connected-clause-does
returns-in_err-record_if_connected-clause-does g c = stops _ c.in_err-record_if_connected.ensures.does c.from_residual.ensures.1

pub returns-in-None-clause-does : goal.returns-in-None-clause-does
returns-in-None-clause-does g c = then_does (platform.without_it c.args.name.now) (rw c.in-None.is at c.in_ok-record_if_connected.ensures.does) give_does

pub returns-then-is_too_long-clause-does : goal.returns-then-is_too_long-clause-does
returns-then-is_too_long-clause-does g c =
    let long : act.is_too_long (platform.bytes_without c.args.name.now c.in-Some.own.1) ≡ true = ap act.is_too_long (sym c.in_ok-payload-in-Some.ensures) ∙ sym c.is_too_long.ensures ∙ c.if-is_too_long.true in
    then_does (platform.without_it c.args.name.now) (rw c.in-Some.is at c.in_ok-record_if_connected.ensures.does) (if_true_does _ long (refuses_long c.too_long.ensures.told))

pub returns-else-is_too_long-clause-does : goal.returns-else-is_too_long-clause-does
returns-else-is_too_long-clause-does g c =
    let short : act.is_too_long (platform.bytes_without c.args.name.now c.in-Some.own.1) ≡ false = ap act.is_too_long (sym c.in_ok-payload-in-Some.ensures) ∙ sym c.is_too_long.ensures ∙ c.if-is_too_long.false in
    then_does (platform.without_it c.args.name.now) (rw c.in-Some.is at c.in_ok-record_if_connected.ensures.does) (if_false_does _ short (rw (c.id.ensures, c.in_ok-payload-in-Some.ensures) give_does))

pub returns-else-is_too_long-clause-found : goal.returns-else-is_too_long-clause-found
returns-else-is_too_long-clause-found g c =
    rw c.id.ensures (member_found c.args.name.now c.args.session.now c.in-Some.own c.in_ok-payload-in-Some.payload (rw c.in-Some.is at c.in_ok-record_if_connected.ensures.does) (sym c.is_too_long.ensures ∙ c.if-is_too_long.false))

pub returns-in_err-record_if_connected-clause-kind : goal.returns-in_err-record_if_connected-clause-kind
returns-in_err-record_if_connected-clause-kind g c =
    member_kind _ c.args.session.now c.in_err-record_if_connected.ensures.does c.in_err-record_if_connected.ensures.same_changes c.in_err-record_if_connected.ensures.kind c.from_residual.ensures.1

pub returns-in_err-record_if_connected-clause-length : goal.returns-in_err-record_if_connected-clause-length
returns-in_err-record_if_connected-clause-length g c =
    length_unfound _ c.args.txn.now.set (long_record_of c.args.name.now c.args.session.now) (look_avoids c.args.session.now) c.in_err-record_if_connected.ensures.does c.from_residual.ensures.1

pub returns-then-is_too_long-clause-kind : goal.returns-then-is_too_long-clause-kind
returns-then-is_too_long-clause-kind g c = kind_never _ 4 (λ e. cc) c.args.txn.now.set c.record_if_connected.new.txn.set (wrong_kind_of c.args.session.now) c.too_long.ensures.told

pub returns-then-is_too_long-clause-length : goal.returns-then-is_too_long-clause-length
returns-then-is_too_long-clause-length g c =
    let long : act.is_too_long (platform.bytes_without c.args.name.now c.in-Some.own.1) ≡ true = ap act.is_too_long (sym c.in_ok-payload-in-Some.ensures) ∙ sym c.is_too_long.ensures ∙ c.if-is_too_long.true in
    member_length _ c.args.name.now c.args.session.now c.in-Some.own (rw c.in-Some.is at c.in_ok-record_if_connected.ensures.does) long (rw c.in_ok-payload-in-Some.ensures at c.too_long.ensures.length)
