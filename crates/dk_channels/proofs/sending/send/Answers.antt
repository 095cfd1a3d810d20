use Rattle.std.proofs.Common.{◌≡◌, true, false, sym, ◌∙◌, rules}
use Rattle.dk_model.specs.Platforms as platform
use Rattle.dk_txn.proofs.Kit.{then_does, stops, give_does, if_true_does, if_false_does}
use Rattle.dk_refs.proofs.RecordAsks.{asks_no_more}
use Rattle.dk_channels.proofs.Sendings.{refuses_long}
use Rattle.dk_model.specs.Records.{channel_name}
use Rattle.dk_refs.specs.Telling.{kind_under}
use Rattle.dk_refs.proofs.Tellings.{length_passes, length_never, length_never_last, kind_never_last, long_tells}
use Rattle.dk_channels.proofs.Tellings.{under_avoids, each_avoids}
use Rattle.dk_channels.proofs.sending.send.Goals as goal

pub returns-in_err-record-clause-does : goal.returns-in_err-record-clause-does
unfolding platform.channel_send
returns-in_err-record-clause-does g c = stops _ c.in_err-record.ensures.does c.from_residual.ensures.1

pub returns-then-is_too_long-clause-does : goal.returns-then-is_too_long-clause-does
unfolding platform.channel_send
returns-then-is_too_long-clause-does g c = then_does _ c.in_ok-record.ensures.does (if_true_does _ (sym c.is_too_long.ensures ∙ c.if-is_too_long.true) (refuses_long c.too_long.ensures.told))

pub returns-then-not-is_sender-clause-does : goal.returns-then-not-is_sender-clause-does
unfolding platform.channel_send
returns-then-not-is_sender-clause-does g c =
    let off : c.is_sender.result ≡ false = search rules in
    then_does _ c.in_ok-record.ensures.does (if_false_does _ (sym c.is_too_long.ensures ∙ c.if-is_too_long.false) (if_false_does _ (sym (rw c.as_slice.ensures at c.is_sender.ensures) ∙ off) give_does))

pub returns-clause-does : goal.returns-clause-does
unfolding platform.channel_send
returns-clause-does g c =
    let on : c.is_sender.result ≡ true = search rules in
    then_does _ c.in_ok-record.ensures.does (if_false_does _ (sym c.is_too_long.ensures ∙ c.if-is_too_long.false) (if_true_does _ (sym (rw c.as_slice.ensures at c.is_sender.ensures) ∙ on) (rw c.as_slice-2.ensures at c.send_each.ensures.does)))

pub returns-in_err-record-clause-length : goal.returns-in_err-record-clause-length
returns-in_err-record-clause-length g c =
    length_passes c.in_err-record.ensures.does _ c.args.body.now (length_never c.in_err-record.ensures.does c.args.body.now (under_avoids c.args.channel.now.name)) c.from_residual.ensures.1

pub returns-then-is_too_long-clause-kind : goal.returns-then-is_too_long-clause-kind
returns-then-is_too_long-clause-kind g c = long_tells c.record_of.new.txn.set (kind_under (channel_name c.args.channel.now.name)) c.too_long.result c.too_long.ensures.told

pub returns-clause-kind : goal.returns-clause-kind
returns-clause-kind g c = kind_never_last (kind_under (channel_name c.args.channel.now.name)) (each_avoids _ _ 3 (λ e. cc)) c.send_each.ensures.does

pub returns-clause-length : goal.returns-clause-length
returns-clause-length g c = length_never_last c.args.body.now (each_avoids _ _ 4 (λ e. cc)) c.send_each.ensures.does

pub returns-clause-asks : goal.returns-clause-asks
returns-clause-asks g c = asks_no_more _ c.in_ok-record.ensures.asks c.send_each.ensures.does.keeps c.send_each.ensures.asks
