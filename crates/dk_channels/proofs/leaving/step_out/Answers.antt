use Rattle.std.proofs.Common.{ap, ◌∙◌}
use Rattle.dk_model.specs.Records.{CHANNEL_KIND, channel_of, channel_name}
use Rattle.dk_overlay.specs.ReadsAndWrites.{ReadsAndWrites}
use Rattle.dk_txn.proofs.Kit.{then_does, stops}
use Rattle.dk_txn.proofs.Together.{stands_later}
use Rattle.dk_refs.proofs.Standing.{record_stands, own_record_stands}
use Rattle.dk_refs.proofs.Tellings.{length_of_never, kind_never_last}
use Rattle.dk_channels.specs.BothRecords.{kind_of_records, records_after, left}
use Rattle.dk_channels.proofs.Tellings.{under_avoids, own_avoids, leave_avoids, first_kind, second_kind, both_length}
use Rattle.dk_channels.proofs.Asking.{asks_first, asks_second, asks_both}
use Rattle.dk_channels.proofs.leaving.step_out.Goals as goal

pub leave_records-requires-clause-platform : goal.leave_records-requires-clause-platform
leave_records-requires-clause-platform g c = ap (λ (t : ReadsAndWrites). t.mode) c.own_record.ensures.same_changes ∙ ap (λ (t : ReadsAndWrites). t.mode) c.record_of.ensures.same_changes ∙ c.requires

pub leave_records-requires-clause-stand : goal.leave_records-requires-clause-stand
leave_records-requires-clause-stand g c = (
  stands_later _ c.own_record.ensures.does.keeps c.own_record.ensures.same_changes (record_stands CHANNEL_KIND channel_of (channel_name c.args.name.now) _ c.in_ok-channel.ensures.does),
  own_record_stands c.args.session.now _ c.in_ok-own.ensures.does,
)

pub returns-in_err-channel-clause-does : goal.returns-in_err-channel-clause-does
returns-in_err-channel-clause-does g c = stops _ c.in_err-channel.ensures.does c.from_residual.ensures.1

pub returns-in_err-own-clause-does : goal.returns-in_err-own-clause-does
returns-in_err-own-clause-does g c = then_does _ c.in_ok-channel.ensures.does (stops _ c.in_err-own.ensures.does c.from_residual-in_err-own.ensures.1)

pub returns-clause-does : goal.returns-clause-does
returns-clause-does g c = then_does _ c.in_ok-channel.ensures.does (then_does _ c.in_ok-own.ensures.does c.leave_records.ensures.does)

pub returns-in_err-channel-clause-kind : goal.returns-in_err-channel-clause-kind
returns-in_err-channel-clause-kind g c = first_kind c.args.name.now c.args.session.now _ c.in_err-channel.ensures.does c.in_err-channel.ensures.kind c.from_residual.ensures.1

pub returns-in_err-channel-clause-length : goal.returns-in_err-channel-clause-length
returns-in_err-channel-clause-length g c =
    length_of_never c.in_err-channel.ensures.does _ c.args.txn.now.set (records_after left c.args.name.now c.args.session.now) (under_avoids c.args.name.now) c.from_residual.ensures.1

pub returns-in_err-own-clause-kind : goal.returns-in_err-own-clause-kind
returns-in_err-own-clause-kind g c =
    second_kind c.args.name.now c.args.session.now c.in_ok-channel.ensures.does _ c.in_err-own.ensures.does c.in_err-own.ensures.same_changes c.in_err-own.ensures.kind c.from_residual-in_err-own.ensures.1

pub returns-in_err-own-clause-length : goal.returns-in_err-own-clause-length
returns-in_err-own-clause-length g c =
    length_of_never c.in_err-own.ensures.does _ c.args.txn.now.set (records_after left c.args.name.now c.args.session.now) (own_avoids c.args.session.now) c.from_residual-in_err-own.ensures.1

pub returns-clause-kind : goal.returns-clause-kind
returns-clause-kind g c = kind_never_last (kind_of_records c.args.name.now c.args.session.now) (leave_avoids c.args.name.now c.args.session.now _ _) c.leave_records.ensures.does

pub returns-clause-length : goal.returns-clause-length
returns-clause-length g c = both_length c.args.name.now c.args.session.now c.in_ok-channel.ensures.does _ left c.in_ok-own.ensures.does c.leave_records.ensures.does c.leave_records.ensures.length

pub returns-in_err-channel-clause-asks : goal.returns-in_err-channel-clause-asks
returns-in_err-channel-clause-asks g c = asks_first c.args.name.now c.args.session.now c.in_err-channel.ensures.asks

pub returns-in_err-own-clause-asks : goal.returns-in_err-own-clause-asks
returns-in_err-own-clause-asks g c =
    asks_second c.args.name.now c.args.session.now c.in_ok-channel.ensures.does c.record_of.ensures.same_changes c.record_of.ensures.asks c.in_err-own.ensures.does.keeps c.in_err-own.ensures.asks

pub returns-clause-asks : goal.returns-clause-asks
returns-clause-asks g c =
    asks_both c.args.name.now c.args.session.now c.in_ok-channel.ensures.does c.record_of.ensures.same_changes c.record_of.ensures.asks c.in_ok-own.ensures.does c.in_ok-own.ensures.asks
    c.leave_records.ensures.does.keeps c.leave_records.ensures.asks
