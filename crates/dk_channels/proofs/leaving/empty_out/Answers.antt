use Rattle.std.proofs.Common.{inl, ap, ◌∙◌}
use Rattle.dk_model.specs.Records.{CHANNEL_KIND, channel_of, channel_name}
use Rattle.dk_overlay.specs.ReadsAndWrites.{ReadsAndWrites}
use Rattle.dk_txn.proofs.Asking.{asks_weaker}
use Rattle.dk_txn.proofs.Kit.{then_does, stops}
use Rattle.dk_refs.proofs.Standing.{record_stands}
use Rattle.dk_channels.specs.AllMembers.{length_of_all}
use Rattle.dk_channels.proofs.AllAsking.{asks_all}
use Rattle.dk_channels.proofs.Tellings.{under_avoids}
use Rattle.dk_channels.proofs.Findings.{length_unfound, channel_kind, all_kind, all_length}
use Rattle.dk_channels.proofs.leaving.empty_out.Goals as goal

pub leave_members-requires-clause-platform : goal.leave_members-requires-clause-platform
leave_members-requires-clause-platform g c = ap (λ (t : ReadsAndWrites). t.mode) c.record_of.ensures.same_changes ∙ c.requires

pub leave_members-requires-clause-stands : goal.leave_members-requires-clause-stands
leave_members-requires-clause-stands g c = record_stands CHANNEL_KIND channel_of (channel_name c.args.name.now) _ c.in_ok-channel.ensures.does

pub returns-in_err-channel-clause-does : goal.returns-in_err-channel-clause-does
returns-in_err-channel-clause-does g c = stops _ c.in_err-channel.ensures.does c.from_residual.ensures.1

pub returns-in_err-channel-clause-asks : goal.returns-in_err-channel-clause-asks
returns-in_err-channel-clause-asks g c = asks_weaker (λ q h. inl h) c.record_of.ensures.asks

pub returns-in_err-channel-clause-kind : goal.returns-in_err-channel-clause-kind
returns-in_err-channel-clause-kind g c = channel_kind _ c.args.name.now c.in_err-channel.ensures.does c.in_err-channel.ensures.kind c.from_residual.ensures.1

pub returns-in_err-channel-clause-length : goal.returns-in_err-channel-clause-length
returns-in_err-channel-clause-length g c = length_unfound _ c.args.txn.now.set (length_of_all c.args.name.now) (under_avoids c.args.name.now) c.in_err-channel.ensures.does c.from_residual.ensures.1

pub returns-clause-does : goal.returns-clause-does
returns-clause-does g c = then_does _ c.in_ok-channel.ensures.does c.leave_members.ensures.does

pub returns-clause-asks : goal.returns-clause-asks
returns-clause-asks g c = asks_all c.args.name.now c.in_ok-channel.channel c.in_ok-channel.ensures.does c.record_of.ensures.same_changes c.leave_members.ensures.does.keeps c.record_of.ensures.asks c.leave_members.ensures.asks

pub returns-clause-kind : goal.returns-clause-kind
returns-clause-kind g c = all_kind c.args.name.now _ c.in_ok-channel.ensures.does c.leave_members.ensures.does.keeps _ c.leave_members.ensures.kind

pub returns-clause-length : goal.returns-clause-length
returns-clause-length g c = all_length c.args.name.now _ c.in_ok-channel.ensures.does c.leave_members.ensures.does.keeps _ c.leave_members.ensures.length
