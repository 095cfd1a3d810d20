use Rattle.std.proofs.Common.{inr, refl, sym, ap, ◌∙◌}
use Rattle.dk_overlay.specs.ReadsAndWrites.{ReadsAndWrites}
use Rattle.dk_txn.specs.declared.refusal.Refusal.TheVariants as refusal
use Rattle.dk_txn.proofs.Asking.{asks_weaker}
use Rattle.dk_txn.proofs.Together.{stands_later, starves}
use Rattle.dk_refs.proofs.Calls.{passed}
use Rattle.dk_refs.proofs.Tellings.{channel_short}
use Rattle.dk_channels.specs.AllMembers.{first_of, wrong_kind_of, long_record_of, TellsFound}
use Rattle.dk_channels.proofs.Drops.{no_members, some_members, leave_none, leave_stops, leave_does}
use Rattle.dk_channels.proofs.AllAsking.{save_each_kind, save_each_length, all_stand, all_short, asks_saved}
use Rattle.dk_channels.proofs.Findings.{kind_unfound_last, length_unfound_last}
use Rattle.dk_channels.proofs.leaving.leave_members.Goals as goal

pub returns-then-is_empty-clause-does : goal.returns-then-is_empty-clause-does
returns-then-is_empty-clause-does g c =
    leave_none c.args.name.now c.args.channel c.args.channel.1.members (no_members c.args.channel.1.members (sym (rw c.as_slice.ensures at c.is_empty.ensures) ∙ c.if-is_empty.true))

pub returns-in_err-others-clause-does : goal.returns-in_err-others-clause-does
returns-in_err-others-clause-does g c =
    leave_stops c.args.name.now c.args.channel c.args.channel.1.members (some_members c.args.channel.1.members (sym (rw c.as_slice.ensures at c.is_empty.ensures) ∙ c.if-is_empty.false))
    (rw c.as_slice-2.ensures at c.in_err-others.ensures.does) c.from_residual.ensures.1

pub returns-in_err-others-clause-asks : goal.returns-in_err-others-clause-asks
returns-in_err-others-clause-asks g c = asks_weaker (λ q h. inr h) (rw c.as_slice-2.ensures at c.records_without.ensures.asks)

pub returns-in_err-others-clause-kind : goal.returns-in_err-others-clause-kind
returns-in_err-others-clause-kind g c =
    passed (TellsFound refusal.WrongKind c.args.txn.now.set c.records_without.new.txn.set (first_of wrong_kind_of c.args.channel.1.members)) _ _ c.from_residual.ensures.1 (rw c.as_slice-2.ensures at c.in_err-others.ensures.kind)

pub returns-in_err-others-clause-length : goal.returns-in_err-others-clause-length
returns-in_err-others-clause-length g c =
    passed (TellsFound refusal.TooLong c.args.txn.now.set c.records_without.new.txn.set (first_of (long_record_of c.args.name.now) c.args.channel.1.members)) _ _ c.from_residual.ensures.1 (rw c.as_slice-2.ensures at c.in_err-others.ensures.length)

pub returns-in_err-payload-clause-does : goal.returns-in_err-payload-clause-does
returns-in_err-payload-clause-does g c = starves c.records_without.ensures.does.keeps refl c.from_residual-in_err-payload.ensures.1

pub returns-in_err-payload-clause-asks : goal.returns-in_err-payload-clause-asks
returns-in_err-payload-clause-asks g c = asks_weaker (λ q h. inr h) (rw c.as_slice-2.ensures at c.records_without.ensures.asks)

pub returns-in_err-records-clause-does : goal.returns-in_err-records-clause-does
returns-in_err-records-clause-does g c = starves c.records_without.ensures.does.keeps refl c.from_residual-in_err-records.ensures.1

pub returns-in_err-records-clause-asks : goal.returns-in_err-records-clause-asks
returns-in_err-records-clause-asks g c = asks_weaker (λ q h. inr h) (rw c.as_slice-2.ensures at c.records_without.ensures.asks)

pub save_all-requires-clause-platform : goal.save_all-requires-clause-platform
save_all-requires-clause-platform g c = ap (λ (t : ReadsAndWrites). t.mode) c.records_without.ensures.same_changes ∙ c.requires.platform

pub save_all-requires-clause-short : goal.save_all-requires-clause-short
save_all-requires-clause-short g c =
    all_short c.args.txn.now.set c.records_without.new.txn.set c.args.channel.1.members c.id.result c.in_ok-payload.payload c.in_ok-others.others c.in_ok-records.records.items c.in_ok-records.ensures (rw c.as_slice-2.ensures at c.in_ok-others.ensures.found)
    (rw c.in_ok-payload.ensures (channel_short c.args.channel.1.listener c.args.channel.1.delivery))

pub save_all-requires-clause-stand : goal.save_all-requires-clause-stand
save_all-requires-clause-stand g c =
    all_stand c.args.txn.now.set c.records_without.new.txn.set c.args.channel.1.members c.id.result c.in_ok-payload.payload c.in_ok-others.others c.in_ok-records.records.items c.in_ok-records.ensures (rw c.as_slice-2.ensures at c.in_ok-others.ensures.found)
    (rw c.id.ensures (stands_later c.args.channel.0 c.records_without.ensures.does.keeps c.records_without.ensures.same_changes c.requires.stands))

pub returns-clause-does : goal.returns-clause-does
returns-clause-does g c =
    leave_does c.args.name.now c.args.channel c.args.channel.1.members c.in_ok-others.others c.in_ok-records.records.items (some_members c.args.channel.1.members (sym (rw c.as_slice.ensures at c.is_empty.ensures) ∙ c.if-is_empty.false))
    (rw c.as_slice-2.ensures at c.in_ok-others.ensures.does) (rw (c.id.ensures, c.in_ok-payload.ensures) at c.in_ok-records.ensures) c.save_all.ensures.does

pub returns-clause-asks : goal.returns-clause-asks
returns-clause-asks g c =
    asks_saved c.args.channel.1.members c.args.channel.0 c.in_ok-payload.payload c.in_ok-others.others c.in_ok-records.records.items (rw c.id.ensures at c.in_ok-records.ensures) (rw c.as_slice-2.ensures at c.in_ok-others.ensures.found)
    c.save_all.ensures.does.keeps (rw c.as_slice-2.ensures at c.records_without.ensures.asks) c.save_all.ensures.asks

pub returns-clause-kind : goal.returns-clause-kind
returns-clause-kind g c = kind_unfound_last _ c.args.txn.now.set (first_of wrong_kind_of c.args.channel.1.members) (save_each_kind c.in_ok-records.records.items) c.save_all.ensures.does

pub returns-clause-length : goal.returns-clause-length
returns-clause-length g c =
    length_unfound_last _ c.args.txn.now.set (first_of (long_record_of c.args.name.now) c.args.channel.1.members)
    (save_each_length c.in_ok-records.records.items (all_short c.args.txn.now.set c.records_without.new.txn.set c.args.channel.1.members c.id.result c.in_ok-payload.payload c.in_ok-others.others c.in_ok-records.records.items c.in_ok-records.ensures
    (rw c.as_slice-2.ensures at c.in_ok-others.ensures.found) (rw c.in_ok-payload.ensures (channel_short c.args.channel.1.listener c.args.channel.1.delivery)))) c.save_all.ensures.does
