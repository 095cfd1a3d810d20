use Rattle.dk_types.specs.declared.mode.Mode.TheVariants.{Platform}
use Rattle.dk_model.specs.Platforms as platform
use Rattle.dk_txn.proofs.Kit.{within_does}
use Rattle.dk_refs.proofs.Tellings.{kind_moded, length_of_moded}
use Rattle.dk_channels.specs.BothRecords.{kind_of_records, records_after, left}
use Rattle.dk_refs.proofs.RecordAsks.{asks_within}
use Rattle.dk_channels.specs.BothAsks.{IsOfBoth}
use Rattle.dk_channels.proofs.leaving.leave.Goals as goal

pub returns-clause-does : goal.returns-clause-does
unfolding platform.leave
returns-clause-does g c =
    within_does Platform c.set_mode-before.ensures.same_view c.set_mode-before.ensures.view_stays c.set_mode-before.ensures.mode c.step_out-end.ensures.does
    c.set_mode.ensures.same_view c.set_mode.ensures.view_stays (rw c.set_mode-before.ensures.old at c.set_mode.ensures.mode)

pub returns-clause-kind : goal.returns-clause-kind
returns-clause-kind g c = kind_moded _ c.step_out-end.new.txn.set c.set_mode.new.self.set _ (kind_of_records c.args.channel.now.name c.args.session.now) c.set_mode.ensures.mode c.step_out-end.ensures.kind

pub returns-clause-length : goal.returns-clause-length
returns-clause-length g c =
    length_of_moded _ c.args.txn.now.set c.set_mode-before.new.self.set c.step_out-end.new.txn.set c.set_mode.new.self.set Platform _ (records_after left c.args.channel.now.name c.args.session.now)
    c.set_mode-before.ensures.mode c.set_mode.ensures.mode c.step_out-end.ensures.length

pub returns-clause-asks : goal.returns-clause-asks
returns-clause-asks g c =
    asks_within (λ t u. IsOfBoth t u c.args.channel.now.name c.args.session.now) Platform _ (λ q h. h) c.set_mode-before.ensures.view_stays c.set_mode-before.ensures.mode c.step_out-end.ensures.asks c.set_mode.ensures.view_stays c.set_mode.ensures.mode
