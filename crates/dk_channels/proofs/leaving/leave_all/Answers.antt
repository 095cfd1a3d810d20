use Rattle.dk_types.specs.declared.mode.Mode.TheVariants.{Platform}
use Rattle.dk_model.specs.Platforms as platform
use Rattle.dk_txn.specs.declared.refusal.Refusal.TheVariants as refusal
use Rattle.dk_txn.proofs.Kit.{within_does}
use Rattle.dk_channels.specs.AllMembers.{kind_of_all, length_of_all}
use Rattle.dk_channels.proofs.AllAsking.{asks_moded}
use Rattle.dk_channels.proofs.Findings.{found_moded, never_long}
use Rattle.dk_channels.proofs.leaving.leave_all.Goals as goal

pub returns-clause-does : goal.returns-clause-does
unfolding platform.leave_all
returns-clause-does g c =
    within_does Platform c.set_mode-before.ensures.same_view c.set_mode-before.ensures.view_stays c.set_mode-before.ensures.mode c.empty_out-end.ensures.does
    c.set_mode.ensures.same_view c.set_mode.ensures.view_stays (rw c.set_mode-before.ensures.old at c.set_mode.ensures.mode)

pub returns-clause-asks : goal.returns-clause-asks
returns-clause-asks g c =
    asks_moded Platform _ c.args.channel.now.name c.set_mode-before.ensures.view_stays c.set_mode-before.ensures.mode c.empty_out-end.ensures.asks c.set_mode.ensures.view_stays c.set_mode.ensures.mode

pub returns-clause-kind : goal.returns-clause-kind
returns-clause-kind g c =
    found_moded _ c.args.txn.now.set c.set_mode-before.new.self.set c.empty_out-end.new.txn.set c.set_mode.new.self.set Platform _ refusal.WrongKind (kind_of_all c.args.channel.now.name)
    c.set_mode-before.ensures.mode c.set_mode.ensures.mode c.empty_out-end.ensures.kind

pub returns-clause-length : goal.returns-clause-length
returns-clause-length g c =
    found_moded _ c.args.txn.now.set c.set_mode-before.new.self.set c.empty_out-end.new.txn.set c.set_mode.new.self.set Platform _ refusal.TooLong (length_of_all c.args.channel.now.name)
    c.set_mode-before.ensures.mode c.set_mode.ensures.mode c.empty_out-end.ensures.length

pub returns-clause-never : goal.returns-clause-never
returns-clause-never g c =
    never_long _ c.args.txn.now.set c.set_mode.new.self.set c.args.channel.now.name
    (found_moded _ c.args.txn.now.set c.set_mode-before.new.self.set c.empty_out-end.new.txn.set c.set_mode.new.self.set Platform _ refusal.TooLong (length_of_all c.args.channel.now.name)
    c.set_mode-before.ensures.mode c.set_mode.ensures.mode c.empty_out-end.ensures.length)
