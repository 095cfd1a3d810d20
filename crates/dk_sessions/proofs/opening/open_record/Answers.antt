use Rattle.std.proofs.Common.{◌≡◌}
use Rattle.dk_types.specs.declared.mode.Mode.TheVariants.{Platform}
use Rattle.dk_model.specs.Platforms as platform
use Rattle.dk_txn.proofs.Kit.{within_does}
use Rattle.dk_model.specs.Records.{session_name}
use Rattle.dk_refs.proofs.Tellings.{length_moded}
use Rattle.dk_types.specs.declared.item.Item.TheVariants as ask
use Rattle.dk_refs.proofs.RecordAsks.{asks_within}
use Rattle.dk_sessions.proofs.opening.open_record.Goals as goal

pub returns-clause-does : goal.returns-clause-does
unfolding platform.open_record
returns-clause-does g c =
    within_does Platform c.set_mode-before.ensures.same_view c.set_mode-before.ensures.view_stays c.set_mode-before.ensures.mode c.new_record-end.ensures.does
    c.set_mode.ensures.same_view c.set_mode.ensures.view_stays (rw c.set_mode-before.ensures.old at c.set_mode.ensures.mode)

pub returns-clause-length : goal.returns-clause-length
returns-clause-length g c = length_moded _ c.new_record-end.new.txn.set c.set_mode.new.self.set _ (session_name c.args.session.now.name) c.set_mode.ensures.mode c.new_record-end.ensures.length

pub returns-clause-asks : goal.returns-clause-asks
returns-clause-asks g c =
    asks_within (λ t u q. q ≡ ask.Bound (session_name c.args.session.now.name)) Platform _ (λ q h. h) c.set_mode-before.ensures.view_stays c.set_mode-before.ensures.mode c.new_record-end.ensures.asks c.set_mode.ensures.view_stays c.set_mode.ensures.mode
