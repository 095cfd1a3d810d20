use Rattle.dk_types.specs.declared.mode.Mode.TheVariants.{Platform}
use Rattle.dk_model.specs.Platforms as platform
use Rattle.dk_txn.proofs.Kit.{within_does}
use Rattle.dk_model.specs.Records.{session_name}
use Rattle.dk_refs.specs.Telling.{kind_under}
use Rattle.dk_refs.proofs.Tellings.{kind_moded}
use Rattle.dk_refs.specs.RecordAsks.{IsOfRecord}
use Rattle.dk_refs.proofs.RecordAsks.{asks_within}
use Rattle.dk_sessions.proofs.opening.close_record.Goals as goal

pub returns-clause-does : goal.returns-clause-does
unfolding platform.close_record
returns-clause-does g c =
    within_does Platform c.set_mode-before.ensures.same_view c.set_mode-before.ensures.view_stays c.set_mode-before.ensures.mode c.take_record-end.ensures.does
    c.set_mode.ensures.same_view c.set_mode.ensures.view_stays (rw c.set_mode-before.ensures.old at c.set_mode.ensures.mode)

pub returns-clause-kind : goal.returns-clause-kind
returns-clause-kind g c = kind_moded _ c.take_record-end.new.txn.set c.set_mode.new.self.set _ (kind_under (session_name c.args.session.now.name)) c.set_mode.ensures.mode c.take_record-end.ensures.kind

pub returns-clause-asks : goal.returns-clause-asks
returns-clause-asks g c =
    asks_within (λ t u. IsOfRecord t u (session_name c.args.session.now.name)) Platform _ (λ q h. h) c.set_mode-before.ensures.view_stays c.set_mode-before.ensures.mode c.take_record-end.ensures.asks c.set_mode.ensures.view_stays c.set_mode.ensures.mode
